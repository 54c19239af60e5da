use Rattle.siit_engine.proofs.Sent.{not-silent, sent_back, sent_to_4, version-is}
use Rattle.siit_engine.proofs.arrivals.send6.Goals as goal

pub returns-in-On-clause-outcome : goal.returns-in-On-clause-outcome
returns-in-On-clause-outcome c =
    rw c.sent.ensures
    (sent_to_4 _ _ _ _ _ c.requires.accepted c.requires.arrived _ _ _ _ _ c.in-On.is c.depart4-on.ensures.sent c.depart4-on.ensures.used)

pub returns-in-On-clause-sent : goal.returns-in-On-clause-sent
returns-in-On-clause-sent c = rw c.sent.ensures (not-silent _ _)

pub returns-in-Back-clause-outcome : goal.returns-in-Back-clause-outcome
returns-in-Back-clause-outcome c = sent_back _ _ _ _ _ c.requires.accepted c.requires.arrived _ _ c.in-Back.is c.turn_back.ensures.bytes

pub turn_back-requires-clause-version : goal.turn_back-requires-clause-version
turn_back-requires-clause-version c = version-is _ _ c.requires.accepted
