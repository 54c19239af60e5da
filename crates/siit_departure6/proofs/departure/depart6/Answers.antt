use Rattle.siit_departure6.proofs.Alone.{alone}
use Rattle.siit_departure6.proofs.departure.depart6.Goals as goal

pub depart_alone-requires-clause-arrived : goal.depart_alone-requires-clause-arrived
depart_alone-requires-clause-arrived c =
    (alone c.args.settings.now c.args.buf.now.bytes c.args.arrived.now c.cut_end.new.self.bytes c.from.result c.requires.arrived c.from.ensures c.cut_end.ensures.bytes).has

pub returns-clause-sent : goal.returns-clause-sent
returns-clause-sent c =
    (alone c.args.settings.now c.args.buf.now.bytes c.args.arrived.now c.cut_end.new.self.bytes c.from.result c.requires.arrived c.from.ensures c.cut_end.ensures.bytes).sent _ _
    c.depart_alone.ensures.sent
