use Rattle.siit_pair.proofs.PayloadLengths.{payload-short}
use Rattle.siit_pair.proofs.datagram.has_same_payload.Goals as goal

pub is_same_udp-requires : goal.is_same_udp-requires
is_same_udp-requires c = payload-short c.args.after.now c.payload-new.result.now c.payload-new.ensures c.requires.after_most

pub is_same_icmp-requires-clause-most : goal.is_same_icmp-requires-clause-most
is_same_icmp-requires-clause-most c = payload-short c.args.before.now c.payload-old.result.now c.payload-old.ensures c.requires.before_most
