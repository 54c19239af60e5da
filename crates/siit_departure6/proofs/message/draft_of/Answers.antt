use Rattle.siit_device.specs.Arrival4.{quoted_part4}
use Rattle.siit_quoted.proofs.Quotes46.{accepted-quote}
use Rattle.siit_departure6.proofs.message.draft_of.Goals as goal

pub rest_for-requires-clause-quote : goal.rest_for-requires-clause-quote
rest_for-requires-clause-quote c = accepted-quote (quoted_part4 c.args.message.now) c.requires.error.accepted
