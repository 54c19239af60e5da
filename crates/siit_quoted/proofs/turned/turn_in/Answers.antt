use Rattle.siit_upper.specs.Walks.{walked}
use Rattle.siit_quoted.proofs.TurnedQuotes.{turned-is}
use Rattle.siit_quoted.proofs.turned.turn_in.Goals as goal

pub returns : goal.returns
returns c =
    turned-is c.args.new.src.0 c.args.new.dst.0 (walked c.args.walk) c.args.quote.now c.upper_in.new.quote c.write_addresses.new.bytes c.are_bytes.ensures c.requires
    c.upper_in.ensures c.write_addresses.ensures
