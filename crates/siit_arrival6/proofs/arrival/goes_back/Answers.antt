use Rattle.std.proofs.Common.{None, ap}
use Rattle.siit_device.specs.Arrival6.{is_pair}
use Rattle.siit_device.specs.Rows.{first_of}
use Rattle.siit_device.specs.Rules6.{quote_rows6, size_rows6}
use Rattle.siit_arrival6.specs.Parts.{found_in}
use Rattle.siit_arrival6.proofs.Joined.{behind_quote, turned_fits}
use Rattle.siit_arrival6.proofs.arrival.goes_back.Goals as goal

pub returns-clause-accepted : goal.returns-clause-accepted
returns-clause-accepted g c =
    let settings = c.args.settings.now in
    let found = found_in c.args.header.now c.args.walk in
    behind_quote (first_of (quote_rows6 settings) found) (first_of (size_rows6 settings) found) None c.in-Ok.ensures.accepted
    (turned_fits settings found (ap is_pair c.requires.turn))
