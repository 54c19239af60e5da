use Rattle.siit_arrival6.specs.Parts.{found_in}
use Rattle.siit_arrival6.proofs.Joined.{in_roles}
use Rattle.siit_arrival6.proofs.addresses.new_addresses.Goals as goal

pub returns-in-Some-clause-refused : goal.returns-in-Some-clause-refused
returns-in-Some-clause-refused g c =
    in_roles c.args.settings.now (found_in c.args.header.now c.args.walk) c.src.result.0 c.dst.result.0 c.to4-src.result c.to4-dst.result
    c.means_in.result c.means_in-2.result c.in-Some.rule c.src.ensures c.dst.ensures c.to4-src.ensures.mapped c.to4-src.ensures.refused
    c.to4-dst.ensures.mapped c.to4-dst.ensures.refused c.means_in.ensures c.means_in-2.ensures c.in-Some.ensures
