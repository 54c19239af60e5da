use Rattle.siit_model.specs.Ipv4.{ipv4_fields}
use Rattle.siit_arrival4.proofs.Joined.{in_roles}
use Rattle.siit_arrival4.proofs.addresses.new_addresses.Goals as goal

pub returns-in-Some-clause-refused : goal.returns-in-Some-clause-refused
returns-in-Some-clause-refused g c =
    in_roles c.args.settings.now (ipv4_fields c.args.header.now) c.src.result.0 c.dst.result.0 c.to6-src.result c.to6-dst.result c.means_in.result
    c.means_in-2.result c.in-Some.rule c.src.ensures c.dst.ensures c.to6-src.ensures.mapped c.to6-src.ensures.refused c.to6-dst.ensures.mapped
    c.to6-dst.ensures.refused c.means_in.ensures c.means_in-2.ensures c.in-Some.ensures
