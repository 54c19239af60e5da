use Rattle.std.proofs.Common.{refl}
use Rattle.siit_chain.specs.Carried.{carried, carry, event}
use Rattle.siit_run.specs.Runs.{after}
use Rattle.siit_device.specs.Backward.{error_to_4}
use Rattle.siit_device.specs.Forward.{error_to_6}
use Rattle.siit_device.specs.Laws.{measure}
use Rattle.siit_device.specs.Outcome.{outcome4, outcome6}
use Rattle.siit_device.specs.Rules4.{address_rows4, bytes_rows4, first_rule4, header_rows4, packet_rule4, quote_rows4, size_rows4, upper_rows4}
use Rattle.siit_device.specs.Rules6.{address_rows6, arrived_rule6, bytes_rows6, first_rule6, header_rows6, quote_rows6, size_rows6, upper_rows6, walk_rows6}
use Rattle.siit_engine.specs.Placed.{life_of, outcome_at}
use Rattle.siit_crossing.proofs.examples.pair_examples.Goals as goal

pub returns : goal.returns
unfolding carried carry event after error_to_4 error_to_6 measure outcome4 outcome6 address_rows4 bytes_rows4 first_rule4 header_rows4 packet_rule4 quote_rows4 size_rows4 upper_rows4 address_rows6 arrived_rule6 bytes_rows6 first_rule6 header_rows6 quote_rows6 size_rows6 upper_rows6 walk_rows6 life_of outcome_at
returns c = record { crosses = refl; named = refl; back = refl }
