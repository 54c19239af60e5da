use Rattle.std.proofs.Common.{◌≡◌, ◌++◌, drop, Ok}
use Rattle.siit_config.specs.Devices.{mapping_entries_of}
use Rattle.siit_config.specs.Faults.{◌>>=◌}
use Rattle.siit_config.proofs.table.mapping_entries_of.Given as goal

abbrev pub invariant-loop-place : goal.invariant-loop-place
invariant-loop-place l =
    (mapping_entries_of l.device l.place (drop l.place l.entries) >>= λ rest. Ok (l.good.items ++ rest)) ≡ mapping_entries_of l.device 0 l.entries
