use Rattle.std.proofs.Common.{◌≡◌, ◌+◌, ◌++◌, drop, map, Ok, All, vec_len}
use Rattle.toml.specs.View.{table_view}
use Rattle.siit_config.specs.Config.{devices_of}
use Rattle.siit_roles.specs.Limits.{IsWithinLimits}
use Rattle.siit_config.specs.Faults.{◌>>=◌}
use Rattle.siit_config.proofs.device.devices_of.Given as goal

abbrev pub invariant-loop-place : goal.invariant-loop-place
invariant-loop-place l = record {
  told : (devices_of l.symmetric (l.place + 1) (map (λ t. table_view t.now) (drop l.place l.tables)) >>= λ rest. Ok (l.devices.items ++ rest))
      ≡ devices_of l.symmetric 1 (map (λ t. table_view t.now) l.tables);
  count : vec_len l.devices ≡ l.place;
  limits : All IsWithinLimits l.devices.items;
}
