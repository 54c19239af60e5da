use Rattle.std.proofs.Common.{◌≡◌, ◌+◌, ◌∷◌, drop, map, sym, ap, ◌∙◌, arith}
use Rattle.std.proofs.lemmas.List.{drop_more}
use Rattle.std.proofs.lemmas.List.Elements.{All-push}
use Rattle.toml.specs.View.{table_view}
use Rattle.siit_config.specs.Config.{devices_of}
use Rattle.siit_roles.specs.Limits.{IsWithinLimits}
use Rattle.siit_config.specs.Devices.{device_of}
use Rattle.siit_config.proofs.Steps.{one_more}
use Rattle.siit_config.proofs.device.devices_of.Goals as goal

pub loop-place-preserved : goal.loop-place-preserved
loop-place-preserved c =
    let tables = c.args.tables.now in
    let place = c.loop-place.place in
    let table = c.index-tables-place.result in
    let settings = c.in_ok-device_of.field-0 in
    let symmetric = c.args.symmetric in
    let done = c.loop-place.devices.items in
    let cons : drop place tables ≡ table ∷ drop (place + 1) tables =
    drop_more tables place table (omega arith) ∙ ap (λ t. t ∷ drop (place + 1) tables) (sym c.index-tables-place.is) in
    let before = rw cons at c.loop-place.invariant.told in
    let after = one_more done settings (device_of (place + 1) (table_view table.now) symmetric)
    (devices_of symmetric (place + 1 + 1) (map (λ t. table_view t.now) (drop (place + 1) tables))) _ c.in_ok-device_of.ensures.told before in
    record {
      told = rw c.in_ok-push.ensures.items after;
      count = omega (arith, c.in_ok-push.ensures.len, c.loop-place.invariant.count);
      limits = rw c.in_ok-push.ensures.items (All-push IsWithinLimits done settings c.loop-place.invariant.limits c.in_ok-device_of.ensures.limits);
    }
