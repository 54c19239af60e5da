use Rattle.std.proofs.Common.{List, [], ◌∷◌, ◌++◌, ap, ◌∙◌}
use Rattle.siit_addr.specs.declared.addr.Addr4.{Addr4}
use Rattle.siit_top.specs.WellKnown.{own_address4}
use Rattle.siit_top.proofs.WellKnownSettings.{is_well_known}
use Rattle.siit_top.proofs.commands.wkp.well_known_device.Goals as goal

pub returns : goal.returns
returns c =
    is_well_known c.table.ensures c.in-Ok.ensures.accepted c.well_known.ensures.length c.well_known.ensures.address
    (c.new.ensures ∙ c.in-Ok-push.ensures.items ∙ ap (λ (addresses : List Addr4). addresses ++ own_address4 ∷ []) c.new-pool.ensures.items)
