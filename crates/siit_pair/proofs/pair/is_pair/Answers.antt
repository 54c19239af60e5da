use Rattle.std.proofs.Common.{◌≡◌, List, [], ◌∷◌, get_or, ◌∙◌, sym, subst}
use Rattle.siit_roles.specs.declared.settings.Settings.{Settings}
use Rattle.siit_pair.specs.Pairs.{HaveOneTable, IsPair}
use Rattle.siit_pair.proofs.Tables.{two}
use Rattle.siit_pair.proofs.pair.is_pair.Goals as goal

pub returns-in-Four-Border-Edge : goal.returns-in-Four-Border-Edge
returns-in-Four-Border-Edge c =
    let border : Settings = c.border-item.result in
    let edge : Settings = c.edge-item.result in
    let devices : c.args.settings.now.devices ≡ border ∷ edge ∷ [] =
    sym c.devices.ensures ∙ two c.devices.result.now border edge c.in-len2.len_at_least c.in-len2.len_below c.border-item.is c.edge-item.is in (
      λ is. record {
        border = border;
        edge = edge;
        left = sym c.left.ensures ∙ c.in-Four-Border-Edge.is-0;
        devices = devices;
        border_role = c.in-Four-Border-Edge.is-1;
        edge_role = c.in-Four-Border-Edge.is-2;
        table = c.have_one_table.ensures.0 is;
      },
      λ (pair : IsPair c.args.settings.now).
          let same : pair.border ∷ pair.edge ∷ [] ≡ border ∷ edge ∷ [] = sym pair.devices ∙ devices in
          c.have_one_table.ensures.1
          (subst (λ (l : List Settings). HaveOneTable (get_or l 0 border) (get_or l 1 edge)) same pair.table),
    )
