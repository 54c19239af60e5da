use Rattle.std.proofs.Common.{◌≡◌}
use Rattle.toml.specs.View.{members_view}
use Rattle.siit_config.specs.Devices.{known_keys}
use Rattle.siit_config.specs.Keys.{first_unknown}
use Rattle.siit_config.proofs.unknown.first_unknown.Given as goal

abbrev pub invariant-members : goal.invariant-members
invariant-members l =
    (goal.iterator-members).can_next l.name-iterator ×
    (goal.iterator-members).is_finite l.name-iterator ×
    (first_unknown (known_keys l.role) (members_view l.name-iterator) ≡ first_unknown (known_keys l.role) (members_view l.table.entries))
