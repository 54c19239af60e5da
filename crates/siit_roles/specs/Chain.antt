-- The settings of a chain of devices.
use Rattle.std.specs.Prelude.{List}
use Rattle.siit_rules.specs.declared.rule.Family.{Family}
use Rattle.siit_roles.specs.declared.settings.Settings.{Settings}

-- the family of the left link, and the devices from left to right
pub record Chain : Type 0 where
  pub left : Family
  pub devices : List Settings
