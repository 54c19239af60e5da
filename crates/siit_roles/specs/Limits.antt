-- The limits that a configuration keeps: the IPv4 minimum (RFC 791 section 3.2), the IPv6 minimum (RFC 8200 section 5),
-- and a pool of 1 to 256 addresses, which is this project's own. Upper limits of numbers are those of 16 bits.
use Rattle.std.specs.Prelude.{◌≤◌, length}
use Rattle.siit_roles.specs.declared.settings.Settings.{Settings}

pub record IsWithinLimits (settings : Settings) : Type 0 where
  pub mtu4 : 68 ≤ settings.mtu4
  pub mtu6 : 1280 ≤ settings.mtu6
  pub lowest : 1280 ≤ settings.lowest
  pub order : settings.lowest ≤ settings.mtu6
  pub some_address : 1 ≤ length settings.pool4
  pub few_addresses : length settings.pool4 ≤ 256
