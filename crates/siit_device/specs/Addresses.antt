-- Addresses that no packet comes from or goes to, and the addresses that a device gives (RFC 7757, RFC 6052).
use Rattle.std.specs.Prelude.{ℕ, ◌*◌, ◌^◌, Bool, ◌||◌, ◌==◌, Option, Some, None, Result, Ok, Err}
use Rattle.siit_addr.specs.Addresses.{agree, dotted}
use Rattle.siit_map.specs.Mapping.{ipv6_for, ipv4_for}
use Rattle.siit_map.specs.Prefixed.{is_multicast}
use Rattle.siit_map.specs.declared.mapping.Means.{Means}
use Rattle.siit_map.specs.declared.mapping.MapRefusal.{MapRefusal}
use Rattle.siit_roles.specs.declared.settings.Settings.{Settings}

-- 0.0.0.0, 255.255.255.255, loopback (127.0.0.0/8) and multicast
abbrev pub is_no_host4 : ℕ → Bool
is_no_host4 a = (a == 0) || (a == dotted 255 255 255 255) || agree 32 8 a (dotted 127 0 0 0) || is_multicast a

-- ::, ::1, multicast (ff00::/8) and link-local (fe80::/10)
abbrev pub is_no_host6 : ℕ → Bool
is_no_host6 a = (a == 0) || (a == 1) || agree 128 8 a (0xff * 2 ^ 120) || agree 128 10 a (0xfe80 * 2 ^ 112)

abbrev pub means_of : Result (ℕ × Means) MapRefusal → Option Means
means_of (Ok found) = Some found.1
means_of (Err refusal) = None

-- the address found, and 0 where there is none: no packet gets as far then
abbrev pub address_of : Result (ℕ × Means) MapRefusal → ℕ
address_of (Ok found) = found.0
address_of (Err refusal) = 0

abbrev pub to6 : Settings → ℕ → ℕ
to6 settings a = address_of (ipv6_for settings.mapping a)

abbrev pub to4 : Settings → ℕ → ℕ
to4 settings x = address_of (ipv4_for settings.mapping x)
