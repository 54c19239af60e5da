-- What the rules on IPv6 arrival leave.
use Rattle.std.specs.Prelude.{◌≡◌, ◌⊎◌, ℕ, ◌^◌, ◌<◌, ◌≤◌, List, true, Some, None, Ok, IsOk}
use Rattle.siit_model.specs.Bytes.{AreBytes}
use Rattle.siit_model.specs.Checksum.{checksum_place}
use Rattle.siit_model.specs.Extensions.{Walked}
use Rattle.siit_model.specs.Fragments.{Fragment, fragment_by, is_whole}
use Rattle.siit_model.specs.Ipv6.{ipv6_of, ipv6_fields}
use Rattle.siit_fragments.specs.Laws.{HasChecksum}
use Rattle.siit_map.specs.Mapping.{ipv4_for}
use Rattle.siit_roles.specs.declared.settings.Settings.{Settings}
use Rattle.siit_v6to4.specs.To4.{walk_in}
use Rattle.siit_device.specs.Arrival6.{is_error6}
use Rattle.siit_device.specs.Rules6.{first_rule6}

-- Fields in range, both checksum bytes in a whole packet or first fragment, no fragment of ICMPv6, and no protocol that
-- is ICMP in IPv4.
pub record IsUnruled6 (f : Fragment) : Type 0 where
  pub source : f.common.source < 2 ^ 128
  pub destination : f.common.destination < 2 ^ 128
  pub id : f.id < 2 ^ 32
  pub offset : f.offset < 8192
  pub long : f.offset ≡ 0 → HasChecksum (checksum_place f.common.protocol) f.bytes
  pub icmp : f.common.protocol ≡ 58 → is_whole f ≡ true
  pub clash1 : f.common.protocol ≡ 1 → ⊥

-- The packet is read, the walk over its extension headers is accepted, it lives on behind this device, its destination
-- is mapped, and its source too unless it is an ICMPv6 error.
pub record IsLeft6 (settings : Settings) (bytes : List ℕ) : Type 0 where
  pub is_read : ipv6_of bytes ≡ Some (ipv6_fields bytes)
  pub walked : Walked
  pub walk : walk_in bytes ≡ Ok walked
  pub alive : 2 ≤ (ipv6_fields bytes).hop
  pub source_ok : IsOk (ipv4_for settings.mapping (ipv6_fields bytes).source) ⊎ (is_error6 (fragment_by (ipv6_fields bytes) walked) ≡ true)
  pub destination_ok : IsOk (ipv4_for settings.mapping (ipv6_fields bytes).destination)
  pub unruled : IsUnruled6 (fragment_by (ipv6_fields bytes) walked)

abbrev pub RulesLeave6 : Type 0
RulesLeave6 = (settings : Settings) (bytes : List ℕ) → AreBytes bytes → first_rule6 settings bytes ≡ None → IsLeft6 settings bytes
