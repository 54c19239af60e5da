-- What the rules on IPv4 arrival leave.
use Rattle.std.specs.Prelude.{◌≡◌, ℕ, ◌^◌, ◌<◌, ◌≤◌, List, true, Some, None, IsOk}
use Rattle.siit_model.specs.Bytes.{AreBytes, field16}
use Rattle.siit_model.specs.Checksum.{checksum_place}
use Rattle.siit_model.specs.Fragments.{Fragment, fragment4, is_whole}
use Rattle.siit_model.specs.Ipv4.{ipv4_of, ipv4_fields}
use Rattle.siit_fragments.specs.Laws.{HasChecksum}
use Rattle.siit_map.specs.Mapping.{ipv6_for}
use Rattle.siit_roles.specs.declared.settings.Settings.{Settings}
use Rattle.siit_device.specs.Rules4.{first_rule4}

-- Fields in range, both checksum bytes in a whole packet or first fragment, no fragment of ICMP, no first fragment of
-- UDP without a checksum, no protocol that is something else in IPv6.
pub record IsUnruled (f : Fragment) : Type 0 where
  pub source : f.common.source < 2 ^ 32
  pub destination : f.common.destination < 2 ^ 32
  pub id : f.id < 65536
  pub long : f.offset ≡ 0 → HasChecksum (checksum_place f.common.protocol) f.bytes
  pub icmp : f.common.protocol ≡ 1 → is_whole f ≡ true
  pub udp : f.common.protocol ≡ 17 → f.offset ≡ 0 → f.more ≡ true → 0 < field16 f.bytes 6
  pub clash0 : f.common.protocol ≡ 0 → ⊥
  pub clash43 : f.common.protocol ≡ 43 → ⊥
  pub clash44 : f.common.protocol ≡ 44 → ⊥
  pub clash58 : f.common.protocol ≡ 58 → ⊥
  pub clash60 : f.common.protocol ≡ 60 → ⊥

-- The packet is read, it lives on behind this device, and both of its addresses are mapped.
pub record IsLeft4 (settings : Settings) (bytes : List ℕ) : Type 0 where
  pub is_read : ipv4_of bytes ≡ Some (ipv4_fields bytes)
  pub alive : 2 ≤ (ipv4_fields bytes).ttl
  pub source_ok : IsOk (ipv6_for settings.mapping (ipv4_fields bytes).source)
  pub destination_ok : IsOk (ipv6_for settings.mapping (ipv4_fields bytes).destination)
  pub unruled : IsUnruled (fragment4 (ipv4_fields bytes))

abbrev pub RulesLeave4 : Type 0
RulesLeave4 = (settings : Settings) (bytes : List ℕ) → AreBytes bytes → first_rule4 settings bytes ≡ None → IsLeft4 settings bytes
