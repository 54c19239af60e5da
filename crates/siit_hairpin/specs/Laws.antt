-- What turned packets keep, and which packets are never turned.
use Rattle.std.specs.Prelude.{◌≡◌, ℕ, ◌^◌, ◌<◌, List, Some, None, Ok}
use Rattle.siit_addr.specs.declared.addr.Prefix6.{Prefix6}
use Rattle.siit_eamt.specs.declared.entry.Eam.{Eam as Entry}
use Rattle.siit_eamt.specs.Faults.{table_fault}
use Rattle.siit_map.specs.declared.mapping.Means.{Means}
use Rattle.siit_map.specs.declared.mapping.Means.TheVariants.{Eam}
use Rattle.siit_map.specs.Prefixed.{prefix_form}
use Rattle.siit_map.specs.Mapping.{Mapping, table, entries_of, ipv4_for, ipv6_for}
use Rattle.siit_map.specs.Reversible.{IsDisjointTable, IsReversible}
use Rattle.siit_hairpin.specs.declared.hairpin.TurnAnswer.TheVariants.{Not}
use Rattle.siit_hairpin.specs.Turn.{pair_of, turn_of}

-- A host with an entry sent a packet to first, the form under the prefix of an IPv4 address, and it went back from one
-- address to another.
pub record WasTurned (mapping : Mapping) (prefix : Prefix6) (host first from to : ℕ) : Type 0 where
  pub host4 : ℕ
  pub first4 : ℕ
  pub place : ℕ
  pub by : Means
  pub in_range : host4 < 2 ^ 32
  pub back : ipv4_for mapping host ≡ Ok (host4, Eam place)
  pub forth : ipv6_for mapping host4 ≡ Ok (host, by)
  pub form : prefix_form prefix first4 ≡ Some first
  pub pair : turn_of mapping host4 first ≡ pair_of from to

-- The reply to it, which the receiver sends to the address that the packet came from, goes to the host, and comes from
-- the address that the host first sent to: in a table whose prefixes don't overlap each other or the translation
-- prefix.
abbrev pub RepliesComeFromTheFirstDestination : Type 0
RepliesComeFromTheFirstDestination =
    (entries : List Entry) (prefix : Prefix6) → IsDisjointTable entries prefix
    → (host first from to : ℕ) (sent : WasTurned (table entries prefix) prefix host first from to)
    → turn_of (table entries prefix) sent.first4 from ≡ pair_of first host

-- The IPv6 address of an IPv4 address that comes back is never turned, whoever sends to it: so a packet that one
-- translator made of an IPv4 packet passes another one that has the same table (RFC 7755, RFC 7756).
abbrev pub TranslatedPacketsPass : Type 0
TranslatedPacketsPass =
    (mapping : Mapping) → table_fault (entries_of mapping) ≡ None
    → (destination4 : ℕ) (sent : IsReversible mapping destination4) (source4 : ℕ)
    → turn_of mapping source4 sent.address ≡ Not
