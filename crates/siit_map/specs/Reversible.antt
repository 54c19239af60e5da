-- IPv4 addresses that come back. Nothing is said of IPv6 addresses: where bits behind a suffix are dropped, several of
-- them map to one IPv4 address, and this maps back to one of them.
use Rattle.std.specs.Prelude.{◌≡◌, ℕ, ◌^◌, ◌<◌, List, None, Ok, IsOk, IsTrue}
use Rattle.siit_addr.specs.declared.addr.Prefix6.{Prefix6}
use Rattle.siit_rfc6052.specs.Embedding.{is_embedding_prefix}
use Rattle.siit_eamt.specs.declared.entry.Eam.{Eam}
use Rattle.siit_eamt.specs.Faults.{table_fault}
use Rattle.siit_eamt.specs.Disjoint.{is_disjoint}
use Rattle.siit_map.specs.declared.mapping.Means.{Means}
use Rattle.siit_map.specs.Mapping.{Mapping, table, ipv6_for, ipv4_for}

-- the IPv4 address has an IPv6 address, and that one's IPv4 address is the first again
pub record IsReversible (mapping : Mapping) (a : ℕ) : Type 0 where
  pub address : ℕ
  pub by : Means
  pub back_by : Means
  pub forth : ipv6_for mapping a ≡ Ok (address, by)
  pub back : ipv4_for mapping address ≡ Ok (a, back_by)

-- an accepted table and prefix, where no two IPv4 prefixes and no two IPv6 prefixes overlap, the prefix among the
-- latter
pub record IsDisjointTable (entries : List Eam) (prefix : Prefix6) : Type 0 where
  pub accepted : table_fault entries ≡ None
  pub embeds : IsTrue (is_embedding_prefix prefix.len prefix.addr.0)
  pub in_range : prefix.addr.0 < 2 ^ 128
  pub disjoint : IsTrue (is_disjoint entries prefix)

-- in such a table each IPv4 address that maps forth comes back
abbrev pub DisjointTablesComeBack : Type 0
DisjointTablesComeBack =
    (entries : List Eam) (prefix : Prefix6) → IsDisjointTable entries prefix → (a : ℕ) → a < 2 ^ 32
    → IsOk (ipv6_for (table entries prefix) a) → IsReversible (table entries prefix) a
