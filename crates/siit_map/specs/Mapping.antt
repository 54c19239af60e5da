-- The address of the other family that a device gives an address: by an entry of its table (RFC 7757 section 3.3), else
-- under its prefix (RFC 6052).
use Rattle.std.specs.Prelude.{ℕ, List, [], if◌then◌else◌, Option, Some, None, Result, Ok}
use Rattle.siit_addr.specs.declared.addr.Prefix4.{Prefix4}
use Rattle.siit_addr.specs.declared.addr.Prefix6.{Prefix6}
use Rattle.siit_eamt.specs.declared.entry.Eam.{Eam as Entry}
use Rattle.siit_eamt.specs.Entries.{entry_to_4, entry_to_6}
use Rattle.siit_map.specs.declared.mapping.Means.{Means}
use Rattle.siit_map.specs.declared.mapping.Means.TheVariants.{Eam, Local}
use Rattle.siit_map.specs.declared.mapping.MapRefusal.{MapRefusal}
use Rattle.siit_map.specs.Prefixed.{embedded_in, under_prefix, extracted_under, customer_back, is_local}

pub data Mapping : Type 0 where
  -- a table's entries, and the prefix of all other addresses
  table : (entries : List Entry) (prefix : Prefix6) → Mapping
  -- a customer's own addresses, the prefix that stands for them, and the provider's prefix
  customer : (local4 : Prefix4) (local6 provider : Prefix6) → Mapping

abbrev pub entries_of : Mapping → List Entry
entries_of (table entries prefix) = entries
entries_of (customer local4 local6 provider) = []

-- the translation prefix
abbrev pub prefix_in : Mapping → Prefix6
prefix_in (table entries prefix) = prefix
prefix_in (customer local4 local6 provider) = provider

-- the entry's answer, or another where there is no entry
abbrev pub by_entry : Option (ℕ × ℕ) → Result (ℕ × Means) MapRefusal → Result (ℕ × Means) MapRefusal
by_entry None other = other
by_entry (Some hit) other = Ok (hit.1, Eam hit.0)

abbrev pub ipv6_for : Mapping → ℕ → Result (ℕ × Means) MapRefusal
ipv6_for (table entries prefix) a = by_entry (entry_to_6 entries a) (under_prefix prefix a)
ipv6_for (customer local4 local6 provider) a =
    if is_local local4 a then Ok (embedded_in local6 a, Local) else under_prefix provider a

abbrev pub ipv4_for : Mapping → ℕ → Result (ℕ × Means) MapRefusal
ipv4_for (table entries prefix) x = by_entry (entry_to_4 entries x) (extracted_under prefix x)
ipv4_for (customer local4 local6 provider) x = customer_back local4 local6 provider x
