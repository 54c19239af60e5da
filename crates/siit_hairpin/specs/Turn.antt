-- Hairpinning (RFC 7757 section 4): an IPv6 packet for the translated form of a host that has an entry of its own goes
-- back to the IPv6 side. The form of it, by addresses alone, is this project's own.
use Rattle.std.specs.Prelude.{ℕ, Option, Some, None, option_map, Result, Ok}
use Rattle.siit_eamt.specs.Entries.{entry_to_6}
use Rattle.siit_map.specs.declared.mapping.Means.{Means}
use Rattle.siit_map.specs.declared.mapping.Means.TheVariants.{Prefix}
use Rattle.siit_map.specs.declared.mapping.MapRefusal.{MapRefusal}
use Rattle.siit_map.specs.Prefixed.{prefix_form}
use Rattle.siit_map.specs.Mapping.{Mapping, entries_of, prefix_in, ipv4_for}
use Rattle.siit_hairpin.specs.declared.hairpin.TurnAnswer.{TurnAnswer}
use Rattle.siit_hairpin.specs.declared.hairpin.TurnAnswer.TheVariants.{Not, Pair, Refused}

-- a packet that goes back from this address to that one
abbrev pub pair_of : (source destination : ℕ) → TurnAnswer
pair_of source destination = Pair (record { src = record { 0 = source }; dst = record { 0 = destination } })

-- the address that an entry gives an IPv4 address which was found under the prefix
abbrev pub own_address : Mapping → Result (ℕ × Means) MapRefusal → Option ℕ
own_address mapping (Ok (d, Prefix)) = option_map (λ hit. hit.1) (entry_to_6 (entries_of mapping) d)
own_address mapping _ = None

-- A packet without such a destination is not turned; one with it, whose source has no form under the prefix, is
-- refused.
abbrev pub turned_between : (source destination : Option ℕ) → TurnAnswer
turned_between source None = Not
turned_between None (Some destination) = Refused
turned_between (Some source) (Some destination) = pair_of source destination

-- What becomes of an IPv6 packet to this destination, where source4 is the IPv4 address that stands for its source.
abbrev pub turn_of : Mapping → (source4 destination : ℕ) → TurnAnswer
turn_of mapping source4 destination =
    turned_between (prefix_form (prefix_in mapping) source4) (own_address mapping (ipv4_for mapping destination))
