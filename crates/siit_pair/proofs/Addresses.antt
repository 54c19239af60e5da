-- Addresses that come back.
use Rattle.std.proofs.Common.{◌≡◌, true, ◌∙◌, ap, refl, sym, subst, IsOk}
use Rattle.siit_map.specs.Mapping.{Mapping, customer, entries_of, ipv4_for, ipv6_for, prefix_in, table}
use Rattle.siit_map.specs.Reversible.{DisjointTablesComeBack, IsReversible}
use Rattle.siit_device.specs.Addresses.{address_of}
use Rattle.siit_pair.specs.Laws.{AddressesComeBack, DisjointPairsComeBack, OneTableMapsAlike}
use Rattle.siit_pair.specs.Pairs.{is_table}

pub addresses_back : AddressesComeBack
addresses_back first second alike a back =
    ap (λ (m : Mapping). address_of (ipv4_for m (address_of (ipv6_for first.mapping a)))) (sym alike)
    ∙ ap (λ r. address_of (ipv4_for first.mapping (address_of r))) back.forth
    ∙ ap address_of back.back

pub disjoint_back : DisjointTablesComeBack → DisjointPairsComeBack
disjoint_back law first second entries prefix disjoint first_is second_is a small ok =
    addresses_back first second (first_is ∙ sym second_is) a
    (subst (λ (m : Mapping). IsReversible m a) (sym first_is)
    (law entries prefix disjoint a small (subst (λ (m : Mapping). IsOk (ipv6_for m a)) first_is ok)))

one-table : (one two : Mapping) → prefix_in one ≡ prefix_in two → entries_of one ≡ entries_of two → is_table one ≡ true → is_table two ≡ true → one ≡ two
one-table (table entries prefix) (table others other) same_prefix same_entries is_one is_two = rw (same_prefix, same_entries) refl
one-table (table entries prefix) (customer local4 local6 provider) same_prefix same_entries is_one is_two = cc
one-table (customer local4 local6 provider) two same_prefix same_entries is_one is_two = cc

pub maps_alike : OneTableMapsAlike
maps_alike border edge one border_table edge_table = one-table border.mapping edge.mapping one.prefixes one.entries border_table edge_table
