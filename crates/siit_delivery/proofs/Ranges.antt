-- The IPv6 addresses that an accepted table gives have 128 bits.
use Rattle.std.proofs.Common.{◌≡◌, ℕ, ◌+◌, ◌-◌, ◌%◌, ◌^◌, ◌<◌, ◌≤◌, List, true, ◌==◌, ◌&&◌, Option, Some, None, IsTrue, subst, inl, inr, arith}
use Rattle.std.specs.List.{All}
use Rattle.std.proofs.lemmas.Bool.{and_parts, eqb-true}
use Rattle.std.proofs.lemmas.Option.{slice_get_within, get_or_from_slice_get}
use Rattle.siit_addr.specs.Addresses.{is_clear_behind}
use Rattle.siit_addr.specs.declared.addr.Prefix6.{Prefix6}
use Rattle.siit_rfc6052.specs.Embedding.{byte_of, embedded, is_embedding_length, is_embedding_prefix}
use Rattle.siit_eamt.specs.declared.entry.Eam.{Eam}
use Rattle.siit_eamt.specs.Entries.{best4, holds4, length4, up}
use Rattle.siit_eamt.specs.Faults.{table_fault}
use Rattle.siit_eamt.proofs.Accepted.{good_from_accepted, held_from_longest}
use Rattle.siit_eamt.proofs.Powers.{room_above}
use Rattle.siit_eamt.proofs.Ranges.{IsSuffix4-from_held, room6}
use Rattle.siit_map.specs.Mapping.{ipv6_for, table}
use Rattle.siit_map.specs.Prefixed.{embedded_in, prefix_refusal, unless_refused}
use Rattle.siit_map.specs.declared.mapping.MapRefusal.{MapRefusal}
use Rattle.siit_map.specs.declared.mapping.Means.TheVariants.{Prefix}
use Rattle.siit_device.specs.Addresses.{address_of}
use Rattle.siit_config.specs.Laws.{IsAcceptedTable, IsEntryInRange}
use Rattle.siit_config.proofs.Options.{bool_or, none_or_some}

-- BY AN ENTRY

entry_small : (entries : List Eam) → table_fault entries ≡ None → All IsEntryInRange entries → (a i : ℕ) (e : Eam)
    → best4 entries a ≡ Some (i, e) → up e a < 2 ^ 128
entry_small entries accepted small a i e found =
    let here = held_from_longest (holds4 a) length4 entries i e found in
    let good = good_from_accepted entries accepted i e here.0 in
    let range = subst IsEntryInRange (get_or_from_slice_get entries i e e here.0) (small i e (slice_get_within entries i e here.0)) in
    let suffix = IsSuffix4-from_held e a good here.1 in
    let room = room6 e good range.six in
    omega (arith, suffix.moved, room)

-- UNDER THE PREFIX

-- a prefix that holds an IPv4 address in its last bits, by its length
lengths : (len p a : ℕ) → is_embedding_length len ≡ true → p + 2 ^ (128 - len) ≤ 2 ^ 128 → embedded len p a < 2 ^ 128
lengths len p a h room =
    elim (bool_or (len == 32)) [
      | inl is ↦ let same = eqb-true len 32 is in let here : p + 2 ^ 96 ≤ 2 ^ 128 = rw same at room in rw same (omega (arith, here))
      | inr not_32 ↦ elim (bool_or (len == 40)) [
        | inl is ↦ let same = eqb-true len 40 is in let here : p + 2 ^ 88 ≤ 2 ^ 128 = rw same at room in rw same (omega (arith, here))
        | inr not_40 ↦ elim (bool_or (len == 48)) [
          | inl is ↦ let same = eqb-true len 48 is in let here : p + 2 ^ 80 ≤ 2 ^ 128 = rw same at room in rw same (omega (arith, here))
          | inr not_48 ↦ elim (bool_or (len == 56)) [
            | inl is ↦ let same = eqb-true len 56 is in let here : p + 2 ^ 72 ≤ 2 ^ 128 = rw same at room in rw same (omega (arith, here))
            | inr not_56 ↦ elim (bool_or (len == 64)) [
              | inl is ↦ let same = eqb-true len 64 is in let here : p + 2 ^ 64 ≤ 2 ^ 128 = rw same at room in rw same (omega (arith, here))
              | inr not_64 ↦
                  let left : (len == 96) ≡ true = rw (not_32, not_40, not_48, not_56, not_64) at h in
                  let same = eqb-true len 96 left in
                  let here : p + 2 ^ 32 ≤ 2 ^ 128 = rw same at room in
                  rw same (omega (arith, here))
            ]
          ]
        ]
      ]
    ]

pub record IsPrefixParts (len p : ℕ) : Type 0 where
  pub length : is_embedding_length len ≡ true
  pub clean : p % 2 ^ (128 - len) ≡ 0

prefix_parts : (len p : ℕ) → is_embedding_prefix len p ≡ true → IsPrefixParts len p
prefix_parts len p h =
    let first = and_parts (is_embedding_length len && is_clear_behind 128 len p) (byte_of p 8 == 0) h in
    let both = and_parts (is_embedding_length len) (is_clear_behind 128 len p) first.0 in
    record { length = both.0; clean = eqb-true (p % 2 ^ (128 - len)) 0 both.1 }

embedded_small : (prefix : Prefix6) (a : ℕ) → IsTrue (is_embedding_prefix prefix.len prefix.addr.0) → prefix.addr.0 < 2 ^ 128 → embedded_in prefix a < 2 ^ 128
embedded_small prefix a embeds small =
    let parts = prefix_parts prefix.len prefix.addr.0 embeds in
    lengths prefix.len prefix.addr.0 a parts.length (room_above prefix.addr.0 (128 - prefix.len) 128 (omega arith) small parts.clean)

-- WHATEVER IS FOUND

under_small : (refusal : Option MapRefusal) (x : ℕ) → x < 2 ^ 128 → address_of (unless_refused refusal (x, Prefix)) < 2 ^ 128
under_small None x small = small
under_small (Some refusal) x small = omega arith

pub mapped_small : (entries : List Eam) (prefix : Prefix6) → IsAcceptedTable entries prefix → (a : ℕ) → address_of (ipv6_for (table entries prefix) a) < 2 ^ 128
mapped_small entries prefix good a =
    elim (none_or_some (best4 entries a)) as (λ _. address_of (ipv6_for (table entries prefix) a) < 2 ^ 128) [
      | inl none ↦ rw none (under_small (prefix_refusal prefix a) (embedded_in prefix a) (embedded_small prefix a good.embeds good.prefix_in_range))
      | inr found ↦ rw found.1 (entry_small entries good.accepted good.entries_in_range a found.0.0 found.0.1 found.1)
    ]
