-- An IPv6 text that is written is read again.
use Rattle.std.proofs.Common.{◌≡◌, ℕ, zero, suc, ◌+◌, ◌-◌, ◌/◌, ◌%◌, ◌<◌, ◌≤◌, Bool, true, false, inl, inr, List, [], ◌∷◌, ◌++◌, length, take, drop, replicate, Some, refl, ap, sym, ◌∙◌, arith, append_assoc, append-nil, length-append}
use Rattle.std.specs.Option.{option_map, option_or}
use Rattle.std.proofs.lemmas.Bool.{cases_lt, lt-ltb, le-ltb, le-leb}
use Rattle.std.proofs.lemmas.List.{length-replicate}
use Rattle.std.proofs.Math.Nat.{div-div-eq-div-mul}
use Rattle.siit_addr.specs.Texts.{colon, slash, parts_at, both_with, at_most, last_groups_of, groups_of_parts, groups_of, with_gap, ipv6_of_groups, ipv6_of_text, decimal_of, prefix_of_parts, ipv4_of_text}
use Rattle.siit_addr.specs.Canonical.{group_text, behind_colons, joined, decimal_text, groups_of_number, longest_run, first_run, groups_text, ipv6_text, prefix6_text}
use Rattle.siit_addr.proofs.Parts.{length_parts_at}
use Rattle.siit_addr.proofs.Lacking.{Lacks, Lacks-append, parts_at-front, parts_at-only, colon_is_no_digit, slash_is_no_digit, Lacks-group_text, Lacks-decimal_text}
use Rattle.siit_addr.proofs.DigitTexts.{group_of-group_text, decimal_of-decimal_text}
use Rattle.siit_addr.proofs.GroupLists.{groups_of-parts, first_part, before, alone-some, sides-some}
use Rattle.siit_addr.proofs.GapTexts.{around_gap-joined, around_gap-sides, length-group_text}
use Rattle.siit_addr.proofs.ZeroRuns.{round_run}

-- each group has 16 bits
abbrev pub AreGroups : List ℕ → Type 0
AreGroups [] = Unit {0}
AreGroups (group ∷ groups) = (group < 65536) × AreGroups groups

AreGroups-take : (n : ℕ) (groups : List ℕ) → AreGroups groups → AreGroups (take n groups)
AreGroups-take zero groups h = tt
AreGroups-take (suc n) [] h = tt
AreGroups-take (suc n) (group ∷ groups) h = (h.0, AreGroups-take n groups h.1)

AreGroups-drop : (n : ℕ) (groups : List ℕ) → AreGroups groups → AreGroups (drop n groups)
AreGroups-drop zero groups h = h
AreGroups-drop (suc n) [] h = tt
AreGroups-drop (suc n) (group ∷ groups) h = AreGroups-drop n groups h.1

-- a group as the last part
last_group : (at_end : Bool) (group : ℕ) → group < 65536 → last_groups_of at_end (group_text group) ≡ Some (group ∷ [])
last_group false group h = ap (option_map (λ g. g ∷ [])) (group_of-group_text group h)
last_group true group h =
    ap (λ o. option_or (option_map (λ g. g ∷ []) o) (option_map (λ a. (a / 65536) ∷ (a % 65536) ∷ []) (ipv4_of_text (group_text group))))
    (group_of-group_text group h)

joined_parts : (at_end : Bool) (group : ℕ) (groups : List ℕ) → group < 65536 → AreGroups groups → groups_of_parts at_end (parts_at colon (joined (group ∷ groups))) ≡ Some (group ∷ groups)
joined_parts at_end group [] h hs =
    ap (λ text. groups_of_parts at_end (parts_at colon text)) (append-nil (group_text group))
    ∙ ap (groups_of_parts at_end) (parts_at-only colon (group_text group) (Lacks-group_text colon group colon_is_no_digit))
    ∙ last_group at_end group h
joined_parts at_end group (next ∷ groups) h hs =
    ap (groups_of_parts at_end) (parts_at-front colon (group_text group) (joined (next ∷ groups)) (Lacks-group_text colon group colon_is_no_digit))
    ∙ first_part at_end (group_text group) (parts_at colon (joined (next ∷ groups))) (length_parts_at colon (joined (next ∷ groups)))
    ∙ ap (λ o. both_with (λ g gs. g ∷ gs) o (groups_of_parts at_end (parts_at colon (joined (next ∷ groups))))) (group_of-group_text group h)
    ∙ ap (option_map (λ gs. group ∷ gs)) (joined_parts at_end next groups hs.0 hs.1)

groups_of-joined : (at_end : Bool) (groups : List ℕ) → AreGroups groups → groups_of at_end (joined groups) ≡ Some groups
groups_of-joined at_end [] hs = refl
groups_of-joined at_end (group ∷ groups) hs =
    groups_of-parts at_end (joined (group ∷ groups))
    (λ e. omega (arith, length-append (group_text group) (behind_colons groups), length-group_text group))
    ∙ ap (before []) (joined_parts at_end group groups hs.0 hs.1)

-- the zero groups of a gap are as many as stood there
with_gap-run : (groups left right : List ℕ) (run : ℕ) → length groups ≡ 8 → 1 ≤ run → groups ≡ left ++ (replicate run 0 ++ right) → with_gap left right ≡ groups
with_gap-run groups left right run eight some e =
    let count : 8 ≡ length left + (run + length right) =
    sym eight ∙ ap length e ∙ length-append left (replicate run 0 ++ right)
    ∙ ap (λ n. length left + n) (length-append (replicate run 0) right ∙ ap (λ n. n + length right) (length-replicate run 0)) in
    let zeros : suc (7 - (length left + length right)) ≡ run = omega arith in
    ap (λ n. left ++ replicate n 0 ++ right) zeros ∙ append_assoc left (replicate run 0) right ∙ sym e

-- canonical text of eight groups
groups_are_read : (groups : List ℕ) → AreGroups groups → length groups ≡ 8 → ipv6_of_text (groups_text groups) ≡ ipv6_of_groups groups
groups_are_read groups hs eight =
    let run = longest_run groups in
    let place = first_run run groups in
    elim (cases_lt run 2) as (λ _. ipv6_of_text (groups_text groups) ≡ ipv6_of_groups groups) [
      | inl short ↦ rw (lt-ltb run 2 short) (alone-some (joined groups) groups (around_gap-joined groups) (groups_of-joined true groups hs))
      | inr long ↦ rw (le-ltb run 2 long)
          (sides-some (joined (take place groups) ++ colon ∷ colon ∷ [] ++ joined (drop (place + run) groups))
          (joined (take place groups)) (joined (drop (place + run) groups)) (take place groups) (drop (place + run) groups)
          (around_gap-sides (take place groups) (drop (place + run) groups))
          (groups_of-joined false (take place groups) (AreGroups-take place groups hs))
          (groups_of-joined true (drop (place + run) groups) (AreGroups-drop (place + run) groups hs))
          ∙ ap ipv6_of_groups (with_gap-run groups (take place groups) (drop (place + run) groups) run eight (omega arith) (round_run run groups (omega arith))))
    ]

-- the number of an address's groups
number_of_groups : (a : ℕ) → a < 340282366920938463463374607431768211456 → ipv6_of_groups (groups_of_number a) ≡ Some a
number_of_groups a h =
    ap Some (omega (
      arith,
      div-div-eq-div-mul a 65536 65536,
      div-div-eq-div-mul a 4294967296 65536,
      div-div-eq-div-mul a 281474976710656 65536,
      div-div-eq-div-mul a 18446744073709551616 65536,
      div-div-eq-div-mul a 1208925819614629174706176 65536,
      div-div-eq-div-mul a 79228162514264337593543950336 65536,
    ))

groups_are_small : (a : ℕ) → AreGroups (groups_of_number a)
groups_are_small a = (omega arith, (omega arith, (omega arith, (omega arith, (omega arith, (omega arith, (omega arith, (omega arith, tt))))))))

pub ipv6_of_text-ipv6_text : (a : ℕ) → a < 340282366920938463463374607431768211456 → ipv6_of_text (ipv6_text a) ≡ Some a
ipv6_of_text-ipv6_text a h = groups_are_read (groups_of_number a) (groups_are_small a) refl ∙ number_of_groups a h

-- a prefix
Lacks-behind_colons : (groups : List ℕ) → Lacks slash (behind_colons groups)
Lacks-behind_colons [] = tt
Lacks-behind_colons (group ∷ groups) =
    (omega arith, Lacks-append slash (group_text group) (behind_colons groups) (Lacks-group_text slash group slash_is_no_digit) (Lacks-behind_colons groups))

Lacks-joined : (groups : List ℕ) → Lacks slash (joined groups)
Lacks-joined [] = tt
Lacks-joined (group ∷ groups) =
    Lacks-append slash (group_text group) (behind_colons groups) (Lacks-group_text slash group slash_is_no_digit) (Lacks-behind_colons groups)

Lacks-groups_text : (groups : List ℕ) → Lacks slash (groups_text groups)
Lacks-groups_text groups =
    let run = longest_run groups in
    let place = first_run run groups in
    elim (cases_lt run 2) as (λ _. Lacks slash (groups_text groups)) [
      | inl short ↦ rw (lt-ltb run 2 short) (Lacks-joined groups)
      | inr long ↦ rw (le-ltb run 2 long)
          (Lacks-append slash (joined (take place groups) ++ colon ∷ colon ∷ []) (joined (drop (place + run) groups))
          (Lacks-append slash (joined (take place groups)) (colon ∷ colon ∷ []) (Lacks-joined (take place groups)) (omega arith, (omega arith, tt)))
          (Lacks-joined (drop (place + run) groups)))
    ]

pub parts_of-prefix6_text : (a len : ℕ) → a < 340282366920938463463374607431768211456 → len ≤ 128
    → prefix_of_parts ipv6_of_text 128 (parts_at slash (prefix6_text a len)) ≡ Some (a, len)
parts_of-prefix6_text a len h limit =
    ap (λ text. prefix_of_parts ipv6_of_text 128 (parts_at slash text)) (append_assoc (ipv6_text a) (slash ∷ []) (decimal_text len))
    ∙ ap (prefix_of_parts ipv6_of_text 128)
    (parts_at-front slash (ipv6_text a) (decimal_text len) (Lacks-groups_text (groups_of_number a))
    ∙ ap (λ parts. ipv6_text a ∷ parts) (parts_at-only slash (decimal_text len) (Lacks-decimal_text slash len slash_is_no_digit)))
    ∙ ap (λ o. both_with (λ a l. (a, l)) o (at_most 128 (decimal_of (decimal_text len)))) (ipv6_of_text-ipv6_text a h)
    ∙ ap (λ o. option_map (λ l. (a, l)) (at_most 128 o)) (decimal_of-decimal_text len (omega arith))
    ∙ rw (le-leb len 128 limit) refl
