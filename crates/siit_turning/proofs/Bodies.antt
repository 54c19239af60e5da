-- The body of an ICMPv6 error: its quote, its extension, and what is behind both.
use Rattle.std.proofs.Common.{◌≡◌, ℕ, ◌+◌, ◌-◌, ◌*◌, ◌/◌, ◌%◌, ◌<◌, ◌≤◌, ◌⊎◌, inl, inr, List, length, min, take, drop, Bool, true, false, ◌&&◌, ◌||◌, ◌==◌, nat_le, if◌then◌else◌, Option, Some, None, IfSome, Ok, ◌∙◌, ap, sym, subst, refl, arith, length-drop}
use Rattle.std.proofs.lemmas.Bool.Decides.{nat_tests}
use Rattle.std.proofs.lemmas.List.{drop-drop, drop_all, length-take, take_all, take_min, take-append-drop}
use Rattle.siit_model.specs.Bytes.{AreBytes, field8}
use Rattle.siit_model.specs.Checksum.{residue}
use Rattle.siit_checksum.proofs.Residues.{residue-append}
use Rattle.siit_model.specs.Extensions.{Walked}
use Rattle.siit_v6to4.specs.To4.{walk_in}
use Rattle.siit_quoted.specs.Quoted.{HasQuote6}
use Rattle.siit_quoted.specs.Bodies.{has_extension, joined_turned, length_octet6, part_of, parted}
use Rattle.siit_quoted.specs.Errors.{body_turned, part_turned}
use Rattle.siit_quoted.specs.Rewriting.{IsCarriedTurned, extension_behind, new_body_turned, part_before}
use Rattle.siit_quoted.specs.Sums.{IsDifference}
use Rattle.siit_device.specs.Arrival6.{quoted_part6}
use Rattle.siit_turning.specs.Back.{extension_in, kept_in}

-- what the kept bytes of a body hold
pub record BodyFacts (message : List ℕ) (ext : Option ℕ) (kept : ℕ) : Type 0 where
  pub inside : 8 + kept ≤ length message
  pub part : part_before ext (take kept (drop 8 message)) ≡ quoted_part6 message
  pub extension : extension_behind ext (take kept (drop 8 message)) ≡ (parted 8 (length_octet6 message) (drop 8 message)).extension
  pub carried : IfSome ext (λ place. IsCarriedTurned place (take kept (drop 8 message)))
  pub even : (length message ≡ 8 + kept) ⊎ (kept % 2 ≡ 0)

four-true : (a b c d : Bool) → (a && b && c && d) ≡ true → (a ≡ true) × (b ≡ true)
four-true true true c d is = (refl, refl)
four-true true false c d is = absurd cc
four-true false b c d is = absurd cc

nat-le : (a b : ℕ) → nat_le a b ≡ true → a ≤ b
nat-le a b is = grind (arith, nat_tests)

extension-place : (units : ℕ) (body : List ℕ) → has_extension 8 units body ≡ true → (128 ≤ units * 8) × (units * 8 + 4 ≤ length body)
extension-place units body is =
    let place : ℕ = units * 8 in
    let tests = four-true (nat_le 128 place) (nat_le (place + 4) (length body)) ((length body - place) % 4 == 0) (field8 body place / 16 == 2) is in
    (nat-le 128 place tests.0, nat-le (place + 4) (length body) tests.1)

octet-chosen : (test : Bool) (n : ℕ) → n < 256 → (if test then n else 0) ≤ 255
octet-chosen true n byte = omega arith
octet-chosen false n byte = omega arith

octet-small : (message : List ℕ) → AreBytes message → length_octet6 message ≤ 255
octet-small message small = octet-chosen ((field8 message 0 == 1) || (field8 message 0 == 3)) (field8 message 4) (small 4)

even-units : (units all len : ℕ) → units * 8 < all → len ≡ min (units * 8) all → len % 2 ≡ 0
even-units units all len few is = omega arith

even-by : (test : Bool) (units all len : ℕ) → test ≡ nat_le all (units * 8) → len ≡ min (units * 8) all → (len ≡ all) ⊎ (len % 2 ≡ 0)
even-by true units all len is_test is = inl (grind (arith, nat_tests))
even-by false units all len is_test is = inr (even-units units all len (grind (arith, nat_tests)) is)

unit-even : (units all len : ℕ) → len ≡ min (units * 8) all → (len ≡ all) ⊎ (len % 2 ≡ 0)
unit-even units all len is = even-by (nat_le all (units * 8)) units all len refl is

unit-taken : (n : ℕ) (body part : List ℕ) → part ≡ take n body → take (length part) body ≡ part
unit-taken n body part is =
    ap (λ l. take (length l) body) is ∙ ap (λ k. take k body) (length-take n body) ∙ take_min n body ∙ sym is

-- as many units as there are, or all
unit-part : (test : Bool) (units : ℕ) (body part : List ℕ) → part ≡ (if test then body else take (units * 8) body)
    → (length part ≤ length body) × ((take (length part) body ≡ part) × ((length part ≡ length body) ⊎ (length part % 2 ≡ 0)))
unit-part true units body part is =
    (omega (arith, ap length is), (ap (λ l. take (length l) body) is ∙ take_all (length body) body (omega arith) ∙ sym is, inl (ap length is)))
unit-part false units body part is =
    let size : length part ≡ length (take (units * 8) body) = ap length is in
    let cut = length-take (units * 8) body in
    (omega (arith, size, cut), (unit-taken (units * 8) body part is, unit-even units (length body) (length part) (size ∙ cut)))

-- the same where an extension follows them
first-units : (test : Bool) (units : ℕ) (body : List ℕ) → test ≡ (units == 0) → 128 ≤ units * 8 → (if test then body else take (units * 8) body) ≡ take (units * 8) body
first-units true units body is least = absurd (grind (arith, nat_tests))
first-units false units body is least = refl

even-behind : (all body part : ℕ) → body ≡ all - 8 → 8 ≤ all → (part ≡ body) ⊎ (part % 2 ≡ 0) → (all ≡ 8 + part) ⊎ (part % 2 ≡ 0)
even-behind all body part is header (inl same) = inl (omega arith)
even-behind all body part is header (inr even) = inr even

even-within : (all body kept : ℕ) → body ≡ all - 8 → 8 + kept ≤ all → (all ≡ 8 + kept) ⊎ (kept % 2 ≡ 0) → (body ≡ kept) ⊎ (kept % 2 ≡ 0)
even-within all body kept is inside (inl same) = inl (omega arith)
even-within all body kept is inside (inr even) = inr even

facts-by : (has : Bool) (message : List ℕ) → 8 ≤ length message → AreBytes message → has ≡ has_extension 8 (length_octet6 message) (drop 8 message)
    → BodyFacts message (if has then Some (length_octet6 message * 8) else None)
    (if has then length message - 8 else length (part_of 8 (length_octet6 message) (drop 8 message)))
facts-by true message header small is =
    let units : ℕ = length_octet6 message in
    let body : List ℕ = drop 8 message in
    let size : length body ≡ length message - 8 = length-drop 8 message in
    let place = extension-place units body (sym is) in
    let all : take (length message - 8) body ≡ body = take_all (length message - 8) body (omega arith) in
    let found : (if has_extension 8 units body then Some (drop (units * 8) body) else None) ≡ Some (drop (units * 8) body) =
    ap (λ (t : Bool). if t then Some (drop (units * 8) body) else None) (sym is) in
    record {
      inside = omega arith;
      part = ap (take (units * 8)) all ∙ sym (first-units (units == 0) units body refl place.0);
      extension = ap (λ l. Some (drop (units * 8) l)) all ∙ sym found;
      carried = subst (λ l. IsCarriedTurned (units * 8) l) (sym all)
          (record {
            carried = record { least = place.0; some = omega (arith, place.1) };
            units = omega arith;
            told = omega (arith, octet-small message small);
          });
      even = inl (omega arith);
    }
facts-by false message header small is =
    let units : ℕ = length_octet6 message in
    let body : List ℕ = drop 8 message in
    let size : length body ≡ length message - 8 = length-drop 8 message in
    let part : List ℕ = part_of 8 units body in
    let whole = unit-part (units == 0) units body part refl in
    let found : (if has_extension 8 units body then Some (drop (units * 8) body) else None) ≡ None =
    ap (λ (t : Bool). if t then Some (drop (units * 8) body) else None) (sym is) in
    record {
      inside = omega (arith, whole.0);
      part = whole.1.0;
      extension = sym found;
      carried = tt;
      even = even-behind (length message) (length body) (length part) size header whole.1.1;
    }

pub body-facts : (message : List ℕ) → 8 ≤ length message → AreBytes message → BodyFacts message (extension_in message) (kept_in message)
body-facts message header small = facts-by (has_extension 8 (length_octet6 message) (drop 8 message)) message header small refl

-- the turned body of the kept bytes is that of the message
pub kept-turned : (source destination : ℕ) (message : List ℕ) (ext : Option ℕ) (kept : ℕ) → BodyFacts message ext kept
    → new_body_turned source destination ext (take kept (drop 8 message)) ≡ body_turned source destination message
kept-turned source destination message ext kept facts =
    ap (λ (e : Option (List ℕ)). joined_turned e (part_turned source destination (part_before ext (take kept (drop 8 message))))) facts.extension
    ∙ ap (λ l. joined_turned (parted 8 (length_octet6 message) (drop 8 message)).extension (part_turned source destination l)) facts.part

-- what is cut off behind the kept bytes is gone
cut-off : (body new : List ℕ) (kept gone come tail both : ℕ) → (length body ≡ kept) ⊎ (kept % 2 ≡ 0) → kept ≤ length body
    → IsDifference (take kept body) new gone come → tail ≡ residue (drop kept body) → both ≡ (gone + tail) % 65535 → IsDifference body new both come
cut-off body new kept gone come tail both (inl all) inside change is_tail is_both =
    let none : tail ≡ 0 = is_tail ∙ ap residue (drop_all kept body (omega arith)) in
    let same : residue (take kept body) ≡ residue body = ap residue (take_all kept body (omega arith)) in
    record { same = omega (arith, change.same) }
cut-off body new kept gone come tail both (inr even) inside change is_tail is_both =
    let size : length (take kept body) % 2 ≡ 0 = omega (arith, length-take kept body) in
    let split : residue body ≡ (residue (take kept body) + residue (drop kept body)) % 65535 =
    ap residue (sym (take-append-drop kept body)) ∙ residue-append (take kept body) (drop kept body) size in
    record { same = omega (arith, change.same) }

pub sums-whole : (source destination : ℕ) (message kept_bytes tail_bytes new : List ℕ) (ext : Option ℕ) (kept gone come tail both : ℕ) → BodyFacts message ext kept
    → kept_bytes ≡ take kept (drop 8 message) → tail_bytes ≡ drop (8 + kept) message → new ≡ (body_turned source destination message).bytes
    → IsDifference kept_bytes new gone come → tail ≡ residue tail_bytes → both ≡ (gone + tail) % 65535
    → IsDifference (drop 8 message) (body_turned source destination message).bytes both come
sums-whole source destination message kept_bytes tail_bytes new ext kept gone come tail both facts is_kept is_tail_bytes is_new change is_tail is_both =
    let size : length (drop 8 message) ≡ length message - 8 = length-drop 8 message in
    let behind : drop (8 + kept) message ≡ drop kept (drop 8 message) = sym (drop-drop kept 8 message) in
    cut-off (drop 8 message) (body_turned source destination message).bytes kept gone come tail both
    (even-within (length message) (length (drop 8 message)) kept size facts.inside facts.even) (omega (arith, facts.inside))
    (subst (λ l. IsDifference (take kept (drop 8 message)) l gone come) is_new (subst (λ l. IsDifference l new gone come) is_kept change))
    (is_tail ∙ ap residue (is_tail_bytes ∙ behind)) is_both

pub facts-for : (message : List ℕ) (ext : Option ℕ) (kept n : ℕ) → 8 ≤ length message → AreBytes message → ext ≡ extension_in message → kept ≡ kept_in message → n ≡ kept
    → BodyFacts message ext n
facts-for message ext kept n header small is_ext is_kept is_n =
    subst (λ (e : Option ℕ). BodyFacts message e n) (sym is_ext) (subst (BodyFacts message (extension_in message)) (sym (is_n ∙ is_kept)) (body-facts message header small))

-- the walk over the quote is that over the part that is kept
pub walk-kept : (w : Walked) (message quote : List ℕ) (ext : Option ℕ) (kept : ℕ) → BodyFacts message ext kept → quote ≡ quoted_part6 message → walk_in quote ≡ Ok w
    → walk_in (part_before ext (take kept (drop 8 message))) ≡ Ok w
walk-kept w message quote ext kept facts is walk = ap walk_in (facts.part ∙ sym is) ∙ walk

pub quote-kept : (w : Walked) (message quote : List ℕ) (ext : Option ℕ) (kept : ℕ) → BodyFacts message ext kept → quote ≡ quoted_part6 message → HasQuote6 w quote
    → HasQuote6 w (part_before ext (take kept (drop 8 message)))
quote-kept w message quote ext kept facts is has = subst (HasQuote6 w) (is ∙ sym facts.part) has
