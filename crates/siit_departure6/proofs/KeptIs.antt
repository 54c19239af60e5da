-- What is kept of an ICMPv4 error, by the extension that it carries or without one.
use Rattle.std.proofs.Common.{◌≡◌, ◌⊎◌, ℕ, ◌+◌, ◌-◌, ◌*◌, ◌/◌, ◌%◌, ◌<◌, ◌≤◌, min, List, length, take, drop, Bool, true, false, ◌&&◌, ◌||◌, ◌==◌, nat_le, if◌then◌else◌, Some, None, refl, inl, inr, ap, sym, subst, ⊎_elim, ◌∙◌, arith, length-drop}
use Rattle.std.proofs.lemmas.Bool.{cases_lt, cond_both, ne_eqb}
use Rattle.std.proofs.lemmas.Bool.Decides.{nat_tests}
use Rattle.std.proofs.lemmas.List.{take_all, take_rest, length-take}
use Rattle.siit_model.specs.Bytes.{field8, part}
use Rattle.siit_fragments.proofs.Parts.{part-fill}
use Rattle.siit_quoted.specs.Bodies.{carried_to_6, has_extension, joined_to_6, length_octet4, part_of}
use Rattle.siit_quoted.specs.Quoted.{quoted4_fields}
use Rattle.siit_quoted.specs.Quotes.{quote_to_6}
use Rattle.siit_quoted.specs.Rewriting.{IsCarriedTo6}
use Rattle.siit_device.specs.Arrival4.{quoted_part4}
use Rattle.siit_departure6.specs.Kept.{IsKept, carried_place}

-- WITHOUT AN EXTENSION

unless : (b : Bool) (n : ℕ) (ext : List ℕ) → (if b then Some n else None) ≡ None → (if b then Some ext else None) ≡ None
unless true n ext e = absurd (cc)
unless false n ext e = refl

none-carried : (kind : ℕ) (has : Bool) (n : ℕ) (ext : List ℕ)
    → (if has && (((kind == 1) || (kind == 3)) && nat_le (length ext) 1104) then Some n else None) ≡ None
    → carried_to_6 kind (if has then Some ext else None) ≡ None
none-carried kind false n ext e = refl
none-carried kind true n ext e = unless (((kind == 1) || (kind == 3)) && nat_le (length ext) 1104) n ext e

-- the part that holds the quote
record IsPart (message quote : List ℕ) : Type 0 where
  again : take (length quote) (drop 8 message) ≡ quote
  within : length quote + 8 ≤ length message
  even : (8 + length quote ≡ length message) ⊎ ((8 + length quote) % 2 ≡ 0)

units-even : (n units len all : ℕ) → n ≡ units * 4 → (8 + n ≡ all) ⊎ ((8 + n) % 2 ≡ 0)
units-even n units len all is = inr (omega arith)

part-is : (message : List ℕ) (units : ℕ) → 8 ≤ length message → IsPart message (part_of 4 units (drop 8 message))
part-is message units there =
    let body : List ℕ = drop 8 message in
    let size : length body ≡ length message - 8 = length-drop 8 message in
    cond_both (units == 0) body (take (units * 4) body) (λ (quote : List ℕ). IsPart message quote)
    (λ _. record { again = take_all (length body) body (omega arith); within = omega (arith, size); even = inl (omega (arith, size)) })
    (λ _.
    let taken = length-take (units * 4) body in
    record {
      again = sym (part-fill message 8 (units * 4));
      within = omega (arith, size, taken);
      even = ended (units * 4) (length body) (length (take (units * 4) body)) (length message) (omega arith) taken (omega (arith, size));
    })
  where
    ended : (n len least all : ℕ) → n % 4 ≡ 0 → least ≡ min n len → all ≡ 8 + len → (8 + least ≡ all) ⊎ ((8 + least) % 2 ≡ 0)
    ended n len least all words is is_all = ⊎_elim (λ (short : n < len). inr (omega arith)) (λ (long : len ≤ n). inl (omega arith)) (cases_lt n len)

pub kept-none : (kind : ℕ) (message quote : List ℕ) (n : ℕ) → 8 ≤ length message → carried_place kind message ≡ None → quote ≡ quoted_part4 message
    → n ≡ 8 + length quote → IsKept kind message (record { len = n; ext = None })
kept-none kind message quote n there none is_quote is_n =
    let units : ℕ = length_octet4 message in
    let is : IsPart message quote = subst (IsPart message) (sym is_quote) (part-is message units there) in
    let size : n - 8 ≡ length quote = omega arith in
    let same : part message 8 (n - 8) ≡ quoted_part4 message = ap (λ k. take k (drop 8 message)) size ∙ is.again ∙ is_quote in
    record {
      header = omega arith;
      inside = omega (arith, is.within);
      even = subst (λ k. (k ≡ length message) ⊎ (k % 2 ≡ 0)) (sym is_n) is.even;
      carried = tt;
      words = tt;
      quote = same;
      body = λ source destination tos_zero.
          ap (λ b. joined_to_6 None (quote_to_6 source destination tos_zero (quoted4_fields b))) same
          ∙ ap (λ e. joined_to_6 e (quote_to_6 source destination tos_zero (quoted4_fields (quoted_part4 message))))
          (sym (none-carried kind (has_extension 4 units (drop 8 message)) (units * 4) (drop (units * 4) (drop 8 message)) none));
    }

-- WITH ONE

both : (a b : Bool) (n place : ℕ) → (if a && b then Some n else None) ≡ Some place → (a ≡ true) × (b ≡ true) × (place ≡ n)
both true true n place e = (refl, refl, cc)
both true false n place e = absurd (cc)
both false b n place e = absurd (cc)

record Lengths (len place : ℕ) : Type 0 where
  least : 128 ≤ place
  some : place + 4 ≤ len

lengths : (place len version : ℕ) → (nat_le 128 place && nat_le (place + 4) len && ((len - place) % 4 == 0) && (version == 2)) ≡ true → Lengths len place
lengths place len version e = record { least = grind (arith, nat_tests); some = grind (arith, nat_tests) }

few : (kind len : ℕ) → (((kind == 1) || (kind == 3)) && nat_le len 1104) ≡ true → len ≤ 1104
few kind len e = grind (arith, nat_tests)

part-taken : (units : ℕ) (body : List ℕ) → 128 ≤ units * 4 → part_of 4 units body ≡ take (units * 4) body
part-taken units body least = rw (ne_eqb units 0 (λ (none : units ≡ 0). omega arith)) refl

carried-all : (kind : ℕ) (has : Bool) (ext : List ℕ) → has ≡ true → (((kind == 1) || (kind == 3)) && nat_le (length ext) 1104) ≡ true
    → carried_to_6 kind (if has then Some ext else None) ≡ Some ext
carried-all kind has ext is carries = rw (is, carries) refl

pub kept-some : (kind : ℕ) (message : List ℕ) (place n : ℕ) → 8 ≤ length message → carried_place kind message ≡ Some place → n ≡ length message
    → IsKept kind message (record { len = n; ext = Some place })
kept-some kind message place n there some is_n =
    let units : ℕ = length_octet4 message in
    let message_body : List ℕ = drop 8 message in
    let extension : List ℕ = drop (units * 4) message_body in
    let tests = both (has_extension 4 units message_body) (((kind == 1) || (kind == 3)) && nat_le (length extension) 1104) (units * 4) place some in
    let is_place : place ≡ units * 4 = tests.2 in
    let known = lengths (units * 4) (length message_body) (field8 message_body (units * 4) / 16) tests.0 in
    let short = few kind (length extension) tests.1 in
    let behind : length extension ≡ length message_body - units * 4 = length-drop (units * 4) message_body in
    let all : part message 8 (n - 8) ≡ message_body = ap (λ k. part message 8 (k - 8)) is_n ∙ take_rest message 8 in
    let quoted : quoted_part4 message ≡ take (units * 4) message_body = part-taken units message_body known.least in
    record {
      header = omega arith;
      inside = omega arith;
      even = inl is_n;
      carried = subst (λ b. IsCarriedTo6 place b) (sym all) (record { carried = record { least = omega (arith, known.least); some = omega (arith, known.some) }; few = omega (arith, short, behind) });
      words = omega arith;
      quote = ap (take place) all ∙ ap (λ k. take k message_body) is_place ∙ sym quoted;
      body = λ source destination tos_zero.
          ap (λ b. joined_to_6 (Some (drop place b)) (quote_to_6 source destination tos_zero (quoted4_fields (take place b)))) all
          ∙ ap (λ k. joined_to_6 (Some (drop k message_body)) (quote_to_6 source destination tos_zero (quoted4_fields (take k message_body)))) is_place
          ∙ ap (λ q. joined_to_6 (Some extension) (quote_to_6 source destination tos_zero (quoted4_fields q))) (sym quoted)
          ∙ ap (λ e. joined_to_6 e (quote_to_6 source destination tos_zero (quoted4_fields (quoted_part4 message))))
          (sym (carried-all kind (has_extension 4 units message_body) extension tests.0 tests.1));
    }
