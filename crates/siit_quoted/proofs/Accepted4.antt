-- What an accepted IPv4 quote tells.
use Rattle.std.proofs.Common.{◌≡◌, ℕ, ◌-◌, ◌<◌, ◌≤◌, List, [], ◌∷◌, length, drop, Bool, true, false, true≢false, not, nat_lt, ◌==◌, ◌&&◌, ◌||◌, if◌then◌else◌, Some, None, ◌∙◌, sym, refl, arith, eq-eqb}
use Rattle.std.specs.List.{list_any}
use Rattle.std.proofs.lemmas.Bool.{not-false, ltb-false}
use Rattle.std.proofs.lemmas.List.{length-take}
use Rattle.siit_model.specs.Bytes.{AreBytes}
use Rattle.siit_model.specs.Fragments.{Fragment, is_whole}
use Rattle.siit_model.specs.Ipv4.{header_length_in, total_length_in}
use Rattle.siit_rules.specs.declared.rule.Rule.{Rule}
use Rattle.siit_rules.specs.declared.rule.Rule.TheVariants.{QuoteShort4, QuoteBad4, NestedTwice4, QuoteType4}
use Rattle.siit_checksum.proofs.Fields.{bytes-take, bytes-drop}
use Rattle.siit_v4to6.specs.To6.{is_echo4}
use Rattle.siit_quoted.specs.Quoted.{QuotedIpv4, quoted4_fields, quoted_fragment4}
use Rattle.siit_quoted.specs.Refusals.{is_short_quote4, is_bad_quote4, is_nested4, is_untranslated4, quote_refusal4}

or-none : (a b : Bool) → (a || b) ≡ false → (a ≡ false) × (b ≡ false)
or-none true b is = absurd (true≢false is)
or-none false b is = (refl, is)

and-none : (a b : Bool) → (a && b) ≡ false → a ≡ true → b ≡ false
and-none true b is one = is
and-none false b is one = absurd (true≢false (sym one))

differs : (p n : ℕ) → (p == n) ≡ false → p ≡ n → ⊥
differs p n is same = true≢false (sym (eq-eqb p n same) ∙ is)

tests : (short bad nested other : Bool) (a b c d : Rule)
    → (if short then Some a else if bad then Some b else if nested then Some c else if other then Some d else None) ≡ None → other ≡ false
tests true bad nested other a b c d is = absurd (cc)
tests false true nested other a b c d is = absurd (cc)
tests false false true other a b c d is = absurd (cc)
tests false false false true a b c d is = absurd (cc)
tests false false false false a b c d is = refl

-- what is told of the protocol and of ICMP
pub record IsTranslated (f : Fragment) : Type 0 where
  pub no_hop_options : f.common.protocol ≡ 0 → ⊥
  pub no_routing : f.common.protocol ≡ 43 → ⊥
  pub no_fragment : f.common.protocol ≡ 44 → ⊥
  pub no_icmp6 : f.common.protocol ≡ 58 → ⊥
  pub no_options : f.common.protocol ≡ 60 → ⊥
  pub whole : f.common.protocol ≡ 1 → is_whole f ≡ true
  pub long : f.common.protocol ≡ 1 → 8 ≤ length f.bytes
  pub echo : f.common.protocol ≡ 1 → is_echo4 f.bytes ≡ true

translated : (f : Fragment) → is_untranslated4 f ≡ false → IsTranslated f
translated f is =
    let p : ℕ = f.common.protocol in
    let both = or-none (list_any (λ y. p == y) (0 ∷ 2 ∷ 43 ∷ 44 ∷ 58 ∷ 60 ∷ []))
    ((p == 1) && (not (is_whole f) || nat_lt (length f.bytes) 8 || not (is_echo4 f.bytes))) is in
    let a = or-none (p == 0) (list_any (λ y. p == y) (2 ∷ 43 ∷ 44 ∷ 58 ∷ 60 ∷ [])) both.0 in
    let b = or-none (p == 2) (list_any (λ y. p == y) (43 ∷ 44 ∷ 58 ∷ 60 ∷ [])) a.1 in
    let c = or-none (p == 43) (list_any (λ y. p == y) (44 ∷ 58 ∷ 60 ∷ [])) b.1 in
    let d = or-none (p == 44) (list_any (λ y. p == y) (58 ∷ 60 ∷ [])) c.1 in
    let e = or-none (p == 58) (list_any (λ y. p == y) (60 ∷ [])) d.1 in
    let g = or-none (p == 60) (list_any (λ y. p == y) []) e.1 in
    let icmp = λ (one : p ≡ 1). or-none (not (is_whole f) || nat_lt (length f.bytes) 8) (not (is_echo4 f.bytes)) (and-none (p == 1) _ both.1 (eq-eqb p 1 one)) in
    let front = λ (one : p ≡ 1). or-none (not (is_whole f)) (nat_lt (length f.bytes) 8) (icmp one).0 in
    record {
      no_hop_options = differs p 0 a.0;
      no_routing = differs p 43 c.0;
      no_fragment = differs p 44 d.0;
      no_icmp6 = differs p 58 e.0;
      no_options = differs p 60 g.0;
      whole = λ one. not-false (is_whole f) (front one).0;
      long = λ one. ltb-false (length f.bytes) 8 (front one).1;
      echo = λ one. not-false (is_echo4 f.bytes) (icmp one).1;
    }

pub accepted-type : (bytes : List ℕ) → quote_refusal4 bytes ≡ None → IsTranslated (quoted_fragment4 (quoted4_fields bytes))
accepted-type bytes is =
    let f : Fragment = quoted_fragment4 (quoted4_fields bytes) in
    translated f (tests (is_short_quote4 bytes) (is_bad_quote4 bytes) (is_nested4 f) (is_untranslated4 f) QuoteShort4 QuoteBad4 NestedTwice4 QuoteType4 is)

-- the ranges of what is read
pub record HasRanges (quoted : QuotedIpv4) : Type 0 where
  pub tos : quoted.packet.tos < 256
  pub id : quoted.packet.id < 65536
  pub mf : quoted.packet.mf < 2
  pub offset : quoted.packet.offset < 8192
  pub bytes : AreBytes quoted.packet.payload
  pub there : length quoted.packet.payload ≤ quoted.sent

pub ranges : (bytes : List ℕ) → AreBytes bytes → HasRanges (quoted4_fields bytes)
ranges bytes small = record {
  tos = small 1;
  id = omega (arith, small 4, small 5);
  mf = omega arith;
  offset = omega arith;
  bytes = bytes-take (total_length_in bytes - header_length_in bytes) (drop (header_length_in bytes) bytes) (bytes-drop (header_length_in bytes) bytes small);
  there = omega (arith, length-take (total_length_in bytes - header_length_in bytes) (drop (header_length_in bytes) bytes));
}

pub total-small : (bytes : List ℕ) → AreBytes bytes → total_length_in bytes < 65536
total-small bytes small = omega (arith, small 2, small 3)
