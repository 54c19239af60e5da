-- What is known of an ICMPv6 error where no rule on its upper part or its quote holds.
use Rattle.std.proofs.Common.{◌≡◌, ℕ, ◌≤◌, List, length, Bool, true, false, not, ◌&&◌, ◌||◌, ◌==◌, nat_lt, if◌then◌else◌, is_err, is_none, is_ok, is_some, Option, Some, None, Result, Ok, Err, ok_or, ap, refl, arith, eq-eqb}
use Rattle.std.proofs.lemmas.Bool.{ltb-false}
use Rattle.std.specs.Result.{result_err}
use Rattle.siit_model.specs.Bytes.{field8, field32}
use Rattle.siit_model.specs.Extensions.{Walked, Trouble, runs_short, out_of_order, behind_fragment}
use Rattle.siit_model.specs.Ipv6.{Ipv6Packet, ipv6_fields, version6_in}
use Rattle.siit_rules.specs.declared.rule.Rule.{Rule}
use Rattle.siit_rules.specs.declared.rule.Rule.TheVariants.{IcmpType6, IcmpCode6, QuoteShort6, QuoteBad6, NestedTwice6, QuoteType6}
use Rattle.siit_icmp.specs.Icmp.{icmp_to_4, pointer_to_4, is_echo_kind6, echo_kind4, new, problem_to_4, unreachable_to_4}
use Rattle.siit_icmp.specs.declared.kinds.NewKind.{NewKind}
use Rattle.siit_icmp.specs.declared.kinds.Rest.{Rest}
use Rattle.siit_icmp.specs.declared.kinds.Rest.TheVariants.{Same, Zero, Mtu, Pointer, PointerSix, Length}
use Rattle.siit_map.specs.Mapping.{ipv4_for}
use Rattle.siit_quoted.specs.Quoted.{quoted6_fields, quoted_fragment6}
use Rattle.siit_quoted.specs.Refusals.{quote_refusal6, refusal_by_walk6, is_bad_quote6, is_nested6, is_untranslated6}
use Rattle.siit_roles.specs.declared.settings.Settings.{Settings}
use Rattle.siit_v6to4.specs.To4.{walk_in}
use Rattle.siit_device.specs.Arrival6.{Arrived, arrived_fragment, arrived_part, is_error6, is_pair, quote_turn_for, quoted_part6, turn_for}
use Rattle.siit_device.specs.Rows.{first_of, is_by}
use Rattle.siit_device.specs.Rules6.{quote_rows6, upper_rows6}
use Rattle.siit_device.specs.Shapes.{least_upper}
use Rattle.siit_device.proofs.Rows.{none-at}
use Rattle.siit_pair.specs.Same.{has_pointer4}
use Rattle.siit_pair.proofs.Conditions4.{both-ok, second, some-from_not_none}

-- ICMP

kind-by : (a b c d e : Bool) (x y : Option NewKind) (k l m : NewKind) (r : Result NewKind Rule)
    → r ≡ (if a then Ok k else if b then ok_or x IcmpCode6 else if c then Ok l else if d then Ok m else if e then ok_or y IcmpCode6 else Err IcmpType6)
    → is_by IcmpType6 (result_err r) ≡ false → is_by IcmpCode6 (result_err r) ≡ false → (n : NewKind) × (r ≡ Ok n)
kind-by true b c d e x y k l m r is f g = (k, is)
kind-by false true c d e None y k l m r is f g = absurd (cc)
kind-by false true c d e (Some n) y k l m r is f g = (n, is)
kind-by false false true d e x y k l m r is f g = (l, is)
kind-by false false false true e x y k l m r is f g = (m, is)
kind-by false false false false true x None k l m r is f g = absurd (cc)
kind-by false false false false true x (Some n) k l m r is f g = (n, is)
kind-by false false false false false x y k l m r is f g = absurd (cc)

-- POINTERS

unreachable-by : (a b c : Bool) (n : NewKind)
    → (if a then Some (new 3 1 Length) else if b then Some (new 3 10 Length) else if c then Some (new 3 3 Length) else None) ≡ Some n
    → n.rest ≡ Pointer → ⊥
unreachable-by true b c n e p = cc
unreachable-by false true c n e p = cc
unreachable-by false false true n e p = cc
unreachable-by false false false n e p = cc

problem-by : (a b : Bool) (n : NewKind) → (if a then Some (new 12 0 Pointer) else if b then Some (new 3 2 Zero) else None) ≡ Some n
    → n.rest ≡ Pointer → a ≡ true
problem-by true b n e p = refl
problem-by false true n e p = cc
problem-by false false n e p = cc

pointer-by : (a b c d f g : Bool) (x y : Option NewKind) (k l m n : NewKind)
    → (if a then Ok k else if b then ok_or x IcmpCode6 else if c then Ok l else if d then Ok m else if f then ok_or y IcmpCode6 else Err IcmpType6) ≡ Ok n
    → n.rest ≡ Pointer → (k.rest ≡ Pointer → ⊥) → (l.rest ≡ Pointer → ⊥) → (m.rest ≡ Pointer → ⊥)
    → ((o : NewKind) → x ≡ Some o → o.rest ≡ Pointer → ⊥) → ((o : NewKind) → y ≡ Some o → o.rest ≡ Pointer → g ≡ true) → (f ≡ true) × (g ≡ true)
pointer-by true b c d f g x y k l m n e p not_k not_l not_m not_x is_y = let same : k ≡ n = cc in absurd (not_k (rw same p))
pointer-by false true c d f g None y k l m n e p not_k not_l not_m not_x is_y = cc
pointer-by false true c d f g (Some x) y k l m n e p not_k not_l not_m not_x is_y = let same : x ≡ n = cc in absurd (not_x n (ap Some same) p)
pointer-by false false true d f g x y k l m n e p not_k not_l not_m not_x is_y = let same : l ≡ n = cc in absurd (not_l (rw same p))
pointer-by false false false true f g x y k l m n e p not_k not_l not_m not_x is_y = let same : m ≡ n = cc in absurd (not_m (rw same p))
pointer-by false false false false true g x None k l m n e p not_k not_l not_m not_x is_y = cc
pointer-by false false false false true g x (Some y) k l m n e p not_k not_l not_m not_x is_y = let same : y ≡ n = cc in (refl, is_y n (ap Some same) p)
pointer-by false false false false false g x y k l m n e p not_k not_l not_m not_x is_y = cc

pointer-at : (rest : Rest) (message : List ℕ) → (rest ≡ Pointer → is_some (pointer_to_4 (field32 message 4)) ≡ true) → has_pointer4 rest message ≡ true
pointer-at Same message there = refl
pointer-at Zero message there = refl
pointer-at Mtu message there = refl
pointer-at Pointer message there = there refl
pointer-at PointerSix message there = refl
pointer-at Length message there = refl

third : (a b c d : Bool) → (a && b && c && d) ≡ false → a ≡ true → b ≡ true → c ≡ true → d ≡ false
third true true true d e f g h = e
third true true false d e f g h = cc
third true false c d e f g h = cc
third false b c d e f g h = cc

-- UPPER PARTS

-- an ICMPv6 message that no rule on its upper part drops
pub record HasUpper6 (message : List ℕ) : Type 0 where
  pub long : 8 ≤ length message
  pub kind : NewKind
  pub is : icmp_to_4 (field8 message 0) (field8 message 1) ≡ Ok kind
  pub pointer : has_pointer4 kind.rest message ≡ true

least-of : (protocol : ℕ) → protocol ≡ 58 → least_upper 58 protocol ≡ 8
least-of protocol icmp = rw icmp refl

pub has-upper6 : (arrived : Arrived) → arrived.walked.upper ≡ 58 → (arrived_fragment arrived).offset ≡ 0 → first_of upper_rows6 arrived ≡ None
    → HasUpper6 (arrived_fragment arrived).bytes
unfolding upper_rows6
has-upper6 arrived icmp whole none =
    let message : List ℕ = (arrived_fragment arrived).bytes in
    let kind : ℕ = field8 message 0 in
    let code : ℕ = field8 message 1 in
    let is_icmp : (arrived.walked.upper == 58) ≡ true = eq-eqb arrived.walked.upper 58 icmp in
    let found = kind-by (is_echo_kind6 kind) (kind == 1) (kind == 2) (kind == 3) (kind == 4) (unreachable_to_4 code) (problem_to_4 code)
    (new (echo_kind4 kind) code Same) (new 3 4 Mtu) (new 11 code Length) (icmp_to_4 kind code) refl
    (second (arrived.walked.upper == 58) _ (none-at 2 upper_rows6 arrived none) is_icmp)
    (second (arrived.walked.upper == 58) _ (none-at 3 upper_rows6 arrived none) is_icmp) in
    let n : NewKind = found.0 in
    record {
      long = let least = ltb-false (length message) _
          (second ((arrived_fragment arrived).offset == 0) _ (none-at 0 upper_rows6 arrived none) (eq-eqb (arrived_fragment arrived).offset 0 whole)) in
          omega (arith, least, least-of arrived.walked.upper icmp);
      kind = n;
      is = found.1;
      pointer = pointer-at n.rest message (λ p.
          let problem = pointer-by (is_echo_kind6 kind) (kind == 1) (kind == 2) (kind == 3) (kind == 4) (code == 0) (unreachable_to_4 code) (problem_to_4 code)
          (new (echo_kind4 kind) code Same) (new 3 4 Mtu) (new 11 code Length) n found.1 p (λ q. cc) (λ q. cc) (λ q. cc)
          (λ m x. unreachable-by _ _ _ m x) (λ m x. problem-by _ _ m x) in
          some-from_not_none (pointer_to_4 (field32 message 4))
          (third (arrived.walked.upper == 58) (kind == 4) (code == 0) (is_none (pointer_to_4 (field32 message 4))) (none-at 4 upper_rows6 arrived none) is_icmp problem.0 problem.1));
    }

-- QUOTES

-- the quote of an ICMPv6 error is accepted, and its addresses are mapped
pub record HasQuote6 (settings : Settings) (message : List ℕ) : Type 0 where
  pub accepted : quote_refusal6 (quoted_part6 message) ≡ None
  pub source : is_ok (ipv4_for settings.mapping (ipv6_fields (quoted_part6 message)).source) ≡ true
  pub destination : is_ok (ipv4_for settings.mapping (ipv6_fields (quoted_part6 message)).destination) ≡ true

-- a refusal that is none of four
record IsNone4 (r : Option Rule) : Type 0 where
  short : is_by QuoteShort6 r ≡ false
  bad : is_by QuoteBad6 r ≡ false
  nested : is_by NestedTwice6 r ≡ false
  kind : is_by QuoteType6 r ≡ false

walked-by : (a b c : Bool) (r : Option Rule) → r ≡ (if a then Some QuoteBad6 else if b then Some NestedTwice6 else if c then Some QuoteType6 else None)
    → IsNone4 r → r ≡ None
walked-by true b c r is e = let no : is_by QuoteBad6 r ≡ false = e.bad in absurd (cc)
walked-by false true c r is e = let no : is_by NestedTwice6 r ≡ false = e.nested in absurd (cc)
walked-by false false true r is e = let no : is_by QuoteType6 r ≡ false = e.kind in absurd (cc)
walked-by false false false r is e = is

walk-by : (part : List ℕ) (walk : Result Walked Trouble) (r : Option Rule) → r ≡ refusal_by_walk6 part walk → IsNone4 r → r ≡ None
walk-by part (Err runs_short) r is e = let no : is_by QuoteShort6 r ≡ false = e.short in absurd (cc)
walk-by part (Err out_of_order) r is e = let no : is_by QuoteBad6 r ≡ false = e.bad in absurd (cc)
walk-by part (Err behind_fragment) r is e = let no : is_by QuoteBad6 r ≡ false = e.bad in absurd (cc)
walk-by part (Ok walked) r is e =
    let quoted = quoted6_fields walked part in
    walked-by (is_bad_quote6 quoted) (is_nested6 (quoted_fragment6 quoted)) (is_untranslated6 (quoted_fragment6 quoted)) r is e

refusal-by : (a b : Bool) (x r : Option Rule) → r ≡ (if a then Some QuoteShort6 else if b then Some QuoteBad6 else x) → IsNone4 r → (r ≡ x → r ≡ None) → r ≡ None
refusal-by true b x r is e next = let no : is_by QuoteShort6 r ≡ false = e.short in absurd (cc)
refusal-by false true x r is e next = let no : is_by QuoteBad6 r ≡ false = e.bad in absurd (cc)
refusal-by false false x r is e next = next is

first-two : (a b c : Bool) → ((a || b) || c) ≡ false → (a || b) ≡ false
first-two true b c e = cc
first-two false true c e = cc
first-two false false c e = refl

pub has-quote6 : (settings : Settings) (arrived : Arrived) → is_error6 (arrived_fragment arrived) ≡ true → first_of (quote_rows6 settings) arrived ≡ None
    → HasQuote6 settings (arrived_fragment arrived).bytes
unfolding quote_rows6
has-quote6 settings arrived error none =
    let part : List ℕ = arrived_part arrived in
    let quoted : Ipv6Packet = ipv6_fields part in
    let is : Bool = is_error6 (arrived_fragment arrived) in
    let mapped = both-ok (ipv4_for settings.mapping quoted.source) (ipv4_for settings.mapping quoted.destination)
    (first-two (is_err (ipv4_for settings.mapping quoted.source)) (is_err (ipv4_for settings.mapping quoted.destination))
    (is_pair (turn_for settings arrived) && not (is_pair (quote_turn_for settings part))) (second is _ (none-at 4 (quote_rows6 settings) arrived none) error)) in
    let kept : IsNone4 (quote_refusal6 part) = record {
      short = second is _ (none-at 0 (quote_rows6 settings) arrived none) error;
      bad = second is _ (none-at 1 (quote_rows6 settings) arrived none) error;
      nested = second is _ (none-at 2 (quote_rows6 settings) arrived none) error;
      kind = second is _ (none-at 3 (quote_rows6 settings) arrived none) error;
    } in
    record {
      accepted = refusal-by (nat_lt (length part) 40) (not (version6_in part == 6)) (refusal_by_walk6 part (walk_in part)) (quote_refusal6 part) refl kept
          (λ f. walk-by part (walk_in part) (quote_refusal6 part) f kept);
      source = mapped.0;
      destination = mapped.1;
    }
