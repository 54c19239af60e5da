-- What is known of an IPv4 packet where no rule on its upper part or its quote holds.
use Rattle.std.proofs.Common.{◌≡◌, ℕ, ◌≤◌, List, length, Bool, true, false, ◌&&◌, ◌||◌, ◌==◌, nat_lt, if◌then◌else◌, is_err, is_none, is_ok, is_some, Option, Some, None, Result, Ok, Err, ok_or, ap, refl}
use Rattle.std.proofs.lemmas.Bool.{eq-eqb, ltb-false}
use Rattle.std.specs.Result.{result_err}
use Rattle.siit_model.specs.Bytes.{field8}
use Rattle.siit_model.specs.Ipv4.{Ipv4Packet, ipv4_fields}
use Rattle.siit_rules.specs.declared.rule.Rule.{Rule}
use Rattle.siit_rules.specs.declared.rule.Rule.TheVariants.{IcmpType4, IcmpCode4, QuoteShort4, QuoteBad4, NestedTwice4, QuoteType4}
use Rattle.siit_icmp.specs.Icmp.{icmp_to_6, pointer_to_6, is_echo_kind4, echo_kind6, new, problem_to_6, unreachable_to_6}
use Rattle.siit_icmp.specs.declared.kinds.NewKind.{NewKind}
use Rattle.siit_icmp.specs.declared.kinds.Rest.{Rest}
use Rattle.siit_icmp.specs.declared.kinds.Rest.TheVariants.{Same, Zero, Mtu, Pointer, PointerSix, Length}
use Rattle.siit_map.specs.Mapping.{ipv6_for}
use Rattle.siit_quoted.specs.Quoted.{quoted4_fields, quoted_fragment4}
use Rattle.siit_quoted.specs.Refusals.{quote_refusal4, is_short_quote4, is_bad_quote4, is_nested4, is_untranslated4}
use Rattle.siit_roles.specs.declared.settings.Settings.{Settings}
use Rattle.siit_device.specs.Arrival4.{is_bare_dropped4, is_bare_mislength4, is_error4, is_pointer_refused4, quoted_part4}
use Rattle.siit_device.specs.Rows.{first_of, is_by}
use Rattle.siit_device.specs.Rules4.{quote_rows4, upper_rows4}
use Rattle.siit_device.specs.Shapes.{least_upper}
use Rattle.siit_device.proofs.Rows.{none-at}
use Rattle.siit_pair.specs.Same.{has_pointer6}

-- ICMP

pub record HasKind6 (message : List ℕ) : Type 0 where
  pub kind : NewKind
  pub is : icmp_to_6 (field8 message 0) (field8 message 1) ≡ Ok kind

kind-by : (a b c d : Bool) (x y : Option NewKind) (k l : NewKind) (r : Result NewKind Rule)
    → r ≡ (if a then Ok k else if b then ok_or x IcmpCode4 else if c then Ok l else if d then ok_or y IcmpCode4 else Err IcmpType4)
    → is_by IcmpType4 (result_err r) ≡ false → is_by IcmpCode4 (result_err r) ≡ false → (n : NewKind) × (r ≡ Ok n)
kind-by true b c d x y k l r is e f = (k, is)
kind-by false true c d None y k l r is e f = absurd (cc)
kind-by false true c d (Some n) y k l r is e f = (n, is)
kind-by false false true d x y k l r is e f = (l, is)
kind-by false false false true x None k l r is e f = absurd (cc)
kind-by false false false true x (Some n) k l r is e f = (n, is)
kind-by false false false false x y k l r is e f = absurd (cc)

pub second : (a b : Bool) → (a && b) ≡ false → a ≡ true → b ≡ false
second true b e f = e
second false b e f = cc

-- UPPER PARTS

pub record HasUpper4 (settings : Settings) (d : Ipv4Packet) : Type 0 where
  pub long : least_upper 1 d.protocol ≤ length d.payload
  pub dropped : is_bare_dropped4 settings d ≡ false
  pub mislength : is_bare_mislength4 d ≡ false
  pub kind : d.protocol ≡ 1 → HasKind6 d.payload
  pub pointer : is_pointer_refused4 d ≡ false

pub has-upper4 : (settings : Settings) (d : Ipv4Packet) → d.offset ≡ 0 → first_of (upper_rows4 settings) d ≡ None → HasUpper4 settings d
unfolding upper_rows4
has-upper4 settings d whole none =
    let kind : ℕ = field8 d.payload 0 in
    let code : ℕ = field8 d.payload 1 in
    record {
      long = ltb-false (length d.payload) (least_upper 1 d.protocol)
          (second (d.offset == 0) (nat_lt (length d.payload) (least_upper 1 d.protocol)) (none-at 0 (upper_rows4 settings) d none) (eq-eqb d.offset 0 whole));
      dropped = none-at 3 (upper_rows4 settings) d none;
      mislength = none-at 4 (upper_rows4 settings) d none;
      kind = λ icmp.
          let found = kind-by (is_echo_kind4 kind) (kind == 3) (kind == 11) (kind == 12) (unreachable_to_6 code) (problem_to_6 code)
          (new (echo_kind6 kind) code Same) (new 3 code Length) (icmp_to_6 kind code) refl
          (second (d.protocol == 1) _ (none-at 5 (upper_rows4 settings) d none) (eq-eqb d.protocol 1 icmp))
          (second (d.protocol == 1) _ (none-at 6 (upper_rows4 settings) d none) (eq-eqb d.protocol 1 icmp)) in
          record { kind = found.0; is = found.1 };
      pointer = none-at 7 (upper_rows4 settings) d none;
    }

-- QUOTES

-- the quote of an ICMP error is accepted, and its addresses are mapped
pub record HasQuote4 (settings : Settings) (message : List ℕ) : Type 0 where
  pub accepted : quote_refusal4 (quoted_part4 message) ≡ None
  pub source : is_ok (ipv6_for settings.mapping (ipv4_fields (quoted_part4 message)).source) ≡ true
  pub destination : is_ok (ipv6_for settings.mapping (ipv4_fields (quoted_part4 message)).destination) ≡ true

refusal-by : (a b c d : Bool) (r : Option Rule)
    → r ≡ (if a then Some QuoteShort4 else if b then Some QuoteBad4 else if c then Some NestedTwice4 else if d then Some QuoteType4 else None)
    → is_by QuoteShort4 r ≡ false → is_by QuoteBad4 r ≡ false → is_by NestedTwice4 r ≡ false → is_by QuoteType4 r ≡ false → r ≡ None
refusal-by true b c d r is e f g h = absurd (cc)
refusal-by false true c d r is e f g h = absurd (cc)
refusal-by false false true d r is e f g h = absurd (cc)
refusal-by false false false true r is e f g h = absurd (cc)
refusal-by false false false false r is e f g h = is

pub both-ok : {A B C D : Type 0} (r : Result A B) (s : Result C D) → (is_err r || is_err s) ≡ false → (is_ok r ≡ true) × (is_ok s ≡ true)
both-ok (Ok x) (Ok y) e = (refl, refl)
both-ok (Ok x) (Err y) e = (cc, cc)
both-ok (Err x) s e = (cc, cc)

pub has-quote4 : (settings : Settings) (d : Ipv4Packet) → is_error4 d ≡ true → first_of (quote_rows4 settings) d ≡ None → HasQuote4 settings d.payload
unfolding quote_rows4
has-quote4 settings d error none =
    let part : List ℕ = quoted_part4 d.payload in
    let f = quoted_fragment4 (quoted4_fields part) in
    let quoted : Ipv4Packet = ipv4_fields part in
    let mapped = both-ok (ipv6_for settings.mapping quoted.source) (ipv6_for settings.mapping quoted.destination)
    (second (is_error4 d) _ (none-at 4 (quote_rows4 settings) d none) error) in
    record {
      accepted = refusal-by (is_short_quote4 part) (is_bad_quote4 part) (is_nested4 f) (is_untranslated4 f) (quote_refusal4 part) refl
          (second (is_error4 d) _ (none-at 0 (quote_rows4 settings) d none) error)
          (second (is_error4 d) _ (none-at 1 (quote_rows4 settings) d none) error)
          (second (is_error4 d) _ (none-at 2 (quote_rows4 settings) d none) error)
          (second (is_error4 d) _ (none-at 3 (quote_rows4 settings) d none) error);
      source = mapped.0;
      destination = mapped.1;
    }

-- POINTERS

unreachable-by : (a b c d f : Bool) (n : NewKind)
    → (if a then Some (new 1 0 Length) else if b then Some (new 4 1 PointerSix) else if c then Some (new 1 4 Length)
    else if d then Some (new 2 0 Mtu) else if f then Some (new 1 1 Length) else None) ≡ Some n
    → n.rest ≡ Pointer → ⊥
unreachable-by true b c d f n e p = cc
unreachable-by false true c d f n e p = cc
unreachable-by false false true d f n e p = cc
unreachable-by false false false true f n e p = cc
unreachable-by false false false false true n e p = cc
unreachable-by false false false false false n e p = cc

pointer-by : (a b c d : Bool) (x y : Option NewKind) (k l n : NewKind)
    → (if a then Ok k else if b then ok_or x IcmpCode4 else if c then Ok l else if d then ok_or y IcmpCode4 else Err IcmpType4) ≡ Ok n
    → n.rest ≡ Pointer → (k.rest ≡ Pointer → ⊥) → (l.rest ≡ Pointer → ⊥) → ((m : NewKind) → x ≡ Some m → m.rest ≡ Pointer → ⊥) → d ≡ true
pointer-by true b c d x y k l n e p not_k not_l not_x = let same : k ≡ n = cc in absurd (not_k (rw same p))
pointer-by false true c d None y k l n e p not_k not_l not_x = cc
pointer-by false true c d (Some x) y k l n e p not_k not_l not_x = let same : x ≡ n = cc in absurd (not_x n (ap Some same) p)
pointer-by false false true d x y k l n e p not_k not_l not_x = let same : l ≡ n = cc in absurd (not_l (rw same p))
pointer-by false false false true x y k l n e p not_k not_l not_x = refl
pointer-by false false false false x y k l n e p not_k not_l not_x = cc

pub some-from_not_none : {X : Type 0} (o : Option X) → is_none o ≡ false → is_some o ≡ true
some-from_not_none None e = cc
some-from_not_none (Some x) e = refl

pointer-at : (rest : Rest) (message : List ℕ) → (rest ≡ Pointer → is_some (pointer_to_6 (field8 message 4)) ≡ true) → has_pointer6 rest message ≡ true
pointer-at Same message there = refl
pointer-at Zero message there = refl
pointer-at Mtu message there = refl
pointer-at Pointer message there = there refl
pointer-at PointerSix message there = refl
pointer-at Length message there = refl

third : (a b c : Bool) → (a && b && c) ≡ false → a ≡ true → b ≡ true → c ≡ false
third true true c e f g = e
third true false c e f g = cc
third false b c e f g = cc

pub has-pointer6 : (d : Ipv4Packet) (n : NewKind) → d.protocol ≡ 1 → icmp_to_6 (field8 d.payload 0) (field8 d.payload 1) ≡ Ok n
    → is_pointer_refused4 d ≡ false → has_pointer6 n.rest d.payload ≡ true
has-pointer6 d n icmp is kept =
    let kind : ℕ = field8 d.payload 0 in
    let code : ℕ = field8 d.payload 1 in
    pointer-at n.rest d.payload (λ p.
    let problem : (kind == 12) ≡ true =
    pointer-by (is_echo_kind4 kind) (kind == 3) (kind == 11) (kind == 12) (unreachable_to_6 code) (problem_to_6 code)
    (new (echo_kind6 kind) code Same) (new 3 code Length) n is p (λ q. cc) (λ q. cc) (λ m x. unreachable-by _ _ _ _ _ m x) in
    some-from_not_none (pointer_to_6 (field8 d.payload 4))
    (third (d.protocol == 1) (kind == 12) (is_none (pointer_to_6 (field8 d.payload 4))) kept (eq-eqb d.protocol 1 icmp) problem))
