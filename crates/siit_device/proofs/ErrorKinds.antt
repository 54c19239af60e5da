-- An ICMP error that is translated is an error on the other side.
use Rattle.std.proofs.Common.{◌≡◌, ℕ, Bool, true, false, ◌==◌, if◌then◌else◌, Option, Some, None, ok_or, Result, Ok, Err, ◌∙◌, ap, sym, refl, arith}
use Rattle.std.specs.Result.{result_err}
use Rattle.std.proofs.lemmas.Bool.Decides.{nat_tests}
use Rattle.siit_rules.specs.declared.rule.Rule.{Rule}
use Rattle.siit_rules.specs.declared.rule.Rule.TheVariants.{IcmpCode4, IcmpCode6, IcmpType4, IcmpType6}
use Rattle.siit_icmp.specs.Errors.{is_error_kind4, is_error_kind6}
use Rattle.siit_icmp.specs.Icmp.{icmp_to_4, icmp_to_6, is_echo_kind4, is_echo_kind6, problem_to_4, problem_to_6, unreachable_to_4, unreachable_to_6}
use Rattle.siit_icmp.specs.declared.kinds.NewKind.{NewKind}
use Rattle.siit_device.specs.Rows.{is_by}

-- a message that becomes one of these kinds
abbrev pub Becomes : (kinds : ℕ → Bool) → Result NewKind Rule → Type 0
Becomes kinds r = (new : NewKind) × ((r ≡ Ok new) × (kinds new.kind ≡ true))

abbrev AllOf : (kinds : ℕ → Bool) → Option NewKind → Type 0
AllOf kinds found = (new : NewKind) → found ≡ Some new → kinds new.kind ≡ true

inner : (one other : NewKind) → Some one ≡ Some other → one ≡ other
inner one other same = cc

kind-of : (kinds : ℕ → Bool) (one other : NewKind) → Some one ≡ Some other → kinds one.kind ≡ true → kinds other.kind ≡ true
kind-of kinds one other same is = ap (λ (n : NewKind). kinds n.kind) (sym (inner one other same)) ∙ is

from-found : (kinds : ℕ → Bool) (code : Rule) (found : Option NewKind) → is_by code (result_err (ok_or found code)) ≡ false → (is_by code (Some code) ≡ true) → AllOf kinds found
    → Becomes kinds (ok_or found code)
from-found kinds code (Some new) passes by all = (new, (refl, all new refl))
from-found kinds code None passes by all = cc

one-found : (kinds : ℕ → Bool) (a : Bool) (one : NewKind) → kinds one.kind ≡ true → AllOf kinds (if a then Some one else None)
one-found kinds true one k = λ new is. kind-of kinds one new is k
one-found kinds false one k = λ new is. cc

two-found : (kinds : ℕ → Bool) (a b : Bool) (one two : NewKind) → kinds one.kind ≡ true → kinds two.kind ≡ true → AllOf kinds (if a then Some one else if b then Some two else None)
two-found kinds true b one two k1 k2 = λ new is. kind-of kinds one new is k1
two-found kinds false b one two k1 k2 = one-found kinds b two k2

three-found : (kinds : ℕ → Bool) (a b c : Bool) (one two three : NewKind) → kinds one.kind ≡ true → kinds two.kind ≡ true → kinds three.kind ≡ true
    → AllOf kinds (if a then Some one else if b then Some two else if c then Some three else None)
three-found kinds true b c one two three k1 k2 k3 = λ new is. kind-of kinds one new is k1
three-found kinds false b c one two three k1 k2 k3 = two-found kinds b c two three k2 k3

-- TO IPv6

unreachable6 : (a b c d e : Bool) (one two three four five : NewKind) → is_error_kind6 one.kind ≡ true → is_error_kind6 two.kind ≡ true → is_error_kind6 three.kind ≡ true
    → is_error_kind6 four.kind ≡ true → is_error_kind6 five.kind ≡ true
    → AllOf is_error_kind6 (if a then Some one else if b then Some two else if c then Some three else if d then Some four else if e then Some five else None)
unreachable6 true b c d e one two three four five k1 k2 k3 k4 k5 = λ new is. kind-of is_error_kind6 one new is k1
unreachable6 false true c d e one two three four five k1 k2 k3 k4 k5 = λ new is. kind-of is_error_kind6 two new is k2
unreachable6 false false true d e one two three four five k1 k2 k3 k4 k5 = λ new is. kind-of is_error_kind6 three new is k3
unreachable6 false false false true e one two three four five k1 k2 k3 k4 k5 = λ new is. kind-of is_error_kind6 four new is k4
unreachable6 false false false false e one two three four five k1 k2 k3 k4 k5 = one-found is_error_kind6 e five k5

no-echo4 : (kind : ℕ) → is_error_kind4 kind ≡ true → is_echo_kind4 kind ≡ false
no-echo4 kind error = grind (arith, nat_tests)

chosen6 : (echo three eleven twelve : Bool) (unreachable problem : Option NewKind) (reply exceeded : NewKind) → echo ≡ false
    → AllOf is_error_kind6 unreachable → AllOf is_error_kind6 problem → is_error_kind6 exceeded.kind ≡ true →
    let r : Result NewKind Rule =
    if echo then Ok reply
    else if three then ok_or unreachable IcmpCode4
    else if eleven then Ok exceeded
    else if twelve then ok_or problem IcmpCode4
    else Err IcmpType4 in
    is_by IcmpType4 (result_err r) ≡ false → is_by IcmpCode4 (result_err r) ≡ false → Becomes is_error_kind6 r
chosen6 true three eleven twelve unreachable problem reply exceeded no_echo u p k kind code = cc
chosen6 false true eleven twelve unreachable problem reply exceeded no_echo u p k kind code = from-found is_error_kind6 IcmpCode4 unreachable code refl u
chosen6 false false true twelve unreachable problem reply exceeded no_echo u p k kind code = (exceeded, (refl, k))
chosen6 false false false true unreachable problem reply exceeded no_echo u p k kind code = from-found is_error_kind6 IcmpCode4 problem code refl p
chosen6 false false false false unreachable problem reply exceeded no_echo u p k kind code = cc

pub kinds6 : (kind code : ℕ) → is_error_kind4 kind ≡ true → is_by IcmpType4 (result_err (icmp_to_6 kind code)) ≡ false → is_by IcmpCode4 (result_err (icmp_to_6 kind code)) ≡ false
    → Becomes is_error_kind6 (icmp_to_6 kind code)
kinds6 kind code error type_passes code_passes =
    chosen6 (is_echo_kind4 kind) (kind == 3) (kind == 11) (kind == 12) (unreachable_to_6 code) (problem_to_6 code) _ _ (no-echo4 kind error)
    (unreachable6 _ (code == 2) (code == 3) (code == 4) _ _ _ _ _ _ refl refl refl refl refl) (one-found is_error_kind6 _ _ refl) refl type_passes code_passes

-- TO IPv4

no-echo6 : (kind : ℕ) → is_error_kind6 kind ≡ true → is_echo_kind6 kind ≡ false
no-echo6 kind error = grind (arith, nat_tests)

chosen4 : (echo one two three four : Bool) (unreachable problem : Option NewKind) (reply big exceeded : NewKind) → echo ≡ false
    → AllOf is_error_kind4 unreachable → AllOf is_error_kind4 problem → is_error_kind4 big.kind ≡ true → is_error_kind4 exceeded.kind ≡ true →
    let r : Result NewKind Rule =
    if echo then Ok reply
    else if one then ok_or unreachable IcmpCode6
    else if two then Ok big
    else if three then Ok exceeded
    else if four then ok_or problem IcmpCode6
    else Err IcmpType6 in
    is_by IcmpType6 (result_err r) ≡ false → is_by IcmpCode6 (result_err r) ≡ false → Becomes is_error_kind4 r
chosen4 true one two three four unreachable problem reply big exceeded no_echo u p k1 k2 kind code = cc
chosen4 false true two three four unreachable problem reply big exceeded no_echo u p k1 k2 kind code = from-found is_error_kind4 IcmpCode6 unreachable code refl u
chosen4 false false true three four unreachable problem reply big exceeded no_echo u p k1 k2 kind code = (big, (refl, k1))
chosen4 false false false true four unreachable problem reply big exceeded no_echo u p k1 k2 kind code = (exceeded, (refl, k2))
chosen4 false false false false true unreachable problem reply big exceeded no_echo u p k1 k2 kind code = from-found is_error_kind4 IcmpCode6 problem code refl p
chosen4 false false false false false unreachable problem reply big exceeded no_echo u p k1 k2 kind code = cc

pub kinds4 : (kind code : ℕ) → is_error_kind6 kind ≡ true → is_by IcmpType6 (result_err (icmp_to_4 kind code)) ≡ false → is_by IcmpCode6 (result_err (icmp_to_4 kind code)) ≡ false
    → Becomes is_error_kind4 (icmp_to_4 kind code)
kinds4 kind code error type_passes code_passes =
    chosen4 (is_echo_kind6 kind) (kind == 1) (kind == 2) (kind == 3) (kind == 4) (unreachable_to_4 code) (problem_to_4 code) _ _ _ (no-echo6 kind error)
    (three-found is_error_kind4 _ (code == 1) (code == 4) _ _ _ refl refl refl) (two-found is_error_kind4 (code == 0) (code == 1) _ _ refl refl) refl refl type_passes code_passes
