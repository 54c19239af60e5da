-- One turn of the walk over the extension headers.
use Rattle.std.proofs.Common.{◌≡◌, ◌∙◌, ℕ, zero, suc, ◌+◌, ◌<◌, ◌≤◌, List, length, drop, Option, None, Bool, true, false, if◌then◌else◌, ◌==◌, Result, Ok, Err, arith, refl, sym, ap, length-drop}
use Rattle.siit_model.specs.Bytes.{field8}
use Rattle.siit_model.specs.Extensions.{extension_length, is_cut_short, is_passed, segments_with, walk_at_fragment, walk_from, Walked, Trouble, runs_short, out_of_order}
use Rattle.std.proofs.lemmas.List.{drop-drop}
use Rattle.std.proofs.lemmas.Bool.Decides.{nat_tests}

-- where an extension header isn't cut short, it has 8 bytes at least
long_enough : (rest : List ℕ) → is_cut_short rest ≡ false → 8 ≤ length rest
long_enough rest whole = grind (arith, nat_tests)

-- two choices that differ only where the test is false
same_otherwise : {A : Type 0} (test : Bool) (x y z : A) → (test ≡ false → x ≡ y) → (if test then z else x) ≡ (if test then z else y)
same_otherwise true x y z same = refl
same_otherwise false x y z same = same refl

-- a walk that has turns enough ends alike whatever their number
pub enough_turns : (turns more at next : ℕ) (segments : Option ℕ) (rest : List ℕ) → length rest < turns → length rest < more → walk_from turns at next segments rest ≡ walk_from more at next segments rest
enough_turns zero more at next segments rest few many = absurd (omega arith)
enough_turns (suc turns) zero at next segments rest few many = absurd (omega arith)
enough_turns (suc turns) (suc more) at next segments rest few many =
    let size : ℕ = extension_length rest in
    let ends : Result Walked Trouble =
    if next == 0 then Err out_of_order
    else if next == 44 then walk_at_fragment at segments rest
    else Ok (record { upper = next; at = at; fragment = None; segments = segments }) in
    ap (λ (passed : Result Walked Trouble). if is_passed at next then passed else ends)
    (same_otherwise (is_cut_short rest) (walk_from turns (at + size) (field8 rest 0) (segments_with at next segments rest) (drop size rest)) (walk_from more (at + size) (field8 rest 0) (segments_with at next segments rest) (drop size rest)) (Err runs_short)
    (λ whole.
    enough_turns turns more (at + size) (field8 rest 0) (segments_with at next segments rest) (drop size rest)
    (omega (arith, long_enough rest whole, length-drop size rest)) (omega (arith, long_enough rest whole, length-drop size rest))))

-- a header that is passed over: the walk goes on behind it
pub walk_from-passed : (at next : ℕ) (segments : Option ℕ) (rest : List ℕ) → is_passed at next ≡ true → is_cut_short rest ≡ false
    → walk_from (suc (length rest)) at next segments rest
    ≡ walk_from (suc (length (drop (extension_length rest) rest))) (at + extension_length rest) (field8 rest 0) (segments_with at next segments rest) (drop (extension_length rest) rest)
walk_from-passed at next segments rest passed whole =
    let size : ℕ = extension_length rest in
    rw (passed, whole)
    (enough_turns (length rest) (suc (length (drop size rest))) (at + size) (field8 rest 0) (segments_with at next segments rest) (drop size rest)
    (omega (arith, long_enough rest whole, length-drop size rest)) (omega arith))

-- the same of a walk over a packet's payload, which is at one place and then behind the header there
pub walk-goes_on : (payload rest : List ℕ) (at next len : ℕ) (segments later : Option ℕ) (whole : Result Walked Trouble)
    → rest ≡ drop at payload → is_passed at next ≡ true → is_cut_short rest ≡ false → len ≡ extension_length rest → later ≡ segments_with at next segments rest
    → whole ≡ walk_from (suc (length (drop at payload))) at next segments (drop at payload)
    → whole ≡ walk_from (suc (length (drop (at + len) payload))) (at + len) (field8 rest 0) later (drop (at + len) payload)
walk-goes_on payload rest at next len segments later whole is_rest passed enough is_len is_later so_far =
    let size : ℕ = extension_length rest in
    so_far
    ∙ ap (λ (l : List ℕ). walk_from (suc (length l)) at next segments l) (sym is_rest)
    ∙ walk_from-passed at next segments rest passed enough
    ∙ ap (λ (l : List ℕ). walk_from (suc (length l)) (at + size) (field8 rest 0) (segments_with at next segments rest) l) (ap (drop size) is_rest ∙ drop-drop size at payload)
    ∙ ap (λ (n : ℕ). walk_from (suc (length (drop (at + n) payload))) (at + n) (field8 rest 0) (segments_with at next segments rest) (drop (at + n) payload)) (sym is_len)
    ∙ ap (λ (s : Option ℕ). walk_from (suc (length (drop (at + len) payload))) (at + len) (field8 rest 0) s (drop (at + len) payload)) (sym is_later)

-- the walk at a Fragment header
pub walk-at_fragment : (payload rest : List ℕ) (at next : ℕ) (segments : Option ℕ) (whole : Result Walked Trouble)
    → rest ≡ drop at payload → next ≡ 44 → whole ≡ walk_from (suc (length (drop at payload))) at next segments (drop at payload)
    → walk_at_fragment at segments rest ≡ whole
walk-at_fragment payload rest at next segments whole is_rest is_fragment so_far =
    ap (walk_at_fragment at segments) is_rest
    ∙ sym (ap (λ (n : ℕ). walk_from (suc (length (drop at payload))) at n segments (drop at payload)) is_fragment) ∙ sym so_far
