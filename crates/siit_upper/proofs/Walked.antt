-- What a walk over bytes finds.
use Rattle.std.proofs.Common.{◌≡◌, ◌⊎◌, ℕ, zero, suc, ◌+◌, ◌/◌, ◌<◌, List, length, drop, Bool, true, false, ◌==◌, nat_lt, if◌then◌else◌, Option, Some, None, Result, Ok, Err, subst, inl, inr, ⊎_elim, arith}
use Rattle.siit_model.specs.Bytes.{AreBytes, field8, field16}
use Rattle.siit_model.specs.Extensions.{Walked, Trouble, runs_short, out_of_order, behind_fragment, is_passed, is_extension, extension_length, is_cut_short, segments_with, fragment_fields, walk_at_fragment, walk_from, walk_of}
use Rattle.siit_checksum.proofs.Fields.{bytes-drop, field16-small, field32-small}
use Rattle.siit_upper.specs.Laws.{HasRoom}

-- the branch that gave an answer
answered : (passed short first fragment : Bool) (a b : Result Walked Trouble) (c w : Walked)
    → (if passed then (if short then Err runs_short else a) else if first then Err out_of_order else if fragment then b else Ok c) ≡ Ok w
    → (a ≡ Ok w) ⊎ ((b ≡ Ok w) ⊎ (c ≡ w))
answered true true first fragment a b c w e = absurd cc
answered true false first fragment a b c w e = inl e
answered false short true fragment a b c w e = absurd cc
answered false short false true a b c w e = inr (inl e)
answered false short false false a b c w e = inr (inr cc)

answered-fragment : (short behind : Bool) (c w : Walked) → (if short then Err runs_short else if behind then Err behind_fragment else Ok c) ≡ Ok w → c ≡ w
answered-fragment true behind c w e = absurd cc
answered-fragment false true c w e = absurd cc
answered-fragment false false c w e = cc

at-fragment : (at : ℕ) (segments : Option ℕ) (rest : List ℕ) (w : Walked) → AreBytes rest → walk_at_fragment at segments rest ≡ Ok w → HasRoom w
at-fragment at segments rest w small e =
    let two = field16-small rest 2 small in
    let four = field32-small rest 4 small in
    subst (λ x. HasRoom x)
    (answered-fragment (nat_lt (length rest) 8) (is_extension (field8 rest 0))
    (record { upper = field8 rest 0; at = at + 8; fragment = Some (fragment_fields rest); segments = segments }) w e)
    (record { upper = small 0; offset = eighth (field16 rest 2) two; id = four })
  where
    eighth : (n : ℕ) → n < 65536 → n / 8 < 8192
    eighth n h = omega arith

walk-in_range : (turns at next : ℕ) (segments : Option ℕ) (rest : List ℕ) (w : Walked) → AreBytes rest → next < 256 → walk_from turns at next segments rest ≡ Ok w → HasRoom w
walk-in_range zero at next segments rest w small byte e = absurd cc
walk-in_range (suc turns) at next segments rest w small byte e =
    ⊎_elim
    (λ on. walk-in_range turns (at + extension_length rest) (field8 rest 0) (segments_with at next segments rest) (drop (extension_length rest) rest) w
    (bytes-drop (extension_length rest) rest small) (small 0) on)
    (λ stop. ⊎_elim (λ fragment. at-fragment at segments rest w small fragment)
    (λ plain. subst (λ x. HasRoom x) plain (record { upper = byte; offset = omega arith; id = omega arith })) stop)
    (answered (is_passed at next) (is_cut_short rest) (next == 0) (next == 44)
    (walk_from turns (at + extension_length rest) (field8 rest 0) (segments_with at next segments rest) (drop (extension_length rest) rest)) (walk_at_fragment at segments rest)
    (record { upper = next; at = at; fragment = None; segments = segments }) w e)

pub walks_have_room : (next : ℕ) (body : List ℕ) (walked : Walked) → AreBytes body → next < 256 → walk_of next body ≡ Ok walked → HasRoom walked
walks_have_room next body walked small byte e = walk-in_range (suc (length body)) 0 next None body walked small byte e
