-- Prefixes that are accepted for embedding.
use Rattle.std.proofs.Common.{◌≡◌, Bool, true, false, not, ◌&&◌, if◌then◌else◌, Some, None, Result, Ok, Err, IfOk, refl, ap}
use Rattle.std.specs.Result.{result_ok, result_err}

-- one of three faults where one of three tests fails
pub accepted_by : {X F : Type 0} (x : X) (k l m : F) (a b c : Bool) (r : Result X F)
    → result_err r ≡ (if not a then Some k else if not b then Some l else if not c then Some m else None)
    → IfOk r (λ y. y ≡ x) → result_ok r ≡ (if a && b && c then Some x else None)
accepted_by x k l m false b c (Ok y) e h = cc
accepted_by x k l m false b c (Err f) e h = refl
accepted_by x k l m true false c (Ok y) e h = cc
accepted_by x k l m true false c (Err f) e h = refl
accepted_by x k l m true true false (Ok y) e h = cc
accepted_by x k l m true true false (Err f) e h = refl
accepted_by x k l m true true true (Ok y) e h = ap Some h
accepted_by x k l m true true true (Err f) e h = cc
