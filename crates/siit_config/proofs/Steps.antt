-- One more device.
use Rattle.std.proofs.Common.{◌≡◌, List, [], ◌∷◌, ◌++◌, Result, Ok, Err, refl, sym, ap, ◌∙◌, append_assoc}
use Rattle.siit_config.specs.Faults.{Fault, ◌>>=◌}

joined : {X : Type 0} (done : List X) (x : X) (r : Result (List X) Fault)
    → ((r >>= λ more. Ok (x ∷ more)) >>= λ more. Ok (done ++ more)) ≡ (r >>= λ more. Ok ((done ++ x ∷ []) ++ more))
joined done x (Ok more) = ap Ok (sym (append_assoc done (x ∷ []) more))
joined done x (Err fault) = refl

pub one_more : {X : Type 0} (done : List X) (x : X) (d : Result X Fault) (r whole : Result (List X) Fault) → d ≡ Ok x
    → ((d >>= λ x. r >>= λ more. Ok (x ∷ more)) >>= λ more. Ok (done ++ more)) ≡ whole
    → (r >>= λ more. Ok ((done ++ x ∷ []) ++ more)) ≡ whole
one_more done x d r whole e h = sym (joined done x r) ∙ rw e at h
