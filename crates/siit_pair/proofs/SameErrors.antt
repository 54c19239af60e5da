-- Whether an error that both devices translate is the one that came out.
use Rattle.std.proofs.Common.{◌≡◌, ℕ, ◌≤◌, List, length, true, ◌&&◌, ◌==◌, Option, Some, ap, ◌∙◌, sym, arith}
use Rattle.std.specs.Prelude.{option_and_then}
use Rattle.std.proofs.lemmas.Bool.Decides.{nat_tests}
use Rattle.siit_model.specs.Checksum.{residue}
use Rattle.siit_roles.specs.declared.settings.Settings.{Settings}
use Rattle.siit_pair.specs.Same.{error_backward, error_behind, error_forward, is_same_error, is_the_message, unsummed}
use Rattle.siit_pair.proofs.Unsummed.{checksum-unseen}

equal-test : (a b : ℕ) → a ≡ b → (a == b) ≡ true
equal-test a b e = grind (arith, nat_tests)

-- what both devices make, by what the first makes and what the second makes of that
behind-both : (first second : Settings) (old middle : List ℕ) (last : Option (List ℕ)) → 8 ≤ length middle
    → error_forward first old ≡ Some (unsummed 2 middle) → error_backward second middle ≡ last → error_behind first second old ≡ last
behind-both first second old middle last there forward backward =
    ap (option_and_then (error_backward second)) forward ∙ checksum-unseen second middle there ∙ backward

-- with equal residues the messages decide
pub same-by-bytes : (first second : Settings) (old new middle : List ℕ) (last : Option (List ℕ)) → residue new ≡ residue old → 8 ≤ length middle
    → error_forward first old ≡ Some (unsummed 2 middle) → error_backward second middle ≡ last
    → is_the_message last (unsummed 2 new) ≡ is_same_error first second old new
same-by-bytes first second old new middle last sums there forward backward =
    let behind : Option (List ℕ) = error_behind first second old in
    sym (ap (λ b. b && is_the_message behind (unsummed 2 new)) (equal-test (residue new) (residue old) sums)
    ∙ ap (λ (m : Option (List ℕ)). is_the_message m (unsummed 2 new)) (behind-both first second old middle last there forward backward))
