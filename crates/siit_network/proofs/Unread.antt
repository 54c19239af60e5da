-- Captures that aren't written: what they hold, and what is known of them, stays as it was.
use Rattle.std.proofs.Common.{◌≡◌, ℕ, ◌<◌, ◌≤◌, List, [], length, Bool, Option, Some, None, IsTrue, arith, refl, ap, sym, subst, ◌∙◌}
use Rattle.siit_word.specs.Files.{FilesMeaning, Touches, held}
use Rattle.siit_capture.specs.Captures.{Records, records_of}
use Rattle.siit_chain.specs.Carried.{Chain}
use Rattle.siit_chain.specs.declared.origin.End.{End}
use Rattle.siit_chain.specs.declared.origin.End.TheVariants.{Left, Right}
use Rattle.siit_run.specs.Ahead.{IsReadAhead}
use Rattle.siit_run.specs.Runs.{run_of, started}
use Rattle.siit_running.specs.Answers.{AreUnread, IsNearIn}
use Rattle.siit_running.specs.Inputs.{AreNoneOf, AreTold, IsApart, IsTold, IsTooLong, IsWithin, ReadFailedAt, records_named, started_run, whole_run}

module _ {before mid : FilesMeaning} {writes : List (List ℕ)} (wrote : Touches before mid [] writes) where
  -- ONE CAPTURE

  same_records : (name : Option (List ℕ)) → IsApart name writes → records_named mid name ≡ records_named before name
  same_records None apart = refl
  same_records (Some name) apart = ap (λ f. records_of (held f)) (wrote.contents name apart)

  told_on : (name : Option (List ℕ)) → IsTold before name → IsTold mid name
  told_on None told = tt
  told_on (Some name) told = subst (λ (x : Bool). IsTrue x) (sym (wrote.told name)) told

  pub within_before : (name : Option (List ℕ)) → IsApart name writes → IsWithin mid name → IsWithin before name
  within_before None apart within = tt
  within_before (Some name) apart within = subst (λ (f : Option (List ℕ)). length (held f) ≤ 4294967296) (wrote.contents name apart) within

  pub long_before : (name : Option (List ℕ)) → IsApart name writes → IsTooLong mid name → IsTooLong before name
  long_before None apart long = long
  long_before (Some name) apart long = λ told.
      subst (λ (f : Option (List ℕ)). 4294967296 < length (held f)) (wrote.contents name apart) (long (told_on (Some name) told))

  pub failed_before : (now : FilesMeaning) (name : Option (List ℕ)) → ReadFailedAt mid now name → ReadFailedAt before now name
  failed_before now None failed = failed
  failed_before now (Some name) failed = let fewer = wrote.read_faults name in omega (arith, fewer, failed)

  pub near_before : (now : FilesMeaning) (name other : Option (List ℕ)) (rest : Records) → IsNearIn mid now name other rest
      → IsNearIn before now name other rest
  near_before now None other rest near = tt
  near_before now (Some name) other rest near = λ isnt.
      subst (λ (given : Option ℕ). IsReadAhead given (now.given name) rest) (wrote.given name tt) (near isnt)

  -- BOTH CAPTURES

  module _ (names : End → Option (List ℕ)) where
    pub are_told : AreTold before names → AreTold mid names
    are_told told end = told_on (names end) (told end)

    pub unread_before : (now : FilesMeaning) → AreUnread mid now names → AreUnread before now names
    unread_before now unread end name is = unread end name is ∙ wrote.given name tt

    module _ {D : Type 0} (chain : Chain D) (coming : ℕ → ℕ → ℕ) (apart : AreNoneOf names writes) where
      pub same_start : started_run coming mid names ≡ started_run coming before names
      same_start =
          ap (λ left. started coming left (records_named mid (names Right))) (same_records (names Left) (apart Left))
          ∙ ap (started coming (records_named before (names Left))) (same_records (names Right) (apart Right))

      pub same_run : whole_run chain coming mid names ≡ whole_run chain coming before names
      same_run =
          ap (λ left. run_of chain coming left (records_named mid (names Right))) (same_records (names Left) (apart Left))
          ∙ ap (run_of chain coming (records_named before (names Left))) (same_records (names Right) (apart Right))
