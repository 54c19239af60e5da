-- What holds of a generated capture that was carried, as it is seen from before another file was read or written.
use Rattle.std.proofs.Common.{◌≡◌, ◌≢◌, inl, inr, ℕ, ◌≤◌, List, Bool, true, false, Option, Some, Result, Ok, Err, IfErr, IsTrue, bytes_eq, if◌then◌else◌, refl, ap, sym, subst, ◌∙◌, arith}
use Rattle.std.proofs.lemmas.Bool.{cases_Bool}
use Rattle.std.proofs.lemmas.Slice.Eq.{bytes_eq-Decides}
use Rattle.siit_word.specs.Causes.{NeverFalls, Rose}
use Rattle.siit_word.specs.Files.{FilesMeaning, Stays}
use Rattle.siit_chain.specs.Carried.{Chain}
use Rattle.siit_chain.specs.Outputs.{WriteFailedIn}
use Rattle.siit_chain.specs.declared.origin.End.{End}
use Rattle.siit_chain.specs.declared.origin.End.TheVariants.{Left, Right}
use Rattle.siit_chain.specs.declared.origin.Output.{Output}
use Rattle.siit_engine.specs.Placed.{Placed}
use Rattle.siit_network.specs.Crossings.{HoldsAfter, IsTold}
use Rattle.siit_running.specs.declared.fault.RunFault.{RunFault}
use Rattle.siit_running.specs.declared.running.RunCounts.{RunCounts}
use Rattle.siit_making.specs.Captures.{generated_capture}
use Rattle.siit_making.specs.Crossings.{IsNoCaptureFault, generated_crossing, left_capture}
use Rattle.siit_making.specs.Through.{Sight, capture, contents_by, file, given_by, plain_sight, told_by, with_capture, write_faults_by}
use Rattle.siit_making.proofs.Agreeing.{Agree, AgreeIn, AgreeOut, holds_as}
use Rattle.siit_making.proofs.Beneath.{same_text}

faultless : (result : Result RunCounts RunFault) → IfErr result IsNoCaptureFault → (fault : RunFault) → result ≡ Err fault → IsNoCaptureFault fault
faultless result h fault is = subst (λ (r : Result RunCounts RunFault). IfErr r IsNoCaptureFault) is h

module _ (chain : Chain Placed) (count seed : ℕ) (name : List ℕ) (outs : Output → Option (List ℕ)) (a m b : FilesMeaning) (coming coming_now : ℕ → ℕ → ℕ) (told : Stays a.told m.told) (fewer : NeverFalls a.write_faults m.write_faults) (apart : (o : Output) (q : List ℕ) → outs o ≡ Some q → q ≢ name) (same : (o : Output) (q : List ℕ) → outs o ≡ Some q → m.contents q ≡ a.contents q) where
  abbrev bytes : List ℕ
  bytes = generated_capture count seed

  here : plain_sight name name ≡ capture
  here = ap (λ (t : Bool). if t then capture else file name) (same_text name)

  agree_here : (x y : FilesMeaning) → Agree (with_capture x name bytes) (with_capture y name bytes) name
  agree_here x y = record {
    told = ap (λ (s : Sight). told_by s x) here ∙ ap (λ (s : Sight). told_by s y) (sym here);
    contents = ap (λ (s : Sight). contents_by s x bytes) here ∙ ap (λ (s : Sight). contents_by s y bytes) (sym here);
  }

  given_here : (x y : FilesMeaning) → (with_capture x name bytes).given name ≡ (with_capture y name bytes).given name
  given_here x y = ap (λ (s : Sight). given_by s x) here ∙ ap (λ (s : Sight). given_by s y) (sym here)

  captures : (end : End) → AgreeIn (with_capture m name bytes) (with_capture a name bytes) (left_capture name end)
      × AgreeIn (with_capture b name bytes) (with_capture b name bytes) (left_capture name end)
  captures Left = ((agree_here m a, given_here m a), (agree_here b b, given_here b b))
  captures Right = (tt, tt)

  other : (q : List ℕ) → q ≢ name → plain_sight name q ≡ file q
  other q isnt = elim (cases_Bool (bytes_eq q name)) [
    | inl is ↦ absurd (isnt ((bytes_eq-Decides q name).0 is))
    | inr is ↦ ap (λ (t : Bool). if t then capture else file q) is
  ]

  outputs : (o : Output) (q : List ℕ) → outs o ≡ Some q
      → AgreeOut (with_capture m name bytes) (with_capture a name bytes) (with_capture b name bytes) (with_capture b name bytes) q
  outputs o q is =
      let at = other q (apart o q is) in
      record {
        before = record {
          told = ap (λ (s : Sight). told_by s m) at ∙ told q ∙ ap (λ (s : Sight). told_by s a) (sym at);
          contents = ap (λ (s : Sight). contents_by s m bytes) at ∙ same o q is ∙ ap (λ (s : Sight). contents_by s a bytes) (sym at);
        };
        now = record { told = refl; contents = refl };
        fewer = omega (arith, fewer q, ap (λ (s : Sight). write_faults_by s a) at, ap (λ (s : Sight). write_faults_by s m) at);
        more = omega arith;
      }

  pub seen_earlier : (result : Result RunCounts RunFault) → IfErr result IsNoCaptureFault
      → HoldsAfter (generated_crossing chain count seed name outs m b coming coming_now) result
      → HoldsAfter (generated_crossing chain count seed name outs a b coming coming_now) result
  seen_earlier result none h =
      holds_as chain (left_capture name) outs (with_capture m name bytes) (with_capture a name bytes) (with_capture b name bytes) (with_capture b name bytes)
      coming coming_now captures outputs result (faultless result none) h

  -- what the capture holds is told
  pub crossing_told : IsTold (generated_crossing chain count seed name outs a b coming coming_now)
  crossing_told Left = subst (λ (s : Sight). IsTrue (told_by s a)) (sym here) refl
  crossing_told Right = tt

  -- Writing an output failed beneath.
  pub failed_beneath : WriteFailedIn outs (with_capture a name bytes) (with_capture b name bytes) → WriteFailedIn outs a b
  failed_beneath h = record {
    output = h.output;
    name = h.name;
    named = h.named;
    failed = subst (λ (s : Sight). Rose (write_faults_by s a) (write_faults_by s b)) (other h.name (apart h.output h.name h.named)) h.failed;
  }
