-- What holds of a capture that is seen in place of a file holds of it beneath.
use Rattle.std.proofs.Common.{◌≡◌, ℕ, ◌<◌, ◌≤◌, List, [], ◌∷◌, length, IsUtf8, Option, Some, None, IsTrue, Result, Ok, Err, IfErr, refl, ap, sym, subst, ◌∙◌, arith}
use Rattle.siit_word.specs.Causes.{Rose}
use Rattle.siit_word.specs.Files.{FilesMeaning, IsNoneOf, Touches, held}
use Rattle.siit_capture.specs.Captures.{ended, records_of}
use Rattle.siit_capture.specs.declared.form.CaptureFault.{CaptureFault}
use Rattle.siit_chain.specs.Carried.{Chain}
use Rattle.siit_chain.specs.Outputs.{name_in, names_in}
use Rattle.siit_chain.specs.declared.origin.End.{End}
use Rattle.siit_chain.specs.declared.origin.End.TheVariants.{Left, Right}
use Rattle.siit_chain.specs.declared.origin.Output.{Output}
use Rattle.siit_chain.specs.declared.origin.Outs.{Outs}
use Rattle.siit_engine.specs.Placed.{Placed}
use Rattle.siit_network.specs.Crossings.{Crossing, HoldsAfter, IsTold, run_over}
use Rattle.siit_run.specs.Runs.{finished, run_of, stopped}
use Rattle.std.specs.Option.{option_copied}
use Rattle.siit_running.specs.Inputs.{input_name, names_of}
use Rattle.siit_running.specs.declared.inputs.Inputs.{Inputs}
use Rattle.siit_running.specs.declared.fault.RunFault.{RunFault}
use Rattle.siit_running.specs.declared.fault.RunFault.TheVariants as faults
use Rattle.siit_running.specs.declared.running.RunCounts.{RunCounts}
use Rattle.siit_making.specs.Captures.{generated_capture}
use Rattle.siit_making.specs.Crossings.{AreTexts, IsNoCaptureFault, generated_crossing, left_capture}
use Rattle.siit_making.specs.Through.{Sight, capture, contents_by, given_by, marked_sight, read_faults_by, told_by, with_capture, with_marks, write_faults_by}
use Rattle.siit_making.proofs.Agreeing.{Agree, AgreeIn, AgreeOut, holds_as}
use Rattle.siit_making.proofs.Beneath.{same_capture, same_reference, same_text, touches_beneath}
use Rattle.siit_making.proofs.Faultless.{run_finishes}
use Rattle.siit_making.proofs.Parts.{capture_read, capture_short}
use Rattle.siit_making.proofs.FirstByte.{sight_of_name, sight_of_text}

finished_isnt : {end : End} {place : ℕ} {fault : CaptureFault} → finished ≡ stopped end place fault → ⊥
finished_isnt e = cc

-- what holds of the capture of so many packets by a seed, under this name
module _ (chain : Chain Placed) (count seed : ℕ) (few : count ≤ 100000) (name : List ℕ) (text : IsUtf8 name) (outs : Outs) (texts : AreTexts (name_in outs)) (a b : FilesMeaning) (coming coming_now : ℕ → ℕ → ℕ) where
  abbrev bytes : List ℕ
  bytes = generated_capture count seed

  -- as it is seen, after a call
  abbrev marked : (number : ℕ) (now : FilesMeaning) → Crossing
  marked number now = record {
    network = chain;
    captures = left_capture name;
    outputs = name_in outs;
    before = with_marks number a name bytes;
    now = now;
    coming_before = coming;
    coming_now = coming_now;
  }

  module _ (number : ℕ) where
    here : marked_sight number name name ≡ capture
    here = sight_of_name number name name text (same_text name)

    told : (end : End) → IsTold (marked number (with_marks number b name bytes))
    told end Left = subst (λ (s : Sight). IsTrue (told_by s a)) (sym here) refl
    told end Right = tt

    finishes_here : (now : FilesMeaning) → (run_over (marked number now)).course ≡ finished
    finishes_here now =
        ap (λ (s : Sight). (run_of chain coming (records_of (held (contents_by s a bytes))) ended).course) here
        ∙ run_finishes chain coming (records_of bytes) ended (capture_read count seed few).1 refl

    faultless : (result : Result RunCounts RunFault) → HoldsAfter (marked number (with_marks number b name bytes)) result
        → (fault : RunFault) → result ≡ Err fault → IsNoCaptureFault fault
    faultless (Ok counts) h fault is = absurd (cc)
    faultless (Err (faults.ReadFault Left)) h fault is =
        let rose : Rose 0 0 = subst (λ (s : Sight). Rose (read_faults_by s a) (read_faults_by s b)) here h.0 in
        absurd (omega arith)
    faultless (Err (faults.ReadFault Right)) h fault is = absurd h.0
    faultless (Err faults.WriteFault) h fault is = subst (λ (f : Result RunCounts RunFault). IfErr f IsNoCaptureFault) is tt
    faultless (Err (faults.BadCapture end place bad)) h fault is =
        absurd (finished_isnt (sym (finishes_here (with_marks number b name bytes)) ∙ (h.1 (told end)).ends))
    faultless (Err (faults.TooLong Left)) h fault is =
        let long = subst (λ (s : Sight). IsTrue (told_by s a) → 4294967296 < length (held (contents_by s a bytes))) here h.0 in
        let much : 4294967296 < length bytes = long refl in
        absurd (omega (arith, much, capture_short count seed, few))
    faultless (Err (faults.TooLong Right)) h fault is = absurd h.0
    faultless (Err faults.NoMemory) h fault is = subst (λ (f : Result RunCounts RunFault). IfErr f IsNoCaptureFault) is tt

    agree : (files : FilesMeaning) (q : List ℕ) → IsUtf8 q → Agree (with_marks number files name bytes) (with_capture files name bytes) q
    agree files q utf8 =
        let same = sight_of_text number name q utf8 in
        record {
          told = ap (λ (s : Sight). told_by s files) same;
          contents = ap (λ (s : Sight). contents_by s files bytes) same;
        }

    agree_in : (files : FilesMeaning) → AgreeIn (with_marks number files name bytes) (with_capture files name bytes) (Some name)
    agree_in files = (agree files name text, ap (λ (s : Sight). given_by s files) (sight_of_text number name name text))

    agree_left : (end : End) → AgreeIn (with_marks number a name bytes) (with_capture a name bytes) (left_capture name end)
        × AgreeIn (with_marks number b name bytes) (with_capture b name bytes) (left_capture name end)
    agree_left Left = (agree_in a, agree_in b)
    agree_left Right = (tt, tt)

    faults_same : (files : FilesMeaning) (q : List ℕ) → IsUtf8 q
        → (with_marks number files name bytes).write_faults q ≡ (with_capture files name bytes).write_faults q
    faults_same files q utf8 = ap (λ (s : Sight). write_faults_by s files) (sight_of_text number name q utf8)

    agree_out : (o : Output) (q : List ℕ) → name_in outs o ≡ Some q
        → AgreeOut (with_marks number a name bytes) (with_capture a name bytes) (with_marks number b name bytes) (with_capture b name bytes) q
    agree_out o q is = record {
      before = agree a q (texts o q is);
      now = agree b q (texts o q is);
      fewer = omega (arith, faults_same a q (texts o q is));
      more = omega (arith, faults_same b q (texts o q is));
    }

    beneath : (result : Result RunCounts RunFault) → HoldsAfter (marked number (with_marks number b name bytes)) result
        → HoldsAfter (generated_crossing chain count seed name (name_in outs) a b coming coming_now) result
    beneath result h =
        holds_as chain (left_capture name) (name_in outs) (with_marks number a name bytes) (with_capture a name bytes) (with_marks number b name bytes)
        (with_capture b name bytes) coming coming_now agree_left agree_out result (faultless result h) h

  fault_of : (result : Result RunCounts RunFault) → ((fault : RunFault) → result ≡ Err fault → IsNoCaptureFault fault) → IfErr result IsNoCaptureFault
  fault_of (Ok counts) none = tt
  fault_of (Err fault) none = none fault refl

  -- what holds after all
  pub record Crossed (number other : ℕ) (result : Result RunCounts RunFault) : Type 0 where
    pub ends : HoldsAfter (generated_crossing chain count seed name (name_in outs) a b coming coming_now) result
    pub fault : IfErr result IsNoCaptureFault
    pub only : Touches a b [] (names_in outs)
    pub reference : other ≡ number

  -- as it is seen
  record Seen (number : ℕ) (result : Result RunCounts RunFault) (now : FilesMeaning) : Type 0 where
    ends : HoldsAfter (marked number now) result
    only : Touches (with_marks number a name bytes) now (name ∷ []) (names_in outs)

  pub crossed : (number other : ℕ) (another more : List ℕ) (result : Result RunCounts RunFault) → IsNoneOf name (names_in outs)
      → HoldsAfter (marked number (with_marks other b another more)) result
      → Touches (with_marks number a name bytes) (with_marks other b another more) (name ∷ []) (names_in outs) → Crossed number other result
  crossed number other another more result apart ends only =
      let mark = same_reference only in
      let same : other ≡ number = cc in
      let name_same : another ≡ name = cc in
      let one : Seen number result (with_marks other b another more) = record { ends = ends; only = only } in
      let two : Seen number result (with_marks number b another more) =
      subst (λ (n : ℕ). Seen number result (with_marks n b another more)) same one in
      let three : Seen number result (with_marks number b name more) =
      subst (λ (q : List ℕ). Seen number result (with_marks number b q more)) name_same two in
      let bytes_same : more ≡ bytes = same_capture number name text outs texts three.only apart in
      let last : Seen number result (with_marks number b name bytes) =
      subst (λ (xs : List ℕ). Seen number result (with_marks number b name xs)) bytes_same three in
      record {
        ends = beneath number result last.ends;
        fault = fault_of result (faultless number result last.ends);
        only = touches_beneath number name text outs texts last.only;
        reference = same;
      }

  -- as it is seen where the capture is known by its own name
  pub record SeenAs (number : ℕ) (own : List ℕ) (names : End → Option (List ℕ)) (result : Result RunCounts RunFault) (now : FilesMeaning) : Type 0 where
    pub ends : HoldsAfter (record {
      network = chain;
      captures = names;
      outputs = name_in outs;
      before = with_marks number a own bytes;
      now = now;
      coming_before = coming;
      coming_now = coming_now;
    }) result
    pub only : Touches (with_marks number a own bytes) now (names_of names) (names_in outs)

  pub crossed_as : (number other : ℕ) (own another more : List ℕ) (names : End → Option (List ℕ)) (result : Result RunCounts RunFault)
      → IsNoneOf name (names_in outs) → own ≡ name → names ≡ left_capture name → SeenAs number own names result (with_marks other b another more)
      → Crossed number other result
  crossed_as number other own another more names result apart own_same names_same seen_so =
      let one = subst (λ (q : List ℕ). SeenAs number q names result (with_marks other b another more)) own_same seen_so in
      let two = subst (λ (f : End → Option (List ℕ)). SeenAs number name f result (with_marks other b another more)) names_same one in
      crossed number other another more result apart two.ends two.only

input_is : (inputs : Inputs) (name : List ℕ) → option_copied inputs.left ≡ Some name → option_copied inputs.right ≡ None → (end : End)
    → input_name inputs end ≡ left_capture name end
input_is inputs name left right Left = left
input_is inputs name left right Right = right

-- the left capture alone, as the call has it
pub inputs_are : (inputs : Inputs) (name : List ℕ) → option_copied inputs.left ≡ Some name → option_copied inputs.right ≡ None
    → input_name inputs ≡ left_capture name
inputs_are inputs name left right = λ i. λ end. input_is inputs name left right end i

-- what holds of a crossing, said by other names of the same
pub ends_moved : (chain : Chain Placed) (count same_count seed same_seed : ℕ) (name : List ℕ) (outs : Output → Option (List ℕ)) (a b same : FilesMeaning) (coming coming_now : ℕ → ℕ → ℕ) (result : Result RunCounts RunFault)
    → count ≡ same_count → seed ≡ same_seed → b ≡ same → HoldsAfter (generated_crossing chain count seed name outs a b coming coming_now) result
    → HoldsAfter (generated_crossing chain same_count same_seed name outs a same coming coming_now) result
ends_moved chain count same_count seed same_seed name outs a b same coming coming_now result counts seeds files h =
    subst (λ (n : ℕ). HoldsAfter (generated_crossing chain n same_seed name outs a same coming coming_now) result) counts
    (subst (λ (n : ℕ). HoldsAfter (generated_crossing chain count n name outs a same coming coming_now) result) seeds
    (subst (λ (m : FilesMeaning). HoldsAfter (generated_crossing chain count seed name outs a m coming coming_now) result) files h))
