-- How a run ends, by where it stops.
use Rattle.std.proofs.Common.{◌≡◌, inl, inr, ℕ, suc, ◌+◌, ◌-◌, ◌^◌, ◌≤◌, ◌<◌, max, min, IsTrue, List, [], ◌∷◌, ◌++◌, length, Option, Some, None, Err, refl, ap, sym, subst, ◌∙◌, arith}
use Rattle.std.specs.Prelude.{codes}
use Rattle.std.specs.Fmt.{decimal}
use Rattle.siit_word.specs.Files.{FilesMeaning, Touches}
use Rattle.siit_word.proofs.Touched.{touches_none, touches_then}
use Rattle.siit_capture.specs.Captures.{Records, ended}
use Rattle.siit_capture.specs.Readings as reading
use Rattle.siit_capture.specs.declared.form.CaptureFault.{CaptureFault}
use Rattle.siit_carry.specs.declared.chain.ChainFault.{ChainFault}
use Rattle.siit_carry.specs.declared.chain.ChainFault.TheVariants as chain_fault
use Rattle.siit_chain.specs.Carried.{Chain, HasComing, other_end}
use Rattle.siit_chain.specs.Counted.{counts_of, raised_by}
use Rattle.siit_chain.specs.Log.{Entry, begins, entry_text, finishes, text_of}
use Rattle.siit_chain.specs.Outputs.{GrewBy, GrewByPart, WriteFailedIn, only}
use Rattle.siit_chain.specs.Texts.{Totals, count_text, end_line}
use Rattle.siit_chain.specs.declared.origin.Counts.{Counts}
use Rattle.siit_chain.specs.declared.origin.End.{End}
use Rattle.siit_chain.specs.declared.origin.End.TheVariants.{Left, Right}
use Rattle.siit_chain.specs.declared.origin.Output.{Output}
use Rattle.siit_chain.specs.declared.origin.Output.TheVariants.{Report}
use Rattle.siit_chain.proofs.Grown.{log_part_of_more, part_of_all, wrote_entry, wrote_entry_part}
use Rattle.siit_carry.proofs.Events.{added_none}
use Rattle.siit_carry.proofs.Ways.{added_twice}
use Rattle.siit_run.specs.Laws.{HasEnded}
use Rattle.siit_run.specs.Runs.{Course, Run, after, begun, finish, head_fault, stop, stopped, totals_of}
use Rattle.siit_run.proofs.Turns.{Extends, after_adds, ended_is_whole_lem}
use Rattle.siit_running.specs.Answers.{GrewBetween, HasRun, IsNotFarAhead, rest_at, totals_told}
use Rattle.siit_running.specs.Ends.{HasBadHead, HasFault, HaveLooked, IsLookFault, IsPart, ReadOn, HoldsAfterRun, RunIsWhole, StopsNear, heads_judged, rest_of, source_at}
use Rattle.siit_running.specs.Faults.{run_fault}
use Rattle.siit_running.specs.Inputs.{AreNoneOf, AreTold, IsTooLong, IsWithin, ReadFailedAt, names_of, records_named, started_run, whole_run}
use Rattle.siit_running.specs.Sources.{CaptureFile, IsFedNear, MayFailAt, file_named, new_source, rest_in}
use Rattle.siit_running.specs.Turns.{StopsAt}
use Rattle.siit_running.specs.declared.captures.Captures.{Captures}
use Rattle.siit_running.specs.declared.fault.RunFault.{RunFault}
use Rattle.siit_running.specs.declared.fault.RunFault.TheVariants as faults
use Rattle.siit_running.specs.declared.running.RunCounts.{RunCounts}
use Rattle.siit_running.proofs.Grows.{failed_on, grew_read, log_behind, log_between, part_none, part_of_between, whole_extends}
use Rattle.siit_running.proofs.UnderWay.{IsRunning, new_rest}
use Rattle.siit_running.proofs.Sides.{file_same, in_since, in_then, in_written, near_in, only_read, only_written, told_same}
use Rattle.siit_running.proofs.Steps.{next_turn, turn_ends, turn_stops}

-- a read that failed in a later call
failed_since : {a b : FilesMeaning} {reads writes : List (List ℕ)} (c : FilesMeaning) (name : Option (List ℕ)) → Touches a b reads writes → ReadFailedAt b c name → ReadFailedAt a c name
failed_since c None touched h = h
failed_since c (Some q) touched h = let before = touched.read_faults q in omega (arith, before, h)

abbrev IsLongIn : Option CaptureFile → Type 0
IsLongIn None = ⊥
IsLongIn (Some file) = IsTrue file.told → 4294967296 < length file.bytes

long_in : (files : FilesMeaning) (name : Option (List ℕ)) → IsTooLong files name → IsLongIn (file_named files name)
long_in files None h = h
long_in files (Some name) h = h

long_out : (files : FilesMeaning) (name : Option (List ℕ)) → IsLongIn (file_named files name) → IsTooLong files name
long_out files None h = h
long_out files (Some name) h = h

-- a file that is too long after calls that left it as it was
long_since : (a b : FilesMeaning) (name : Option (List ℕ)) → file_named b name ≡ file_named a name → IsTooLong b name → IsTooLong a name
long_since a b name same h = long_out a name (subst (λ (f : Option CaptureFile). IsLongIn f) same (long_in b name h))

abbrev IsWithinIn : Option CaptureFile → Type 0
IsWithinIn None = Unit {0}
IsWithinIn (Some file) = length file.bytes ≤ 4294967296

within_in : (files : FilesMeaning) (name : Option (List ℕ)) → IsWithin files name → IsWithinIn (file_named files name)
within_in files None h = tt
within_in files (Some name) h = h

within_out : (files : FilesMeaning) (name : Option (List ℕ)) → IsWithinIn (file_named files name) → IsWithin files name
within_out files None h = tt
within_out files (Some name) h = h

within_since : (a b : FilesMeaning) (name : Option (List ℕ)) → file_named b name ≡ file_named a name → IsWithin b name → IsWithin a name
within_since a b name same h = within_out a name (subst (λ (f : Option CaptureFile). IsWithinIn f) same (within_in b name h))

-- The end line

told_count : (n : ℕ) → count_text (raised_by 0 n) ≡ count_text n
told_count n =
    let e : min (max 0 (min (0 + n) (2 ^ 64 - 1))) (2 ^ 64 - 1) ≡ min n (2 ^ 64 - 1) = omega arith in
    ap decimal e

same_line : (t u : Totals) → count_text t.left_read ≡ count_text u.left_read → count_text t.right_read ≡ count_text u.right_read → count_text t.left ≡ count_text u.left → count_text t.right ≡ count_text u.right → count_text t.dropped ≡ count_text u.dropped → end_line t ≡ end_line u
unfolding end_line
same_line t u a b c d e = λ i. codes "end " ++ a i ++ codes " " ++ b i ++ codes " " ++ c i ++ codes " " ++ d i ++ codes " " ++ e i ++ 10 ∷ []

-- the line that is written is that of the run
pub line_is : (run : Run) (told : RunCounts) → told.left_read ≡ run.left_read → told.right_read ≡ run.right_read → told.written ≡ counts_of run.trace.log → end_line (totals_told told) ≡ entry_text (finishes (totals_of run))
unfolding entry_text
line_is run told left right written =
    same_line (totals_told told) (totals_of run) (ap count_text left) (ap count_text right)
    (ap (λ (n : Counts). count_text n.left) written ∙ told_count (totals_of run).left)
    (ap (λ (n : Counts). count_text n.right) written ∙ told_count (totals_of run).right)
    (ap (λ (n : Counts). count_text n.dropped) written ∙ told_count (totals_of run).dropped)

-- The output heads weren't written.
module _ {D : Type 0} (chain : Chain D) (coming coming_new : ℕ → ℕ → ℕ) (names : End → Option (List ℕ)) (outs : Output → Option (List ℕ)) (writes : List (List ℕ)) (before now : FilesMeaning) where
  heads_extend : Extends (begins Left ∷ begins Right ∷ []) (whole_run chain coming before names).trace.log
  unfolding after
  heads_extend = whole_extends chain coming (records_named before (names Left)) (records_named before (names Right)) 0

  part_of_heads : GrewByPart outs before now (text_of (begins Left ∷ begins Right ∷ [])) → IsPart (whole_run chain coming before names) outs before now
  part_of_heads part = subst (λ l. GrewByPart outs before now (text_of l)) (sym heads_extend.is) (log_part_of_more (begins Left ∷ begins Right ∷ []) heads_extend.more part)

  pub unwritten_heads : Touches before now [] writes → GrewByPart outs before now (text_of (begins Left ∷ begins Right ∷ [])) → WriteFailedIn outs before now → HoldsAfterRun chain coming coming_new names outs before now (Err faults.WriteFault)
  unwritten_heads only part failed =
      (failed, λ told. record { part = part_of_heads part; ahead = inl (λ end name is. only.given name tt) })

-- A head is at fault, or wasn't read.
module _ {D : Type 0} (chain : Chain D) (coming : ℕ → ℕ → ℕ) (names : End → Option (List ℕ)) (outs : Output → Option (List ℕ)) (writes : List (List ℕ)) (before mid now : FilesMeaning) (old new : Captures) (apart : AreNoneOf names writes) (left : old.left ≡ new_source) (right : old.right ≡ new_source) (wrote : Touches before mid [] writes) (grew : GrewBy outs before mid (text_of (begins Left ∷ begins Right ∷ []))) (touched : Touches mid now (names_of names) []) where
  same : (end : End) → file_named mid (names end) ≡ file_named before (names end)
  same end = file_same wrote (names end) (apart end)

  rest_mid : (end : End) → rest_of mid names old end ≡ records_named before (names end)
  rest_mid end = ap (λ (f : Option CaptureFile). rest_in f (source_at end old)) (same end) ∙ new_rest before names old left right end

  told_mid : AreTold before names → AreTold mid names
  told_mid told end = told_same wrote (names end) (told end)

  grew_now : GrewBy outs before now (text_of (begins Left ∷ begins Right ∷ []))
  grew_now = grew_read grew touched

  part_now : IsPart (whole_run chain coming before names) outs before now
  part_now = part_of_heads chain coming coming names outs writes before now (part_of_all (text_of (begins Left ∷ begins Right ∷ [])) grew_now)

  start_is : (end : End) → rest_at end (started_run coming before names) ≡ records_named before (names end)
  start_is Left = refl
  start_is Right = refl

  not_far : AreTold before names → ReadOn mid now names old new → IsNotFarAhead chain (started_run coming before names) names outs before now
  unfolding after
  not_far told read =
      let e = after_adds chain 0 1 (started_run coming before names) in
      record {
        turns = 0;
        written = subst (λ l. GrewBetween outs before now (text_of (begins Left ∷ begins Right ∷ [])) (text_of l)) (sym e.is) (log_between (begins Left ∷ begins Right ∷ []) e.more (touches_then (only_written wrote) (only_read touched)) grew_now (part_none (text_of e.more)));
        near = λ end.
            near_in before now (names end) (names (other_end end)) (rest_at end (started_run coming before names)) (reading.fed (source_at end new).reader)
            (λ differ. in_since before mid now writes (names end) (reading.fed (source_at end new).reader) wrote (read.read end differ))
            (subst (λ (r : Records). IsFedNear r (reading.fed (source_at end new).reader)) (rest_mid end ∙ sym (start_is end)) (read.near (told_mid told) end));
      }

  bad_head : (end : End) (place : ℕ) (fault : CaptureFault) → heads_judged mid names old ≡ stopped end place fault → HasRun outs before now coming (whole_run chain coming before names) (stopped end place fault)
  unfolding after
  bad_head end place fault judged =
      let start = started_run coming before names in
      let course : start.course ≡ stopped end place fault =
      ap (λ r. begun (head_fault r) (head_fault (records_named before (names Right)))) (sym (rest_mid Left)) ∙ ap (λ r. begun (head_fault (rest_of mid names old Left)) (head_fault r)) (sym (rest_mid Right)) ∙ judged in
      let whole_is : start ≡ whole_run chain coming before names =
      ended_is_whole_lem chain coming (records_named before (names Left)) (records_named before (names Right)) 0 (subst (λ (c : Course). HasEnded c) (sym course) tt) in
      record {
        ends = ap (λ (r : Run). r.course) (sym whole_is) ∙ course;
        grew = subst (λ (r : Run). GrewBy outs before now (text_of r.trace.log)) whole_is grew_now;
        comes = subst (λ (r : Run). HasComing coming r.trace) whole_is (record { each = λ device k. refl });
      }

  pub unjudged : (fault : RunFault) → IsLookFault mid now names old new (HasBadHead mid names old) fault → HoldsAfterRun chain coming coming names outs before now (Err fault)
  unjudged (faults.ReadFault end) h = (failed_since now (names end) wrote h.0, λ told. record { part = part_now; ahead = inr (not_far told h.1) })
  unjudged faults.WriteFault h = absurd h
  unjudged (faults.BadCapture end place fault) h =
      (subst (λ (f : Option CaptureFile). MayFailAt f place) (same end) h.0, λ told. bad_head end place fault (h.1 (told_mid told)))
  unjudged (faults.TooLong end) h = (long_since before mid (names end) (same end) h, λ told. part_now)
  unjudged faults.NoMemory h = absurd h

-- A run under way stops.
module _ {D : Type 0} (chain : Chain D) (coming_before coming : ℕ → ℕ → ℕ) (names : End → Option (List ℕ)) (outs : Output → Option (List ℕ)) (writes : List (List ℕ)) (before now : FilesMeaning) (old : Captures) (counts : Counts) (apart : AreNoneOf names writes) (r : IsRunning chain coming_before coming names outs writes before now old counts) where
  extends_in : (n : ℕ) → Extends (after chain n (started_run coming_before before names)).trace.log (whole_run chain coming_before before names).trace.log
  extends_in n = whole_extends chain coming_before (records_named before (names Left)) (records_named before (names Right)) n

  file_now : (end : End) → file_named now (names end) ≡ file_named before (names end)
  file_now end = file_same r.only (names end) (apart end)

  told_here : AreTold before names → AreTold now names
  told_here told end = told_same r.only (names end) (told end)

  rest_here : (end : End) → rest_of now names old end ≡ rest_of before names old end
  rest_here end = ap (λ (f : Option CaptureFile). rest_in f (source_at end old)) (file_now end)

  rest_run : (told : AreTold before names) (end : End) → rest_at end (after chain (r.run told).turns (started_run coming_before before names)) ≡ rest_of before names old end
  rest_run told Left = (r.run told).left_rest
  rest_run told Right = (r.run told).right_rest

  -- what was written, where a part of one more turn was written besides
  module _ (mid new : FilesMeaning) (seen : Captures) (touched : Touches now mid (names_of names) []) (read : ReadOn now mid names old seen) (wrote : Touches mid new [] writes) where
    between : (told : AreTold before names) (more : List Entry) → (after chain (suc (r.run told).turns) (started_run coming_before before names)).trace.log ≡ (after chain (r.run told).turns (started_run coming_before before names)).trace.log ++ more → GrewByPart outs mid new (text_of more) → GrewBetween outs before new (text_of (after chain (r.run told).turns (started_run coming_before before names)).trace.log) (text_of (after chain (suc (r.run told).turns) (started_run coming_before before names)).trace.log)
    between told more is part =
        let a = r.run told in
        let log = (after chain a.turns (started_run coming_before before names)).trace.log in
        subst (λ l. GrewBetween outs before new (text_of log) (text_of l)) (sym is) (log_between log more (touches_then r.only (only_read touched)) (grew_read a.grew touched) part)

    pub stops_near : (told : AreTold before names) (more : List Entry) → (after chain (suc (r.run told).turns) (started_run coming_before before names)).trace.log ≡ (after chain (r.run told).turns (started_run coming_before before names)).trace.log ++ more → GrewByPart outs mid new (text_of more) → StopsNear chain (started_run coming_before before names) (whole_run chain coming_before before names) names outs before new
    stops_near told more is part =
        let a = r.run told in
        let start = started_run coming_before before names in
        let written = between told more is part in
        record {
          part = part_of_between (after chain a.turns start).trace.log (after chain (suc a.turns) start).trace.log (whole_run chain coming_before before names).trace.log (extends_in (suc a.turns)) written;
          ahead = inr (record {
            turns = a.turns;
            written = written;
            near = λ end.
                near_in before new (names end) (names (other_end end)) (rest_at end (after chain a.turns start)) (reading.fed (source_at end seen).reader)
                (λ differ. in_written before mid new writes (names end) (reading.fed (source_at end seen).reader) (in_then before now mid (names end) (reading.fed (source_at end old).reader) (reading.fed (source_at end seen).reader) (r.read end differ) (read.read end differ) (read.more end)) wrote)
                (subst (λ (x : Records). IsFedNear x (reading.fed (source_at end seen).reader)) (rest_here end ∙ sym (rest_run told end)) (read.near (told_here told) end));
          });
        }

  -- nothing more is written
  module _ (mid : FilesMeaning) (seen : Captures) (touched : Touches now mid (names_of names) []) where
    grew_mid : (told : AreTold before names) → GrewBy outs before mid (text_of (after chain (r.run told).turns (started_run coming_before before names)).trace.log)
    grew_mid told = grew_read (r.run told).grew touched

    part_mid : AreTold before names → IsPart (whole_run chain coming_before before names) outs before mid
    part_mid told =
        let a = r.run told in
        let e = extends_in a.turns in
        subst (λ l. GrewByPart outs before mid (text_of l)) (sym e.is) (log_part_of_more (after chain a.turns (started_run coming_before before names)).trace.log e.more (part_of_all (text_of (after chain a.turns (started_run coming_before before names)).trace.log) (grew_mid told)))

    stays_near : (told : AreTold before names) → ReadOn now mid names old seen → StopsNear chain (started_run coming_before before names) (whole_run chain coming_before before names) names outs before mid
    stays_near told read =
        let n = (r.run told).turns in
        let start = started_run coming_before before names in
        let e = after_adds chain n 1 start in
        let next : n + 1 ≡ suc n = omega arith in
        stops_near mid mid seen touched read touches_same told e.more (ap (λ m. (after chain m start).trace.log) (sym next) ∙ e.is) (part_none (text_of e.more))
      where
        touches_same : Touches mid mid [] writes
        touches_same = touches_none

    faulty_now : (end : End) (place : ℕ) (fault : CaptureFault) → HasFault now names old end place fault → AreTold before names → HasRun outs before mid coming (whole_run chain coming_before before names) (stopped end place fault)
    faulty_now end place fault h told =
        let a = r.run told in
        let start = started_run coming_before before names in
        let run = after chain a.turns start in
        let here : StopsAt end place fault (rest_of before names old Left) (rest_of before names old Right) =
        subst (λ (x : Records). StopsAt end place fault (rest_of before names old Left) x) (rest_here Right) (subst (λ (x : Records). StopsAt end place fault x (rest_of now names old Right)) (rest_here Left) h) in
        let stops : after chain (suc a.turns) start ≡ stop end place fault run =
        next_turn chain a.turns start (rest_of before names old Left) (rest_of before names old Right) a.course a.left_rest a.right_rest
        ∙ turn_stops chain end place fault (rest_of before names old Left) (rest_of before names old Right) run here in
        let all : after chain (suc a.turns) start ≡ whole_run chain coming_before before names =
        ended_is_whole_lem chain coming_before (records_named before (names Left)) (records_named before (names Right)) (suc a.turns) (subst (λ (x : Run). HasEnded x.course) (sym stops) tt) in
        let whole_is : stop end place fault run ≡ whole_run chain coming_before before names = sym stops ∙ all in
        record {
          ends = ap (λ (x : Run). x.course) (sym whole_is);
          grew = subst (λ (x : Run). GrewBy outs before mid (text_of x.trace.log)) whole_is (grew_mid told);
          comes = subst (λ (x : Run). HasComing coming x.trace) whole_is a.comes;
        }

    pub look_stops : (fault : RunFault) → IsLookFault now mid names old seen (HasFault now names old) fault → HoldsAfterRun chain coming_before coming names outs before mid (Err fault)
    look_stops (faults.ReadFault end) h = (failed_since mid (names end) r.only h.0, λ told. stays_near told h.1)
    look_stops faults.WriteFault h = absurd h
    look_stops (faults.BadCapture end place fault) h =
        (subst (λ (f : Option CaptureFile). MayFailAt f place) (file_now end) h.0, λ told. faulty_now end place fault (h.1 (told_here told)) told)
    look_stops (faults.TooLong end) h = (long_since before now (names end) (file_now end) h, λ told. part_mid told)
    look_stops faults.NoMemory h = absurd h

  module _ (mid new : FilesMeaning) (seen : Captures) (touched : Touches now mid (names_of names) []) (read : ReadOn now mid names old seen) (wrote : Touches mid new [] writes) where
    only_mid : Touches before mid (names_of names) writes
    only_mid = touches_then r.only (only_read touched)

    -- A record wasn't carried to its end.
    pub carry_stops : (coming_new : ℕ → ℕ → ℕ) (more : List Entry) → ((told : AreTold before names) → (after chain (suc (r.run told).turns) (started_run coming_before before names)).trace.log ≡ (after chain (r.run told).turns (started_run coming_before before names)).trace.log ++ more) → (fault : ChainFault) → GrewByPart outs mid new (text_of more) → (fault ≡ chain_fault.WriteFault → WriteFailedIn outs mid new) → HoldsAfterRun chain coming_before coming_new names outs before new (Err (run_fault fault))
    carry_stops coming_new more is chain_fault.WriteFault part failed =
        (failed_on only_mid (failed refl), λ told. stops_near mid new seen touched read wrote told more (is told) part)
    carry_stops coming_new more is chain_fault.NoMemory part failed = λ told. (stops_near mid new seen touched read wrote told more (is told) part).part

    -- Both captures have ended.
    module _ (looked : HaveLooked now names old seen) (ended_now : AreTold now names → (end : End) → (rest_of now names old end ≡ ended) × IsWithin now (names end)) where
      finish_is : (told : AreTold before names) → after chain (suc (r.run told).turns) (started_run coming_before before names) ≡ finish (after chain (r.run told).turns (started_run coming_before before names))
      finish_is told =
          let a = r.run told in
          let left : rest_of before names old Left ≡ ended = sym (rest_here Left) ∙ (ended_now (told_here told) Left).0 in
          let right : rest_of before names old Right ≡ ended = sym (rest_here Right) ∙ (ended_now (told_here told) Right).0 in
          next_turn chain a.turns (started_run coming_before before names) (rest_of before names old Left) (rest_of before names old Right) a.course a.left_rest a.right_rest
          ∙ turn_ends chain (rest_of before names old Left) (rest_of before names old Right) (after chain a.turns (started_run coming_before before names)) left right

      end_is : (told : AreTold before names) → end_line (totals_told (record { left_read = seen.left.carried; right_read = seen.right.carried; written = counts })) ≡ entry_text (finishes (totals_of (after chain (r.run told).turns (started_run coming_before before names))))
      end_is told =
          let a = r.run told in
          line_is (after chain a.turns (started_run coming_before before names)) (record { left_read = seen.left.carried; right_read = seen.right.carried; written = counts })
          ((looked Left).carried ∙ sym a.left_read) ((looked Right).carried ∙ sym a.right_read) a.counted

      pub unended : (coming_new : ℕ → ℕ → ℕ) → GrewByPart outs mid new (only Report (end_line (totals_told (record { left_read = seen.left.carried; right_read = seen.right.carried; written = counts })))) → WriteFailedIn outs mid new → HoldsAfterRun chain coming_before coming_new names outs before new (Err faults.WriteFault)
      unended coming_new part failed = (
        failed_on only_mid failed,
        λ told.
            let run = after chain (r.run told).turns (started_run coming_before before names) in
            let entry = finishes (totals_of run) in
            stops_near mid new seen touched read wrote told (entry ∷ []) (ap (λ (x : Run). x.trace.log) (finish_is told)) (wrote_entry_part entry Report (end_line (totals_told (record { left_read = seen.left.carried; right_read = seen.right.carried; written = counts }))) refl (end_is told) part),
      )

      pub all_ended : GrewBy outs mid new (only Report (end_line (totals_told (record { left_read = seen.left.carried; right_read = seen.right.carried; written = counts })))) → AreTold before names → RunIsWhole (whole_run chain coming_before before names) coming names outs before new (record { left_read = seen.left.carried; right_read = seen.right.carried; written = counts })
      all_ended grew told =
          let a = r.run told in
          let start = started_run coming_before before names in
          let run = after chain a.turns start in
          let entry = finishes (totals_of run) in
          let all : after chain (suc a.turns) start ≡ whole_run chain coming_before before names =
          ended_is_whole_lem chain coming_before (records_named before (names Left)) (records_named before (names Right)) (suc a.turns) (subst (λ (x : Run). HasEnded x.course) (sym (finish_is told)) tt) in
          let whole_is : finish run ≡ whole_run chain coming_before before names = sym (finish_is told) ∙ all in
          let line = wrote_entry entry Report (end_line (totals_told (record { left_read = seen.left.carried; right_read = seen.right.carried; written = counts }))) refl (end_is told) grew in
          record {
            has_run = record {
              ends = ap (λ (x : Run). x.course) (sym whole_is);
              grew = subst (λ (x : Run). GrewBy outs before new (text_of x.trace.log)) whole_is (log_behind run.trace.log (entry ∷ []) only_mid (grew_read a.grew touched) line);
              comes = subst (λ (x : Run). HasComing coming x.trace) whole_is (record { each = a.comes.each });
            };
            counted = record {
              left_read = (looked Left).carried ∙ sym a.left_read ∙ ap (λ (x : Run). x.left_read) whole_is;
              right_read = (looked Right).carried ∙ sym a.right_read ∙ ap (λ (x : Run). x.right_read) whole_is;
              written =
                  a.counted
                  ∙ added_none (counts_of run.trace.log)
                  ∙ added_twice (record { left = 0; right = 0; dropped = 0 }) run.trace.log (entry ∷ [])
                  ∙ ap (λ (x : Run). counts_of x.trace.log) whole_is;
            };
            within = λ end. within_since before now (names end) (file_now end) (ended_now (told_here told) end).1;
          }
