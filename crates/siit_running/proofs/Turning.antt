-- A turn of the run as the code makes it: both captures are looked at, and a record is carried.
use Rattle.std.proofs.Common.{◌≡◌, ◌≢◌, ℕ, suc, ◌+◌, ◌<◌, List, [], ◌++◌, Option, Some, refl, ap, sym, subst, ◌∙◌, arith}
use Rattle.siit_word.specs.Files.{FilesMeaning, Touches}
use Rattle.siit_word.proofs.Touched.{touches_then}
use Rattle.siit_capture.specs.LinkPackets.{packet_of}
use Rattle.siit_capture.specs.Readings as reading
use Rattle.siit_capture.specs.Records.{Record}
use Rattle.siit_chain.specs.Carried.{Chain, Trace, carry_captured, fresh, other_end}
use Rattle.siit_chain.specs.Counted.{added, counts_of}
use Rattle.siit_chain.specs.Log.{Entry}
use Rattle.siit_chain.specs.declared.origin.Counts.{Counts}
use Rattle.siit_chain.specs.declared.origin.End.{End}
use Rattle.siit_chain.specs.declared.origin.End.TheVariants.{Left, Right}
use Rattle.siit_chain.specs.declared.origin.Origin.{Origin}
use Rattle.siit_chain.specs.declared.origin.Output.{Output}
use Rattle.siit_run.specs.Runs.{after, carry_left, carry_right, origin_of}
use Rattle.siit_running.specs.Carrying.{CarriesAll, packet_in}
use Rattle.siit_running.specs.Ends.{HaveLooked, ReadOn, StandsAt, carried_at, past_record, rest_of, source_at, turns_of}
use Rattle.siit_running.specs.Inputs.{AreNoneOf, AreTold, names_of, started_run}
use Rattle.siit_running.specs.Sources.{CaptureFile, HasLooked, IsReadToIn, IsSource, file_named, later_in, rest_in, turns_left}
use Rattle.siit_running.specs.Turns.{head_origin, next_end}
use Rattle.siit_running.specs.declared.captures.Captures.{Captures}
use Rattle.siit_running.specs.declared.next.Next.TheVariants as next
use Rattle.siit_running.specs.declared.source.Source.{Source}
use Rattle.siit_running.proofs.BothLooks.{WaitsWith, waits_with}
use Rattle.siit_running.proofs.Grows.{grew_read}
use Rattle.siit_running.proofs.UnderWay.{IsAt, IsRunning, at_left, at_right, left_trace, next_left, next_right, past_source, past_turns, right_trace, trace_next}
use Rattle.siit_running.proofs.Sides.{file_same, in_then, in_written, only_read, only_turn, told_in, told_same}

module _ (origin : Origin) (old source : Source) (file : Option CaptureFile) (looked : HasLooked file old source) (s : StandsAt origin source) where
  pub stands_with : WaitsWith s.by_head file old source
  stands_with = waits_with file old source (next.Record s.by_head) s.next looked s.by_head refl

  pub number_of : origin.number ≡ old.carried + 1
  number_of = ap (λ (o : Origin). o.number) s.is ∙ stands_with.number ∙ ap (λ n. n + 1) looked.carried

  pub origin_at : (end : End) → origin.end ≡ end → origin ≡ origin_of end (old.carried + 1) stands_with.record_found
  origin_at end is =
      let w = stands_with in
      let number : s.by_head.number ≡ old.carried + 1 = w.number ∙ ap (λ n. n + 1) looked.carried in
      let filled : head_origin end s.by_head ≡ origin_of end (old.carried + 1) w.record_found =
      λ i. record { end = end; number = number i; seconds = w.seconds i; nanos = w.nanoseconds i } in
      s.is ∙ ap (λ e. head_origin e s.by_head) is ∙ filled

  pub source_past : IsSource file (past_record origin.number source)
  source_past = past_source source s.by_head origin.number s.next (ap (λ (o : Origin). o.number) s.is) file looked.source

  pub turns_fall : turns_left (past_record origin.number source) < turns_left old
  turns_fall = let fall = past_turns source s.by_head origin.number s.next (ap (λ (o : Origin). o.number) s.is) in omega (arith, fall, looked.turns)

module _ {D : Type 0} (chain : Chain D) (coming_before coming_old : ℕ → ℕ → ℕ) (names : End → Option (List ℕ)) (outs : Output → Option (List ℕ)) (writes : List (List ℕ)) (before now mid : FilesMeaning) (old seen : Captures) (counts_old : Counts) (origin : Origin) (apart : AreNoneOf names writes) (r : IsRunning chain coming_before coming_old names outs writes before now old counts_old) (touched : Touches now mid (names_of names) []) (looked_now : HaveLooked now names old seen) (read : ReadOn now mid names old seen) where
  file : (end : End) → file_named now (names end) ≡ file_named before (names end)
  file end = file_same r.only (names end) (apart end)

  looked : (end : End) → HasLooked (file_named before (names end)) (source_at end old) (source_at end seen)
  looked end = subst (λ (f : Option CaptureFile). HasLooked f (source_at end old) (source_at end seen)) (file end) (looked_now end)

  rest_now : (end : End) → rest_of now names old end ≡ rest_of before names old end
  rest_now end = ap (λ (f : Option CaptureFile). rest_in f (source_at end old)) (file end)

  told_now : AreTold before names → AreTold now names
  told_now told end = told_same r.only (names end) (told end)

  rest_seen : AreTold before names → (end : End) → rest_of before names old end ≡ rest_of before names seen end
  rest_seen told end = sym ((looked end).rest (told_in before (names end) (told end)))

  goes_now : (end : End) → (AreTold now names → next_end (rest_of now names old Left) (rest_of now names old Right) ≡ Some end) → AreTold before names → next_end (rest_of before names old Left) (rest_of before names old Right) ≡ Some end
  goes_now end goes told =
      ap (λ x. next_end x (rest_of before names old Right)) (sym (rest_now Left)) ∙ ap (λ x. next_end (rest_of now names old Left) x) (sym (rest_now Right)) ∙ goes (told_now told)

  only_mid : Touches before mid (names_of names) writes
  only_mid = touches_then r.only (only_read touched)

  at_mid : AreTold before names → IsAt chain (started_run coming_before before names) outs before mid (rest_of before names old Left) (rest_of before names old Right) old.left.carried old.right.carried counts_old coming_old
  at_mid told = let a = r.run told in record {
    turns = a.turns;
    course = a.course;
    left_rest = a.left_rest;
    right_rest = a.right_rest;
    left_read = a.left_read;
    right_read = a.right_read;
    comes = a.comes;
    counted = a.counted;
    grew = grew_read a.grew touched;
  }

  -- what the turn writes
  pub turn_log : (end : End) → origin.end ≡ end → (s : StandsAt origin (source_at end seen)) → (AreTold now names → next_end (rest_of now names old Left) (rest_of now names old Right) ≡ Some end) → (told : AreTold before names) → (after chain (suc (r.run told).turns) (started_run coming_before before names)).trace.log ≡ (after chain (r.run told).turns (started_run coming_before before names)).trace.log ++ (carry_captured chain origin (fresh coming_old) (packet_in (source_at end seen).reader.found)).log
  unfolding at_mid
  turn_log Left is s goes told =
      let w = stands_with origin old.left seen.left (file_named before (names Left)) (looked Left) s in
      let a = at_mid told in
      let start = started_run coming_before before names in
      let later = later_in (file_named before (names Left)) seen.left.reader in
      let trace = trace_next chain start outs before mid mid (names_of names) writes coming_old coming_old counts_old counts_old counts_old (rest_of before names old Left) (rest_of before names old Right) later later old.left.carried old.right.carried 0 0 origin w.record_found a
      (carry_left chain w.record_found later (after chain a.turns start))
      (next_left chain start outs before mid mid (names_of names) writes coming_old coming_old counts_old counts_old counts_old (rest_of before names old Left) (rest_of before names old Right) later later old.left.carried old.right.carried 0 0 origin w.record_found seen.left.reader.place a (w.left (told_in before (names Left) (told Left))) (goes_now Left goes told))
      (left_trace chain start outs before mid mid (names_of names) writes coming_old coming_old counts_old counts_old counts_old (rest_of before names old Left) (rest_of before names old Right) later later old.left.carried old.right.carried 0 0 origin w.record_found a (origin_at origin old.left seen.left (file_named before (names Left)) (looked Left) s Left is)) in
      ap (λ (t : Trace). t.log) trace
      ∙ ap (λ (o : Option Record). (after chain a.turns start).trace.log ++ (carry_captured chain origin (fresh coming_old) (packet_in o)).log) (sym w.is)
  turn_log Right is s goes told =
      let w = stands_with origin old.right seen.right (file_named before (names Right)) (looked Right) s in
      let a = at_mid told in
      let start = started_run coming_before before names in
      let later = later_in (file_named before (names Right)) seen.right.reader in
      let trace = trace_next chain start outs before mid mid (names_of names) writes coming_old coming_old counts_old counts_old counts_old (rest_of before names old Left) (rest_of before names old Right) later later old.left.carried old.right.carried 0 0 origin w.record_found a
      (carry_right chain w.record_found later (after chain a.turns start))
      (next_right chain start outs before mid mid (names_of names) writes coming_old coming_old counts_old counts_old counts_old (rest_of before names old Left) (rest_of before names old Right) later later old.left.carried old.right.carried 0 0 origin w.record_found seen.right.reader.place a (w.left (told_in before (names Right) (told Right))) (goes_now Right goes told))
      (right_trace chain start outs before mid mid (names_of names) writes coming_old coming_old counts_old counts_old counts_old (rest_of before names old Left) (rest_of before names old Right) later later old.left.carried old.right.carried 0 0 origin w.record_found a (origin_at origin old.right seen.right (file_named before (names Right)) (looked Right) s Right is)) in
      ap (λ (t : Trace). t.log) trace
      ∙ ap (λ (o : Option Record). (after chain a.turns start).trace.log ++ (carry_captured chain origin (fresh coming_old) (packet_in o)).log) (sym w.is)

  -- and fewer turns are left
  pub turns_less : (end : End) → StandsAt origin (source_at end seen) → turns_of (carried_at end origin.number seen) < turns_of old
  turns_less Left s =
      let fall = turns_fall origin old.left seen.left (file_named before (names Left)) (looked Left) s in
      let stay = (looked Right).turns in
      omega (arith, fall, stay)
  turns_less Right s =
      let fall = turns_fall origin old.right seen.right (file_named before (names Right)) (looked Right) s in
      let stay = (looked Left).turns in
      omega (arith, fall, stay)

  module _ (new : FilesMeaning) (coming : ℕ → ℕ → ℕ) (more counts : Counts) (wrote : Touches mid new [] writes) (sum : (log : List Entry) → more ≡ counts_of log → counts ≡ added counts_old log) where
    read_far : (end : End) → names (other_end end) ≢ names end → IsReadToIn before new (names end) (reading.fed (source_at end seen).reader)
    read_far end differ =
        in_written before mid new writes (names end) (reading.fed (source_at end seen).reader)
        (in_then before now mid (names end) (reading.fed (source_at end old).reader) (reading.fed (source_at end seen).reader) (r.read end differ) (read.read end differ) (read.more end))
        wrote

    past_left : IsSource (file_named before (names Left)) (past_record origin.number seen.left) → (end : End) → IsSource (file_named before (names end)) (source_at end (carried_at Left origin.number seen))
    past_left s Left = s
    past_left s Right = (looked Right).source

    past_right : IsSource (file_named before (names Right)) (past_record origin.number seen.right) → (end : End) → IsSource (file_named before (names end)) (source_at end (carried_at Right origin.number seen))
    past_right s Left = (looked Left).source
    past_right s Right = s

    far_past : (e end : End) → names (other_end end) ≢ names end → IsReadToIn before new (names end) (reading.fed (source_at end (carried_at e origin.number seen)).reader)
    far_past Left Left differ = read_far Left differ
    far_past Left Right differ = read_far Right differ
    far_past Right Left differ = read_far Left differ
    far_past Right Right differ = read_far Right differ

    only_far : Touches before new (names_of names) writes
    only_far = only_turn r.only touched wrote

    carries_by : (found : Record) (found_in : Option Record) → found_in ≡ Some found → CarriesAll outs mid new coming more (carry_captured chain origin (fresh coming_old) (packet_in found_in)) → CarriesAll outs mid new coming more (carry_captured chain origin (fresh coming_old) (packet_of found.link found.bytes))
    carries_by found found_in is c = subst (λ (o : Option Record). CarriesAll outs mid new coming more (carry_captured chain origin (fresh coming_old) (packet_in o))) is c

    -- The run has made a turn more.
    pub turned : (end : End) → origin.end ≡ end → StandsAt origin (source_at end seen) → (AreTold now names → next_end (rest_of now names old Left) (rest_of now names old Right) ≡ Some end) → CarriesAll outs mid new coming more (carry_captured chain origin (fresh coming_old) (packet_in (source_at end seen).reader.found)) → IsRunning chain coming_before coming names outs writes before new (carried_at end origin.number seen) counts
    turned Left is s goes carries =
        let w = stands_with origin old.left seen.left (file_named before (names Left)) (looked Left) s in
        record {
          sources = past_left (source_past origin old.left seen.left (file_named before (names Left)) (looked Left) s);
          read = far_past Left;
          run = λ told.
              at_left chain (started_run coming_before before names) outs before mid new (names_of names) writes coming_old coming counts_old more counts
              (rest_of before names old Left) (rest_of before names old Right) (rest_of before names (carried_at Left origin.number seen) Left) (rest_of before names seen Right) old.left.carried old.right.carried origin.number seen.right.carried
              origin w.record_found seen.left.reader.place (at_mid told) (w.left (told_in before (names Left) (told Left))) (goes_now Left goes told) (rest_seen told Right)
              (origin_at origin old.left seen.left (file_named before (names Left)) (looked Left) s Left is)
              (number_of origin old.left seen.left (file_named before (names Left)) (looked Left) s) (looked Right).carried only_mid
              (carries_by w.record_found seen.left.reader.found w.is carries) sum;
          only = only_far;
        }
    turned Right is s goes carries =
        let w = stands_with origin old.right seen.right (file_named before (names Right)) (looked Right) s in
        record {
          sources = past_right (source_past origin old.right seen.right (file_named before (names Right)) (looked Right) s);
          read = far_past Right;
          run = λ told.
              at_right chain (started_run coming_before before names) outs before mid new (names_of names) writes coming_old coming counts_old more counts
              (rest_of before names old Left) (rest_of before names old Right) (rest_of before names seen Left) (rest_of before names (carried_at Right origin.number seen) Right) old.left.carried old.right.carried seen.left.carried origin.number
              origin w.record_found seen.right.reader.place (at_mid told) (w.left (told_in before (names Right) (told Right))) (goes_now Right goes told) (rest_seen told Left)
              (origin_at origin old.right seen.right (file_named before (names Right)) (looked Right) s Right is)
              (number_of origin old.right seen.right (file_named before (names Right)) (looked Right) s) (looked Left).carried only_mid
              (carries_by w.record_found seen.right.reader.found w.is carries) sum;
          only = only_far;
        }
