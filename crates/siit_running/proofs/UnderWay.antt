-- A run under way: how many turns were made, and what the code holds then.
use Rattle.std.proofs.Common.{◌≡◌, ◌≢◌, ℕ, suc, ◌+◌, ◌≤◌, ◌<◌, List, [], ◌∷◌, ◌++◌, drop, Option, Some, None, refl, ap, sym, subst, ◌∙◌, arith}
use Rattle.siit_word.specs.Files.{FilesMeaning, Touches}
use Rattle.siit_word.proofs.Touched.{touches_then}
use Rattle.siit_capture.specs.Captures.{Records, from_head, one_more, records_at}
use Rattle.siit_capture.specs.Fronts.{Front, bad, cut, done, whole}
use Rattle.siit_capture.specs.Heads.{head_front}
use Rattle.siit_capture.specs.declared.form.Form.{Form}
use Rattle.siit_capture.specs.declared.head.Head.{Head}
use Rattle.siit_capture.proofs.Pieces.{record_ends}
use Rattle.siit_capture.specs.LinkPackets.{packet_of}
use Rattle.siit_capture.specs.Readings as reading
use Rattle.siit_capture.specs.Records.{Record}
use Rattle.siit_chain.specs.Carried.{Chain, HasComing, Trace, behind, carry_captured, fresh, other_end}
use Rattle.siit_chain.specs.Counted.{added, counts_of}
use Rattle.siit_chain.specs.Log.{Entry, begins, text_of}
use Rattle.siit_chain.specs.Outputs.{GrewBy}
use Rattle.siit_chain.specs.declared.origin.Counts.{Counts}
use Rattle.siit_chain.specs.declared.origin.End.{End}
use Rattle.siit_chain.specs.declared.origin.End.TheVariants.{Left, Right}
use Rattle.siit_chain.specs.declared.origin.Origin.{Origin}
use Rattle.siit_chain.specs.declared.origin.Output.{Output}
use Rattle.siit_carry.proofs.Ways.{added_twice}
use Rattle.siit_run.specs.Looks.{records_left}
use Rattle.siit_run.specs.Runs.{Run, after, begun, carry_left, carry_right, going, head_fault, origin_of}
use Rattle.siit_running.specs.Carrying.{CarriesAll}
use Rattle.siit_running.specs.Ends.{AreSources, HaveLooked, ReadOn, heads_judged, past_record, rest_of, source_at}
use Rattle.siit_running.specs.Inputs.{AreNoneOf, AreTold, names_of, records_named, started_run}
use Rattle.siit_running.specs.Sources.{CaptureFile, IsCounted, IsFedNear, IsReadFrom, IsReadToIn, IsSource, file_named, given_before, new_source, rest_by, rest_in, turns_by, turns_left}
use Rattle.siit_running.specs.Turns.{next_end}
use Rattle.siit_running.specs.declared.captures.Captures.{Captures}
use Rattle.siit_running.specs.declared.next.Next.{Next}
use Rattle.siit_running.specs.declared.next.Next.TheVariants as next
use Rattle.siit_running.specs.declared.source.Source.{Source}
use Rattle.siit_running.proofs.Sides.{file_same, in_since, only_read, only_written, told_in, told_same}
use Rattle.siit_running.proofs.Grows.{grew_read, log_behind}
use Rattle.siit_running.proofs.Steps.{captured_then, next_turn, turn_left, turn_right}

-- After some turns the run goes on, and this is what the code holds.
pub record IsAt {D : Type 0} (chain : Chain D) (start : Run) (outs : Output → Option (List ℕ)) (before now : FilesMeaning) (left right : Records) (left_carried right_carried : ℕ) (counts : Counts) (coming : ℕ → ℕ → ℕ) : Type 0 where
  pub turns : ℕ
  pub course : (after chain turns start).course ≡ going
  pub left_rest : (after chain turns start).left ≡ left
  pub right_rest : (after chain turns start).right ≡ right
  pub left_read : (after chain turns start).left_read ≡ left_carried
  pub right_read : (after chain turns start).right_read ≡ right_carried
  pub comes : HasComing coming (after chain turns start).trace
  pub counted : counts ≡ counts_of (after chain turns start).trace.log
  pub grew : GrewBy outs before now (text_of (after chain turns start).trace.log)

-- the same of both captures, and how far they were read
pub record IsRunning {D : Type 0} (chain : Chain D) (coming_before coming : ℕ → ℕ → ℕ) (names : End → Option (List ℕ)) (outs : Output → Option (List ℕ)) (writes : List (List ℕ)) (before now : FilesMeaning) (captures : Captures) (counts : Counts) : Type 0 where
  pub sources : AreSources before names captures
  pub read : (end : End) → names (other_end end) ≢ names end → IsReadToIn before now (names end) (reading.fed (source_at end captures).reader)
  pub run : AreTold before names → IsAt chain (started_run coming_before before names) outs before now (rest_of before names captures Left) (rest_of before names captures Right) captures.left.carried captures.right.carried counts coming
  pub only : Touches before now (names_of names) writes

-- what the sources tell of the files as they are now
pub sources_now : (before now : FilesMeaning) (names : End → Option (List ℕ)) (writes : List (List ℕ)) (captures : Captures) → AreNoneOf names writes → Touches before now (names_of names) writes → AreSources before names captures → AreSources now names captures
sources_now before now names writes captures apart only sources = λ end.
    subst (λ (f : Option CaptureFile). IsSource f (source_at end captures)) (sym (file_same only (names end) (apart end))) (sources end)

-- Captures of which nothing was read

rest_new : (files : FilesMeaning) (name : Option (List ℕ)) → rest_in (file_named files name) new_source ≡ records_named files name
rest_new files None = refl
rest_new files (Some name) = refl

module _ (files : FilesMeaning) (names : End → Option (List ℕ)) (captures : Captures) (left : captures.left ≡ new_source) (right : captures.right ≡ new_source) where
  pub new_rest : (end : End) → rest_of files names captures end ≡ records_named files (names end)
  new_rest Left = ap (rest_in (file_named files (names Left))) left ∙ rest_new files (names Left)
  new_rest Right = ap (rest_in (file_named files (names Right))) right ∙ rest_new files (names Right)

-- The heads were written, and both captures were looked at.
module _ {D : Type 0} (chain : Chain D) (coming : ℕ → ℕ → ℕ) (names : End → Option (List ℕ)) (outs : Output → Option (List ℕ)) (writes : List (List ℕ)) (before mid now : FilesMeaning) (old new : Captures) where
  pub begun_running : AreNoneOf names writes → old.left ≡ new_source → old.right ≡ new_source → Touches before mid [] writes → GrewBy outs before mid (text_of (begins Left ∷ begins Right ∷ [])) → Touches mid now (names_of names) [] → HaveLooked mid names old new → (AreTold mid names → heads_judged mid names old ≡ going) → ReadOn mid now names old new → IsRunning chain coming coming names outs writes before now new (counts_of [])
  unfolding after
  begun_running apart left right wrote heads touched looked good read =
      let file : (end : End) → file_named mid (names end) ≡ file_named before (names end) = λ end. file_same wrote (names end) (apart end) in
      let old_rest : (end : End) → rest_of mid names old end ≡ records_named before (names end) =
      λ end. ap (λ (f : Option CaptureFile). rest_in f (source_at end old)) (file end) ∙ new_rest before names old left right end in
      let told_mid : AreTold before names → AreTold mid names = λ told end. told_same wrote (names end) (told end) in
      let new_rest_is : AreTold before names → (end : End) → records_named before (names end) ≡ rest_of before names new end =
      λ told end.
      sym (old_rest end)
      ∙ sym ((looked end).rest (told_in mid (names end) (told_mid told end)))
      ∙ ap (λ (f : Option CaptureFile). rest_in f (source_at end new)) (file end) in
      record {
        sources = λ end. subst (λ (f : Option CaptureFile). IsSource f (source_at end new)) (file end) (looked end).source;
        read = λ end differ. in_since before mid now writes (names end) (reading.fed (source_at end new).reader) wrote (read.read end differ);
        run = λ told. record {
          turns = 0;
          course = ap (λ r. begun (head_fault r) (head_fault (records_named before (names Right)))) (sym (old_rest Left)) ∙ ap (λ r. begun (head_fault (rest_of mid names old Left)) (head_fault r)) (sym (old_rest Right)) ∙ good (told_mid told);
          left_rest = new_rest_is told Left;
          right_rest = new_rest_is told Right;
          left_read = sym ((looked Left).carried ∙ ap (λ (s : Source). s.carried) left);
          right_read = sym ((looked Right).carried ∙ ap (λ (s : Source). s.carried) right);
          comes = record { each = λ device k. refl };
          counted = refl;
          grew = grew_read heads touched;
        };
        only = touches_then (only_written wrote) (only_read touched);
      }

-- A record was carried.

module _ {D : Type 0} (chain : Chain D) (start : Run) (outs : Output → Option (List ℕ)) (before mid now : FilesMeaning) (reads writes : List (List ℕ)) (coming_old coming : ℕ → ℕ → ℕ) (counts_old more counts : Counts) (l r l_then r_then : Records) (l_read r_read l_read_then r_read_then : ℕ) (origin : Origin) (record_found : Record) where
  -- what a turn has written, behind what was written before
  pub trace_next : (a : IsAt chain start outs before mid l r l_read r_read counts_old coming_old) → (run : Run) → after chain (suc a.turns) start ≡ run → run.trace ≡ carry_captured chain origin (after chain a.turns start).trace (packet_of record_found.link record_found.bytes) → (after chain (suc a.turns) start).trace ≡ behind (after chain a.turns start).trace.log (carry_captured chain origin (fresh coming_old) (packet_of record_found.link record_found.bytes))
  trace_next a run is trace =
      ap (λ (x : Run). x.trace) is ∙ trace ∙ captured_then chain origin (after chain a.turns start).trace coming_old (packet_of record_found.link record_found.bytes) a.comes

  pub next_left : (place : ℕ) (a : IsAt chain start outs before mid l r l_read r_read counts_old coming_old) → l ≡ one_more record_found place l_then → next_end l r ≡ Some Left → after chain (suc a.turns) start ≡ carry_left chain record_found l_then (after chain a.turns start)
  next_left place a is goes =
      next_turn chain a.turns start l r a.course a.left_rest a.right_rest ∙ turn_left chain l r record_found place l_then (after chain a.turns start) is goes

  pub next_right : (place : ℕ) (a : IsAt chain start outs before mid l r l_read r_read counts_old coming_old) → r ≡ one_more record_found place r_then → next_end l r ≡ Some Right → after chain (suc a.turns) start ≡ carry_right chain record_found r_then (after chain a.turns start)
  next_right place a is goes =
      next_turn chain a.turns start l r a.course a.left_rest a.right_rest ∙ turn_right chain l r record_found place r_then (after chain a.turns start) is goes

  pub left_trace : (a : IsAt chain start outs before mid l r l_read r_read counts_old coming_old) → origin ≡ origin_of Left (l_read + 1) record_found → (carry_left chain record_found l_then (after chain a.turns start)).trace ≡ carry_captured chain origin (after chain a.turns start).trace (packet_of record_found.link record_found.bytes)
  left_trace a from =
      let old = (after chain a.turns start).trace in
      let packet = packet_of record_found.link record_found.bytes in
      ap (λ n. carry_captured chain (origin_of Left (n + 1) record_found) old packet) a.left_read ∙ ap (λ (o : Origin). carry_captured chain o old packet) (sym from)

  pub right_trace : (a : IsAt chain start outs before mid l r l_read r_read counts_old coming_old) → origin ≡ origin_of Right (r_read + 1) record_found → (carry_right chain record_found r_then (after chain a.turns start)).trace ≡ carry_captured chain origin (after chain a.turns start).trace (packet_of record_found.link record_found.bytes)
  right_trace a from =
      let old = (after chain a.turns start).trace in
      let packet = packet_of record_found.link record_found.bytes in
      ap (λ n. carry_captured chain (origin_of Right (n + 1) record_found) old packet) a.right_read ∙ ap (λ (o : Origin). carry_captured chain o old packet) (sym from)

  -- what the code holds then, where the turn has carried this record
  at_next : (a : IsAt chain start outs before mid l r l_read r_read counts_old coming_old) → (run : Run) → after chain (suc a.turns) start ≡ run → run.course ≡ going → run.left ≡ l_then → run.right ≡ r_then → run.left_read ≡ l_read_then → run.right_read ≡ r_read_then → run.trace ≡ carry_captured chain origin (after chain a.turns start).trace (packet_of record_found.link record_found.bytes) → Touches before mid reads writes → CarriesAll outs mid now coming more (carry_captured chain origin (fresh coming_old) (packet_of record_found.link record_found.bytes)) → ((log : List Entry) → more ≡ counts_of log → counts ≡ added counts_old log) → IsAt chain start outs before now l_then r_then l_read_then r_read_then counts coming
  at_next a run is course left right left_read right_read trace only carries sum =
      let old = (after chain a.turns start).trace in
      let all = carry_captured chain origin (fresh coming_old) (packet_of record_found.link record_found.bytes) in
      let trace_is : (after chain (suc a.turns) start).trace ≡ behind old.log all = trace_next a run is trace in
      record {
        turns = suc a.turns;
        course = ap (λ (x : Run). x.course) is ∙ course;
        left_rest = ap (λ (x : Run). x.left) is ∙ left;
        right_rest = ap (λ (x : Run). x.right) is ∙ right;
        left_read = ap (λ (x : Run). x.left_read) is ∙ left_read;
        right_read = ap (λ (x : Run). x.right_read) is ∙ right_read;
        comes = subst (λ (t : Trace). HasComing coming t) (sym trace_is) (record { each = carries.comes.each });
        counted =
            sum all.log carries.counted
            ∙ ap (λ (n : Counts). added n all.log) a.counted
            ∙ added_twice (record { left = 0; right = 0; dropped = 0 }) old.log all.log
            ∙ ap (λ (t : Trace). counts_of t.log) (sym trace_is);
        grew = subst (λ (t : Trace). GrewBy outs before now (text_of t.log)) (sym trace_is) (log_behind old.log all.log only a.grew carries.grew);
      }

  pub at_left : (place : ℕ) (a : IsAt chain start outs before mid l r l_read r_read counts_old coming_old) → l ≡ one_more record_found place l_then → next_end l r ≡ Some Left → r ≡ r_then → origin ≡ origin_of Left (l_read + 1) record_found → l_read_then ≡ l_read + 1 → r_read_then ≡ r_read → Touches before mid reads writes → CarriesAll outs mid now coming more (carry_captured chain origin (fresh coming_old) (packet_of record_found.link record_found.bytes)) → ((log : List Entry) → more ≡ counts_of log → counts ≡ added counts_old log) → IsAt chain start outs before now l_then r_then l_read_then r_read_then counts coming
  at_left place a is goes rest from l_count r_count only carries sum =
      let count : (after chain a.turns start).left_read + 1 ≡ l_read_then = omega (arith, a.left_read, l_count) in
      at_next a (carry_left chain record_found l_then (after chain a.turns start)) (next_left place a is goes)
      a.course refl (a.right_rest ∙ rest) count (a.right_read ∙ sym r_count) (left_trace a from) only carries sum

  pub at_right : (place : ℕ) (a : IsAt chain start outs before mid l r l_read r_read counts_old coming_old) → r ≡ one_more record_found place r_then → next_end l r ≡ Some Right → l ≡ l_then → origin ≡ origin_of Right (r_read + 1) record_found → r_read_then ≡ r_read + 1 → l_read_then ≡ l_read → Touches before mid reads writes → CarriesAll outs mid now coming more (carry_captured chain origin (fresh coming_old) (packet_of record_found.link record_found.bytes)) → ((log : List Entry) → more ≡ counts_of log → counts ≡ added counts_old log) → IsAt chain start outs before now l_then r_then l_read_then r_read_then counts coming
  at_right place a is goes rest from r_count l_count only carries sum =
      let count : (after chain a.turns start).right_read + 1 ≡ r_read_then = omega (arith, a.right_read, r_count) in
      at_next a (carry_right chain record_found r_then (after chain a.turns start)) (next_right place a is goes)
      a.course (a.left_rest ∙ rest) refl (a.left_read ∙ sym l_count) count (right_trace a from) only carries sum

-- a source of which the record that stood next was carried

head_ends : (place : ℕ) (front : Front Form) (record_found : Record) (ends : ℕ) (rest : Records) → from_head place front ≡ one_more record_found ends rest → place ≤ ends
head_ends place done record_found ends rest h = cc
head_ends place cut record_found ends rest h = cc
head_ends place (bad fault) record_found ends rest h = cc
head_ends place (whole form behind_head) record_found ends rest h = let r = record_ends form (place + 24) behind_head record_found ends rest h in omega (arith, r.2)

ends_at : (form : Option Form) (place : ℕ) (bytes : List ℕ) (record_found : Record) (ends : ℕ) (rest : Records) → records_at form place bytes ≡ one_more record_found ends rest → place ≤ ends
ends_at None place bytes record_found ends rest h = head_ends place (head_front bytes) record_found ends rest h
ends_at (Some form) place bytes record_found ends rest h = let r = record_ends form place bytes record_found ends rest h in omega (arith, r.2)

module _ (source : Source) (head : Head) (number : ℕ) (is : source.next ≡ Some (next.Record head)) (number_is : number ≡ head.number) where
  head_counted : (file : Option CaptureFile) → IsSource file source → IsCounted (Some (next.Record head)) source.reader source.carried
  head_counted file s = subst (λ (o : Option Next). IsCounted o source.reader source.carried) is s.counted

  past_near : (bytes : List ℕ) (file : Option CaptureFile) → IsSource file source → IsFedNear (rest_by source.next source.reader (records_left bytes source.reader)) (reading.fed source.reader) → IsFedNear (records_left bytes source.reader) (reading.fed source.reader)
  past_near bytes file s near = λ record_found ends rest h.
      let counted = head_counted file s in
      let here : rest_by source.next source.reader (records_left bytes source.reader) ≡ one_more counted.0.record_found source.reader.place (records_left bytes source.reader) =
      ap (λ (o : Option Next). rest_by o source.reader (records_left bytes source.reader)) is
      ∙ ap (λ (o : Option Record). given_before o source.reader.place (records_left bytes source.reader)) counted.0.given in
      let low = near counted.0.record_found source.reader.place (records_left bytes source.reader) here in
      let further = ends_at source.reader.form source.reader.place (source.reader.rest ++ drop (reading.fed source.reader) bytes) record_found ends rest h in
      omega (arith, low, further)

  past_from : (file : Option CaptureFile) → IsSource file source → IsReadFrom file (past_record number source)
  past_from None s = tt
  past_from (Some file) s = λ told.
      let from_file = s.from_file told in
      record { inside = from_file.inside; near = past_near file.bytes (Some file) s from_file.near; whole = tt }

  pub past_source : (file : Option CaptureFile) → IsSource file source → IsSource file (past_record number source)
  past_source file s =
      let counted = head_counted file s in
      record { few = s.few; counted = omega (arith, number_is, counted.0.number); from_file = past_from file s; fails = tt }

  pub past_turns : turns_left (past_record number source) < turns_left source
  past_turns = let same : turns_left source ≡ turns_by (Some (next.Record head)) source.reader.place = ap (λ (o : Option Next). turns_by o source.reader.place) is in omega (arith, same)
