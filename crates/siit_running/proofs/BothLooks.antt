-- Both captures before and after they were looked at, and whose record comes next.
use Rattle.std.proofs.Common.{◌≡◌, ◌≢◌, ℕ, zero, suc, ◌+◌, ◌≤◌, ◌<◌, List, [], length, Bool, true, false, Option, Some, None, Ok, Err, IsTrue, refl, ap, sym, subst, ◌∙◌, arith, if◌then◌else◌, ◌==◌}
use Rattle.std.specs.Prelude.{nat_lt}
use Rattle.siit_word.specs.Files.{FilesMeaning, Touches, held}
use Rattle.siit_capture.specs.Captures.{Records, ended, faulty, one_more}
use Rattle.siit_capture.specs.Readings.{Reading, fed}
use Rattle.siit_capture.specs.Records as found
use Rattle.siit_capture.specs.declared.form.CaptureFault.{CaptureFault}
use Rattle.siit_capture.specs.declared.head.Head.{Head}
use Rattle.siit_chain.specs.Carried.{other_end}
use Rattle.siit_chain.specs.Outputs.{some_name}
use Rattle.siit_chain.specs.declared.origin.End.{End}
use Rattle.siit_chain.specs.declared.origin.End.TheVariants as ends
use Rattle.siit_run.specs.Runs.{begun, head_fault, is_earlier, stopped}
use Rattle.siit_running.specs.Ends.{HaveLooked, IsChosen, IsLookFault, ReadOn, StandsAt, rest_of, source_at}
use Rattle.siit_running.specs.Inputs.{AreTold, IsTold, IsTooLong, IsWithin, ReadFailedAt}
use Rattle.siit_running.specs.Looking.{IsUnreadable}
use Rattle.siit_running.specs.Sources.{CaptureFile, FailsWhereItMay, HasLooked, IsCounted, IsFedNear, IsReadToIn, IsReadWhole, IsSource, IsToldIn, MayFailAt, ReadsOn, file_named, given_before, later_in, rest_by, rest_in}
use Rattle.siit_running.specs.Turns.{HasNoFault, earlier_of, head_judged, head_origin, is_before, next_end, next_told}
use Rattle.siit_running.specs.declared.captures.Captures.{Captures}
use Rattle.siit_running.specs.declared.fault.RunFault.{RunFault}
use Rattle.siit_running.specs.declared.fault.RunFault.TheVariants.{ReadFault, WriteFault, BadCapture, TooLong, NoMemory}
use Rattle.siit_running.specs.declared.next.Next.{Next}
use Rattle.siit_running.specs.declared.next.Next.TheVariants as next
use Rattle.siit_running.specs.declared.source.Source.{Source}
use Rattle.siit_running.proofs.Sides.{apart_none, file_same, in_after, in_kept, told_in}

pub have_looked : (files : FilesMeaning) (names : End → Option (List ℕ)) (old new : Captures) → HasLooked (file_named files (names ends.Left)) old.left new.left → HasLooked (file_named files (names ends.Right)) old.right new.right → HaveLooked files names old new
have_looked files names old new left right ends.Left = left
have_looked files names old new left right ends.Right = right

module _ {a b : FilesMeaning} (name : Option (List ℕ)) {reads : List (List ℕ)} (only : Touches a b reads []) where
  same : file_named b name ≡ file_named a name
  same = file_same only name (apart_none name)

  -- what was told of a source before another capture was read holds after it
  pub source_then : (source : Source) → IsSource (file_named a name) source → IsSource (file_named b name) source
  source_then source s = subst (λ (f : Option CaptureFile). IsSource f source) (sym same) s

  pub looked_before : (old new : Source) → HasLooked (file_named b name) old new → HasLooked (file_named a name) old new
  looked_before old new h = subst (λ (f : Option CaptureFile). HasLooked f old new) same h

  pub near_before : (old new : Source) → (IsToldIn (file_named b name) → IsFedNear (rest_in (file_named b name) old) (fed new.reader)) → IsToldIn (file_named a name) → IsFedNear (rest_in (file_named a name) old) (fed new.reader)
  near_before old new h = subst (λ (f : Option CaptureFile). IsToldIn f → IsFedNear (rest_in f old) (fed new.reader)) same h

  pub long_before : IsTooLong b name → IsTooLong a name
  long_before = long_by name only
    where
      long_by : (n : Option (List ℕ)) → Touches a b reads [] → IsTooLong b n → IsTooLong a n
      long_by None t h = h
      long_by (Some n) t h = λ told. subst (λ (f : Option (List ℕ)). 4294967296 < length (held f)) (t.contents n tt) (h (subst (λ (x : Bool). IsTrue x) (sym (t.told n)) told))

  pub failed_after : (c : FilesMeaning) (other : Option (List ℕ)) → ReadFailedAt b c other → ReadFailedAt a c other
  failed_after c None h = h
  failed_after c (Some q) h = let before = only.read_faults q in omega (arith, before, h)

-- Reading on

module _ (a : FilesMeaning) (names : End → Option (List ℕ)) (old new : Captures) where
  module _ (b : FilesMeaning) (left : Touches a b (some_name (names ends.Left)) []) (read_left : ReadsOn a b (names ends.Left) old.left new.left) where
    module _ (c : FilesMeaning) (right : Touches b c (some_name (names ends.Right)) []) (read_right : ReadsOn b c (names ends.Right) old.right new.right) where
      near_both : AreTold a names → (end : End) → IsFedNear (rest_of a names old end) (fed (source_at end new).reader)
      near_both told ends.Left = read_left.near (told_in a (names ends.Left) (told ends.Left))
      near_both told ends.Right = near_before (names ends.Right) left old.right new.right read_right.near (told_in a (names ends.Right) (told ends.Right))

      far_both : (end : End) → names (other_end end) ≢ names end → IsReadToIn a c (names end) (fed (source_at end new).reader)
      far_both ends.Left differ = in_kept a b c (names ends.Left) (names ends.Right) (fed new.left.reader) differ read_left.read right
      far_both ends.Right differ = in_after a b c (names ends.Right) (names ends.Left) (fed new.right.reader) differ left read_right.read

      more_both : (end : End) → fed (source_at end old).reader ≤ fed (source_at end new).reader
      more_both ends.Left = read_left.more
      more_both ends.Right = read_right.more

      -- first the left one was read on, and then the right one
      pub read_on_both : ReadOn a c names old new
      read_on_both = record { near = near_both; read = far_both; more = more_both }

-- Why the right capture wasn't found out
module _ (a b : FilesMeaning) (names : End → Option (List ℕ)) (old new : Captures) (P : End → ℕ → CaptureFault → Type 0) where
  pub right_fault : (c : FilesMeaning) → Touches a b (some_name (names ends.Left)) [] → ReadsOn a b (names ends.Left) old.left new.left → Touches b c (some_name (names ends.Right)) [] → (fault : RunFault) → IsUnreadable ends.Right b c (names ends.Right) old.right new.right fault → IsLookFault a c names old new P fault
  right_fault c only read_left right (ReadFault end) h = (
    failed_after (names end) only c (names end) (subst (λ (e : End). ReadFailedAt b c (names e)) (sym h.0) h.1),
    read_on_both a names old new b only read_left c right h.2,
  )
  right_fault c only read_left right WriteFault h = absurd h
  right_fault c only read_left right (BadCapture end place fault) h = absurd h
  right_fault c only read_left right (TooLong end) h = subst (λ (e : End). IsTooLong a (names e)) (sym h.0) (long_before (names ends.Right) only h.1)
  right_fault c only read_left right NoMemory h = absurd h

-- Heads

-- what is known of a source of which an item stands next
rest_known : (file : Option CaptureFile) (source : Source) (n : Next) → source.next ≡ Some n → IsSource file source → IsCounted (Some n) source.reader source.carried
rest_known file source n is s = subst (λ (o : Option Next). IsCounted o source.reader source.carried) is s.counted

good_by : (n : Next) (end : End) (reading : Reading) (carried : ℕ) (later : Records) → IsCounted (Some n) reading carried → Ok tt ≡ head_judged end n → head_fault (rest_by (Some n) reading later) ≡ None
good_by (next.Record head) end reading carried later counted is =
    ap (λ (o : Option found.Record). head_fault (given_before o reading.place later)) counted.0.given
good_by next.End end reading carried later counted is = refl
good_by (next.Fault zero fault) end reading carried later counted is = cc
good_by (next.Fault (suc place) fault) end reading carried later counted is = refl

bad_by : (n : Next) (end : End) (reading : Reading) (later : Records) (fault : RunFault) (e : End) (place : ℕ) (f : CaptureFault) → Err fault ≡ head_judged end n → fault ≡ BadCapture e place f → (e ≡ end) × (place ≡ 0) × (head_fault (rest_by (Some n) reading later) ≡ Some f)
bad_by (next.Record head) end reading later fault e place f is h = cc
bad_by next.End end reading later fault e place f is h = cc
bad_by (next.Fault zero g) end reading later fault e place f is h = (cc, cc, cc)
bad_by (next.Fault (suc p) g) end reading later fault e place f is h = cc

module _ (file : Option CaptureFile) (old new : Source) (n : Next) (is : new.next ≡ Some n) (looked : HasLooked file old new) (told : IsToldIn file) where
  -- what wasn't carried yet, by what stands next
  pub rest_here : rest_by (Some n) new.reader (later_in file new.reader) ≡ rest_in file old
  rest_here = ap (λ (o : Option Next). rest_by o new.reader (later_in file new.reader)) (sym is) ∙ looked.rest told

  pub head_good : (end : End) → Ok tt ≡ head_judged end n → head_fault (rest_in file old) ≡ None
  head_good end good =
      ap head_fault (sym rest_here) ∙ good_by n end new.reader new.carried (later_in file new.reader) (rest_known file new n is looked.source) good

  pub head_bad : (end : End) (fault : RunFault) (e : End) (place : ℕ) (f : CaptureFault) → Err fault ≡ head_judged end n → fault ≡ BadCapture e place f → (e ≡ end) × (place ≡ 0) × (head_fault (rest_in file old) ≡ Some f)
  head_bad end fault e place f bad h =
      let b = bad_by n end new.reader (later_in file new.reader) fault e place f bad h in
      (b.0, b.1, ap head_fault (sym rest_here) ∙ b.2)

-- The left head has a fault, or the right one where the left one has none.
pub begun_left : (left right : Option CaptureFault) (end : End) (place : ℕ) (fault : CaptureFault) → end ≡ ends.Left → place ≡ 0 → left ≡ Some fault → begun left right ≡ stopped end place fault
begun_left left right end place fault e p is = ap (λ l. begun l right) is ∙ ap (λ (x : End). stopped x 0 fault) (sym e) ∙ ap (λ n. stopped end n fault) (sym p)

pub begun_right : (left right : Option CaptureFault) (end : End) (place : ℕ) (fault : CaptureFault) → end ≡ ends.Right → place ≡ 0 → left ≡ None → right ≡ Some fault → begun left right ≡ stopped end place fault
begun_right left right end place fault e p none is =
    ap (λ l. begun l right) none ∙ ap (λ r. begun None r) is ∙ ap (λ (x : End). stopped x 0 fault) (sym e) ∙ ap (λ n. stopped end n fault) (sym p)

-- a fault that stands next stands where the capture may have one
pub may_fail : (file : Option CaptureFile) (source : Source) (n : Next) → source.next ≡ Some n → IsSource file source → (place : ℕ) (f : CaptureFault) → n ≡ next.Fault place f → MayFailAt file place
may_fail file source n is s place f h = subst (λ (o : Option Next). FailsWhereItMay file o) (is ∙ ap Some h) s.fails

-- a fault that a head is judged by is one of the capture
judged_kind : (n : Next) (end : End) (fault : RunFault) → Err fault ≡ head_judged end n → (f : CaptureFault) × (fault ≡ BadCapture end 0 f) × (n ≡ next.Fault 0 f)
judged_kind (next.Record head) end fault is = cc
judged_kind next.End end fault is = cc
judged_kind (next.Fault zero f) end fault is = (f, cc, refl)
judged_kind (next.Fault (suc place) f) end fault is = cc

module _ (a c : FilesMeaning) (names : End → Option (List ℕ)) (old new : Captures) (P : End → ℕ → CaptureFault → Type 0) where
  pub judged_fault : (n : Next) (end : End) (fault : RunFault) → Err fault ≡ head_judged end n → ((place : ℕ) (f : CaptureFault) → n ≡ next.Fault place f → MayFailAt (file_named a (names end)) place) → (AreTold a names → (e : End) (place : ℕ) (f : CaptureFault) → fault ≡ BadCapture e place f → P e place f) → IsLookFault a c names old new P fault
  judged_fault n end fault is may h =
      let kind = judged_kind n end fault is in
      subst (λ (x : RunFault). IsLookFault a c names old new P x) (sym kind.1) (may 0 kind.0 kind.2, λ told. h told end 0 kind.0 kind.1)

  told_kind : (n : Next) (end : End) (fault : RunFault) → Err fault ≡ next_told end n → (place : ℕ) × (f : CaptureFault) × (fault ≡ BadCapture end place f) × (n ≡ next.Fault place f)
  told_kind (next.Record head) end fault is = cc
  told_kind next.End end fault is = cc
  told_kind (next.Fault place f) end fault is = (place, f, cc, refl)

  pub told_fault : (n : Next) (end : End) (fault : RunFault) → Err fault ≡ next_told end n → ((place : ℕ) (f : CaptureFault) → n ≡ next.Fault place f → MayFailAt (file_named a (names end)) place) → (AreTold a names → (place : ℕ) (f : CaptureFault) → n ≡ next.Fault place f → P end place f) → IsLookFault a c names old new P fault
  told_fault n end fault is may h =
      let kind = told_kind n end fault is in
      subst (λ (x : RunFault). IsLookFault a c names old new P x) (sym kind.2) (may kind.0 kind.1 kind.3, λ told. h told kind.0 kind.1 kind.3)

-- Whose record comes next

-- an item that is no fault
abbrev IsNoFault : Option Head → Next → Type 0
IsNoFault None n = n ≡ next.End
IsNoFault (Some head) n = n ≡ next.Record head

pub told_next : (n : Next) (end : End) (o : Option Head) → Ok o ≡ next_told end n → IsNoFault o n
told_next (next.Record head) end None is = cc
told_next (next.Record head) end (Some h) is = cc
told_next next.End end None is = cc
told_next next.End end (Some h) is = cc
told_next (next.Fault place f) end None is = cc
told_next (next.Fault place f) end (Some h) is = cc

-- a known record, and what is left from it on
pub record WaitsWith (head : Head) (file : Option CaptureFile) (old new : Source) : Type 0 where
  pub record_found : found.Record
  pub is : new.reader.found ≡ Some record_found
  pub seconds : head.seconds ≡ record_found.seconds
  pub nanoseconds : head.nanos ≡ record_found.nanoseconds
  pub number : head.number ≡ new.carried + 1
  pub left : IsToldIn file → rest_in file old ≡ one_more record_found new.reader.place (later_in file new.reader)

module _ (file : Option CaptureFile) (old new : Source) (n : Next) (is : new.next ≡ Some n) (looked : HasLooked file old new) where
  pub waits_with : (head : Head) → n ≡ next.Record head → WaitsWith head file old new
  waits_with head h =
      let counted : IsCounted (Some (next.Record head)) new.reader new.carried = subst (λ (o : Option Next). IsCounted o new.reader new.carried) (is ∙ ap Some h) looked.source.counted in
      record {
        record_found = counted.0.record_found;
        is = counted.0.given;
        seconds = counted.0.seconds;
        nanoseconds = counted.0.nanoseconds;
        number = counted.1;
        left = λ told.
            sym (rest_here file old new n is looked told)
            ∙ ap (λ (m : Next). rest_by (Some m) new.reader (later_in file new.reader)) h
            ∙ ap (λ (o : Option found.Record). given_before o new.reader.place (later_in file new.reader)) counted.0.given;
      }

  pub rest_end : n ≡ next.End → IsToldIn file → rest_in file old ≡ ended
  rest_end h told = sym (rest_here file old new n is looked told) ∙ ap (λ (m : Next). rest_by (Some m) new.reader (later_in file new.reader)) h

  pub rest_fault : (place : ℕ) (f : CaptureFault) → n ≡ next.Fault place f → IsToldIn file → rest_in file old ≡ faulty place f
  rest_fault place f h told = sym (rest_here file old new n is looked told) ∙ ap (λ (m : Next). rest_by (Some m) new.reader (later_in file new.reader)) h

  pub no_fault : (o : Option Head) → IsNoFault o n → IsToldIn file → HasNoFault (rest_in file old)
  no_fault None h told = subst (λ (r : Records). HasNoFault r) (sym (rest_end h told)) tt
  no_fault (Some head) h told = subst (λ (r : Records). HasNoFault r) (sym ((waits_with head h).left told)) tt

before_same : (head other : Head) (f g : found.Record) → head.seconds ≡ f.seconds → head.nanos ≡ f.nanoseconds → other.seconds ≡ g.seconds → other.nanos ≡ g.nanoseconds → is_before other head ≡ is_earlier g f
before_same head other f g hs hn os on =
    ap (λ s. if s == head.seconds then nat_lt other.nanos head.nanos else nat_lt s head.seconds) os
    ∙ ap (λ s. if g.seconds == s then nat_lt other.nanos head.nanos else nat_lt g.seconds s) hs
    ∙ ap (λ n. if g.seconds == f.seconds then nat_lt n head.nanos else nat_lt g.seconds f.seconds) on
    ∙ ap (λ n. if g.seconds == f.seconds then nat_lt g.nanoseconds n else nat_lt g.seconds f.seconds) hn

within_by : (o : Option Next) (reader : Reading) (bytes : List ℕ) → o ≡ Some next.End → IsReadWhole o reader bytes → length bytes ≤ fed reader
within_by None reader bytes is h = cc
within_by (Some (next.Record head)) reader bytes is h = cc
within_by (Some next.End) reader bytes is h = h
within_by (Some (next.Fault place f)) reader bytes is h = cc

-- a file that was read to its end isn't too long
pub within_end : (files : FilesMeaning) (name : Option (List ℕ)) (source : Source) → source.next ≡ Some next.End → IsSource (file_named files name) source → IsTold files name → IsWithin files name
within_end files None source is s told = tt
within_end files (Some name) source is s told =
    let all = within_by source.next source.reader (held (files.contents name)) is (s.from_file told).whole in
    omega (arith, all, s.few)

module _ (files : FilesMeaning) (names : End → Option (List ℕ)) (old new : Captures) (l r : Next) (l_is : new.left.next ≡ Some l) (r_is : new.right.next ≡ Some r) (looked : HaveLooked files names old new) where
  ended_at : l ≡ next.End → r ≡ next.End → AreTold files names → (end : End) → (rest_of files names old end ≡ ended) × IsWithin files (names end)
  ended_at le re told ends.Left = (
    rest_end (file_named files (names ends.Left)) old.left new.left l l_is (looked ends.Left) le (told_in files (names ends.Left) (told ends.Left)),
    within_end files (names ends.Left) new.left (l_is ∙ ap Some le) (looked ends.Left).source (told ends.Left),
  )
  ended_at le re told ends.Right = (
    rest_end (file_named files (names ends.Right)) old.right new.right r r_is (looked ends.Right) re (told_in files (names ends.Right) (told ends.Right)),
    within_end files (names ends.Right) new.right (r_is ∙ ap Some re) (looked ends.Right).source (told ends.Right),
  )

  left_stands : (head : Head) → l ≡ next.Record head → StandsAt (head_origin ends.Left head) new.left
  left_stands head h = record { by_head = head; next = l_is ∙ ap Some h; is = refl }

  right_stands : (head : Head) → r ≡ next.Record head → StandsAt (head_origin ends.Right head) new.right
  right_stands head h = record { by_head = head; next = r_is ∙ ap Some h; is = refl }

  left_waits : (head : Head) → l ≡ next.Record head → WaitsWith head (file_named files (names ends.Left)) old.left new.left
  left_waits head h = waits_with (file_named files (names ends.Left)) old.left new.left l l_is (looked ends.Left) head h

  right_waits : (head : Head) → r ≡ next.Record head → WaitsWith head (file_named files (names ends.Right)) old.right new.right
  right_waits head h = waits_with (file_named files (names ends.Right)) old.right new.right r r_is (looked ends.Right) head h

  chosen_of : (b : Bool) (head other : Head) → l ≡ next.Record head → r ≡ next.Record other → is_before other head ≡ b → IsChosen files names old new (Some (if b then head_origin ends.Right other else head_origin ends.Left head))
  chosen_of true head other lh rh is = (
    right_stands other rh,
    λ told.
        let lw = left_waits head lh in
        let rw = right_waits other rh in
        let earlier : is_earlier rw.record_found lw.record_found ≡ true = sym (before_same head other lw.record_found rw.record_found lw.seconds lw.nanoseconds rw.seconds rw.nanoseconds) ∙ is in
        ap (λ x. next_end x (rest_of files names old ends.Right)) (lw.left (told_in files (names ends.Left) (told ends.Left)))
        ∙ ap (λ x. next_end (one_more lw.record_found new.left.reader.place (later_in (file_named files (names ends.Left)) new.left.reader)) x) (rw.left (told_in files (names ends.Right) (told ends.Right)))
        ∙ ap (λ t. Some (if t then ends.Right else ends.Left)) earlier,
  )
  chosen_of false head other lh rh is = (
    left_stands head lh,
    λ told.
        let lw = left_waits head lh in
        let rw = right_waits other rh in
        let earlier : is_earlier rw.record_found lw.record_found ≡ false = sym (before_same head other lw.record_found rw.record_found lw.seconds lw.nanoseconds rw.seconds rw.nanoseconds) ∙ is in
        ap (λ x. next_end x (rest_of files names old ends.Right)) (lw.left (told_in files (names ends.Left) (told ends.Left)))
        ∙ ap (λ x. next_end (one_more lw.record_found new.left.reader.place (later_in (file_named files (names ends.Left)) new.left.reader)) x) (rw.left (told_in files (names ends.Right) (told ends.Right)))
        ∙ ap (λ t. Some (if t then ends.Right else ends.Left)) earlier,
  )

  pub is_chosen : (left right : Option Head) → IsNoFault left l → IsNoFault right r → IsChosen files names old new (earlier_of left right)
  is_chosen None None le re = ended_at le re
  is_chosen None (Some other) le rh = (
    right_stands other rh,
    λ told.
        ap (λ x. next_end x (rest_of files names old ends.Right)) (rest_end (file_named files (names ends.Left)) old.left new.left l l_is (looked ends.Left) le (told_in files (names ends.Left) (told ends.Left)))
        ∙ ap (λ x. next_end ended x) ((right_waits other rh).left (told_in files (names ends.Right) (told ends.Right))),
  )
  is_chosen (Some head) None lh re = (
    left_stands head lh,
    λ told.
        ap (λ x. next_end x (rest_of files names old ends.Right)) ((left_waits head lh).left (told_in files (names ends.Left) (told ends.Left)))
        ∙ ap (λ x. next_end (one_more (left_waits head lh).record_found new.left.reader.place (later_in (file_named files (names ends.Left)) new.left.reader)) x) (rest_end (file_named files (names ends.Right)) old.right new.right r r_is (looked ends.Right) re (told_in files (names ends.Right) (told ends.Right))),
  )
  is_chosen (Some head) (Some other) lh rh = chosen_of (is_before other head) head other lh rh refl
