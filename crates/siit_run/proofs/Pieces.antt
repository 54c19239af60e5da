-- A capture that is read in pieces, piece by piece.
use Rattle.std.proofs.Common.{◌≡◌, ℕ, zero, suc, ◌+◌, ◌-◌, ◌≤◌, ◌<◌, max, List, [], ◌∷◌, ◌++◌, length, take, drop, Bool, true, false, Option, Some, None, Result, Ok, Err, refl, ap, sym, subst, ◌∙◌, arith, if◌then◌else◌, ◌==◌}
use Rattle.std.specs.Prelude.{◌≢◌, IsSome, option_map}
use Rattle.std.proofs.lemmas.List.{take-append-drop, drop-drop}
use Rattle.siit_word.specs.Files.{Copies, held, raised}
use Rattle.siit_capture.specs.Captures.{faulty, records_at, records_from}
use Rattle.siit_capture.specs.Fronts.{Front, bad, cut, done, whole}
use Rattle.siit_capture.specs.Heads.{head_front}
use Rattle.siit_capture.specs.Readings.{Reading, behind_head, fed, records_fed, records_to_come, with_piece, without_record, IsGiven, OnNoRecord, OnNone}
use Rattle.siit_capture.specs.Records.{Record}
use Rattle.siit_capture.specs.declared.form.CaptureFault.{CaptureFault}
use Rattle.siit_capture.specs.declared.form.CaptureFault.TheVariants.{CutRecord}
use Rattle.siit_capture.specs.declared.form.Form.{Form}
use Rattle.siit_capture.specs.declared.head.Head.{Head}
use Rattle.siit_run.specs.Ahead.{IsReadTo}
use Rattle.siit_run.specs.Looks.{records_left, EndsSo, Finds, GivesOne}
use Rattle.siit_run.specs.declared.looking.Stop.{Stop}
use Rattle.siit_run.specs.declared.looking.Stop.TheVariants.{Bad, Failed, TooLong}

-- what a call of `read` gave, as a part of the file's bytes
pub record IsPieceOf (bytes : List ℕ) (at n : ℕ) (piece : List ℕ) : Type 0 where
  pub is : take n piece ≡ take n (drop at bytes)
  pub within : n ≤ length bytes - at
  pub ends : n ≡ 0 → length bytes ≤ at

pub piece_of : (file : Option (List ℕ)) (at n : ℕ) (piece : List ℕ) → 0 < length piece → Copies file at n piece → IsPieceOf (held file) at n piece
piece_of None at n piece some h = absurd h
piece_of (Some bytes) at n piece some h = record { is = h.0; within = h.1; ends = λ none. h.2 none some }

-- the bytes that are left, from the piece on
piece_on : (bytes : List ℕ) (at n : ℕ) (piece : List ℕ) → take n piece ≡ take n (drop at bytes) → take n piece ++ drop (at + n) bytes ≡ drop at bytes
piece_on bytes at n piece is = ap (λ xs. xs ++ drop (at + n) bytes) is ∙ ap (λ xs. take n (drop at bytes) ++ xs) (sym (drop-drop n at bytes)) ∙ take-append-drop n (drop at bytes)

drop_all : (bytes : List ℕ) (n : ℕ) → length bytes ≤ n → drop n bytes ≡ []
drop_all [] zero h = refl
drop_all [] (suc n) h = refl
drop_all (byte ∷ bytes) zero h = absurd (omega (arith, h))
drop_all (byte ∷ bytes) (suc n) h = drop_all bytes n (omega (arith, h))

-- feeding a piece leaves the same records
pub fed_left : (bytes : List ℕ) (old new : Reading) (n : ℕ) (piece : List ℕ) → take n piece ≡ take n (drop (fed old) bytes) → fed new ≡ fed old + n → ((more : List ℕ) → records_to_come new more ≡ records_to_come old (take n piece ++ more)) → records_left bytes new ≡ records_left bytes old
fed_left bytes old new n piece is there same =
    ap (λ m. records_to_come new (drop m bytes)) there
    ∙ same (drop (fed old + n) bytes)
    ∙ ap (records_to_come old) (piece_on bytes (fed old) n piece is)

pub read_none : (given : Option ℕ) (place : ℕ) → IsReadTo given given place
read_none None place = tt
read_none (Some n) place = omega arith

pub read_on : (first old : Option ℕ) (place n : ℕ) → IsReadTo first old place → IsReadTo first (option_map (raised place n) old) (place + n)
read_on None None place n h = tt
read_on None (Some old) place n h = absurd h
read_on (Some first) None place n h = absurd h
read_on (Some first) (Some old) place n h = by_none (n == 0)
  where
    by_none : (b : Bool) → (if b then old else max old (place + n)) ≤ max first (place + n)
    by_none true = omega (arith, h)
    by_none false = omega (arith, h)

pub read_same : (first old new : Option ℕ) (place : ℕ) → new ≡ old → IsReadTo first old place → IsReadTo first new place
read_same first old new place e h = subst (λ (x : Option ℕ). IsReadTo first x place) (sym e) h

-- how a capture ends where the file does
pub ends_found : (result : Result (Option Head) Stop) (bytes : List ℕ) (old now new : Reading) → EndsSo result new.place (records_fed new) → new ≡ without_record now → records_left bytes now ≡ records_left bytes old → length bytes ≤ fed now → Finds result bytes old new
ends_found result bytes old now new h kept left end = by_result result h
  where
    all_fed : records_left bytes old ≡ records_fed new
    all_fed = sym left ∙ ap (records_to_come now) (drop_all bytes (fed now) end) ∙ ap records_fed (sym kept)

    by_result : (r : Result (Option Head) Stop) → EndsSo r new.place (records_fed new) → Finds r bytes old new
    by_result (Ok None) h = all_fed ∙ h
    by_result (Ok (Some head)) h = absurd h
    by_result (Err (Bad fault)) h = all_fed ∙ h
    by_result (Err Failed) h = tt
    by_result (Err TooLong) h = tt

-- the facts of an answer that no record is next
pub on_no_record : (P : Type 0) (o : Option Head) → o ≡ None → OnNoRecord (Ok o) P → P
on_no_record P None is h = h
on_no_record P (Some head) is h = cc

pub on_none : (P : Type 0) (o : Option Head) → o ≡ None → OnNone (Ok o) P → P
on_none P None is h = h
on_none P (Some head) is h = cc

head_further : (form : Option Form) (front : Front Form) (reading : Reading) → reading.place ≤ (behind_head form front reading).place
head_further (Some form) front reading = omega arith
head_further None done reading = omega arith
head_further None cut reading = omega arith
head_further None (bad fault) reading = omega arith
head_further None (whole form behind) reading = omega arith

-- a piece more takes the next item no further back
pub piece_further : (reading : Reading) (piece : List ℕ) → reading.place ≤ (with_piece reading piece).place
piece_further reading piece = head_further reading.form (head_front (reading.rest ++ piece)) (record reading { found = None; rest = reading.rest ++ piece })

-- a record that was given behind some pieces
pub given_one : (head : Head) (found : Record) (first old new : Reading) → IsGiven head found old new → old.count ≡ first.count → first.place ≤ old.place → GivesOne head first new
given_one head found first old new h count place =
    let at : new.place ≡ old.place + 16 + length found.bytes = ap (λ (r : Reading). r.place) h.reading in
    let counted : new.count ≡ old.count + 1 = ap (λ (r : Reading). r.count) h.reading in
    record {
      is_head = record {
        record_found = found;
        given = ap (λ (r : Reading). r.found) h.reading;
        number = h.number ∙ sym counted;
        seconds = h.seconds;
        nanoseconds = h.nanoseconds;
      };
      counted = omega (arith, counted, count);
      further = omega (arith, at, place);
    }

-- no bytes have no fault but that bytes are missing
no_bytes : (form : Option Form) (place : ℕ) (rest : List ℕ) (at : ℕ) (fault : CaptureFault) → place + length rest ≤ 0 → records_at form place (rest ++ []) ≡ faulty at fault → fault ≢ CutRecord → ⊥
unfolding records_from
no_bytes form place (byte ∷ rest) at fault none is uncut = omega (arith, none)
no_bytes None place [] at fault none is uncut = let same : fault ≡ CutRecord = cc in uncut same
no_bytes (Some form) place [] at fault none is uncut = cc

-- a file is there where a fault of its bytes is told
pub there_by : (file : Option (List ℕ)) (reading : Reading) (at : ℕ) (fault : CaptureFault) → fed reading ≤ length (held file) → ((more : List ℕ) → records_to_come reading more ≡ faulty at fault) → fault ≢ CutRecord → IsSome file
there_by (Some bytes) reading at fault low is uncut = refl
there_by None reading at fault low is uncut = absurd (no_bytes reading.form reading.place reading.rest at fault low (is []) uncut)
