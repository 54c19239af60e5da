-- What calls on files do, as it is seen of files with a capture in place of one of them.
use Rattle.std.proofs.Common.{◌≡◌, ◌≢◌, ℕ, zero, suc, ◌^◌, ◌<◌, ◌≤◌, ◌==◌, List, [], ◌∷◌, length, Bool, true, false, IsUtf8, Some, Result, Ok, Err, IfOk, OnOk, OnErr, bytes_eq, if◌then◌else◌, refl, arith}
use Rattle.siit_word.specs.Files.{Added, Copied, Copies, FilesMeaning, IsNoneOf, NotAdded, NotCopied, Touches, WriteFailed, Written, WrittenPart}
use Rattle.siit_making.specs.Through.{Sight, capture, contents_by, file, given_by, marked_sight, nothing, read_faults_by, reference, seen, sight_of_mark, told_by, write_faults_by}
use Rattle.siit_word.specs.declared.files.Failed.{Failed}
use Rattle.siit_making.proofs.FirstByte.{isnt_name, sight_of_name, sight_of_other, text_begins}

-- It is no file of one of these names.
abbrev pub IsNoFileOf : Sight → (names : List (List ℕ)) → Type 0
IsNoFileOf (file q) names = IsNoneOf q names
IsNoFileOf capture names = Unit {0}
IsNoFileOf reference names = Unit {0}
IsNoFileOf nothing names = Unit {0}

module _ {a b : FilesMeaning} {reads writes : List (List ℕ)} (only : Touches a b reads writes) (bytes : List ℕ) where
  told_kept : (s : Sight) → told_by s b ≡ told_by s a
  told_kept (file q) = only.told q
  told_kept capture = refl
  told_kept reference = refl
  told_kept nothing = refl

  contents_kept : (s : Sight) → IsNoFileOf s writes → contents_by s b bytes ≡ contents_by s a bytes
  contents_kept (file q) none = only.contents q none
  contents_kept capture none = refl
  contents_kept reference none = refl
  contents_kept nothing none = refl

  given_kept : (s : Sight) → IsNoFileOf s reads → given_by s b ≡ given_by s a
  given_kept (file q) none = only.given q none
  given_kept capture none = refl
  given_kept reference none = refl
  given_kept nothing none = refl

  reads_grow : (s : Sight) → read_faults_by s a ≤ read_faults_by s b
  reads_grow (file q) = only.read_faults q
  reads_grow capture = omega arith
  reads_grow reference = omega arith
  reads_grow nothing = omega arith

  writes_grow : (s : Sight) → write_faults_by s a ≤ write_faults_by s b
  writes_grow (file q) = only.write_faults q
  writes_grow capture = omega arith
  writes_grow reference = omega arith
  writes_grow nothing = omega arith

  -- Calls are seen to touch what they touch, where no other name stands for one of these files.
  touches_by : (sight : List ℕ → Sight) → ((q : List ℕ) → IsNoneOf q reads → IsNoFileOf (sight q) reads)
      → ((q : List ℕ) → IsNoneOf q writes → IsNoFileOf (sight q) writes) → Touches (seen sight a bytes) (seen sight b bytes) reads writes
  touches_by sight unread unwritten = record {
    told = λ q. told_kept (sight q);
    contents = λ q none. contents_kept (sight q) (unwritten q none);
    given = λ q none. given_kept (sight q) (unread q none);
    read_faults = λ q. reads_grow (sight q);
    write_faults = λ q. writes_grow (sight q);
  }

-- NO OTHER NAME STANDS FOR THE FILE OF A TEXT

pub not_mark : (text rest : List ℕ) → IsUtf8 text → 256 ∷ rest ≢ text
not_mark [] rest is e = absurd (cc)
not_mark (first ∷ more) rest is e =
    let below = text_begins first more is in
    let same : 256 ≡ first = cc in
    absurd (omega (arith, below, same))

by_name : (b : Bool) (q text : List ℕ) → q ≢ text → IsNoFileOf (if b then capture else file q) (text ∷ [])
by_name true q text other = tt
by_name false q text other = (other, tt)

by_reference : (b : Bool) (names : List (List ℕ)) → IsNoFileOf (if b then reference else nothing) names
by_reference true names = tt
by_reference false names = tt

by_mark : (number : ℕ) (name mark text : List ℕ) → IsUtf8 text → name ≢ text → IsNoFileOf (sight_of_mark number name mark) (text ∷ [])
by_mark number name [] text is other = tt
by_mark number name (zero ∷ rest) text is other = (not_mark text rest is, tt)
by_mark number name (suc zero ∷ rest) text is other = (other, tt)
by_mark number name (suc (suc kind) ∷ rest) text is other = by_reference (bytes_eq rest (number ∷ name)) (text ∷ [])

by_first : (b : Bool) (number : ℕ) (name q rest text : List ℕ) → IsUtf8 text → name ≢ text → q ≢ text
    → IsNoFileOf (if b then sight_of_mark number name rest else if bytes_eq q name then capture else file q) (text ∷ [])
by_first true number name q rest text is apart other = by_mark number name rest text is apart
by_first false number name q rest text is apart other = by_name (bytes_eq q name) q text other

other_file : (number : ℕ) (name q text : List ℕ) → IsUtf8 text → name ≢ text → q ≢ text → IsNoFileOf (marked_sight number name q) (text ∷ [])
other_file number name [] text is apart other = by_name (bytes_eq [] name) [] text other
other_file number name (first ∷ rest) text is apart other = by_first (first == 256) number name (first ∷ rest) rest text is apart other

none_at_all : (s : Sight) → IsNoFileOf s []
none_at_all (file q) = tt
none_at_all capture = tt
none_at_all reference = tt
none_at_all nothing = tt

-- THROUGH MARKS

module _ (number : ℕ) (name bytes : List ℕ) where
  abbrev see : FilesMeaning → FilesMeaning
  see files = seen (marked_sight number name) files bytes

  -- what is done at a text that isn't that name
  module _ (q : List ℕ) (text : IsUtf8 q) (other : bytes_eq q name ≡ false) (a b : FilesMeaning) where
    is : marked_sight number name q ≡ file q
    is = sight_of_other number name q text other

    apart : name ≢ q
    apart = isnt_name name q other

    pub read_seen : Touches a b (q ∷ []) [] → Touches (see a) (see b) (q ∷ []) []
    read_seen only = touches_by only bytes (marked_sight number name) (λ p none. other_file number name p q text apart none.0)
        (λ p none. none_at_all (marked_sight number name p))

    pub write_seen : Touches a b [] (q ∷ []) → Touches (see a) (see b) [] (q ∷ [])
    write_seen only = touches_by only bytes (marked_sight number name) (λ p none. none_at_all (marked_sight number name p))
        (λ p none. other_file number name p q text apart none.0)

    pub copied_seen : (at : ℕ) (into : List ℕ) (result : Result ℕ Failed) → IfOk result (λ n. Copied a b q at into n)
        → IfOk result (λ n. Copied (see a) (see b) q at into n)
    copied_seen at into (Ok n) h = record { bytes = rw is (h.bytes); small = rw is (h.small); given = rw is (h.given) }
    copied_seen at into (Err e) h = tt

    pub not_copied_seen : (result : Result ℕ Failed) → OnErr result (NotCopied a b q) → OnErr result (NotCopied (see a) (see b) q)
    not_copied_seen (Ok n) h = tt
    not_copied_seen (Err e) h = record { cause = rw is (h.cause); given = rw is (h.given) }

    pub written_seen : (xs : List ℕ) (result : Result (Unit {0}) Failed) → OnOk result (Written a b q xs) → OnOk result (Written (see a) (see b) q xs)
    written_seen xs (Ok u) h = record { only = write_seen h.only; file = rw is (h.file) }
    written_seen xs (Err e) h = tt

    pub written_part_seen : (xs : List ℕ) (result : Result (Unit {0}) Failed) → OnErr result (WrittenPart a b q xs)
        → OnErr result (WrittenPart (see a) (see b) q xs)
    written_part_seen xs (Ok u) h = tt
    written_part_seen xs (Err e) h = record { only = write_seen h.only; file = rw is (h.file) }

    pub write_failed_seen : (result : Result (Unit {0}) Failed) → OnErr result (WriteFailed a b q) → OnErr result (WriteFailed (see a) (see b) q)
    write_failed_seen (Ok u) h = tt
    write_failed_seen (Err e) h = rw is h

    pub added_seen : (xs : List ℕ) (result : Result ℕ Failed) → IfOk result (λ n. Added a b q xs n) → IfOk result (λ n. Added (see a) (see b) q xs n)
    added_seen xs (Ok n) h = record { some = h.some; file = rw is (h.file); small = rw is (h.small) }
    added_seen xs (Err e) h = tt

    pub not_added_seen : (result : Result ℕ Failed) → OnErr result (NotAdded a b q) → OnErr result (NotAdded (see a) (see b) q)
    not_added_seen (Ok n) h = tt
    not_added_seen (Err e) h = record { cause = rw is (h.cause); file = rw is (h.file) }

  -- what is done at that name
  module _ (q : List ℕ) (text : IsUtf8 q) (same : bytes_eq q name ≡ true) (a : FilesMeaning) where
    here : marked_sight number name q ≡ capture
    here = sight_of_name number name q text same

    pub capture_copied : (at n : ℕ) (into : List ℕ) → length bytes < 2 ^ 64 → Copies (Some bytes) at n into → Copied (see a) (see a) q at into n
    capture_copied at n into small copied = record {
      bytes = rw here (λ told. copied);
      small = rw here (λ told. small);
      given = rw here refl;
    }

    pub capture_refused : WriteFailed (see a) (see a) q
    capture_refused = rw here (omega arith)

    pub capture_not_added : NotAdded (see a) (see a) q
    capture_not_added = record { cause = capture_refused; file = λ told. refl }
