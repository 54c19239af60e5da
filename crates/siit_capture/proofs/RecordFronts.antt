-- The record at the front of bytes, where more bytes follow.
use Rattle.std.proofs.Common.{◌≡◌, ◌≢◌, ◌⊎◌, inl, inr, ℕ, ◌+◌, ◌*◌, ◌≤◌, ◌<◌, List, ◌++◌, length, take, drop, Bool, true, false, cond, nat_lt, nat_le, ◌==◌, refl, ap, sym, subst, ◌∙◌, arith, length-append, length-drop, length-take}
use Rattle.std.proofs.lemmas.Bool.Decides.{nat_tests}
use Rattle.std.proofs.lemmas.List.{drop-append-le, take-append-le}
use Rattle.siit_model.specs.Bytes.{part}
use Rattle.siit_capture.specs.Fronts.{Front, NeedsMore, bad, cut, done, whole}
use Rattle.siit_capture.specs.Records.{Record, captured_in, fraction_in, fractions_per_second, most_captured, nanoseconds_per_fraction, record_front, record_in, seconds_in}
use Rattle.siit_capture.specs.declared.form.CaptureFault.{CaptureFault}
use Rattle.siit_capture.specs.declared.form.CaptureFault.TheVariants.{BadTime, CutRecord, RecordTooLong}
use Rattle.siit_capture.specs.declared.form.Form.{Form}
use Rattle.siit_capture.proofs.HeadFronts.{at_least, below, not_below}
use Rattle.siit_capture.proofs.Numbers.{number32_more}

-- the tests in their order
abbrev pub by_tests : (empty headless long late short : Bool) → Record → List ℕ → Front Record
by_tests empty headless long late short found behind =
    cond empty done (cond headless cut (cond long (bad RecordTooLong) (cond late (bad BadTime) (cond short cut (whole found behind)))))

abbrev pub is_empty : List ℕ → Bool
is_empty xs = length xs == 0

abbrev pub is_headless : List ℕ → Bool
is_headless xs = nat_lt (length xs) 16

abbrev pub is_long : Form → List ℕ → Bool
is_long form xs = nat_lt most_captured (captured_in form xs)

abbrev pub is_late : Form → List ℕ → Bool
is_late form xs = nat_le (fractions_per_second form.magic.resolution) (fraction_in form xs)

abbrev pub is_short : Form → List ℕ → Bool
is_short form xs = nat_lt (length xs) (16 + captured_in form xs)

pub front_tests : (form : Form) (xs : List ℕ) → record_front form xs ≡ by_tests (is_empty xs) (is_headless xs) (is_long form xs) (is_late form xs) (is_short form xs) (record_in form xs) (drop (16 + captured_in form xs) xs)
front_tests form xs = refl

-- a whole record fails every test
pub record IsPassed (empty headless long late short : Bool) (first : Record) (left : List ℕ) (found : Record) (behind : List ℕ) : Type 0 where
  pub some : empty ≡ false
  pub headed : headless ≡ false
  pub few : long ≡ false
  pub early : late ≡ false
  pub fits : short ≡ false
  pub first_is : first ≡ found
  pub left_is : left ≡ behind

passed : (empty headless long late short : Bool) (first : Record) (left : List ℕ) (found : Record) (behind : List ℕ)
    → by_tests empty headless long late short first left ≡ whole found behind → IsPassed empty headless long late short first left found behind
passed true headless long late short first left found behind h = cc
passed false true long late short first left found behind h = cc
passed false false true late short first left found behind h = cc
passed false false false true short first left found behind h = cc
passed false false false false true first left found behind h = cc
passed false false false false false first left found behind h =
    record { some = refl; headed = refl; few = refl; early = refl; fits = refl; first_is = cc; left_is = cc }

-- what a whole record at the front says of the bytes
pub record IsWhole (form : Form) (xs : List ℕ) (found : Record) (behind : List ℕ) : Type 0 where
  pub headed : 16 ≤ length xs
  pub few : captured_in form xs ≤ 262144
  pub early : is_late form xs ≡ false
  pub fits : 16 + captured_in form xs ≤ length xs
  pub first_is : record_in form xs ≡ found
  pub left_is : drop (16 + captured_in form xs) xs ≡ behind
  pub captured : captured_in form xs ≡ length found.bytes

not_above : (n m : ℕ) → nat_lt n m ≡ false → m ≤ n
not_above n m h = grind (arith, nat_tests)

above_not : (n m : ℕ) → m ≤ n → nat_lt n m ≡ false
above_not n m h = grind (arith, nat_tests)

length_part : (xs : List ℕ) (n : ℕ) → 16 + n ≤ length xs → length (part xs 16 n) ≡ n
length_part xs n h = omega (arith, length-take n (drop 16 xs), length-drop 16 xs)

pub whole_is : (form : Form) (xs : List ℕ) (found : Record) (behind : List ℕ) → record_front form xs ≡ whole found behind → IsWhole form xs found behind
whole_is form xs found behind h =
    let p = passed (is_empty xs) (is_headless xs) (is_long form xs) (is_late form xs) (is_short form xs) (record_in form xs) (drop (16 + captured_in form xs) xs) found behind h in
    let fits : 16 + captured_in form xs ≤ length xs = at_least (16 + captured_in form xs) (length xs) p.fits in
    record {
      headed = at_least 16 (length xs) p.headed;
      few = not_above 262144 (captured_in form xs) p.few;
      early = p.early;
      fits = fits;
      first_is = p.first_is;
      left_is = p.left_is;
      captured = sym (length_part xs (captured_in form xs) fits) ∙ ap (λ (r : Record). length r.bytes) p.first_is;
    }

not_empty : (xs : List ℕ) → 16 ≤ length xs → is_empty xs ≡ false
not_empty xs h = let n : ℕ = length xs in grind (arith, nat_tests)

some_by_length : (n : ℕ) → 16 ≤ n → (n == 0) ≡ false
some_by_length n h = grind (arith, nat_tests)

-- a record that passes every test is whole
pub whole_front : (form : Form) (xs : List ℕ) → 16 ≤ length xs → captured_in form xs ≤ 262144 → is_late form xs ≡ false → 16 + captured_in form xs ≤ length xs
    → record_front form xs ≡ whole (record_in form xs) (drop (16 + captured_in form xs) xs)
whole_front form xs headed few early fits =
    rw (some_by_length (length xs) headed, not_below 16 (length xs) headed, above_not 262144 (captured_in form xs) few, early, not_below (16 + captured_in form xs) (length xs) fits)

module _ (form : Form) (xs more : List ℕ) (headed : 16 ≤ length xs) where
  pub captured_more : captured_in form (xs ++ more) ≡ captured_in form xs
  captured_more = number32_more form.magic.endian xs more 8 (omega arith)

  pub fraction_more : fraction_in form (xs ++ more) ≡ fraction_in form xs
  fraction_more = number32_more form.magic.endian xs more 4 (omega arith)

  pub seconds_more : seconds_in form (xs ++ more) ≡ seconds_in form xs
  seconds_more = number32_more form.magic.endian xs more 0 (omega arith)

  pub late_more : is_late form (xs ++ more) ≡ is_late form xs
  late_more = ap (nat_le (fractions_per_second form.magic.resolution)) fraction_more

  pub long_more : is_long form (xs ++ more) ≡ is_long form xs
  long_more = ap (nat_lt most_captured) captured_more

take-part : (xs more : List ℕ) (n : ℕ) → 16 + n ≤ length xs → part (xs ++ more) 16 n ≡ part xs 16 n
take-part xs more n h =
    ap (take n) (drop-append-le 16 xs more (omega arith)) ∙ take-append-le n (drop 16 xs) more (omega (arith, length-drop 16 xs))

-- a whole record stays so, whatever follows
pub record_more : (form : Form) (xs more : List ℕ) (found : Record) (behind : List ℕ) → record_front form xs ≡ whole found behind → record_front form (xs ++ more) ≡ whole found (behind ++ more)
record_more form xs more found behind h =
    let w = whole_is form xs found behind h in
    let n = captured_in form xs in
    let captured = captured_more form xs more w.headed in
    let fraction = fraction_more form xs more w.headed in
    let seconds = seconds_more form xs more w.headed in
    let long = length-append xs more in
    let bytes : part (xs ++ more) 16 (captured_in form (xs ++ more)) ≡ part xs 16 n = ap (part (xs ++ more) 16) captured ∙ take-part xs more n w.fits in
    let same : record_in form (xs ++ more) ≡ record_in form xs =
    λ i. record { link = form.link; seconds = seconds i; nanoseconds = fraction i * nanoseconds_per_fraction form.magic.resolution; bytes = bytes i } in
    let left : drop (16 + captured_in form (xs ++ more)) (xs ++ more) ≡ behind ++ more =
    ap (λ k. drop (16 + k) (xs ++ more)) captured ∙ drop-append-le (16 + n) xs more w.fits ∙ ap (λ ys. ys ++ more) w.left_is in
    whole_front form (xs ++ more) (omega (arith, w.headed)) (omega (arith, captured, w.few)) (late_more form xs more w.headed ∙ w.early) (omega (arith, captured, w.fits))
    ∙ ap (λ (r : Record). whole r (drop (16 + captured_in form (xs ++ more)) (xs ++ more))) (same ∙ w.first_is)
    ∙ ap (whole found) left

-- the tests that a fault passes say it whatever follows
bad_by : (empty headless long late short short2 : Bool) (first first2 : Record) (left left2 : List ℕ) (fault : CaptureFault)
    → by_tests empty headless long late short first left ≡ bad fault
    → (empty ≡ false) × (headless ≡ false) × (by_tests false false long late short2 first2 left2 ≡ bad fault) × (fault ≢ CutRecord)
bad_by true headless long late short short2 first first2 left left2 fault h = cc
bad_by false true long late short short2 first first2 left left2 fault h = cc
bad_by false false true late short short2 first first2 left left2 fault h = (refl, refl, h, λ e. cc)
bad_by false false false true short short2 first first2 left left2 fault h = (refl, refl, h, λ e. cc)
bad_by false false false false true short2 first first2 left left2 fault h = cc
bad_by false false false false false short2 first first2 left left2 fault h = cc

-- a fault of a record stays so, whatever follows
pub bad_more : (form : Form) (xs more : List ℕ) (fault : CaptureFault) → record_front form xs ≡ bad fault → record_front form (xs ++ more) ≡ bad fault
bad_more form xs more fault h =
    let p = bad_by (is_empty xs) (is_headless xs) (is_long form xs) (is_late form xs) (is_short form xs) (is_short form (xs ++ more))
    (record_in form xs) (record_in form (xs ++ more)) (drop (16 + captured_in form xs) xs) (drop (16 + captured_in form (xs ++ more)) (xs ++ more)) fault h in
    let headed : 16 ≤ length xs = at_least 16 (length xs) p.1 in
    let long = length-append xs more in
    rw (some_by_length (length (xs ++ more)) (omega (arith, headed)), not_below 16 (length (xs ++ more)) (omega (arith, headed)), long_more form xs more headed, late_more form xs more headed) p.2

-- no record's fault is that bytes are missing
pub bad_uncut : (form : Form) (xs : List ℕ) (fault : CaptureFault) → record_front form xs ≡ bad fault → fault ≢ CutRecord
bad_uncut form xs fault h =
    (bad_by (is_empty xs) (is_headless xs) (is_long form xs) (is_late form xs) (is_short form xs) (is_short form xs)
    (record_in form xs) (record_in form xs) (drop (16 + captured_in form xs) xs) (drop (16 + captured_in form xs) xs) fault h).3

-- a whole record, and the bytes behind it, are all the bytes
pub whole_length : (form : Form) (xs : List ℕ) (found : Record) (behind : List ℕ) → record_front form xs ≡ whole found behind → length xs ≡ 16 + length found.bytes + length behind
whole_length form xs found behind h =
    let w = whole_is form xs found behind h in
    omega (arith, w.captured, w.fits, ap length w.left_is, length-drop (16 + captured_in form xs) xs)

-- what needs more passes a test
needs_by : (empty headless long late short : Bool) (first : Record) (left : List ℕ) → headless ≡ false → empty ≡ false → NeedsMore (by_tests empty headless long late short first left) → (long ≡ false) × (short ≡ true)
needs_by true headless long late short first left a b needs = cc
needs_by false true long late short first left a b needs = cc
needs_by false false true late short first left a b needs = absurd needs
needs_by false false false true short first left a b needs = absurd needs
needs_by false false false false true first left a b needs = (refl, refl)
needs_by false false false false false first left a b needs = absurd needs

module _ (form : Form) (xs : List ℕ) (needs : NeedsMore (record_front form xs)) (headed : 16 ≤ length xs) where
  needs_tests : (is_long form xs ≡ false) × (is_short form xs ≡ true)
  needs_tests =
      needs_by (is_empty xs) (is_headless xs) (is_long form xs) (is_late form xs) (is_short form xs) (record_in form xs) (drop (16 + captured_in form xs) xs)
      (not_below 16 (length xs) headed) (some_by_length (length xs) headed) needs

  -- the bytes end within the record
  pub needs_short : length xs < 16 + captured_in form xs
  needs_short = below (16 + captured_in form xs) (length xs) needs_tests.1

  pub needs_few : captured_in form xs ≤ 262144
  needs_few = not_above 262144 (captured_in form xs) needs_tests.0

either_way : (n : ℕ) → (n < 16) ⊎ (16 ≤ n)
either_way n = grind arith

-- what needs more is shorter than the longest record
pub waiting_length : (form : Form) (xs : List ℕ) → NeedsMore (record_front form xs) → length xs < 262160
waiting_length form xs needs =
    elim (either_way (length xs)) [
      | inl less ↦ omega (arith, less)
      | inr headed ↦ omega (arith, needs_short form xs needs headed, needs_few form xs needs headed)
    ]

-- a record that isn't whole in the bytes ends behind them
pub ends_behind : (form : Form) (xs more : List ℕ) (found : Record) (behind : List ℕ) → NeedsMore (record_front form xs) → record_front form (xs ++ more) ≡ whole found behind → length xs < 16 + length found.bytes
ends_behind form xs more found behind needs h =
    let w = whole_is form (xs ++ more) found behind h in
    elim (either_way (length xs)) [
      | inl less ↦ omega (arith, less)
      | inr headed ↦ omega (arith, needs_short form xs needs headed, captured_more form xs more headed, w.captured)
    ]

cut_by : (headless long late short : Bool) (first : Record) (left : List ℕ) → NeedsMore (by_tests false headless long late short first left) → by_tests false headless long late short first left ≡ cut
cut_by true long late short first left needs = refl
cut_by false true late short first left needs = absurd needs
cut_by false false true short first left needs = absurd needs
cut_by false false false true first left needs = refl
cut_by false false false false first left needs = absurd needs

some_by : (n : ℕ) → 1 ≤ n → (n == 0) ≡ false
some_by n h = grind (arith, nat_tests)

-- what needs more, and isn't at the end, is cut
pub needs_cut : (form : Form) (xs : List ℕ) → 1 ≤ length xs → NeedsMore (record_front form xs) → record_front form xs ≡ cut
needs_cut form xs some needs =
    let tests : Bool → Front Record = λ empty. by_tests empty (is_headless xs) (is_long form xs) (is_late form xs) (is_short form xs) (record_in form xs) (drop (16 + captured_in form xs) xs) in
    let empty : is_empty xs ≡ false = some_by (length xs) some in
    ap tests empty ∙ cut_by (is_headless xs) (is_long form xs) (is_late form xs) (is_short form xs) (record_in form xs) (drop (16 + captured_in form xs) xs) (subst (λ b. NeedsMore (tests b)) empty needs)
