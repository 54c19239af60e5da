-- What is written is read again.
use Rattle.std.proofs.Common.{◌≡◌, ℕ, zero, suc, ◌+◌, ◌*◌, ◌/◌, ◌%◌, ◌^◌, ◌<◌, List, [], ◌∷◌, ◌++◌, length, drop, false, None, refl, ap, sym, ◌∙◌, arith, length-append}
use Rattle.std.specs.Int.{byte_at}
use Rattle.std.specs.List.{All, flat_map}
use Rattle.std.specs.Prelude.{nat_le}
use Rattle.std.proofs.lemmas.Bool.Decides.{nat_tests}
use Rattle.std.proofs.lemmas.List.{drop_at, take_at}
use native.Mathlib.Nat.{div-div-eq-div-mul, pow-suc}
use Rattle.siit_model.specs.Bytes.{part}
use Rattle.siit_capture.specs.Captures.{Records, from_head, from_record, list_of, one_more, past, records_from, records_of, trouble_of}
use Rattle.siit_capture.specs.Fronts.{whole}
use Rattle.siit_capture.specs.Heads.{head_front}
use Rattle.siit_capture.specs.Records.{Record, captured_in, fraction_in, record_front, record_in, seconds_in}
use Rattle.siit_capture.specs.Written.{IsWritable, written_capture, written_head, written_record}
use Rattle.siit_capture.specs.declared.form.Endian.TheVariants.{Little}
use Rattle.siit_capture.specs.declared.form.Form.{Form}
use Rattle.siit_capture.specs.declared.form.LinkType.TheVariants.{Raw}
use Rattle.siit_capture.specs.declared.form.Resolution.TheVariants.{Nanoseconds}
use Rattle.siit_capture.proofs.HeadFronts.{head_more}
use Rattle.siit_capture.proofs.RecordFronts.{is_late, whole_front}
use Rattle.siit_capture.proofs.Turns.{records_step}

-- the form of a written capture
abbrev pub written_form : Form
written_form = record { magic = record { endian = Little; resolution = Nanoseconds }; link = Raw }

byte_at-is : (place value : ℕ) → byte_at place value ≡ value / 256 ^ place % 256
byte_at-is zero value = omega arith
byte_at-is (suc place) value = refl

digit-above : (place value : ℕ) → value / 256 ^ suc place ≡ value / 256 ^ place / 256
digit-above place value = ap (λ (n : ℕ). value / n) (pow-suc 256 place) ∙ sym (div-div-eq-div-mul value (256 ^ place) 256)

-- a number of four bytes is read again
four-read : (value : ℕ) → value < 2 ^ 32 → byte_at 0 value + 256 * byte_at 1 value + 65536 * (byte_at 2 value + 256 * byte_at 3 value) ≡ value
four-read value small =
    omega (arith, digit-above 0 value, digit-above 1 value, digit-above 2 value, byte_at-is 0 value, byte_at-is 1 value, byte_at-is 2 value, byte_at-is 3 value)

early : (n : ℕ) → n < 1000000000 → nat_le 1000000000 n ≡ false
early n h = grind (arith, nat_tests)

module _ (found : Record) (ok : IsWritable found) (more : List ℕ) where
  text : List ℕ
  text = written_record found ++ more

  size : length (written_record found) ≡ 16 + length found.bytes
  size = omega arith

  seconds : seconds_in written_form (written_record found ++ more) ≡ found.seconds
  seconds = four-read found.seconds ok.seconds

  fraction : fraction_in written_form (written_record found ++ more) ≡ found.nanoseconds
  fraction = four-read found.nanoseconds (omega (arith, ok.nanoseconds))

  captured : captured_in written_form (written_record found ++ more) ≡ length found.bytes
  captured = four-read (length found.bytes) (omega (arith, ok.bytes))

  bytes : part (written_record found ++ more) 16 (captured_in written_form (written_record found ++ more)) ≡ found.bytes
  bytes = ap (part (written_record found ++ more) 16) captured ∙ take_at found.bytes more (length found.bytes) refl

  same : record_in written_form (written_record found ++ more) ≡ found
  same =
      let unit : fraction_in written_form (written_record found ++ more) * 1 ≡ found.nanoseconds = omega (arith, fraction) in
      λ i. record { link = sym ok.link i; seconds = seconds i; nanoseconds = unit i; bytes = bytes i }

  behind : drop (16 + captured_in written_form (written_record found ++ more)) (written_record found ++ more) ≡ more
  behind =
      let whole_size : length (written_record found) ≡ 16 + captured_in written_form (written_record found ++ more) = size ∙ ap (λ n. 16 + n) (sym captured) in
      drop_at (written_record found) more (16 + captured_in written_form (written_record found ++ more)) whole_size

  -- a written record stands at the front as itself
  pub record_again : record_front written_form (written_record found ++ more) ≡ whole found more
  record_again =
      let long = length-append (written_record found) more in
      let late : is_late written_form (written_record found ++ more) ≡ false = ap (nat_le 1000000000) fraction ∙ early found.nanoseconds ok.nanoseconds in
      whole_front written_form (written_record found ++ more) (omega (arith, long, size)) (omega (arith, captured, ok.bytes)) late (omega (arith, long, size, captured))
      ∙ ap (λ (r : Record). whole r (drop (16 + captured_in written_form (written_record found ++ more)) (written_record found ++ more))) same
      ∙ ap (whole found) behind

-- the records behind the head
abbrev AreRead : List Record → Records → Type 0
AreRead list records = (list_of records ≡ list) × (trouble_of records ≡ None)

records_again : (list : List Record) (place : ℕ) → All IsWritable list → AreRead list (records_from written_form place (flat_map written_record list))
records_again [] place ok =
    let step = records_step written_form place [] in
    (ap list_of step, ap trouble_of step)
records_again (found ∷ list) place ok =
    let more : List ℕ = flat_map written_record list in
    let first : IsWritable found = ok 0 found (omega arith) in
    let rest = records_again list (past place found) (λ k d h. ok (suc k) d (omega arith)) in
    let step : records_from written_form place (written_record found ++ more) ≡ one_more found (past place found) (records_from written_form (past place found) more) =
    records_step written_form place (written_record found ++ more) ∙ ap (from_record (records_from written_form) place) (record_again found first more) in
    (ap list_of step ∙ ap (λ l. found ∷ l) rest.0, ap trouble_of step ∙ rest.1)

pub written_again : (list : List Record) → All IsWritable list → AreRead list (records_of (written_capture list))
written_again list ok =
    let more : List ℕ = flat_map written_record list in
    let head : head_front (written_head ++ more) ≡ whole written_form more = head_more written_head more tt in
    let again = records_again list 24 ok in
    let same : records_of (written_capture list) ≡ records_from written_form 24 more = ap (from_head 0) head in
    (ap list_of same ∙ again.0, ap trouble_of same ∙ again.1)
