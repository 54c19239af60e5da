-- A record of a classic capture (draft-ietf-opsawg-pcap, section 5): 16 bytes of numbers, and the captured bytes.
use Rattle.std.specs.Prelude.{ℕ, ◌+◌, ◌*◌, List, length, drop, ◌==◌, nat_lt, nat_le, if◌then◌else◌}
use Rattle.siit_model.specs.Bytes.{part}
use Rattle.siit_capture.specs.Fronts.{Front, bad, cut, done, whole}
use Rattle.siit_capture.specs.Heads.{number32}
use Rattle.siit_capture.specs.declared.form.CaptureFault.TheVariants.{BadTime, RecordTooLong}
use Rattle.siit_capture.specs.declared.form.Resolution.{Resolution}
use Rattle.siit_capture.specs.declared.form.Resolution.TheVariants.{Microseconds, Nanoseconds}
use Rattle.siit_capture.specs.declared.form.LinkType.{LinkType}
use Rattle.siit_capture.specs.declared.form.Form.{Form}

-- a record as a reader takes it, whatever form of capture it stands in
pub record Record : Type 0 where
  pub link : LinkType
  pub seconds : ℕ
  pub nanoseconds : ℕ
  -- the bytes that were captured
  pub bytes : List ℕ

-- the most bytes that a record may have captured
abbrev pub most_captured : ℕ
most_captured = 262144

abbrev pub fractions_per_second : Resolution → ℕ
fractions_per_second Microseconds = 1000000
fractions_per_second Nanoseconds = 1000000000

abbrev pub nanoseconds_per_fraction : Resolution → ℕ
nanoseconds_per_fraction Microseconds = 1000
nanoseconds_per_fraction Nanoseconds = 1

-- the numbers at the front of a record; the original length behind them isn't looked at
abbrev pub seconds_in : Form → List ℕ → ℕ
seconds_in form bytes = number32 form.magic.endian bytes 0

abbrev pub fraction_in : Form → List ℕ → ℕ
fraction_in form bytes = number32 form.magic.endian bytes 4

abbrev pub captured_in : Form → List ℕ → ℕ
captured_in form bytes = number32 form.magic.endian bytes 8

abbrev pub record_in : Form → List ℕ → Record
record_in form bytes = record {
  link = form.link;
  seconds = seconds_in form bytes;
  nanoseconds = fraction_in form bytes * nanoseconds_per_fraction form.magic.resolution;
  bytes = part bytes 16 (captured_in form bytes);
}

-- the record at the front, or the end of the capture
abbrev pub record_front : Form → List ℕ → Front Record
record_front form bytes =
    if length bytes == 0 then done
    else if nat_lt (length bytes) 16 then cut
    else if nat_lt most_captured (captured_in form bytes) then bad RecordTooLong
    else if nat_le (fractions_per_second form.magic.resolution) (fraction_in form bytes) then bad BadTime
    else if nat_lt (length bytes) (16 + captured_in form bytes) then cut
    else whole (record_in form bytes) (drop (16 + captured_in form bytes) bytes)
