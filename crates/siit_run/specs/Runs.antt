-- A run over two captures, turn by turn: at each turn the earlier of the next two records is carried through the chain.
use Rattle.std.specs.Prelude.{ℕ, zero, suc, ◌+◌, [], ◌∷◌, ◌++◌, length, Bool, ◌==◌, nat_lt, Option, Some, None, if◌then◌else◌}
use Rattle.siit_capture.specs.Captures.{Records, ended, faulty, list_of, one_more}
use Rattle.siit_capture.specs.LinkPackets.{packet_of}
use Rattle.siit_capture.specs.Records.{Record}
use Rattle.siit_capture.specs.declared.form.CaptureFault.{CaptureFault}
use Rattle.siit_chain.specs.Carried.{Chain, Trace, carry_captured}
use Rattle.siit_chain.specs.Log.{Entry, begins, drops_in, finishes, packets_at}
use Rattle.siit_chain.specs.Texts.{Totals}
use Rattle.siit_chain.specs.declared.origin.End.{End}
use Rattle.siit_chain.specs.declared.origin.End.TheVariants.{Left, Right}
use Rattle.siit_chain.specs.declared.origin.Origin.{Origin}

-- whether a run goes on, or how it ended: behind both captures, or at a fault of one of them at a place
pub data Course : Type 0 where
  going : Course
  finished : Course
  stopped : (end : End) (place : ℕ) (fault : CaptureFault) → Course

pub record Run : Type 0 where
  -- of each capture what isn't carried yet, and how many records were
  pub left : Records
  pub right : Records
  pub left_read : ℕ
  pub right_read : ℕ
  -- what was written, and the numbers to come
  pub trace : Trace
  pub course : Course

-- a record's time is before that of another
abbrev pub is_earlier : Record → Record → Bool
is_earlier found other =
    if found.seconds == other.seconds then nat_lt found.nanoseconds other.nanoseconds else nat_lt found.seconds other.seconds

abbrev pub origin_of : End → (number : ℕ) → Record → Origin
origin_of end number found = record { end = end; number = number; seconds = found.seconds; nanos = found.nanoseconds }

-- all that comes of a record, by its number in its capture
abbrev pub carry_record : {D : Type 0} → Chain D → End → (number : ℕ) → Record → Trace → Trace
carry_record chain end number found t = carry_captured chain (origin_of end number found) t (packet_of found.link found.bytes)

abbrev pub carry_left : {D : Type 0} → Chain D → Record → (rest : Records) → Run → Run
carry_left chain found rest run = record run {
  left = rest;
  left_read = run.left_read + 1;
  trace = carry_record chain Left (run.left_read + 1) found run.trace;
}

abbrev pub carry_right : {D : Type 0} → Chain D → Record → (rest : Records) → Run → Run
carry_right chain found rest run = record run {
  right = rest;
  right_read = run.right_read + 1;
  trace = carry_record chain Right (run.right_read + 1) found run.trace;
}

-- what a run has counted
abbrev pub totals_of : Run → Totals
totals_of run = record {
  left_read = run.left_read;
  right_read = run.right_read;
  left = packets_at Left run.trace.log;
  right = packets_at Right run.trace.log;
  dropped = drops_in run.trace.log;
}

abbrev pub with_entry : Entry → Trace → Trace
with_entry entry t = record { log = t.log ++ entry ∷ []; coming = t.coming }

-- the last turn: the end line
abbrev pub finish : Run → Run
finish run = record run { trace = with_entry (finishes (totals_of run)) run.trace; course = finished }

abbrev pub stop : End → (place : ℕ) → CaptureFault → Run → Run
stop end place fault run = record run { course = stopped end place fault }

-- One turn, by what is next in both captures. It looks at the left one and then at the right one; a fault ends the run.
-- Of two records the earlier one is carried, the left one at equal times.
abbrev pub turn_at : {D : Type 0} → Chain D → (left right : Records) → Run → Run
turn_at chain (faulty place fault) right run = stop Left place fault run
turn_at chain ended (faulty place fault) run = stop Right place fault run
turn_at chain (one_more found ends rest) (faulty place fault) run = stop Right place fault run
turn_at chain ended ended run = finish run
turn_at chain (one_more found ends rest) ended run = carry_left chain found rest run
turn_at chain ended (one_more found ends rest) run = carry_right chain found rest run
turn_at chain (one_more found ends rest) (one_more other other_ends other_rest) run =
    if is_earlier other found then carry_right chain other other_rest run else carry_left chain found rest run

abbrev pub turn_on : {D : Type 0} → Chain D → Course → Run → Run
turn_on chain going run = turn_at chain run.left run.right run
turn_on chain finished run = run
turn_on chain (stopped end place fault) run = run

-- A run that has ended stays as it is.
abbrev pub turn : {D : Type 0} → Chain D → Run → Run
turn chain run = turn_on chain run.course run

-- a run after so many turns
unfoldable pub after : {D : Type 0} → Chain D → ℕ → Run → Run
after chain zero run = run
after chain (suc turns) run = turn chain (after chain turns run)

-- the fault of a capture's head, if any
abbrev pub head_fault : Records → Option CaptureFault
head_fault (faulty zero fault) = Some fault
head_fault (faulty (suc place) fault) = None
head_fault ended = None
head_fault (one_more found ends rest) = None

-- The heads are judged before the first turn, the left one first.
abbrev pub begun : (left_fault right_fault : Option CaptureFault) → Course
begun (Some fault) right_fault = stopped Left 0 fault
begun None (Some fault) = stopped Right 0 fault
begun None None = going

-- a run before its first turn, where these numbers are to come: both output heads are written
abbrev pub started : (coming : ℕ → ℕ → ℕ) → (left right : Records) → Run
started coming left right = record {
  left = left;
  right = right;
  left_read = 0;
  right_read = 0;
  trace = record { log = begins Left ∷ begins Right ∷ []; coming = coming };
  course = begun (head_fault left) (head_fault right);
}

-- as many turns as a run has at most: one for each record, and the last
abbrev pub turns_of : Run → ℕ
turns_of run = suc (length (list_of run.left) + length (list_of run.right))

-- a whole run, to its end or its first fault
abbrev pub run_of : {D : Type 0} → Chain D → (coming : ℕ → ℕ → ℕ) → (left right : Records) → Run
run_of chain coming left right = after chain (turns_of (started coming left right)) (started coming left right)
