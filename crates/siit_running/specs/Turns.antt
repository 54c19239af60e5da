-- Whose record a turn carries, by what stands next in both captures.
use Rattle.std.specs.Prelude.{◌≡◌, ℕ, zero, suc, Bool, ◌==◌, nat_lt, Option, Some, None, Result, Ok, Err, if◌then◌else◌}
use Rattle.siit_capture.specs.Captures.{Records, ended, faulty, one_more}
use Rattle.siit_capture.specs.declared.head.Head.{Head}
use Rattle.siit_capture.specs.declared.form.CaptureFault.{CaptureFault}
use Rattle.siit_chain.specs.declared.origin.End.{End}
use Rattle.siit_chain.specs.declared.origin.End.TheVariants as ends
use Rattle.siit_chain.specs.declared.origin.Origin.{Origin}
use Rattle.siit_run.specs.Runs.{is_earlier}
use Rattle.siit_running.specs.declared.fault.RunFault.{RunFault}
use Rattle.siit_running.specs.declared.fault.RunFault.TheVariants.{BadCapture}
use Rattle.siit_running.specs.declared.next.Next.{Next}
use Rattle.siit_running.specs.declared.next.Next.TheVariants as next

-- the answer to a head
abbrev pub head_judged : End → Next → Result (Unit {0}) RunFault
head_judged end (next.Record head) = Ok tt
head_judged end next.End = Ok tt
head_judged end (next.Fault zero fault) = Err (BadCapture end 0 fault)
head_judged end (next.Fault (suc place) fault) = Ok tt

-- the head of the record that stands next, or none at the end
abbrev pub next_told : End → Next → Result (Option Head) RunFault
next_told end (next.Record head) = Ok (Some head)
next_told end next.End = Ok None
next_told end (next.Fault place fault) = Err (BadCapture end place fault)

abbrev pub is_before : Head → Head → Bool
is_before head other = if head.seconds == other.seconds then nat_lt head.nanos other.nanos else nat_lt head.seconds other.seconds

abbrev pub head_origin : End → Head → Origin
head_origin end head = record { end = end; number = head.number; seconds = head.seconds; nanos = head.nanos }

-- the earlier of two records, the left one at equal times
abbrev pub earlier_of : (left right : Option Head) → Option Origin
earlier_of None None = None
earlier_of None (Some other) = Some (head_origin ends.Right other)
earlier_of (Some head) None = Some (head_origin ends.Left head)
earlier_of (Some head) (Some other) = Some (if is_before other head then head_origin ends.Right other else head_origin ends.Left head)

-- of what is left of both captures, that at an end
abbrev pub of_end : {A : Type 0} → End → (left right : A) → A
of_end ends.Left left right = left
of_end ends.Right left right = right

-- the end whose record is carried next, or none behind both captures or at a fault
abbrev pub next_end : (left right : Records) → Option End
next_end (faulty place fault) right = None
next_end ended (faulty place fault) = None
next_end (one_more found after rest) (faulty place fault) = None
next_end ended ended = None
next_end (one_more found after rest) ended = Some ends.Left
next_end ended (one_more found after rest) = Some ends.Right
next_end (one_more found after rest) (one_more other other_after other_rest) = Some (if is_earlier other found then ends.Right else ends.Left)

abbrev pub HasNoFault : Records → Type 0
HasNoFault ended = Unit {0}
HasNoFault (faulty place fault) = ⊥
HasNoFault (one_more found after rest) = Unit {0}

-- A turn ends the run at this fault.
abbrev pub StopsAt : End → (place : ℕ) → CaptureFault → (left right : Records) → Type 0
StopsAt ends.Left place fault left right = left ≡ faulty place fault
StopsAt ends.Right place fault left right = HasNoFault left × (right ≡ faulty place fault)
