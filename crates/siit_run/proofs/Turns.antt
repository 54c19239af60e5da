-- Runs, turn by turn.
use Rattle.std.proofs.Common.{◌≡◌, ◌⊎◌, inl, inr, ℕ, zero, suc, ◌+◌, List, [], ◌++◌, length, take, Bool, true, false, Option, Some, None, refl, ap, sym, subst, ◌∙◌, arith, append_assoc, if◌then◌else◌}
use Rattle.std.proofs.lemmas.List.{append-nil}
use Rattle.siit_capture.specs.Captures.{Records, ended, faulty, list_of, one_more}
use Rattle.siit_capture.specs.LinkPackets.{IpPacket, packet_of}
use Rattle.siit_chain.specs.Carried.{Chain, Trace, behind, carry, carry_captured, entering_at, family_at, fresh, is_family, most_bytes}
use Rattle.siit_chain.specs.Log.{Entry}
use Rattle.siit_chain.specs.declared.origin.Origin.{Origin}
use Rattle.siit_chain.proofs.Traces.{carry_behind}
use Rattle.siit_run.specs.Laws.{HasEnded}
use Rattle.siit_run.specs.Runs.{Course, Run, after, carry_left, carry_right, finished, going, is_earlier, run_of, started, stopped, turn, turn_at, turn_on, turns_of}

-- a log that is another with something behind it
pub record Extends (old new : List Entry) : Type 0 where
  pub more : List Entry
  pub is : new ≡ old ++ more

pub extends_none : {log : List Entry} → Extends log log
extends_none {log} = record { more = []; is = sym (append-nil log) }

pub extends_twice : {a b c : List Entry} → Extends a b → Extends b c → Extends a c
extends_twice {a} x y = record { more = x.more ++ y.more; is = y.is ∙ ap (λ l. l ++ y.more) x.is ∙ append_assoc a x.more y.more }

-- one number is the other and some more
apart : (a b : ℕ) → ((k : ℕ) × (b ≡ a + k)) ⊎ ((k : ℕ) × (a ≡ b + k))
apart zero b = inl (b, omega arith)
apart (suc a) zero = inr (suc a, omega arith)
apart (suc a) (suc b) = elim (apart a b) [
  | inl more ↦ inl (more.0, omega (arith, more.1))
  | inr more ↦ inr (more.0, omega (arith, more.1))
]

module _ {D : Type 0} (chain : Chain D) where
  carry_adds : (origin : Origin) (t : Trace) (bytes : List ℕ) → Extends t.log (carry chain origin t (entering_at (length chain.devices) origin.end bytes)).log
  carry_adds origin t bytes =
      let p = entering_at (length chain.devices) origin.end bytes in
      let start : t ≡ behind t.log (fresh t.coming) = ap (λ (l : List Entry). record { log = l; coming = t.coming }) (sym (append-nil t.log)) in
      record { more = (carry chain origin (fresh t.coming) p).log; is = ap (λ (x : Trace). (carry chain origin x p).log) start ∙ ap (λ (x : Trace). x.log) (carry_behind chain origin t.log (fresh t.coming) p) }

  by_family : (b : Bool) (origin : Origin) (t u : Trace) (bytes : List ℕ) → Extends t.log u.log → Extends t.log (if b then carry chain origin t (entering_at (length chain.devices) origin.end (take most_bytes bytes)) else u).log
  by_family true origin t u bytes h = carry_adds origin t (take most_bytes bytes)
  by_family false origin t u bytes h = h

  captured_adds : (origin : Origin) (t : Trace) (packet : Option IpPacket) → Extends t.log (carry_captured chain origin t packet).log
  captured_adds origin t None = record { more = _; is = refl }
  captured_adds origin t (Some packet) = by_family (is_family packet.family (family_at origin.end chain.left chain.right)) origin t _ packet.bytes (record { more = _; is = refl })

  turn_at_adds : (left right : Records) (run : Run) → Extends run.trace.log (turn_at chain left right run).trace.log
  turn_at_adds (faulty place fault) right run = extends_none
  turn_at_adds ended (faulty place fault) run = extends_none
  turn_at_adds (one_more found ends rest) (faulty place fault) run = extends_none
  turn_at_adds ended ended run = record { more = _; is = refl }
  turn_at_adds (one_more found ends rest) ended run = captured_adds _ run.trace (packet_of found.link found.bytes)
  turn_at_adds ended (one_more found ends rest) run = captured_adds _ run.trace (packet_of found.link found.bytes)
  turn_at_adds (one_more found ends rest) (one_more other other_ends other_rest) run =
      either (is_earlier other found) (carry_right chain other other_rest run) (carry_left chain found rest run) (captured_adds _ run.trace (packet_of other.link other.bytes)) (captured_adds _ run.trace (packet_of found.link found.bytes))
    where
      either : (b : Bool) (x y : Run) → Extends run.trace.log x.trace.log → Extends run.trace.log y.trace.log → Extends run.trace.log (if b then x else y).trace.log
      either true x y h k = h
      either false x y h k = k

  turn_on_adds : (course : Course) (run : Run) → Extends run.trace.log (turn_on chain course run).trace.log
  turn_on_adds going run = turn_at_adds run.left run.right run
  turn_on_adds finished run = extends_none
  turn_on_adds (stopped end place fault) run = extends_none

  -- one turn more
  pub after_suc : (n : ℕ) (run : Run) → after chain (suc n) run ≡ turn chain (after chain n run)
  unfolding after
  after_suc n run = refl

  -- what is written in some turns is the front of what is written in more
  pub after_adds : (n more : ℕ) (run : Run) → Extends (after chain n run).trace.log (after chain (n + more) run).trace.log
  after_adds n zero run = let e : n ≡ n + 0 = omega arith in subst (λ m. Extends (after chain n run).trace.log (after chain m run).trace.log) e extends_none
  after_adds n (suc more) run =
      let e : suc (n + more) ≡ n + suc more = omega arith in
      let step = turn_on_adds (after chain (n + more) run).course (after chain (n + more) run) in
      subst (λ m. Extends (after chain n run).trace.log (after chain m run).trace.log) e
      (extends_twice (after_adds n more run) (subst (λ (r : Run). Extends (after chain (n + more) run).trace.log r.trace.log) (sym (after_suc (n + more) run)) step))

  stays_on : (course : Course) (run : Run) → HasEnded course → turn_on chain course run ≡ run
  stays_on going run h = absurd h
  stays_on finished run h = refl
  stays_on (stopped end place fault) run h = refl

  -- a run that has ended stays as it is
  pub after_stays : (n more : ℕ) (run : Run) → HasEnded (after chain n run).course → after chain (n + more) run ≡ after chain n run
  after_stays n zero run h = let e : n + 0 ≡ n = omega arith in ap (λ m. after chain m run) e
  after_stays n (suc more) run h =
      let e : n + suc more ≡ suc (n + more) = omega arith in
      let same = after_stays n more run h in
      ap (λ m. after chain m run) e ∙ after_suc (n + more) run ∙ ap (turn chain) same ∙ stays_on (after chain n run).course (after chain n run) h

  -- how many turns are left, at most
  left_turns : Run → ℕ
  left_turns run = length (list_of run.left) + length (list_of run.right)

  -- a turn ends the run or takes a record
  turn_at_goes : (left right : Records) (run : Run) → run.left ≡ left → run.right ≡ right → HasEnded (turn_at chain left right run).course ⊎ (suc (left_turns (turn_at chain left right run)) ≡ length (list_of left) + length (list_of right))
  unfolding left_turns
  turn_at_goes (faulty place fault) right run l r = inl tt
  turn_at_goes ended (faulty place fault) run l r = inl tt
  turn_at_goes (one_more found ends rest) (faulty place fault) run l r = inl tt
  turn_at_goes ended ended run l r = inl tt
  turn_at_goes (one_more found ends rest) ended run l r = inr (omega (arith, ap (λ x. length (list_of x)) r))
  turn_at_goes ended (one_more found ends rest) run l r = inr (omega (arith, ap (λ x. length (list_of x)) l))
  turn_at_goes (one_more found ends rest) (one_more other other_ends other_rest) run l r = inr (either (is_earlier other found))
    where
      either : (b : Bool) → suc (length (list_of (if b then carry_right chain other other_rest run else carry_left chain found rest run).left) + length (list_of (if b then carry_right chain other other_rest run else carry_left chain found rest run).right)) ≡ suc (length (list_of rest)) + suc (length (list_of other_rest))
      either true = omega (arith, ap (λ x. length (list_of x)) l)
      either false = omega (arith, ap (λ x. length (list_of x)) r)

  turn_goes : (course : Course) (run : Run) → HasEnded (turn_on chain course run).course ⊎ ((suc (left_turns (turn_on chain course run)) ≡ left_turns run) ⊎ HasEnded course)
  unfolding left_turns
  turn_goes going run = elim (turn_at_goes run.left run.right run refl refl) [
    | inl h ↦ inl h
    | inr h ↦ inr (inl h)
  ]
  turn_goes finished run = inr (inr tt)
  turn_goes (stopped end place fault) run = inr (inr tt)

  -- After n turns the run has ended, or n records were taken.
  counts : (n : ℕ) (run : Run) → HasEnded (after chain n run).course ⊎ (n + left_turns (after chain n run) ≡ left_turns run)
  unfolding after
  counts zero run = inr (omega arith)
  counts (suc n) run =
      let now = after chain n run in
      elim (counts n run) [
        | inl h ↦ inl (subst (λ (r : Run). HasEnded r.course) (sym (stays_on now.course now h)) h)
        | inr e ↦ elim (turn_goes now.course now) [
          | inl h ↦ inl h
          | inr rest ↦ elim rest [
            | inl less ↦ inr (omega (arith, e, less))
            | inr h ↦ inl (subst (λ (r : Run). HasEnded r.course) (sym (stays_on now.course now h)) h)
          ]
        ]
      ]

  pub run_ends_lem : (coming : ℕ → ℕ → ℕ) (left right : Records) → HasEnded (run_of chain coming left right).course
  unfolding left_turns
  run_ends_lem coming left right =
      let start = started coming left right in
      elim (counts (turns_of start) start) [
        | inl h ↦ h
        | inr e ↦ absurd (omega (arith, e))
      ]

  pub ended_is_whole_lem : (coming : ℕ → ℕ → ℕ) (left right : Records) (turns : ℕ) → HasEnded (after chain turns (started coming left right)).course → after chain turns (started coming left right) ≡ run_of chain coming left right
  ended_is_whole_lem coming left right turns h =
      let start = started coming left right in
      elim (apart turns (turns_of start)) [
        | inl more ↦ sym (ap (λ n. after chain n start) more.1 ∙ after_stays turns more.0 start h)
        | inr more ↦ ap (λ n. after chain n start) more.1 ∙ after_stays (turns_of start) more.0 start (run_ends_lem coming left right)
      ]
