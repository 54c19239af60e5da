-- Laws of runs.
use Rattle.std.specs.Prelude.{◌≡◌, ℕ, ◌+◌, List, ◌++◌}
use Rattle.siit_capture.specs.Captures.{Records}
use Rattle.siit_chain.specs.Carried.{Chain}
use Rattle.siit_chain.specs.Log.{Entry}
use Rattle.siit_run.specs.Runs.{Course, Run, after, finished, going, run_of, started, stopped}

-- The run goes on no more.
abbrev pub HasEnded : Course → Type 0
HasEnded going = ⊥
HasEnded finished = Unit {0}
HasEnded (stopped end place fault) = Unit {0}

-- A run comes to its end.
abbrev pub RunEnds : {D : Type 0} → Chain D → Type 0
RunEnds chain = (coming : ℕ → ℕ → ℕ) (left right : Records) → HasEnded (run_of chain coming left right).course

-- Once it has ended, after however many turns, it is the whole run.
abbrev pub EndedIsWhole : {D : Type 0} → Chain D → Type 0
EndedIsWhole chain = (coming : ℕ → ℕ → ℕ) (left right : Records) (turns : ℕ)
    → HasEnded (after chain turns (started coming left right)).course
    → after chain turns (started coming left right) ≡ run_of chain coming left right

-- What is written in some turns is the front of what is written in more.
abbrev pub TurnsOnlyAdd : {D : Type 0} → Chain D → Type 0
TurnsOnlyAdd chain = (run : Run) (turns more : ℕ)
    → (added : List Entry) × ((after chain (turns + more) run).trace.log ≡ (after chain turns run).trace.log ++ added)
