-- What counts of one candidate.
use Rattle.std.specs.Prelude.{ℕ, List, filter, option_to_list, Bool, Option}
use Rattle.siit_discovery.specs.Discovery.{Candidate, counts}

-- the candidate, if there is one and it counts
abbrev pub counting_at : (alone : Bool) → List ℕ → Option Candidate → List Candidate
counting_at alone addresses candidate = filter (counts alone addresses) (option_to_list candidate)
