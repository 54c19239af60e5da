-- Counts of what was written.
use Rattle.std.specs.Prelude.{ℕ, ◌+◌, ◌-◌, ◌^◌, min, max, List}
use Rattle.siit_chain.specs.Log.{Entry, drops_in, packets_at}
use Rattle.siit_chain.specs.declared.origin.Counts.{Counts}
use Rattle.siit_chain.specs.declared.origin.End.TheVariants.{Left, Right}

-- A count stands still at the last value of a `u64`.
abbrev pub raised_by : ℕ → ℕ → ℕ
raised_by count more = max count (min (count + more) (2 ^ 64 - 1))

-- counts with what was written besides
abbrev pub added : Counts → List Entry → Counts
added counts log = record {
  left = raised_by counts.left (packets_at Left log);
  right = raised_by counts.right (packets_at Right log);
  dropped = raised_by counts.dropped (drops_in log);
}

-- the counts of what was written
abbrev pub counts_of : List Entry → Counts
counts_of log = added (record { left = 0; right = 0; dropped = 0 }) log
