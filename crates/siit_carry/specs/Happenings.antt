-- What the code does at an event, and over a packet's whole way, as the definitions have it.
use Rattle.std.specs.Prelude.{◌≡◌, ℕ, List, Option}
use Rattle.siit_chain.specs.Carried.{Event, HasComing, Trace}
use Rattle.siit_chain.specs.Counted.{added}
use Rattle.siit_chain.specs.Log.{text_of}
use Rattle.siit_chain.specs.Outputs.{GrewBy}
use Rattle.siit_chain.specs.declared.origin.Counts.{Counts}
use Rattle.siit_chain.specs.declared.origin.Output.{Output}
use Rattle.siit_word.specs.Files.{FilesMeaning}
use Rattle.siit_carry.specs.Steps.{IsUsed, SendsOn}
use Rattle.siit_carry.specs.declared.meet.Next.{Next}

-- one event, and what is to be carried on after it
pub record Happens (names : Output → Option (List ℕ)) (before after : FilesMeaning) (coming_old coming_new : ℕ → ℕ → ℕ) (counts_old counts_new : Counts) (devices : ℕ) (next : Next) (held : List ℕ) (e : Event) : Type 0 where
  pub sends : SendsOn devices next held e.sent
  pub used : IsUsed e.user coming_old coming_new
  pub counts : counts_new ≡ added counts_old e.log
  pub grew : GrewBy names before after (text_of e.log)

-- all that comes of a packet
pub record IsDone (names : Output → Option (List ℕ)) (before after : FilesMeaning) (coming_new : ℕ → ℕ → ℕ) (counts_old counts_new : Counts) (all : Trace) : Type 0 where
  pub comes : HasComing coming_new all
  pub counts : counts_new ≡ added counts_old all.log
  pub grew : GrewBy names before after (text_of all.log)
