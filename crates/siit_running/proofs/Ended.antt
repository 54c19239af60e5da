-- What holds of each answer that is no Ok.
use Rattle.std.proofs.Common.{◌⊎◌, ℕ, List, Option, Result, Ok, Err, IfErr, OnErr}
use Rattle.siit_word.specs.Files.{FilesMeaning}
use Rattle.siit_chain.specs.Carried.{Chain}
use Rattle.siit_chain.specs.Log.{text_of}
use Rattle.siit_chain.specs.Outputs.{GrewByPart}
use Rattle.siit_chain.specs.declared.origin.End.{End}
use Rattle.siit_chain.specs.declared.origin.Output.{Output}
use Rattle.siit_chain.proofs.Grown.{part_of_all}
use Rattle.siit_running.specs.Answers.{IsFileFault, IsNotFarAhead, AreUnread}
use Rattle.siit_running.specs.Ends.{HoldsAfterRun}
use Rattle.siit_running.specs.Inputs.{AreTold, started_run, whole_run}
use Rattle.siit_running.specs.declared.fault.RunFault.{RunFault}
use Rattle.siit_running.specs.declared.fault.RunFault.TheVariants as faults
use Rattle.siit_running.specs.declared.running.RunCounts.{RunCounts}

module _ {D : Type 0} (chain : Chain D) (coming coming_new : ℕ → ℕ → ℕ) (names : End → Option (List ℕ)) (outs : Output → Option (List ℕ)) (before now : FilesMeaning) (told : AreTold before names) where
  pub part_of : (result : Result RunCounts RunFault) → HoldsAfterRun chain coming coming_new names outs before now result → OnErr result (GrewByPart outs before now (text_of (whole_run chain coming before names).trace.log))
  part_of (Ok counts) h = tt
  part_of (Err (faults.ReadFault end)) h = (h.1 told).part
  part_of (Err faults.WriteFault) h = (h.1 told).part
  part_of (Err (faults.BadCapture end place fault)) h = part_of_all (text_of (whole_run chain coming before names).trace.log) (h.1 told).grew
  part_of (Err (faults.TooLong end)) h = h.1 told
  part_of (Err faults.NoMemory) h = h told

  pub ahead_of : (result : Result RunCounts RunFault) → HoldsAfterRun chain coming coming_new names outs before now result → IfErr result (λ fault. IsFileFault fault → AreUnread before now names ⊎ IsNotFarAhead chain (started_run coming before names) names outs before now)
  ahead_of (Ok counts) h = tt
  ahead_of (Err (faults.ReadFault end)) h = λ is. (h.1 told).ahead
  ahead_of (Err faults.WriteFault) h = λ is. (h.1 told).ahead
  ahead_of (Err (faults.BadCapture end place fault)) h = λ is. absurd is
  ahead_of (Err (faults.TooLong end)) h = λ is. absurd is
  ahead_of (Err faults.NoMemory) h = λ is. absurd is
