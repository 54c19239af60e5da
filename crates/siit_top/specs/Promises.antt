-- What the program promises of a run, for all its commands.
use Rattle.std.specs.Prelude.{◌≡◌, ◌≢◌, ◌⊎◌, ℕ, List, [], ◌∷◌, ◌++◌, option_to_list}
use Rattle.siit_word.specs.Files.{held, Touches}
use Rattle.siit_running.specs.Inputs.{names_of}
use Rattle.siit_top.specs.Carried.{HaveOwnFiles, CarriedAnswer, CarriedSays}
use Rattle.siit_top.specs.CarryRun.{captures_of, judgement, outputs_of, CarryRunAnswer, CarryRunSays}
use Rattle.siit_top.specs.DiscoverRun as discovery
use Rattle.siit_top.specs.Dns64Run as dns
use Rattle.siit_top.specs.MapRun.{decision, MapAnswer, Says}
use Rattle.siit_top.specs.Runs.{AllTold, AreUntaken, Run, SomeRose}
use Rattle.siit_top.specs.WkpRun.{wkp_captures, wkp_crossing, wkp_outputs}
use Rattle.siit_top.specs.Words.{Command, carry_run, discover, map_address, synthesis, wkp}
use Rattle.siit_top.specs.declared.status.Status.TheVariants.{Ok, ReadFault, WriteFault, NoMemory}

-- the files that a command reads
abbrev pub reads_of : Command → List (List ℕ)
reads_of (carry_run names) = names.configuration ∷ names_of (captures_of names)
reads_of (wkp input output) = input ∷ []
reads_of (map_address configuration device address) = configuration ∷ []
reads_of (discover answer) = answer ∷ []
reads_of (synthesis prefix names output) = dns.files_of names

-- the files that a command writes
abbrev pub writes_of : Command → List (List ℕ)
writes_of (carry_run names) = names.left_output ∷ names.right_output ∷ names.report ∷ []
writes_of (wkp input output) = output ∷ []
writes_of (map_address configuration device address) = []
writes_of (discover answer) = []
writes_of (synthesis prefix names output) = output ∷ []

-- Where a command carries captures, each output has a file of its own, in which no capture is.
abbrev pub HasOwnFiles : Command → Type 0
HasOwnFiles (carry_run names) = HaveOwnFiles (captures_of names) (outputs_of names)
HasOwnFiles (wkp input output) = HaveOwnFiles (wkp_captures input) (wkp_outputs output)
HasOwnFiles other = Unit {0}

-- what the status says
abbrev pub Answer : Command → Run → Type 0
Answer (carry_run names) run = CarryRunAnswer names run run.status
Answer (wkp input output) run =
    CarriedAnswer 1 1 (wkp_crossing input output run) run.out_before run.out_after run.status
Answer (map_address configuration device address) run = MapAnswer configuration device address run run.status
Answer (discover answer) run = discovery.DiscoverAnswer answer run run.status
Answer (synthesis prefix names output) run = dns.Dns64Answer prefix names output run run.status

-- The run is what the bytes of its inputs decide.
abbrev pub Decided : Command → Run → Type 0
Decided (carry_run names) run = CarryRunSays names run (judgement (held (run.before.contents names.configuration)))
Decided (wkp input output) run =
    CarriedSays 1 1 (wkp_crossing input output run) run.out_before run.out_after run.status
Decided (map_address configuration device address) run =
    Says run.out_before run.out_after run.status (decision (held (run.before.contents configuration)) device address)
Decided (discover answer) run =
    discovery.Says run.out_before run.out_after run.status (discovery.decision (held (run.before.contents answer)))
Decided (synthesis prefix names output) run =
    dns.Says output run run.status (dns.decision prefix (dns.messages_held run.before names))

-- Identifications are taken where captures are carried alone, and there the answer says which.
abbrev pub TakesIdentifications : Command → Run → Type 0
TakesIdentifications (carry_run names) run = Unit {0}
TakesIdentifications (wkp input output) run = Unit {0}
TakesIdentifications other run = AreUntaken run

-- What holds of each run of a command.
pub record Promise (command : Command) (run : Run) : Type 0 where
  -- what its status says
  pub answer : Answer command run
  -- A fault of reading or writing is one of a file that the command reads or writes.
  pub read_fault : run.status ≡ ReadFault → SomeRose (reads_of command) run.before.read_faults run.after.read_faults
  pub write_fault : run.status ≡ WriteFault → SomeRose (writes_of command) run.before.write_faults run.after.write_faults
  -- No other file is touched.
  pub only : Touches run.before run.after (reads_of command) (writes_of command)
  -- which identifications are taken
  pub idents : TakesIdentifications command run
  -- Only a run that ends with Ok prints.
  pub silent : run.status ≢ Ok → run.out_after ≡ run.out_before

-- Where what it reads is told and none of its calls on files failed, the bytes decide the run, or memory was refused.
abbrev pub IsComplete : Command → Run → Type 0
IsComplete command run =
    AllTold (reads_of command) run.before
    → ¬ SomeRose (reads_of command) run.before.read_faults run.after.read_faults
    → ¬ SomeRose (writes_of command) run.before.write_faults run.after.write_faults
    → Decided command run ⊎ (run.status ≡ NoMemory)
