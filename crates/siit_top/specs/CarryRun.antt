-- What `run CONFIG LEFT RIGHT OUTLEFT OUTRIGHT REPORT` promises, by its status.
use Rattle.std.specs.Prelude.{◌≡◌, ◌≢◌, ◌⊎◌, ℕ, List, length, nat_lt, if◌then◌else◌, Option, Some, None, Result, Ok, Err}
use Rattle.siit_chain.specs.declared.origin.End.{End}
use Rattle.siit_chain.specs.declared.origin.Output.{Output}
use Rattle.siit_command.specs.Reading.{IsLonger, WasRead}
use Rattle.siit_command.specs.declared.reading.Unread.TheVariants as unread
use Rattle.siit_config.specs.Config.{config_of}
use Rattle.siit_config.specs.Faults.{Fault, IsNoTableMemory, fault_of}
use Rattle.siit_config.specs.declared.fault.ConfigFault.{ConfigFault}
use Rattle.siit_network.specs.Crossings.{Crossing}
use Rattle.siit_roles.specs.Chain.{Chain}
use Rattle.siit_word.specs.Files.{FilesMeaning, ReadFailed}
use Rattle.siit_top.specs.Carried.{captures_named, crossing_of, outputs_named, CarriedAnswer, CarriedSays}
use Rattle.siit_top.specs.Runs.{AreUntaken, Run, Unwritten}
use Rattle.siit_top.specs.Words.{RunFiles}
use Rattle.siit_top.specs.declared.commands.settings.NoSettings.{NoSettings}
use Rattle.siit_top.specs.declared.commands.settings.NoSettings.TheVariants as unset
use Rattle.siit_top.specs.declared.status.Status.{Status}
use Rattle.siit_top.specs.declared.status.Status.TheVariants as status

-- THE CONFIGURATION

-- What the bytes of CONFIG decide: they are more than a configuration may have, they are none, or settings.
pub data Judgement : Type 0 where
  too_long : Judgement
  bad_config : (fault : Fault) → Judgement
  accepted : (chain : Chain) → Judgement

abbrev pub judged : Result Chain Fault → Judgement
judged (Err fault) = bad_config fault
judged (Ok chain) = accepted chain

abbrev pub judgement : List ℕ → Judgement
judgement bytes = if nat_lt 1048576 (length bytes) then too_long else judged (config_of bytes)

-- The file was read as a configuration of these settings.
pub record HasSettings (files : FilesMeaning) (configuration : List ℕ) (chain : Chain) : Type 0 where
  pub bytes : List ℕ
  pub read : WasRead files configuration 1048576 bytes
  pub settings : config_of bytes ≡ Ok chain

-- the fault is that one, and none of memory
abbrev pub IsFaultOf : ConfigFault → Fault → Type 0
IsFaultOf fault told = IsNoTableMemory fault × (fault_of fault ≡ Some told)

-- The file was read as bytes that have this fault.
pub record HasFault (files : FilesMeaning) (configuration : List ℕ) (fault : ConfigFault) : Type 0 where
  pub bytes : List ℕ
  pub read : WasRead files configuration 1048576 bytes
  pub told : Fault
  pub refused : config_of bytes ≡ Err told
  pub is_fault : IsFaultOf fault told

-- why bytes are no settings
abbrev pub AreRefusedBy : (bytes : List ℕ) → NoSettings → Type 0
AreRefusedBy bytes (unset.BadConfig fault) = (told : Fault) × (config_of bytes ≡ Err told) × IsFaultOf fault told
AreRefusedBy bytes unset.NoMemory = Unit {0}
AreRefusedBy bytes other = ⊥

-- why a file gave no settings
abbrev pub HasNoSettings : (before after : FilesMeaning) (configuration : List ℕ) → NoSettings → Type 0
HasNoSettings before after configuration (unset.Unread unread.Failed) = ReadFailed before after configuration
HasNoSettings before after configuration (unset.Unread unread.NoMemory) = Unit {0}
HasNoSettings before after configuration (unset.Unread unread.TooLong) = IsLonger before configuration 1048576
HasNoSettings before after configuration (unset.BadConfig fault) = HasFault before configuration fault
HasNoSettings before after configuration unset.NoMemory = Unit {0}

-- THE CAPTURES

abbrev pub captures_of : RunFiles → End → Option (List ℕ)
captures_of names = captures_named names.left names.right

abbrev pub outputs_of : RunFiles → Output → Option (List ℕ)
outputs_of names = outputs_named (Some names.left_output) (Some names.right_output) (Some names.report)

-- the run through the network of these settings
abbrev pub crossing_by : Chain → RunFiles → Run → Crossing
crossing_by chain names run = crossing_of chain (captures_of names) (outputs_of names) run

-- the run as it began where files had been read so far
abbrev pub with_given : (given : List ℕ → Option ℕ) → Run → Run
with_given given run = record run { before = record run.before { given = given } }

-- WHAT HOLDS OF EACH ANSWER

-- No file but CONFIG was read, none was written, and no identification was taken.
pub record IsUntouched (names : RunFiles) (run : Run) : Type 0 where
  pub unread : (q : List ℕ) → q ≢ names.configuration → run.after.given q ≡ run.before.given q
  pub unwritten : Unwritten run
  pub untaken : AreUntaken run

-- Reading CONFIG failed.
pub record IsUnreadConfiguration (names : RunFiles) (run : Run) : Type 0 where
  pub failed : ReadFailed run.before run.after names.configuration
  pub untouched : IsUntouched names run

-- CONFIG has more bytes than a configuration may have.
pub record IsLongConfiguration (names : RunFiles) (run : Run) (word : ℕ) : Type 0 where
  pub word_of : word ≡ 1
  pub long : IsLonger run.before names.configuration 1048576
  pub untouched : IsUntouched names run

-- CONFIG has this fault.
pub record IsRefused (names : RunFiles) (run : Run) (fault : ConfigFault) : Type 0 where
  pub fault_there : HasFault run.before names.configuration fault
  pub untouched : IsUntouched names run

-- CONFIG has settings, and the captures were carried through their network. A capture that is in the file of CONFIG too
-- had been read as far as that was read.
pub record IsAccepted (names : RunFiles) (run : Run) (s : Status) : Type 0 where
  pub chain : Chain
  pub settings : HasSettings run.before names.configuration chain
  pub given : List ℕ → Option ℕ
  pub given_else : (q : List ℕ) → q ≢ names.configuration → given q ≡ run.before.given q
  pub carried : CarriedAnswer 2 3 (crossing_by chain names (with_given given run)) run.out_before run.out_after s

-- what holds after each status; others don't come
abbrev pub CarryRunAnswer : RunFiles → Run → Status → Type 0
CarryRunAnswer names run status.Ok = IsAccepted names run status.Ok
CarryRunAnswer names run (status.BadConfig fault) = IsRefused names run fault
CarryRunAnswer names run status.ReadFault = IsUnreadConfiguration names run ⊎ IsAccepted names run status.ReadFault
CarryRunAnswer names run status.WriteFault = IsAccepted names run status.WriteFault
CarryRunAnswer names run (status.BadCapture end place fault) = IsAccepted names run (status.BadCapture end place fault)
CarryRunAnswer names run status.NoMemory = IsUntouched names run ⊎ IsAccepted names run status.NoMemory
CarryRunAnswer names run (status.TooLong word) = IsLongConfiguration names run word ⊎ IsAccepted names run (status.TooLong word)
CarryRunAnswer names run other = ⊥

-- WHAT THE BYTES DECIDE

-- the status tells this fault
abbrev pub TellsFault : Fault → Status → Type 0
TellsFault told (status.BadConfig fault) = IsFaultOf fault told
TellsFault told other = ⊥

-- The status says what the bytes of CONFIG and of the captures decide.
abbrev pub CarryRunSays : RunFiles → Run → Judgement → Type 0
CarryRunSays names run too_long = run.status ≡ status.TooLong 1
CarryRunSays names run (bad_config fault) = TellsFault fault run.status
CarryRunSays names run (accepted chain) =
    CarriedSays 2 3 (crossing_by chain names run) run.out_before run.out_after run.status
