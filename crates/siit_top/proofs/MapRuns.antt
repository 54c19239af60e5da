-- When `map` may end in which way.
use Rattle.std.proofs.Common.{◌≡◌, ◌≢◌, ◌⊎◌, ℕ, ◌≤◌, List, [], ◌∷◌, length, Option, Some, None, Result, Ok, Err, inl, inr, refl, ap, subst, arith}
use Rattle.std.specs.Prelude.{false, nat_lt, if◌then◌else◌}
use Rattle.std.proofs.lemmas.Bool.Decides.{nat_tests}
use Rattle.siit_command.specs.Reading.{IsLonger, IsUnread, WasRead}
use Rattle.siit_command.specs.Words.{Address}
use Rattle.siit_command.specs.declared.reading.Unread.{Unread}
use Rattle.siit_command.specs.declared.reading.Unread.TheVariants as unread
use Rattle.siit_config.specs.Config.{config_of}
use Rattle.siit_config.specs.Faults.{Fault}
use Rattle.siit_roles.specs.Chain.{Chain}
use Rattle.siit_roles.specs.declared.settings.Settings.{Settings}
use Rattle.siit_word.specs.Files.{FilesMeaning, ReadFailed, Touches}
use Rattle.siit_top.specs.MapRun.{decision, decision_at, decision_by, device_at, too_long, MapAnswer, Says}
use Rattle.siit_top.specs.Promises.{Promise}
use Rattle.siit_top.specs.Ends.{unread_status}
use Rattle.siit_top.specs.Runs.{run_between}
use Rattle.siit_top.specs.Words.{map_address}
use Rattle.siit_top.specs.declared.status.Status.{Status}
use Rattle.siit_top.specs.declared.status.Status.TheVariants as status

map_not_read : {before after : FilesMeaning} {coming : ℕ → ℕ → ℕ} {configuration out : List ℕ} {device : ℕ} {address : Address} → Touches before after (configuration ∷ []) [] → ReadFailed before after configuration → Promise (map_address configuration device address) (run_between before after coming coming out out status.ReadFault)
map_not_read only cause = record {
  answer = tt;
  read_fault = λ is. inl cause;
  write_fault = λ is. cc;
  only = only;
  idents = λ device k. refl;
  silent = λ other. refl;
}

map_no_room : {before after : FilesMeaning} {coming : ℕ → ℕ → ℕ} {configuration out : List ℕ} {device : ℕ} {address : Address} → Touches before after (configuration ∷ []) [] → Promise (map_address configuration device address) (run_between before after coming coming out out status.NoMemory)
map_no_room only = record {
  answer = tt;
  read_fault = λ is. cc;
  write_fault = λ is. cc;
  only = only;
  idents = λ device k. refl;
  silent = λ other. refl;
}

map_too_long : {before after : FilesMeaning} {coming : ℕ → ℕ → ℕ} {configuration out : List ℕ} {device : ℕ} {address : Address} → Touches before after (configuration ∷ []) [] → IsLonger before configuration 1048576 → Promise (map_address configuration device address) (run_between before after coming coming out out (status.TooLong 1))
map_too_long only long = record {
  answer = record { word = refl; long = long };
  read_fault = λ is. cc;
  write_fault = λ is. cc;
  only = only;
  idents = λ device k. refl;
  silent = λ other. refl;
}

unread_by : (u : Unread) (before after : FilesMeaning) (coming : ℕ → ℕ → ℕ) (configuration out : List ℕ) (device : ℕ) (address : Address) → Touches before after (configuration ∷ []) [] → IsUnread before after configuration 1048576 u → Promise (map_address configuration device address) (run_between before after coming coming out out (unread_status 1 u))
unread_by unread.Failed before after coming configuration out device address only cause = map_not_read only cause
unread_by unread.NoMemory before after coming configuration out device address only cause = map_no_room only
unread_by unread.TooLong before after coming configuration out device address only cause = map_too_long only cause

-- CONFIG wasn't read.
pub map_unread : (u : Unread) {before after : FilesMeaning} {coming : ℕ → ℕ → ℕ} {configuration out : List ℕ} {device : ℕ} {address : Address} → Touches before after (configuration ∷ []) [] → IsUnread before after configuration 1048576 u → Promise (map_address configuration device address) (run_between before after coming coming out out (unread_status 1 u))
map_unread u {before} {after} {coming} {configuration} {out} {device} {address} only cause = unread_by u before after coming configuration out device address only cause

-- within the limit, what is read decides
within_limit : (bytes : List ℕ) (device : ℕ) (address : Address) → length bytes ≤ 1048576 → decision bytes device address ≡ decision_by (config_of bytes) device address
within_limit bytes device address within =
    let short : nat_lt 1048576 (length bytes) ≡ false = grind (arith, nat_tests) in
    ap (λ b. if b then too_long else decision_by (config_of bytes) device address) short

not_long_at : (settings : Option Settings) (address : Address) → decision_at settings address ≢ too_long
not_long_at None address = λ is. cc
not_long_at (Some settings) address = λ is. cc

not_long : (config : Result Chain Fault) (device : ℕ) (address : Address) → decision_by config device address ≢ too_long
not_long (Err fault) device address = λ is. cc
not_long (Ok chain) device address = not_long_at (device_at device chain.devices) address

-- the status that the bytes decide
decided_answer : (s : Status) (before after : FilesMeaning) (coming : ℕ → ℕ → ℕ) (configuration old new bytes : List ℕ) (device : ℕ) (address : Address) → WasRead before configuration 1048576 bytes → Says old new s (decision_by (config_of bytes) device address) → Says old new s (decision bytes device address) → MapAnswer configuration device address (run_between before after coming coming old new s) s
decided_answer status.Ok before after coming configuration old new bytes device address read by says = record { bytes = bytes; read = read; says = says }
decided_answer (status.BadConfig fault) before after coming configuration old new bytes device address read by says = record { bytes = bytes; read = read; says = says }
decided_answer status.NoDevice before after coming configuration old new bytes device address read by says = record { bytes = bytes; read = read; says = says }
decided_answer (status.TooLong word) before after coming configuration old new bytes device address read by says = absurd (not_long (config_of bytes) device address by.1)
decided_answer status.NoMemory before after coming configuration old new bytes device address read by says = tt
decided_answer status.ReadFault before after coming configuration old new bytes device address read by says = tt
decided_answer (status.BadMessage word fault) before after coming configuration old new bytes device address read by says = absurd by
decided_answer status.BadWords before after coming configuration old new bytes device address read by says = absurd by
decided_answer status.WriteFault before after coming configuration old new bytes device address read by says = absurd by
decided_answer (status.BadCapture end place fault) before after coming configuration old new bytes device address read by says = absurd by

no_read_fault : (s : Status) (P : Type 0) (old new bytes : List ℕ) (device : ℕ) (address : Address) → Says old new s (decision_by (config_of bytes) device address) → s ≡ status.ReadFault → P
no_read_fault s P old new bytes device address says is =
    absurd (subst (λ (x : Status). Says old new x (decision_by (config_of bytes) device address)) is says)

no_write_fault : (s : Status) (P : Type 0) (old new bytes : List ℕ) (device : ℕ) (address : Address) → Says old new s (decision_by (config_of bytes) device address) → s ≡ status.WriteFault → P
no_write_fault s P old new bytes device address says is =
    absurd (subst (λ (x : Status). Says old new x (decision_by (config_of bytes) device address)) is says)

map_said : (s : Status) (before after : FilesMeaning) (coming : ℕ → ℕ → ℕ) (configuration old new bytes : List ℕ) (device : ℕ) (address : Address) → Touches before after (configuration ∷ []) [] → WasRead before configuration 1048576 bytes → Says old new s (decision_by (config_of bytes) device address) → (s ≢ status.Ok → new ≡ old) → Promise (map_address configuration device address) (run_between before after coming coming old new s)
map_said s before after coming configuration old new bytes device address only read says silent = record {
  answer = decided_answer s before after coming configuration old new bytes device address read says (rw (within_limit bytes device address read.within) says);
  read_fault = no_read_fault s _ old new bytes device address says;
  write_fault = no_write_fault s _ old new bytes device address says;
  only = only;
  idents = λ device k. refl;
  silent = silent;
}

map_said_or : (s : Status) (before after : FilesMeaning) (coming : ℕ → ℕ → ℕ) (configuration old new bytes : List ℕ) (device : ℕ) (address : Address) → Touches before after (configuration ∷ []) [] → WasRead before configuration 1048576 bytes → Says old new s (decision_by (config_of bytes) device address) ⊎ (s ≡ status.NoMemory) → (s ≢ status.Ok → new ≡ old) → Promise (map_address configuration device address) (run_between before after coming coming old new s)
map_said_or s before after coming configuration old new bytes device address only read (inl says) silent = map_said s before after coming configuration old new bytes device address only read says silent
map_said_or s before after coming configuration old new bytes device address only read (inr none) silent =
    let same : new ≡ old = silent (λ is. cc) in
    rw (none, same) (map_no_room only)

-- what was answered by the bytes that were read
pub map_answered : {s : Status} {before after : FilesMeaning} {coming : ℕ → ℕ → ℕ} {configuration old new bytes given : List ℕ} {device : ℕ} {address : Address} → Touches before after (configuration ∷ []) [] → WasRead before configuration 1048576 bytes → given ≡ bytes → Says old new s (decision_by (config_of given) device address) ⊎ (s ≡ status.NoMemory) → (s ≢ status.Ok → new ≡ old) → Promise (map_address configuration device address) (run_between before after coming coming old new s)
map_answered {s} {before} {after} {coming} {configuration} {old} {new} {bytes} {given} {device} {address} only read is says silent =
    map_said_or s before after coming configuration old new bytes device address only read (rw is at says) silent
