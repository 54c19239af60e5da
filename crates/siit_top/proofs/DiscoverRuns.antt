-- When `discover` may end in which way.
use Rattle.std.proofs.Common.{◌≡◌, ◌≢◌, ◌⊎◌, ℕ, ◌≤◌, List, [], ◌∷◌, length, Result, Ok, Err, inl, inr, refl, ap, subst, arith}
use Rattle.std.specs.Prelude.{false, nat_lt, if◌then◌else◌}
use Rattle.std.proofs.lemmas.Bool.Decides.{nat_tests}
use Rattle.siit_command.specs.Reading.{IsLonger, IsUnread, WasRead}
use Rattle.siit_command.specs.declared.reading.Unread.{Unread}
use Rattle.siit_command.specs.declared.reading.Unread.TheVariants as unread
use Rattle.siit_discovery.specs.Discovery.{found}
use Rattle.siit_dns.specs.declared.fault.DnsFault.{DnsFault}
use Rattle.siit_word.specs.Files.{FilesMeaning, ReadFailed, Touches}
use Rattle.siit_top.specs.DiscoverRun.{decision, decision_by, too_long, DiscoverAnswer, Says}
use Rattle.siit_top.specs.Promises.{Promise}
use Rattle.siit_top.specs.Ends.{unread_status}
use Rattle.siit_top.specs.Runs.{run_between}
use Rattle.siit_top.specs.Words.{discover}
use Rattle.siit_top.specs.declared.status.Status.{Status}
use Rattle.siit_top.specs.declared.status.Status.TheVariants as status

discover_not_read : {before after : FilesMeaning} {coming : ℕ → ℕ → ℕ} {answer out : List ℕ} → Touches before after (answer ∷ []) [] → ReadFailed before after answer → Promise (discover answer) (run_between before after coming coming out out status.ReadFault)
discover_not_read only cause = record {
  answer = tt;
  read_fault = λ is. inl cause;
  write_fault = λ is. cc;
  only = only;
  idents = λ device k. refl;
  silent = λ other. refl;
}

discover_no_room : {before after : FilesMeaning} {coming : ℕ → ℕ → ℕ} {answer out : List ℕ} → Touches before after (answer ∷ []) [] → Promise (discover answer) (run_between before after coming coming out out status.NoMemory)
discover_no_room only = record {
  answer = tt;
  read_fault = λ is. cc;
  write_fault = λ is. cc;
  only = only;
  idents = λ device k. refl;
  silent = λ other. refl;
}

discover_too_long : {before after : FilesMeaning} {coming : ℕ → ℕ → ℕ} {answer out : List ℕ} → Touches before after (answer ∷ []) [] → IsLonger before answer 65535 → Promise (discover answer) (run_between before after coming coming out out (status.TooLong 1))
discover_too_long only long = record {
  answer = record { word = refl; long = long };
  read_fault = λ is. cc;
  write_fault = λ is. cc;
  only = only;
  idents = λ device k. refl;
  silent = λ other. refl;
}

unread_by : (u : Unread) (before after : FilesMeaning) (coming : ℕ → ℕ → ℕ) (answer out : List ℕ) → Touches before after (answer ∷ []) [] → IsUnread before after answer 65535 u → Promise (discover answer) (run_between before after coming coming out out (unread_status 1 u))
unread_by unread.Failed before after coming answer out only cause = discover_not_read only cause
unread_by unread.NoMemory before after coming answer out only cause = discover_no_room only
unread_by unread.TooLong before after coming answer out only cause = discover_too_long only cause

-- ANSWER wasn't read.
pub discover_unread : (u : Unread) {before after : FilesMeaning} {coming : ℕ → ℕ → ℕ} {answer out : List ℕ} → Touches before after (answer ∷ []) [] → IsUnread before after answer 65535 u → Promise (discover answer) (run_between before after coming coming out out (unread_status 1 u))
discover_unread u {before} {after} {coming} {answer} {out} only cause = unread_by u before after coming answer out only cause

-- within the limit, what is read decides
within_limit : (bytes : List ℕ) → length bytes ≤ 65535 → decision bytes ≡ decision_by (found bytes)
within_limit bytes within =
    let short : nat_lt 65535 (length bytes) ≡ false = grind (arith, nat_tests) in
    ap (λ b. if b then too_long else decision_by (found bytes)) short

not_long : (shown : Result (List (ℕ × ℕ)) DnsFault) → decision_by shown ≢ too_long
not_long (Err fault) = λ is. cc
not_long (Ok prefixes) = λ is. cc

-- the status that the bytes decide
decided_answer : (s : Status) (before after : FilesMeaning) (coming : ℕ → ℕ → ℕ) (answer old new bytes : List ℕ) → WasRead before answer 65535 bytes → Says old new s (decision_by (found bytes)) → Says old new s (decision bytes) → DiscoverAnswer answer (run_between before after coming coming old new s) s
decided_answer status.Ok before after coming answer old new bytes read by says = record { bytes = bytes; read = read; says = says }
decided_answer (status.BadMessage word fault) before after coming answer old new bytes read by says = record { bytes = bytes; read = read; says = says }
decided_answer (status.TooLong word) before after coming answer old new bytes read by says = absurd (not_long (found bytes) by.1)
decided_answer status.NoMemory before after coming answer old new bytes read by says = absurd by
decided_answer status.ReadFault before after coming answer old new bytes read by says = absurd by
decided_answer status.BadWords before after coming answer old new bytes read by says = absurd by
decided_answer (status.BadConfig fault) before after coming answer old new bytes read by says = absurd by
decided_answer status.WriteFault before after coming answer old new bytes read by says = absurd by
decided_answer (status.BadCapture end place fault) before after coming answer old new bytes read by says = absurd by
decided_answer status.NoDevice before after coming answer old new bytes read by says = absurd by

no_read_fault : (s : Status) (P : Type 0) (old new bytes : List ℕ) → Says old new s (decision_by (found bytes)) → s ≡ status.ReadFault → P
no_read_fault s P old new bytes says is = absurd (subst (λ (x : Status). Says old new x (decision_by (found bytes))) is says)

no_write_fault : (s : Status) (P : Type 0) (old new bytes : List ℕ) → Says old new s (decision_by (found bytes)) → s ≡ status.WriteFault → P
no_write_fault s P old new bytes says is = absurd (subst (λ (x : Status). Says old new x (decision_by (found bytes))) is says)

discover_said : (s : Status) (before after : FilesMeaning) (coming : ℕ → ℕ → ℕ) (answer old new bytes : List ℕ) → Touches before after (answer ∷ []) [] → WasRead before answer 65535 bytes → Says old new s (decision_by (found bytes)) → (s ≢ status.Ok → new ≡ old) → Promise (discover answer) (run_between before after coming coming old new s)
discover_said s before after coming answer old new bytes only read says silent = record {
  answer = decided_answer s before after coming answer old new bytes read says (rw (within_limit bytes read.within) says);
  read_fault = no_read_fault s _ old new bytes says;
  write_fault = no_write_fault s _ old new bytes says;
  only = only;
  idents = λ device k. refl;
  silent = silent;
}

discover_said_or : (s : Status) (before after : FilesMeaning) (coming : ℕ → ℕ → ℕ) (answer old new bytes : List ℕ) → Touches before after (answer ∷ []) [] → WasRead before answer 65535 bytes → Says old new s (decision_by (found bytes)) ⊎ (s ≡ status.NoMemory) → (s ≢ status.Ok → new ≡ old) → Promise (discover answer) (run_between before after coming coming old new s)
discover_said_or s before after coming answer old new bytes only read (inl says) silent = discover_said s before after coming answer old new bytes only read says silent
discover_said_or s before after coming answer old new bytes only read (inr none) silent =
    let same : new ≡ old = silent (λ is. cc) in
    rw (none, same) (discover_no_room only)

-- what was shown by the bytes that were read
pub discover_answered : {s : Status} {before after : FilesMeaning} {coming : ℕ → ℕ → ℕ} {answer old new bytes given : List ℕ} → Touches before after (answer ∷ []) [] → WasRead before answer 65535 bytes → given ≡ bytes → Says old new s (decision_by (found given)) ⊎ (s ≡ status.NoMemory) → (s ≢ status.Ok → new ≡ old) → Promise (discover answer) (run_between before after coming coming old new s)
discover_answered {s} {before} {after} {coming} {answer} {old} {new} {bytes} {given} only read is says silent =
    discover_said_or s before after coming answer old new bytes only read (rw is at says) silent
