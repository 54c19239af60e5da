-- What follows of a run that keeps its promise.
use Rattle.std.proofs.Common.{◌≡◌, ◌⊎◌, ℕ, ◌≤◌, ◌<◌, List, ◌++◌, length, Bool, true, false, Option, Some, None, IfSome, [], ◌∷◌, option_map, option_to_list, is_some, inl, inr, refl, ap, sym, subst, ◌∙◌, arith, IsTrue}
use Rattle.std.specs.Prelude.{if◌then◌else◌, nat_lt}
use Rattle.std.proofs.lemmas.Bool.{lt-ltb}
use Rattle.std.proofs.lemmas.Bool.Decides.{nat_tests}
use Rattle.siit_command.specs.Words.{Address}
use Rattle.siit_config.specs.Config.{config_of}
use Rattle.siit_discovery.specs.Discovery.{found}
use Rattle.siit_addr.specs.declared.addr.Prefix6.{Prefix6}
use Rattle.siit_dns64.specs.Dns64.{dns64}
use Rattle.siit_word.specs.Files.{held, FilesMeaning}
use Rattle.siit_chain.specs.Outputs.{some_name}
use Rattle.siit_chain.specs.declared.origin.End.TheVariants as ends
use Rattle.siit_command.specs.Reading.{WasRead}
use Rattle.siit_config.specs.declared.fault.ConfigFault.{ConfigFault}
use Rattle.siit_network.specs.Crossings.{Crossing, HasWritten, IsCrossed, IsTold}
use Rattle.siit_run.specs.Runs.{Course, finished, stopped}
use Rattle.siit_running.specs.Inputs.{AreTold}
use Rattle.siit_top.specs.Carried.{captures_named, CarriedAnswer, CarriedSays, IsDone, IsWhole}
use Rattle.siit_top.specs.CarryRun as carrying
use Rattle.siit_top.specs.DiscoverRun as discovery
use Rattle.siit_top.specs.Dns64Run as dns
use Rattle.siit_top.specs.MapRun.{decision, decision_by, too_long, IsLongConfiguration, IsReadAs, MapAnswer, Says}
use Rattle.siit_top.specs.Promises.{reads_of, Decided, IsComplete, Promise}
use Rattle.siit_top.specs.Runs.{AllTold, Run}
use Rattle.siit_top.specs.WkpRun.{wkp_crossing}
use Rattle.siit_top.specs.Words.{carry_run, Command, discover, map_address, messages_of, synthesis, wkp, Messages, RunFiles}
use Rattle.siit_top.specs.declared.status.Status.{Status}
use Rattle.siit_top.specs.declared.status.Status.TheVariants.{Ok, BadWords, BadConfig, ReadFault, WriteFault, BadCapture, BadMessage, NoMemory, TooLong, NoDevice}
use Rattle.siit_top.proofs.Dns64Reads.{first_long_held}

-- What was read is what the file holds.
pub held_is : {file : Option (List ℕ)} {bytes : List ℕ} → file ≡ Some bytes → held file ≡ bytes
held_is is = ap held is

-- WHERE CAPTURES WERE CARRIED

-- What both captures hold is told.
pub told_names : (files : FilesMeaning) (left right : Option (List ℕ)) → AllTold (some_name left ++ some_name right) files → AreTold files (captures_named left right)
told_names files None None told ends.Left = tt
told_names files None None told ends.Right = tt
told_names files None (Some right) told ends.Left = tt
told_names files None (Some right) told ends.Right = told.0
told_names files (Some left) None told ends.Left = told.0
told_names files (Some left) None told ends.Right = tt
told_names files (Some left) (Some right) told ends.Left = told.0
told_names files (Some left) (Some right) told ends.Right = told.1.0

-- what the captures decide, by what holds after another number of bytes was read of each file
module _ (left right : ℕ) (c : Crossing) (given : List ℕ → Option ℕ) (told : IsTold c) where
  abbrev other : Crossing
  other = record c { before = record c.before { given = given } }

  written_so : (course : Course) → HasWritten c course → HasWritten other course
  written_so course w = record { ends = w.ends; holds = w.holds; comes = w.comes }

  whole_so : (out_old out_new : List ℕ) → IsDone c out_old out_new → IsWhole other out_old out_new
  whole_so out_old out_new done =
      let crossed : IsCrossed c done.counts = done.holds told in
      record {
        counts = done.counts;
        crossed = record { written = written_so finished crossed.written; counted = crossed.counted; within = crossed.within };
        line = done.told_line told;
      }

  pub carried_decided : (s : Status) (out_old out_new : List ℕ) → CarriedAnswer left right c out_old out_new s → (s ≡ ReadFault → ⊥) → (s ≡ WriteFault → ⊥)
      → CarriedSays left right other out_old out_new s ⊎ (s ≡ NoMemory)
  carried_decided Ok out_old out_new a no_read no_write = inl (whole_so out_old out_new a)
  carried_decided BadWords out_old out_new a no_read no_write = absurd a
  carried_decided (BadConfig fault) out_old out_new a no_read no_write = absurd a
  carried_decided ReadFault out_old out_new a no_read no_write = absurd (no_read refl)
  carried_decided WriteFault out_old out_new a no_read no_write = absurd (no_write refl)
  carried_decided (BadCapture end place fault) out_old out_new a no_read no_write =
      inl (record { may_fail = a.0; written = written_so (stopped end place fault) (a.1 told) })
  carried_decided NoMemory out_old out_new a no_read no_write = inr refl
  carried_decided (TooLong word) out_old out_new a no_read no_write = inl (record { end = a.end; word_of = a.word_of; long = a.holds.0 })
  carried_decided (BadMessage word fault) out_old out_new a no_read no_write = absurd a
  carried_decided NoDevice out_old out_new a no_read no_write = absurd a

wkp_decided : (input output : List ℕ) (run : Run) → CarriedAnswer 1 1 (wkp_crossing input output run) run.out_before run.out_after run.status → IsTrue (run.before.told input)
    → (run.status ≡ ReadFault → ⊥) → (run.status ≡ WriteFault → ⊥) → Decided (wkp input output) run ⊎ (run.status ≡ NoMemory)
wkp_decided input output run a told no_read no_write =
    carried_decided 1 1 (wkp_crossing input output run) run.before.given (told_names run.before (Some input) None (told, tt)) run.status run.out_before run.out_after a no_read no_write

-- what the bytes of a configuration are judged to be
judged_within : (bytes : List ℕ) → length bytes ≤ 1048576 → carrying.judgement bytes ≡ carrying.judged (config_of bytes)
judged_within bytes within =
    let short : nat_lt 1048576 (length bytes) ≡ false = grind (arith, nat_tests) in
    ap (λ b. if b then carrying.too_long else carrying.judged (config_of bytes)) short

judged_long : (bytes : List ℕ) → 1048576 < length bytes → carrying.judgement bytes ≡ carrying.too_long
judged_long bytes long =
    ap (λ b. if b then carrying.too_long else carrying.judged (config_of bytes)) (lt-ltb 1048576 (length bytes) long)

judged_held : (files : FilesMeaning) (configuration bytes : List ℕ) → WasRead files configuration 1048576 bytes → IsTrue (files.told configuration)
    → carrying.judgement (held (files.contents configuration)) ≡ carrying.judged (config_of bytes)
judged_held files configuration bytes read told = ap carrying.judgement (held_is (read.file told)) ∙ judged_within bytes read.within

run_accepted : (names : RunFiles) (run : Run) (s : Status) → run.status ≡ s → carrying.IsAccepted names run s → AllTold (reads_of (carry_run names)) run.before → (s ≡ ReadFault → ⊥) → (s ≡ WriteFault → ⊥)
    → Decided (carry_run names) run ⊎ (run.status ≡ NoMemory)
run_accepted names run s is a told no_read no_write =
    let c : Crossing = carrying.crossing_by a.chain names (carrying.with_given a.given run) in
    let bytes = a.settings in
    let judgement : carrying.judgement (held (run.before.contents names.configuration)) ≡ carrying.accepted a.chain =
    judged_held run.before names.configuration bytes.bytes bytes.read told.0 ∙ ap carrying.judged bytes.settings in
    elim (carried_decided 2 3 c run.before.given (told_names run.before names.left names.right told.1) s run.out_before run.out_after a.carried no_read no_write) [
      | inl says ↦ inl (subst (λ (j : carrying.Judgement). carrying.CarryRunSays names run j) (sym judgement)
          (subst (λ (x : Status). CarriedSays 2 3 (carrying.crossing_by a.chain names run) run.out_before run.out_after x) (sym is) says))
      | inr none ↦ inr (is ∙ none)
    ]

run_refused : (names : RunFiles) (run : Run) (fault : ConfigFault) → run.status ≡ BadConfig fault → carrying.IsRefused names run fault → AllTold (reads_of (carry_run names)) run.before → Decided (carry_run names) run
run_refused names run fault is a told =
    let bytes = a.fault_there in
    let judgement : carrying.judgement (held (run.before.contents names.configuration)) ≡ carrying.bad_config bytes.told =
    judged_held run.before names.configuration bytes.bytes bytes.read told.0 ∙ ap carrying.judged bytes.refused in
    subst (λ (j : carrying.Judgement). carrying.CarryRunSays names run j) (sym judgement)
    (subst (λ (x : Status). carrying.TellsFault bytes.told x) (sym is) bytes.is_fault)

run_long : (names : RunFiles) (run : Run) (word : ℕ) → run.status ≡ TooLong word → carrying.IsLongConfiguration names run word → AllTold (reads_of (carry_run names)) run.before → Decided (carry_run names) run
run_long names run word is a told =
    subst (λ (j : carrying.Judgement). carrying.CarryRunSays names run j) (sym (judged_long (held (run.before.contents names.configuration)) (a.long told.0)))
    (is ∙ ap TooLong a.word_of)

run_decided : (names : RunFiles) (run : Run) (s : Status) → run.status ≡ s → carrying.CarryRunAnswer names run s → AllTold (reads_of (carry_run names)) run.before → (s ≡ ReadFault → ⊥) → (s ≡ WriteFault → ⊥)
    → Decided (carry_run names) run ⊎ (run.status ≡ NoMemory)
run_decided names run Ok is a told no_read no_write = run_accepted names run Ok is a told no_read no_write
run_decided names run BadWords is a told no_read no_write = absurd a
run_decided names run (BadConfig fault) is a told no_read no_write = inl (run_refused names run fault is a told)
run_decided names run ReadFault is a told no_read no_write = absurd (no_read refl)
run_decided names run WriteFault is a told no_read no_write = absurd (no_write refl)
run_decided names run (BadCapture end place fault) is a told no_read no_write = run_accepted names run (BadCapture end place fault) is a told no_read no_write
run_decided names run NoMemory is a told no_read no_write = inr is
run_decided names run (TooLong word) is (inl long) told no_read no_write = inl (run_long names run word is long told)
run_decided names run (TooLong word) is (inr a) told no_read no_write = run_accepted names run (TooLong word) is a told no_read no_write
run_decided names run (BadMessage word fault) is a told no_read no_write = absurd a
run_decided names run NoDevice is a told no_read no_write = absurd a

map_said : (configuration : List ℕ) (device : ℕ) (address : Address) (run : Run) → IsReadAs configuration device address run → IsTrue (run.before.told configuration) → Decided (map_address configuration device address) run
map_said configuration device address run a told =
    subst (λ (bytes : List ℕ). Says run.out_before run.out_after run.status (decision bytes device address)) (sym (held_is (a.read.file told))) a.says

map_long : (configuration : List ℕ) (device : ℕ) (address : Address) (run : Run) → IsLongConfiguration configuration run → IsTrue (run.before.told configuration) → Decided (map_address configuration device address) run
map_long configuration device address run a told =
    let long : decision (held (run.before.contents configuration)) device address ≡ too_long =
    ap (λ b. if b then too_long else decision_by (config_of (held (run.before.contents configuration))) device address)
    (lt-ltb 1048576 (length (held (run.before.contents configuration))) (a.long told)) in
    subst (λ (s : Status). Says run.out_before run.out_after s (decision (held (run.before.contents configuration)) device address)) (sym a.word) (refl, long)

map_decided : (configuration : List ℕ) (device : ℕ) (address : Address) (run : Run) (s : Status) → run.status ≡ s → MapAnswer configuration device address run s → IsTrue (run.before.told configuration) → (s ≡ ReadFault → ⊥) → Decided (map_address configuration device address) run ⊎ (run.status ≡ NoMemory)
map_decided configuration device address run Ok is a told no_read = inl (map_said configuration device address run a told)
map_decided configuration device address run BadWords is a told no_read = absurd a
map_decided configuration device address run (BadConfig fault) is a told no_read = inl (map_said configuration device address run a told)
map_decided configuration device address run ReadFault is a told no_read = absurd (no_read refl)
map_decided configuration device address run WriteFault is a told no_read = absurd a
map_decided configuration device address run (BadCapture end place fault) is a told no_read = absurd a
map_decided configuration device address run NoMemory is a told no_read = inr is
map_decided configuration device address run (TooLong word) is a told no_read = inl (map_long configuration device address run a told)
map_decided configuration device address run (BadMessage word fault) is a told no_read = absurd a
map_decided configuration device address run NoDevice is a told no_read = inl (map_said configuration device address run a told)

discover_said : (answer : List ℕ) (run : Run) → discovery.IsReadAnswer answer run → IsTrue (run.before.told answer) → Decided (discover answer) run
discover_said answer run a told =
    subst (λ (bytes : List ℕ). discovery.Says run.out_before run.out_after run.status (discovery.decision bytes)) (sym (held_is (a.read.file told))) a.says

discover_long : (answer : List ℕ) (run : Run) → discovery.IsLongAnswer answer run → IsTrue (run.before.told answer) → Decided (discover answer) run
discover_long answer run a told =
    let bytes : List ℕ = held (run.before.contents answer) in
    let long : discovery.decision bytes ≡ discovery.too_long =
    ap (λ b. if b then discovery.too_long else discovery.decision_by (found bytes)) (lt-ltb 65535 (length bytes) (a.long told)) in
    subst (λ (s : Status). discovery.Says run.out_before run.out_after s (discovery.decision bytes)) (sym a.word) (refl, long)

discover_decided : (answer : List ℕ) (run : Run) (s : Status) → run.status ≡ s → discovery.DiscoverAnswer answer run s → IsTrue (run.before.told answer) → (s ≡ ReadFault → ⊥) → Decided (discover answer) run ⊎ (run.status ≡ NoMemory)
discover_decided answer run Ok is a told no_read = inl (discover_said answer run a told)
discover_decided answer run BadWords is a told no_read = absurd a
discover_decided answer run (BadConfig fault) is a told no_read = absurd a
discover_decided answer run ReadFault is a told no_read = absurd (no_read refl)
discover_decided answer run WriteFault is a told no_read = absurd a
discover_decided answer run (BadCapture end place fault) is a told no_read = absurd a
discover_decided answer run (BadMessage word fault) is a told no_read = inl (discover_said answer run a told)
discover_decided answer run NoMemory is a told no_read = inr is
discover_decided answer run (TooLong word) is a told no_read = inl (discover_long answer run a told)
discover_decided answer run NoDevice is a told no_read = absurd a

held_given : (files : FilesMeaning) (name bytes : Option (List ℕ)) → dns.WasReadIfGiven files name bytes → AllTold (option_to_list name) files → option_map (λ (n : List ℕ). held (files.contents n)) name ≡ bytes
held_given files None None read told = refl
held_given files (Some name) (Some bytes) read told = ap Some (held_is (read.file told.0))
held_given files None (Some bytes) read told = absurd read
held_given files (Some name) None read told = absurd read

-- The messages that were read are what the files hold.
held_messages : (files : FilesMeaning) (names messages : Messages) → dns.WereRead files names messages → AllTold (dns.files_of names) files → dns.messages_held files names ≡ messages
held_messages files names messages read told =
    ap (λ (query : List ℕ). messages_of query (held (files.contents names.aaaa)) (option_map (λ (n : List ℕ). held (files.contents n)) names.a)) (held_is (read.query.file told.0))
    ∙ ap (λ (aaaa : List ℕ). messages_of messages.query aaaa (option_map (λ (n : List ℕ). held (files.contents n)) names.a)) (held_is (read.aaaa.file told.1.0))
    ∙ ap (λ (a : Option (List ℕ)). messages_of messages.query messages.aaaa a) (held_given files names.a messages.a read.a told.1.1)

dns64_said : (prefix : Prefix6) (names : Messages) (output : List ℕ) (run : Run) → dns.AreRead prefix names output run → AllTold (dns.files_of names) run.before → Decided (synthesis prefix names output) run
dns64_said prefix names output run a told =
    subst (λ (messages : Messages). dns.Says output run run.status (dns.decision prefix messages)) (sym (held_messages run.before names a.messages a.read told)) a.says

dns64_long : (word : ℕ) (prefix : Prefix6) (names : Messages) (output : List ℕ) (run : Run) → run.status ≡ TooLong word → dns.IsLongMessage word names run → AllTold (dns.files_of names) run.before → Decided (synthesis prefix names output) run
dns64_long word prefix names output run is a told =
    let held_now : Messages = dns.messages_held run.before names in
    let long : dns.decision prefix held_now ≡ dns.too_long word =
    ap (λ (l : Option ℕ). dns.decision_at l (dns64 held_now.query held_now.aaaa held_now.a (prefix ∷ []))) (first_long_held a.long told) in
    subst (λ (s : Status). dns.Says output run s (dns.decision prefix held_now)) (sym is) long

dns64_decided : (prefix : Prefix6) (names : Messages) (output : List ℕ) (run : Run) (s : Status) → run.status ≡ s → dns.Dns64Answer prefix names output run s → AllTold (dns.files_of names) run.before → (s ≡ ReadFault → ⊥) → (s ≡ WriteFault → ⊥) → Decided (synthesis prefix names output) run ⊎ (run.status ≡ NoMemory)
dns64_decided prefix names output run Ok is a told no_read no_write = inl (dns64_said prefix names output run a told)
dns64_decided prefix names output run BadWords is a told no_read no_write = absurd a
dns64_decided prefix names output run (BadConfig fault) is a told no_read no_write = absurd a
dns64_decided prefix names output run ReadFault is a told no_read no_write = absurd (no_read refl)
dns64_decided prefix names output run WriteFault is a told no_read no_write = absurd (no_write refl)
dns64_decided prefix names output run (BadCapture end place fault) is a told no_read no_write = absurd a
dns64_decided prefix names output run (BadMessage word fault) is a told no_read no_write = inl (dns64_said prefix names output run a.decided told)
dns64_decided prefix names output run NoMemory is a told no_read no_write = inr is
dns64_decided prefix names output run (TooLong word) is a told no_read no_write = inl (dns64_long word prefix names output run is a told)
dns64_decided prefix names output run NoDevice is a told no_read no_write = absurd a

-- A run that keeps its promise is complete.
pub complete : (command : Command) (run : Run) → Promise command run → IsComplete command run
complete (carry_run names) run p told no_read no_write =
    run_decided names run run.status refl p.answer told (λ is. no_read (p.read_fault is)) (λ is. no_write (p.write_fault is))
complete (wkp input output) run p told no_read no_write =
    wkp_decided input output run p.answer told.0 (λ is. no_read (p.read_fault is)) (λ is. no_write (p.write_fault is))
complete (map_address configuration device address) run p told no_read no_write =
    map_decided configuration device address run run.status refl p.answer told.0 (λ is. no_read (p.read_fault is))
complete (discover answer) run p told no_read no_write =
    discover_decided answer run run.status refl p.answer told.0 (λ is. no_read (p.read_fault is))
complete (synthesis prefix names output) run p told no_read no_write =
    dns64_decided prefix names output run run.status refl p.answer told (λ is. no_read (p.read_fault is)) (λ is. no_write (p.write_fault is))

pub completed : {read : Option Command} {command : Command} {run : Run} → read ≡ Some command → Promise command run → IfSome read (λ c. IsComplete c run)
completed {read} {command} {run} is p = rw is (complete command run p)
