-- When `dns64` may end in which way.
use Rattle.std.proofs.Common.{◌≡◌, ◌≢◌, ◌⊎◌, ℕ, List, [], ◌∷◌, ◌++◌, Option, Some, None, Result, Ok, Err, inl, inr, ⊎_elim, refl, ap, sym, subst, ◌∙◌, arith}
use Rattle.siit_addr.specs.declared.addr.Prefix6.{Prefix6}
use Rattle.siit_command.specs.declared.reading.Unread.{Unread}
use Rattle.siit_command.specs.declared.reading.Unread.TheVariants as unread
use Rattle.siit_dns.specs.declared.fault.DnsFault.{DnsFault}
use Rattle.siit_dns.specs.declared.fault.DnsFault.TheVariants as fault
use Rattle.siit_dns64.specs.Answers as dns
use Rattle.siit_dns64.specs.Dns64.{dns64, IsRefusal, RefusedBy}
use Rattle.siit_dns64.specs.declared.fault.Dns64Fault.{Dns64Fault}
use Rattle.siit_word.specs.Files.{FilesMeaning, HoldsPart, Stays, Touches, WriteFailed, Written, WrittenPart}
use Rattle.siit_word.proofs.Touched.{touches_among, touches_then}
use Rattle.siit_top.specs.Dns64Run.{answer_line, answers, bad_message, decision, decision_at, decision_by, files_of, first_long, message_word, Decision, IsAnswered, IsRefused, IsUnreadAt, WereRead}
use Rattle.siit_top.specs.Ends.{stopped_status, unread_status}
use Rattle.siit_top.specs.Promises.{Promise}
use Rattle.siit_top.specs.Runs.{run_between, IsStopped}
use Rattle.siit_top.specs.Words.{synthesis, Messages}
use Rattle.siit_top.specs.declared.commands.ends.Stopped.{Stopped}
use Rattle.siit_top.specs.declared.commands.ends.Stopped.TheVariants as stopped
use Rattle.siit_top.specs.declared.status.Status.TheVariants.{Ok as Done, BadMessage, NoMemory, ReadFault, TooLong, WriteFault}
use Rattle.siit_top.proofs.Dns64Reads.{none_long, some_rose, were_short}

-- only messages were read
unwritten : {before after : FilesMeaning} {reads : List (List ℕ)} → Touches before after reads [] → Stays before.contents after.contents
unwritten only = λ q. only.contents q tt

among_both : {before after : FilesMeaning} {reads : List (List ℕ)} (output : List ℕ) → Touches before after reads [] → Touches before after reads (output ∷ [])
among_both output only = touches_among only (λ q none. none) (λ q none. tt)

both : {before mid after : FilesMeaning} {reads : List (List ℕ)} {output : List ℕ} → Touches before mid reads [] → Touches mid after [] (output ∷ []) → Touches before after reads (output ∷ [])
both {before} {mid} {after} {reads} {output} only written = touches_then (among_both output only) (touches_among written (λ q none. tt) (λ q none. none))

not_read : {before after : FilesMeaning} {coming : ℕ → ℕ → ℕ} {prefix : Prefix6} {names : Messages} {output out : List ℕ} (word : ℕ) → Touches before after (files_of names) [] → IsUnreadAt before after names word unread.Failed → Promise (synthesis prefix names output) (run_between before after coming coming out out ReadFault)
not_read {output = output} word only cause = record {
  answer = record { failed = cause; unwritten = unwritten only };
  read_fault = λ is. some_rose cause;
  write_fault = λ is. cc;
  only = among_both output only;
  idents = λ device k. refl;
  silent = λ other. refl;
}

no_room : {before after : FilesMeaning} {coming : ℕ → ℕ → ℕ} {prefix : Prefix6} {names : Messages} {output out : List ℕ} → Touches before after (files_of names) [] → Promise (synthesis prefix names output) (run_between before after coming coming out out NoMemory)
no_room {output = output} only = record {
  answer = inl (unwritten only);
  read_fault = λ is. cc;
  write_fault = λ is. cc;
  only = among_both output only;
  idents = λ device k. refl;
  silent = λ other. refl;
}

too_long : {before after : FilesMeaning} {coming : ℕ → ℕ → ℕ} {prefix : Prefix6} {names : Messages} {output out : List ℕ} {word : ℕ} → Touches before after (files_of names) [] → IsUnreadAt before after names word unread.TooLong → Promise (synthesis prefix names output) (run_between before after coming coming out out (TooLong word))
too_long {output = output} only cause = record {
  answer = record { long = cause; unwritten = unwritten only };
  read_fault = λ is. cc;
  write_fault = λ is. cc;
  only = among_both output only;
  idents = λ device k. refl;
  silent = λ other. refl;
}

unread_by : (u : Unread) (before after : FilesMeaning) (coming : ℕ → ℕ → ℕ) (prefix : Prefix6) (names : Messages) (output out : List ℕ) (word : ℕ) → Touches before after (files_of names) [] → IsUnreadAt before after names word u → Promise (synthesis prefix names output) (run_between before after coming coming out out (unread_status word u))
unread_by unread.Failed before after coming prefix names output out word only cause = not_read word only cause
unread_by unread.NoMemory before after coming prefix names output out word only cause = no_room only
unread_by unread.TooLong before after coming prefix names output out word only cause = too_long only cause

-- A message wasn't read.
pub dns64_unread : (u : Unread) (word : ℕ) {before after : FilesMeaning} {coming : ℕ → ℕ → ℕ} {prefix : Prefix6} {names : Messages} {output out : List ℕ} → Touches before after (files_of names) [] → IsUnreadAt before after names word u → Promise (synthesis prefix names output) (run_between before after coming coming out out (unread_status word u))
dns64_unread u word {before} {after} {coming} {prefix} {names} {output} {out} only cause = unread_by u before after coming prefix names output out word only cause

-- within the limit, what is read decides
decides : {files : FilesMeaning} {names messages : Messages} (prefix : Prefix6) → WereRead files names messages → decision prefix messages ≡ decision_by (dns64 messages.query messages.aaaa messages.a (prefix ∷ []))
decides {files} {names} {messages} prefix read =
    ap (λ (long : Option ℕ). decision_at long (dns64 messages.query messages.aaaa messages.a (prefix ∷ []))) (none_long (were_short read))

-- a refusal for another cause than memory
refused_by : (which : ℕ) (f : DnsFault) (answer : Result dns.Answer Dns64Fault) → f ≢ fault.NoMemory → RefusedBy which f answer → answer ≡ Err (record { which = which; fault = f })
refused_by which fault.NoMemory answer other is = absurd (other refl)
refused_by which (fault.Bad place) answer other is = is
refused_by which fault.NotQuery answer other is = is
refused_by which fault.NotAnswer answer other is = is
refused_by which fault.AnswerTooLong answer other is = is

pub dns64_refused : (f : Dns64Fault) {before after : FilesMeaning} {coming : ℕ → ℕ → ℕ} {prefix : Prefix6} {names messages : Messages} {output out : List ℕ} → f.fault ≢ fault.NoMemory → Touches before after (files_of names) [] → WereRead before names messages → IsRefusal f (dns64 messages.query messages.aaaa messages.a (prefix ∷ [])) → Promise (synthesis prefix names output) (run_between before after coming coming out out (BadMessage (message_word f.which) f.fault))
dns64_refused f {before} {after} {coming} {prefix} {names} {messages} {output} {out} other only read refused =
    let refuses : decision prefix messages ≡ bad_message f = decides prefix read ∙ ap decision_by (refused_by f.which f.fault _ other refused) in
    record {
      answer = record {
        decided = record {
          messages = messages;
          read = read;
          says = subst (λ (d : Decision). IsRefused (message_word f.which) f.fault d) (sym refuses) (refl, refl);
        };
        unwritten = unwritten only;
      };
      read_fault = λ is. cc;
      write_fault = λ is. cc;
      only = among_both output only;
      idents = λ device k. refl;
      silent = λ same. refl;
    }

pub dns64_no_room : {before after : FilesMeaning} {coming : ℕ → ℕ → ℕ} {prefix : Prefix6} {names : Messages} {output out : List ℕ} → Touches before after (files_of names) [] → Promise (synthesis prefix names output) (run_between before after coming coming out out NoMemory)
dns64_no_room {before} {after} {coming} {prefix} {names} {output} {out} only = no_room only

pub dns64_answered : {before mid after : FilesMeaning} {coming : ℕ → ℕ → ℕ} {prefix : Prefix6} {names messages : Messages} {output out_before out_after : List ℕ} {answer : dns.Answer} → Touches before mid (files_of names) [] → WereRead before names messages → dns64 messages.query messages.aaaa messages.a (prefix ∷ []) ≡ Ok answer → Written mid after output answer.bytes → out_after ≡ out_before ++ answer_line answer.made → Promise (synthesis prefix names output) (run_between before after coming coming out_before out_after Done)
dns64_answered {before} {mid} {after} {coming} {prefix} {names} {messages} {output} {out_before} {out_after} {answer} only read gives written line =
    let answers_so : decision prefix messages ≡ answers answer = decides prefix read ∙ ap decision_by gives in
    record {
      answer = record {
        messages = messages;
        read = read;
        says = subst (λ (d : Decision). IsAnswered output (run_between before after coming coming out_before out_after Done) d) (sym answers_so) (written.file, line);
      };
      read_fault = λ is. cc;
      write_fault = λ is. cc;
      only = both only written.only;
      idents = λ device k. refl;
      silent = λ other. absurd (other refl);
    }

-- OUT holds a part, as seen from before the messages were read.
part_since : {before mid after : FilesMeaning} {reads : List (List ℕ)} {output text : List ℕ} → Touches before mid reads [] → WrittenPart mid after output text → HoldsPart before after output text
part_since {before} {mid} {after} {reads} {output} {text} only part = λ told.
    ⊎_elim (λ same. inl (same ∙ only.contents output tt)) inr (part.file told)

stopped_by : (t : Stopped) (before mid after : FilesMeaning) (coming : ℕ → ℕ → ℕ) (prefix : Prefix6) (names messages : Messages) (output out_before out_after : List ℕ) (answer : dns.Answer) → Touches before mid (files_of names) [] → WereRead before names messages → decision prefix messages ≡ answers answer → WrittenPart mid after output answer.bytes → IsStopped mid after output t → out_after ≡ out_before → Promise (synthesis prefix names output) (run_between before after coming coming out_before out_after (stopped_status t))
stopped_by stopped.Failed before mid after coming prefix names messages output out_before out_after answer only read gives part cause same = record {
  answer = record { messages = messages; answer = answer; read = read; decides = gives; part = part_since only part };
  read_fault = λ is. cc;
  write_fault = λ is. inl (omega (arith, cause, only.write_faults output));
  only = both only part.only;
  idents = λ device k. refl;
  silent = λ other. same;
}
stopped_by stopped.NoMemory before mid after coming prefix names messages output out_before out_after answer only read gives part cause same = record {
  answer = inr (record { messages = messages; answer = answer; read = read; decides = gives; part = part_since only part });
  read_fault = λ is. cc;
  write_fault = λ is. cc;
  only = both only part.only;
  idents = λ device k. refl;
  silent = λ other. same;
}

-- OUT wasn't written to its end.
pub dns64_stopped : (t : Stopped) {before mid after : FilesMeaning} {coming : ℕ → ℕ → ℕ} {prefix : Prefix6} {names messages : Messages} {output out_before out_after : List ℕ} {answer : dns.Answer} → Touches before mid (files_of names) [] → WereRead before names messages → dns64 messages.query messages.aaaa messages.a (prefix ∷ []) ≡ Ok answer → WrittenPart mid after output answer.bytes → IsStopped mid after output t → out_after ≡ out_before → Promise (synthesis prefix names output) (run_between before after coming coming out_before out_after (stopped_status t))
dns64_stopped t {before} {mid} {after} {coming} {prefix} {names} {messages} {output} {out_before} {out_after} {answer} only read gives part cause same =
    stopped_by t before mid after coming prefix names messages output out_before out_after answer only read (decides prefix read ∙ ap decision_by gives) part cause same
