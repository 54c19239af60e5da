use Rattle.std.proofs.Common.{◌≡◌, ◌∙◌, ℕ, List, Option, Some, None, option_map, Result, Ok, Err, Bor, ap, sym, subst}
use Rattle.std.proofs.lemmas.Result.{err_from_is_err_and}
use Rattle.siit_dns.specs.Messages.{Question}
use Rattle.siit_dns64.specs.declared.fault.Dns64Fault.{Dns64Fault}
use Rattle.siit_dns64.specs.Answers.{Answer}
use Rattle.siit_dns64.specs.Dns64.{Gives, dns64}
use Rattle.siit_dns64.proofs.Turns.{refused, by-query, by-six, by-four, with_six}
use Rattle.siit_dns64.proofs.synthesis.judge.Goals as goal

pub returns-in_err-asked : goal.returns-in_err-asked
returns-in_err-asked c =
    let p = err_from_is_err_and c.from_residual.result c.from_residual.ensures.1 in
    rw (p.1, p.2) (refused c.in_err-asked.field-0.0 (dns64 c.args.query.now c.args.aaaa.now (option_map (λ bytes. bytes.now) c.args.a) c.args.prefixes.now) (
    by-query c.args.query.now c.args.aaaa.now (option_map (λ bytes. bytes.now) c.args.a) c.args.prefixes.now (Err c.in_err-asked.field-0.0) c.in_err-asked.ensures))

pub returns-in_err-six : goal.returns-in_err-six
returns-in_err-six c =
    let p = err_from_is_err_and c.from_residual-in_err-six.result c.from_residual-in_err-six.ensures.1 in
    rw (p.1, p.2) (refused c.in_err-six.field-0.0 (dns64 c.args.query.now c.args.aaaa.now (option_map (λ bytes. bytes.now) c.args.a) c.args.prefixes.now) (
    by-query c.args.query.now c.args.aaaa.now (option_map (λ bytes. bytes.now) c.args.a) c.args.prefixes.now (Ok c.in_ok-asked.asked) c.in_ok-asked.ensures
    ∙ by-six c.in_ok-asked.asked c.question-question.result.name.items c.args.aaaa.now (option_map (λ bytes. bytes.now) c.args.a) c.args.prefixes.now (Err c.in_err-six.field-0.0) (ap (λ (q : Question). q.name) c.question-question.ensures) c.in_err-six.ensures))

pub returns-in_default : goal.returns-in_default
returns-in_default c =
    let none : option_map (λ (bytes : Bor (List ℕ)). bytes.now) c.args.a ≡ None = ap (option_map (λ (bytes : Bor (List ℕ)). bytes.now)) c.in_default.is in
    subst (λ (answer : Result Answer Dns64Fault). Gives c.pass_on.result answer)
    (sym (
    by-query c.args.query.now c.args.aaaa.now (option_map (λ bytes. bytes.now) c.args.a) c.args.prefixes.now (Ok c.in_ok-asked.asked) c.in_ok-asked.ensures
    ∙ by-six c.in_ok-asked.asked c.question-question.result.name.items c.args.aaaa.now (option_map (λ bytes. bytes.now) c.args.a) c.args.prefixes.now (Ok c.in_ok-six.six) (ap (λ (q : Question). q.name) c.question-question.ensures) c.in_ok-six.ensures
    ∙ ap (λ (a : Option (List ℕ)). with_six c.in_ok-asked.asked c.args.aaaa.now a c.args.prefixes.now c.in_ok-six.six) none))
    c.pass_on.ensures

pub returns-in_err-four : goal.returns-in_err-four
returns-in_err-four c =
    let some : option_map (λ (bytes : Bor (List ℕ)). bytes.now) c.args.a ≡ Some c.in-Some.bytes.now = ap (option_map (λ (bytes : Bor (List ℕ)). bytes.now)) c.in-Some.is in
    let p = err_from_is_err_and c.from_residual-in_err-four.result c.from_residual-in_err-four.ensures.1 in
    rw (p.1, p.2) (refused c.in_err-four.field-0.0 (dns64 c.args.query.now c.args.aaaa.now (option_map (λ bytes. bytes.now) c.args.a) c.args.prefixes.now) (
    by-query c.args.query.now c.args.aaaa.now (option_map (λ bytes. bytes.now) c.args.a) c.args.prefixes.now (Ok c.in_ok-asked.asked) c.in_ok-asked.ensures
    ∙ by-six c.in_ok-asked.asked c.question-question.result.name.items c.args.aaaa.now (option_map (λ bytes. bytes.now) c.args.a) c.args.prefixes.now (Ok c.in_ok-six.six) (ap (λ (q : Question). q.name) c.question-question.ensures) c.in_ok-six.ensures
    ∙ ap (λ (a : Option (List ℕ)). with_six c.in_ok-asked.asked c.args.aaaa.now a c.args.prefixes.now c.in_ok-six.six) some
    ∙ by-four c.in_ok-asked.asked c.question-question.result.name.items c.args.aaaa.now c.in-Some.bytes.now c.in_ok-six.six c.args.prefixes.now (Err c.in_err-four.field-0.0) (ap (λ (q : Question). q.name) c.question-question.ensures) c.in_err-four.ensures))

pub returns : goal.returns
returns c =
    let some : option_map (λ (bytes : Bor (List ℕ)). bytes.now) c.args.a ≡ Some c.in-Some.bytes.now = ap (option_map (λ (bytes : Bor (List ℕ)). bytes.now)) c.in-Some.is in
    subst (λ (answer : Result Answer Dns64Fault). Gives c.answer.result answer)
    (sym (
    by-query c.args.query.now c.args.aaaa.now (option_map (λ bytes. bytes.now) c.args.a) c.args.prefixes.now (Ok c.in_ok-asked.asked) c.in_ok-asked.ensures
    ∙ by-six c.in_ok-asked.asked c.question-question.result.name.items c.args.aaaa.now (option_map (λ bytes. bytes.now) c.args.a) c.args.prefixes.now (Ok c.in_ok-six.six) (ap (λ (q : Question). q.name) c.question-question.ensures) c.in_ok-six.ensures
    ∙ ap (λ (a : Option (List ℕ)). with_six c.in_ok-asked.asked c.args.aaaa.now a c.args.prefixes.now c.in_ok-six.six) some
    ∙ by-four c.in_ok-asked.asked c.question-question.result.name.items c.args.aaaa.now c.in-Some.bytes.now c.in_ok-six.six c.args.prefixes.now (Ok c.in_ok-four.four) (ap (λ (q : Question). q.name) c.question-question.ensures) c.in_ok-four.ensures))
    c.answer.ensures
