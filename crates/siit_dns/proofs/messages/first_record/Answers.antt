use Rattle.std.proofs.Common.{◌≡◌, ◌∙◌, ◌≤◌, Ok, Err, length, ap, arith, sym}
use Rattle.std.specs.Result.{result_err}
use Rattle.std.proofs.lemmas.Result.{err_from_is_err_and}
use Rattle.siit_model.specs.Bytes.{field16}
use Rattle.siit_dns.specs.Seen.{question_seen}
use Rattle.siit_dns.specs.Sections.{sections_left}
use Rattle.siit_dns.proofs.Items.{header-fault, count-fault, first-fault, records-fault, behind-fault, is-message, no-refusal, ends-so}
use Rattle.siit_dns.proofs.messages.first_record.Goals as goal

pub returns-then-bytes-lt-HEADER-clause-refused : goal.returns-then-bytes-lt-HEADER-clause-refused
returns-then-bytes-lt-HEADER-clause-refused c = sym (ap result_err (header-fault c.args.bytes.now c.if-bytes-lt-HEADER.true))

pub returns-then-get16-ne1-clause-refused : goal.returns-then-get16-ne1-clause-refused
returns-then-get16-ne1-clause-refused c =
    sym (ap result_err (count-fault c.args.bytes.now (omega arith) (λ one. c.if-get16-ne1.true (c.get16.ensures ∙ one))))

pub returns-in_err-first-clause-refused : goal.returns-in_err-first-clause-refused
returns-in_err-first-clause-refused c =
    let long : 12 ≤ length c.args.bytes.now = omega arith in
    let one : field16 c.args.bytes.now 4 ≡ 1 = omega (arith, c.get16.ensures) in
    let p = err_from_is_err_and c.from_residual.result c.from_residual.ensures.1 in
    rw (p.1, p.2) (sym (ap result_err (first-fault c.args.bytes.now c.in_err-first.field-0.0 long one c.in_err-first.ensures.value)))

pub returns-in_err-end-clause-refused : goal.returns-in_err-end-clause-refused
returns-in_err-end-clause-refused c =
    let long : 12 ≤ length c.args.bytes.now = omega arith in
    let one : field16 c.args.bytes.now 4 ≡ 1 = omega (arith, c.get16.ensures) in
    let ends = ends-so (sections_left c.sections_in.result) c.args.bytes.now c.in_ok-first.first (Err c.in_err-end.field-0.0) c.sections_in.ensures c.in_err-end.ensures.end in
    let p = err_from_is_err_and c.from_residual-in_err-end.result c.from_residual-in_err-end.ensures.1 in
    rw (p.1, p.2) (sym (ap result_err (records-fault c.args.bytes.now (question_seen c.in_ok-first.field-0-0) c.in_ok-first.first c.in_err-end.field-0.0 long one c.in_ok-first.ensures.value ends)))

pub returns-then-end-bytes-clause-refused : goal.returns-then-end-bytes-clause-refused
returns-then-end-bytes-clause-refused c =
    let long : 12 ≤ length c.args.bytes.now = omega arith in
    let one : field16 c.args.bytes.now 4 ≡ 1 = omega (arith, c.get16.ensures) in
    let ends = ends-so (sections_left c.sections_in.result) c.args.bytes.now c.in_ok-first.first (Ok c.in_ok-end.end) c.sections_in.ensures c.in_ok-end.ensures.end in
    sym (ap result_err (behind-fault c.args.bytes.now (question_seen c.in_ok-first.field-0-0) c.in_ok-first.first c.in_ok-end.end long one c.in_ok-first.ensures.value ends c.if-end-bytes.true))

pub returns-clause-ok : goal.returns-clause-ok
returns-clause-ok c =
    let long : 12 ≤ length c.args.bytes.now = omega arith in
    let one : field16 c.args.bytes.now 4 ≡ 1 = omega (arith, c.get16.ensures) in
    let ends = ends-so (sections_left c.sections_in.result) c.args.bytes.now c.in_ok-first.first (Ok c.in_ok-end.end) c.sections_in.ensures c.in_ok-end.ensures.end in
    is-message c.args.bytes.now (question_seen c.in_ok-first.field-0-0) c.in_ok-first.first c.in_ok-end.end long one c.in_ok-first.ensures.value ends c.if-end-bytes.false c.in_ok-first.ensures.within

pub returns-clause-refused : goal.returns-clause-refused
returns-clause-refused c =
    let long : 12 ≤ length c.args.bytes.now = omega arith in
    let one : field16 c.args.bytes.now 4 ≡ 1 = omega (arith, c.get16.ensures) in
    let ends = ends-so (sections_left c.sections_in.result) c.args.bytes.now c.in_ok-first.first (Ok c.in_ok-end.end) c.sections_in.ensures c.in_ok-end.ensures.end in
    no-refusal c.args.bytes.now (question_seen c.in_ok-first.field-0-0) c.in_ok-first.first c.in_ok-end.end long one c.in_ok-first.ensures.value ends c.if-end-bytes.false
