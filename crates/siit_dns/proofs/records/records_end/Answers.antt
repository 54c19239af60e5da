use Rattle.std.proofs.Common.{◌∙◌, sym, refl}
use Rattle.siit_dns.specs.Seen.{record_seen}
use Rattle.siit_dns.specs.Sections.{sections_left}
use Rattle.siit_dns.proofs.Items.{end-more, end-fault, end-none}
use Rattle.siit_dns.proofs.records.records_end.Goals as goal

pub records-preserved : goal.records-preserved
records-preserved c = (
  c.in-Ok.ensures.within,
  sym (end-more c.in-Some.section (sections_left c.next.new.self) (sections_left c.records.sections) c.args.bytes.now c.records.place c.in-Ok.end (record_seen c.in-Ok.field-0-0)
      c.in-Some.ensures.next c.in-Ok.ensures.value)
      ∙ c.records.invariant.1,
)

pub returns-in-Err-clause-end : goal.returns-in-Err-clause-end
returns-in-Err-clause-end c =
    sym (end-fault c.in-Some.section (sections_left c.next.new.self) (sections_left c.records.sections) c.args.bytes.now c.records.place c.in-Err.fault c.in-Some.ensures.next c.in-Err.ensures.value)
    ∙ c.records.invariant.1

pub returns-clause-end : goal.returns-clause-end
returns-clause-end c = sym (end-none (sections_left c.records.sections) c.args.bytes.now c.records.place (c.in_default.ensures.none refl)) ∙ c.records.invariant.1
