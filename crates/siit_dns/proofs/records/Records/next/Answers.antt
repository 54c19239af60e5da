use Rattle.std.proofs.Common.{◌∙◌, sym, refl}
use Rattle.siit_dns.specs.Seen.{record_seen}
use Rattle.siit_dns.specs.Sections.{sections_left}
use Rattle.siit_dns.proofs.Items.{none-left, rest-whole, rest-value, rest-fault}
use Rattle.siit_dns.proofs.records.Records.next.Goals as goal

pub returns-in_err-section-clause-none : goal.returns-in_err-section-clause-none
returns-in_err-section-clause-none c none =
    sym c.self.view_is
    ∙ none-left (sections_left c.next.new.self) (sections_left c.self.inside.sections) c.self.inside.bytes.now c.self.inside.place (c.in_err-section.ensures.none refl)

pub invariant_of-self-in-Ok : goal.invariant_of-self-in-Ok
invariant_of-self-in-Ok c =
    rest-whole c.in_ok-section.section (sections_left c.next.new.self) (sections_left c.self.inside.sections) c.self.inside.bytes.now c.self.inside.place c.in-Ok.end (record_seen c.in-Ok.record)
    c.in_ok-section.ensures.next c.in-Ok.ensures.value c.in-Ok.ensures.within c.self.invariant

pub unreachable-requires : goal.unreachable-requires
unreachable-requires c =
    rest-fault c.in_ok-section.section (sections_left c.next.new.self) (sections_left c.self.inside.sections) c.self.inside.bytes.now c.self.inside.place c.in-Err.field-0
    c.in_ok-section.ensures.next c.in-Err.ensures.value c.self.invariant

pub returns-clause-next : goal.returns-clause-next
returns-clause-next c =
    sym c.self.view_is
    ∙ rest-value c.in_ok-section.section (sections_left c.next.new.self) (sections_left c.self.inside.sections) c.self.inside.bytes.now c.self.inside.place c.in-Ok.end (record_seen c.in-Ok.record)
    c.in_ok-section.ensures.next c.in-Ok.ensures.value c.in-Ok.ensures.within c.self.invariant
