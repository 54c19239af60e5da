use Rattle.std.proofs.Common.{◌≡◌, ◌≤◌, length}
use Rattle.siit_dns.specs.Messages.{records_from}
use Rattle.siit_dns.specs.Reading.{end_of}
use Rattle.siit_dns.specs.Sections.{sections_left}
use Rattle.siit_dns.proofs.records.records_end.Given as goal

-- the records that are left end where all end
abbrev pub invariant-records : goal.invariant-records
invariant-records l =
    (l.place ≤ length l.bytes)
    × (end_of (records_from (sections_left l.sections) l.bytes l.place) ≡ end_of (records_from (sections_left l.fn.sections) l.bytes l.first))

abbrev pub decreases-records : goal.decreases-records
decreases-records l = length (sections_left l.sections)
