-- The sections of the records that are still to come, one for each record.
use Rattle.std.specs.Prelude.{ℕ, List}
use Rattle.siit_dns.specs.Messages.{sections_of}
use Rattle.siit_dns.specs.declared.sections.Sections.{Sections}

abbrev pub sections_left : Sections → List ℕ
sections_left s = sections_of s.answers s.authorities s.additionals
