use Rattle.std.proofs.Common.{◌∙◌, ℕ, List, Bool, if◌then◌else◌, Result, Ok, Err, ap, sym}
use Rattle.siit_dns.specs.declared.fault.DnsFault.{DnsFault}
use Rattle.siit_dns.specs.declared.fault.DnsFault.TheVariants.{NotAnswer}
use Rattle.siit_discovery.specs.Discovery.{addresses_of, prefixes_of}
use Rattle.siit_discovery.proofs.Steps.{found-is, read-refused}
use Rattle.siit_discovery.proofs.found.prefixes.Goals as goal

-- the prefixes where it is an answer
abbrev by_test : List (ℕ × ℕ) → Bool → Result (List (ℕ × ℕ)) DnsFault
by_test shown test = if test then Ok shown else Err NotAnswer

abbrev shown : List (ℕ × ℕ) → Result (List (ℕ × ℕ)) DnsFault
shown found = Ok found

pub returns-in-Err-clause-refused : goal.returns-in-Err-clause-refused
returns-in-Err-clause-refused c = read-refused c.args.answer.now c.in-Err.fault c.in-Err.ensures.refused

pub returns-then-is_answer-clause-found : goal.returns-then-is_answer-clause-found
returns-then-is_answer-clause-found c =
    found-is c.args.answer.now c.in-Ok.message c.in-Ok.ensures.message
    ∙ ap (by_test (prefixes_of (addresses_of c.in-Ok.message.records))) (sym c.is_answer.ensures ∙ c.if-is_answer.true)
    ∙ ap shown (sym c.in_ok-found.ensures)

pub returns-clause-refused : goal.returns-clause-refused
returns-clause-refused c =
    found-is c.args.answer.now c.in-Ok.message c.in-Ok.ensures.message
    ∙ ap (by_test (prefixes_of (addresses_of c.in-Ok.message.records))) (sym c.is_answer.ensures ∙ c.if-is_answer.false)
