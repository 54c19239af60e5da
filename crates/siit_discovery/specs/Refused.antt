-- How an answer is refused.
use Rattle.std.specs.Prelude.{◌≡◌, ℕ, List, Result, Err}
use Rattle.siit_dns.specs.declared.fault.DnsFault.{DnsFault}
use Rattle.siit_dns.specs.declared.fault.DnsFault.TheVariants.{Bad, NotQuery, NotAnswer, AnswerTooLong, NoMemory}

-- The answer is refused so. Want of memory may come whatever the answer is.
abbrev pub IsDiscoveryFault : DnsFault → Result (List (ℕ × ℕ)) DnsFault → Type 0
IsDiscoveryFault NoMemory found = Unit {0}
IsDiscoveryFault (Bad place) found = found ≡ Err (Bad place)
IsDiscoveryFault NotAnswer found = found ≡ Err NotAnswer
IsDiscoveryFault NotQuery found = ⊥
IsDiscoveryFault AnswerTooLong found = ⊥
