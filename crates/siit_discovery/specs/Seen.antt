-- The program's candidates and prefixes as those of the definitions.
use Rattle.std.specs.Prelude.{ℕ}
use Rattle.siit_addr.specs.declared.addr.Prefix6.{Prefix6}
use Rattle.siit_addr.specs.declared.addr.Addr6.{Addr6}
use Rattle.siit_discovery.specs.Discovery.{Candidate}
use Rattle.siit_discovery.specs.declared.candidate.Candidate as code

abbrev pub candidate_seen : code.Candidate → Candidate
candidate_seen c = record { len = c.prefix.len; prefix = c.prefix.addr.0; address = c.address.0 }

-- a prefix by its address and its length
abbrev pub prefix_seen : Prefix6 → ℕ × ℕ
prefix_seen p = (p.addr.0, p.len)

abbrev pub address_seen : Addr6 → ℕ
address_seen a = a.0
