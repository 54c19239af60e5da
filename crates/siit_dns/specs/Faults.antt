-- How a fault of a message is told.
use Rattle.std.specs.Prelude.{ℕ, Option, Some, None, Result, Ok, Err}
use Rattle.siit_dns.specs.Messages.{DnsMessage}
use Rattle.siit_dns.specs.declared.fault.DnsFault.{DnsFault}
use Rattle.siit_dns.specs.declared.fault.DnsFault.TheVariants.{Bad}

-- the fault of bytes that are no message
abbrev pub message_fault : Result DnsMessage ℕ → Option DnsFault
message_fault (Ok message) = None
message_fault (Err place) = Some (Bad place)
