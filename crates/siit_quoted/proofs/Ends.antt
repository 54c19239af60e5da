-- The addresses of a quoted packet on both sides, and its upper part.
use Rattle.std.proofs.Common.{ℕ, List, drop}
use Rattle.siit_model.specs.Ipv4.{Ipv4Packet}
use Rattle.siit_model.specs.Ipv6.{Ipv6Packet}
use Rattle.siit_model.specs.Upper.{Ends}
use Rattle.siit_quoted.specs.Quoted.{QuotedIpv6}

abbrev pub ends_of : (source6 destination6 : ℕ) → Ipv4Packet → Ends
ends_of source6 destination6 packet = record {
  source4 = packet.source;
  destination4 = packet.destination;
  source6 = source6;
  destination6 = destination6;
}

abbrev pub ends_of6 : (source4 destination4 : ℕ) → Ipv6Packet → Ends
ends_of6 source4 destination4 packet = record {
  source4 = source4;
  destination4 = destination4;
  source6 = packet.source;
  destination6 = packet.destination;
}

-- the upper part as far as it is there
abbrev pub upper_of : QuotedIpv6 → List ℕ
upper_of quoted = drop quoted.walked.at quoted.packet.body
