-- A packet that an ICMP error quotes: its header, and as much behind it as the sender of the error gave (RFC 792, RFC
-- 4443 section 3).
use Rattle.std.specs.Prelude.{◌≡◌, ℕ, ◌+◌, ◌-◌, ◌%◌, ◌≤◌, List, length}
use Rattle.siit_model.specs.Extensions.{Walked}
use Rattle.siit_model.specs.Fragments.{Fragment, fragment4, fragment_by}
use Rattle.siit_model.specs.Ipv4.{Ipv4Packet, version_in, header_length_in, total_length_in, ipv4_fields}
use Rattle.siit_model.specs.Ipv6.{Ipv6Packet, version6_in, payload_length_in, ipv6_fields}

-- A quoted IPv4 packet with the bytes that are there, and the length of its payload as it was sent.
pub record QuotedIpv4 : Type 0 where
  pub packet : Ipv4Packet
  pub sent : ℕ

-- The same of IPv6, with the walk over the extension headers that are there; the length is that of the upper part.
pub record QuotedIpv6 : Type 0 where
  pub packet : Ipv6Packet
  pub walked : Walked
  pub sent : ℕ

-- the quoted packet in the part of a body that holds it; bytes past its own length aren't in it
abbrev pub quoted4_fields : List ℕ → QuotedIpv4
quoted4_fields part = record { packet = ipv4_fields part; sent = total_length_in part - header_length_in part }

abbrev pub quoted6_fields : Walked → List ℕ → QuotedIpv6
quoted6_fields walked part = record { packet = ipv6_fields part; walked = walked; sent = payload_length_in part - walked.at }

-- the quoted packet as a fragment
abbrev pub quoted_fragment4 : QuotedIpv4 → Fragment
quoted_fragment4 quoted = fragment4 quoted.packet

abbrev pub quoted_fragment6 : QuotedIpv6 → Fragment
quoted_fragment6 quoted = fragment_by quoted.packet quoted.walked

-- what an accepted quote tells of its lengths
pub record HasQuote4 (part : List ℕ) : Type 0 where
  pub version : version_in part ≡ 4
  pub least : 20 ≤ header_length_in part
  pub inside : header_length_in part ≤ length part
  pub ordered : header_length_in part ≤ total_length_in part

-- the same of IPv6, for the walk over its extension headers
pub record HasQuote6 (walked : Walked) (part : List ℕ) : Type 0 where
  pub version : version6_in part ≡ 6
  pub header : 40 + walked.at ≤ length part
  pub units : walked.at % 8 ≡ 0
  pub ordered : walked.at ≤ payload_length_in part
  pub fits : 20 + (payload_length_in part - walked.at) ≤ 65535
