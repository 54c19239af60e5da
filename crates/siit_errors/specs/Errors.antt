-- The ICMP error that answers a packet which is dropped (RFC 792, RFC 4443 section 3).
use Rattle.std.specs.Prelude.{ℕ, ◌+◌, ◌%◌, List, [], ◌∷◌, ◌++◌, length, take, min, if◌then◌else◌, Option, Some, None}
use Rattle.siit_model.specs.Bytes.{bytes16, bytes32}
use Rattle.siit_model.specs.Checksum.{residue, checksum_of, pseudo6}
use Rattle.siit_model.specs.Ipv4.{Ipv4Packet, ipv4_fields, ipv4_bytes, total_length_in}
use Rattle.siit_model.specs.Ipv6.{Ipv6Packet, ipv6_fields, ipv6_bytes, payload_length_in}
use Rattle.siit_rules.specs.declared.rule.Answer.{Answer}
use Rattle.siit_rules.specs.declared.rule.Answer.TheVariants.{Icmp4, Icmp6}
use Rattle.siit_rules.specs.declared.rule.Rule.{Rule}
use Rattle.siit_rules.specs.Rows.{row_of}
use Rattle.siit_errors.specs.Answers.{may_answer4, may_answer6}

-- THE QUOTE

-- The packet as it arrived, without padding of the link, and no more of it than makes an IPv4 packet of 576 bytes (RFC
-- 1812 section 4.3.2.3) or an IPv6 packet of 1,280 bytes (RFC 4443 section 2.4).
abbrev pub quote4 : List ℕ → List ℕ
quote4 bytes = take (min (total_length_in bytes) 548) bytes

abbrev pub quote6 : List ℕ → List ℕ
quote6 bytes = take (min (40 + payload_length_in bytes) 1232) bytes

-- THE MESSAGE

-- type, code, checksum, bytes 4 to 7 as one number, and the quote
abbrev pub message : (kind code checksum rest : ℕ) → (quote : List ℕ) → List ℕ
message kind code checksum rest quote = kind ∷ code ∷ bytes16 checksum ++ bytes32 rest ++ quote

-- with its checksum, which counts a pseudo-header of this residue
abbrev pub right_message : (pseudo kind code rest : ℕ) → (quote : List ℕ) → List ℕ
right_message pseudo kind code rest quote =
    message kind code (checksum_of ((pseudo + residue (message kind code 0 rest quote)) % 65535)) rest quote

-- THE PACKET

-- an ICMP message on its way from a device
abbrev pub message_packet4 : (source destination : ℕ) → (message : List ℕ) → Ipv4Packet
message_packet4 source destination message = record {
  tos = 0;
  id = 0;
  df = 0;
  mf = 0;
  offset = 0;
  ttl = 64;
  protocol = 1;
  source = source;
  destination = destination;
  options = [];
  payload = message;
}

abbrev pub message_packet6 : (source destination : ℕ) → (message : List ℕ) → Ipv6Packet
message_packet6 source destination message = record {
  class = 0;
  flow = 0;
  hop = 64;
  source = source;
  destination = destination;
  next = 58;
  body = message;
}

-- The error goes from an address of the device to the packet's source. ICMPv4 has no pseudo-header.
abbrev pub error_packet4 : (source kind code rest : ℕ) → List ℕ → Ipv4Packet
error_packet4 source kind code rest bytes =
    message_packet4 source (ipv4_fields bytes).source (right_message 0 kind code rest (quote4 bytes))

abbrev pub error_packet6 : (source kind code rest : ℕ) → List ℕ → Ipv6Packet
error_packet6 source kind code rest bytes =
    let destination = (ipv6_fields bytes).source in
    let quote = quote6 bytes in
    message_packet6 source destination (right_message (pseudo6 source destination 58 (8 + length quote)) kind code rest quote)

-- its bytes
abbrev pub error4 : (source kind code rest : ℕ) → List ℕ → List ℕ
error4 source kind code rest bytes = ipv4_bytes (error_packet4 source kind code rest bytes)

abbrev pub error6 : (source kind code rest : ℕ) → List ℕ → List ℕ
error6 source kind code rest bytes = ipv6_bytes (error_packet6 source kind code rest bytes)

-- THE ANSWER

-- What a device of this address sends for a packet that it drops by a rule: nothing where the rule is silent or the
-- packet may not be answered. Bytes 4 to 7 of the message hold the MTU (RFC 1191 section 4, RFC 4443 section 3.2) or
-- the pointer (RFC 4443 section 3.4) that is told, and else 0.
abbrev pub answer4 : Answer → (address4 rest : ℕ) → List ℕ → Option (List ℕ)
answer4 (Icmp4 kind code) address4 rest bytes = if may_answer4 bytes then Some (error4 address4 kind code rest bytes) else None
answer4 answer address4 rest bytes = None

abbrev pub answer6 : Answer → (address6 rest : ℕ) → List ℕ → Option (List ℕ)
answer6 (Icmp6 kind code) address6 rest bytes = if may_answer6 bytes then Some (error6 address6 kind code rest bytes) else None
answer6 answer address6 rest bytes = None

abbrev pub error_for4 : Rule → (address4 rest : ℕ) → List ℕ → Option (List ℕ)
error_for4 rule address4 rest bytes = answer4 (row_of rule).answer address4 rest bytes

abbrev pub error_for6 : Rule → (address6 rest : ℕ) → List ℕ → Option (List ℕ)
error_for6 rule address6 rest bytes = answer6 (row_of rule).answer address6 rest bytes
