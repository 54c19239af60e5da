-- What comes of packets at a border, at an edge and at a device that turns packets back, as worked by hand.
use Rattle.std.specs.Prelude.{◌≡◌, ℕ, ◌+◌, ◌*◌, ◌^◌, List, [], ◌∷◌, ◌++◌, length, drop, map, replicate, true, false, Option, Some, None}
use Rattle.std.specs.List.{flat_map}
use Rattle.std.proofs.Common.{lit≤}
use Rattle.siit_model.specs.Bytes.{bytes32, bytes16, field16, with_field16, part}
use Rattle.siit_model.specs.Checksum.{checksum_of, residue}
use Rattle.siit_addr.specs.Addresses.{dotted}
use Rattle.siit_addr.specs.declared.addr.Prefix6.{Prefix6}
use Rattle.siit_eamt.specs.declared.entry.Eam.{Eam as Entry}
use Rattle.siit_map.specs.Mapping.{Mapping, table}
use Rattle.siit_roles.specs.declared.role.Role.{Role}
use Rattle.siit_roles.specs.declared.role.Role.TheVariants.{Border, Edge}
use Rattle.siit_roles.specs.declared.settings.Settings.{Settings}
use Rattle.siit_rules.specs.declared.rule.Family.TheVariants.{Four, Six}
use Rattle.siit_rules.specs.declared.rule.Rule.{Rule}
use Rattle.siit_rules.specs.declared.rule.Rule.TheVariants.{UdpZeroFragment4, UdpZero4, FragmentShape4, NestedTwice4, IcmpPointer4, SourceRoute4, ProtocolClash4, SourceMap4}
use Rattle.siit_chain.specs.Outcome.{Outcome, dropped, through, pieces}
use Rattle.siit_device.specs.Outcome.{outcome_of}

-- SETTINGS

-- an entry of one IPv4 and one IPv6 address
abbrev pub single : (a x : ℕ) → Entry
single a x = record {
  p4 = record { addr = record { 0 = a }; len = 32; in_range = lit≤ tt };
  p6 = record { addr = record { 0 = x }; len = 128; in_range = lit≤ tt };
}

abbrev pub prefix96 : ℕ → Prefix6
prefix96 x = record { addr = record { 0 = x }; len = 96; in_range = lit≤ tt }

-- the address of 192.0.2.1, and that of an IPv4 address under the well-known prefix
abbrev server6 : ℕ
server6 = 0x20010db864640000 * 2 ^ 64 + 1

abbrev well_known_of : ℕ → ℕ
well_known_of a = 0x64ff9b * 2 ^ 96 + a

abbrev pub device : Role → Mapping → (address4 address6 : ℕ) → Settings
device role mapping address4 address6 = record {
  role = role;
  mapping = mapping;
  address4 = record { 0 = address4 };
  address6 = record { 0 = address6 };
  pool4 = record { 0 = address4 } ∷ [];
  mtu4 = 1500;
  mtu6 = 1500;
  lowest = 1280;
  tos_zero = false;
  udp_compute = false;
  hairpin = true;
}

abbrev one_entry : Mapping
one_entry = table (single (dotted 192 0 2 1) server6 ∷ []) (prefix96 (well_known_of 0))

abbrev border : Settings
border = device Border one_entry (dotted 192 0 2 254) (0x20010db8ffff0000 * 2 ^ 64 + 1)

abbrev edge : Settings
edge = record (device Edge one_entry (dotted 192 0 2 253) (0x20010db8ffff0000 * 2 ^ 64 + 2)) { hairpin = false }

-- PACKETS, BY THEIR WORDS OF 32 BITS

abbrev pub words : List ℕ → List ℕ
words numbers = flat_map bytes32 numbers

-- a TCP segment with this checksum
abbrev segment : ℕ → List ℕ
segment checksum = words (0xc0000050 ∷ 0x00000001 ∷ 0x00000000 ∷ 0x50022000 ∷ checksum * 65536 ∷ [])

-- from 8.8.8.8 to 192.0.2.1 with DF, as it arrives at a border and as it leaves the edge behind
abbrev arriving : ℕ → List ℕ
arriving checksum = words (0x45000028 ∷ 0x00014000 ∷ 0x400668be ∷ 0x08080808 ∷ 0xc0000201 ∷ []) ++ segment checksum

abbrev between : ℕ → List ℕ
between checksum =
    words (0x60000000 ∷ 0x0014063f ∷ 0x0064ff9b ∷ 0 ∷ 0 ∷ 0x08080808 ∷ 0x20010db8 ∷ 0x64640000 ∷ 0 ∷ 1 ∷ [])
    ++ segment checksum

abbrev leaving : ℕ → List ℕ
leaving checksum = words (0x45000028 ∷ 0x00010000 ∷ 0x3e06aabe ∷ 0x08080808 ∷ 0xc0000201 ∷ []) ++ segment checksum

pub record TcpExamples : Type 0 where
  pub right : outcome_of border Four (arriving 0xfd7f) 0 ≡ through false (between 0x2d63)
  pub on : outcome_of edge Six (between 0x2d63) 1 ≡ through true (leaving 0xfd7f)
  -- a wrong checksum stays wrong by as much
  pub wrong : outcome_of border Four (arriving 0x1234) 0 ≡ through false (between 0x4217)
  pub wrong_on : outcome_of edge Six (between 0x4217) 1 ≡ through true (leaving 0x1234)

-- an IPv4 header with a right checksum, from 8.8.8.8 to 192.0.2.1
abbrev header4 : (total flags protocol : ℕ) → List ℕ
header4 total flags protocol =
    let blank = bytes16 0x4500 ++ bytes16 total ++ bytes16 0 ++ bytes16 flags ++ 64 ∷ protocol ∷ 0 ∷ 0 ∷ words (0x08080808 ∷ 0xc0000201 ∷ []) in
    with_field16 blank 10 (checksum_of (residue blank))

-- a UDP datagram without checksum, and more bytes behind it
abbrev bare : List ℕ → List ℕ
bare more = words (0x10000035 ∷ 0x000c0000 ∷ 0x61626364 ∷ []) ++ more

abbrev computing : Settings
computing = record border { udp_compute = true }

-- the checksum of the packet that is sent on
abbrev sent_field : Outcome → ℕ → ℕ
sent_field (through used packet) place = field16 packet place
sent_field _ place = 0

pub record BareUdpExamples : Type 0 where
  pub drop : outcome_of border Four (header4 32 0 17 ++ bare []) 0 ≡ dropped UdpZero4 None
  pub compute : sent_field (outcome_of computing Four (header4 32 0 17 ++ bare []) 0) 46 ≡ 0x88ac
  -- with More set: of 16 bytes, and of 12, which no fragment has that isn't the last
  pub first : outcome_of computing Four (header4 36 0x2000 17 ++ bare (replicate 4 0)) 0 ≡ dropped UdpZeroFragment4 None
  pub shape : outcome_of computing Four (header4 32 0x2000 17 ++ bare []) 0 ≡ dropped FragmentShape4 None

-- how many bytes each piece has
abbrev sizes : Outcome → List ℕ
sizes (through used packet) = length packet ∷ []
sizes (pieces used packets) = map length packets
sizes _ = []

-- the answer to a packet that is dropped
abbrev answered : Outcome → List ℕ
answered (dropped rule (Some answer)) = answer
answered _ = []

abbrev too_long : List ℕ
too_long = answered (outcome_of border Four (header4 1500 0x4000 6 ++ replicate 1480 0) 0)

pub record SizeExamples : Type 0 where
  -- UDP of 1,480 bytes without DF is cut in two
  pub cut : sizes (outcome_of border Four (header4 1500 0 17 ++ words (0x10000035 ∷ 0x05c81234 ∷ []) ++ replicate 1472 0) 0) ≡ 1280 ∷ 296 ∷ []
  -- TCP of as many with DF is too long for the IPv6 side: the answer tells 1,480 and quotes 548 bytes
  pub too_big : part too_long 0 4 ++ part too_long 12 10 ++ part too_long 24 4
      ≡ words (0x45000240 ∷ dotted 192 0 2 254 ∷ dotted 8 8 8 8 ∷ []) ++ 3 ∷ 4 ∷ words (1480 ∷ [])

-- ICMP ERRORS

-- port unreachable, which quotes UDP cut behind its header
abbrev unreachable4 : List ℕ
unreachable4 =
    words (0x0303dba2 ∷ 0 ∷ 0x45000028 ∷ 0x00004000 ∷ 0x3f1169b4 ∷ 0xc0000201 ∷ 0x08080808 ∷ 0x00351000 ∷ 0x00141111 ∷ [])

abbrev unreachable6 : List ℕ
unreachable6 =
    words (0x0104f79b ∷ 0 ∷ 0x60000000 ∷ 0x0014113f ∷ 0x20010db8 ∷ 0x64640000 ∷ 0 ∷ 1 ∷ 0x0064ff9b ∷ 0 ∷ 0 ∷ 0x08080808 ∷ 0x00351000 ∷ 0x001440f4 ∷ [])

abbrev sent_upper : (place : ℕ) → Outcome → List ℕ
sent_upper place (through used packet) = drop place packet
sent_upper place _ = []

-- a time exceeded with the length octet 32: a quote of 40 bytes, zeros to 128, and an extension of 12
abbrev extended4 : List ℕ
extended4 =
    let blank = words (0x0b000000 ∷ 0x00200000 ∷ []) ++ arriving 0xfd7f ++ replicate 88 0 ++ words (0x2000ddf4 ∷ 0x00080101 ∷ 0x00010101 ∷ []) in
    with_field16 blank 2 (checksum_of (residue blank))

-- an ICMP message with a right checksum
abbrev message4 : List ℕ → List ℕ
message4 blank = with_field16 blank 2 (checksum_of (residue blank))

-- a host unreachable that is quoted itself
abbrev nested4 : List ℕ
nested4 = message4 (words (0x03030000 ∷ 0 ∷ []) ++ header4 28 0 1 ++ words (0x03010000 ∷ 0 ∷ []))

pub record ErrorExamples : Type 0 where
  pub unreachable : sent_upper 40 (outcome_of border Four (header4 56 0 1 ++ unreachable4) 0) ≡ unreachable6
  -- 16 units of 8 bytes stand before the extension
  pub extended : field16 (sent_upper 40 (outcome_of border Four (header4 168 0 1 ++ extended4) 0)) 4 ≡ 0x1000
  pub extension : drop 136 (sent_upper 40 (outcome_of border Four (header4 168 0 1 ++ extended4) 0)) ≡ words (0x2000ddf4 ∷ 0x00080101 ∷ 0x00010101 ∷ [])
  pub nested : outcome_of border Four (header4 56 0 1 ++ nested4) 0 ≡ dropped NestedTwice4 None
  pub pointer : outcome_of border Four (header4 48 0 1 ++ message4 (words (0x0c000000 ∷ 0x04000000 ∷ []) ++ header4 20 0 6)) 0 ≡ dropped IcmpPointer4 None

-- OPTIONS, ROUTES AND ADDRESSES

-- a header of 28 bytes with options
abbrev with_options : List ℕ → List ℕ
with_options options =
    let blank = words (0x47000030 ∷ 0x00014000 ∷ 0x40060000 ∷ 0x08080808 ∷ 0xc0000201 ∷ []) ++ options in
    with_field16 blank 10 (checksum_of (residue blank)) ++ segment 0xfd7f

abbrev rule_of_drop : Outcome → Option Rule
rule_of_drop (dropped rule answer) = Some rule
rule_of_drop _ = None

-- the same segment from another IPv4 source
abbrev from4 : ℕ → List ℕ
from4 source =
    let blank = words (0x45000028 ∷ 0x00014000 ∷ 0x40060000 ∷ source ∷ 0xc0000201 ∷ []) in
    with_field16 blank 10 (checksum_of (residue blank)) ++ segment 0xfd7f

-- a Routing header with a segment left before the segment
abbrev routed6 : List ℕ
routed6 =
    words (0x60000000 ∷ 0x001c2b3f ∷ 0x20010db8 ∷ 0x64640000 ∷ 0 ∷ 1 ∷ 0x0064ff9b ∷ 0 ∷ 0 ∷ 0x08080808 ∷ [])
    ++ words (0x06000001 ∷ 0 ∷ []) ++ segment 0x2d63

pub record RuleExamples : Type 0 where
  -- the pointer 8 of a source route is past its length 7, and the pointer 4 isn't
  pub expired_route : outcome_of border Four (with_options (words (0x83070801 ∷ 0x02030400 ∷ []))) 0 ≡ through false (between 0x2d63)
  pub route : rule_of_drop (outcome_of border Four (with_options (words (0x83070401 ∷ 0x02030400 ∷ []))) 0) ≡ Some SourceRoute4
  -- the answer points at the octet
  pub segments : part (answered (outcome_of border Six routed6 1)) 40 2 ++ part (answered (outcome_of border Six routed6 1)) 44 4 ≡ 4 ∷ 0 ∷ words (43 ∷ [])
  pub clash : rule_of_drop (outcome_of border Four (header4 20 0 58) 0) ≡ Some ProtocolClash4
  pub private : rule_of_drop (outcome_of border Four (from4 (dotted 10 0 0 1)) 0) ≡ Some SourceMap4
