-- The parts of a quote that are written one by one, and the new body of an error whose extension is told by its place.
use Rattle.std.specs.Prelude.{ℕ, ◌+◌, ◌*◌, ◌%◌, ◌≡◌, ◌<◌, ◌≤◌, List, ◌++◌, length, take, drop, Bool, false, Option, Some, None}
use Rattle.siit_model.specs.Checksum.{checksum_of, pseudo6, residue}
use Rattle.siit_model.specs.Extensions.{Walked}
use Rattle.siit_model.specs.Fragments.{fragment4}
use Rattle.siit_model.specs.Ipv4.{Ipv4Packet, ipv4_header}
use Rattle.siit_model.specs.Ipv6.{ipv6_header}
use Rattle.siit_v4to6.specs.To6.{bytes_to_6, ends_to_6, fragment_part, next_header_of}
use Rattle.siit_v6to4.specs.To4.{bytes_to_4, ends_to_4}
use Rattle.siit_v6to4.specs.Turns.{turned_part}
use Rattle.siit_quoted.specs.Bodies.{NewBody, joined, room6, joined_to_6, joined_to_4, joined_turned}
use Rattle.siit_quoted.specs.Errors.{part_to_4, part_turned}
use Rattle.siit_quoted.specs.Quoted.{QuotedIpv4, QuotedIpv6, quoted4_fields, quoted6_fields, quoted_fragment4, quoted_fragment6}
use Rattle.siit_quoted.specs.Quotes.{quote_head4, quote_head6, quote_to_4, quote_to_6, quote_turned, quoted_packet_to_4, quoted_packet_to_6, sent_to_6}

-- TO IPv6

-- the Fragment header that the packet gets: that of a fragment, or nothing
abbrev pub fragment_to_6 : Ipv4Packet → List ℕ
fragment_to_6 packet =
    let f = fragment4 packet in
    fragment_part false (record f { common = record f.common { protocol = next_header_of f.common.protocol } })

-- the headers of a quote
abbrev pub quote_head_to_6 : (source destination : ℕ) → (tos_zero : Bool) → QuotedIpv4 → List ℕ
quote_head_to_6 source destination tos_zero quoted =
    ipv6_header (sent_to_6 source destination tos_zero quoted) (quoted_packet_to_6 source destination tos_zero quoted)
    ++ fragment_to_6 quoted.packet

-- what follows them, as far as it is there
abbrev pub quoted_upper_to_6 : (source destination : ℕ) → QuotedIpv4 → List ℕ
quoted_upper_to_6 source destination quoted =
    let f = quoted_fragment4 quoted in
    bytes_to_6 (ends_to_6 (quote_head6 source destination false f) f.common) quoted.sent f

-- these bytes in place of those that are there
abbrev pub front_to_6 : (source destination : ℕ) → List ℕ → QuotedIpv4 → List ℕ
front_to_6 source destination bytes quoted =
    let f = quoted_fragment4 quoted in
    bytes_to_6 (ends_to_6 (quote_head6 source destination false f) f.common) quoted.sent (record f { bytes = bytes })

-- TO IPv4

-- the header of a quote, its checksum right
abbrev pub quote_head_to_4 : (source destination : ℕ) → (tos_zero : Bool) → QuotedIpv6 → List ℕ
quote_head_to_4 source destination tos_zero quoted =
    let packet = quoted_packet_to_4 source destination tos_zero quoted in
    ipv4_header (20 + quoted.sent) packet (checksum_of (residue (ipv4_header (20 + quoted.sent) packet 0)))

-- what follows it, as far as it is there
abbrev pub quoted_upper_to_4 : (source destination : ℕ) → QuotedIpv6 → List ℕ
quoted_upper_to_4 source destination quoted =
    let f = quoted_fragment6 quoted in
    bytes_to_4 (ends_to_4 (quote_head4 source destination false quoted) f.common) quoted.sent f

-- these bytes in place of those that are there
abbrev pub front_to_4 : (source destination : ℕ) → List ℕ → QuotedIpv6 → List ℕ
front_to_4 source destination bytes quoted =
    let f = quoted_fragment6 quoted in
    bytes_to_4 (ends_to_4 (quote_head4 source destination false quoted) f.common) quoted.sent (record f { bytes = bytes })

-- TURNED

-- what follows the headers and the extension headers, as far as it is there
abbrev pub quoted_upper_turned : (source destination : ℕ) → QuotedIpv6 → List ℕ
quoted_upper_turned source destination quoted =
    let f = quoted_fragment6 quoted in
    turned_part (pseudo6 f.common.source f.common.destination f.common.protocol quoted.sent)
    (pseudo6 source destination f.common.protocol quoted.sent) quoted.walked f.bytes

-- these bytes in place of those that are there
abbrev pub front_turned : (source destination : ℕ) → List ℕ → QuotedIpv6 → List ℕ
front_turned source destination bytes quoted =
    let f = quoted_fragment6 quoted in
    turned_part (pseudo6 f.common.source f.common.destination f.common.protocol quoted.sent)
    (pseudo6 source destination f.common.protocol quoted.sent) quoted.walked bytes

-- THE BODY

-- a translated quote of which at most so many bytes are kept, by the part that holds it
abbrev pub cut_to_6 : (source destination : ℕ) → (tos_zero : Bool) → (limit : ℕ) → (part : List ℕ) → List ℕ
cut_to_6 source destination tos_zero limit part = take limit (quote_to_6 source destination tos_zero (quoted4_fields part))

abbrev pub cut_to_4 : (source destination : ℕ) → (tos_zero : Bool) → (limit : ℕ) → Walked → (part : List ℕ) → List ℕ
cut_to_4 source destination tos_zero limit walked part =
    take limit (quote_to_4 source destination tos_zero (quoted6_fields walked part))

-- one before an extension
abbrev pub extended_to_6 : (source destination : ℕ) → (tos_zero : Bool) → (part extension : List ℕ) → NewBody
extended_to_6 source destination tos_zero part extension =
    joined 8 (cut_to_6 source destination tos_zero (room6 (Some extension)) part) extension

abbrev pub extended_to_4 : (source destination : ℕ) → (tos_zero : Bool) → Walked → (part extension : List ℕ) → NewBody
extended_to_4 source destination tos_zero walked part extension =
    joined 4 (cut_to_4 source destination tos_zero 1020 walked part) extension

abbrev pub extended_turned : (source destination : ℕ) → Walked → (part extension : List ℕ) → NewBody
extended_turned source destination walked part extension =
    joined 8 (quote_turned source destination (quoted6_fields walked part)) extension

-- a body whose extension is told by its place
abbrev pub part_before : Option ℕ → List ℕ → List ℕ
part_before None body = body
part_before (Some place) body = take place body

abbrev pub extension_behind : Option ℕ → List ℕ → Option (List ℕ)
extension_behind None body = None
extension_behind (Some place) body = Some (drop place body)

abbrev pub new_body_to_6 : (source destination : ℕ) → (tos_zero : Bool) → Option ℕ → List ℕ → NewBody
new_body_to_6 source destination tos_zero ext body =
    joined_to_6 (extension_behind ext body) (quote_to_6 source destination tos_zero (quoted4_fields (part_before ext body)))

-- by the walk over the quote's extension headers
abbrev pub walked_body_to_4 : (source destination : ℕ) → (tos_zero : Bool) → Walked → Option ℕ → List ℕ → NewBody
walked_body_to_4 source destination tos_zero walked ext body =
    joined_to_4 (extension_behind ext body)
    (quote_to_4 source destination tos_zero (quoted6_fields walked (part_before ext body)))

abbrev pub walked_body_turned : (source destination : ℕ) → Walked → Option ℕ → List ℕ → NewBody
walked_body_turned source destination walked ext body =
    joined_turned (extension_behind ext body) (quote_turned source destination (quoted6_fields walked (part_before ext body)))

abbrev pub new_body_to_4 : (source destination : ℕ) → (tos_zero : Bool) → Option ℕ → List ℕ → NewBody
new_body_to_4 source destination tos_zero ext body =
    joined_to_4 (extension_behind ext body) (part_to_4 source destination tos_zero (part_before ext body))

abbrev pub new_body_turned : (source destination : ℕ) → Option ℕ → List ℕ → NewBody
new_body_turned source destination ext body =
    joined_turned (extension_behind ext body) (part_turned source destination (part_before ext body))

-- an extension that may be carried, by its place in the body: to IPv4, to IPv6, and in a turned error
pub record IsCarried (place : ℕ) (body : List ℕ) : Type 0 where
  pub least : 128 ≤ place
  pub some : place < length body

pub record IsCarriedTo6 (place : ℕ) (body : List ℕ) : Type 0 where
  pub carried : IsCarried place body
  pub few : length body ≤ place + 1104

pub record IsCarriedTurned (place : ℕ) (body : List ℕ) : Type 0 where
  pub carried : IsCarried place body
  pub units : place % 8 ≡ 0
  pub told : place ≤ 255 * 8
