-- An IPv6 packet that is turned: it gets other addresses and leaves on the side where it came from (RFC 7757 section
-- 4.2.2).
use Rattle.std.specs.Prelude.{ℕ, List, ◌++◌, take, drop, ◌==◌, if◌then◌else◌}
use Rattle.siit_model.specs.Checksum.{pseudo6}
use Rattle.siit_model.specs.Extensions.{Walked}
use Rattle.siit_model.specs.Fragments.{fields_in}
use Rattle.siit_model.specs.Ipv6.{Ipv6Packet}
use Rattle.siit_upper.specs.Moves.{icmp_moved, tcp_moved, udp_moved}

-- An upper part between two pairs of IPv6 addresses, told by the residues of their pseudo-headers. Types and codes
-- stay.
abbrev pub turned_upper : (protocol old new : ℕ) → List ℕ → List ℕ
turned_upper protocol old new part =
    if protocol == 6 then tcp_moved old new part
    else if protocol == 17 then udp_moved old new part
    else if protocol == 58 then icmp_moved old new part
    else part

-- what stands behind the extension headers: the upper part, or the bytes of a later fragment, which stay
abbrev pub turned_part : (old new : ℕ) → Walked → List ℕ → List ℕ
turned_part old new walked part = if (fields_in walked.fragment).offset == 0 then turned_upper walked.upper old new part else part

-- The packet with these addresses, `sent` being the length of its upper part as sent. All else stays, extension headers
-- and the hop limit too.
abbrev pub turned_packet : (source destination sent : ℕ) → Walked → Ipv6Packet → Ipv6Packet
turned_packet source destination sent walked packet = record packet {
  source = source;
  destination = destination;
  body = take walked.at packet.body
      ++ turned_part (pseudo6 packet.source packet.destination walked.upper sent) (pseudo6 source destination walked.upper sent) walked
      (drop walked.at packet.body);
}
