-- Captures that are made from a seed: UDP packets of all lengths from many hosts to four. They are this project's own.
use Rattle.std.specs.Prelude.{ℕ, zero, suc, ◌+◌, ◌*◌, ◌/◌, ◌%◌, ◌^◌, List, [], ◌∷◌, ◌++◌, map, Bool, ◌==◌}
use Rattle.std.specs.List.{range_with_len}
use Rattle.siit_model.specs.Bytes.{bytes16, flag_bit}
use Rattle.siit_model.specs.Checksum.{checksum_of, pseudo4, residue, without_zero}
use Rattle.siit_model.specs.Ipv4.{Ipv4Packet, ipv4_bytes}
use Rattle.siit_addr.specs.Addresses.{dotted}
use Rattle.siit_capture.specs.Records.{Record}
use Rattle.siit_capture.specs.declared.form.LinkType.TheVariants.{Raw}

-- THE NUMBERS

-- a linear congruential generator of 64 bits
abbrev pub next_state : ℕ → ℕ
next_state state = (state * 6364136223846793005 + 1442695040888963407) % 2 ^ 64

-- what is drawn in a state
abbrev pub drawn : ℕ → ℕ
drawn state = state / 65536

-- of what is drawn for a packet, the length of its data, its flag DF, and what picks its hosts
abbrev pub data_length : ℕ → ℕ
data_length draw = draw % 1473

abbrev pub flag_drawn : ℕ → Bool
flag_drawn draw = draw / 1473 % 2 == 1

abbrev pub hosts_drawn : ℕ → ℕ
hosts_drawn draw = draw / 1473 / 2

-- THE PACKET

abbrev pub source_drawn : ℕ → ℕ
source_drawn draw = dotted 8 8 4 (hosts_drawn draw % 254 + 1)

abbrev pub destination_drawn : ℕ → ℕ
destination_drawn draw = dotted 192 0 2 (hosts_drawn draw / 254 % 4 + 1)

-- so many bytes of data, which count on from the packet's number
abbrev pub data_of : (number len : ℕ) → List ℕ
data_of number len = map (λ place. (number + place) % 256) (range_with_len 0 len)

-- ports, length, checksum (RFC 768)
abbrev pub datagram_header : (number len checksum : ℕ) → List ℕ
datagram_header number len checksum = bytes16 (1024 + number % 64000) ++ bytes16 53 ++ bytes16 (8 + len) ++ bytes16 checksum

-- over pseudo-header and datagram; it is never written as 0
abbrev pub datagram_checksum : (number len source destination : ℕ) → ℕ
datagram_checksum number len source destination =
    without_zero
    (checksum_of ((pseudo4 source destination 17 (8 + len) + residue (datagram_header number len 0 ++ data_of number len)) % 65535))

abbrev pub datagram : (number len source destination : ℕ) → List ℕ
datagram number len source destination =
    datagram_header number len (datagram_checksum number len source destination) ++ data_of number len

-- the packet of a datagram
abbrev pub udp_packet : (id : ℕ) (df : Bool) (source destination : ℕ) → List ℕ → Ipv4Packet
udp_packet id df source destination payload = record {
  tos = 0;
  id = id;
  df = flag_bit df;
  mf = 0;
  offset = 0;
  ttl = 64;
  protocol = 17;
  source = source;
  destination = destination;
  options = [];
  payload = payload;
}

abbrev pub generated_packet : (number draw : ℕ) → Ipv4Packet
generated_packet number draw =
    udp_packet (number % 65536) (flag_drawn draw) (source_drawn draw) (destination_drawn draw)
    (datagram number (data_length draw) (source_drawn draw) (destination_drawn draw))

-- THE CAPTURE

-- a thousand packets a second
abbrev pub generated_record : (number draw : ℕ) → Record
generated_record number draw = record {
  link = Raw;
  seconds = number / 1000;
  nanoseconds = number % 1000 * 1000000;
  bytes = ipv4_bytes (generated_packet number draw);
}

-- so many records from this number on, behind a state
abbrev pub generated_from : (count number state : ℕ) → List Record
generated_from zero number state = []
generated_from (suc count) number state =
    generated_record number (drawn (next_state state)) ∷ generated_from count (number + 1) (next_state state)

-- the records of a capture of so many packets by a seed
abbrev pub generated : (count seed : ℕ) → List Record
generated count seed = generated_from count 0 seed
