-- What the parts of the translation hand to each other.
use Rattle.std.specs.Prelude.{◌≡◌, ℕ, ◌+◌, ◌*◌, ◌%◌, ◌≤◌, List, ◌∷◌, ◌++◌, length, take, drop, if◌then◌else◌, Option, Some, None}
use Rattle.siit_model.specs.Bytes.{bytes16, field16, with_field16}
use Rattle.siit_model.specs.Checksum.{moved, residue}
use Rattle.siit_model.specs.Fragments.{Common}
use Rattle.siit_model.specs.Ipv6.{Ipv6Packet, ipv6_fields, payload_length_in}
use Rattle.siit_addr.specs.declared.addr.Addresses6.{Addresses6}
use Rattle.siit_icmp.specs.declared.kinds.NewKind.{NewKind}
use Rattle.siit_quoted.specs.Bodies.{has_extension, length_octet6}
use Rattle.siit_quoted.specs.declared.sums.Sums.{Sums}
use Rattle.siit_roles.specs.declared.settings.Settings.{Settings}
use Rattle.siit_v6to4.specs.Heads as heads
use Rattle.siit_v6to4.specs.To4.{Head4}
use Rattle.siit_v6to4.specs.declared.fields.Head64.{Head64}
use Rattle.siit_device.specs.Arrival6.{Arrived, arrived_fragment}
use Rattle.siit_device.specs.Backward.{rest_to_4}
use Rattle.siit_arrival6.specs.declared.arrived.Arrived6.{Arrived6}

-- the new header of a packet, by what is handed in
abbrev pub head_by : Head64 → Arrived → Head4
head_by to arrival = heads.head4_for to arrival.walked.fragment (arrived_fragment arrival)

-- A packet in the buffer with no bytes of the link behind it, and what was found of it.
pub record IsAlone6 (bytes : List ℕ) (arrived : Arrived6) : Type 0 where
  pub no_padding : length bytes ≡ 40 + payload_length_in bytes
  pub within : arrived.walk.at ≤ payload_length_in bytes
  pub len : arrived.len ≡ payload_length_in bytes
  pub source_is : arrived.old.src.0 ≡ (ipv6_fields bytes).source
  pub destination_is : arrived.old.dst.0 ≡ (ipv6_fields bytes).destination

-- the packet with another upper part, its headers as they were
abbrev pub packet_with : Arrived → (upper : List ℕ) → Ipv6Packet
packet_with arrival upper = record arrival.packet { body = take arrival.walked.at arrival.packet.body ++ upper }

-- that packet in the buffer
pub record HasUpper (arrival : Arrived) (upper bytes : List ℕ) : Type 0 where
  pub no_padding : length bytes ≡ 40 + payload_length_in bytes
  pub packet : ipv6_fields bytes ≡ packet_with arrival upper

-- as much of an ICMPv6 message's header as its translation asks for: the addresses
abbrev pub common_between : Addresses6 → Common
common_between old = record { class = 0; hop = 0; protocol = 58; source = old.src.0; destination = old.dst.0 }

-- the place of the extension in the body of an ICMPv6 error
abbrev pub extension_in : (message : List ℕ) → Option ℕ
extension_in message =
    let octet = length_octet6 message in
    if has_extension 8 octet (drop 8 message) then Some (octet * 8) else None

-- The header of an ICMPv4 error in place of that of the ICMPv6 error, its checksum moved by both headers and by what
-- else goes and comes.
abbrev pub head_written : Settings → NewKind → (octet : ℕ) → Sums → (head : List ℕ) → List ℕ
head_written settings new octet sums head =
    let rest = rest_to_4 settings new.rest octet head in
    let before = (sums.gone + residue (with_field16 head 2 0)) % 65535 in
    let after = (sums.come + residue (new.kind ∷ new.code ∷ 0 ∷ 0 ∷ rest)) % 65535 in
    new.kind ∷ new.code ∷ bytes16 (moved (field16 head 2) before after) ++ rest
