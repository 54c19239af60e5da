-- The parts of a packet on its way to IPv6, by what was found out about it on arrival.
use Rattle.std.specs.Prelude.{◌≡◌, ℕ, ◌+◌, ◌-◌, List, [], length, Bool, true, false, if◌then◌else◌}
use Rattle.siit_model.specs.Bytes.{with_field16}
use Rattle.siit_model.specs.Checksum.{pseudo6}
use Rattle.siit_model.specs.Fragments.{Fragment, fragment4}
use Rattle.siit_model.specs.Ipv4.{Ipv4Packet}
use Rattle.siit_model.specs.Ipv6.{Ipv6Packet}
use Rattle.siit_addr.specs.declared.addr.Addresses6.{Addresses6}
use Rattle.siit_fragments.specs.Plans.{IsPlanFor, plan_of}
use Rattle.siit_fragments.specs.declared.cut.CutPlan.{CutPlan}
use Rattle.siit_v4to6.specs.To6.{Head6, ends_4_to_6, header_to_6, packet6, udp_checksum6, upper_to_6}
use Rattle.siit_quoted.specs.Errors.{body_to_6, error_moved}
use Rattle.siit_quoted.specs.Quotes.{written_class}
use Rattle.siit_roles.specs.declared.settings.Settings.{Settings}
use Rattle.siit_device.specs.Forward.{rest_to_6}
use Rattle.siit_arrival4.specs.declared.arrived.Arrived4.{Arrived4}
use Rattle.siit_arrival4.specs.declared.arrived.Error4.{Error4}
use Rattle.siit_arrival4.specs.declared.arrived.Upper4.{Upper4}
use Rattle.siit_arrival4.specs.declared.arrived.Upper4.TheVariants.{Bare}

-- the new header between these addresses, one hop on
abbrev pub head_between : Settings → Addresses6 → Fragment → Head6
head_between settings new f = record {
  source = new.src.0;
  destination = new.dst.0;
  class = written_class settings.tos_zero f.common.class;
  hop = f.common.hop - 1;
}

-- the packet behind its new header, with its payload as it is and with a Fragment header where it is to be cut
abbrev pub headed6 : Settings → Addresses6 → (cut : Bool) → Ipv4Packet → Ipv6Packet
headed6 settings new cut packet =
    let f = fragment4 packet in packet6 cut (header_to_6 (head_between settings new f) f)

-- a whole UDP datagram without checksum
abbrev pub is_bare : Upper4 → Bool
is_bare Bare = true
is_bare _ = false

-- the upper part that was no ICMP error, of a packet or a first fragment; a later fragment keeps its bytes
abbrev pub upper_by : Upper4 → Arrived4 → (first : Bool) → List ℕ → List ℕ
upper_by upper arrived first part =
    if is_bare upper then with_field16 part 6 (udp_checksum6 arrived.new.src.0 arrived.new.dst.0 part)
    else if first then upper_to_6 arrived.protocol (ends_4_to_6 arrived.old arrived.new) (length part) part
    else part

-- a plan for a packet of so many bytes that is cut for an MTU
pub record IsPlanned (len mtu : ℕ) (plan : CutPlan) : Type 0 where
  pub value : plan ≡ plan_of len 48 mtu
  pub planned : IsPlanFor len plan

-- the ICMPv6 error for an ICMPv4 error, sent between these addresses
unfoldable pub message_to_6 : Settings → Addresses6 → Error4 → List ℕ → List ℕ
message_to_6 settings new error message =
    let body = body_to_6 error.quote.src.0 error.quote.dst.0 settings.tos_zero error.new.kind message in
    error_moved 0 (pseudo6 new.src.0 new.dst.0 58 (8 + length body.bytes))
    error.new.kind error.new.code (rest_to_6 settings error.new.rest body.octet message) body message

-- its header
abbrev pub header_for : Settings → Addresses6 → Ipv4Packet → Ipv6Packet
header_for settings new packet = record {
  class = written_class settings.tos_zero packet.tos;
  flow = 0;
  hop = packet.ttl - 1;
  source = new.src.0;
  destination = new.dst.0;
  next = 58;
  body = [];
}
