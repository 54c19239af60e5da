-- The packet that a device sends back to its IPv6 side (RFC 7757 section 4.2): other addresses, a hop limit one less,
-- the checksum by them; all else stays, extension headers too.
use Rattle.std.specs.Prelude.{ℕ, ◌+◌, ◌-◌, List, ◌∷◌, ◌++◌, length, take, drop, not, ◌||◌, ◌==◌, if◌then◌else◌}
use Rattle.siit_model.specs.Bytes.{part, field8}
use Rattle.siit_model.specs.Checksum.{pseudo6}
use Rattle.siit_model.specs.Fragments.{Common, Fragment}
use Rattle.siit_model.specs.Ipv6.{Ipv6Packet}
use Rattle.siit_addr.specs.declared.addr.Addresses6.{Addresses6}
use Rattle.siit_hairpin.specs.declared.hairpin.TurnAnswer.{TurnAnswer}
use Rattle.siit_hairpin.specs.declared.hairpin.TurnAnswer.TheVariants.{Pair}
use Rattle.siit_quoted.specs.Bodies.{NewBody}
use Rattle.siit_quoted.specs.Errors.{body_turned, error_moved}
use Rattle.siit_v6to4.specs.Turns.{turned_upper}
use Rattle.siit_roles.specs.declared.settings.Settings.{Settings}
use Rattle.siit_device.specs.Arrival6.{Arrived, arrived_fragment, is_error6, quoted_part6, quote_turn_for}

-- The quote's new addresses: what its source, looked at as a destination, is turned to, and what stands for its
-- destination.
abbrev pub body_by_turn : TurnAnswer → (message : List ℕ) → NewBody
body_by_turn (Pair addresses) message = body_turned addresses.dst.0 addresses.src.0 message
body_by_turn _ message = record { bytes = drop 8 message; octet = 0 }

-- bytes 4 to 7: those of types 1 and 3 begin with the length octet
abbrev pub rest_turned : (octet : ℕ) → (message : List ℕ) → List ℕ
rest_turned octet message =
    if (field8 message 0 == 1) || (field8 message 0 == 3) then octet ∷ part message 5 3
    else part message 4 4

-- type and code stay
unfoldable pub error_turned : Settings → Addresses6 → Common → (message : List ℕ) → List ℕ
error_turned settings new common message =
    let body = body_by_turn (quote_turn_for settings (quoted_part6 message)) message in
    error_moved (pseudo6 common.source common.destination 58 (length message)) (pseudo6 new.src.0 new.dst.0 58 (8 + length body.bytes))
    (field8 message 0) (field8 message 1) (rest_turned body.octet message) body message

-- the upper part of a packet that is turned; a later fragment keeps its own
abbrev pub upper_back : Settings → Addresses6 → Fragment → List ℕ
upper_back settings new f =
    if not (f.offset == 0) then f.bytes
    else if is_error6 f then error_turned settings new f.common f.bytes
    else turned_upper f.common.protocol (pseudo6 f.common.source f.common.destination f.common.protocol (length f.bytes))
    (pseudo6 new.src.0 new.dst.0 f.common.protocol (length f.bytes)) f.bytes

abbrev pub packet_turned : Settings → Addresses6 → Arrived → Ipv6Packet
packet_turned settings new arrived = record arrived.packet {
  hop = arrived.packet.hop - 1;
  source = new.src.0;
  destination = new.dst.0;
  body = take arrived.walked.at arrived.packet.body ++ upper_back settings new (arrived_fragment arrived);
}
