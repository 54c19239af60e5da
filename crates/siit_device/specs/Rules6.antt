-- The rules on IPv6 arrival, in their order.
use Rattle.std.specs.Prelude.{ℕ, ◌+◌, List, [], ◌∷◌, length, Bool, not, ◌&&◌, nat_lt, Option, Some, Result, Ok, Err}
use Rattle.siit_model.specs.Extensions.{Walked, Trouble, walk_of}
use Rattle.siit_model.specs.Ipv6.{Ipv6Packet, ipv6_fields, is_short6, is_bad_header6}
use Rattle.siit_rules.specs.declared.rule.Rule.{Rule}
use Rattle.siit_rules.specs.declared.rule.Rule.TheVariants.{Short6, BadHeader6, BadSource6, BadDestination6, FragmentShape6, Expired6, SegmentsLeft6, ProtocolClash6, UpperShort6, IcmpFragment6, IcmpType6, IcmpCode6, IcmpPointer6, RoleSource6, RoleDestination6, SourceMap6, DestinationMap6, HairpinSource6, QuoteShort6, QuoteBad6, NestedTwice6, QuoteType6, QuoteAddress6, TooBig6}
use Rattle.siit_upper.specs.Walks.{rule_of}
use Rattle.siit_roles.specs.declared.settings.Settings.{Settings}
use Rattle.siit_device.specs.Arrival6.{Arrived, is_bad_source6, is_bad_destination6, is_misshapen6, is_expired6, is_routed6, has_clash6, is_upper_short6, is_icmp_fragment6, is_icmp_refused6, is_pointer_refused6, is_role_refused6, is_source_refused6, is_destination_refused6, is_turn_refused, turn_for, is_pair, is_quote_refused6, is_quote_unmapped6}
use Rattle.siit_device.specs.Backward.{sent4}
use Rattle.siit_device.specs.Rows.{Row, row, first_of, or_rule}

-- of any bytes
unfoldable pub bytes_rows6 : List (Row (List ℕ))
bytes_rows6 =
    row Short6 is_short6
    ∷ row BadHeader6 is_bad_header6
    ∷ []

-- of the IPv6 header
unfoldable pub header_rows6 : List (Row Ipv6Packet)
header_rows6 =
    row BadSource6 is_bad_source6
    ∷ row BadDestination6 is_bad_destination6
    ∷ []

-- behind the walk over the extension headers, whose trouble is a rule of its own
unfoldable pub walk_rows6 : List (Row Arrived)
walk_rows6 =
    row FragmentShape6 is_misshapen6
    ∷ row Expired6 is_expired6
    ∷ row SegmentsLeft6 is_routed6
    ∷ row ProtocolClash6 has_clash6
    ∷ []

unfoldable pub upper_rows6 : List (Row Arrived)
upper_rows6 =
    row UpperShort6 is_upper_short6
    ∷ row IcmpFragment6 is_icmp_fragment6
    ∷ row IcmpType6 (is_icmp_refused6 IcmpType6)
    ∷ row IcmpCode6 (is_icmp_refused6 IcmpCode6)
    ∷ row IcmpPointer6 is_pointer_refused6
    ∷ []

unfoldable pub address_rows6 : Settings → List (Row Arrived)
address_rows6 settings =
    row RoleSource6 (is_role_refused6 settings RoleSource6)
    ∷ row RoleDestination6 (is_role_refused6 settings RoleDestination6)
    ∷ row SourceMap6 (is_source_refused6 settings)
    ∷ row DestinationMap6 (is_destination_refused6 settings)
    ∷ row HairpinSource6 (is_turn_refused settings)
    ∷ []

unfoldable pub quote_rows6 : Settings → List (Row Arrived)
quote_rows6 settings =
    row QuoteShort6 (is_quote_refused6 QuoteShort6)
    ∷ row QuoteBad6 (is_quote_refused6 QuoteBad6)
    ∷ row NestedTwice6 (is_quote_refused6 NestedTwice6)
    ∷ row QuoteType6 (is_quote_refused6 QuoteType6)
    ∷ row QuoteAddress6 (is_quote_unmapped6 settings)
    ∷ []

-- a packet that IPv6 links needn't carry, and the IPv4 link can't; the IPv4 form's length hangs on no number
abbrev pub is_too_big6 : Settings → Arrived → Bool
is_too_big6 settings arrived =
    not (is_pair (turn_for settings arrived)) && nat_lt 1280 (40 + length arrived.packet.body)
    && nat_lt settings.mtu4 (20 + length (sent4 settings arrived 0).bytes)

unfoldable pub size_rows6 : Settings → List (Row Arrived)
size_rows6 settings = row TooBig6 (is_too_big6 settings) ∷ []

unfoldable pub arrived_rule6 : Settings → Arrived → Option Rule
arrived_rule6 settings arrived =
    or_rule (first_of walk_rows6 arrived)
    (or_rule (first_of upper_rows6 arrived)
    (or_rule (first_of (address_rows6 settings) arrived)
    (or_rule (first_of (quote_rows6 settings) arrived) (first_of (size_rows6 settings) arrived))))

abbrev pub walked_rule6 : Settings → Ipv6Packet → Result Walked Trouble → Option Rule
walked_rule6 settings packet (Err trouble) = Some (rule_of trouble)
walked_rule6 settings packet (Ok walked) = arrived_rule6 settings (record { packet = packet; walked = walked })

abbrev pub packet_rule6 : Settings → Ipv6Packet → Option Rule
packet_rule6 settings packet =
    or_rule (first_of header_rows6 packet) (walked_rule6 settings packet (walk_of packet.next packet.body))

unfoldable pub first_rule6 : Settings → List ℕ → Option Rule
first_rule6 settings bytes = or_rule (first_of bytes_rows6 bytes) (packet_rule6 settings (ipv6_fields bytes))
