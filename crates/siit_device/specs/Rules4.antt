-- The rules on IPv4 arrival, in their order.
use Rattle.std.specs.Prelude.{ℕ, List, [], ◌∷◌, Option}
use Rattle.siit_model.specs.Ipv4.{Ipv4Packet, ipv4_fields, is_short4, is_bad_header4}
use Rattle.siit_rules.specs.declared.rule.Rule.{Rule}
use Rattle.siit_rules.specs.declared.rule.Rule.TheVariants.{Short4, BadHeader4, BadSource4, BadDestination4, FragmentShape4, Expired4, SourceRoute4, Igmp4, ProtocolClash4, UpperShort4, IcmpFragment4, UdpZeroFragment4, UdpZero4, UdpLength4, IcmpType4, IcmpCode4, IcmpPointer4, RoleSource4, RoleDestination4, SourceMap4, DestinationMap4, QuoteShort4, QuoteBad4, NestedTwice4, QuoteType4, QuoteAddress4, TooBig4}
use Rattle.siit_roles.specs.declared.settings.Settings.{Settings}
use Rattle.siit_device.specs.Arrival4.{is_bad_source4, is_bad_destination4, is_misshapen4, is_expired4, is_routed4, is_igmp, has_clash4, is_upper_short4, is_icmp_fragment4, is_bare_fragment4, is_bare_dropped4, is_bare_mislength4, is_icmp_refused4, is_pointer_refused4, is_role_refused4, is_source_refused4, is_destination_refused4, is_quote_refused4, is_quote_unmapped4, is_too_big4}
use Rattle.siit_device.specs.Rows.{Row, row, first_of, or_rule}

-- of any bytes
unfoldable pub bytes_rows4 : List (Row (List ℕ))
bytes_rows4 =
    row Short4 is_short4
    ∷ row BadHeader4 is_bad_header4
    ∷ []

unfoldable pub header_rows4 : List (Row Ipv4Packet)
header_rows4 =
    row BadSource4 is_bad_source4
    ∷ row BadDestination4 is_bad_destination4
    ∷ row FragmentShape4 is_misshapen4
    ∷ row Expired4 is_expired4
    ∷ row SourceRoute4 is_routed4
    ∷ row Igmp4 is_igmp
    ∷ row ProtocolClash4 has_clash4
    ∷ []

unfoldable pub upper_rows4 : Settings → List (Row Ipv4Packet)
upper_rows4 settings =
    row UpperShort4 is_upper_short4
    ∷ row IcmpFragment4 is_icmp_fragment4
    ∷ row UdpZeroFragment4 is_bare_fragment4
    ∷ row UdpZero4 (is_bare_dropped4 settings)
    ∷ row UdpLength4 is_bare_mislength4
    ∷ row IcmpType4 (is_icmp_refused4 IcmpType4)
    ∷ row IcmpCode4 (is_icmp_refused4 IcmpCode4)
    ∷ row IcmpPointer4 is_pointer_refused4
    ∷ []

unfoldable pub address_rows4 : Settings → List (Row Ipv4Packet)
address_rows4 settings =
    row RoleSource4 (is_role_refused4 settings RoleSource4)
    ∷ row RoleDestination4 (is_role_refused4 settings RoleDestination4)
    ∷ row SourceMap4 (is_source_refused4 settings)
    ∷ row DestinationMap4 (is_destination_refused4 settings)
    ∷ []

unfoldable pub quote_rows4 : Settings → List (Row Ipv4Packet)
quote_rows4 settings =
    row QuoteShort4 (is_quote_refused4 QuoteShort4)
    ∷ row QuoteBad4 (is_quote_refused4 QuoteBad4)
    ∷ row NestedTwice4 (is_quote_refused4 NestedTwice4)
    ∷ row QuoteType4 (is_quote_refused4 QuoteType4)
    ∷ row QuoteAddress4 (is_quote_unmapped4 settings)
    ∷ []

unfoldable pub size_rows4 : Settings → List (Row Ipv4Packet)
size_rows4 settings = row TooBig4 (is_too_big4 settings) ∷ []

-- the rules behind the first two, which speak of the packet that is read
unfoldable pub packet_rule4 : Settings → Ipv4Packet → Option Rule
packet_rule4 settings packet =
    or_rule (first_of header_rows4 packet)
    (or_rule (first_of (upper_rows4 settings) packet)
    (or_rule (first_of (address_rows4 settings) packet)
    (or_rule (first_of (quote_rows4 settings) packet) (first_of (size_rows4 settings) packet))))

unfoldable pub first_rule4 : Settings → List ℕ → Option Rule
first_rule4 settings bytes = or_rule (first_of bytes_rows4 bytes) (packet_rule4 settings (ipv4_fields bytes))
