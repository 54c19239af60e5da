-- The rules by which a quote is refused, the first that holds (RFC 7915 sections 4.2 to 4.4 and 5.2 to 5.4).
use Rattle.std.specs.Prelude.{ℕ, ◌+◌, List, [], ◌∷◌, length, Bool, not, ◌&&◌, ◌||◌, ◌==◌, nat_lt, nat_le, if◌then◌else◌, Option, Some, None, Result, Ok, Err}
use Rattle.std.specs.List.{list_any}
use Rattle.std.specs.Option.{is_some}
use Rattle.siit_model.specs.Bytes.{field8}
use Rattle.siit_model.specs.Extensions.{Walked, Trouble, runs_short, out_of_order, behind_fragment}
use Rattle.siit_model.specs.Fragments.{Fragment, is_whole}
use Rattle.siit_model.specs.Ipv4.{version_in, header_length_in, total_length_in}
use Rattle.siit_model.specs.Ipv6.{version6_in}
use Rattle.siit_rules.specs.declared.rule.Rule.{Rule}
use Rattle.siit_rules.specs.declared.rule.Rule.TheVariants.{QuoteShort4, QuoteBad4, NestedTwice4, QuoteType4, QuoteShort6, QuoteBad6, NestedTwice6, QuoteType6}
use Rattle.siit_v4to6.specs.To6.{is_echo4}
use Rattle.siit_v6to4.specs.To4.{is_echo6, walk_in}
use Rattle.siit_quoted.specs.Quoted.{QuotedIpv6, quoted4_fields, quoted6_fields, quoted_fragment4, quoted_fragment6}

abbrev is_one_of : ℕ → List ℕ → Bool
is_one_of x xs = list_any (λ y. x == y) xs

-- fewer bytes than a header, or than a good first byte says
abbrev pub is_short_quote4 : List ℕ → Bool
is_short_quote4 part =
    nat_lt (length part) 20
    || ((version_in part == 4) && nat_le 20 (header_length_in part) && nat_lt (length part) (header_length_in part))

-- a header that no IPv4 packet has; its checksum isn't looked at
abbrev pub is_bad_quote4 : List ℕ → Bool
is_bad_quote4 part =
    not (version_in part == 4) || nat_lt (header_length_in part) 20 || nat_lt (total_length_in part) (header_length_in part)

-- an ICMP error that is quoted itself, as far as its type is there
abbrev pub is_nested4 : Fragment → Bool
is_nested4 f =
    (f.common.protocol == 1) && (f.offset == 0) && nat_lt 0 (length f.bytes)
    && is_one_of (field8 f.bytes 0) (3 ∷ 4 ∷ 5 ∷ 11 ∷ 12 ∷ [])

-- IGMP, and numbers that mean something else in IPv6, and ICMP that is no whole echo message as far as its header
abbrev pub is_untranslated4 : Fragment → Bool
is_untranslated4 f =
    is_one_of f.common.protocol (0 ∷ 2 ∷ 43 ∷ 44 ∷ 58 ∷ 60 ∷ [])
    || ((f.common.protocol == 1) && (not (is_whole f) || nat_lt (length f.bytes) 8 || not (is_echo4 f.bytes)))

abbrev pub quote_refusal4 : List ℕ → Option Rule
quote_refusal4 part =
    if is_short_quote4 part then Some QuoteShort4
    else if is_bad_quote4 part then Some QuoteBad4
    else if is_nested4 (quoted_fragment4 (quoted4_fields part)) then Some NestedTwice4
    else if is_untranslated4 (quoted_fragment4 (quoted4_fields part)) then Some QuoteType4
    else None

-- the same of ICMPv6, of which an error has a type below 128
abbrev pub is_nested6 : Fragment → Bool
is_nested6 f = (f.common.protocol == 58) && (f.offset == 0) && nat_lt 0 (length f.bytes) && nat_lt (field8 f.bytes 0) 128

abbrev pub is_untranslated6 : Fragment → Bool
is_untranslated6 f =
    (f.common.protocol == 1)
    || ((f.common.protocol == 58) && (not (is_whole f) || nat_lt (length f.bytes) 8 || not (is_echo6 f.bytes)))

-- a source route with segments left, or a packet too long for IPv4
abbrev pub is_bad_quote6 : QuotedIpv6 → Bool
is_bad_quote6 quoted = is_some quoted.walked.segments || nat_lt 65535 (20 + quoted.sent)

abbrev pub walked_refusal6 : QuotedIpv6 → Option Rule
walked_refusal6 quoted =
    if is_bad_quote6 quoted then Some QuoteBad6
    else if is_nested6 (quoted_fragment6 quoted) then Some NestedTwice6
    else if is_untranslated6 (quoted_fragment6 quoted) then Some QuoteType6
    else None

abbrev pub refusal_by_walk6 : List ℕ → Result Walked Trouble → Option Rule
refusal_by_walk6 part (Err runs_short) = Some QuoteShort6
refusal_by_walk6 part (Err out_of_order) = Some QuoteBad6
refusal_by_walk6 part (Err behind_fragment) = Some QuoteBad6
refusal_by_walk6 part (Ok walked) = walked_refusal6 (quoted6_fields walked part)

abbrev pub quote_refusal6 : List ℕ → Option Rule
quote_refusal6 part =
    if nat_lt (length part) 40 then Some QuoteShort6
    else if not (version6_in part == 6) then Some QuoteBad6
    else refusal_by_walk6 part (walk_in part)
