-- How ICMP messages are translated (RFC 7915 sections 4.2 and 5.2).
use Rattle.std.specs.Prelude.{ℕ, ◌+◌, ◌-◌, List, [], ◌∷◌, Bool, ◌&&◌, ◌||◌, ◌==◌, nat_le, nat_lt, if◌then◌else◌, Option, Some, None, ok_or, min, max, Result, Ok, Err}
use Rattle.std.specs.List.{list_any}
use Rattle.siit_rules.specs.declared.rule.Rule.{Rule}
use Rattle.siit_rules.specs.declared.rule.Rule.TheVariants.{IcmpType4, IcmpCode4, IcmpType6, IcmpCode6}
use Rattle.siit_icmp.specs.declared.kinds.NewKind.{NewKind}
use Rattle.siit_icmp.specs.declared.kinds.Rest.{Rest}
use Rattle.siit_icmp.specs.declared.kinds.Rest.TheVariants.{Same, Zero, Mtu, Pointer, PointerSix, Length}

-- the number is in the list
abbrev is_one_of : ℕ → List ℕ → Bool
is_one_of x xs = list_any (λ y. x == y) xs

abbrev is_from : (low high x : ℕ) → Bool
is_from low high x = nat_le low x && nat_le x high

abbrev pub new : (kind code : ℕ) → Rest → NewKind
new kind code rest = record { kind = kind; code = code; rest = rest }

-- Destination Unreachable of ICMPv4 by its code (RFC 7915 section 4.2): no route, an unknown protocol, an unknown port,
-- a packet that is too big, and a prohibition
abbrev pub unreachable_to_6 : ℕ → Option NewKind
unreachable_to_6 code =
    if is_one_of code (0 ∷ 1 ∷ 5 ∷ 6 ∷ 7 ∷ 8 ∷ 11 ∷ 12 ∷ []) then Some (new 1 0 Length)
    else if code == 2 then Some (new 4 1 PointerSix)
    else if code == 3 then Some (new 1 4 Length)
    else if code == 4 then Some (new 2 0 Mtu)
    else if is_one_of code (9 ∷ 10 ∷ 13 ∷ 15 ∷ []) then Some (new 1 1 Length)
    else None

-- Parameter Problem of ICMPv4: a pointer to the error, and a bad length
abbrev pub problem_to_6 : ℕ → Option NewKind
problem_to_6 code = if is_one_of code (0 ∷ 2 ∷ []) then Some (new 4 0 Pointer) else None

-- ICMPv4 echo: request 8 becomes 128, reply 0 becomes 129
abbrev pub is_echo_kind4 : ℕ → Bool
is_echo_kind4 kind = (kind == 8) || (kind == 0)

abbrev pub echo_kind6 : ℕ → ℕ
echo_kind6 kind = if kind == 8 then 128 else 129

-- An ICMPv4 message of a type and code as an ICMPv6 message. Every other type is dropped.
abbrev pub icmp_to_6 : (kind code : ℕ) → Result NewKind Rule
icmp_to_6 kind code =
    if is_echo_kind4 kind then Ok (new (echo_kind6 kind) code Same)
    else if kind == 3 then ok_or (unreachable_to_6 code) IcmpCode4
    else if kind == 11 then Ok (new 3 code Length)
    else if kind == 12 then ok_or (problem_to_6 code) IcmpCode4
    else Err IcmpType4

-- Destination Unreachable of ICMPv6 by its code (RFC 7915 section 5.2): no route, beyond scope and an unreachable
-- address; a prohibition; an unknown port
abbrev pub unreachable_to_4 : ℕ → Option NewKind
unreachable_to_4 code =
    if is_one_of code (0 ∷ 2 ∷ 3 ∷ []) then Some (new 3 1 Length)
    else if code == 1 then Some (new 3 10 Length)
    else if code == 4 then Some (new 3 3 Length)
    else None

-- Parameter Problem of ICMPv6: a pointer to a wrong field, and an unknown next header
abbrev pub problem_to_4 : ℕ → Option NewKind
problem_to_4 code =
    if code == 0 then Some (new 12 0 Pointer)
    else if code == 1 then Some (new 3 2 Zero)
    else None

-- ICMPv6 echo: request 128 becomes 8, reply 129 becomes 0
abbrev pub is_echo_kind6 : ℕ → Bool
is_echo_kind6 kind = (kind == 128) || (kind == 129)

abbrev pub echo_kind4 : ℕ → ℕ
echo_kind4 kind = if kind == 128 then 8 else 0

-- An ICMPv6 message of a type and code as an ICMPv4 message. Every other type is dropped.
abbrev pub icmp_to_4 : (kind code : ℕ) → Result NewKind Rule
icmp_to_4 kind code =
    if is_echo_kind6 kind then Ok (new (echo_kind4 kind) code Same)
    else if kind == 1 then ok_or (unreachable_to_4 code) IcmpCode6
    else if kind == 2 then Ok (new 3 4 Mtu)
    else if kind == 3 then Ok (new 11 code Length)
    else if kind == 4 then ok_or (problem_to_4 code) IcmpCode6
    else Err IcmpType6

-- a place in an IPv4 header as the place of the field of IPv6 that stands for it (RFC 7915 section 4.2, figure 3)
abbrev pub pointer_to_6 : ℕ → Option ℕ
pointer_to_6 place =
    if place == 0 then Some 0
    else if place == 1 then Some 1
    else if is_from 2 3 place then Some 4
    else if place == 8 then Some 7
    else if place == 9 then Some 6
    else if is_from 12 15 place then Some 8
    else if is_from 16 19 place then Some 24
    else None

-- a place in an IPv6 header as the place of the field of IPv4 (RFC 7915 section 5.2, figure 6)
abbrev pub pointer_to_4 : ℕ → Option ℕ
pointer_to_4 place =
    if place == 0 then Some 0
    else if place == 1 then Some 1
    else if is_from 4 5 place then Some 2
    else if place == 6 then Some 9
    else if place == 7 then Some 8
    else if is_from 8 23 place then Some 12
    else if is_from 24 39 place then Some 16
    else None

-- the MTUs that links have, the greatest first (RFC 1191 section 7.1)
abbrev plateaus : List ℕ
plateaus = 65535 ∷ 32000 ∷ 17914 ∷ 8166 ∷ 4352 ∷ 2002 ∷ 1492 ∷ 1006 ∷ 508 ∷ 296 ∷ 68 ∷ []

abbrev pub first_plateau : List ℕ → ℕ → Option ℕ
first_plateau [] length = None
first_plateau (plateau ∷ rest) length = if nat_lt plateau length && nat_le 1280 plateau then Some plateau else first_plateau rest length

-- the greatest plateau below a packet's length that is an MTU of IPv6
abbrev pub plateau_below : ℕ → Option ℕ
plateau_below length = first_plateau plateaus length

-- An MTU of the IPv4 side as one of the IPv6 side: the 20 bytes more that IPv6's header has, within what both links
-- carry, and at least 1280 (RFC 7915 section 4.2)
abbrev limited_to_6 : (mtu mtu4 mtu6 : ℕ) → ℕ
limited_to_6 mtu mtu4 mtu6 = max 1280 (min (mtu + 20) (min mtu6 (mtu4 + 20)))

-- The MTU of an ICMPv4 message as that of the ICMPv6 message. A router that knows none writes 0: then the plateau below
-- the quoted packet, of at least 1280, stands in its place, and without such a plateau the result is 1280.
abbrev pub mtu_to_6 : (mtu quoted_length mtu4 mtu6 : ℕ) → ℕ
mtu_to_6 mtu quoted_length mtu4 mtu6 =
    if mtu == 0
    then elim (plateau_below quoted_length) [ None ↦ 1280 | Some plateau ↦ limited_to_6 plateau mtu4 mtu6 ]
    else limited_to_6 mtu mtu4 mtu6

-- An MTU of ICMPv6 as one of ICMPv4 (RFC 7915 section 5.2): the 20 bytes less that IPv4's header has, within what both
-- links carry. Where `mtu4` is at least 68, the least MTU of IPv4 (RFC 791 section 3.2), and `mtu6` at least 1280, it
-- is at least 68.
abbrev pub mtu_to_4 : (mtu mtu4 mtu6 : ℕ) → ℕ
mtu_to_4 mtu mtu4 mtu6 = min (max mtu 88 - 20) (min mtu4 (mtu6 - 20))
