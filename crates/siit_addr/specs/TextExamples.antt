-- Worked examples of the texts: those of RFC 4291 2.2, RFC 5952 and RFC 6052 2.4, and texts that are not in the
-- grammar.
use Rattle.std.specs.Prelude.{◌≡◌, ℕ, ◌-◌, ◌^◌, [], ◌∷◌, Some, None, map, replicate, codes, option_map}
use Rattle.siit_addr.specs.declared.addr.Prefix4.{Prefix4}
use Rattle.siit_addr.specs.declared.addr.Prefix6.{Prefix6}
use Rattle.siit_addr.specs.Addresses.{dotted}
use Rattle.siit_addr.specs.Texts.{ipv4_of_text, ipv6_of_text, number_of_groups}
use Rattle.siit_addr.specs.Prefixes.{prefix4_of_text, prefix6_of_text}
use Rattle.siit_addr.specs.Canonical.{ipv4_text, ipv6_text, prefix6_text}

abbrev pub groups8 : (a b c d e f g h : ℕ) → ℕ
groups8 a b c d e f g h = number_of_groups (a ∷ b ∷ c ∷ d ∷ e ∷ f ∷ g ∷ h ∷ [])

abbrev pub Ipv4TextsAreRead : Type 0
Ipv4TextsAreRead =
    (map ipv4_of_text (codes "192.0.2.33" ∷ codes "0.0.0.0" ∷ codes "255.255.255.255" ∷ [])
    ≡ Some (dotted 192 0 2 33) ∷ Some 0 ∷ Some (2 ^ 32 - 1) ∷ [])

-- a number above 255, a leading zero, three and five numbers, an empty number, an end that is no digit
abbrev pub Ipv4TextsAreRefused : Type 0
Ipv4TextsAreRefused =
    (map ipv4_of_text
    (codes "192.0.2.256" ∷ codes "192.0.02.33" ∷ codes "192.0.2" ∷ codes "192.0.2.33.1"
    ∷ codes "192..2.33" ∷ codes "192.0.2." ∷ codes "192.0.2.3 " ∷ codes "1000.0.0.0" ∷ [] ∷ [])
    ≡ replicate 9 None)

abbrev pub Ipv6TextsAreRead : Type 0
Ipv6TextsAreRead =
    (map ipv6_of_text
    (codes "2001:db8::1" ∷ codes "2001:DB8::A" ∷ codes "2001:db8:0:1:1:1:1:1" ∷ codes "2001:0db8:0:0:0:0:2:1"
    ∷ codes "::" ∷ codes "::1" ∷ codes "1::" ∷ codes "1:2:3:4:5:6:7::" ∷ codes "::ffff:192.0.2.33"
    ∷ codes "64:ff9b:0:0:0:0:192.0.2.33" ∷ codes "2001:db8:122:344::192.0.2.33" ∷ [])
    ≡ Some (groups8 0x2001 0xdb8 0 0 0 0 0 1) ∷ Some (groups8 0x2001 0xdb8 0 0 0 0 0 10)
    ∷ Some (groups8 0x2001 0xdb8 0 1 1 1 1 1) ∷ Some (groups8 0x2001 0xdb8 0 0 0 0 2 1)
    ∷ Some 0 ∷ Some 1 ∷ Some (2 ^ 112) ∷ Some (groups8 1 2 3 4 5 6 7 0)
    ∷ Some (groups8 0 0 0 0 0 0xffff 0xc000 0x221) ∷ Some (groups8 0x64 0xff9b 0 0 0 0 0xc000 0x221)
    ∷ Some (groups8 0x2001 0xdb8 0x122 0x344 0 0 0xc000 0x221) ∷ [])

-- two gaps, three colons, too few and too many groups, a gap for no group, five digits, an IPv4 text that is not at the
-- end or not whole
abbrev pub Ipv6TextsAreRefused : Type 0
Ipv6TextsAreRefused =
    (map ipv6_of_text
    ([] ∷ codes "1::2::3" ∷ codes ":::" ∷ codes "1:2" ∷ codes "1:2:3:4:5:6:7:8:9" ∷ codes "1:2:3:4::5:6:7:8"
    ∷ codes "::12345" ∷ codes "1.2.3.4::" ∷ codes "::1.2.3.4:5" ∷ codes "::1." ∷ codes ":1:2:3:4:5:6:7"
    ∷ codes "1:2:3:4:5:6:7:" ∷ codes "1:2:3:4:5:6:7:1.2.3.4" ∷ codes "::g" ∷ [])
    ≡ replicate 14 None)

abbrev pub numbers4 : Prefix4 → ℕ × ℕ
numbers4 p = (p.addr.0, p.len)

abbrev pub numbers6 : Prefix6 → ℕ × ℕ
numbers6 p = (p.addr.0, p.len)

abbrev pub PrefixTextsAreRead : Type 0
PrefixTextsAreRead =
    (map (λ text. option_map numbers4 (prefix4_of_text text))
    (codes "192.0.2.0/24" ∷ codes "192.0.2.33/24" ∷ codes "0.0.0.0/0" ∷ codes "192.0.2.33/32" ∷ [])
    ≡ Some (dotted 192 0 2 0, 24) ∷ Some (dotted 192 0 2 33, 24) ∷ Some (0, 0) ∷ Some (dotted 192 0 2 33, 32) ∷ [])
    × (map (λ text. option_map numbers6 (prefix6_of_text text))
    (codes "64:ff9b::/96" ∷ codes "::/0" ∷ codes "::1/128" ∷ [])
    ≡ Some (groups8 0x64 0xff9b 0 0 0 0 0 0, 96) ∷ Some (0, 0) ∷ Some (1, 128) ∷ [])

abbrev pub PrefixTextsAreRefused : Type 0
PrefixTextsAreRefused =
    (map prefix4_of_text
    (codes "192.0.2.0/33" ∷ codes "192.0.2.0/024" ∷ codes "192.0.2.0/" ∷ codes "192.0.2.0" ∷ codes "192.0.2/24"
    ∷ codes "192.0.2.0/24/" ∷ [])
    ≡ replicate 6 None)
    × (map prefix6_of_text (codes "::/129" ∷ codes "::/00" ∷ codes "/64" ∷ codes "::/64/1" ∷ []) ≡ replicate 4 None)

-- RFC 5952 4.2.1 to 4.2.3 and 4.3, the last two with the text of the IPv4 forms that stay hexadecimal here
abbrev pub CanonicalTextsAreWritten : Type 0
CanonicalTextsAreWritten =
    (map ipv6_text
    (groups8 0x2001 0xdb8 0 0 0 0 0 1 ∷ groups8 0x2001 0xdb8 0 1 1 1 1 1 ∷ groups8 0x2001 0 0 1 0 0 0 1
    ∷ groups8 0x2001 0xdb8 0 0 1 0 0 1 ∷ 0 ∷ 1 ∷ (2 ^ 112) ∷ groups8 0xfe80 0 0 0 0 0 0 1
    ∷ groups8 0x2001 0xDB8 0 0 0 0 0 0xABCD ∷ groups8 0 0 0 0 0 0xffff 0xc000 0x221 ∷ [])
    ≡ codes "2001:db8::1" ∷ codes "2001:db8:0:1:1:1:1:1" ∷ codes "2001:0:0:1::1" ∷ codes "2001:db8::1:0:0:1"
    ∷ codes "::" ∷ codes "::1" ∷ codes "1::" ∷ codes "fe80::1" ∷ codes "2001:db8::abcd"
    ∷ codes "::ffff:c000:221" ∷ [])
    × (map ipv4_text (dotted 192 0 2 33 ∷ 0 ∷ (2 ^ 32 - 1) ∷ [])
    ≡ codes "192.0.2.33" ∷ codes "0.0.0.0" ∷ codes "255.255.255.255" ∷ [])
    × (prefix6_text (groups8 0x64 0xff9b 0 0 0 0 0 0) 96 ≡ codes "64:ff9b::/96")
