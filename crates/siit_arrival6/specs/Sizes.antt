-- How long the message of an ICMPv6 error is on the IPv4 side, by lengths alone (RFC 7915 section 5.3, RFC 4884).
use Rattle.std.specs.Prelude.{ℕ, ◌+◌, ◌-◌, ◌*◌, List, length, min, ◌&&◌, ◌||◌, ◌==◌, if◌then◌else◌}
use Rattle.siit_model.specs.Extensions.{Walked}
use Rattle.siit_model.specs.Ipv6.{payload_length_in}
use Rattle.siit_quoted.specs.Bodies.{has_extension, padding}

-- of a quote: the new header, and what is there of the upper part
abbrev pub quote_size : Walked → (part : List ℕ) → ℕ
quote_size walked part = 20 + (min (length part) (40 + payload_length_in part) - (40 + walked.at))

-- of a body with a quote of this length: the extension is carried by two types, behind a quote that is cut and padded
abbrev pub body_size : (kind octet quote : ℕ) → (body : List ℕ) → ℕ
body_size kind octet quote body =
    if has_extension 8 octet body && ((kind == 3) || (kind == 11))
    then min 1020 quote + padding 4 (min 1020 quote) + (length body - octet * 8)
    else quote
