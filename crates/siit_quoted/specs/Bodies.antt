-- The body of an ICMP error: the part that holds the quote, and the extension behind it (RFC 4884). Bodies are counted
-- in units of 4 bytes in ICMPv4 and of 8 bytes in ICMPv6.
use Rattle.std.specs.Prelude.{ℕ, ◌+◌, ◌*◌, ◌-◌, ◌/◌, ◌%◌, List, ◌++◌, length, take, drop, replicate, max, Bool, ◌&&◌, ◌||◌, ◌==◌, nat_le, if◌then◌else◌, Option, Some, None}
use Rattle.siit_model.specs.Bytes.{field8}
use Rattle.siit_rules.specs.declared.rule.Family.{Family}
use Rattle.siit_rules.specs.declared.rule.Family.TheVariants.{Four, Six}

-- The length octet tells how many units hold the quote (RFC 4884 section 4): byte 5 of ICMPv4 types 3, 11 and 12, byte
-- 4 of ICMPv6 types 1 and 3. Other messages have none.
abbrev pub length_octet4 : List ℕ → ℕ
length_octet4 message =
    let kind = field8 message 0 in
    if (kind == 3) || (kind == 11) || (kind == 12) then field8 message 5 else 0

abbrev pub length_octet6 : List ℕ → ℕ
length_octet6 message =
    let kind = field8 message 0 in
    if (kind == 1) || (kind == 3) then field8 message 4 else 0

-- an extension of version 2 at this place of a body, behind at least 128 bytes
abbrev pub is_extension_at : (place : ℕ) → List ℕ → Bool
is_extension_at place body =
    nat_le 128 place && nat_le (place + 4) (length body)
    && ((length body - place) % 4 == 0) && (field8 body place / 16 == 2)

-- one behind as many units
abbrev pub has_extension : (unit units : ℕ) → List ℕ → Bool
has_extension unit units body = is_extension_at (units * unit) body

pub record Body : Type 0 where
  pub part : List ℕ
  pub extension : Option (List ℕ)

-- the first units, or all where the octet is 0 or tells of more
abbrev pub part_of : (unit units : ℕ) → List ℕ → List ℕ
part_of unit units body = if units == 0 then body else take (units * unit) body

abbrev pub parted : (unit units : ℕ) → List ℕ → Body
parted unit units body = record {
  part = part_of unit units body;
  extension = if has_extension unit units body then Some (drop (units * unit) body) else None;
}

-- the place of the extension in a message, whose body begins behind 8 bytes
abbrev pub place_behind : (unit units : ℕ) → (message : List ℕ) → Option ℕ
place_behind unit units message =
    if has_extension unit units (drop 8 message) then Some (8 + units * unit) else None

abbrev pub extension_place : Family → (message : List ℕ) → Option ℕ
extension_place Four message = place_behind 4 (length_octet4 message) message
extension_place Six message = place_behind 8 (length_octet6 message) message

-- the part of a message's body that holds the quote
abbrev pub quote_part : Family → (message : List ℕ) → List ℕ
quote_part Four message = part_of 4 (length_octet4 message) (drop 8 message)
quote_part Six message = part_of 8 (length_octet6 message) (drop 8 message)

-- A new body with its length octet.
pub record NewBody : Type 0 where
  pub bytes : List ℕ
  pub octet : ℕ

-- the zeros behind a quote before an extension: to whole units, and to 128 bytes at least (RFC 4884 section 5.1)
abbrev pub padding : (unit len : ℕ) → ℕ
padding unit len = max 128 ((len + (unit - 1)) / unit * unit) - len

abbrev pub padded : (unit : ℕ) → List ℕ → List ℕ
padded unit quote = quote ++ replicate (padding unit (length quote)) 0

abbrev pub joined : (unit : ℕ) → (quote extension : List ℕ) → NewBody
joined unit quote extension = record {
  bytes = padded unit quote ++ extension;
  octet = length (padded unit quote) / unit;
}

abbrev pub alone : List ℕ → NewBody
alone quote = record { bytes = quote; octet = 0 }

-- A translated ICMPv6 error has at most 1280 bytes (RFC 4443 section 2.4): 48 for its headers, and whole units before
-- the extension.
abbrev pub room6 : Option (List ℕ) → ℕ
room6 None = 1232
room6 (Some extension) = (1232 - length extension) / 8 * 8

abbrev pub joined_to_6 : Option (List ℕ) → List ℕ → NewBody
joined_to_6 None quote = alone (take 1232 quote)
joined_to_6 (Some extension) quote = joined 8 (take (room6 (Some extension)) quote) extension

-- 255 units of 4 bytes are as many as the octet tells
abbrev pub joined_to_4 : Option (List ℕ) → List ℕ → NewBody
joined_to_4 None quote = alone quote
joined_to_4 (Some extension) quote = joined 4 (take 1020 quote) extension

abbrev pub joined_turned : Option (List ℕ) → List ℕ → NewBody
joined_turned None quote = alone quote
joined_turned (Some extension) quote = joined 8 quote extension

-- which extension a translated error carries: by its new type, and towards IPv6 by the extension's length
abbrev pub carried_to_6 : (kind : ℕ) → Option (List ℕ) → Option (List ℕ)
carried_to_6 kind None = None
carried_to_6 kind (Some extension) =
    if ((kind == 1) || (kind == 3)) && nat_le (length extension) 1104 then Some extension else None

abbrev pub carried_to_4 : (kind : ℕ) → Option (List ℕ) → Option (List ℕ)
carried_to_4 kind None = None
carried_to_4 kind (Some extension) = if (kind == 3) || (kind == 11) then Some extension else None
