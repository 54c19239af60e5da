-- Laws of quotes and of the bodies that hold them.
use Rattle.std.specs.Prelude.{◌≡◌, ℕ, ◌+◌, ◌%◌, ◌/◌, ◌^◌, ◌<◌, ◌≤◌, ◌⊎◌, List, [], ◌++◌, length, take, replicate, Bool, false, ◌==◌, true, if◌then◌else◌, Option, Some, None}
use Rattle.siit_model.specs.Bytes.{AreBytes, field8, field16, with_field16}
use Rattle.siit_model.specs.Fragments.{is_whole}
use Rattle.siit_model.specs.Ipv4.{ipv4_bytes_as}
use Rattle.siit_model.specs.Upper.{Ends, has_field16}
use Rattle.siit_v4to6.specs.To6.{is_echo4, next_header_of, upper_to_6}
use Rattle.siit_v6to4.specs.To4.{df_of, upper_to_4}
use Rattle.siit_quoted.specs.Bodies.{joined, padded, parted}
use Rattle.siit_quoted.specs.Errors.{part_to_4}
use Rattle.siit_quoted.specs.Quoted.{QuotedIpv4, quoted4_fields, quoted_fragment4}
use Rattle.siit_quoted.specs.Quotes.{quote_to_6, written_class}
use Rattle.siit_quoted.specs.Rewriting.{IsCarriedTo6, new_body_to_6}
use Rattle.siit_quoted.specs.Refusals.{quote_refusal4, quote_refusal6}

-- what makes bytes an extension (RFC 4884 section 7)
pub record IsExtension (extension : List ℕ) : Type 0 where
  pub least : 4 ≤ length extension
  pub words : length extension % 4 ≡ 0
  pub version : (field8 extension 0 / 16 == 2) ≡ true

-- A body that was joined is parted into the padded quote and the extension: so an extension that one device carries is
-- one for the next.
abbrev pub ExtensionComesBack : Type 0
ExtensionComesBack = (unit : ℕ) (quote extension : List ℕ) → (unit ≡ 4) ⊎ (unit ≡ 8) → IsExtension extension
    → parted unit (joined unit quote extension).octet (joined unit quote extension).bytes
    ≡ record { part = padded unit quote; extension = Some extension }

-- the checksum at a place as it is written below 65535
abbrev pub respelled : ℕ → List ℕ → List ℕ
respelled place part = if has_field16 part place then with_field16 part place (field16 part place % 65535) else part

-- an upper part with the checksum as it is written: UDP in 1 to 65535, others below 65535
abbrev pub spelled : (protocol : ℕ) → List ℕ → List ℕ
spelled protocol part = if protocol == 6 then respelled 16 part else if protocol == 1 then respelled 2 part else part

-- The upper part of a quote that is accepted, to IPv6 and back.
abbrev pub UpperComesBack : Type 0
UpperComesBack = (protocol : ℕ) (ends : Ends) (whole : ℕ) (part : List ℕ) → AreBytes part → (protocol ≡ 58 → ⊥)
    → (protocol ≡ 1 → (is_echo4 part ≡ true) × (8 ≤ length part))
    → upper_to_4 (next_header_of protocol) ends whole (upper_to_6 protocol ends whole part) ≡ spelled protocol part

-- n zeros may follow a quote only where an extension is carried, which stands behind at least 128 bytes (RFC 4884
-- section 5.1)
abbrev pub MayBePadded : (n : ℕ) → (part : List ℕ) → Type 0
MayBePadded n part = (n ≡ 0) ⊎ (128 ≤ length part)

-- The quote that came back: its own addresses, protocol and TTL, identification 0, no options, its checksum as it is
-- written, and its end cut behind k bytes of its upper part. Zeros that followed are read as bytes of the quote, as far
-- as its length as sent goes.
abbrev pub come_back_whole : (tos k n : ℕ) → QuotedIpv4 → List ℕ
come_back_whole tos k n quoted =
    ipv4_bytes_as (20 + quoted.sent)
    (record {
      tos = tos;
      id = 0;
      df = df_of (20 + quoted.sent);
      mf = 0;
      offset = 0;
      ttl = quoted.packet.ttl;
      protocol = quoted.packet.protocol;
      source = quoted.packet.source;
      destination = quoted.packet.destination;
      options = [];
      payload = take quoted.sent (take k (spelled quoted.packet.protocol quoted.packet.payload) ++ replicate n 0);
    })

-- A whole quote that is accepted, through any addresses and back to its own, on the way cut behind its checksum, with
-- zeros behind it before an extension.
abbrev pub WholeQuoteComesBack : Type 0
WholeQuoteComesBack = (source destination k n : ℕ) (zero6 zero4 : Bool) (part : List ℕ) → AreBytes part
    → quote_refusal4 part ≡ None → is_whole (quoted_fragment4 (quoted4_fields part)) ≡ true
    → source < 2 ^ 128 → destination < 2 ^ 128 → 18 ≤ k → MayBePadded n part →
    let quoted = quoted4_fields part in
    let six = take (40 + k) (quote_to_6 source destination zero6 quoted) ++ replicate n 0 in
    part_to_4 quoted.packet.source quoted.packet.destination zero4 six
    ≡ come_back_whole (written_class zero4 (written_class zero6 quoted.packet.tos)) k n quoted

-- The fragment that came back: its identification stays, and Don't Fragment is 0. A later fragment's payload stays as
-- it is.
abbrev pub come_back_fragment : (tos k n : ℕ) → QuotedIpv4 → List ℕ
come_back_fragment tos k n quoted =
    let packet = quoted.packet in
    ipv4_bytes_as (20 + quoted.sent)
    (record {
      tos = tos;
      id = packet.id;
      df = 0;
      mf = packet.mf;
      offset = packet.offset;
      ttl = packet.ttl;
      protocol = packet.protocol;
      source = packet.source;
      destination = packet.destination;
      options = [];
      payload = take quoted.sent
          (take k (if packet.offset == 0 then spelled packet.protocol packet.payload else packet.payload) ++ replicate n 0);
    })

-- The same for a fragment, where the device that it comes back through accepts it too.
abbrev pub FragmentQuoteComesBack : Type 0
FragmentQuoteComesBack = (source destination k n : ℕ) (zero6 zero4 : Bool) (part : List ℕ) → AreBytes part
    → quote_refusal4 part ≡ None → is_whole (quoted_fragment4 (quoted4_fields part)) ≡ false
    → source < 2 ^ 128 → destination < 2 ^ 128 → 18 ≤ k → MayBePadded n part →
    let quoted = quoted4_fields part in
    let six = take (48 + k) (quote_to_6 source destination zero6 quoted) ++ replicate n 0 in
    quote_refusal6 six ≡ None
    → part_to_4 quoted.packet.source quoted.packet.destination zero4 six
    ≡ come_back_fragment (written_class zero4 (written_class zero6 quoted.packet.tos)) k n quoted

-- what is asked of an extension that is told by its place, where one is
abbrev pub IsCarriedIf6 : Option ℕ → List ℕ → Type 0
IsCarriedIf6 None body = Unit {0}
IsCarriedIf6 (Some place) body = IsCarriedTo6 place body

-- The new body of an ICMPv6 error has at most 1,232 bytes, and the error 1,280 (RFC 4443 section 2.4).
abbrev pub Body6HasRoom : Type 0
Body6HasRoom = (source destination : ℕ) (tos_zero : Bool) (ext : Option ℕ) (body : List ℕ) → IsCarriedIf6 ext body
    → length (new_body_to_6 source destination tos_zero ext body).bytes ≤ 1232
