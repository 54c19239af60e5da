-- Laws of the bodies of ICMP errors that go from IPv4 to IPv6 and back to IPv4.
use Rattle.std.specs.Prelude.{◌≡◌, ℕ, ◌+◌, ◌-◌, ◌^◌, ◌<◌, List, length, min, drop, Bool, if◌then◌else◌, Option, Some, None, Ok}
use Rattle.siit_model.specs.Bytes.{AreBytes}
use Rattle.siit_model.specs.Fragments.{is_whole}
use Rattle.siit_rules.specs.declared.rule.Family.{Family}
use Rattle.siit_rules.specs.declared.rule.Family.TheVariants.{Four, Six}
use Rattle.siit_icmp.specs.Icmp.{icmp_to_4}
use Rattle.siit_icmp.specs.declared.kinds.NewKind.{NewKind}
use Rattle.siit_quoted.specs.Bodies.{Body, NewBody, carried_to_4, carried_to_6, joined_to_4, length_octet4, length_octet6, padding, parted, room6}
use Rattle.siit_quoted.specs.Errors.{body_to_4, body_to_6}
use Rattle.siit_quoted.specs.Laws.{come_back_fragment, come_back_whole}
use Rattle.siit_quoted.specs.Quoted.{QuotedIpv4, quoted4_fields, quoted_fragment4}
use Rattle.siit_quoted.specs.Quotes.{written_class}
use Rattle.siit_quoted.specs.Refusals.{quote_refusal4, quote_refusal6}
use Rattle.siit_quoted.specs.Rewriting.{fragment_to_6}

-- the body of a message, parted by its own length octet
abbrev pub body_of : Family → (message : List ℕ) → Body
body_of Four message = parted 4 (length_octet4 message) (drop 8 message)
body_of Six message = parted 8 (length_octet6 message) (drop 8 message)

-- a message with this new body and its length octet, whatever else its first 8 bytes say
pub record HasBody4 (body : NewBody) (message : List ℕ) : Type 0 where
  pub octet : length_octet4 message ≡ body.octet
  pub bytes : drop 8 message ≡ body.bytes

pub record HasBody6 (body : NewBody) (message : List ℕ) : Type 0 where
  pub octet : length_octet6 message ≡ body.octet
  pub bytes : drop 8 message ≡ body.bytes

-- An extension that is carried to IPv6 is found in the message that comes back, byte for byte (RFC 4884). What is
-- quoted doesn't matter.
abbrev pub ExtensionsComeBack : Type 0
ExtensionsComeBack = (source6 destination6 source4 destination4 kind code : ℕ) (zero6 zero4 : Bool) (new : NewKind)
    (message middle last extension : List ℕ)
    → carried_to_6 kind (body_of Four message).extension ≡ Some extension
    → HasBody6 (body_to_6 source6 destination6 zero6 kind message) middle
    → icmp_to_4 kind code ≡ Ok new
    → HasBody4 (body_to_4 source4 destination4 zero4 new.kind middle) last
    → (body_of Four last).extension ≡ Some extension

-- the length of a quote's headers in IPv6
abbrev pub headers_to_6 : QuotedIpv4 → ℕ
headers_to_6 quoted = 40 + length (fragment_to_6 quoted.packet)

-- the zeros behind it there, before an extension
abbrev pub zeros_to_6 : Option (List ℕ) → QuotedIpv4 → ℕ
zeros_to_6 None quoted = 0
zeros_to_6 (Some extension) quoted = padding 8 (min (room6 (Some extension)) (headers_to_6 quoted + length quoted.packet.payload))

-- the quote that came back: what is cut of it and how many zeros are read goes by the extension that is carried
abbrev pub come_back : (tos : ℕ) → Option (List ℕ) → QuotedIpv4 → List ℕ
come_back tos extension quoted =
    let kept = room6 extension - headers_to_6 quoted in
    if is_whole (quoted_fragment4 quoted)
    then come_back_whole tos kept (zeros_to_6 extension quoted) quoted
    else come_back_fragment tos kept (zeros_to_6 extension quoted) quoted

-- The body of an error whose quote is accepted both ways, through any addresses and back to those of the quote.
abbrev pub BodiesComeBack : Type 0
BodiesComeBack = (source destination kind6 kind4 : ℕ) (zero6 zero4 : Bool) (message middle : List ℕ) → AreBytes message
    → quote_refusal4 (body_of Four message).part ≡ None
    → source < 2 ^ 128 → destination < 2 ^ 128
    → HasBody6 (body_to_6 source destination zero6 kind6 message) middle
    → quote_refusal6 (body_of Six middle).part ≡ None →
    let quoted = quoted4_fields (body_of Four message).part in
    let extension = carried_to_6 kind6 (body_of Four message).extension in
    body_to_4 quoted.packet.source quoted.packet.destination zero4 kind4 middle
    ≡ joined_to_4 (carried_to_4 kind4 extension)
    (come_back (written_class zero4 (written_class zero6 quoted.packet.tos)) extension quoted)
