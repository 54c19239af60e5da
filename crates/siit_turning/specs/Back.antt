-- The packet that goes back, by what its rules have found, and what its parts are written from.
use Rattle.std.specs.Prelude.{◌≡◌, ℕ, ◌+◌, ◌-◌, ◌*◌, ◌%◌, ◌≤◌, List, ◌∷◌, ◌++◌, length, take, drop, slice_set, slice_index, if◌then◌else◌, Option, Some, None, IfSome}
use Rattle.siit_model.specs.Bytes.{bytes16, bytes128, field8, field16}
use Rattle.siit_model.specs.Checksum.{moved, pseudo6}
use Rattle.siit_addr.specs.declared.addr.Addresses6.{Addresses6}
use Rattle.siit_upper.specs.Walks.{walked}
use Rattle.siit_v6to4.specs.Turns.{turned_part}
use Rattle.siit_quoted.specs.Bodies.{has_extension, length_octet6, part_of}
use Rattle.siit_quoted.specs.Errors.{body_turned, error_moved}
use Rattle.siit_quoted.specs.Quoted.{HasQuote6}
use Rattle.siit_quoted.specs.Refusals.{quote_refusal6}
use Rattle.siit_quoted.specs.Rewriting.{IsCarriedTurned, part_before, walked_body_turned}
use Rattle.siit_quoted.specs.Sums.{IsDifference}
use Rattle.siit_device.specs.Arrival6.{quoted_part6}
use Rattle.siit_device.specs.Turned.{rest_turned}
use Rattle.siit_arrival6.specs.declared.arrived.Arrived6.{Arrived6}
use Rattle.siit_turning.specs.declared.error.Plan.{Plan}

-- THE HEADER

abbrev pub hop_lowered : List ℕ → List ℕ
hop_lowered bytes = slice_set bytes 7 (slice_index bytes 7 - 1)

-- of 40 bytes, for these bytes: another payload length, a hop limit one less, other addresses
abbrev pub header_back : (len : ℕ) → Addresses6 → List ℕ → List ℕ
header_back len new bytes =
    take 4 bytes ++ bytes16 len ++ slice_index bytes 6 ∷ (slice_index bytes 7 - 1) ∷ bytes128 new.src.0 ++ bytes128 new.dst.0

-- THE UPPER PART

-- what is no ICMPv6 error, between other addresses
abbrev pub part_between : Arrived6 → Addresses6 → List ℕ → List ℕ
part_between arrived new part =
    turned_part (pseudo6 arrived.old.src.0 arrived.old.dst.0 arrived.walk.upper (length part))
    (pseudo6 new.src.0 new.dst.0 arrived.walk.upper (length part)) (walked arrived.walk) part

-- an ICMPv6 error, with a quote between these addresses
unfoldable pub error_between : (old new quote : Addresses6) → (message : List ℕ) → List ℕ
error_between old new quote message =
    let body = body_turned quote.src.0 quote.dst.0 message in
    error_moved (pseudo6 old.src.0 old.dst.0 58 (length message)) (pseudo6 new.src.0 new.dst.0 58 (8 + length body.bytes))
    (field8 message 0) (field8 message 1) (rest_turned body.octet message) body message

-- an ICMPv6 error, as far as its header, with a quote that is accepted
pub record IsAcceptedError (message : List ℕ) : Type 0 where
  pub header : 8 ≤ length message
  pub accepted : quote_refusal6 (quoted_part6 message) ≡ None

-- the addresses of the other way
abbrev pub exchanged : Addresses6 → Addresses6
exchanged addresses = record { src = addresses.dst; dst = addresses.src }

-- either of both, by the addresses of a quote that goes the other way
abbrev pub upper_between : Arrived6 → (new : Addresses6) → (quote : Option Addresses6) → List ℕ → List ℕ
upper_between arrived new None part = part_between arrived new part
upper_between arrived new (Some quote) part = error_between arrived.old new (exchanged quote) part

-- the first 8 bytes of an error, by residues of what went and came behind them and in the pseudo-header
abbrev pub head_turned : (octet gone come : ℕ) → (message : List ℕ) → List ℕ
head_turned octet gone come message =
    let rest = rest_turned octet message in
    field8 message 0 ∷ field8 message 1
    ∷ bytes16 (moved (field16 message 2) ((gone + field16 message 4) % 65535) ((come + field16 rest 0) % 65535)) ++ rest

-- THE BODY OF AN ERROR

-- the place of the extension in the body
abbrev pub extension_in : (message : List ℕ) → Option ℕ
extension_in message =
    if has_extension 8 (length_octet6 message) (drop 8 message) then Some (length_octet6 message * 8) else None

-- how many bytes of the body are quote or extension
abbrev pub kept_in : (message : List ℕ) → ℕ
kept_in message =
    if has_extension 8 (length_octet6 message) (drop 8 message) then length message - 8
    else length (part_of 8 (length_octet6 message) (drop 8 message))

-- what is known of the body of an error before its quote gets these addresses
pub record IsPlanned (quote : Addresses6) (message : List ℕ) (plan : Plan) : Type 0 where
  pub inside : 8 + plan.kept ≤ length message
  pub carried : IfSome plan.ext (λ place. IsCarriedTurned place (take plan.kept (drop 8 message)))
  pub quoted : HasQuote6 (walked plan.walk) (part_before plan.ext (take plan.kept (drop 8 message)))
  pub body : walked_body_turned quote.src.0 quote.dst.0 (walked plan.walk) plan.ext (take plan.kept (drop 8 message))
      ≡ body_turned quote.src.0 quote.dst.0 message
  pub sums : IsDifference (drop 8 message) (body_turned quote.src.0 quote.dst.0 message).bytes plan.sums.gone plan.sums.come
