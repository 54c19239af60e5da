-- What is kept of an ICMPv4 error.
use Rattle.std.specs.Prelude.{◌≡◌, ◌⊎◌, ℕ, ◌-◌, ◌*◌, ◌%◌, ◌≤◌, List, ◌∷◌, ◌++◌, length, take, drop, Bool, ◌&&◌, ◌||◌, ◌==◌, nat_le, if◌then◌else◌, Option, Some, None, IfSome}
use Rattle.siit_model.specs.Bytes.{part}
use Rattle.siit_quoted.specs.Bodies.{has_extension, length_octet4}
use Rattle.siit_quoted.specs.Errors.{body_to_6}
use Rattle.siit_quoted.specs.Rewriting.{IsCarriedTo6, new_body_to_6, part_before}
use Rattle.siit_device.specs.Arrival4.{quoted_part4}
use Rattle.siit_departure6.specs.declared.kept.Kept.{Kept}

-- the place in its body of an extension that an error of the new type carries
abbrev pub carried_place : (kind : ℕ) → (message : List ℕ) → Option ℕ
carried_place kind message =
    let place = length_octet4 message * 4 in
    let body = drop 8 message in
    if has_extension 4 (length_octet4 message) body && (((kind == 1) || (kind == 3)) && nat_le (length (drop place body)) 1104)
    then Some place else None

-- the body of the message as far as it is kept
abbrev pub kept_body : Kept → (message : List ℕ) → List ℕ
kept_body kept message = part message 8 (kept.len - 8)

-- The quote is kept, and the extension behind it where an error of the new type carries it. What is cut off behind them
-- begins at an even place.
pub record IsKept (kind : ℕ) (message : List ℕ) (kept : Kept) : Type 0 where
  pub header : 8 ≤ kept.len
  pub inside : kept.len ≤ length message
  pub even : (kept.len ≡ length message) ⊎ (kept.len % 2 ≡ 0)
  pub carried : IfSome kept.ext (λ place. IsCarriedTo6 place (kept_body kept message))
  pub words : IfSome kept.ext (λ place. place % 2 ≡ 0)
  pub quote : part_before kept.ext (kept_body kept message) ≡ quoted_part4 message
  pub body : (source destination : ℕ) (tos_zero : Bool)
      → new_body_to_6 source destination tos_zero kept.ext (kept_body kept message) ≡ body_to_6 source destination tos_zero kind message

-- a message with its checksum counted as zero
abbrev pub blanked : List ℕ → List ℕ
blanked message = take 2 message ++ 0 ∷ 0 ∷ drop 4 message
