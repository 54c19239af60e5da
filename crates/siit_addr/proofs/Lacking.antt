-- Texts of digits have no separator, so that they are parts.
use Rattle.std.proofs.Common.{◌≡◌, ◌≢◌, ℕ, ◌+◌, ◌/◌, ◌%◌, ◌<◌, ◌⊎◌, inl, inr, List, [], ◌∷◌, ◌++◌, refl, ap, ◌∙◌, arith}
use Rattle.std.proofs.lemmas.Bool.{cases_lt, lt-ltb, le-ltb}
use Rattle.siit_addr.specs.Texts.{with_byte, parts_at, point, slash, colon}
use Rattle.siit_addr.specs.Canonical.{digit_byte, digit_at, decimal_text, group_text}
use Rattle.siit_addr.proofs.Parts.{parts_at-byte, parts_at-separator}

-- no byte of the text is the separator
abbrev pub Lacks : ℕ → List ℕ → Type 0
Lacks separator [] = Unit {0}
Lacks separator (byte ∷ text) = (byte ≢ separator) × Lacks separator text

pub Lacks-append : (separator : ℕ) (xs ys : List ℕ) → Lacks separator xs → Lacks separator ys → Lacks separator (xs ++ ys)
Lacks-append separator [] ys h k = k
Lacks-append separator (byte ∷ xs) ys h k = (h.0, Lacks-append separator xs ys h.1 k)

-- a text with no separator is the first part of what begins with it
pub parts_at-front : (separator : ℕ) (text rest : List ℕ) → Lacks separator text → parts_at separator (text ++ separator ∷ rest) ≡ text ∷ parts_at separator rest
parts_at-front separator [] rest h = parts_at-separator separator separator rest refl
parts_at-front separator (byte ∷ text) rest h =
    parts_at-byte separator byte (text ++ separator ∷ rest) h.0 ∙ ap (with_byte byte) (parts_at-front separator text rest h.1)

pub parts_at-only : (separator : ℕ) (text : List ℕ) → Lacks separator text → parts_at separator text ≡ text ∷ []
parts_at-only separator [] h = refl
parts_at-only separator (byte ∷ text) h =
    parts_at-byte separator byte text h.0 ∙ ap (with_byte byte) (parts_at-only separator text h.1)

-- the separators are no digits
abbrev pub IsNoDigit : ℕ → Type 0
IsNoDigit byte = (d : ℕ) → d < 16 → digit_byte d ≢ byte

no_digit : (byte : ℕ) → byte < 48 ⊎ ((57 < byte) × (byte < 97)) → IsNoDigit byte
no_digit byte outside d h e =
    elim (cases_lt d 10) [
      | inl low ↦ let is : 48 + d ≡ byte = rw (lt-ltb d 10 low) at e in elim outside [ inl below ↦ omega arith | inr between ↦ omega arith ]
      | inr high ↦ let is : 87 + d ≡ byte = rw (le-ltb d 10 high) at e in elim outside [ inl below ↦ omega arith | inr between ↦ omega arith ]
    ]

pub point_is_no_digit : IsNoDigit point
point_is_no_digit = no_digit point (inl (omega arith))

pub slash_is_no_digit : IsNoDigit slash
slash_is_no_digit = no_digit slash (inl (omega arith))

pub colon_is_no_digit : IsNoDigit colon
colon_is_no_digit = no_digit colon (inr (omega arith, omega arith))

Lacks-digit : (byte d : ℕ) → IsNoDigit byte → d < 16 → Lacks byte (digit_byte d ∷ [])
Lacks-digit byte d outside h = (outside d h, tt)

Lacks-digit_at : (byte base unit n : ℕ) → IsNoDigit byte → n / unit % base < 16 → Lacks byte (digit_at base unit n)
Lacks-digit_at byte base unit n outside h =
    elim (cases_lt n unit) as (λ _. Lacks byte (digit_at base unit n)) [
      | inl below ↦ rw (lt-ltb n unit below) tt
      | inr reached ↦ rw (le-ltb n unit reached) (Lacks-digit byte (n / unit % base) outside h)
    ]

pub Lacks-decimal_text : (byte n : ℕ) → IsNoDigit byte → Lacks byte (decimal_text n)
Lacks-decimal_text byte n outside =
    Lacks-append byte (digit_at 10 100 n ++ digit_at 10 10 n) (digit_byte (n % 10) ∷ [])
    (Lacks-append byte (digit_at 10 100 n) (digit_at 10 10 n) (Lacks-digit_at byte 10 100 n outside (omega arith)) (Lacks-digit_at byte 10 10 n outside (omega arith)))
    (Lacks-digit byte (n % 10) outside (omega arith))

pub Lacks-group_text : (byte n : ℕ) → IsNoDigit byte → Lacks byte (group_text n)
Lacks-group_text byte n outside =
    Lacks-append byte (digit_at 16 4096 n ++ digit_at 16 256 n ++ digit_at 16 16 n) (digit_byte (n % 16) ∷ [])
    (Lacks-append byte (digit_at 16 4096 n ++ digit_at 16 256 n) (digit_at 16 16 n)
    (Lacks-append byte (digit_at 16 4096 n) (digit_at 16 256 n) (Lacks-digit_at byte 16 4096 n outside (omega arith)) (Lacks-digit_at byte 16 256 n outside (omega arith)))
    (Lacks-digit_at byte 16 16 n outside (omega arith)))
    (Lacks-digit byte (n % 16) outside (omega arith))
