-- Where a text is split: at the first separator, and at the first "::".
use Rattle.std.proofs.Common.{◌≡◌, ◌≢◌, ℕ, zero, suc, ◌+◌, ◌<◌, ◌≤◌, false, eqb, List, [], ◌∷◌, length, get_or, take, drop, Some, None, refl, ap, ◌∙◌, ◌-◌, arith, add-one, sub-one, inl, inr}
use Rattle.std.proofs.lemmas.Bool.{ne_eqb, eq-eqb, cases_eq, and_right}
use Rattle.std.proofs.lemmas.List.{take_rest}
use Rattle.std.specs.Prelude.{option_map}
use Rattle.siit_addr.specs.Texts.{parts_at, with_byte, around_gap, colon}

-- a byte that is no separator goes on with the first part
pub parts_at-byte : (separator byte : ℕ) (text : List ℕ) → byte ≢ separator → parts_at separator (byte ∷ text) ≡ with_byte byte (parts_at separator text)
parts_at-byte separator byte text ne = rw (ne_eqb byte separator ne) refl

pub parts_at-separator : (separator byte : ℕ) (text : List ℕ) → byte ≡ separator → parts_at separator (byte ∷ text) ≡ [] ∷ parts_at separator text
parts_at-separator separator byte text e = rw (eq-eqb byte separator e) refl

pub parts_at-none : (separator : ℕ) (text : List ℕ) → ((k : ℕ) → k < length text → get_or text k 0 ≢ separator) → parts_at separator text ≡ text ∷ []
parts_at-none separator [] h = refl
parts_at-none separator (byte ∷ text) h =
    parts_at-byte separator byte text (h 0 (omega arith))
    ∙ ap (with_byte byte) (parts_at-none separator text (λ k lt. h (suc k) (omega arith)))

pub parts_at-found : (separator : ℕ) (text : List ℕ) (i : ℕ) → i < length text → get_or text i 0 ≡ separator → ((k : ℕ) → k < i → get_or text k 0 ≢ separator) → parts_at separator text ≡ take i text ∷ parts_at separator (drop (suc i) text)
parts_at-found separator [] i lt e h = absurd (omega arith)
parts_at-found separator (byte ∷ text) zero lt e h = parts_at-separator separator byte text e
parts_at-found separator (byte ∷ text) (suc i) lt e h =
    parts_at-byte separator byte text (h 0 (omega arith))
    ∙ ap (with_byte byte) (parts_at-found separator text i (omega arith) e (λ k below. h (suc k) (omega arith)))

length_with_byte : (byte : ℕ) (parts : List (List ℕ)) → 1 ≤ length (with_byte byte parts)
length_with_byte byte [] = omega arith
length_with_byte byte (part ∷ parts) = omega arith

-- a text has one part at least
pub length_parts_at : (separator : ℕ) (text : List ℕ) → 1 ≤ length (parts_at separator text)
length_parts_at separator [] = omega arith
length_parts_at separator (byte ∷ text) =
    elim (cases_eq byte separator) as (λ _. 1 ≤ length (parts_at separator (byte ∷ text))) [
      | inl e ↦ rw (parts_at-separator separator byte text e) (omega arith)
      | inr ne ↦ rw (parts_at-byte separator byte text ne) (length_with_byte byte (parts_at separator text))
    ]

-- two colons
pub around_gap-here : (byte next : ℕ) (text : List ℕ) → byte ≡ colon → next ≡ colon → around_gap (byte ∷ next ∷ text) ≡ Some ([], text)
around_gap-here byte next text e f = rw (eq-eqb byte 58 e, eq-eqb next 58 f) refl

-- a byte, or a colon before another byte, goes on
pub around_gap-byte : (byte next : ℕ) (text : List ℕ) → (byte ≡ colon → next ≢ colon) → around_gap (byte ∷ next ∷ text) ≡ option_map (λ sides. (byte ∷ sides.0, sides.1)) (around_gap (next ∷ text))
around_gap-byte byte next text h =
    elim (cases_eq byte 58) as (λ _. around_gap (byte ∷ next ∷ text) ≡ option_map (λ sides. (byte ∷ sides.0, sides.1)) (around_gap (next ∷ text))) [
      | inl e ↦ rw (ne_eqb next 58 (h e), and_right (eqb byte 58) false refl) refl
      | inr ne ↦ rw (ne_eqb byte 58 ne) refl
    ]

pub around_gap-none : (text : List ℕ) → ((k : ℕ) → suc k < length text → get_or text k 0 ≡ colon → get_or text (suc k) 0 ≢ colon) → around_gap text ≡ None
around_gap-none [] h = refl
around_gap-none (byte ∷ []) h = refl
around_gap-none (byte ∷ next ∷ text) h =
    around_gap-byte byte next text (h 0 (omega arith))
    ∙ ap (option_map (λ sides. (byte ∷ sides.0, sides.1))) (around_gap-none (next ∷ text) (λ k lt. h (suc k) (omega arith)))

pub around_gap-found : (text : List ℕ) (i : ℕ) → suc i < length text → get_or text i 0 ≡ colon → get_or text (suc i) 0 ≡ colon → ((k : ℕ) → k < i → get_or text k 0 ≡ colon → get_or text (suc k) 0 ≢ colon) → around_gap text ≡ Some (take i text, drop (suc (suc i)) text)
around_gap-found [] i lt e f h = absurd (omega arith)
around_gap-found (byte ∷ []) i lt e f h = absurd (omega arith)
around_gap-found (byte ∷ next ∷ text) zero lt e f h = around_gap-here byte next text e f
around_gap-found (byte ∷ next ∷ text) (suc i) lt e f h =
    around_gap-byte byte next text (h 0 (omega arith))
    ∙ ap (option_map (λ sides. (byte ∷ sides.0, sides.1))) (around_gap-found (next ∷ text) i (omega arith) e f (λ k below. h (suc k) (omega arith)))

-- the same as a slice of the rest has it
pub parts_at-sides : (separator : ℕ) (text : List ℕ) (i : ℕ) → i < length text → get_or text i 0 ≡ separator → ((k : ℕ) → k < i → get_or text k 0 ≢ separator) → parts_at separator text ≡ take i text ∷ parts_at separator (take (length text - (i + 1)) (drop (i + 1) text))
parts_at-sides separator text i lt e h = rw (take_rest text (i + 1), add-one) (parts_at-found separator text i lt e h)

pub around_gap-sides : (text : List ℕ) (i : ℕ) → 1 ≤ i → i < length text → get_or text (i - 1) 0 ≡ colon → get_or text i 0 ≡ colon → ((k : ℕ) → suc k < i → get_or text k 0 ≡ colon → get_or text (suc k) 0 ≢ colon) → around_gap text ≡ Some (take (i - 1) text, take (length text - (i + 1)) (drop (i + 1) text))
around_gap-sides text zero one lt e f h = absurd (omega arith)
around_gap-sides text (suc i) one lt e f h =
    rw (take_rest text (suc i + 1), add-one, sub-one) (around_gap-found text i lt (rw sub-one at e) f (λ k below. h k (omega arith)))

pub ruleset at_first = (parts_at-none, parts_at-sides)

pub ruleset at_gap = (around_gap-none, around_gap-sides)
