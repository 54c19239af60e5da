-- Pieces of one fragment.
use Rattle.std.proofs.Common.{◌≡◌, ◌⊎◌, ℕ, zero, suc, ◌+◌, ◌-◌, ◌*◌, ◌/◌, ◌<◌, ◌≤◌, min, List, length, All, Any, Bool, true, false, ◌||◌, nat_lt, Option, Some, None, ◌∙◌, ap, sym, subst, refl, inl, inr, ⊎_elim, arith, le-div_iff_mul-le}
use Rattle.std.proofs.lemmas.Bool.{cases_lt, lt-ltb, le-ltb}
use Rattle.std.proofs.lemmas.List.FromFn.{length-map-range_with_len, get_or-map-range_with_len}
use Rattle.siit_model.specs.Bytes.{part}
use Rattle.siit_model.specs.Fragments.{Datagram, Fragment}
use Rattle.siit_fragments.specs.Pieces.{piece_count, piece_of, pieces_of}
use Rattle.siit_fragments.specs.Covers.{start_of, end_of, IsSliceOf, IsFragmentOf, HoldsByte, LeavesChecksum, IsPart}
use Rattle.siit_fragments.proofs.Parts.{length-part, part-part, part-fill}

-- a piece begins within the data
pub begins-within : (blocks len k : ℕ) → 0 < blocks → k < piece_count blocks len → 8 * (k * blocks) < len
begins-within blocks len k some below =
    let big : suc k * (8 * blocks) ≤ len + (8 * blocks - 1) = (le-div_iff_mul-le {k = 8 * blocks} (omega arith)).0 below in
    omega arith

pub is-counted : (blocks len k : ℕ) → 0 < blocks → 8 * (k * blocks) < len → k < piece_count blocks len
is-counted blocks len k some begins =
    let big : suc k * (8 * blocks) ≤ len + (8 * blocks - 1) = omega arith in
    (le-div_iff_mul-le {k = 8 * blocks} (omega arith)).1 big

-- what holds of each piece
pub All-pieces : (P : Fragment → Type 0) (blocks : ℕ) (f : Fragment) → 0 < blocks
    → ((k : ℕ) → 8 * (k * blocks) < length f.bytes → P (piece_of blocks f k)) → All P (pieces_of blocks f)
All-pieces P blocks f some each =
    λ k d within.
    let below : k < piece_count blocks (length f.bytes) = subst (λ n. k < n) (length-map-range_with_len (piece_of blocks f) 0 (piece_count blocks (length f.bytes))) within in
    subst P (sym (get_or-map-range_with_len (piece_of blocks f) 0 (piece_count blocks (length f.bytes)) k k d below (omega arith)))
    (each k (begins-within blocks (length f.bytes) k some below))

-- a piece by its number
pub Any-pieces : (P : Fragment → Type 0) (blocks : ℕ) (f : Fragment) (k : ℕ) → 0 < blocks → 8 * (k * blocks) < length f.bytes
    → P (piece_of blocks f k) → Any P (pieces_of blocks f)
Any-pieces P blocks f k some begins holds =
    let below : k < piece_count blocks (length f.bytes) = is-counted blocks (length f.bytes) k some begins in (
      k,
      piece_of blocks f k,
      subst (λ n. k < n) (sym (length-map-range_with_len (piece_of blocks f) 0 (piece_count blocks (length f.bytes)))) below,
      get_or-map-range_with_len (piece_of blocks f) 0 (piece_count blocks (length f.bytes)) k k (piece_of blocks f k) below (omega arith),
      holds,
    )

-- how long a piece is
pub piece-length : (blocks : ℕ) (f : Fragment) (k : ℕ) → length (piece_of blocks f k).bytes ≡ min (8 * blocks) (length f.bytes - 8 * (k * blocks))
piece-length blocks f k = length-part f.bytes (8 * (k * blocks)) (8 * blocks)

or-true : (b : Bool) → (b || true) ≡ true
or-true true = refl
or-true false = refl

or-false : (b : Bool) → (b || false) ≡ b
or-false true = refl
or-false false = refl

-- More of a piece that isn't the last, and of the last
more-piece : (more : Bool) (start place unit len size total : ℕ) → more ≡ nat_lt (start + len) total → size ≡ min unit (len - place) → place < len
    → start + len ≤ total → (more || nat_lt (place + unit) len) ≡ nat_lt (start + place + size) total
more-piece more start place unit len size total is_more is_size begins inside =
    ⊎_elim
    (λ (inner : place + unit < len).
    ap (λ b. more || b) (lt-ltb (place + unit) len inner) ∙ or-true more ∙ sym (lt-ltb (start + place + size) total (omega arith)))
    (λ (last : len ≤ place + unit).
    ap (λ b. more || b) (le-ltb (place + unit) len last) ∙ or-false more ∙ is_more ∙ ap (λ n. nat_lt n total) (omega arith))
    (cases_lt (place + unit) len)

piece-slice : (payload : List ℕ) (blocks : ℕ) (f : Fragment) (k : ℕ) → IsSliceOf payload f → 8 * (k * blocks) < length f.bytes
    → IsSliceOf payload (piece_of blocks f k)
piece-slice payload blocks f k slice begins =
    let size = piece-length blocks f k in
    let place : ℕ = 8 * (k * blocks) in
    let held : List ℕ = part f.bytes place (8 * blocks) in
    let inside : 8 * f.offset + length f.bytes ≤ length payload = slice.inside in
    let start : 8 * f.offset + place ≡ 8 * (f.offset + k * blocks) = omega arith in
    record {
      inside = omega (arith, size, inside);
      bytes =
          part-fill f.bytes place (8 * blocks)
          ∙ ap (λ l. part l place (length held)) slice.bytes
          ∙ part-part payload (8 * f.offset) (length f.bytes) place (length held) (omega (arith, size))
          ∙ ap (λ a. part payload a (length held)) start;
      more =
          more-piece f.more (8 * f.offset) place (8 * blocks) (length f.bytes) (length held) (length payload) slice.more size begins inside
          ∙ ap (λ a. nat_lt (a + length held) (length payload)) start;
    }

pub piece-of_datagram : (d : Datagram) (id blocks : ℕ) (f : Fragment) (k : ℕ) → IsFragmentOf d id f → 8 * (k * blocks) < length f.bytes
    → IsFragmentOf d id (piece_of blocks f k)
piece-of_datagram d id blocks f k is begins = record {
  shares = is.shares;
  identified = is.identified;
  slice = piece-slice d.payload blocks f k is.slice begins;
}

-- each byte of a fragment is in one of its pieces
pub pieces-hold : (blocks place : ℕ) (f : Fragment) → 0 < blocks → HoldsByte place f → Any (HoldsByte place) (pieces_of blocks f)
pieces-hold blocks place f some holds =
    let from : 8 * f.offset ≤ place = holds.0 in
    let upto : place < 8 * f.offset + length f.bytes = holds.1 in
    let k : ℕ = (place - 8 * f.offset) / (8 * blocks) in
    let low : 8 * (k * blocks) ≤ place - 8 * f.offset = omega arith in
    let high : place - 8 * f.offset < 8 * (k * blocks) + 8 * blocks = omega arith in
    let size = piece-length blocks f k in
    Any-pieces (HoldsByte place) blocks f k some (omega arith) (omega arith, omega (arith, size))

-- a place whose two bytes lie in the first 24
abbrev pub IsEarly : Option ℕ → Type 0
IsEarly None = Unit {0}
IsEarly (Some place) = place + 2 ≤ 24

piece-leaves : (place : Option ℕ) (blocks : ℕ) (f : Fragment) (k : ℕ) → IsEarly place → 3 ≤ blocks → 8 * (k * blocks) < length f.bytes
    → LeavesChecksum place f → LeavesChecksum place (piece_of blocks f k)
piece-leaves None blocks f k early big begins leaves = tt
piece-leaves (Some place) blocks f zero early big begins leaves =
    let size = piece-length blocks f zero in
    ⊎_elim (λ (first : f.offset ≡ 0). inl (omega arith))
    (⊎_elim (λ (before : end_of f ≤ place). inr (inl (omega (arith, size)))) (λ (behind : place + 2 ≤ start_of f). inr (inr (omega arith)))) leaves
piece-leaves (Some place) blocks f (suc k) early big begins leaves = inr (inr (omega arith))

piece-cut : (blocks : ℕ) (f : Fragment) (k : ℕ) → 0 < blocks → 8 * blocks < length f.bytes → (0 < f.offset + k * blocks) ⊎ ((piece_of blocks f k).more ≡ true)
piece-cut blocks f zero some long = inr (ap (λ b. f.more || b) (lt-ltb (8 * (0 * blocks) + 8 * blocks) (length f.bytes) (omega arith)) ∙ or-true f.more)
piece-cut blocks f (suc k) some long = inl (omega arith)

pub piece-is_part : (place : Option ℕ) (blocks : ℕ) (f : Fragment) (k : ℕ) → IsEarly place → 3 ≤ blocks → 8 * blocks < length f.bytes
    → 8 * (k * blocks) < length f.bytes → LeavesChecksum place f → IsPart place (piece_of blocks f k)
piece-is_part place blocks f k early big long begins leaves =
    let size = piece-length blocks f k in
    record {
      cut = piece-cut blocks f k (omega arith) long;
      payload = omega (arith, size);
      leaves = piece-leaves place blocks f k early big begins leaves;
    }
