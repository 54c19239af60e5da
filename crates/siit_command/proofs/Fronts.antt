-- A file that is read piece by piece.
use Rattle.std.proofs.Common.{◌≡◌, ℕ, ◌+◌, ◌-◌, ◌≤◌, ◌<◌, List, [], ◌∷◌, ◌++◌, length, take, drop, IsTrue, Option, Some, None, ap, sym, subst, ◌∙◌, arith, length-append, length-take}
use Rattle.std.proofs.Math.Seq.{take-add}
use Rattle.siit_word.specs.Files.{held, Copied, Copies, FilesMeaning, Touches}
use Rattle.siit_word.proofs.Touched.{told_after}

-- the bytes are the file's first ones
pub record IsFront (file : Option (List ℕ)) (bytes : List ℕ) : Type 0 where
  pub first : bytes ≡ take (length bytes) (held file)
  pub within : length bytes ≤ length (held file)

front_more : (whole bytes : List ℕ) (n : ℕ) (into : List ℕ) → bytes ≡ take (length bytes) whole → length bytes ≤ length whole → take n into ≡ take n (drop (length bytes) whole) → n ≤ length whole - length bytes → n ≤ length into → IsFront (Some whole) (bytes ++ take n into)
front_more whole bytes n into first within copied room fits =
    let long : length (bytes ++ take n into) ≡ length bytes + n = omega (arith, length-append bytes (take n into), length-take n into) in
    record {
      first = ap (λ xs. xs ++ take n into) first ∙ ap (λ xs. take (length bytes) whole ++ xs) copied ∙ sym (take-add (length bytes) n whole) ∙ ap (λ k. take k whole) (sym long);
      within = omega arith;
    }

pub IsFront-more : (file : Option (List ℕ)) (bytes : List ℕ) (n : ℕ) (into : List ℕ) → IsFront file bytes → Copies file (length bytes) n into → n ≤ length into → IsFront file (bytes ++ take n into)
IsFront-more None bytes n into before now fits = absurd now
IsFront-more (Some whole) bytes n into before now fits = front_more whole bytes n into before.first before.within now.0 now.1 fits

-- the bytes are the first of this file, where it is told
pub record HasRead (files : FilesMeaning) (name bytes : List ℕ) : Type 0 where
  pub front : IsTrue (files.told name) → IsFront (files.contents name) bytes

copied_since : {before mid after : FilesMeaning} {name into : List ℕ} {at count : ℕ} → Touches before mid (name ∷ []) [] → Copied mid after name at into count → IsTrue (before.told name) → Copies (before.contents name) at count into
copied_since {before} {mid} {after} {name} {into} {at} {count} only now told =
    subst (λ (x : Option (List ℕ)). Copies x at count into) (only.contents name tt) (now.bytes (told_after only name told))

-- a turn that read something
pub read_more : {before mid after : FilesMeaning} {name bytes into new : List ℕ} {at count : ℕ} → HasRead before name bytes → Touches before mid (name ∷ []) [] → Copied mid after name at into count → at ≡ length bytes → count ≤ length into → new ≡ bytes ++ take count into → HasRead before name new
read_more {before} {mid} {after} {name} {bytes} {into} {new} {at} {count} front only now place fits is = record {
  front = λ told.
      subst (λ (xs : List ℕ). IsFront (before.contents name) xs) (sym is)
      (IsFront-more (before.contents name) bytes count into (front.front told)
      (subst (λ (k : ℕ). Copies (before.contents name) k count into) place (copied_since only now told)) fits);
}

-- a buffer that was lent whole and written is not empty afterwards
pub room_left : (len : ℕ) (xs ys : List ℕ) → 0 < len → 0 < length xs → 0 < length (take len (xs ++ ys))
room_left len xs ys some more = omega (arith, length-take len (xs ++ ys), length-append xs ys)
