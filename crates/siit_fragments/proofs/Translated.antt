-- Fragments of which the checksum is changed in the first alone.
use Rattle.std.proofs.Common.{◌≡◌, ◌⊎◌, ℕ, zero, suc, ◌+◌, ◌*◌, ◌<◌, ◌≤◌, List, length, take, map, get_or, All, Any, true, nat_lt, Option, Some, None, ◌∙◌, ap, sym, subst, refl, inl, inr, ⊎_elim, arith, length-take}
use Rattle.std.proofs.lemmas.Bool.{lt-ltb, ltb-true, cond_both, cond-true}
use Rattle.std.proofs.lemmas.List.{length-map}
use Rattle.std.proofs.lemmas.List.Elements.{All-map}
use Rattle.siit_model.specs.Bytes.{part, field16, with_field16}
use Rattle.siit_model.specs.Upper.{has_field16}
use Rattle.siit_model.specs.Checksum.{checksum_place}
use Rattle.siit_checksum.proofs.Fields.{length-with_field16}
use Rattle.siit_model.specs.Fragments.{Common, Datagram, Fragment}
use Rattle.siit_fragments.specs.Covers.{start_of, end_of, IsSliceOf, IsFragmentOf, HoldsByte, LeavesChecksum, IsPart, Covers}
use Rattle.siit_fragments.specs.Laws.{with_checksum, HasChecksum, IsTranslated}
use Rattle.siit_fragments.proofs.Parts.{part-with_field16, take-with_field16, field16-take}
use Rattle.siit_fragments.proofs.Lists.{All-from_map, Any-from_map, Any-map}

pub length-with_checksum : (place : Option ℕ) (new : ℕ → ℕ) (bytes : List ℕ) → length (with_checksum place new bytes) ≡ length bytes
length-with_checksum None new bytes = refl
length-with_checksum (Some place) new bytes =
    cond_both (has_field16 bytes place) (with_field16 bytes place (new (field16 bytes place))) bytes (λ l. length l ≡ length bytes)
    (λ has. length-with_field16 bytes place (new (field16 bytes place)) (ltb-true (place + 1) (length bytes) has)) (λ _. refl)

-- a changed checksum in the first bytes
with_checksum-take : (place : Option ℕ) (new : ℕ → ℕ) (bytes : List ℕ) (n : ℕ) → n ≤ length bytes → HasChecksum place (take n bytes)
    → with_checksum place new (take n bytes) ≡ take n (with_checksum place new bytes)
with_checksum-take None new bytes n fits has = refl
with_checksum-take (Some place) new bytes n fits has =
    let size = length-take n bytes in
    let inside : place + 2 ≤ n = omega (arith, has, size) in
    cond-true (has_field16 (take n bytes) place) (with_field16 (take n bytes) place (new (field16 (take n bytes) place))) (take n bytes)
    (lt-ltb (place + 1) (length (take n bytes)) (omega (arith, has)))
    ∙ ap (λ v. with_field16 (take n bytes) place (new v)) (field16-take bytes place n (omega arith))
    ∙ sym (take-with_field16 bytes place (new (field16 bytes place)) n inside fits)
    ∙ ap (λ l. take n l) (sym (cond-true (has_field16 bytes place) (with_field16 bytes place (new (field16 bytes place))) bytes (lt-ltb (place + 1) (length bytes) (omega arith))))

-- a part that holds neither byte of it
abbrev IsApart : Option ℕ → (from upto : ℕ) → Type 0
IsApart None from upto = Unit {0}
IsApart (Some place) from upto = (upto ≤ place) ⊎ (place + 2 ≤ from)

with_checksum-part : (place : Option ℕ) (new : ℕ → ℕ) (bytes : List ℕ) (a n : ℕ) → IsApart place a (a + n)
    → part (with_checksum place new bytes) a n ≡ part bytes a n
with_checksum-part None new bytes a n apart = refl
with_checksum-part (Some place) new bytes a n apart =
    cond_both (has_field16 bytes place) (with_field16 bytes place (new (field16 bytes place))) bytes (λ l. part l a n ≡ part bytes a n)
    (λ has. let inside : place + 1 < length bytes = ltb-true (place + 1) (length bytes) has in
    part-with_field16 bytes place (new (field16 bytes place)) a n apart (omega arith)) (λ _. refl)

later-apart : (place : Option ℕ) (f : Fragment) → 0 < f.offset → LeavesChecksum place f → IsApart place (start_of f) (start_of f + length f.bytes)
later-apart None f later leaves = tt
later-apart (Some place) f later leaves = ⊎_elim (λ (first : f.offset ≡ 0). absurd (omega arith)) (λ h. h) leaves

cases_offset : (n : ℕ) → (n ≡ 0) ⊎ (0 < n)
cases_offset zero = inl refl
cases_offset (suc n) = inr (omega arith)

-- where the place of a change is the place of the checksum, or there is none
apart-at : (place checksum : Option ℕ) (from upto : ℕ) → (place ≡ None) ⊎ (place ≡ checksum) → IsApart checksum from upto → IsApart place from upto
apart-at place checksum from upto at apart =
    ⊎_elim (λ (none : place ≡ None). subst (λ p. IsApart p from upto) (sym none) tt)
    (λ (same : place ≡ checksum). subst (λ p. IsApart p from upto) (sym same) apart) at

module _ (place checksum : Option ℕ) (new : ℕ → ℕ) (at : (place ≡ None) ⊎ (place ≡ checksum)) (common : Common) (id : ℕ) where
  translated-length : (f g : Fragment) → IsTranslated place new common id f g → length g.bytes ≡ length f.bytes
  translated-length f g is =
      ⊎_elim (λ (first : f.offset ≡ 0). ap length (is.first first) ∙ length-with_checksum place new f.bytes)
      (λ (later : 0 < f.offset). ap length (is.later later)) (cases_offset f.offset)

  translated-bytes : (payload : List ℕ) (f g : Fragment) → IsSliceOf payload f → LeavesChecksum checksum f → IsTranslated place new common id f g
      → g.bytes ≡ part (with_checksum place new payload) (start_of f) (length f.bytes)
  translated-bytes payload f g slice leaves is =
      ⊎_elim
      (λ (first : f.offset ≡ 0).
      let inside : 8 * f.offset + length f.bytes ≤ length payload = slice.inside in
      let front : f.bytes ≡ take (length f.bytes) payload = slice.bytes ∙ ap (λ o. part payload (8 * o) (length f.bytes)) first in
      is.first first
      ∙ ap (λ l. with_checksum place new l) front
      ∙ with_checksum-take place new payload (length f.bytes) (omega arith) (subst (λ l. HasChecksum place l) front (is.held first))
      ∙ ap (λ o. part (with_checksum place new payload) (8 * o) (length f.bytes)) (sym first))
      (λ (later : 0 < f.offset).
      is.later later
      ∙ slice.bytes
      ∙ sym (with_checksum-part place new payload (start_of f) (length f.bytes) (apart-at place checksum (start_of f) (start_of f + length f.bytes) at (later-apart checksum f later leaves))))
      (cases_offset f.offset)

  translated-slice : (payload : List ℕ) (f g : Fragment) → IsSliceOf payload f → LeavesChecksum checksum f → IsTranslated place new common id f g
      → IsSliceOf (with_checksum place new payload) g
  translated-slice payload f g slice leaves is =
      let size : length g.bytes ≡ length f.bytes = translated-length f g is in
      let whole = length-with_checksum place new payload in
      let offset = is.offset in
      let inside : 8 * f.offset + length f.bytes ≤ length payload = slice.inside in
      let ends : end_of f ≡ end_of g = omega arith in
      record {
        inside = omega arith;
        bytes =
            translated-bytes payload f g slice leaves is
            ∙ ap (λ o. part (with_checksum place new payload) (8 * o) (length f.bytes)) (sym offset)
            ∙ ap (λ n. part (with_checksum place new payload) (8 * g.offset) n) (sym size);
        more =
            is.more ∙ slice.more ∙ ap (λ n. nat_lt n (length payload)) ends
            ∙ ap (λ n. nat_lt (end_of g) n) (sym whole);
      }

  translated-holds : (k : ℕ) (f g : Fragment) → IsTranslated place new common id f g → HoldsByte k f → HoldsByte k g
  translated-holds k f g is holds =
      let size : length g.bytes ≡ length f.bytes = translated-length f g is in
      let offset = is.offset in
      let from : 8 * f.offset ≤ k = holds.0 in
      let upto : k < 8 * f.offset + length f.bytes = holds.1 in
      (omega arith, omega arith)

  translated-part : (f g : Fragment) → IsTranslated place new common id f g → IsPart checksum f → IsPart checksum g
  translated-part f g is one =
      let size : length g.bytes ≡ length f.bytes = translated-length f g is in
      let offset = is.offset in
      let some : 0 < length f.bytes = one.payload in
      record {
        cut = ⊎_elim (λ (later : 0 < f.offset). inl (omega arith)) (λ (more : f.more ≡ true). inr (is.more ∙ more)) one.cut;
        payload = omega arith;
        leaves = leaves checksum one.leaves size offset;
      }
    where
      leaves : (p : Option ℕ) → LeavesChecksum p f → length g.bytes ≡ length f.bytes → g.offset ≡ f.offset → LeavesChecksum p g
      leaves None l same there = tt
      leaves (Some p) l same there =
          ⊎_elim (λ (first : f.offset ≡ 0). inl (omega arith))
          (⊎_elim (λ (before : end_of f ≤ p). inr (inl (omega arith))) (λ (behind : p + 2 ≤ start_of f). inr (inr (omega arith)))) l

-- Fragments that are parts, translated one by one, cover the datagram whose checksum is changed.
pub translated-covers : {X : Type 0} (seen image : X → Fragment) (xs : List X) (place : Option ℕ) (new : ℕ → ℕ) (id : ℕ) (d e : Datagram)
    → (place ≡ None) ⊎ (place ≡ checksum_place d.common.protocol)
    → checksum_place e.common.protocol ≡ checksum_place d.common.protocol
    → e.payload ≡ with_checksum place new d.payload
    → All (IsPart (checksum_place d.common.protocol)) (map seen xs)
    → All (λ x. IsTranslated place new e.common id (seen x) (image x)) xs
    → Covers d (map seen xs) → Covers e (map image xs)
translated-covers seen image xs place new id d e at same payload parts is c =
    let checksum : Option ℕ = checksum_place d.common.protocol in
    let part_of = All-from_map (IsPart checksum) seen xs parts in
    let of = All-from_map (IsFragmentOf d c.id) seen xs c.parts in
    let size : length e.payload ≡ length d.payload = ap length payload ∙ length-with_checksum place new d.payload in
    record {
      id = id;
      some = subst (λ n. 0 < n) (length-map xs seen ∙ sym (length-map xs image)) c.some;
      parts = All-map (IsFragmentOf e id) image xs (λ k x within. record {
        shares = (is k x within).shares;
        identified = (is k x within).identified;
        slice = subst (λ l. IsSliceOf l (image (get_or xs k x))) (sym payload)
            (translated-slice place checksum new at e.common id d.payload (seen (get_or xs k x)) (image (get_or xs k x)) (of k x within).slice (part_of k x within).leaves (is k x within));
      });
      every = λ k below. Any-map (HoldsByte k) image xs (held k (Any-from_map (HoldsByte k) seen xs (c.every k (subst (λ n. k < n) size below))));
      form = inr (All-map (IsPart (checksum_place e.common.protocol)) image xs (λ k x within.
          subst (λ p. IsPart p (image (get_or xs k x))) (sym same)
          (translated-part place checksum new at e.common id (seen (get_or xs k x)) (image (get_or xs k x)) (is k x within) (part_of k x within))));
    }
  where
    held : (k : ℕ) → Any (λ x. HoldsByte k (seen x)) xs → Any (λ x. HoldsByte k (image x)) xs
    held k any =
        let there : get_or xs any.0 any.1 ≡ any.1 = any.3 in (
          any.0,
          any.1,
          any.2,
          any.3,
          translated-holds place (checksum_place d.common.protocol) new at e.common id k (seen any.1) (image any.1)
              (subst (λ x. IsTranslated place new e.common id (seen x) (image x)) there (is any.0 any.1 any.2)) any.4,
        )
