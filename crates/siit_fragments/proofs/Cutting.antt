-- Fragments that are cut again.
use Rattle.std.proofs.Common.{◌≡◌, ◌⊎◌, ℕ, ◌*◌, ◌<◌, ◌≤◌, List, [], ◌∷◌, length, map, get_or, append-nil, flat_map, All, Any, true, ◌==◌, Option, Some, None, sym, subst, refl, inl, inr, ⊎_elim, arith}
use Rattle.std.proofs.lemmas.Bool.{cond_both}
use Rattle.std.proofs.lemmas.List.{length-map}
use Rattle.std.proofs.lemmas.List.Elements.{All-cons, All-nil, All-head}
use Rattle.siit_model.specs.Checksum.{checksum_place}
use Rattle.siit_model.specs.Fragments.{Datagram, Fragment, is_whole}
use Rattle.siit_fragments.specs.Pieces.{piece_of, pieces_of}
use Rattle.siit_fragments.specs.Covers.{Covers, IsFragmentOf, HoldsByte, IsOneWhole, LeavesChecksum, IsPart}
use Rattle.siit_fragments.specs.Laws.{IsCut}
use Rattle.siit_fragments.proofs.Lists.{All-flat_map, All-from_map, Any-flat_map, Any-from_map, some-flat_map}
use Rattle.siit_fragments.proofs.Wholes.{whole-fields}
use Rattle.siit_fragments.proofs.Pieces.{All-pieces, Any-pieces, IsEarly, piece-of_datagram, pieces-hold, piece-is_part}

pub checksum-early : (protocol : ℕ) → IsEarly (checksum_place protocol)
checksum-early protocol =
    cond_both (protocol == 1) (Some 2) _ IsEarly (λ _. omega arith) (λ _.
    cond_both (protocol == 6) (Some 16) _ IsEarly (λ _. omega arith) (λ _.
    cond_both (protocol == 17) (Some 6) _ IsEarly (λ _. omega arith) (λ _.
    cond_both (protocol == 58) (Some 2) None IsEarly (λ _. omega arith) (λ _. tt))))

-- something that holds of a fragment and of each of its pieces
cut-all : (P : Fragment → Type 0) (f : Fragment) (pieces : List Fragment) → IsCut f pieces → P f
    → ((blocks k : ℕ) → 3 ≤ blocks → 8 * blocks < length f.bytes → 8 * (k * blocks) < length f.bytes → P (piece_of blocks f k)) → All P pieces
cut-all P f pieces is_cut here each =
    ⊎_elim (λ (same : pieces ≡ f ∷ []). subst (λ l. All P l) (sym same) (All-cons P f [] here (All-nil P)))
    (λ (cut : (blocks : ℕ) × (3 ≤ blocks) × (8 * blocks < length f.bytes) × (pieces ≡ pieces_of blocks f)).
    let big : 3 ≤ cut.0 = cut.1 in
    subst (λ l. All P l) (sym cut.3) (All-pieces P cut.0 f (omega arith) (λ k begins. each cut.0 k big cut.2 begins)))
    is_cut

cut-holds : (place : ℕ) (f : Fragment) (pieces : List Fragment) → IsCut f pieces → HoldsByte place f → Any (HoldsByte place) pieces
cut-holds place f pieces is_cut holds =
    ⊎_elim (λ (same : pieces ≡ f ∷ []). subst (λ l. Any (HoldsByte place) l) (sym same) (0, f, omega arith, refl, holds))
    (λ (cut : (blocks : ℕ) × (3 ≤ blocks) × (8 * blocks < length f.bytes) × (pieces ≡ pieces_of blocks f)).
    let big : 3 ≤ cut.0 = cut.1 in
    subst (λ l. Any (HoldsByte place) l) (sym cut.3) (pieces-hold cut.0 place f (omega arith) holds))
    is_cut

cut-some : (f : Fragment) (pieces : List Fragment) → IsCut f pieces → 0 < length pieces
cut-some f pieces is_cut =
    ⊎_elim (λ (same : pieces ≡ f ∷ []). subst (λ (l : List Fragment). 0 < length l) (sym same) (omega arith))
    (λ (cut : (blocks : ℕ) × (3 ≤ blocks) × (8 * blocks < length f.bytes) × (pieces ≡ pieces_of blocks f)).
    let big : 3 ≤ cut.0 = cut.1 in
    let long : 8 * cut.0 < length f.bytes = cut.2 in
    let any = Any-pieces (λ g. Unit {0}) cut.0 f 0 (omega arith) (omega arith) tt in
    let within : any.0 < length (pieces_of cut.0 f) = any.2 in
    let some : 0 < length (pieces_of cut.0 f) = omega arith in
    subst (λ (l : List Fragment). 0 < length l) (sym cut.3) some)
    is_cut

-- a whole packet alone stays one, or becomes parts
cut-whole : (place : Option ℕ) (f : Fragment) (pieces : List Fragment) → IsEarly place → IsCut f pieces → is_whole f ≡ true
    → IsOneWhole pieces ⊎ All (IsPart place) pieces
cut-whole place f pieces early is_cut whole =
    ⊎_elim (λ (same : pieces ≡ f ∷ []). inl (subst IsOneWhole (sym same) whole))
    (λ (cut : (blocks : ℕ) × (3 ≤ blocks) × (8 * blocks < length f.bytes) × (pieces ≡ pieces_of blocks f)).
    let big : 3 ≤ cut.0 = cut.1 in
    inr (subst (λ l. All (IsPart place) l) (sym cut.3) (All-pieces (IsPart place) cut.0 f (omega arith)
    (λ k begins. piece-is_part place cut.0 f k early big cut.2 begins (whole-leaves place f whole)))))
    is_cut
  where
    whole-leaves : (p : Option ℕ) (g : Fragment) → is_whole g ≡ true → LeavesChecksum p g
    whole-leaves None g is = tt
    whole-leaves (Some p) g is = inl (whole-fields g is).offset

module _ {X : Type 0} (seen : X → Fragment) (cut : X → List Fragment) where
  cut-form : (place : Option ℕ) (xs : List X) → IsEarly place → All (λ x. IsCut (seen x) (cut x)) xs
      → IsOneWhole (map seen xs) ⊎ All (IsPart place) (map seen xs) → IsOneWhole (flat_map cut xs) ⊎ All (IsPart place) (flat_map cut xs)
  cut-form place xs early cuts form =
      ⊎_elim (λ (one : IsOneWhole (map seen xs)). alone xs cuts one)
      (λ (parts : All (IsPart place) (map seen xs)).
      let each = All-from_map (IsPart place) seen xs parts in
      inr (All-flat_map (IsPart place) cut xs (λ k e within.
      cut-all (IsPart place) (seen (get_or xs k e)) (cut (get_or xs k e)) (cuts k e within) (each k e within)
      (λ blocks j big long begins. piece-is_part place blocks (seen (get_or xs k e)) j early big long begins (each k e within).leaves))))
      form
    where
      alone : (ys : List X) → All (λ x. IsCut (seen x) (cut x)) ys → IsOneWhole (map seen ys) → IsOneWhole (flat_map cut ys) ⊎ All (IsPart place) (flat_map cut ys)
      alone [] all one = absurd one
      alone (x ∷ []) all one =
          subst (λ l. IsOneWhole l ⊎ All (IsPart place) l) (sym (append-nil (cut x)))
          (cut-whole place (seen x) (cut x) early (All-head (λ y. IsCut (seen y) (cut y)) x [] all) one)
      alone (x ∷ y ∷ ys) all one = absurd one

  pub cut-covers : (d : Datagram) (xs : List X) → All (λ x. IsCut (seen x) (cut x)) xs → Covers d (map seen xs) → Covers d (flat_map cut xs)
  cut-covers d xs cuts c =
      let each = All-from_map (IsFragmentOf d c.id) seen xs c.parts in
      record {
        id = c.id;
        some = some-flat_map cut xs (subst (λ n. 0 < n) (length-map xs seen) c.some) (λ k e within. cut-some (seen (get_or xs k e)) (cut (get_or xs k e)) (cuts k e within));
        parts = All-flat_map (IsFragmentOf d c.id) cut xs (λ k e within.
            cut-all (IsFragmentOf d c.id) (seen (get_or xs k e)) (cut (get_or xs k e)) (cuts k e within) (each k e within)
            (λ blocks j big long begins. piece-of_datagram d c.id blocks (seen (get_or xs k e)) j (each k e within) begins));
        every = λ place below. Any-flat_map (λ x. HoldsByte place (seen x)) (HoldsByte place) cut xs
            (λ k e within holds. cut-holds place (seen (get_or xs k e)) (cut (get_or xs k e)) (cuts k e within) holds)
            (Any-from_map (HoldsByte place) seen xs (c.every place below));
        form = cut-form (checksum_place d.common.protocol) xs (checksum-early d.common.protocol) cuts c.form;
      }
