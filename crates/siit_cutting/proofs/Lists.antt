-- Lists that are joined, and whole packets.
use Rattle.std.proofs.Common.{◌≡◌, ℕ, ◌+◌, ◌*◌, ◌<◌, ◌≤◌, List, [], ◌∷◌, ◌++◌, length, map, get_or, flat_map, All, Bool, true, false, not, ◌==◌, Option, ◌∙◌, ap, sym, subst, refl, ⊎_elim, arith, take_all, ne_eqb}
use Rattle.std.proofs.lemmas.Bool.{ltb-false, and_left, and_right}
use Rattle.std.proofs.lemmas.List.{map-append, get_or_append_left, get_or-append-add, length-append}
use Rattle.siit_model.specs.Bytes.{part}
use Rattle.siit_model.specs.Fragments.{Common, Datagram, Fragment, is_whole}
use Rattle.siit_fragments.specs.Covers.{end_of, IsFragmentOf, IsPart}
use Rattle.siit_fragments.proofs.Wholes.{WholeFields, whole-fields}

pub map-flat_map : {X Y Z : Type 0} (h : Y → Z) (g : X → List Y) (xs : List X) → map h (flat_map g xs) ≡ flat_map (λ x. map h (g x)) xs
map-flat_map h g [] = refl
map-flat_map h g (x ∷ xs) = map-append h (g x) (flat_map g xs) ∙ ap (λ l. map h (g x) ++ l) (map-flat_map h g xs)

pub All-left : {Y : Type 0} (P : Y → Type 0) (xs ys : List Y) → All P (xs ++ ys) → All P xs
All-left P xs ys each = λ k e within. subst P (get_or_append_left xs ys e k within) (each k e (omega (arith, length-append xs ys)))

pub All-right : {Y : Type 0} (P : Y → Type 0) (xs ys : List Y) → All P (xs ++ ys) → All P ys
All-right P xs ys each = λ k e within. subst P (get_or-append-add xs ys k e) (each (length xs + k) e (omega (arith, length-append xs ys)))

-- what a whole packet holds of a datagram is all of it
pub whole-data : (d : Datagram) (id : ℕ) (f : Fragment) → is_whole f ≡ true → IsFragmentOf d id f → f.bytes ≡ d.payload
whole-data d id f whole of =
    let fields : WholeFields f = whole-fields f whole in
    let offset = fields.offset in
    let last : length d.payload ≤ 8 * f.offset + length f.bytes = ltb-false (end_of f) (length d.payload) (sym of.slice.more ∙ fields.more) in
    of.slice.bytes
    ∙ ap (λ o. part d.payload (8 * o) (length f.bytes)) offset
    ∙ take_all (length f.bytes) d.payload (omega arith)

-- a fragment with its fields told
pub same-fields : (f : Fragment) (common : Common) (offset : ℕ) (more : Bool) (held : List ℕ) → f.common ≡ common → f.offset ≡ offset → f.more ≡ more → f.bytes ≡ held
    → f ≡ record { common = common; id = f.id; offset = offset; more = more; bytes = held }
same-fields f common offset more held is_common is_offset is_more is_held = rw (← is_common, ← is_offset, ← is_more, ← is_held) refl

-- a whole packet but for its identification
pub whole-is : (d : Datagram) (id : ℕ) (f : Fragment) → is_whole f ≡ true → IsFragmentOf d id f
    → f ≡ record { common = d.common; id = f.id; offset = 0; more = false; bytes = d.payload }
whole-is d id f whole of =
    let fields : WholeFields f = whole-fields f whole in
    same-fields f d.common 0 false d.payload of.shares fields.offset fields.more (whole-data d id f whole of)

pub part-not_whole : (place : Option ℕ) (f : Fragment) → IsPart place f → is_whole f ≡ false
part-not_whole place f part =
    ⊎_elim (λ (later : 0 < f.offset). and_left (f.offset == 0) _ (ne_eqb f.offset 0 (λ (first : f.offset ≡ 0). omega arith)))
    (λ (more : f.more ≡ true). and_right (f.offset == 0) _ (ap not more)) part.cut

pub first-has_more : (place : Option ℕ) (f : Fragment) → IsPart place f → f.offset ≡ 0 → f.more ≡ true
first-has_more place f part first = ⊎_elim (λ (later : 0 < f.offset). absurd (omega arith)) (λ more. more) part.cut
