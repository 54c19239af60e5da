-- What marks tell of the files beneath.
use Rattle.std.proofs.Common.{◌≡◌, ◌≢◌, inl, inr, ℕ, ◌≤◌, ◌==◌, List, [], ◌∷◌, ◌++◌, Bool, true, false, IsUtf8, Option, Some, None, bytes_eq, if◌then◌else◌, refl, ap, sym, subst, ◌∙◌, arith}
use Rattle.std.proofs.lemmas.Bool.{cases_Bool}
use Rattle.std.proofs.lemmas.Bool.Decides.{nat_tests}
use Rattle.std.proofs.lemmas.Slice.Eq.{bytes_eq-Decides}
use Rattle.siit_word.specs.Files.{FilesMeaning, IsNoneOf, Touches}
use Rattle.siit_chain.specs.Outputs.{name_in, names_in, some_name}
use Rattle.siit_chain.specs.declared.origin.Output.{Output}
use Rattle.siit_chain.specs.declared.origin.Output.TheVariants.{Left, Right, Report}
use Rattle.siit_chain.specs.declared.origin.Outs.{Outs}
use Rattle.siit_making.specs.Crossings.{AreTexts}
use Rattle.siit_making.specs.Through.{Sight, contents_by, file, given_by, hidden_mark, marked_sight, nothing, other_mark, read_faults_by, reference, reference_mark, told_by, with_marks, write_faults_by}
use Rattle.siit_making.proofs.Sights.{not_mark}
use Rattle.siit_making.proofs.FirstByte.{sight_of_name}

pub same_text : (xs : List ℕ) → bytes_eq xs xs ≡ true
same_text xs = (bytes_eq-Decides xs xs).1 refl

-- THE REFERENCE

told_mark : (b : Bool) (files : FilesMeaning) → told_by (if b then reference else nothing) files ≡ true → b ≡ true
told_mark true files is = refl
told_mark false files is = is

-- The mark is told after, so the reference and the name are the same.
pub same_reference : {number other : ℕ} {name another bytes more : List ℕ} {a b : FilesMeaning} {reads writes : List (List ℕ)}
    → Touches (with_marks number a name bytes) (with_marks other b another more) reads writes → number ∷ name ≡ other ∷ another
same_reference {number} {other} {name} {another} {bytes} {more} {a} {b} only =
    let before : (with_marks number a name bytes).told (reference_mark number name) ≡ true =
    ap (λ (t : Bool). told_by (if t then reference else nothing) a) (same_text (number ∷ name)) in
    let after = only.told (reference_mark number name) ∙ before in
    (bytes_eq-Decides (number ∷ name) (other ∷ another)).0 (told_mark (bytes_eq (number ∷ name) (other ∷ another)) b after)

-- OUTPUTS

none_append : (q : List ℕ) (xs ys : List (List ℕ)) → IsNoneOf q xs → IsNoneOf q ys → IsNoneOf q (xs ++ ys)
none_append q [] ys first more = more
none_append q (x ∷ xs) ys first more = (first.0, none_append q xs ys first.1 more)

mark_unlike : (names : Output → Option (List ℕ)) (o : Output) (rest : List ℕ) (n : Option (List ℕ)) → names o ≡ n → AreTexts names → IsNoneOf (256 ∷ rest) (some_name n)
mark_unlike names o rest None is texts = tt
mark_unlike names o rest (Some q) is texts = (not_mark q rest (texts o q is), tt)

-- A mark is the name of no output.
mark_apart : (outs : Outs) (rest : List ℕ) → AreTexts (name_in outs) → IsNoneOf (256 ∷ rest) (names_in outs)
mark_apart outs rest texts =
    let names = name_in outs in
    none_append (256 ∷ rest) (some_name (names Left) ++ some_name (names Right)) (some_name (names Report))
    (none_append (256 ∷ rest) (some_name (names Left)) (some_name (names Right)) (mark_unlike names Left rest (names Left) refl texts)
    (mark_unlike names Right rest (names Right) refl texts))
    (mark_unlike names Report rest (names Report) refl texts)

-- THE FILES

module _ (number : ℕ) (name : List ℕ) (text : IsUtf8 name) (outs : Outs) (texts : AreTexts (name_in outs)) where
  -- a name by which a file is seen
  record Place (q : List ℕ) : Type 0 where
    at : List ℕ
    is : marked_sight number name at ≡ file q
    unlike : at ≢ name
    none : IsNoneOf q (names_in outs) → IsNoneOf at (names_in outs)

  place_itself : (q : List ℕ) → marked_sight number name q ≡ file q → q ≢ name → Place q
  place_itself q is other = record { at = q; is = is; unlike = other; none = λ none. none }

  place_mark : (rest : List ℕ) → Place (256 ∷ rest)
  place_mark rest = record {
    at = other_mark rest;
    is = refl;
    unlike = not_mark name (0 ∷ rest) text;
    none = λ none. mark_apart outs (0 ∷ rest) texts;
  }

  place_first : (b : Bool) (first : ℕ) (rest : List ℕ) → (first == 256) ≡ b → bytes_eq (first ∷ rest) name ≡ false → first ∷ rest ≢ name → Place (first ∷ rest)
  place_first true first rest is other apart =
      let same : first ≡ 256 = grind (arith, nat_tests) in
      subst (λ (n : ℕ). Place (n ∷ rest)) (sym same) (place_mark rest)
  place_first false first rest is other apart = place_itself (first ∷ rest) (rw (is, other) refl) apart

  place_other : (q : List ℕ) → bytes_eq q name ≡ false → q ≢ name → Place q
  place_other [] other apart = place_itself [] (rw other refl) apart
  place_other (first ∷ rest) other apart = place_first (first == 256) first rest refl other apart

  place_hidden : (q : List ℕ) → q ≡ name → Place q
  place_hidden q same = record {
    at = hidden_mark;
    is = ap file (sym same);
    unlike = not_mark name (1 ∷ []) text;
    none = λ none. mark_apart outs (1 ∷ []) texts;
  }

  place_of : (q : List ℕ) → Place q
  place_of q = elim (cases_Bool (bytes_eq q name)) [
    | inl same ↦ place_hidden q ((bytes_eq-Decides q name).0 same)
    | inr other ↦ place_other q other (λ e. let same = (bytes_eq-Decides q name).1 e in cc)
  ]

  module _ {bytes more : List ℕ} {a b : FilesMeaning} (only : Touches (with_marks number a name bytes) (with_marks number b name more) (name ∷ []) (names_in outs)) where
    -- The capture is the same.
    pub same_capture : IsNoneOf name (names_in outs) → more ≡ bytes
    same_capture apart =
        let seen_same : contents_by (marked_sight number name name) b more ≡ contents_by (marked_sight number name name) a bytes = only.contents name apart in
        let same : Some more ≡ Some bytes = subst (λ (s : Sight). contents_by s b more ≡ contents_by s a bytes) (sight_of_name number name name text (same_text name)) seen_same in
        cc

    -- Beneath, no file was read, and only those were written that are seen to be.
    pub touches_beneath : Touches a b [] (names_in outs)
    touches_beneath = record {
      told = λ q. let p = place_of q in subst (λ (s : Sight). told_by s b ≡ told_by s a) p.is (only.told p.at);
      contents = λ q none. let p = place_of q in
          subst (λ (s : Sight). contents_by s b more ≡ contents_by s a bytes) p.is (only.contents p.at (p.none none));
      given = λ q none. let p = place_of q in subst (λ (s : Sight). given_by s b ≡ given_by s a) p.is (only.given p.at (p.unlike, tt));
      read_faults = λ q. let p = place_of q in subst (λ (s : Sight). read_faults_by s a ≤ read_faults_by s b) p.is (only.read_faults p.at);
      write_faults = λ q. let p = place_of q in subst (λ (s : Sight). write_faults_by s a ≤ write_faults_by s b) p.is (only.write_faults p.at);
    }
