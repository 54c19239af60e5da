-- Outputs that are made one after another.
use Rattle.std.proofs.Common.{◌≡◌, ◌⊎◌, inl, inr, ℕ, List, [], Option, Some, None, refl, ap, sym, subst, ◌∙◌}
use Rattle.siit_word.specs.Files.{FilesMeaning, Holds, IsNoneOf, Touches}
use Rattle.siit_word.proofs.Touched.{told_before, touches_none, written_whole}
use Rattle.siit_chain.specs.Log.{is_output}
use Rattle.siit_chain.specs.Outputs.{AreApart, WriteFailedIn, some_name}
use Rattle.siit_chain.specs.declared.origin.Output.{Output}
use Rattle.siit_chain.specs.declared.origin.Output.TheVariants.{Left, Right, Report}
use Rattle.siit_network.specs.Holding.{HoldParts, HoldTexts, IsMade, IsNotMade}

abbrev pub nothing : Output → List ℕ
nothing o = []

-- ONE FILE

pub touches_made : {a b : FilesMeaning} (name : Option (List ℕ)) → IsMade a b name → Touches a b [] (some_name name)
touches_made {a} None same = subst (λ now. Touches a now [] []) (sym same) touches_none
touches_made (Some name) made = made.only

pub touches_not_made : {a b : FilesMeaning} (name : Option (List ℕ)) → IsNotMade a b name → Touches a b [] (some_name name)
touches_not_made None made = elim made [ ]
touches_not_made (Some name) made = made.0.only

none_of : (name : List ℕ) (other : Option (List ℕ)) → (other ≡ Some name → ⊥) → IsNoneOf name (some_name other)
none_of name None isnt = tt
none_of name (Some q) isnt = (λ e. isnt (ap Some (sym e)), tt)

kept : {a b : FilesMeaning} (other : Option (List ℕ)) (name : List ℕ) → Touches a b [] (some_name other) → (other ≡ Some name → ⊥)
    → b.contents name ≡ a.contents name
kept other name only isnt = only.contents name (none_of name other isnt)

-- ALL

pub parts_then : {names : Output → Option (List ℕ)} {a b c : FilesMeaning} {writes : List (List ℕ)} → Touches b c [] writes
    → HoldParts names a b nothing → HoldParts names b c nothing → HoldParts names a c nothing
parts_then only first more = record {
  each = λ o name is told. elim (more.each o name is told) [
    | inl same ↦ elim (first.each o name is (told_before only name told)) [
      | inl before ↦ inl (same ∙ before)
      | inr part ↦ inr (part.0, part.1, same ∙ part.2)
    ]
    | inr part ↦ inr part
  ];
}

module _ (names : Output → Option (List ℕ)) (apart : AreApart names) where
  -- a file of this output, or of another one
  here_or_not : (o q : Output) (name : List ℕ) → names o ≡ Some name → (names q ≡ Some name) ⊎ (names q ≡ Some name → ⊥)
  here_or_not Left Left name is = inl is
  here_or_not Right Right name is = inl is
  here_or_not Report Report name is = inl is
  here_or_not Left Right name is = inr (λ e. let t = ap (λ p. is_output p Left) (apart Left Right name is e) in cc)
  here_or_not Left Report name is = inr (λ e. let t = ap (λ p. is_output p Left) (apart Left Report name is e) in cc)
  here_or_not Right Left name is = inr (λ e. let t = ap (λ p. is_output p Right) (apart Right Left name is e) in cc)
  here_or_not Right Report name is = inr (λ e. let t = ap (λ p. is_output p Right) (apart Right Report name is e) in cc)
  here_or_not Report Left name is = inr (λ e. let t = ap (λ p. is_output p Report) (apart Report Left name is e) in cc)
  here_or_not Report Right name is = inr (λ e. let t = ap (λ p. is_output p Report) (apart Report Right name is e) in cc)

  pub made_part : {a b : FilesMeaning} (q : Output) → IsMade a b (names q) → HoldParts names a b nothing
  made_part {a} {b} q made = record {
    each = λ o name is told. elim (here_or_not o q name is) [
      | inl here ↦ (written_whole (subst (IsMade a b) here made)).file told
      | inr isnt ↦ inl (kept (names q) name (touches_made (names q) made) isnt)
    ];
  }

  pub not_made_part : {a b : FilesMeaning} (q : Output) → IsNotMade a b (names q) → HoldParts names a b nothing
  not_made_part {a} {b} q made = record {
    each = λ o name is told. elim (here_or_not o q name is) [
      | inl here ↦ (subst (IsNotMade a b) here made).0.file told
      | inr isnt ↦ inl (kept (names q) name (touches_not_made (names q) made) isnt)
    ];
  }

  -- what an output holds stays where another one, or it again, is made
  held_on : (a b : FilesMeaning) (o q : Output) (name : List ℕ) → names o ≡ Some name → IsMade a b (names q) → Holds a name [] → Holds b name []
  held_on a b o q name is made holds told = elim (here_or_not o q name is) [
    | inl here ↦ (subst (IsMade a b) here made).file told
    | inr isnt ↦
        let only = touches_made (names q) made in
        kept (names q) name only isnt ∙ holds (told_before only name told)
  ]

  pub all_made : (a b c d : FilesMeaning) → IsMade a b (names Left) → IsMade b c (names Right) → IsMade c d (names Report)
      → HoldTexts names d nothing
  all_made a b c d left right report = record {
    each = λ o name is told. made_at o name is told;
  }
    where
      made_at : (o : Output) (name : List ℕ) → names o ≡ Some name → Holds d name []
      made_at Left name is = held_on c d Left Report name is report (held_on b c Left Right name is right (subst (IsMade a b) is left).file)
      made_at Right name is = held_on c d Right Report name is report (subst (IsMade b c) is right).file
      made_at Report name is = (subst (IsMade c d) is report).file

cause_by : {names : Output → Option (List ℕ)} {a b : FilesMeaning} (q : Output) (name : Option (List ℕ)) → names q ≡ name → IsNotMade a b name
    → WriteFailedIn names a b
cause_by q None is made = elim made [ ]
cause_by q (Some name) is made = record { output = q; name = name; named = is; failed = made.1 }

pub cause_of : {names : Output → Option (List ℕ)} {a b : FilesMeaning} (q : Output) → IsNotMade a b (names q) → WriteFailedIn names a b
cause_of {names} q made = cause_by q (names q) refl made
