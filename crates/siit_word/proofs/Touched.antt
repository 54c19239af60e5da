-- What calls on files do one after another.
use Rattle.std.proofs.Common.{◌≡◌, ◌⊎◌, ℕ, ◌+◌, ◌≤◌, List, [], ◌∷◌, ◌++◌, length, take, Bool, IsTrue, Option, Some, None, inl, inr, refl, ap, sym, subst, ◌∙◌, arith, append_assoc, length-append}
use Rattle.std.proofs.lemmas.List.{append-nil, take_all, take-append-le, take_at, drop_at}
use Rattle.std.proofs.Math.Seq.{take-add}
use Rattle.siit_word.specs.Files.{grown, Appended, AppendedPart, FilesMeaning, IsNoneOf, Touches, Written, WrittenPart}

-- Nothing was touched.
pub touches_none : {a : FilesMeaning} {reads writes : List (List ℕ)} → Touches a a reads writes
touches_none = record {
  told = λ q. refl;
  contents = λ q none. refl;
  given = λ q none. refl;
  read_faults = λ q. omega arith;
  write_faults = λ q. omega arith;
}

-- Twice the same files were touched.
pub touches_then : {a b c : FilesMeaning} {reads writes : List (List ℕ)} → Touches a b reads writes → Touches b c reads writes → Touches a c reads writes
touches_then first more = record {
  told = λ q. more.told q ∙ first.told q;
  contents = λ q none. more.contents q none ∙ first.contents q none;
  given = λ q none. more.given q none ∙ first.given q none;
  read_faults = λ q. omega (arith, first.read_faults q, more.read_faults q);
  write_faults = λ q. omega (arith, first.write_faults q, more.write_faults q);
}

-- Fewer files were touched than may be.
pub touches_among : {a b : FilesMeaning} {reads writes more_reads more_writes : List (List ℕ)} → Touches a b reads writes → ((q : List ℕ) → IsNoneOf q more_reads → IsNoneOf q reads) → ((q : List ℕ) → IsNoneOf q more_writes → IsNoneOf q writes) → Touches a b more_reads more_writes
touches_among h reads writes = record {
  told = h.told;
  contents = λ q none. h.contents q (writes q none);
  given = λ q none. h.given q (reads q none);
  read_faults = h.read_faults;
  write_faults = h.write_faults;
}

-- What is told after was told before.
pub told_before : {a b : FilesMeaning} {reads writes : List (List ℕ)} → Touches a b reads writes → (q : List ℕ) → IsTrue (b.told q) → IsTrue (a.told q)
told_before h q told = subst (λ (x : Bool). IsTrue x) (h.told q) told

pub told_after : {a b : FilesMeaning} {reads writes : List (List ℕ)} → Touches a b reads writes → (q : List ℕ) → IsTrue (a.told q) → IsTrue (b.told q)
told_after h q told = subst (λ (x : Bool). IsTrue x) (sym (h.told q)) told

-- a file that grew twice
pub grown-grown : (file : Option (List ℕ)) (first more : List ℕ) → grown (grown file first) more ≡ grown file (first ++ more)
grown-grown (Some xs) first more = ap Some (append_assoc xs first more)
grown-grown None [] more = refl
grown-grown None (b ∷ bs) more = refl

grown-none : (file : Option (List ℕ)) → file ≡ grown file []
grown-none (Some xs) = ap Some (sym (append-nil xs))
grown-none None = refl

pub appended_none : {a : FilesMeaning} {name : List ℕ} → Appended a a name []
appended_none {a} {name} = record { only = touches_none; file = λ told. grown-none (a.contents name) }

pub appended_then : {a b c : FilesMeaning} {name xs ys : List ℕ} → Appended a b name xs → Appended b c name ys → Appended a c name (xs ++ ys)
appended_then {a} {b} {c} {name} {xs} {ys} first more = record {
  only = touches_then first.only more.only;
  file = λ told. more.file told ∙ ap (λ f. grown f ys) (first.file (told_before more.only name told)) ∙ grown-grown (a.contents name) xs ys;
}

appended_take : (n : ℕ) (xs ys : List ℕ) → xs ++ take n ys ≡ take (length xs + n) (xs ++ ys)
appended_take n xs ys =
    ap (λ zs. zs ++ take n ys) (sym (take_at xs ys (length xs) refl)) ∙ ap (λ zs. take (length xs) (xs ++ ys) ++ take n zs) (sym (drop_at xs ys (length xs) refl))
    ∙ sym (take-add (length xs) n (xs ++ ys))

pub appended_part : {a b c : FilesMeaning} {name xs ys : List ℕ} → Appended a b name xs → AppendedPart b c name ys → AppendedPart a c name (xs ++ ys)
appended_part {a} {b} {c} {name} {xs} {ys} first more = record {
  only = touches_then first.only more.only;
  file = λ told.
      let part = more.file told in
      let n = part.0 in (
        length xs + n,
        omega (arith, part.1, length-append xs ys),
        part.2 ∙ ap (λ f. grown f (take n ys)) (first.file (told_before more.only name told)) ∙ grown-grown (a.contents name) xs (take n ys)
            ∙ ap (grown (a.contents name)) (appended_take n xs ys),
      );
}

pub written_then : {a b c : FilesMeaning} {name xs ys : List ℕ} → Written a b name xs → Appended b c name ys → Written a c name (xs ++ ys)
written_then {a} {b} {c} {name} {xs} {ys} first more = record {
  only = touches_then first.only more.only;
  file = λ told. more.file told ∙ ap (λ f. grown f ys) (first.file (told_before more.only name told));
}

pub written_part : {a b c : FilesMeaning} {name xs ys : List ℕ} → Written a b name xs → AppendedPart b c name ys → WrittenPart a c name (xs ++ ys)
written_part {a} {b} {c} {name} {xs} {ys} first more = record {
  only = touches_then first.only more.only;
  file = λ told.
      let part = more.file told in
      let n = part.0 in
      inr (
        length xs + n,
        omega (arith, part.1, length-append xs ys),
        part.2 ∙ ap (λ f. grown f (take n ys)) (first.file (told_before more.only name told)) ∙ ap Some (appended_take n xs ys),
      );
}

front_part : (old new : Option (List ℕ)) (xs ys : List ℕ) → (new ≡ old) ⊎ ((n : ℕ) × (n ≤ length xs) × (new ≡ Some (take n xs))) → (new ≡ old) ⊎ ((n : ℕ) × (n ≤ length (xs ++ ys)) × (new ≡ Some (take n (xs ++ ys))))
front_part old new xs ys (inl same) = inl same
front_part old new xs ys (inr part) =
    inr (part.0, omega (arith, part.1, length-append xs ys), part.2 ∙ ap Some (sym (take-append-le part.0 xs ys part.1)))

-- A part of the front is a part of the whole.
pub written_front : {a b : FilesMeaning} {name xs : List ℕ} (ys : List ℕ) → WrittenPart a b name xs → WrittenPart a b name (xs ++ ys)
written_front {a} {b} {name} {xs} ys part = record {
  only = part.only;
  file = λ told. front_part (a.contents name) (b.contents name) xs ys (part.file told);
}

-- The whole is a part too.
pub written_whole : {a b : FilesMeaning} {name text : List ℕ} → Written a b name text → WrittenPart a b name text
written_whole {a} {b} {name} {text} h = record {
  only = h.only;
  file = λ told. inr (length text, omega arith, h.file told ∙ ap Some (sym (take_all (length text) text (omega arith))));
}

-- A part of the front is a part of the whole.
pub appended_front : {a b : FilesMeaning} {name xs : List ℕ} (ys : List ℕ) → AppendedPart a b name xs → AppendedPart a b name (xs ++ ys)
appended_front {a} {b} {name} {xs} ys part = record {
  only = part.only;
  file = λ told.
      let p = part.file told in (
        p.0,
        omega (arith, p.1, length-append xs ys),
        p.2 ∙ ap (grown (a.contents name)) (sym (take-append-le p.0 xs ys p.1)),
      );
}
