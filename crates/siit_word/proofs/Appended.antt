-- The turns of a loop that appends what is left.
use Rattle.std.proofs.Common.{◌≡◌, ℕ, ◌+◌, ◌-◌, ◌≤◌, ◌<◌, List, [], ◌∷◌, ◌++◌, length, take, drop, refl, ap, sym, subst, ◌∙◌, arith, min, false, ◌==◌, length-take, length-drop, length-append, Option, Some, None}
use Rattle.std.proofs.lemmas.Grind.{common_steps}
use Rattle.std.proofs.lemmas.List.{drop_at, drop-drop, take_all, take_at, take_rest, take-append-drop}
use Rattle.std.proofs.Math.Seq.{take-add}
use Rattle.siit_word.specs.Files.{grown, held, Added, Appended, AppendedPart, FilesMeaning, Touches}
use Rattle.siit_word.proofs.Touched.{appended_front, appended_none, appended_part, appended_then}

-- a file that has bytes is there
grown-some : (file : Option (List ℕ)) (bytes : List ℕ) → 0 < length bytes → Some (held file ++ bytes) ≡ grown file bytes
grown-some (Some xs) bytes some = refl
grown-some None [] some = grind arith
grown-some None (b ∷ bs) some = refl

-- a prefix that isn't empty
some_taken : (n : ℕ) (xs : List ℕ) → false ≡ (length xs == 0) → min 1 (length xs) ≤ n → 0 < length (take n xs)
some_taken n xs some enough = grind (arith, length-take)

-- how far the loop is: the first bytes were appended, and these are left
pub record HasAppended (before now : FilesMeaning) (name bytes left : List ℕ) : Type 0 where
  pub count : ℕ
  pub within : count ≤ length bytes
  pub rest : left ≡ drop count bytes
  pub appended : Appended before now name (take count bytes)

pub begun : {files : FilesMeaning} {name bytes : List ℕ} → HasAppended files files name bytes bytes
begun = record { count = 0; within = omega arith; rest = refl; appended = appended_none }

pub more_appended : {before mid now : FilesMeaning} {name bytes left : List ℕ} (n : ℕ) → HasAppended before mid name bytes left → false ≡ (length left == 0) → n ≤ length left → Added mid now name left n → Touches mid now [] (name ∷ []) → HasAppended before now name bytes (take (length left - n) (drop n left))
more_appended {before} {mid} {now} {name} {bytes} {left} n h some fits added only =
    let more : Appended mid now name (take n left) = record {
      only = only;
      file = λ told. added.file told ∙ grown-some (mid.contents name) (take n left) (some_taken n left some added.some);
    } in
    record {
      count = h.count + n;
      within = omega (arith, fits, ap length h.rest, length-drop h.count bytes, h.within);
      rest = take_rest left n ∙ ap (drop n) h.rest ∙ grind (arith, common_steps);
      appended = rw (take-add h.count n bytes) (rw (h.rest) at (appended_then h.appended more));
    }

pub all_appended : {before now : FilesMeaning} {name bytes left : List ℕ} → HasAppended before now name bytes left → length left ≡ 0 → Appended before now name bytes
all_appended {before} {now} {name} {bytes} {left} h none =
    subst (λ (xs : List ℕ). Appended before now name xs) (take_all h.count bytes (omega (arith, ap length h.rest, length-drop h.count bytes))) h.appended

drop_on : (xs more all : List ℕ) (n : ℕ) → drop n all ≡ xs ++ more → drop (n + length xs) all ≡ more
drop_on xs more all n is = sym (drop-drop (length xs) n all) ∙ ap (drop (length xs)) is ∙ drop_at xs more (length xs) refl

take_on : (xs more all : List ℕ) (n : ℕ) → drop n all ≡ xs ++ more → take (n + length xs) all ≡ take n all ++ xs
take_on xs more all n is = take-add n (length xs) all ∙ ap (λ zs. take n all ++ take (length xs) zs) is ∙ ap (λ zs. take n all ++ zs) (take_at xs more (length xs) refl)

-- the next part of what is left, whole or cut
pub next_appended : {before mid now : FilesMeaning} {name all left : List ℕ} (xs more : List ℕ) → HasAppended before mid name all left → left ≡ xs ++ more → Appended mid now name xs → HasAppended before now name all more
next_appended {before} {mid} {now} {name} {all} {left} xs more h is step =
    let split : drop h.count all ≡ xs ++ more = sym h.rest ∙ is in
    record {
      count = h.count + length xs;
      within = omega (arith, h.within, ap length split, length-drop h.count all, length-append xs more);
      rest = sym (drop_on xs more all h.count split);
      appended = subst (λ (zs : List ℕ). Appended before now name zs) (sym (take_on xs more all h.count split)) (appended_then h.appended step);
    }

pub next_cut : {before mid now : FilesMeaning} {name all left : List ℕ} (xs more : List ℕ) → HasAppended before mid name all left → left ≡ xs ++ more → AppendedPart mid now name xs → AppendedPart before now name all
next_cut {before} {mid} {now} {name} {all} {left} xs more h is step =
    let split : drop h.count all ≡ xs ++ more = sym h.rest ∙ is in
    let all_is : take h.count all ++ (xs ++ more) ≡ all = ap (λ zs. take h.count all ++ zs) (sym split) ∙ take-append-drop h.count all in
    subst (λ (zs : List ℕ). AppendedPart before now name zs) all_is (appended_part h.appended (appended_front more step))
