-- Files that grow by one text and then by another.
use Rattle.std.proofs.Common.{◌≡◌, ◌⊎◌, inl, inr, if◌then◌else◌, ℕ, ◌+◌, List, [], ◌∷◌, ◌++◌, length, take, drop, Bool, true, false, Option, Some, None, IsTrue, Result, Ok, Err, OnErr, refl, ap, sym, subst, ◌∙◌, arith, length-append}
use Rattle.std.proofs.lemmas.List.{append-nil, take-append-le, take_all, take_at, drop_at}
use Rattle.std.proofs.lemmas.List.Concat.{flat_map-append}
use Rattle.std.proofs.Math.Seq.{take-add}
use Rattle.siit_word.specs.Files.{Appended, AppendedPart, FilesMeaning, IsNoneOf, Touches, grown}
use Rattle.siit_word.proofs.Touched.{grown-grown, told_after, touches_among}
use Rattle.siit_rules.specs.declared.rule.Rule.{Rule}
use Rattle.siit_chain.specs.Texts.{output_record, report_line}
use Rattle.siit_chain.specs.declared.origin.End.{End}
use Rattle.siit_chain.specs.declared.origin.Origin.{Origin}
use Rattle.siit_chain.specs.Log.{Entry, drops, leaves, entry_text, is_output, output_of, share, text_of}
use Rattle.siit_chain.specs.Outputs.{AreApart, GrewBy, GrewByPart, WriteFailedIn, name_in, names_in, only, some_name}
use Rattle.siit_chain.specs.declared.origin.Output.{Output}
use Rattle.siit_chain.specs.declared.origin.Output.TheVariants.{Left, Right, Report}
use Rattle.siit_chain.specs.declared.origin.Outs.{Outs}

pub grown_nothing : (file : Option (List ℕ)) → grown file [] ≡ file
grown_nothing None = refl
grown_nothing (Some held) = ap Some (append-nil held)

take_into : (first more : List ℕ) (n : ℕ) → take (length first + n) (first ++ more) ≡ first ++ take n more
take_into first more n =
    take-add (length first) n (first ++ more)
    ∙ ap (λ xs. xs ++ take n (drop (length first) (first ++ more))) (take_at first more (length first) refl)
    ∙ ap (λ xs. first ++ take n xs) (drop_at first more (length first) refl)

-- one text behind another, at each output
abbrev pub joined : (first more : Output → List ℕ) → Output → List ℕ
joined first more o = first o ++ more o

module _ {names : Output → Option (List ℕ)} {a b c : FilesMeaning} {writes : List (List ℕ)} (first more : Output → List ℕ) where
  pub grew_twice : Touches a b [] writes → GrewBy names a b first → GrewBy names b c more → GrewBy names a c (joined first more)
  grew_twice only x y = record {
    each = λ o name is told.
        y.each o name is (told_after only name told)
        ∙ ap (λ f. grown f (more o)) (x.each o name is told)
        ∙ grown-grown (a.contents name) (first o) (more o);
  }

  pub grew_then_part : Touches a b [] writes → GrewBy names a b first → GrewByPart names b c more → GrewByPart names a c (joined first more)
  grew_then_part only x y = record {
    each = λ o name is told.
        let part = y.each o name is (told_after only name told) in (
          length (first o) + part.0,
          omega (arith, part.1, length-append (first o) (more o)),
          part.2
              ∙ ap (λ f. grown f (take part.0 (more o))) (x.each o name is told)
              ∙ grown-grown (a.contents name) (first o) (take part.0 (more o))
              ∙ ap (grown (a.contents name)) (sym (take_into (first o) (more o) part.0)),
        );
  }

module _ {names : Output → Option (List ℕ)} {a b : FilesMeaning} where
  -- a part of the first of two texts
  pub part_of_more : (first more : Output → List ℕ) → GrewByPart names a b first → GrewByPart names a b (joined first more)
  part_of_more first more x = record {
    each = λ o name is told.
        let part = x.each o name is told in (
          part.0,
          omega (arith, part.1, length-append (first o) (more o)),
          part.2 ∙ ap (grown (a.contents name)) (sym (take-append-le part.0 (first o) (more o) part.1)),
        );
  }

  -- The whole is a part too.
  pub part_of_all : (texts : Output → List ℕ) → GrewBy names a b texts → GrewByPart names a b texts
  part_of_all texts x = record {
    each = λ o name is told. (
      length (texts o),
      omega arith,
      x.each o name is told ∙ ap (grown (a.contents name)) (sym (take_all (length (texts o)) (texts o) (omega arith))),
    );
  }

  pub grew_as : (texts others : Output → List ℕ) → ((o : Output) → texts o ≡ others o) → GrewBy names a b texts → GrewBy names a b others
  grew_as texts others same x = subst (λ (t : Output → List ℕ). GrewBy names a b t) (λ i o. same o i) x

  pub part_as : (texts others : Output → List ℕ) → ((o : Output) → texts o ≡ others o) → GrewByPart names a b texts → GrewByPart names a b others
  part_as texts others same x = subst (λ (t : Output → List ℕ). GrewByPart names a b t) (λ i o. same o i) x

-- Logs

pub text_of-nil : (o : Output) → text_of [] o ≡ []
unfolding text_of
text_of-nil o = refl

pub text_of-append : (first more : List Entry) (o : Output) → text_of (first ++ more) o ≡ text_of first o ++ text_of more o
unfolding text_of
text_of-append first more o = flat_map-append (share o) first more

pub text_of-one : (entry : Entry) (o : Output) → text_of (entry ∷ []) o ≡ only (output_of entry) (entry_text entry) o
unfolding text_of
text_of-one entry o = append-nil (share o entry)

module _ {names : Output → Option (List ℕ)} {a : FilesMeaning} where
  pub log_none : GrewBy names a a (text_of [])
  log_none = record { each = λ o name is told. sym (grown_nothing (a.contents name)) ∙ ap (grown (a.contents name)) (sym (text_of-nil o)) }

module _ {names : Output → Option (List ℕ)} {a b c : FilesMeaning} {writes : List (List ℕ)} (first more : List Entry) where
  pub log_twice : Touches a b [] writes → GrewBy names a b (text_of first) → GrewBy names b c (text_of more) → GrewBy names a c (text_of (first ++ more))
  log_twice only x y = grew_as (joined (text_of first) (text_of more)) (text_of (first ++ more)) (λ o. sym (text_of-append first more o)) (grew_twice (text_of first) (text_of more) only x y)

  pub log_then_part : Touches a b [] writes → GrewBy names a b (text_of first) → GrewByPart names b c (text_of more) → GrewByPart names a c (text_of (first ++ more))
  log_then_part only x y = part_as (joined (text_of first) (text_of more)) (text_of (first ++ more)) (λ o. sym (text_of-append first more o)) (grew_then_part (text_of first) (text_of more) only x y)

module _ {names : Output → Option (List ℕ)} {a b : FilesMeaning} (first more : List Entry) where
  pub log_part_of_more : GrewByPart names a b (text_of first) → GrewByPart names a b (text_of (first ++ more))
  log_part_of_more x = part_as (joined (text_of first) (text_of more)) (text_of (first ++ more)) (λ o. sym (text_of-append first more o)) (part_of_more (text_of first) (text_of more) x)

-- One entry, by its bytes

pub entry_text-drops : (origin : Origin) (device : ℕ) (rule : Rule) (answered : Bool) → entry_text (drops origin device rule answered) ≡ report_line origin device rule answered
unfolding entry_text
entry_text-drops origin device rule answered = refl

pub entry_text-leaves : (origin : Origin) (end : End) (packet : List ℕ) → entry_text (leaves origin end packet) ≡ output_record origin packet
unfolding entry_text
entry_text-leaves origin end packet = refl

module _ (entry : Entry) (output : Output) (bytes : List ℕ) (to : output ≡ output_of entry) (is : bytes ≡ entry_text entry) where
  same_entry : (o : Output) → only output bytes o ≡ text_of (entry ∷ []) o
  same_entry o = ap (λ q. only q bytes o) to ∙ ap (λ xs. only (output_of entry) xs o) is ∙ sym (text_of-one entry o)

  pub wrote_entry : {names : Output → Option (List ℕ)} {a b : FilesMeaning} → GrewBy names a b (only output bytes) → GrewBy names a b (text_of (entry ∷ []))
  wrote_entry x = grew_as (only output bytes) (text_of (entry ∷ [])) same_entry x

  pub wrote_entry_part : {names : Output → Option (List ℕ)} {a b : FilesMeaning} → GrewByPart names a b (only output bytes) → GrewByPart names a b (text_of (entry ∷ []))
  wrote_entry_part x = part_as (only output bytes) (text_of (entry ∷ [])) same_entry x

only_two : (output : Output) (first more : List ℕ) (o : Output) → joined (only output first) (only output more) o ≡ only output (first ++ more) o
only_two output first more o = two (is_output o output)
  where
    two : (b : Bool) → (if b then first else []) ++ (if b then more else []) ≡ (if b then first ++ more else [])
    two true = refl
    two false = refl

module _ {names : Output → Option (List ℕ)} {a b c : FilesMeaning} {writes : List (List ℕ)} (output : Output) (first more : List ℕ) where
  -- two writes to one output are one
  pub wrote_two : Touches a b [] writes → GrewBy names a b (only output first) → GrewBy names b c (only output more) → GrewBy names a c (only output (first ++ more))
  wrote_two touched x y = grew_as (joined (only output first) (only output more)) (only output (first ++ more)) (only_two output first more) (grew_twice (only output first) (only output more) touched x y)

  pub wrote_two_part : Touches a b [] writes → GrewBy names a b (only output first) → GrewByPart names b c (only output more) → GrewByPart names a c (only output (first ++ more))
  wrote_two_part touched x y = part_as (joined (only output first) (only output more)) (only output (first ++ more)) (only_two output first more) (grew_then_part (only output first) (only output more) touched x y)

module _ {names : Output → Option (List ℕ)} {a b : FilesMeaning} (output : Output) (first more : List ℕ) where
  pub wrote_first_part : GrewByPart names a b (only output first) → GrewByPart names a b (only output (first ++ more))
  wrote_first_part x = part_as (joined (only output first) (only output more)) (only output (first ++ more)) (only_two output first more) (part_of_more (only output first) (only output more) x)

-- One file

same_or_not : (o q : Output) → (o ≡ q) ⊎ (is_output o q ≡ false)
same_or_not Left Left = inl refl
same_or_not Left Right = inr refl
same_or_not Left Report = inr refl
same_or_not Right Left = inr refl
same_or_not Right Right = inl refl
same_or_not Right Report = inr refl
same_or_not Report Left = inr refl
same_or_not Report Right = inr refl
same_or_not Report Report = inl refl

is_output_same : (o : Output) → is_output o o ≡ true
is_output_same Left = refl
is_output_same Right = refl
is_output_same Report = refl

module _ (names : Output → Option (List ℕ)) (output : Output) (name bytes : List ℕ) (apart : AreApart names) (is : names output ≡ Some name) where
  name_is : (o : Output) (q : List ℕ) → o ≡ output → names o ≡ Some q → q ≡ name
  name_is o q e there = let t : Some q ≡ Some name = sym there ∙ ap names e ∙ is in cc

  only_here : (o : Output) → o ≡ output → only output bytes o ≡ bytes
  only_here o e = ap (λ p. only output bytes p) e ∙ ap (λ (t : Bool). if t then bytes else []) (is_output_same output)

  only_elsewhere : (o : Output) → is_output o output ≡ false → only output bytes o ≡ []
  only_elsewhere o isnt = ap (λ (t : Bool). if t then bytes else []) isnt

  -- the file of another output has another name
  elsewhere : (o : Output) (q : List ℕ) → is_output o output ≡ false → names o ≡ Some q → IsNoneOf q (name ∷ [])
  elsewhere o q isnt there = (λ e. differ (apart o output name (there ∙ ap Some e) is), tt)
    where
      differ : o ≡ output → ⊥
      differ same = let t = ap (λ p. is_output p output) same ∙ is_output_same output in cc

  pub wrote_one : {a b : FilesMeaning} → Appended a b name bytes → GrewBy names a b (only output bytes)
  wrote_one {a} {b} h = record {
    each = λ o q there told. elim (same_or_not o output) [
      | inl e ↦
          let q_is : q ≡ name = name_is o q e there in
          let told_name : IsTrue (b.told name) = subst (λ n. IsTrue (b.told n)) q_is (told_after h.only q told) in
          ap b.contents q_is ∙ h.file told_name ∙ ap (λ x. grown (a.contents x) bytes) (sym q_is) ∙ ap (grown (a.contents q)) (sym (only_here o e))
      | inr isnt ↦ h.only.contents q (elsewhere o q isnt there) ∙ sym (grown_nothing (a.contents q)) ∙ ap (grown (a.contents q)) (sym (only_elsewhere o isnt))
    ];
  }

  pub wrote_part : {a b : FilesMeaning} → AppendedPart a b name bytes → GrewByPart names a b (only output bytes)
  wrote_part {a} {b} h = record {
    each = λ o q there told. elim (same_or_not o output) [
      | inl e ↦
          let q_is : q ≡ name = name_is o q e there in
          let told_name : IsTrue (b.told name) = subst (λ n. IsTrue (b.told n)) q_is (told_after h.only q told) in
          let part = h.file told_name in (
            part.0,
            omega (arith, part.1, ap length (only_here o e)),
            ap b.contents q_is ∙ part.2 ∙ ap (λ x. grown (a.contents x) (take part.0 bytes)) (sym q_is) ∙ ap (λ xs. grown (a.contents q) (take part.0 xs)) (sym (only_here o e)),
          )
      | inr isnt ↦ (
        0,
        omega arith,
        h.only.contents q (elsewhere o q isnt there) ∙ sym (grown_nothing (a.contents q)),
      )
    ];
  }

-- a name that is no file's of any output is not this output's
none_append : (q : List ℕ) (xs ys : List (List ℕ)) → IsNoneOf q (xs ++ ys) → IsNoneOf q xs × IsNoneOf q ys
none_append q [] ys h = (tt, h)
none_append q (x ∷ xs) ys h = let rest = none_append q xs ys h.1 in ((h.0, rest.0), rest.1)

module _ (outs : Outs) (q : List ℕ) (h : IsNoneOf q (names_in outs)) where
  none_at : (o : Output) → IsNoneOf q (some_name (name_in outs o))
  none_at Left = (none_append q (some_name (name_in outs Left)) (some_name (name_in outs Right)) (none_append q (some_name (name_in outs Left) ++ some_name (name_in outs Right)) (some_name (name_in outs Report)) h).0).0
  none_at Right = (none_append q (some_name (name_in outs Left)) (some_name (name_in outs Right)) (none_append q (some_name (name_in outs Left) ++ some_name (name_in outs Right)) (some_name (name_in outs Report)) h).0).1
  none_at Report = (none_append q (some_name (name_in outs Left) ++ some_name (name_in outs Right)) (some_name (name_in outs Report)) h).1

-- what one call on a named file touched
pub touches_named : {a b : FilesMeaning} (outs : Outs) (output : Output) (name : List ℕ) → name_in outs output ≡ Some name → Touches a b [] (name ∷ []) → Touches a b [] (names_in outs)
touches_named outs output name is h =
    touches_among h (λ q none. none) (λ q none. subst (λ (n : Option (List ℕ)). IsNoneOf q (some_name n)) is (none_at outs q none output))

module _ {names : Output → Option (List ℕ)} {a b c : FilesMeaning} {writes : List (List ℕ)} where
  pub failed_later : Touches a b [] writes → WriteFailedIn names b c → WriteFailedIn names a c
  failed_later x y = record {
    output = y.output;
    name = y.name;
    named = y.named;
    failed = omega (arith, x.write_faults y.name, y.failed);
  }

pub on_err_from : {T E P : Type 0} (r : Result T E) → P → OnErr r P
on_err_from (Ok x) p = tt
on_err_from (Err e) p = p
