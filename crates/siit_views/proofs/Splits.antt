-- A call of `split_parts` in a proof by hand: what it takes, and what it gives.
use Rattle.std.proofs.Common.{◌≡◌, ◌^◌, ◌<◌, ◌≤◌, ◌++◌, ℕ, List, [], ◌∷◌, MutBor, refl, ap, ◌∙◌, length, take, drop as drop_l}
use seplogic.Ra.Ura.{Ura}
use base.Fml.{Fml, flft, ftrue}
use base.Logic.{SProp, ent, sep, emp, guard, ex, id⊢}
use contract.Lifetimes.{AllOutlive, Lfts, Shares}
use contract.Monad.{fact, fact_i}
use contract.Running.{Running}
use denote.Builtin.{u8, usize}
use denote.Laws.{shows}
use denote.Plain.{uint_Makes}
use denote.Signature.{named_lft}
use denote.Slice.{MutSlice, slice_val, mut_slice_vals}
use denote.Steps.{nothing, owned, heard, peeks, only}
use denote.Triple.Clauses.{lasts}
use denote.Triple.Spec.{triple_of}
use denote.Triple.Statement.{Contract}
use mir.Syntax.{named, w64}
use mir.Val.{Val, vint, of_list, vcons, vnil, vstruct}
use prog.Model.{Model}
use types.Kit.{‵, raw, ◌⊛◌, some, given, later, Item, ◌$◌, !, qed, updating, now, show, check, await, pick, use0, use1, split, fsplit, fpick, feq_l, join, move, keep, drop, rewrite, done}
use types.Logic.{Logic, sem}
use Rattle.siit_views.specs.Parts.{LendsHalves}
use Rattle.siit_views.specs.contracts.parts.Halves as h
use Rattle.siit_views.specs.contracts.parts.split_parts as s
use Rattle.siit_views.specs.declared.parts.Halves.{Halves}

-- the two parts as the machine has them
abbrev pub value : Halves → Val
value t = vstruct (vcons (slice_val t.front.ref_ptr (length t.front.now)) (vcons (slice_val t.rest.ref_ptr (length t.rest.now)) vnil))

-- what is known of the parts of these bytes, which the machine has as v
pub record IsSplit (bytes : List ℕ) (n : ℕ) (t : Halves) (v : Val) : Type 0 where
  pub is : v ≡ value t
  pub front_fits : length t.front.now < 2 ^ 64
  pub rest_fits : length t.rest.now < 2 ^ 64
  pub front : t.front.now ≡ take n bytes
  pub rest : t.rest.now ≡ drop_l n bytes

module _ {M : Type 1} {𝓤 : Ura M} (𝓛 : Logic 𝓤) (𝓜 : Model 𝓤 𝓛.H) (𝓡 : Running 𝓤 𝓛.H 𝓜) where
  abbrev pub splitting : Contract 𝓤
  splitting = triple_of 𝓛 s.signature (s.spec 𝓛 𝓜.mem 𝓡.returns)

module _ {M : Type 1} {𝓤 : Ura M} (𝓛 : Logic 𝓤) (𝓜 : Model 𝓤 𝓛.H) (𝓡 : Running 𝓤 𝓛.H 𝓜) (κs : Lfts 1) (qs : Shares 1) (bounds : AllOutlive 1 [] κs) (r : MutBor (List ℕ)) (n : ℕ) where
  open 𝓛 use {H}

  abbrev pub passed : (splitting 𝓛 𝓜 𝓡).Ghost
  passed = ((κs, qs, bounds, (r, (n, tt)), (mut_slice_vals r, (vint w64 n ∷ [], tt))), tt)

  abbrev Slice : MutBor (List ℕ) → Fml
  Slice x = (MutSlice (named 0) κs.0 u8).own_val x (mut_slice_vals x)

  pub takes : n ≤ length r.now → n < 2 ^ 64 → ent 𝓤 (sep 𝓤 (sem 𝓛 (Slice r)) (sem 𝓛 (flft κs.0 qs.0))) ((splitting 𝓛 𝓜 𝓡).pre passed)
  takes inside small =
      qed 𝓛 (‵ (Slice r) ∷ ‵ (flft κs.0 qs.0) ∷ []) {P = (splitting 𝓛 𝓜 𝓡).pre passed} (
      use0 𝓛 (raw (fact 𝓤 (n ≤ length r.now))) (fact_i 𝓤 _ (emp 𝓤) inside) $
      nothing ! $ owned ! usize _ (uint_Makes 𝓛 w64) n _ (refl, small) $ join ! $ move ! (2 ∷ 0 ∷ []) $ join ! $
      nothing ! $ move ! (3 ∷ 0 ∷ []) $ join ! $ join ! $ done !)

  abbrev Lent : Halves → SProp 𝓤
  Lent t = sep 𝓤 (sem 𝓛 (Slice t.front)) (sep 𝓤 (sem 𝓛 (Slice t.rest)) (sep 𝓤 (sem 𝓛 (LendsHalves r t)) (sem 𝓛 (flft κs.0 qs.0))))

  abbrev pub given_back : Val → Item 𝓤
  given_back v = later (some (λ (t : Halves). given (IsSplit r.now n t v) (‵ (Slice t.front) ⊛ (‵ (Slice t.rest) ⊛ (‵ (LendsHalves r t) ⊛ ‵ (flft κs.0 qs.0))))))

  pub gives : (v : Val) → ent 𝓤 ((splitting 𝓛 𝓜 𝓡).post passed v) (H.⇛ (ex 𝓤 (λ (t : Halves). guard 𝓤 (IsSplit r.now n t v) (Lent t))))
  gives v =
      let Half = h.the_row (named_lft 1 0 tt κs) in let S = MutSlice (named 0) κs.0 u8 in
      qed 𝓛 (raw ((splitting 𝓛 𝓜 𝓡).post passed v) ∷ []) {P = H.⇛ (ex 𝓤 (λ (t : Halves). guard 𝓤 (IsSplit r.now n t v) (Lent t)))} (
      updating ! $ use1 𝓛 (later (some (λ (t : Halves). ((‵ (flft κs.0 qs.0) ⊛ ‵ ftrue) ⊛ ‵ (Half.own_val t (v ∷ []))) ⊛
      some (λ (ws : Unit {0} × (Unit {0} × Unit {0})). ‵ (lasts s.ended κs (r, (n, tt)) ws) ⊛ ‵ (LendsHalves r t)
      ⊛ raw (fact 𝓤 (t.front.now ≡ take n r.now)) ⊛ raw (fact 𝓤 (t.rest.now ≡ drop_l n r.now)))))) (id⊢ 𝓤 _) $
      await ! tt $ pick ! (λ t. split ! $ split ! $ split ! $ move ! (3 ∷ []) $ pick ! (λ ws. split ! $ drop ! $ split ! $ move ! (1 ∷ []) $ split ! $ heard ! _ (λ front. heard ! _ (λ rest.
      -- [the loan; the token; nothing; the halves]
      move ! (3 ∷ []) $ fpick ! (λ vss. fsplit ! $ feq_l ! (λ ev. fsplit ! $ peeks ! S _ (shows 𝓛 S) t.front vss.0 (λ is_front.
      move ! (1 ∷ []) $ fsplit ! $ peeks ! S _ (shows 𝓛 S) t.rest vss.1.0 (λ is_rest. move ! (1 ∷ []) $ drop ! $
      rewrite ! 1 (λ (vs : List Val). ‵ (S.own_val t.front vs)) is_front.0.0 refl $ rewrite ! 0 (λ (vs : List Val). ‵ (S.own_val t.rest vs)) is_rest.0.0 refl $
      let fv : Val = slice_val t.front.ref_ptr (length t.front.now) in
      now ! $ show ! (λ (u : Halves). guard 𝓤 (IsSplit r.now n u v) (Lent u)) t $
      check ! (record {
        is = ap only (ev ∙ ap (λ (hs : List Val). vstruct (of_list (hs ++ (vss.1.0 ++ []))) ∷ []) is_front.0.0 ∙ ap (λ (q : List Val). vstruct (of_list ((fv ∷ []) ++ (q ++ []))) ∷ []) is_rest.0.0);
        front_fits = is_front.0.1.0;
        rest_fits = is_rest.0.1.0;
        front = front;
        rest = rest;
      }) $
      keep ! (1 ∷ 0 ∷ 2 ∷ 3 ∷ []) $ done !)))))))))
