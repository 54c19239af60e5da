-- Bytes that were lent to be written: they are lent on to a call that reads them and come back as they were, or are let
-- go as they are.
use Rattle.std.proofs.Common.{ℕ, List, [], ◌∷◌, MutBor, refl}
use seplogic.Ra.Ura.{Ura}
use base.Fml.{Lft, Share, fdead, flft, fobs}
use base.Logic.{ent, sep, emp, id⊢}
use borrow.Rule.SharedLend.{each_copy}
use borrow.Rule.Slice.Reshare.{kept_s, sl_reshare_as, sl_reshare_back}
use borrow.Table.Copies.{Cp}
use borrow.Table.Own.{own_s}
use borrow.Table.Owned as O
use denote.Array.{Array}
use denote.Builtin.{u8}
use denote.Copied.{uint_Copied}
use denote.FollowSlice.{heres_id}
use denote.Plain.{uint_row_laws, uint_vals, uint_Tells, uint_copy}
use denote.Ref.{as_bor}
use denote.Slice.{MutSlice, ShrSlice, mut_slice_vals}
use mir.Syntax.{erased, named, w8}
use mir.Val.{Val}
use types.Kit.{‵, raw, ◌⊛◌, later, mean, Item, ◌$◌, !, qed, updating, now, await, use0, use2, use3, split, fsplit, fsplit3, fjoin, feq_i, move, keep, drop, rewrite, done}
use types.Logic.{Logic, sem}
use types.Tokens.{name_done}
use Rattle.siit_views.specs.Parts.{ends_as}

bytes_copied : Cp u8
bytes_copied = record { vals = uint_vals w8; tells = uint_Tells w8; copy = λ 𝓛. uint_copy 𝓛 w8; copied = λ 𝓛. uint_Copied 𝓛 w8; single = tt }

module _ {M : Type 1} {𝓤 : Ura M} (𝓛 : Logic 𝓤) (κ κ' : Lft) (q : Share) (x : MutBor (List ℕ)) where
  open 𝓛 use {H, A}

  -- what the lender keeps meanwhile
  abbrev pub kept : Item 𝓤
  kept = kept_s 𝓛 u8 κ q κ' x.ghost_name x.now x.ref_ptr.0 x.ref_ptr.1

  pub read : ent 𝓤 (sep 𝓤 (sem 𝓛 ((MutSlice (named 0) κ u8).own_val x (mut_slice_vals x))) (sem 𝓛 (flft κ q)))
      (H.⇛ (sep 𝓤 (sem 𝓛 ((ShrSlice (named 0) κ' u8).own_val (as_bor x) (mut_slice_vals x))) (mean 𝓛 kept)))
  unfolding own_s
  read =
      let b = x.ref_ptr.0 in let o = x.ref_ptr.1 in
      qed 𝓛 (‵ ((MutSlice (named 0) κ u8).own_val x (mut_slice_vals x)) ∷ ‵ (flft κ q) ∷ [])
      {P = H.⇛ (sep 𝓤 (sem 𝓛 ((ShrSlice (named 0) κ' u8).own_val (as_bor x) (mut_slice_vals x))) (mean 𝓛 kept))} (
      updating ! $ fsplit ! $ fsplit ! $ drop ! $ fjoin ! $ use0 𝓛 (raw (emp 𝓤)) (id⊢ 𝓤 (emp 𝓤)) $ move ! (1 ∷ 2 ∷ []) $
      use3 𝓛 (later (‵ ((O.ShrSlice erased κ' u8).own_val (as_bor x)) ⊛ (kept ⊛ raw (emp 𝓤))))
      (sl_reshare_as 𝓛 u8 κ q κ' b o x.ghost_name (emp 𝓤) (λ ys. each_copy 𝓛 (λ _. Unit {0}) [] u8 (uint_row_laws w8) 0 bytes_copied (0, κ' ∷ []) tt ys b o) x.now) $
      await ! tt $ split ! $ move ! (1 ∷ []) $ split ! $ move ! (1 ∷ []) $ drop ! $ move ! (1 ∷ []) $
      fsplit ! $ feq_i ! (List Val) (mut_slice_vals x) (mut_slice_vals x) refl $ fjoin ! $ fjoin ! $ now ! $ done !)

  pub back : ent 𝓤 (sep 𝓤 (sem 𝓛 (fdead κ')) (mean 𝓛 kept)) (H.⇛ (sep 𝓤 (sem 𝓛 ((MutSlice (named 0) κ u8).own_val x (mut_slice_vals x))) (sem 𝓛 (flft κ q))))
  back =
      let b = x.ref_ptr.0 in let o = x.ref_ptr.1 in
      qed 𝓛 (‵ (fdead κ') ∷ kept ∷ [])
      {P = H.⇛ (sep 𝓤 (sem 𝓛 ((MutSlice (named 0) κ u8).own_val x (mut_slice_vals x))) (sem 𝓛 (flft κ q)))} (
      updating ! $ use2 𝓛 (later (‵ ((O.MutSlice erased κ u8).own_val x) ⊛ ‵ (flft κ q))) (sl_reshare_back 𝓛 u8 κ q κ' b o x.ghost_name x.now) $
      await ! tt $ split ! $ fsplit ! $ feq_i ! (List Val) (mut_slice_vals x) (mut_slice_vals x) refl $ fjoin ! $ fjoin ! $ now ! $ done !)

module _ {M : Type 1} {𝓤 : Ura M} (𝓛 : Logic 𝓤) (κ : Lft) (x : MutBor (List ℕ)) where
  open 𝓛 use {H}

  -- bytes that are let go end as they are
  pub left : ent 𝓤 (sem 𝓛 ((MutSlice (named 0) κ u8).own_val x (mut_slice_vals x))) (H.⇛ (sem 𝓛 (ends_as x.ghost_name x.now)))
  left =
      qed 𝓛 (‵ ((MutSlice (named 0) κ u8).own_val x (mut_slice_vals x)) ∷ []) {P = H.⇛ (sem 𝓛 (ends_as x.ghost_name x.now))} (
      updating ! $ fsplit3 ! $ move ! (1 ∷ []) $
      rewrite ! 0 (λ (ys : List ℕ). ‵ (fobs x.ghost_name ((Array u8 0).coded.code ys))) (heres_id u8 x.now) refl $ name_done ! tt $ now ! $ keep ! (0 ∷ []) $ done !)
