-- The walk through `view4`: the bytes are lent to `check4`. A refusal leaves them as they were, and otherwise they are
-- split three times.
use Rattle.std.proofs.Common.{◌≡◌, ◌^◌, ◌-◌, ◌≤◌, ◌<◌, ℕ, List, [], ◌∷◌, ◌++◌, refl, sym, ap, ◌∙◌, length, take, drop as drop_l, IfOk, IfErr, OnOk, Some, None, Err, Ok, Result, lit<, subst, arith}
use Rattle.std.proofs.raw_atomic.Walks.{proved}
use Rattle.std.proofs.lemmas.List.{length-take-le}
use base.Fraction.{full_share}
use base.Logic.{id⊢, emp}
use base.Fml.{ftrue, flft}
use mir.Syntax.{named}
use mir.Val.{Val, WT, of_list, vcons, vnil, vstruct}
use contract.Lifetimes.{Lfts}
use contract.Monad.{fact, fact_i}
use contract.Running.{tables}
use denote.Builtin.{u8}
use denote.Enum.Enum.{in_a_row}
use denote.Exit.{no}
use denote.Laws.{shows}
use denote.RattleType.{RattleType, Valss, owns}
use denote.Ref.{as_bor}
use denote.Signature.{plain, mut_slice_of, named_lft}
use denote.Slice.{MutSlice, ShrSlice, slice_val, mut_slice_vals, mut_slice_Tells}
use denote.Steps.{nothing, heard, peeks, only}
use denote.Triple.Call.{calls_at}
use denote.Triple.Clauses.{lasts}
use denote.Triple.Spec.{triple_of}
use denote.Triple.Table.{framed}
use denote.Triple.Walked.{Stays, walk_of, stay_dropped, Goes-spent_slice, ends_at}
use native.Mathlib.Nat.{suc-ne-zero}
use types.ByLocal.{alloc_all, pass_all, free_all, look_at, look_in_at, get, get_in, get_tag, sets, sets_last, lands_as, env}
use types.Kit.{‵, raw, ◌⊛◌, some, given, later, at_ret, ◌$◌, ◌∵◌, !, qed, done, move, keep, drop, learn, use0, use1, use2, use3, split, split3, rewrite, fsplit, fpick, feq_l, feq_i, fjoin, fpack, join, pick, await, suffices}
use types.Match.{live, vrt, in_variant, by_variants}
use types.Part.{whole, sub, agg}
use types.Run.{enter, of_opd, lit, addr, from, fld, hop, stop, no_more, and_then, returns, returns_within, first, exec}
use types.Tokens.{lft_new, lft_end}
use Rattle.std.specs.contracts.result.Result as Q
use Rattle.siit_model.specs.Ipv4.{ipv4_fields, header_length_in, total_length_in}
use Rattle.siit_rules.proofs.rule.Rule.TheLaws as L
use Rattle.siit_rules.specs.contracts.rule.Rule as R
use Rattle.siit_rules.specs.declared.rule.Rule.{Rule}
use Rattle.siit_views.specs.Headers.{refusal4, HasLengths4}
use Rattle.siit_views.specs.Parts.{ends_as, lends_packet4}
use Rattle.siit_views.specs.contracts.ipv4.Ipv4View as V
use Rattle.siit_views.specs.declared.ipv4.Ipv4View.{Ipv4View}
use Rattle.siit_views.specs.contracts.header4.Lengths4 as N
use Rattle.siit_views.specs.declared.header4.Lengths4.{Lengths4}
use Rattle.siit_views.proofs.header4.Lengths4.TheLaws as L4
use Rattle.siit_views.proofs.Lent.{packet4}
use Rattle.siit_views.proofs.Packets.{front-front, front-rest}
use Rattle.siit_views.proofs.Refused.{IsRefusal, refusal, opened, closed, tagged, fields}
use Rattle.siit_views.proofs.Shared.{kept, read, back, left}
use Rattle.siit_views.proofs.Splits.{splitting, passed, takes, given_back, gives}
use Rattle.siit_views.specs.contracts.ipv4.view4 as f
use Rattle.siit_views.proofs.ipv4.view4.Statement.{statement}
use Rattle.siit_views.proofs.ipv4.view4.Code as code
use Rattle.siit_views.specs.contracts.header4.check4 as g
use Rattle.siit_views.proofs.header4.check4.Met as met-g
use Rattle.siit_views.proofs.parts.split_parts.Met as met-s

abbrev stayed : Stays f.ended.signature.params f.ended.kept
stayed = (stay_dropped (mut_slice_of (0 ∷ []) tt (plain (λ _. u8))) no, tt)

abbrev Slice : Lfts 1 → RattleType
Slice κs = MutSlice (named 0) κs.0 u8

abbrev View : Lfts 1 → RattleType
View κs = V.the_row (named_lft 1 0 tt κs)

cases_of_result : {Goal : Type 1} (u : Result Lengths4 Rule) → ((lengths : Lengths4) → u ≡ Ok lengths → Goal) → ((rule : Rule) → u ≡ Err rule → Goal) → Goal
cases_of_result (Ok lengths) ok err = ok lengths refl
cases_of_result (Err rule) ok err = err rule refl

pub view4_spec : {M : Type 1} → statement M
view4_spec 𝓤 𝓛 𝓜 𝓡 wired =
    let c = f.clauses 𝓛 𝓜.mem 𝓡.returns in let W = walk_of 𝓛 f.ended stayed c in let 𝓣 = tables 𝓤 𝓛.H 𝓜 𝓡 𝓡.env in
    proved 𝓛 f.ended stayed c 𝓜 𝓡 (Goes-spent_slice 𝓛 1 (0 ∷ []) tt (plain (λ _. u8)), tt)
    f.Key.name code.function (code.unfolded 𝓤 𝓛.H 𝓜 𝓡 wired)
    (λ κs. (mut_slice_vals, tt)) (λ κs. (mut_slice_Tells (named 0) κs.0 u8, tt)) (λ κs qs bounds a n are.
    let r = a.0 in let bytes = r.now in let fn : length bytes < 2 ^ 64 = are.0.0.1.0 in
    let y : W.Ghost = ((κs, qs, bounds, a, (mut_slice_vals a.0, tt)), tt) in
    let framed_by = framed 𝓤 𝓛.H 𝓜 𝓣 in let G = triple_of 𝓛 g.signature (g.spec 𝓛 𝓜.mem 𝓡.returns) in
    let S = splitting 𝓛 𝓜 𝓡 in let ask = passed 𝓛 𝓜 𝓡 κs qs bounds in let split_met = met-s.met 𝓤 𝓛 𝓜 𝓡 (code.calls-siit_views::parts::split_parts 𝓡.env wired) in
    let asks = takes 𝓛 𝓜 𝓡 κs qs bounds in let got = given_back 𝓛 𝓜 𝓡 κs qs bounds in let gets = gives 𝓛 𝓜 𝓡 κs qs bounds in
    qed 𝓛 (((‵ (flft κs.0 qs.0) ⊛ ‵ ftrue) ⊛ ‵ ((Slice κs).own_val r (mut_slice_vals r)) ⊛ ‵ ftrue) ∷ ‵ ftrue ∷ []) ∵
    split ! $ split ! $ move ! (2 ∷ []) $ split ! $ keep ! (0 ∷ 2 ∷ []) $
    enter ! _ _ _ _ _ $ alloc_all ! (λ l. pass_all ! refl ((tt, (tt, (record { fits = fn }, tt))), tt) $
    -- [the bytes; the token]
    sets ! (addr ! (from ! (fld ! refl (hop ! (look_in_at ! 1 (sub ! 0 refl (whole !))) (stop !))))) refl (tt, tt) $
    sets ! (agg ! (and_then ! (get ! refl) (and_then ! (get_in ! (fld ! refl (stop !)) (sub ! 1 refl (whole !))) (no_more !)))) refl (tt, (tt, (record { fits = fn }, tt))) $
    lft_new ! tt (λ α. let κ = α ∷ [] in move ! (1 ∷ 2 ∷ []) $
    use2 𝓛 (later (‵ ((ShrSlice (named 0) κ u8).own_val (as_bor r) (mut_slice_vals r)) ⊛ kept 𝓛 κs.0 κ qs.0 r)) (read 𝓛 κs.0 κ qs.0 r) $ await ! tt $ split ! $
    -- [the bytes, shared; what is kept of them; the token of α]
    let z : G.Ghost = (((κ, tt), (full_share, tt), tt, (as_bor r, tt), (mut_slice_vals r, tt)), tt) in
    nothing ! $ move ! (1 ∷ 0 ∷ []) $ join ! $ nothing ! $ move ! (3 ∷ 0 ∷ []) $ join ! $ join ! $
    nothing ! $ move ! (1 ∷ 0 ∷ []) $ use2 𝓛 (raw (G.pre z)) (id⊢ 𝓤 _) $
    calls_at ! framed_by G (met-g.met 𝓤 𝓛 𝓜 𝓡 (code.calls-siit_views::header4::check4 𝓡.env wired)) z
    (and_then ! (get ! refl) (no_more !)) (λ v.
    use1 𝓛 (later (some (λ (u : Result Lengths4 Rule). ((‵ (flft κ full_share) ⊛ ‵ ftrue) ⊛ ‵ ((Q.the_row N.the_row R.the_row).own_val u (v ∷ []))) ⊛
    some (λ (ws : Unit {0} × Unit {0}). ‵ (lasts g.ended z.0.0 z.0.3 ws) ⊛ raw (fact 𝓤 (IfErr u (λ rule. refusal4 bytes ≡ Some rule)))
    ⊛ raw (fact 𝓤 (OnOk u (refusal4 bytes ≡ None))) ⊛ raw (fact 𝓤 (OnOk u (HasLengths4 bytes))) ⊛ raw (fact 𝓤 (IfOk u (λ lengths. lengths.header ≡ header_length_in bytes))) ⊛ raw (fact 𝓤 (IfOk u (λ lengths. lengths.total ≡ total_length_in bytes))))))) (id⊢ 𝓤 _) $
    await ! tt $ pick ! (λ u. split ! $ split ! $ split ! $ lft_end ! tt $ move ! (0 ∷ 4 ∷ []) $
    use2 𝓛 (later (‵ ((Slice κs).own_val r (mut_slice_vals r)) ⊛ ‵ (flft κs.0 qs.0))) (back 𝓛 κs.0 κ qs.0 r) $ await ! tt $ split ! $ move ! (2 ∷ []) $ drop ! $
    move ! (3 ∷ []) $ pick ! (λ ws. split ! $ drop ! $ split ! $ heard ! _ (λ refused. split ! $ heard ! _ (λ accepted. split3 ! $ heard ! _ (λ fit. heard ! _ (λ is_header. heard ! _ (λ is_total.
    -- [the bytes; the token; the result]
    cases_of_result u
    (λ lengths e.
    let fit : HasLengths4 bytes = subst (λ (x : Result Lengths4 Rule). OnOk x (HasLengths4 bytes)) e fit in
    let is_header : lengths.header ≡ header_length_in bytes = subst (λ (x : Result Lengths4 Rule). IfOk x (λ t. t.header ≡ header_length_in bytes)) e is_header in
    let is_total : lengths.total ≡ total_length_in bytes = subst (λ (x : Result Lengths4 Rule). IfOk x (λ t. t.total ≡ total_length_in bytes)) e is_total in
    let accepted : refusal4 bytes ≡ None = subst (λ (x : Result Lengths4 Rule). OnOk x (refusal4 bytes ≡ None)) e accepted in
    let least : 20 ≤ lengths.header = omega (arith, is_header, fit.header) in
    let ordered : lengths.header ≤ lengths.total = omega (arith, is_header, is_total, fit.total) in
    let inside : lengths.total ≤ length bytes = omega (arith, is_total, fit.fits) in
    let small_total : lengths.total < 2 ^ 64 = omega (arith, inside, fn) in
    let small_header : lengths.header < 2 ^ 64 = omega (arith, ordered, small_total) in
    let wl : WT (L4.lowered lengths) = ((record { fits = small_header }), ((record { fits = small_total }), tt)) in
    let in_packet : (p : List ℕ) → p ≡ take lengths.total bytes → lengths.header ≤ length p = λ p is_p. omega (arith, ap length is_p, length-take-le lengths.total bytes inside) in
    let in_header : (p q : List ℕ) → p ≡ take lengths.total bytes → q ≡ take lengths.header p → 20 ≤ length q = λ p q is_p is_q. omega (arith, ap length is_q, length-take-le lengths.header p (in_packet p is_p)) in
    rewrite ! 2 (λ (x : Result Lengths4 Rule). ‵ ((Q.the_row N.the_row R.the_row).own_val x (v ∷ []))) e refl $ move ! (2 ∷ []) $
    fpick ! (λ us. fsplit ! $ feq_l ! (λ ev. fpick ! (λ vss. fsplit ! $ feq_l ! (λ eu. fsplit ! $ move ! (1 ∷ []) $ drop ! $
    peeks ! N.the_row _ (shows 𝓛 N.the_row) lengths vss.0 (λ is. drop ! $
    lands_as ! (ap only ev ∙ ap (λ (ws : List Val). live 0 (of_list ws)) (eu ∙ ap (λ (ws : List Val). ws ++ []) (L4.lowers.val_is lengths vss.0 is))) refl (tt, (record { fits = lit< tt }, (wl, tt))) $
    first ! $ by_variants ! 34 (whole !) (get_tag ! (vrt ! refl (fld ! refl (stop !))) (whole !)) tt (
      (λ k.
          sets ! (of_opd ! (get_in ! (vrt ! refl (fld ! refl (stop !))) (in_variant ! 0 0 refl refl (whole !)))) refl (tt, wl) $
          sets_last ! (of_opd ! (get ! refl)) refl (tt, wl) $
          exec ! 𝓣.C 𝓣.Λ (env (code.function).locals l) code.Mir.t-5 (at_ret (env (code.function).locals l) (W.post y)) $
          sets ! (of_opd ! (get ! refl)) refl (tt, wl) $
          -- the packet, and what is behind it
          sets ! (addr ! (from ! (fld ! refl (hop ! (look_in_at ! 1 (sub ! 0 refl (whole !))) (stop !))))) refl (tt, tt) $
          sets ! (agg ! (and_then ! (get ! refl) (and_then ! (get_in ! (fld ! refl (stop !)) (sub ! 1 refl (whole !))) (no_more !)))) refl (tt, (tt, (record { fits = fn }, tt))) $
          use2 𝓛 (raw (S.pre (ask r lengths.total))) (asks r lengths.total inside small_total) $
          calls_at ! framed_by S split_met (ask r lengths.total)
          (and_then ! (get ! refl) (and_then ! (get_in ! (fld ! refl (stop !)) (sub ! 1 refl (whole !))) (no_more !))) (λ v₁.
          use1 𝓛 (got r lengths.total v₁) (gets r lengths.total v₁) $ await ! tt $ pick ! (λ p. learn ! (λ at_p. split ! $ move ! (1 ∷ []) $ split3 ! $
          lands_as ! at_p.is refl (tt, ((tt, (record { fits = at_p.front_fits }, tt)), ((tt, (record { fits = at_p.rest_fits }, tt)), tt))) $
          use1 𝓛 (later (‵ (ends_as p.rest.ghost_name p.rest.now))) (left 𝓛 κs.0 p.rest) $ await ! tt $
          -- [what is behind; the loan; the token; the packet]
          sets ! (addr ! (from ! (fld ! refl (fld ! refl (hop ! (look_in_at ! 5 (sub ! 0 refl (sub ! 0 refl (whole !)))) (stop !)))))) refl (tt, tt) $
          sets ! (agg ! (and_then ! (get ! refl) (and_then ! (get_in ! (fld ! refl (fld ! refl (stop !))) (sub ! 1 refl (sub ! 0 refl (whole !)))) (no_more !)))) refl (tt, (tt, (record { fits = at_p.front_fits }, tt))) $
          move ! (3 ∷ 2 ∷ []) $ use2 𝓛 (raw (S.pre (ask p.front lengths.header))) (asks p.front lengths.header (in_packet p.front.now at_p.front) small_header) $
          calls_at ! framed_by S split_met (ask p.front lengths.header)
          (and_then ! (get ! refl) (and_then ! (get_in ! (fld ! refl (stop !)) (sub ! 0 refl (whole !))) (no_more !))) (λ v₂.
          use1 𝓛 (got p.front lengths.header v₂) (gets p.front lengths.header v₂) $ await ! tt $ pick ! (λ w. learn ! (λ at_w. split ! $ move ! (1 ∷ []) $ split3 ! $
          -- [the payload; the packet's loan; the token; the header; what is behind; the loan]
          lands_as ! at_w.is refl (tt, ((tt, (record { fits = at_w.front_fits }, tt)), ((tt, (record { fits = at_w.rest_fits }, tt)), tt))) $
          sets ! (addr ! (from ! (fld ! refl (fld ! refl (hop ! (look_in_at ! 6 (sub ! 0 refl (sub ! 0 refl (whole !)))) (stop !)))))) refl (tt, tt) $
          sets ! (agg ! (and_then ! (get ! refl) (and_then ! (get_in ! (fld ! refl (fld ! refl (stop !))) (sub ! 1 refl (sub ! 0 refl (whole !)))) (no_more !)))) refl (tt, (tt, (record { fits = at_w.front_fits }, tt))) $
          move ! (3 ∷ 2 ∷ []) $ use2 𝓛 (raw (S.pre (ask w.front 20))) (asks w.front 20 (in_header p.front.now w.front.now at_p.front at_w.front) (lit< tt)) $
          calls_at ! framed_by S split_met (ask w.front 20)
          (and_then ! (get ! refl) (and_then ! (lit ! tt) (no_more !))) (λ v₃.
          use1 𝓛 (got w.front 20 v₃) (gets w.front 20 v₃) $ await ! tt $ pick ! (λ h. learn ! (λ at_h. split ! $ move ! (1 ∷ []) $ split3 ! $
          -- [the options; the header's loan; the token; the head; the payload; the packet's loan; what is behind; the
          -- loan]
          lands_as ! at_h.is refl (tt, ((tt, (record { fits = at_h.front_fits }, tt)), ((tt, (record { fits = at_h.rest_fits }, tt)), tt))) $
          sets ! (addr ! (from ! (fld ! refl (fld ! refl (hop ! (look_in_at ! 7 (sub ! 0 refl (sub ! 0 refl (whole !)))) (stop !)))))) refl (tt, tt) $
          sets ! (agg ! (and_then ! (get ! refl) (and_then ! (get_in ! (fld ! refl (fld ! refl (stop !))) (sub ! 1 refl (sub ! 0 refl (whole !)))) (no_more !)))) refl (tt, (tt, (record { fits = at_h.front_fits }, tt))) $
          sets ! (addr ! (from ! (fld ! refl (fld ! refl (hop ! (look_in_at ! 7 (sub ! 0 refl (sub ! 1 refl (whole !)))) (stop !)))))) refl (tt, tt) $
          sets ! (agg ! (and_then ! (get ! refl) (and_then ! (get_in ! (fld ! refl (fld ! refl (stop !))) (sub ! 1 refl (sub ! 1 refl (whole !)))) (no_more !)))) refl (tt, (tt, (record { fits = at_h.rest_fits }, tt))) $
          sets ! (addr ! (from ! (fld ! refl (fld ! refl (hop ! (look_in_at ! 6 (sub ! 0 refl (sub ! 1 refl (whole !)))) (stop !)))))) refl (tt, tt) $
          sets ! (agg ! (and_then ! (get ! refl) (and_then ! (get_in ! (fld ! refl (fld ! refl (stop !))) (sub ! 1 refl (sub ! 1 refl (whole !)))) (no_more !)))) refl (tt, (tt, (record { fits = at_w.rest_fits }, tt))) $
          let out : Ipv4View = record { head = h.front; options = h.rest; payload = w.rest } in
          let hv : Val = slice_val h.front.ref_ptr (length h.front.now) in let ov : Val = slice_val h.rest.ref_ptr (length h.rest.now) in let pv : Val = slice_val w.rest.ref_ptr (length w.rest.now) in
          let x : Val = vstruct (vcons hv (vcons ov (vcons pv vnil))) in
          let wx : WT x = ((tt, (record { fits = at_h.front_fits }, tt)), ((tt, (record { fits = at_h.rest_fits }, tt)), ((tt, (record { fits = at_w.rest_fits }, tt)), tt))) in
          let o : Val = live 0 (vcons x vnil) in
          let Ts : List RattleType = Slice κs ∷ Slice κs ∷ Slice κs ∷ [] in
          sets ! (agg ! (and_then ! (get ! refl) (and_then ! (get ! refl) (and_then ! (get ! refl) (no_more !))))) refl (tt, wx) $
          sets ! (agg ! (and_then ! (lit ! tt) (and_then ! (get ! refl) (no_more !)))) refl (tt, (record { fits = lit< tt }, (wx, tt))) $
          returns ! (look_at ! 0 refl) $ free_all ! refl $
          suffices ! _ (ends_at 𝓛 f.ended stayed c y o (Ok out) (tt, tt) (tt, tt)) $
          rewrite ! 6 (λ (ys : List ℕ). ‵ (ends_as p.rest.ghost_name ys)) (at_p.rest ∙ ap (λ (k : ℕ). drop_l k bytes) is_total) refl $
          move ! (7 ∷ 6 ∷ 5 ∷ 1 ∷ []) $ join ! $ use3 𝓛 (‵ (lends_packet4 r out)) (packet4 𝓛 r p.front.ghost_name p.rest.ghost_name w.front.ghost_name out) $
          let is_w = front-front bytes p.front.now w.front.now lengths.header lengths.total at_p.front at_w.front ordered in
          use0 𝓛 (raw (fact 𝓤 (IfOk {E = Rule} (Ok out) (λ (z : Ipv4View). z.payload.now ≡ (ipv4_fields bytes).payload)))) (fact_i 𝓤 _ (emp 𝓤)
          (front-rest bytes p.front.now w.rest.now lengths.header lengths.total at_p.front at_w.rest ordered
          ∙ ap (λ (k : ℕ). take (lengths.total - k) (drop_l k bytes)) is_header ∙ ap (λ (k : ℕ). take (k - header_length_in bytes) (drop_l (header_length_in bytes) bytes)) is_total)) $
          use0 𝓛 (raw (fact 𝓤 (IfOk {E = Rule} (Ok out) (λ (z : Ipv4View). z.options.now ≡ (ipv4_fields bytes).options)))) (fact_i 𝓤 _ (emp 𝓤)
          (front-rest bytes w.front.now h.rest.now 20 lengths.header is_w at_h.rest least ∙ ap (λ (k : ℕ). take (k - 20) (drop_l 20 bytes)) is_header)) $ join ! $
          use0 𝓛 (raw (fact 𝓤 (IfOk {E = Rule} (Ok out) (λ (z : Ipv4View). z.head.now ≡ take 20 bytes)))) (fact_i 𝓤 _ (emp 𝓤) (front-front bytes w.front.now h.front.now 20 lengths.header is_w at_h.front least)) $ join ! $
          use0 𝓛 (raw (fact 𝓤 (OnOk {E = Rule} (Ok out) (refusal4 bytes ≡ None)))) (fact_i 𝓤 _ (emp 𝓤) accepted) $ join ! $
          use0 𝓛 (raw (fact 𝓤 (IfErr {T = Ipv4View} (Ok out) (λ (z : Rule). refusal4 bytes ≡ Some z)))) (fact_i 𝓤 _ (emp 𝓤) tt) $ join ! $ move ! (1 ∷ 0 ∷ []) $ join ! $
          -- [the clauses; the options; the token; the head; the payload]
          move ! (4 ∷ 1 ∷ 3 ∷ []) $ nothing ! $ move ! (1 ∷ 0 ∷ []) $ fjoin ! $ move ! (1 ∷ 0 ∷ []) $ fjoin ! $ move ! (1 ∷ 0 ∷ []) $ fjoin ! $
          feq_i ! (List Val) (x ∷ []) (x ∷ []) refl $ fjoin ! $ fpack ! (Valss Ts) (fields Ts (h.front, (h.rest, (w.rest, tt))) (x ∷ [])) (hv ∷ [], (ov ∷ [], (pv ∷ [], tt))) $
          -- [the view; the clauses; the token]
          nothing ! $ move ! (1 ∷ 0 ∷ []) $ fjoin ! $ feq_i ! (List Val) (x ∷ []) (x ∷ []) refl $ fjoin ! $
          fpack ! (Valss (View κs ∷ [])) (in_a_row (View κs ∷ []) (owns (View κs ∷ []) (out, tt)) (x ∷ [])) (x ∷ [], tt) $
          feq_i ! (List Val) (o ∷ []) (o ∷ []) refl $ fjoin ! $ fpack ! (List Val) (tagged 0 (View κs ∷ []) (out, tt) (o ∷ [])) (x ∷ []) $
          nothing ! $ nothing ! $ fjoin ! $ join ! $ nothing ! $ move ! (3 ∷ 0 ∷ []) $ join ! $ join ! $ join ! $ done !)))))))))),
      ((λ k. absurd (suc-ne-zero 0 (sym k))), tt),
    )))))))
    (λ rule e.
    rewrite ! 2 (λ (x : Result Lengths4 Rule). ‵ ((Q.the_row N.the_row R.the_row).own_val x (v ∷ []))) e refl $
    use1 𝓛 (later (‵ (ends_as r.ghost_name bytes))) (left 𝓛 κs.0 r) $ await ! tt $ move ! (2 ∷ []) $
    use1 𝓛 (given (IsRefusal rule v) (‵ (R.the_row.own_val rule (L.lowered rule ∷ [])))) (opened 𝓛 N.the_row rule v) $ learn ! (λ is.
    lands_as ! is.is refl (is.of_all, (record { fits = lit< tt }, (is.typed, tt))) $
    first ! $ by_variants ! 35 (whole !) (get_tag ! (vrt ! refl (fld ! refl (stop !))) (whole !)) tt (
      (λ k. absurd (suc-ne-zero 0 k)),
      (
        (λ k.
            sets ! (of_opd ! (get_in ! (vrt ! refl (fld ! refl (stop !))) (in_variant ! 1 0 refl refl (whole !)))) refl (is.of_rule, is.typed) $
            sets ! (agg ! (and_then ! (lit ! tt) (and_then ! (get ! refl) (no_more !)))) refl (is.of_all, (record { fits = lit< tt }, (is.typed, tt))) $
            returns_within ! (W.post y) refl (look_at ! 0 refl) $ free_all ! refl $
            suffices ! _ (ends_at 𝓛 f.ended stayed c y (refusal rule) (Err rule) (tt, tt) (tt, tt)) $
            use1 𝓛 (‵ ((Q.the_row (View κs) R.the_row).own_val (Err rule) (refusal rule ∷ []))) (closed 𝓛 (View κs) rule) $
            -- [the result; the bytes as they were; the token]
            use0 𝓛 (raw (fact 𝓤 (IfOk {E = Rule} (Err rule) (λ (x : Ipv4View). x.payload.now ≡ (ipv4_fields bytes).payload)))) (fact_i 𝓤 _ (emp 𝓤) tt) $
            use0 𝓛 (raw (fact 𝓤 (IfOk {E = Rule} (Err rule) (λ (x : Ipv4View). x.options.now ≡ (ipv4_fields bytes).options)))) (fact_i 𝓤 _ (emp 𝓤) tt) $ join ! $
            use0 𝓛 (raw (fact 𝓤 (IfOk {E = Rule} (Err rule) (λ (x : Ipv4View). x.head.now ≡ take 20 bytes)))) (fact_i 𝓤 _ (emp 𝓤) tt) $ join ! $
            use0 𝓛 (raw (fact 𝓤 (OnOk {T = Ipv4View} {E = Rule} (Err rule) (refusal4 bytes ≡ None)))) (fact_i 𝓤 _ (emp 𝓤) tt) $ join ! $
            use0 𝓛 (raw (fact 𝓤 (IfErr {T = Ipv4View} (Err rule) (λ (x : Rule). refusal4 bytes ≡ Some x)))) (fact_i 𝓤 _ (emp 𝓤) (subst (λ (x : Result Lengths4 Rule). IfErr x (λ o. refusal4 bytes ≡ Some o)) e refused)) $ join ! $
            move ! (2 ∷ 0 ∷ []) $ join ! $
            -- [the clauses; the result; the token]
            nothing ! $ nothing ! $ fjoin ! $ move ! (0 ∷ 2 ∷ []) $ join ! $ nothing ! $ move ! (3 ∷ 0 ∷ []) $ join ! $ join ! $ join ! $ done !),
        tt,
      ),
    ))))))))))))))
