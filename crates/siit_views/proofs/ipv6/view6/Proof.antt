-- The walk through `view6`: the bytes are lent to `check6`. A refusal leaves them as they were, and otherwise they are
-- split twice.
use Rattle.std.proofs.Common.{◌≡◌, ◌^◌, ◌+◌, ◌-◌, ◌≤◌, ◌<◌, ℕ, List, [], ◌∷◌, ◌++◌, refl, sym, ap, ◌∙◌, length, take, drop as drop_l, IfOk, IfErr, OnOk, Some, None, Err, Ok, Result, lit<, subst, arith}
use Rattle.std.proofs.raw_atomic.Walks.{proved}
use Rattle.std.proofs.lemmas.List.{length-take-le}
use base.Fraction.{full_share}
use base.Logic.{id⊢, emp}
use base.Fml.{ftrue, flft}
use mir.Syntax.{named}
use mir.Val.{Val, WT, of_list, vcons, vnil}
use contract.Lifetimes.{Lfts}
use contract.Monad.{fact, fact_i}
use contract.Running.{tables}
use denote.Builtin.{u8, usize}
use denote.Enum.Enum.{in_a_row}
use denote.Exit.{no}
use denote.Laws.{shows}
use denote.RattleType.{RattleType, Valss, owns}
use denote.Ref.{as_bor}
use denote.Signature.{plain, mut_slice_of, named_lft}
use denote.Slice.{MutSlice, ShrSlice, slice_val, mut_slice_vals, mut_slice_Tells}
use denote.Steps.{nothing, heard, peeks, only}
use denote.Triple.Call.{calls_at}
use denote.Triple.Clauses.{lasts}
use denote.Triple.Spec.{triple_of}
use denote.Triple.Table.{framed}
use denote.Triple.Walked.{Stays, walk_of, stay_dropped, Goes-spent_slice, ends_at}
use native.Mathlib.Nat.{suc-ne-zero}
use types.ByLocal.{alloc_all, pass_all, free_all, look_at, look_in_at, get, get_in, get_tag, sets, sets_last, lands_as, env}
use types.Kit.{‵, raw, ◌⊛◌, some, given, later, at_ret, ◌$◌, ◌∵◌, !, qed, done, move, keep, drop, learn, use0, use1, use2, use3, split, split3, rewrite, fsplit, fpick, feq_l, feq_i, fjoin, fpack, join, pick, await, suffices}
use types.Match.{live, vrt, in_variant, by_variants}
use types.Part.{whole, sub, agg}
use types.Run.{enter, of_opd, lit, addr, from, fld, hop, stop, no_more, and_then, returns, returns_within, first, exec}
use types.Tokens.{lft_new, lft_end}
use Rattle.std.specs.contracts.result.Result as Q
use Rattle.siit_model.specs.Ipv6.{ipv6_fields, payload_length_in}
use Rattle.siit_rules.proofs.rule.Rule.TheLaws as L
use Rattle.siit_rules.specs.contracts.rule.Rule as R
use Rattle.siit_rules.specs.declared.rule.Rule.{Rule}
use Rattle.siit_views.specs.Headers.{refusal6, HasLength6}
use Rattle.siit_views.specs.Parts.{ends_as, lends_packet6}
use Rattle.siit_views.specs.contracts.ipv6.Ipv6View as V
use Rattle.siit_views.specs.declared.ipv6.Ipv6View.{Ipv6View}
use Rattle.siit_views.proofs.Lent.{packet6}
use Rattle.siit_views.proofs.Packets.{front-front, front-rest}
use Rattle.siit_views.proofs.Refused.{IsRefusal, refusal, opened, closed, tagged, fields}
use Rattle.siit_views.proofs.Shared.{kept, read, back, left}
use Rattle.siit_views.proofs.Splits.{splitting, passed, takes, given_back, gives, value}
use Rattle.siit_views.specs.contracts.ipv6.view6 as f
use Rattle.siit_views.proofs.ipv6.view6.Statement.{statement}
use Rattle.siit_views.proofs.ipv6.view6.Code as code
use Rattle.siit_views.specs.contracts.header6.check6 as g
use Rattle.siit_views.proofs.header6.check6.Met as met-g
use Rattle.siit_views.proofs.parts.split_parts.Met as met-s

abbrev stayed : Stays f.ended.signature.params f.ended.kept
stayed = (stay_dropped (mut_slice_of (0 ∷ []) tt (plain (λ _. u8))) no, tt)

abbrev Slice : Lfts 1 → RattleType
Slice κs = MutSlice (named 0) κs.0 u8

abbrev View : Lfts 1 → RattleType
View κs = V.the_row (named_lft 1 0 tt κs)

cases_of_result : {Goal : Type 1} (u : Result ℕ Rule) → ((total : ℕ) → u ≡ Ok total → Goal) → ((rule : Rule) → u ≡ Err rule → Goal) → Goal
cases_of_result (Ok total) ok err = ok total refl
cases_of_result (Err rule) ok err = err rule refl

pub view6_spec : {M : Type 1} → statement M
view6_spec 𝓤 𝓛 𝓜 𝓡 wired =
    let c = f.clauses 𝓛 𝓜.mem 𝓡.returns in let W = walk_of 𝓛 f.ended stayed c in let 𝓣 = tables 𝓤 𝓛.H 𝓜 𝓡 𝓡.env in
    proved 𝓛 f.ended stayed c 𝓜 𝓡 (Goes-spent_slice 𝓛 1 (0 ∷ []) tt (plain (λ _. u8)), tt)
    f.Key.name code.function (code.unfolded 𝓤 𝓛.H 𝓜 𝓡 wired)
    (λ κs. (mut_slice_vals, tt)) (λ κs. (mut_slice_Tells (named 0) κs.0 u8, tt)) (λ κs qs bounds a n are.
    let r = a.0 in let bytes = r.now in let fn : length bytes < 2 ^ 64 = are.0.0.1.0 in
    let y : W.Ghost = ((κs, qs, bounds, a, (mut_slice_vals a.0, tt)), tt) in
    let framed_by = framed 𝓤 𝓛.H 𝓜 𝓣 in let G = triple_of 𝓛 g.signature (g.spec 𝓛 𝓜.mem 𝓡.returns) in
    let S = splitting 𝓛 𝓜 𝓡 in let ask = passed 𝓛 𝓜 𝓡 κs qs bounds in let split_met = met-s.met 𝓤 𝓛 𝓜 𝓡 (code.calls-siit_views::parts::split_parts 𝓡.env wired) in
    let asks = takes 𝓛 𝓜 𝓡 κs qs bounds in let got = given_back 𝓛 𝓜 𝓡 κs qs bounds in let gets = gives 𝓛 𝓜 𝓡 κs qs bounds in
    qed 𝓛 (((‵ (flft κs.0 qs.0) ⊛ ‵ ftrue) ⊛ ‵ ((Slice κs).own_val r (mut_slice_vals r)) ⊛ ‵ ftrue) ∷ ‵ ftrue ∷ []) ∵
    split ! $ split ! $ move ! (2 ∷ []) $ split ! $ keep ! (0 ∷ 2 ∷ []) $
    enter ! _ _ _ _ _ $ alloc_all ! (λ l. pass_all ! refl ((tt, (tt, (record { fits = fn }, tt))), tt) $
    -- [the bytes; the token]
    sets ! (addr ! (from ! (fld ! refl (hop ! (look_in_at ! 1 (sub ! 0 refl (whole !))) (stop !))))) refl (tt, tt) $
    sets ! (agg ! (and_then ! (get ! refl) (and_then ! (get_in ! (fld ! refl (stop !)) (sub ! 1 refl (whole !))) (no_more !)))) refl (tt, (tt, (record { fits = fn }, tt))) $
    lft_new ! tt (λ α. let κ = α ∷ [] in move ! (1 ∷ 2 ∷ []) $
    use2 𝓛 (later (‵ ((ShrSlice (named 0) κ u8).own_val (as_bor r) (mut_slice_vals r)) ⊛ kept 𝓛 κs.0 κ qs.0 r)) (read 𝓛 κs.0 κ qs.0 r) $ await ! tt $ split ! $
    -- [the bytes, shared; what is kept of them; the token of α]
    let z : G.Ghost = (((κ, tt), (full_share, tt), tt, (as_bor r, tt), (mut_slice_vals r, tt)), tt) in
    nothing ! $ move ! (1 ∷ 0 ∷ []) $ join ! $ nothing ! $ move ! (3 ∷ 0 ∷ []) $ join ! $ join ! $
    nothing ! $ move ! (1 ∷ 0 ∷ []) $ use2 𝓛 (raw (G.pre z)) (id⊢ 𝓤 _) $
    calls_at ! framed_by G (met-g.met 𝓤 𝓛 𝓜 𝓡 (code.calls-siit_views::header6::check6 𝓡.env wired)) z
    (and_then ! (get ! refl) (no_more !)) (λ v.
    use1 𝓛 (later (some (λ (u : Result ℕ Rule). ((‵ (flft κ full_share) ⊛ ‵ ftrue) ⊛ ‵ ((Q.the_row usize R.the_row).own_val u (v ∷ []))) ⊛
    some (λ (ws : Unit {0} × Unit {0}). ‵ (lasts g.ended z.0.0 z.0.3 ws) ⊛ raw (fact 𝓤 (IfErr u (λ rule. refusal6 bytes ≡ Some rule)))
    ⊛ raw (fact 𝓤 (OnOk u (refusal6 bytes ≡ None))) ⊛ raw (fact 𝓤 (OnOk u (HasLength6 bytes))) ⊛ raw (fact 𝓤 (IfOk u (λ total. total ≡ 40 + payload_length_in bytes))))))) (id⊢ 𝓤 _) $
    await ! tt $ pick ! (λ u. split ! $ split ! $ split ! $ lft_end ! tt $ move ! (0 ∷ 4 ∷ []) $
    use2 𝓛 (later (‵ ((Slice κs).own_val r (mut_slice_vals r)) ⊛ ‵ (flft κs.0 qs.0))) (back 𝓛 κs.0 κ qs.0 r) $ await ! tt $ split ! $ move ! (2 ∷ []) $ drop ! $
    move ! (3 ∷ []) $ pick ! (λ ws. split ! $ drop ! $ split ! $ heard ! _ (λ refused. split3 ! $ heard ! _ (λ accepted. heard ! _ (λ fit. heard ! _ (λ is_total.
    -- [the bytes; the token; the result]
    cases_of_result u
    (λ total e.
    rewrite ! 2 (λ (x : Result ℕ Rule). ‵ ((Q.the_row usize R.the_row).own_val x (v ∷ []))) e refl $ move ! (2 ∷ []) $
    fpick ! (λ us. fsplit ! $ feq_l ! (λ ev. fpick ! (λ vss. fsplit ! $ feq_l ! (λ eu. fsplit ! $ move ! (1 ∷ []) $ drop ! $
    peeks ! usize _ (shows 𝓛 usize) total vss.0 (λ is. drop ! $
    lands_as ! (ap only ev ∙ ap (λ (ws : List Val). live 0 (of_list ws)) (eu ∙ ap (λ (ws : List Val). ws ++ []) is.0)) refl (tt, (record { fits = lit< tt }, (record { fits = is.1 }, tt))) $
    first ! $ by_variants ! 26 (whole !) (get_tag ! (vrt ! refl (fld ! refl (stop !))) (whole !)) tt (
      (λ k.
          sets ! (of_opd ! (get_in ! (vrt ! refl (fld ! refl (stop !))) (in_variant ! 0 0 refl refl (whole !)))) refl (tt, record { fits = is.1 }) $
          sets_last ! (of_opd ! (get ! refl)) refl (tt, record { fits = is.1 }) $
          exec ! 𝓣.C 𝓣.Λ (env (code.function).locals l) code.Mir.t-5 (at_ret (env (code.function).locals l) (W.post y)) $
          sets ! (of_opd ! (get ! refl)) refl (tt, record { fits = is.1 }) $
          let fit : HasLength6 bytes = subst (λ (x : Result ℕ Rule). OnOk x (HasLength6 bytes)) e fit in
          let is_total : total ≡ 40 + payload_length_in bytes = subst (λ (x : Result ℕ Rule). IfOk x (λ t. t ≡ 40 + payload_length_in bytes)) e is_total in
          let accepted : refusal6 bytes ≡ None = subst (λ (x : Result ℕ Rule). OnOk x (refusal6 bytes ≡ None)) e accepted in
          let above : 40 ≤ total = omega (arith, is_total) in
          let len : total - 40 ≡ payload_length_in bytes = omega (arith, is_total) in
          let inside : total ≤ length bytes = subst (λ (t : ℕ). t ≤ length bytes) (sym is_total) fit.fits in
          let at_least : (p : List ℕ) → p ≡ take total bytes → 40 ≤ length p = λ p is_p. omega (arith, ap length is_p, length-take-le total bytes inside) in
          -- the packet, and what is behind it
          sets ! (addr ! (from ! (fld ! refl (hop ! (look_in_at ! 1 (sub ! 0 refl (whole !))) (stop !))))) refl (tt, tt) $
          sets ! (agg ! (and_then ! (get ! refl) (and_then ! (get_in ! (fld ! refl (stop !)) (sub ! 1 refl (whole !))) (no_more !)))) refl (tt, (tt, (record { fits = fn }, tt))) $
          use2 𝓛 (raw (S.pre (ask r total))) (asks r total inside is.1) $
          calls_at ! framed_by S split_met (ask r total)
          (and_then ! (get ! refl) (and_then ! (get ! refl) (no_more !))) (λ v'.
          use1 𝓛 (got r total v') (gets r total v') $ await ! tt $ pick ! (λ p. learn ! (λ at_p. split ! $ move ! (1 ∷ []) $ split3 ! $
          lands_as ! at_p.is refl (tt, ((tt, (record { fits = at_p.front_fits }, tt)), ((tt, (record { fits = at_p.rest_fits }, tt)), tt))) $
          use1 𝓛 (later (‵ (ends_as p.rest.ghost_name p.rest.now))) (left 𝓛 κs.0 p.rest) $ await ! tt $
          -- [what is behind; the loan; the token; the packet]
          sets ! (addr ! (from ! (fld ! refl (fld ! refl (hop ! (look_in_at ! 5 (sub ! 0 refl (sub ! 0 refl (whole !)))) (stop !)))))) refl (tt, tt) $
          sets ! (agg ! (and_then ! (get ! refl) (and_then ! (get_in ! (fld ! refl (fld ! refl (stop !))) (sub ! 1 refl (sub ! 0 refl (whole !)))) (no_more !)))) refl (tt, (tt, (record { fits = at_p.front_fits }, tt))) $
          move ! (3 ∷ 2 ∷ []) $ use2 𝓛 (raw (S.pre (ask p.front 40))) (asks p.front 40 (at_least p.front.now at_p.front) (lit< tt)) $
          calls_at ! framed_by S split_met (ask p.front 40)
          (and_then ! (get ! refl) (and_then ! (lit ! tt) (no_more !))) (λ v''.
          use1 𝓛 (got p.front 40 v'') (gets p.front 40 v'') $ await ! tt $ pick ! (λ h. learn ! (λ at_h. split ! $ move ! (1 ∷ []) $ split3 ! $
          -- [the payload; the packet's loan; the token; the head; what is behind; the loan]
          let x : Val = value h in
          let wx : WT x = ((tt, (record { fits = at_h.front_fits }, tt)), ((tt, (record { fits = at_h.rest_fits }, tt)), tt)) in
          lands_as ! at_h.is refl (tt, wx) $
          sets ! (addr ! (from ! (fld ! refl (fld ! refl (hop ! (look_in_at ! 6 (sub ! 0 refl (sub ! 0 refl (whole !)))) (stop !)))))) refl (tt, tt) $
          sets ! (agg ! (and_then ! (get ! refl) (and_then ! (get_in ! (fld ! refl (fld ! refl (stop !))) (sub ! 1 refl (sub ! 0 refl (whole !)))) (no_more !)))) refl (tt, (tt, (record { fits = at_h.front_fits }, tt))) $
          sets ! (addr ! (from ! (fld ! refl (fld ! refl (hop ! (look_in_at ! 6 (sub ! 0 refl (sub ! 1 refl (whole !)))) (stop !)))))) refl (tt, tt) $
          sets ! (agg ! (and_then ! (get ! refl) (and_then ! (get_in ! (fld ! refl (fld ! refl (stop !))) (sub ! 1 refl (sub ! 1 refl (whole !)))) (no_more !)))) refl (tt, (tt, (record { fits = at_h.rest_fits }, tt))) $
          sets ! (agg ! (and_then ! (get ! refl) (and_then ! (get ! refl) (no_more !)))) refl (tt, wx) $
          sets ! (agg ! (and_then ! (lit ! tt) (and_then ! (get ! refl) (no_more !)))) refl (tt, (record { fits = lit< tt }, (wx, tt))) $
          returns ! (look_at ! 0 refl) $ free_all ! refl $
          let out : Ipv6View = record { head = h.front; payload = h.rest } in
          let o : Val = live 0 (vcons x vnil) in
          let Ts : List RattleType = Slice κs ∷ Slice κs ∷ [] in
          suffices ! _ (ends_at 𝓛 f.ended stayed c y o (Ok out) (tt, tt) (tt, tt)) $
          rewrite ! 4 (λ (ys : List ℕ). ‵ (ends_as p.rest.ghost_name ys)) (at_p.rest ∙ ap (λ (k : ℕ). drop_l k bytes) is_total) refl $
          move ! (5 ∷ 4 ∷ 1 ∷ []) $ use3 𝓛 (‵ (lends_packet6 r out)) (packet6 𝓛 r p.front.ghost_name p.rest.ghost_name out) $
          use0 𝓛 (raw (fact 𝓤 (IfOk {E = Rule} (Ok out) (λ (z : Ipv6View). z.payload.now ≡ (ipv6_fields bytes).body)))) (fact_i 𝓤 _ (emp 𝓤)
          (front-rest bytes p.front.now h.rest.now 40 total at_p.front at_h.rest above ∙ ap (λ (k : ℕ). take k (drop_l 40 bytes)) len)) $
          use0 𝓛 (raw (fact 𝓤 (IfOk {E = Rule} (Ok out) (λ (z : Ipv6View). z.head.now ≡ take 40 bytes)))) (fact_i 𝓤 _ (emp 𝓤) (front-front bytes p.front.now h.front.now 40 total at_p.front at_h.front above)) $ join ! $
          use0 𝓛 (raw (fact 𝓤 (OnOk {E = Rule} (Ok out) (refusal6 bytes ≡ None)))) (fact_i 𝓤 _ (emp 𝓤) accepted) $ join ! $
          use0 𝓛 (raw (fact 𝓤 (IfErr {T = Ipv6View} (Ok out) (λ (z : Rule). refusal6 bytes ≡ Some z)))) (fact_i 𝓤 _ (emp 𝓤) tt) $ join ! $ move ! (1 ∷ 0 ∷ []) $ join ! $
          -- [the clauses; the payload; the token; the head]
          move ! (1 ∷ 3 ∷ []) $ nothing ! $ move ! (1 ∷ 0 ∷ []) $ fjoin ! $ move ! (1 ∷ 0 ∷ []) $ fjoin ! $
          feq_i ! (List Val) (x ∷ []) (x ∷ []) refl $ fjoin ! $ fpack ! (Valss Ts) (fields Ts (h.front, (h.rest, tt)) (x ∷ [])) (slice_val h.front.ref_ptr (length h.front.now) ∷ [], (slice_val h.rest.ref_ptr (length h.rest.now) ∷ [], tt)) $
          -- [the view; the clauses; the token]
          nothing ! $ move ! (1 ∷ 0 ∷ []) $ fjoin ! $ feq_i ! (List Val) (x ∷ []) (x ∷ []) refl $ fjoin ! $
          fpack ! (Valss (View κs ∷ [])) (in_a_row (View κs ∷ []) (owns (View κs ∷ []) (out, tt)) (x ∷ [])) (x ∷ [], tt) $
          feq_i ! (List Val) (o ∷ []) (o ∷ []) refl $ fjoin ! $ fpack ! (List Val) (tagged 0 (View κs ∷ []) (out, tt) (o ∷ [])) (x ∷ []) $
          nothing ! $ nothing ! $ fjoin ! $ join ! $ nothing ! $ move ! (3 ∷ 0 ∷ []) $ join ! $ join ! $ join ! $ done !))))))),
      ((λ k. absurd (suc-ne-zero 0 (sym k))), tt),
    )))))))
    (λ rule e.
    rewrite ! 2 (λ (x : Result ℕ Rule). ‵ ((Q.the_row usize R.the_row).own_val x (v ∷ []))) e refl $
    use1 𝓛 (later (‵ (ends_as r.ghost_name bytes))) (left 𝓛 κs.0 r) $ await ! tt $ move ! (2 ∷ []) $
    use1 𝓛 (given (IsRefusal rule v) (‵ (R.the_row.own_val rule (L.lowered rule ∷ [])))) (opened 𝓛 usize rule v) $ learn ! (λ is.
    lands_as ! is.is refl (is.of_all, (record { fits = lit< tt }, (is.typed, tt))) $
    first ! $ by_variants ! 27 (whole !) (get_tag ! (vrt ! refl (fld ! refl (stop !))) (whole !)) tt (
      (λ k. absurd (suc-ne-zero 0 k)),
      (
        (λ k.
            sets ! (of_opd ! (get_in ! (vrt ! refl (fld ! refl (stop !))) (in_variant ! 1 0 refl refl (whole !)))) refl (is.of_rule, is.typed) $
            sets ! (agg ! (and_then ! (lit ! tt) (and_then ! (get ! refl) (no_more !)))) refl (is.of_all, (record { fits = lit< tt }, (is.typed, tt))) $
            returns_within ! (W.post y) refl (look_at ! 0 refl) $ free_all ! refl $
            suffices ! _ (ends_at 𝓛 f.ended stayed c y (refusal rule) (Err rule) (tt, tt) (tt, tt)) $
            use1 𝓛 (‵ ((Q.the_row (View κs) R.the_row).own_val (Err rule) (refusal rule ∷ []))) (closed 𝓛 (View κs) rule) $
            -- [the result; the bytes as they were; the token]
            use0 𝓛 (raw (fact 𝓤 (IfOk {E = Rule} (Err rule) (λ (x : Ipv6View). x.payload.now ≡ (ipv6_fields bytes).body)))) (fact_i 𝓤 _ (emp 𝓤) tt) $
            use0 𝓛 (raw (fact 𝓤 (IfOk {E = Rule} (Err rule) (λ (x : Ipv6View). x.head.now ≡ take 40 bytes)))) (fact_i 𝓤 _ (emp 𝓤) tt) $ join ! $
            use0 𝓛 (raw (fact 𝓤 (OnOk {T = Ipv6View} {E = Rule} (Err rule) (refusal6 bytes ≡ None)))) (fact_i 𝓤 _ (emp 𝓤) tt) $ join ! $
            use0 𝓛 (raw (fact 𝓤 (IfErr {T = Ipv6View} (Err rule) (λ (x : Rule). refusal6 bytes ≡ Some x)))) (fact_i 𝓤 _ (emp 𝓤) (subst (λ (x : Result ℕ Rule). IfErr x (λ o. refusal6 bytes ≡ Some o)) e refused)) $ join ! $
            move ! (2 ∷ 0 ∷ []) $ join ! $
            -- [the clauses; the result; the token]
            nothing ! $ nothing ! $ fjoin ! $ move ! (0 ∷ 2 ∷ []) $ join ! $ nothing ! $ move ! (3 ∷ 0 ∷ []) $ join ! $ join ! $ join ! $ done !),
        tt,
      ),
    )))))))))))))
