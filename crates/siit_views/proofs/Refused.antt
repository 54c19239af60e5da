-- A refusal in a proof by hand: its machine value, and what it owns, in any `Result`.
use Rattle.std.proofs.Common.{◌≡◌, ◌++◌, Bool, true, false, ◌&&◌, ℕ, List, [], ◌∷◌, refl, ap, ◌∙◌, subst, Err}
use seplogic.Ra.Ura.{Ura}
use base.Fml.{Fml, fsep, feq, fex}
use base.Logic.{ent, guard}
use denote.Enum.Enum.{in_a_row}
use denote.Enum.Laws.{lawful}
use denote.Laws.{Is, shows}
use denote.RattleType.{RattleType, Denots, Valss, owns, flat}
use denote.Steps.{nothing, peeks, only}
use lib.Dec.{T}
use mir.Val.{Val, WT, has_ty, of_list, vcons, vnil, vstruct}
use types.Kit.{‵, ◌$◌, !, qed, check, fsplit, fpick, feq_l, feq_i, fjoin, fpack, move, drop, rewrite, done}
use types.Logic.{Logic, sem}
use types.Match.{live}
use Rattle.std.specs.contracts.result.Result as Q
use Rattle.siit_rules.proofs.rule.Rule.TheLaws as L
use Rattle.siit_rules.specs.contracts.rule.Rule as R
use Rattle.siit_rules.specs.declared.rule.Rule.{Rule}

abbrev pub refusal : Rule → Val
refusal rule = live 1 (vcons (L.lowered rule) vnil)

-- the machine's refusal by a rule
pub record IsRefusal (rule : Rule) (v : Val) : Type 0 where
  pub is : v ≡ refusal rule
  pub of_rule : T (has_ty L.mir (L.lowered rule))
  pub of_all : T (has_ty L.mir (L.lowered rule) && true)
  pub typed : WT (L.lowered rule)

with_none : (test : Bool) → T test → T (test && true)
with_none true holds = holds
with_none false holds = holds

-- what a value of variant k owns, whose fields are the rows Ts
abbrev pub tagged : ℕ → (Ts : List RattleType) → Denots Ts → List Val → List Val → Fml
tagged k Ts x vs us = fsep (feq (List Val) vs (live k (of_list us) ∷ [])) (fex (Valss Ts) (in_a_row Ts (owns Ts x) us))

-- what a struct of these fields owns
abbrev pub fields : (Ts : List RattleType) → Denots Ts → List Val → Valss Ts → Fml
fields Ts d vs vss = fsep (feq (List Val) vs (vstruct (of_list (flat Ts vss)) ∷ [])) (owns Ts d vss)

module _ {M : Type 1} {𝓤 : Ura M} (𝓛 : Logic 𝓤) (T : RattleType) (rule : Rule) where
  abbrev OfRule : Fml
  OfRule = R.the_row.own_val rule (L.lowered rule ∷ [])

  pub opened : (v : Val) → ent 𝓤 (sem 𝓛 ((Q.the_row T R.the_row).own_val (Err rule) (v ∷ []))) (guard 𝓤 (IsRefusal rule v) (sem 𝓛 OfRule))
  opened v =
      qed 𝓛 (‵ ((Q.the_row T R.the_row).own_val (Err rule) (v ∷ [])) ∷ []) {P = guard 𝓤 (IsRefusal rule v) (sem 𝓛 OfRule)} (
      fpick ! (λ us. fsplit ! $ feq_l ! (λ ev. fpick ! (λ vss. fsplit ! $ feq_l ! (λ eu. fsplit ! $ move ! (1 ∷ []) $ drop ! $
      peeks ! R.the_row _ (shows 𝓛 R.the_row) rule vss.0 (λ is.
      let same : vss.0 ≡ L.lowered rule ∷ [] = L.lowers.val_is rule vss.0 is in
      let typed = (lawful R.the_type L.the_laws 𝓛 tt).typed rule (L.lowered rule ∷ []) (subst (Is R.the_row rule) same is) in
      rewrite ! 0 (λ (vs : List Val). ‵ (R.the_row.own_val rule vs)) same refl $
      check ! (record {
        is = ap only ev ∙ ap (λ (ws : List Val). live 1 (of_list ws)) (eu ∙ ap (λ (ws : List Val). ws ++ []) same);
        of_rule = typed.0.0;
        of_all = with_none (has_ty L.mir (L.lowered rule)) typed.0.0;
        typed = typed.0.1;
      }) $ done !))))))

  pub closed : ent 𝓤 (sem 𝓛 OfRule) (sem 𝓛 ((Q.the_row T R.the_row).own_val (Err rule) (refusal rule ∷ [])))
  closed =
      let u : Val = L.lowered rule in
      qed 𝓛 (‵ OfRule ∷ []) {P = sem 𝓛 ((Q.the_row T R.the_row).own_val (Err rule) (refusal rule ∷ []))} (
      nothing ! $ move ! (1 ∷ 0 ∷ []) $ fjoin ! $ feq_i ! (List Val) (u ∷ []) (u ∷ []) refl $ fjoin ! $
      fpack ! (Valss (R.the_row ∷ [])) (in_a_row (R.the_row ∷ []) (owns (R.the_row ∷ []) (rule, tt)) (u ∷ [])) (u ∷ [], tt) $
      feq_i ! (List Val) (refusal rule ∷ []) (refusal rule ∷ []) refl $ fjoin ! $
      fpack ! (List Val) (tagged 1 (R.the_row ∷ []) (rule, tt) (refusal rule ∷ [])) (u ∷ []) $ done !)
