-- Files that held no bytes and grew.
use Rattle.std.proofs.Common.{inr, ℕ, List, take, Option, ap, ◌∙◌}
use Rattle.siit_word.specs.Files.{FilesMeaning, Touches, grown}
use Rattle.siit_word.proofs.Touched.{told_before}
use Rattle.siit_chain.specs.Outputs.{GrewBy, GrewByPart}
use Rattle.siit_chain.specs.declared.origin.Output.{Output}
use Rattle.siit_running.specs.Answers.{GrewBetween}
use Rattle.siit_network.specs.Holding.{HoldBetween, HoldParts, HoldTexts}
use Rattle.siit_network.proofs.Creating.{nothing}

module _ {outs : Output → Option (List ℕ)} {mid now : FilesMeaning} {reads writes : List (List ℕ)} (made : HoldTexts outs mid nothing) (ran : Touches mid now reads writes) where
  pub holds_text : {texts : Output → List ℕ} → GrewBy outs mid now texts → HoldTexts outs now texts
  holds_text {texts} grew = record {
    each = λ o name is told.
        let before = told_before ran name told in
        grew.each o name is before ∙ ap (λ f. grown f (texts o)) (made.each o name is before);
  }

  pub holds_part : {before : FilesMeaning} {texts : Output → List ℕ} → GrewByPart outs mid now texts → HoldParts outs before now texts
  holds_part {before} {texts} grew = record {
    each = λ o name is told.
        let was = told_before ran name told in
        let part = grew.each o name is was in
        inr (part.0, part.1, part.2 ∙ ap (λ f. grown f (take part.0 (texts o))) (made.each o name is was));
  }

  pub holds_between : {least most : Output → List ℕ} → GrewBetween outs mid now least most → HoldBetween outs now least most
  holds_between {least} {most} grew = record {
    each = λ o name is told.
        let was = told_before ran name told in
        let part = grew.each o name is was in
        (part.0, part.1, part.2, part.3 ∙ ap (λ f. grown f (take part.0 (most o))) (made.each o name is was));
  }
