use Rattle.std.proofs.Common.{◌≤◌, ◌∙◌, List, ℕ, Some, ap, length, subst, sym}
use Rattle.siit_arrival4.specs.Arrived.{HasError4}
use Rattle.siit_pair.specs.Same.{unsummed}
use Rattle.siit_pair.proofs.ErrorsMade.{forward-made}
use Rattle.siit_pair.proofs.Unsummed.{message-long, unsummed-message}
use Rattle.siit_pair.proofs.message.go_forward.Goals as goal

pub returns-in-Some-clause-made : goal.returns-in-Some-clause-made
returns-in-Some-clause-made c =
    let settings = c.args.settings.now in
    let old : List ℕ = c.args.work.now.bytes in
    let error = c.in-Some.error in
    let has : HasError4 settings old error = subst (λ m. HasError4 settings m error) c.bytes.ensures.value c.in-Some.ensures.error in
    λ _. forward-made settings old error has
    ∙ ap (λ (m : List ℕ). Some m) (sym (ap (unsummed 2) c.translate_message.ensures.bytes ∙ unsummed-message settings _ error old has))

pub returns-in-Some-clause-header : goal.returns-in-Some-clause-header
returns-in-Some-clause-header c =
    λ _. subst (λ (m : List ℕ). 8 ≤ length m) (sym c.translate_message.ensures.bytes)
    (message-long c.args.settings.now _ c.in-Some.error c.args.work.now.bytes c.requires.header)
