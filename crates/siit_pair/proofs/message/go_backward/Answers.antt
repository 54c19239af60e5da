use Rattle.std.proofs.Common.{◌∙◌, List, ℕ, Some, ap, subst, sym}
use Rattle.siit_model.specs.Fragments.{Common}
use Rattle.siit_arrival6.specs.Arrived.{HasError6}
use Rattle.siit_pair.proofs.ErrorsMade.{backward-made}
use Rattle.siit_pair.proofs.Unsummed.{unsummed-behind}
use Rattle.siit_pair.proofs.message.go_backward.Goals as goal

-- what the pseudo-header is made of
any : Common
any = record { class = 0; hop = 0; protocol = 58; source = 0; destination = 0 }

pub returns-in-Some-clause-made : goal.returns-in-Some-clause-made
unfolding any
returns-in-Some-clause-made c =
    let settings = c.args.settings.now in
    let old : List ℕ = c.args.work.now.bytes in
    let error = c.in-Some.error in
    let has : HasError6 settings old error = subst (λ m. HasError6 settings m error) c.bytes.ensures.value c.in-Some.ensures.error in
    λ _. backward-made settings old error has
    ∙ ap (λ (m : List ℕ). Some m)
    (sym (unsummed-behind settings any error.new old c.grow_front.new.self.bytes c.new_error.new.buf.bytes c.shrink_front.new.self.bytes
    c.grow_front.ensures.bytes c.new_error.ensures.bytes c.shrink_front.ensures.bytes))
