use Rattle.std.proofs.Common.{◌≡◌, ℕ, ◌-◌, Some, length, take, drop, min, ap, subst, ◌∙◌, arith}
use Rattle.siit_word.specs.Files.{Copies}
use Rattle.siit_making.specs.Captures.{generated_capture}
use Rattle.siit_making.specs.Parts.{AreParts, Parts}
use Rattle.siit_making.proofs.Read.{copied_part}
use Rattle.siit_making.proofs.capture.GeneratedCapture.read.Goals as goal

pub returns-clause-copied : goal.returns-clause-copied
returns-clause-copied c =
    let here : Parts = c.go_to.new.self in
    let is : AreParts here = subst (λ (p : Parts). AreParts p) c.self.view_is c.self.invariant in
    let place : c.self.inside.place ≡ here.place = ap (λ (p : Parts). p.place) c.self.view_is in
    let hand : c.bytes.result.now ≡ here.hand = c.bytes.ensures.value ∙ ap (λ (p : Parts). p.hand) c.self.view_is in
    let size : c.copy_from.result ≡ min (length c.copy_from.new.into) (length here.hand - (c.args.at - here.place)) =
    omega (arith, c.copy_from.ensures.count, c.copy_from.auto.into, ap length hand, place) in
    let copied : take c.copy_from.result c.copy_from.new.into ≡ take c.copy_from.result (drop (c.args.at - here.place) here.hand) =
    c.copy_from.ensures.copied ∙ ap (λ bytes. take c.copy_from.result (drop (c.args.at - c.self.inside.place) bytes)) hand
    ∙ ap (λ (n : ℕ). take c.copy_from.result (drop (c.args.at - n) here.hand)) place in
    let all : Copies (Some (generated_capture here.count here.seed)) c.args.at c.copy_from.result c.copy_from.new.into =
    copied_part here is c.args.at c.copy_from.result c.copy_from.new.into c.go_to.ensures.before c.go_to.ensures.inside size copied in
    subst (λ (n : ℕ). Copies (Some (generated_capture n c.args.self.now.seed)) c.args.at c.copy_from.result c.copy_from.new.into) c.go_to.ensures.count
    (subst (λ (n : ℕ). Copies (Some (generated_capture here.count n)) c.args.at c.copy_from.result c.copy_from.new.into) c.go_to.ensures.seed all)
