use Rattle.std.proofs.Common.{◌≡◌, ◌∙◌, List, ℕ, None, Some, ap, sym}
use Rattle.siit_model.specs.Checksum.{residue}
use Rattle.siit_pair.specs.Same.{error_forward, is_same_unsummed, unsummed}
use Rattle.siit_pair.proofs.SameErrors.{same-by-bytes}
use Rattle.siit_pair.proofs.message.is_same_error.Goals as goal

pub returns-then-not-go_backward : goal.returns-then-not-go_backward
returns-then-not-go_backward c =
    let old : List ℕ = c.args.old.now in
    let middle : List ℕ = c.go_forward.new.work.bytes in
    let sums : residue c.args.new.now ≡ residue old = sym c.sum_of.ensures.value ∙ c.if-sum_of.false ∙ c.sum_of-2.ensures.value in
    let loaded : c.load.new.self.bytes ≡ old = ap (λ w. w.bytes) c.load.ensures in
    let forward : error_forward c.args.first.now old ≡ Some (unsummed 2 middle) =
    sym (ap (error_forward c.args.first.now) loaded) ∙ c.go_forward.ensures.made c.if-not-go_forward.false in
    same-by-bytes c.args.first.now c.args.second.now old c.args.new.now middle None sums (c.go_forward.ensures.header c.if-not-go_forward.false) forward
    (c.go_backward.ensures.none c.if-not-go_backward.true)

pub returns : goal.returns
returns c =
    let old : List ℕ = c.args.old.now in
    let new : List ℕ = c.args.new.now in
    let middle : List ℕ = c.go_forward.new.work.bytes in
    let last : List ℕ = c.go_backward.new.work.bytes in
    let sums : residue new ≡ residue old = sym c.sum_of.ensures.value ∙ c.if-sum_of.false ∙ c.sum_of-2.ensures.value in
    let loaded : c.load.new.self.bytes ≡ old = ap (λ w. w.bytes) c.load.ensures in
    let forward : error_forward c.args.first.now old ≡ Some (unsummed 2 middle) =
    sym (ap (error_forward c.args.first.now) loaded) ∙ c.go_forward.ensures.made c.if-not-go_forward.false in
    c.is_same_unsummed.ensures
    ∙ ap (λ (m : List ℕ). is_same_unsummed 2 m new) c.bytes.ensures.value
    ∙ same-by-bytes c.args.first.now c.args.second.now old new middle (Some (unsummed 2 last)) sums (c.go_forward.ensures.header c.if-not-go_forward.false) forward
    (c.go_backward.ensures.made c.if-not-go_backward.false)
