use Rattle.std.proofs.Common.{◌+◌, ◌∙◌, ◌&&◌, Bool, List, ℕ, ap, drop, nat_eq, sym}
use Rattle.std.specs.Cmp.Lexicographic.{pointwise}
use Rattle.siit_pair.proofs.EqualBytes.{behind-equal, unsummed-equal}
use Rattle.siit_pair.proofs.equal.is_same_unsummed.Goals as goal

pub returns-then-eq : goal.returns-then-eq
returns-then-eq c =
    let place : ℕ = c.args.place in
    let old : List ℕ = c.args.old.now in
    let new : List ℕ = c.args.new.now in
    let behind : Bool = pointwise nat_eq (drop (place + 2) old) (drop (place + 2) new) in
    c.eq-then-eq.ensures
    ∙ behind-equal (place + 2) old new
    ∙ ap (λ b. b && behind) c.if-eq.ensures
    ∙ sym (unsummed-equal place old new c.requires.old c.requires.new)

pub returns-else-eq : goal.returns-else-eq
returns-else-eq c =
    let place : ℕ = c.args.place in
    let old : List ℕ = c.args.old.now in
    let new : List ℕ = c.args.new.now in
    let behind : Bool = pointwise nat_eq (drop (place + 2) old) (drop (place + 2) new) in
    c.if-eq.false
    ∙ ap (λ b. b && behind) c.if-eq.ensures
    ∙ sym (unsummed-equal place old new c.requires.old c.requires.new)
