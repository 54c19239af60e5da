use Rattle.std.proofs.Common.{◌≡◌, ℕ, ◌%◌, List, Option, IfSome, subst, arith}
use Rattle.siit_upper.specs.Walks.{walked}
use Rattle.siit_quoted.specs.Rewriting.{IsCarried}
use Rattle.siit_quoted.proofs.Bodies.{has-alone}
use Rattle.siit_quoted.proofs.QuoteSums64.{sums-alone, sums-extended}
use Rattle.siit_quoted.proofs.sums64.quote_sums64.Goals as goal

pub returns-in-None : goal.returns-in-None
returns-in-None c =
    let body : List ℕ = c.args.body.now in
    sums-alone c.args.new.src.0 c.args.new.dst.0 c.part_sums.result.gone c.part_sums.result.come c.args.tos_zero (walked c.args.walk.now) c.args.ext body c.in-None.is
    (has-alone (walked c.args.walk.now) c.args.ext body c.in-None.is c.requires.quote) c.part_sums.ensures

pub returns-in-Some : goal.returns-in-Some
returns-in-Some c =
    let body : List ℕ = c.args.body.now in
    let carried : IsCarried c.in-Some.place body = subst (λ (e : Option ℕ). IfSome e (λ place. IsCarried place body)) c.in-Some.is c.requires.extension in
    let even : c.in-Some.place % 2 ≡ 0 = subst (λ (e : Option ℕ). IfSome e (λ place. place % 2 ≡ 0)) c.in-Some.is c.requires.even in
    let some = carried.some in
    sums-extended c.args.new.src.0 c.args.new.dst.0 c.in-Some.place c.from.result c.part_sums-in-Some.result.gone c.part_sums-in-Some.result.come c.args.tos_zero (walked c.args.walk.now) c.args.ext body
    c.in-Some.is c.from.ensures even (omega (arith, some, c.from.ensures)) c.part_sums-in-Some.ensures
