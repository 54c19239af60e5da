use Rattle.std.proofs.Common.{◌≡◌, ℕ, ◌%◌, List, Option, IfSome, subst, arith}
use Rattle.siit_quoted.specs.Rewriting.{IsCarriedTo6}
use Rattle.siit_quoted.proofs.QuoteSums46.{sums-extended}
use Rattle.siit_quoted.proofs.sums46.quote_sums46.Goals as goal

pub returns-in-Some : goal.returns-in-Some
returns-in-Some c =
    let body : List ℕ = c.args.body.now in
    let carried : IsCarriedTo6 c.in-Some.place body = subst (λ (e : Option ℕ). IfSome e (λ place. IsCarriedTo6 place body)) c.in-Some.is c.requires.extension in
    let even : c.in-Some.place % 2 ≡ 0 = subst (λ (e : Option ℕ). IfSome e (λ place. place % 2 ≡ 0)) c.in-Some.is c.requires.even in
    let some = carried.carried.some in
    sums-extended c.args.new.src.0 c.args.new.dst.0 c.in-Some.place c.from-place.result c.part_sums-in-Some.result.gone c.part_sums-in-Some.result.come c.args.tos_zero c.args.ext body
    c.in-Some.is c.from-place.ensures even (omega (arith, some, c.from-place.ensures)) c.part_sums-in-Some.ensures
