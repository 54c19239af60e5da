use Rattle.std.proofs.Common.{ℕ, List, Option, IfSome, subst, arith}
use Rattle.siit_upper.specs.Walks.{walked}
use Rattle.siit_quoted.specs.Rewriting.{IsCarriedTurned}
use Rattle.siit_quoted.proofs.QuoteSumsTurned.{sums-alone, sums-extended}
use Rattle.siit_quoted.proofs.sums_turned.quote_sums_turned.Goals as goal

pub returns-in-None : goal.returns-in-None
returns-in-None c =
    sums-alone c.args.new.src.0 c.args.new.dst.0 c.part_sums.result.gone c.part_sums.result.come (walked c.args.walk.now) c.args.ext c.args.body.now c.in-None.is c.part_sums.ensures

pub returns-in-Some : goal.returns-in-Some
returns-in-Some c =
    let body : List ℕ = c.args.body.now in
    let carried : IsCarriedTurned c.in-Some.place body = subst (λ (e : Option ℕ). IfSome e (λ place. IsCarriedTurned place body)) c.in-Some.is c.requires.extension in
    let some = carried.carried.some in
    sums-extended c.args.new.src.0 c.args.new.dst.0 c.in-Some.place c.from.result c.part_sums-in-Some.result.gone c.part_sums-in-Some.result.come (walked c.args.walk.now) c.args.ext body
    c.in-Some.is c.from.ensures carried.units (omega (arith, some, c.from.ensures)) c.part_sums-in-Some.ensures
