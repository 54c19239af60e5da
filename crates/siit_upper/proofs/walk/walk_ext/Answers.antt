use Rattle.std.proofs.Common.{◌≡◌, ◌-◌, List, ℕ, length, drop, take, Result, Ok, Err, IfOk, IfErr, ap, ◌∙◌, sym, subst, arith, length-drop}
use Rattle.std.proofs.lemmas.List.{take_rest}
use Rattle.siit_model.specs.Extensions.{Trouble, Walked, walk_of}
use Rattle.siit_upper.specs.Walks.{walk_by_rule, walked}
use Rattle.siit_upper.proofs.Turns.{walk-at_fragment, walk-goes_on}
use Rattle.siit_upper.proofs.walk.walk_ext.Goals as goal

pub headers-preserved : goal.headers-preserved
headers-preserved c =
    let payload : List ℕ = c.args.payload.now in
    let rest : List ℕ = take (length payload - c.headers.at) (drop c.headers.at payload) in
    let is_rest : rest ≡ drop c.headers.at payload = take_rest payload c.headers.at in (
      omega (arith, c.in-Some.ensures.within, ap length is_rest, length-drop c.headers.at payload),
      walk-goes_on payload rest c.headers.at c.headers.next c.in-Some.len c.headers.segments c.segments_left-segments.result (walk_of c.args.first payload)
          is_rest (sym c.passes.ensures ∙ c.headers-test.true) c.in-Some.ensures.whole c.in-Some.ensures.len c.segments_left-segments.ensures c.headers.invariant.1,
    )

pub returns-in-44-clause-walk : goal.returns-in-44-clause-walk
returns-in-44-clause-walk c =
    let payload : List ℕ = c.args.payload.now in
    let rest : List ℕ = take (length payload - c.headers.at) (drop c.headers.at payload) in
    subst (λ (w : Result Walked Trouble). IfOk c.end_at_fragment.result (λ walk. w ≡ Ok (walked walk)))
    (walk-at_fragment payload rest c.headers.at c.headers.next c.headers.segments (walk_of c.args.first payload) (take_rest payload c.headers.at) c.in-44.is c.headers.invariant.1)
    c.end_at_fragment.ensures.walk

pub returns-in-44-clause-refused : goal.returns-in-44-clause-refused
returns-in-44-clause-refused c =
    let payload : List ℕ = c.args.payload.now in
    let rest : List ℕ = take (length payload - c.headers.at) (drop c.headers.at payload) in
    subst (λ (w : Result Walked Trouble). IfErr c.end_at_fragment.result (λ rule. walk_by_rule w ≡ Err rule))
    (walk-at_fragment payload rest c.headers.at c.headers.next c.headers.segments (walk_of c.args.first payload) (take_rest payload c.headers.at) c.in-44.is c.headers.invariant.1)
    c.end_at_fragment.ensures.refused
