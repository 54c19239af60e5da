use Rattle.std.proofs.Common.{◌≡◌, ◌∙◌, ◌-◌, ◌<◌, List, ℕ, length, length-drop, take, drop, arith, sym}
use Rattle.std.proofs.lemmas.List.{take_rest}
use Rattle.siit_dns.proofs.Runs.{goes_on, is_cut, pointer-read}
use Rattle.siit_dns.proofs.name.run_end.Goals as goal

pub returns-in_err-rest-2-clause-run : goal.returns-in_err-rest-2-clause-run
returns-in_err-rest-2-clause-run c =
    let rest : List ℕ = c.loop-rest.rest.now in
    let tail : List ℕ = take (length rest - 1) (drop 1 rest) in
    let short : length tail < c.from.result = omega (arith, c.in_err-rest-2.ensures.lookup) in
    rw c.from_residual-in_err-rest-2.ensures
    (sym (is_cut (drop c.args.place c.args.bytes.now) rest tail c.from.result c.loop-rest.invariant.1 c.in-1-to-63.len_at_least c.from.ensures (take_rest rest 1) (omega arith) (omega arith) short))

pub loop-rest-preserved : goal.loop-rest-preserved
loop-rest-preserved c =
    let rest : List ℕ = c.loop-rest.rest.now in
    let tail : List ℕ = take (length rest - 1) (drop 1 rest) in (
      c.loop-rest.invariant.0,
      goes_on (drop c.args.place c.args.bytes.now) rest tail c.in_ok-rest-2.rest.now c.from.result c.loop-rest.invariant.1 c.in-1-to-63.len_at_least c.from.ensures (take_rest rest 1)
          (omega arith) (omega arith) c.in_ok-rest-2.ensures.lookup.0.0 (c.in_ok-rest-2.ensures.lookup.0.2 ∙ take_rest tail c.from.result),
    )

pub returns-in-192-to-255-clause-run : goal.returns-in-192-to-255-clause-run
returns-in-192-to-255-clause-run c =
    let rest : List ℕ = c.loop-rest.rest.now in
    let whole : List ℕ = drop c.args.place c.args.bytes.now in
    let n : length c.args.bytes.now - length rest - c.args.place ≡ length whole - length rest = omega (arith, length-drop c.args.place c.args.bytes.now) in
    rw n
    (sym (pointer-read whole rest c.from-in-192-to-255.result c.from-in-192-to-255-2.result c.loop-rest.invariant.1 c.in-192-to-255.len_at_least c.from-in-192-to-255.ensures c.from-in-192-to-255-2.ensures
    (omega arith) (omega arith)))
