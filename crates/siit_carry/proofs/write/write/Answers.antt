use Rattle.std.proofs.Common.{◌≡◌, Some, sym}
use Rattle.std.proofs.lemmas.Result.{on_err_weaker}
use Rattle.siit_chain.specs.Outputs.{name_in}
use Rattle.siit_chain.proofs.Grown.{wrote_part}
use Rattle.siit_carry.proofs.write.write.Goals as goal

pub returns-in-Some-clause-err : goal.returns-in-Some-clause-err
returns-in-Some-clause-err g c =
    let names = name_in c.args.outs.now in
    let name = c.in-Some.name.now in
    let is : names c.args.output ≡ Some name = sym c.in-Some.ensures in
    on_err_weaker c.append_all.result (λ part. wrote_part names c.args.output name c.args.bytes.now c.requires is part) c.append_all.ensures.err
