use Rattle.siit_chain.proofs.Grown.{on_err_from}
use Rattle.siit_chain.specs.Outputs.{name_in}
use Rattle.siit_chain.specs.declared.origin.Output.TheVariants.{Left, Right, Report}
use Rattle.siit_network.proofs.Creating.{all_made, made_part, not_made_part, parts_then, touches_made, touches_not_made}
use Rattle.siit_network.proofs.outputs.create_outputs.Goals as goal

pub returns-in_err-create_named-clause-err : goal.returns-in_err-create_named-clause-err
returns-in_err-create_named-clause-err g c =
    on_err_from c.from_residual.result (not_made_part (name_in c.args.outs) c.requires.apart Left c.in_err-create_named.ensures.err)

pub returns-in_err-create_named-2-clause-err : goal.returns-in_err-create_named-2-clause-err
returns-in_err-create_named-2-clause-err g c =
    let names = name_in c.args.outs in
    on_err_from c.from_residual-in_err-create_named-2.result
    (parts_then (touches_not_made (names Right) c.in_err-create_named-2.ensures.err)
    (made_part names c.requires.apart Left c.in_ok-create_named.ensures.ok)
    (not_made_part names c.requires.apart Right c.in_err-create_named-2.ensures.err))

pub returns-in_err-create_named-3-clause-err : goal.returns-in_err-create_named-3-clause-err
returns-in_err-create_named-3-clause-err g c =
    let names = name_in c.args.outs in
    on_err_from c.from_residual-in_err-create_named-3.result
    (parts_then (touches_not_made (names Report) c.in_err-create_named-3.ensures.err)
    (parts_then (touches_made (names Right) c.in_ok-create_named-2.ensures.ok)
    (made_part names c.requires.apart Left c.in_ok-create_named.ensures.ok)
    (made_part names c.requires.apart Right c.in_ok-create_named-2.ensures.ok))
    (not_made_part names c.requires.apart Report c.in_err-create_named-3.ensures.err))

pub returns-clause-ok : goal.returns-clause-ok
returns-clause-ok g c =
    all_made (name_in c.args.outs) c.requires.apart _ _ _ _ c.in_ok-create_named.ensures.ok c.in_ok-create_named-2.ensures.ok
    c.in_ok-create_named-3.ensures.ok
