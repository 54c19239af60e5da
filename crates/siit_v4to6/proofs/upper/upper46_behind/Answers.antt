use Rattle.std.proofs.Common.{◌++◌, take, ◌∙◌, ap}
use Rattle.std.proofs.lemmas.List.{take_rest}
use Rattle.siit_v4to6.specs.To6.{ends_4_to_6, upper_to_6}
use Rattle.siit_v4to6.proofs.Packets.{put-behind}
use Rattle.siit_v4to6.proofs.upper.upper46_behind.Goals as goal

pub returns : goal.returns
returns c =
    let bytes = c.args.bytes.now in
    put-behind c.args.at bytes c.upper46.new.part
    ∙ ap (λ part. take c.args.at bytes ++ part)
    (c.upper46.ensures ∙ ap (upper_to_6 c.args.protocol (ends_4_to_6 c.args.old c.args.new) c.args.whole_len) (take_rest bytes c.args.at))
