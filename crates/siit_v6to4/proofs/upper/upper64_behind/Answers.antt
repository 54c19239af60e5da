use Rattle.std.proofs.Common.{◌++◌, take, ◌∙◌, ap}
use Rattle.std.proofs.lemmas.List.{take_rest}
use Rattle.siit_v6to4.specs.To4.{ends_6_to_4, upper_to_4}
use Rattle.siit_v6to4.proofs.Packets.{put-behind}
use Rattle.siit_v6to4.proofs.upper.upper64_behind.Goals as goal

pub returns : goal.returns
returns c =
    let bytes = c.args.bytes.now in
    put-behind c.args.at bytes c.upper64.new.part
    ∙ ap (λ part. take c.args.at bytes ++ part)
    (c.upper64.ensures ∙ ap (upper_to_4 c.args.protocol (ends_6_to_4 c.args.old c.args.new) c.args.whole_len) (take_rest bytes c.args.at))
