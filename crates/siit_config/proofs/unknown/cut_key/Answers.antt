use Rattle.std.proofs.Common.{◌≡◌, take, arith, ◌∙◌}
use Rattle.siit_config.proofs.Boundary.{cut_long}
use Rattle.siit_config.proofs.unknown.cut_key.Goals as goal

pub returns : goal.returns
returns c =
    let kept = c.floor_char_boundary.result in
    let name = c.args.name.now in
    let value = c.range.ensures.value in
    let same : c.range.result.now ≡ take kept name = grind (arith, value) in
    c.key_text-2.ensures ∙ same
    ∙ cut_long name kept c.if-name-le64.false c.floor_char_boundary.ensures.bound c.floor_char_boundary.ensures.boundary c.floor_char_boundary.ensures.nearest
