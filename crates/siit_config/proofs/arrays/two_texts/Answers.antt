use Rattle.std.proofs.Common.{◌≢◌, length, sym, arith}
use Rattle.siit_config.proofs.TextPairs.{texts_in-other}
use Rattle.siit_config.proofs.arrays.two_texts.Goals as goal
use Rattle.siit_config.proofs.arrays.two_texts.Goals.{in_default-via-then-as_slice-lt2, in_default-via-else-as_slice-lt2+else-this-lt3}

pub returns-in_default : goal.returns-in_default
returns-in_default c =
    let items = c.in_ok-as_array.field-0.now.items in
    let other : length items ≢ 2 = elim c.in_default.branch [
      | in_default-via-then-as_slice-lt2 w ↦ λ two. grind arith
      | in_default-via-else-as_slice-lt2+else-this-lt3 w ↦ λ two. grind arith
    ] in
    rw (← c.in_ok-as_array.ensures) (sym (texts_in-other items other))
