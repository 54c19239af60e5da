-- The record of a packet that leaves, in the parts that are appended.
use Rattle.std.proofs.Common.{◌≡◌, ℕ, List, ◌++◌, length, ap, sym, ◌∙◌}
use Rattle.siit_chain.specs.Log.{entry_text, leaves, output_at, output_of}
use Rattle.siit_capture.specs.Written.{written_record_head}
use Rattle.siit_chain.specs.declared.origin.End.{End}
use Rattle.siit_chain.specs.declared.origin.Origin.{Origin}
use Rattle.siit_chain.specs.declared.origin.Output.{Output}
use Rattle.siit_chain.proofs.Grown.{entry_text-leaves}

pub output_is : (origin : Origin) (to : End) (held : List ℕ) (output : Output) → output ≡ output_at to → output ≡ output_of (leaves origin to held)
output_is origin to held output is = is

pub text_is : (origin : Origin) (to : End) (held seen written head : List ℕ) → seen ≡ held → written ≡ held → head ≡ written_record_head origin.seconds origin.nanos (length seen) → head ++ written ≡ entry_text (leaves origin to held)
text_is origin to held seen written head s w h =
    ap (λ b. head ++ b) w ∙ ap (λ x. x ++ held) (h ∙ ap (λ b. written_record_head origin.seconds origin.nanos (length b)) s) ∙ sym (entry_text-leaves origin to held)
