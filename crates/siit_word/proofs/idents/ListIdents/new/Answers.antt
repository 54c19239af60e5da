use Rattle.std.proofs.Common.{◌+◌, ◌∙◌, ap, zero-add, slice_index}
use Rattle.std.proofs.lemmas.List.{get_or-replicate}
use Rattle.siit_word.specs.Idents.{list_for}
use Rattle.siit_word.proofs.idents.ListIdents.new.Goals as goal

pub returns : goal.returns
returns c =
    λ device k known. let numbers = list_for c.args.lists.items device in
    ap (λ taken. slice_index numbers (taken + k)) (get_or-replicate 256 device 0 0 known) ∙ ap (slice_index numbers) (zero-add k)
