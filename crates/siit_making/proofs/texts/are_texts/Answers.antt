use Rattle.std.proofs.Common.{◌≡◌, ℕ, List, Some, IsUtf8}
use Rattle.siit_chain.specs.Outputs.{name_in}
use Rattle.siit_chain.specs.declared.origin.Output.TheVariants.{Left, Right, Report}
use Rattle.siit_making.proofs.texts.are_texts.Goals as goal

pub returns : goal.returns
returns c = λ o. elim o as (λ k. (q : List ℕ) → name_in c.args.outs k ≡ Some q → IsUtf8 q) [
  | Left ↦ c.is_text_if_given.ensures
  | Right ↦ c.is_text_if_given-2.ensures
  | Report ↦ c.is_text_if_given-3.ensures
]
