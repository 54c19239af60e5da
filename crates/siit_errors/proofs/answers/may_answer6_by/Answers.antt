use Rattle.std.proofs.Common.{◌∙◌, ap, sym, false, Result}
use Rattle.std.specs.Option.{option_map_or}
use Rattle.siit_model.specs.Extensions.{Walked, Trouble}
use Rattle.siit_model.specs.Fragments.{fragment_if}
use Rattle.siit_model.specs.Ipv6.{ipv6_fields}
use Rattle.siit_icmp.specs.Errors.{is_error_kind6}
use Rattle.siit_errors.specs.Answers.{is_answerable}
use Rattle.siit_errors.proofs.answers.may_answer6_by.Goals as goal

pub returns : goal.returns
returns c =
    c.is_answerable6.ensures
    ∙ sym (ap (λ (walked : Result Walked Trouble). option_map_or (is_answerable 58 is_error_kind6) (fragment_if (ipv6_fields c.args.header.now) walked) false) c.requires.walk)
