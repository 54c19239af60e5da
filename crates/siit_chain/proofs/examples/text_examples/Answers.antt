use Rattle.std.proofs.Common.{refl}
use Rattle.std.specs.Fmt.{digits}
use Rattle.siit_chain.specs.Texts.{end_line, report_line}
use Rattle.siit_chain.proofs.examples.text_examples.Goals as goal

pub returns : goal.returns
unfolding digits report_line end_line
returns c = record { packet = refl; silent = refl; unanswered = refl; answered4 = refl; answered6 = refl; end = refl; most = refl }
