use Rattle.std.proofs.Common.{ap, sym, ◌∙◌, arith}
use Rattle.siit_hairpin.specs.declared.hairpin.TurnAnswer.TheVariants.{Pair}
use Rattle.siit_quoted.specs.Refusals.{quote_refusal6}
use Rattle.siit_device.specs.Arrival6.{is_pair, quote_turn_for, quoted_part6}
use Rattle.siit_arrival6.specs.Parts.{found_in}
use Rattle.siit_arrival6.proofs.Joined.{in_quoted}
use Rattle.siit_arrival6.proofs.Turns.{in_unturned, not_pair, turned_quote}
use Rattle.siit_arrival6.proofs.quote.quote_back.Goals as goal

pub returns-in-Err-clause-refused : goal.returns-in-Err-clause-refused
returns-in-Err-clause-refused g c =
    in_quoted c.args.settings.now (found_in c.args.header.now c.args.walk) c.upper_part.result.now c.quote_part.result.now c.in-Err.rule
    c.upper_part.ensures.value c.quote_part.ensures c.requires.error c.in-Err.ensures.refused

pub returns-in-Pair-clause-pair : goal.returns-in-Pair-clause-pair
returns-in-Pair-clause-pair g c =
    let settings = c.args.settings.now in
    let part = c.quote_part.ensures ∙ ap quoted_part6 c.upper_part.ensures.value in
    ap (quote_turn_for settings) (sym part)
    ∙ turned_quote settings c.quote_part.result.now c.in-Ok.quote.addresses.src.0 c.in-Ok.quote.addresses.dst.0 _ (Pair c.in-Pair.new)
    c.in-Ok.ensures.source c.in-Ok.ensures.destination c.in-Ok-to4-2.ensures.mapped c.in-Pair.ensures.answer

pub returns-in_default-turn : goal.returns-in_default-turn
returns-in_default-turn g c =
    let settings = c.args.settings.now in
    let found = found_in c.args.header.now c.args.walk in
    let part = c.quote_part.ensures ∙ ap quoted_part6 c.upper_part.ensures.value in
    let turned = ap (quote_turn_for settings) (sym part)
    ∙ turned_quote settings c.quote_part.result.now c.in-Ok.quote.addresses.src.0 c.in-Ok.quote.addresses.dst.0 _ c.turn.result
    c.in-Ok.ensures.source c.in-Ok.ensures.destination c.in-Ok-to4-2.ensures.mapped c.turn.ensures.answer in
    record {
      refused = in_unturned settings found c.requires.error (ap quote_refusal6 (sym part) ∙ c.in-Ok.ensures.accepted) c.requires.turn
          (ap is_pair turned ∙ not_pair c.turn.result c.in_default-turn.not-Pair);
      accepted = tt;
      quote = tt;
      pair = tt;
      cost = omega (arith, c.turn.ensures.cost, c.to4-2.ensures.cost, c.to4.ensures.cost);
      counted = omega (arith, c.turn.ensures.counted, c.to4-2.ensures.counted, c.to4.ensures.counted);
    }
