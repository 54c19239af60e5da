use Rattle.std.proofs.Common.{◌≡◌, ◌==◌, true, false, ap, sym, ◌∙◌, arith}
use Rattle.siit_model.specs.Bytes.{field8}
use Rattle.siit_device.specs.Options.{ends_options, is_route, has_route}
use Rattle.siit_arrival4.proofs.Routes.{option_turn, dead_route}
use Rattle.siit_arrival4.proofs.options.+has_route.Goals as goal

pub returns-then-not-is_route : goal.returns-then-not-is_route
returns-then-not-is_route t c =
    let options = c.args.options.now in
    let no_byte : (field8 options 0 == 1) ≡ false = sym c.is_no_operation.ensures.is ∙ c.if-is_no_operation.false in
    let no_end : ends_options options ≡ false = sym c.ends.ensures.ends ∙ c.if-ends.false in
    let no_route : is_route (field8 options 0) ≡ false = grind (arith, c.is_route.ensures, c.if-not-is_route.true) in
    c.has_route-then-not-is_route.ensures ∙ ap has_route c.behind_option-rest.ensures ∙ sym (option_turn options no_byte no_end no_route)

pub returns-else-options : goal.returns-else-options
returns-else-options t c =
    let options = c.args.options.now in
    let no_byte : (field8 options 0 == 1) ≡ false = sym c.is_no_operation.ensures.is ∙ c.if-is_no_operation.false in
    let no_end : ends_options options ≡ false = sym c.ends.ensures.ends ∙ c.if-ends.false in
    let route : is_route (field8 options 0) ≡ true = grind (arith, c.is_route.ensures, c.if-not-is_route.false) in
    c.has_route-else-options.ensures ∙ ap has_route c.behind_option-rest.ensures
    ∙ sym (dead_route options no_byte no_end route c.if-options-lt3.false c.if-options.false)
