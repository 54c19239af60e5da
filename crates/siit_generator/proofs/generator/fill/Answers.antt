use Rattle.std.proofs.Common.{◌∙◌, rules, length-set}
use Rattle.siit_generator.proofs.Filled.{filled_on}
use Rattle.siit_generator.proofs.generator.fill.Goals as goal

pub loop-place-preserved : goal.loop-place-preserved
loop-place-preserved c = record {
  place = search rules;
  len = search rules;
  room = filled_on c.args.number c.loop-place.place c.loop-place.room (search rules) c.loop-place.invariant.room;
}
