use Rattle.std.proofs.Common.{◌≡◌, ◌<◌, ◌∙◌, Option, Some, None, Err, refl, ap, sym, subst, vec_len}
use Rattle.std.proofs.lemmas.Result.{err_from_is_err_and}
use Rattle.siit_chain.specs.Carried.{Chain, carry_captured, chain_of, fresh}
use Rattle.siit_chain.specs.Log.{text_of}
use Rattle.siit_chain.specs.Outputs.{name_in, names_in, GrewByPart}
use Rattle.siit_chain.specs.declared.origin.Counts.{Counts}
use Rattle.siit_chain.specs.declared.origin.Origin.{Origin}
use Rattle.siit_running.specs.Carrying.{packet_in, CarriesAll}
use Rattle.siit_running.specs.Ends.{IsChosen, source_at, turns_of}
use Rattle.siit_running.specs.Inputs.{input_name}
use Rattle.siit_running.specs.declared.captures.Captures.{Captures}
use Rattle.siit_running.proofs.ChainsKept.{same_chain, same_piece}
use Rattle.siit_running.proofs.Sides.{only_turn}
use Rattle.siit_running.proofs.Stops.{all_ended, carry_stops, look_stops, unended, unjudged, unwritten_heads}
use Rattle.siit_running.proofs.Turning.{turn_log, turned, turns_less}
use Rattle.siit_running.proofs.UnderWay.{IsRunning, begun_running, sources_now}
use Rattle.siit_running.proofs.running.carry_captures.Goals as goal

pub returns-in_err-write_heads-clause-ends : goal.returns-in_err-write_heads-clause-ends
returns-in_err-write_heads-clause-ends g c =
    let d = g.D.Device in
    let chain = chain_of d.outcome d.measure c.args.chain.now.devices.items c.args.chain.now.left c.args.chain.now.right in
    let coming = g.I.Idents.coming c.args.idents.now in
    let from = err_from_is_err_and c.from_residual.result c.from_residual.ensures.1 in
    rw (from.1, from.2)
    (unwritten_heads chain coming coming (input_name c.args.inputs) (name_in c.args.outs) (names_in c.args.outs) (g.F.Files.meaning c.args.files.now) (g.F.Files.meaning c.write_heads.new.files)
    c.in_err-write_heads.ensures.only c.in_err-write_heads.ensures.err c.in_err-write_heads.ensures.cause)

pub returns-in_err-judge_heads-clause-ends : goal.returns-in_err-judge_heads-clause-ends
returns-in_err-judge_heads-clause-ends g c =
    let d = g.D.Device in
    let meaning = g.F.Files.meaning in
    let chain = chain_of d.outcome d.measure c.args.chain.now.devices.items c.args.chain.now.left c.args.chain.now.right in
    let from = err_from_is_err_and c.from_residual-in_err-judge_heads.result c.from_residual-in_err-judge_heads.ensures.1 in
    rw (from.1, from.2)
    (unjudged chain (g.I.Idents.coming c.args.idents.now) (input_name c.args.inputs) (name_in c.args.outs) (names_in c.args.outs) (meaning c.args.files.now) (meaning c.write_heads.new.files) (meaning c.judge_heads.new.files)
    c.args.captures.now c.judge_heads.new.self c.requires.none_of c.requires.new_left c.requires.new_right c.in_ok-write_heads.ensures.only c.in_ok-write_heads.ensures.ok c.in_err-judge_heads.ensures.only
    c.in_err-judge_heads.field-0.0 c.in_err-judge_heads.ensures.fault)

pub loop-origin-init : goal.loop-origin-init
loop-origin-init g c =
    let d = g.D.Device in
    let meaning = g.F.Files.meaning in
    let coming = g.I.Idents.coming c.args.idents.now in
    let names = input_name c.args.inputs in
    let outs = name_in c.args.outs in
    let writes = names_in c.args.outs in
    let chain = chain_of d.outcome d.measure c.args.chain.now.devices.items c.args.chain.now.left c.args.chain.now.right in
    record {
      run =
          subst (λ (n : Counts). IsRunning chain coming coming names outs writes (meaning c.args.files.now) (meaning c.judge_heads.new.files) c.judge_heads.new.self n) (sym c.none-written.ensures)
          (begun_running chain coming names outs writes (meaning c.args.files.now) (meaning c.write_heads.new.files) (meaning c.judge_heads.new.files) c.args.captures.now c.judge_heads.new.self
          c.requires.none_of c.requires.new_left c.requires.new_right c.in_ok-write_heads.ensures.only c.in_ok-write_heads.ensures.ok c.in_ok-judge_heads.ensures.only c.in_ok-judge_heads.ensures.looked c.in_ok-judge_heads.ensures.good c.in_ok-judge_heads.ensures.read);
      room = c.in_ok-judge_heads.ensures.room;
      devices = refl;
      left = refl;
      right = refl;
    }

pub next_origin-requires-clause-sources : goal.next_origin-requires-clause-sources
next_origin-requires-clause-sources g c =
    let before = c.loop-origin.invariant in
    sources_now (g.F.Files.meaning c.args.files.now) (g.F.Files.meaning c.loop-origin.files) (input_name c.args.inputs) (names_in c.args.outs) c.loop-origin.captures c.requires.none_of before.run.only before.run.sources

pub returns-in_err-origin-clause-ends : goal.returns-in_err-origin-clause-ends
returns-in_err-origin-clause-ends g c =
    let d = g.D.Device in
    let meaning = g.F.Files.meaning in
    let chain = chain_of d.outcome d.measure c.args.chain.now.devices.items c.args.chain.now.left c.args.chain.now.right in
    let from = err_from_is_err_and c.from_residual-in_err-origin.result c.from_residual-in_err-origin.ensures.1 in
    rw (from.1, from.2)
    (look_stops chain (g.I.Idents.coming c.args.idents.now) (g.I.Idents.coming c.loop-origin.idents) (input_name c.args.inputs) (name_in c.args.outs) (names_in c.args.outs) (meaning c.args.files.now) (meaning c.loop-origin.files)
    c.loop-origin.captures c.loop-origin.written c.requires.none_of c.loop-origin.invariant.run (meaning c.next_origin.new.files) c.next_origin.new.self c.in_err-origin.ensures.only c.in_err-origin.field-0.0 c.in_err-origin.ensures.fault)

pub returns-in_err-more-clause-ends : goal.returns-in_err-more-clause-ends
returns-in_err-more-clause-ends g c =
    let d = g.D.Device in
    let meaning = g.F.Files.meaning in
    let names = input_name c.args.inputs in
    let outs = name_in c.args.outs in
    let writes = names_in c.args.outs in
    let chain = chain_of d.outcome d.measure c.args.chain.now.devices.items c.args.chain.now.left c.args.chain.now.right in
    let coming_before = g.I.Idents.coming c.args.idents.now in
    let coming = g.I.Idents.coming c.loop-origin.idents in
    let before = meaning c.args.files.now in
    let now = meaning c.loop-origin.files in
    let mid = meaning c.next_origin.new.files in
    let new = meaning c.carry.new.files in
    let old = c.loop-origin.captures in
    let seen = c.next_origin.new.self in
    let origin = c.in-Some.origin in
    let i = c.loop-origin.invariant in
    let look = c.in_ok-origin.ensures in
    let chosen : IsChosen now names old seen (Some origin) = subst (λ (o : Option Origin). IsChosen now names old seen o) c.in-Some.is look.chosen in
    let same : chain_of d.outcome d.measure c.loop-origin.chain.devices.items c.loop-origin.chain.left c.loop-origin.chain.right ≡ chain = same_chain d.outcome d.measure c.loop-origin.chain c.args.chain.now i.devices i.left i.right in
    let part = subst (λ (x : Chain g.row.D.Denot). GrewByPart outs mid new (text_of (carry_captured x origin (fresh coming) (packet_in (source_at origin.end seen).reader.found)).log)) same c.in_err-more.ensures.part in
    let from = err_from_is_err_and c.from_residual-in_err-more.result c.from_residual-in_err-more.ensures.1 in
    rw (from.1, from.2)
    (carry_stops chain coming_before coming names outs writes before now old c.loop-origin.written c.requires.none_of i.run mid new seen look.only look.read c.in_err-more.ensures.only (g.I.Idents.coming c.carry.new.idents)
    (carry_captured chain origin (fresh coming) (packet_in (source_at origin.end seen).reader.found)).log
    (turn_log chain coming_before coming names outs writes before now mid old seen c.loop-origin.written origin c.requires.none_of i.run look.only look.looked look.read origin.end refl chosen.0 chosen.1)
    c.in_err-more.field-0.0 part (λ is. c.in_err-more.ensures.cause (ap Err is)))

pub loop-origin-preserved : goal.loop-origin-preserved
loop-origin-preserved g c =
    let d = g.D.Device in
    let meaning = g.F.Files.meaning in
    let names = input_name c.args.inputs in
    let outs = name_in c.args.outs in
    let writes = names_in c.args.outs in
    let chain = chain_of d.outcome d.measure c.args.chain.now.devices.items c.args.chain.now.left c.args.chain.now.right in
    let coming_before = g.I.Idents.coming c.args.idents.now in
    let coming = g.I.Idents.coming c.loop-origin.idents in
    let coming_new = g.I.Idents.coming c.carry.new.idents in
    let before = meaning c.args.files.now in
    let now = meaning c.loop-origin.files in
    let mid = meaning c.next_origin.new.files in
    let new = meaning c.carry.new.files in
    let old = c.loop-origin.captures in
    let seen = c.next_origin.new.self in
    let origin = c.in-Some.origin in
    let i = c.loop-origin.invariant in
    let look = c.in_ok-origin.ensures in
    let made = c.in_ok-more.ensures in
    let chosen : IsChosen now names old seen (Some origin) = subst (λ (o : Option Origin). IsChosen now names old seen o) c.in-Some.is look.chosen in
    let same : chain_of d.outcome d.measure c.loop-origin.chain.devices.items c.loop-origin.chain.left c.loop-origin.chain.right ≡ chain = same_chain d.outcome d.measure c.loop-origin.chain c.args.chain.now i.devices i.left i.right in
    let carries = subst (λ (x : Chain g.row.D.Denot). CarriesAll outs mid new coming_new c.in_ok-more.more (carry_captured x origin (fresh coming) (packet_in (source_at origin.end seen).reader.found))) same made.carried in
    record {
      run =
          subst (λ (x : Captures). IsRunning chain coming_before coming_new names outs writes before new x c.sum-written.result) (sym made.captures)
          (turned chain coming_before coming names outs writes before now mid old seen c.loop-origin.written origin c.requires.none_of i.run look.only look.looked look.read new coming_new c.in_ok-more.more c.sum-written.result made.only c.sum-written.ensures
          origin.end refl chosen.0 chosen.1 carries);
      room = ap (λ (x : Captures). vec_len x.piece) made.captures ∙ same_piece origin.end origin.number seen ∙ look.room;
      devices = made.devices ∙ i.devices;
      left = made.left ∙ i.left;
      right = made.right ∙ i.right;
    }

pub returns-in_err-write_end-clause-ends : goal.returns-in_err-write_end-clause-ends
returns-in_err-write_end-clause-ends g c =
    let d = g.D.Device in
    let meaning = g.F.Files.meaning in
    let names = input_name c.args.inputs in
    let chain = chain_of d.outcome d.measure c.args.chain.now.devices.items c.args.chain.now.left c.args.chain.now.right in
    let now = meaning c.loop-origin.files in
    let old = c.loop-origin.captures in
    let seen = c.next_origin.new.self in
    let look = c.in_ok-origin.ensures in
    let ended_now : IsChosen now names old seen None = subst (λ (o : Option Origin). IsChosen now names old seen o) c.in_default.is look.chosen in
    let from = err_from_is_err_and c.from_residual-in_err-write_end.result c.from_residual-in_err-write_end.ensures.1 in
    rw (from.1, from.2)
    (unended chain (g.I.Idents.coming c.args.idents.now) (g.I.Idents.coming c.loop-origin.idents) names (name_in c.args.outs) (names_in c.args.outs) (meaning c.args.files.now) now old c.loop-origin.written c.requires.none_of c.loop-origin.invariant.run
    (meaning c.next_origin.new.files) (meaning c.write_end.new.files) seen look.only look.read c.in_err-write_end.ensures.only look.looked ended_now
    (g.I.Idents.coming c.loop-origin.idents) c.in_err-write_end.ensures.err c.in_err-write_end.ensures.cause)

pub returns-clause-ends : goal.returns-clause-ends
returns-clause-ends g c =
    let d = g.D.Device in
    let meaning = g.F.Files.meaning in
    let names = input_name c.args.inputs in
    let chain = chain_of d.outcome d.measure c.args.chain.now.devices.items c.args.chain.now.left c.args.chain.now.right in
    let now = meaning c.loop-origin.files in
    let old = c.loop-origin.captures in
    let seen = c.next_origin.new.self in
    let look = c.in_ok-origin.ensures in
    let ended_now : IsChosen now names old seen None = subst (λ (o : Option Origin). IsChosen now names old seen o) c.in_default.is look.chosen in
    all_ended chain (g.I.Idents.coming c.args.idents.now) (g.I.Idents.coming c.loop-origin.idents) names (name_in c.args.outs) (names_in c.args.outs) (meaning c.args.files.now) now old c.loop-origin.written c.requires.none_of c.loop-origin.invariant.run
    (meaning c.next_origin.new.files) (meaning c.write_end.new.files) seen look.only look.read c.in_ok-write_end.ensures.only look.looked ended_now c.in_ok-write_end.ensures.ok

pub returns-in_err-more-clause-only : goal.returns-in_err-more-clause-only
returns-in_err-more-clause-only g c = only_turn c.loop-origin.invariant.run.only c.in_ok-origin.ensures.only c.in_err-more.ensures.only

pub returns-in_err-write_end-clause-only : goal.returns-in_err-write_end-clause-only
returns-in_err-write_end-clause-only g c = only_turn c.loop-origin.invariant.run.only c.in_ok-origin.ensures.only c.in_err-write_end.ensures.only

pub returns-clause-only : goal.returns-clause-only
returns-clause-only g c = only_turn c.loop-origin.invariant.run.only c.in_ok-origin.ensures.only c.in_ok-write_end.ensures.only

pub loop-origin-smaller : goal.loop-origin-smaller
loop-origin-smaller g c =
    let d = g.D.Device in
    let meaning = g.F.Files.meaning in
    let names = input_name c.args.inputs in
    let chain = chain_of d.outcome d.measure c.args.chain.now.devices.items c.args.chain.now.left c.args.chain.now.right in
    let now = meaning c.loop-origin.files in
    let old = c.loop-origin.captures in
    let seen = c.next_origin.new.self in
    let origin = c.in-Some.origin in
    let look = c.in_ok-origin.ensures in
    let chosen : IsChosen now names old seen (Some origin) = subst (λ (o : Option Origin). IsChosen now names old seen o) c.in-Some.is look.chosen in
    subst (λ (x : Captures). turns_of x < turns_of old) (sym c.in_ok-more.ensures.captures)
    (turns_less chain (g.I.Idents.coming c.args.idents.now) (g.I.Idents.coming c.loop-origin.idents) names (name_in c.args.outs) (names_in c.args.outs) (meaning c.args.files.now) now (meaning c.next_origin.new.files) old seen c.loop-origin.written origin
    c.requires.none_of c.loop-origin.invariant.run look.only look.looked look.read origin.end chosen.0)
