use Rattle.std.proofs.Common.{◌≡◌, ℕ, List, [], ◌++◌, length, refl, ap, sym, subst, ◌∙◌, arith}
use Rattle.siit_chain.proofs.Grown.{on_err_from}
use Rattle.siit_word.specs.Files.{Appended, AppendedPart}
use Rattle.siit_word.proofs.Appended.{HasAppended, all_appended, begun, next_appended, next_cut}
use Rattle.siit_making.specs.Captures.{generated_capture}
use Rattle.siit_making.specs.Parts.{Parts, later}
use Rattle.siit_making.proofs.Parts.{all_parts, has_stepped, later_ends, later_steps}
use Rattle.siit_making.proofs.writing.append_parts.Goals as goal

pub loop-capture-init : goal.loop-capture-init
loop-capture-init g c =
    let all : c.start_over.new.self.hand ++ later c.start_over.new.self ≡ generated_capture c.args.capture.now.count c.args.capture.now.seed =
    ap (λ (p : Parts). p.hand ++ later p) c.start_over.ensures.first ∙ all_parts c.args.capture.now.count c.args.capture.now.seed in
    record {
      appended = subst
          (λ (left : List ℕ). HasAppended (g.F.Files.meaning c.args.files.now) (g.F.Files.meaning c.args.files.now) c.args.name.now (generated_capture c.args.capture.now.count c.args.capture.now.seed) left)
          (sym all) begun;
      count = ap (λ (p : Parts). p.count) c.start_over.ensures.first;
      seed = ap (λ (p : Parts). p.seed) c.start_over.ensures.first;
    }

pub returns-in_err-append_all-clause-err : goal.returns-in_err-append_all-clause-err
returns-in_err-append_all-clause-err g c =
    let part = subst
    (λ (xs : List ℕ). AppendedPart (g.F.Files.meaning c.loop-capture.files) (g.F.Files.meaning c.append_all.new.files) c.args.name.now xs)
    c.bytes.ensures c.in_err-append_all.ensures.err in
    on_err_from c.from_residual.result (next_cut c.loop-capture.capture.hand (later c.loop-capture.capture) c.loop-capture.invariant.appended refl part)

pub returns-then-not-step-clause-ok : goal.returns-then-not-step-clause-ok
returns-then-not-step-clause-ok g c =
    let step = subst (λ (xs : List ℕ). Appended (g.F.Files.meaning c.loop-capture.files) (g.F.Files.meaning c.append_all.new.files) c.args.name.now xs)
    c.bytes.ensures c.in_ok-append_all.ensures.ok in
    let nothing : later c.loop-capture.capture ≡ [] = later_ends c.loop-capture.capture (sym c.step.ensures.more ∙ c.if-not-step.true) in
    all_appended (next_appended c.loop-capture.capture.hand (later c.loop-capture.capture) c.loop-capture.invariant.appended refl step) (ap length nothing)

pub loop-capture-smaller : goal.loop-capture-smaller
loop-capture-smaller g c =
    let s = has_stepped c.loop-capture.capture c.step.new.self (sym c.step.ensures.more ∙ c.if-not-step.false) c.step.ensures.stepped in
    omega (arith, s.more, s.count, s.made)

pub loop-capture-preserved : goal.loop-capture-preserved
loop-capture-preserved g c =
    let step = subst (λ (xs : List ℕ). Appended (g.F.Files.meaning c.loop-capture.files) (g.F.Files.meaning c.append_all.new.files) c.args.name.now xs)
    c.bytes.ensures c.in_ok-append_all.ensures.ok in
    let s = has_stepped c.loop-capture.capture c.step.new.self (sym c.step.ensures.more ∙ c.if-not-step.false) c.step.ensures.stepped in
    record {
      appended = subst
          (λ (left : List ℕ). HasAppended (g.F.Files.meaning c.args.files.now) (g.F.Files.meaning c.append_all.new.files) c.args.name.now (generated_capture c.args.capture.now.count c.args.capture.now.seed) left)
          (later_steps c.loop-capture.capture c.step.new.self (sym c.step.ensures.more ∙ c.if-not-step.false) c.step.ensures.stepped)
          (next_appended c.loop-capture.capture.hand (later c.loop-capture.capture) c.loop-capture.invariant.appended refl step);
      count = s.count ∙ c.loop-capture.invariant.count;
      seed = s.seed ∙ c.loop-capture.invariant.seed;
    }
