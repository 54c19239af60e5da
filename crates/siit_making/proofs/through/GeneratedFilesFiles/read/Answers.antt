use Rattle.std.proofs.Common.{ℕ, ◌^◌, ◌<◌, length, sym, subst, ◌∙◌, arith}
use Rattle.siit_word.specs.Files.{Copied}
use Rattle.siit_making.specs.Captures.{generated_capture}
use Rattle.siit_making.specs.Through.{with_marks}
use Rattle.siit_making.proofs.Parts.{capture_short}
use Rattle.siit_making.proofs.Sights.{capture_copied, copied_seen, not_copied_seen, read_seen}
use Rattle.siit_making.proofs.through.GeneratedFilesFiles.read.Goals as goal

pub returns-then-eq-clause-ok : goal.returns-then-eq-clause-ok
returns-then-eq-clause-ok g c =
    let it = c.args.self.now in
    let files = g.F.Files.meaning it.files.now in
    let small : length (generated_capture it.capture.now.count it.capture.now.seed) < 2 ^ 64 =
    omega (arith, capture_short it.capture.now.count it.capture.now.seed, c.read.ensures.few, c.read.ensures.count) in
    let copied = capture_copied it.files.ghost_name it.name.now (generated_capture it.capture.now.count it.capture.now.seed) c.args.name.now c.utf8.name
    (sym c.eq.ensures ∙ c.if-eq.true) files c.args.at c.read.result c.read.new.into small c.read.ensures.copied in
    subst
    (λ (n : ℕ). Copied (with_marks it.files.ghost_name files it.name.now (generated_capture it.capture.now.count it.capture.now.seed))
    (with_marks it.files.ghost_name files it.name.now (generated_capture n c.read.new.self.seed)) c.args.name.now c.args.at c.read.new.into c.read.result)
    (sym c.read.ensures.count)
    (subst
    (λ (n : ℕ). Copied (with_marks it.files.ghost_name files it.name.now (generated_capture it.capture.now.count it.capture.now.seed))
    (with_marks it.files.ghost_name files it.name.now (generated_capture it.capture.now.count n)) c.args.name.now c.args.at c.read.new.into c.read.result)
    (sym c.read.ensures.seed) copied)

pub returns-clause-ok : goal.returns-clause-ok
returns-clause-ok g c =
    let it = c.args.self.now in
    copied_seen it.files.ghost_name it.name.now (generated_capture it.capture.now.count it.capture.now.seed) c.args.name.now c.utf8.name (sym c.eq.ensures ∙ c.if-eq.false)
    (g.F.Files.meaning it.files.now) (g.F.Files.meaning c.read-2.new.self) c.args.at c.read-2.new.into c.read-2.result c.read-2.ensures.ok

pub returns-clause-err : goal.returns-clause-err
returns-clause-err g c =
    let it = c.args.self.now in
    not_copied_seen it.files.ghost_name it.name.now (generated_capture it.capture.now.count it.capture.now.seed) c.args.name.now c.utf8.name (sym c.eq.ensures ∙ c.if-eq.false)
    (g.F.Files.meaning it.files.now) (g.F.Files.meaning c.read-2.new.self) c.read-2.result c.read-2.ensures.err

pub returns-clause-only : goal.returns-clause-only
returns-clause-only g c =
    let it = c.args.self.now in
    read_seen it.files.ghost_name it.name.now (generated_capture it.capture.now.count it.capture.now.seed) c.args.name.now c.utf8.name (sym c.eq.ensures ∙ c.if-eq.false)
    (g.F.Files.meaning it.files.now) (g.F.Files.meaning c.read-2.new.self) c.read-2.ensures.only
