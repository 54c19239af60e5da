use Rattle.std.proofs.Common.{[], sym, ◌∙◌}
use Rattle.siit_making.specs.Captures.{generated_capture}
use Rattle.siit_making.proofs.Sights.{capture_refused, write_failed_seen, written_part_seen, written_seen}
use Rattle.siit_making.proofs.through.GeneratedFilesFiles.create.Goals as goal

pub returns-then-eq-clause-cause : goal.returns-then-eq-clause-cause
returns-then-eq-clause-cause g c =
    let it = c.args.self.now in
    capture_refused it.files.ghost_name it.name.now (generated_capture it.capture.now.count it.capture.now.seed) c.args.name.now c.utf8.name (sym c.eq.ensures ∙ c.if-eq.true) (g.F.Files.meaning it.files.now)

pub returns-clause-ok : goal.returns-clause-ok
returns-clause-ok g c =
    let it = c.args.self.now in
    written_seen it.files.ghost_name it.name.now (generated_capture it.capture.now.count it.capture.now.seed) c.args.name.now c.utf8.name (sym c.eq.ensures ∙ c.if-eq.false)
    (g.F.Files.meaning it.files.now) (g.F.Files.meaning c.create.new.self) [] c.create.result c.create.ensures.ok

pub returns-clause-err : goal.returns-clause-err
returns-clause-err g c =
    let it = c.args.self.now in
    written_part_seen it.files.ghost_name it.name.now (generated_capture it.capture.now.count it.capture.now.seed) c.args.name.now c.utf8.name (sym c.eq.ensures ∙ c.if-eq.false)
    (g.F.Files.meaning it.files.now) (g.F.Files.meaning c.create.new.self) [] c.create.result c.create.ensures.err

pub returns-clause-cause : goal.returns-clause-cause
returns-clause-cause g c =
    let it = c.args.self.now in
    write_failed_seen it.files.ghost_name it.name.now (generated_capture it.capture.now.count it.capture.now.seed) c.args.name.now c.utf8.name (sym c.eq.ensures ∙ c.if-eq.false)
    (g.F.Files.meaning it.files.now) (g.F.Files.meaning c.create.new.self) c.create.result c.create.ensures.cause
