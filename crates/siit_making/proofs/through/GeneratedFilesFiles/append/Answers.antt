use Rattle.std.proofs.Common.{sym, ◌∙◌}
use Rattle.siit_making.specs.Captures.{generated_capture}
use Rattle.siit_making.proofs.Sights.{added_seen, capture_not_added, not_added_seen, write_seen}
use Rattle.siit_making.proofs.through.GeneratedFilesFiles.append.Goals as goal

pub returns-then-eq-clause-err : goal.returns-then-eq-clause-err
returns-then-eq-clause-err g c =
    let it = c.args.self.now in
    capture_not_added it.files.ghost_name it.name.now (generated_capture it.capture.now.count it.capture.now.seed) c.args.name.now c.utf8.name (sym c.eq.ensures ∙ c.if-eq.true) (g.F.Files.meaning it.files.now)

pub returns-clause-ok : goal.returns-clause-ok
returns-clause-ok g c =
    let it = c.args.self.now in
    added_seen it.files.ghost_name it.name.now (generated_capture it.capture.now.count it.capture.now.seed) c.args.name.now c.utf8.name (sym c.eq.ensures ∙ c.if-eq.false)
    (g.F.Files.meaning it.files.now) (g.F.Files.meaning c.append.new.self) c.args.bytes.now c.append.result c.append.ensures.ok

pub returns-clause-err : goal.returns-clause-err
returns-clause-err g c =
    let it = c.args.self.now in
    not_added_seen it.files.ghost_name it.name.now (generated_capture it.capture.now.count it.capture.now.seed) c.args.name.now c.utf8.name (sym c.eq.ensures ∙ c.if-eq.false)
    (g.F.Files.meaning it.files.now) (g.F.Files.meaning c.append.new.self) c.append.result c.append.ensures.err

pub returns-clause-only : goal.returns-clause-only
returns-clause-only g c =
    let it = c.args.self.now in
    write_seen it.files.ghost_name it.name.now (generated_capture it.capture.now.count it.capture.now.seed) c.args.name.now c.utf8.name (sym c.eq.ensures ∙ c.if-eq.false)
    (g.F.Files.meaning it.files.now) (g.F.Files.meaning c.append.new.self) c.append.ensures.only
