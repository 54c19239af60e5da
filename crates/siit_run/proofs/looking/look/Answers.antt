use Rattle.std.proofs.Common.{◌≡◌, ◌+◌, ◌++◌, ◌<◌, ◌≤◌, List, ℕ, length, take, drop, length-take, IsTrue, Option, ap, sym, subst, ◌∙◌, arith}
use Rattle.std.specs.Prelude.{option_map}
use Rattle.siit_capture.specs.Captures.{Records, one_more}
use Rattle.siit_capture.specs.Readings.{Reading, fed, records_to_come, without_record}
use Rattle.siit_capture.specs.Records.{Record}
use Rattle.siit_word.specs.Files.{held, raised, Copies}
use Rattle.siit_word.proofs.Touched.{told_after, touches_then}
use Rattle.siit_run.specs.Ahead.{IsReadTo}
use Rattle.siit_run.proofs.Pieces.{IsPieceOf, ends_found, fed_left, on_no_record, on_none, piece_further, piece_of, read_on, read_same, there_by}
use Rattle.siit_run.proofs.looking.look.Goals as goal

pub returns-then-count-eq0-clause-found : goal.returns-then-count-eq0-clause-found
returns-then-count-eq0-clause-found g c =
    let name = c.args.name.now in
    let start = g.F.Files.meaning c.args.files.now in
    let bytes = held (start.contents name) in
    let before = c.loop-fault.invariant in
    let old = c.loop-fault.reader in
    let at_is : c.fed-at.result ≡ fed old = c.fed-at.ensures ∙ c.in-Ok-None.ensures.fed in
    let kept = on_no_record (c.next.new.self ≡ without_record old) c.in-Ok-None.field-0 c.in-Ok-None.field-0-is c.in-Ok-None.ensures.kept in
    let some : 0 < length c.read.new.into = omega (arith, c.read.auto.into, before.size, c.requires.room) in
    λ told.
    let copies : Copies (start.contents name) c.fed-at.result c.in-Ok.count c.read.new.into =
    subst (λ (f : Option (List ℕ)). Copies f c.fed-at.result c.in-Ok.count c.read.new.into) (before.only.contents name tt) (c.in-Ok.ensures.ok.bytes (told_after before.only name told)) in
    let piece = piece_of (start.contents name) c.fed-at.result c.in-Ok.count c.read.new.into some copies in
    let end : length bytes ≤ fed old = omega (arith, at_is, piece.ends c.if-count-eq0.true) in
    ends_found c.end_of.result bytes c.args.reader.now old c.next.new.self c.end_of.ensures kept (before.left told) end

pub loop-fault-preserved : goal.loop-fault-preserved
loop-fault-preserved g c =
    let name = c.args.name.now in
    let start = g.F.Files.meaning c.args.files.now in
    let mid = g.F.Files.meaning c.loop-fault.files in
    let now = g.F.Files.meaning c.read.new.self in
    let bytes = held (start.contents name) in
    let before = c.loop-fault.invariant in
    let old = c.loop-fault.reader in
    let new = c.feed.new.self in
    let n = c.in-Ok.count in
    let at = c.fed-at.result in
    let into = c.read.new.into in
    let ok = c.in-Ok.ensures.ok in
    let none = c.in-Ok-None.ensures in
    let at_is : at ≡ fed old = c.fed-at.ensures ∙ none.fed in
    let kept = on_no_record (c.next.new.self ≡ without_record old) c.in-Ok-None.field-0 c.in-Ok-None.field-0-is none.kept in
    let further = on_none ((more : List ℕ) (found : Record) (ends : ℕ) (rest : Records) → records_to_come old more ≡ one_more found ends rest → fed old < ends) c.in-Ok-None.field-0 c.in-Ok-None.field-0-is none.ahead in
    let size : length into ≡ length c.args.piece.now = c.read.auto.into ∙ before.size in
    let some : 0 < length into = omega (arith, size, c.requires.room) in
    let taken : length (take n into) ≡ n = length-take n into ∙ omega (arith, c.in-Ok.ensures.bound) in
    let sum : fed new ≡ fed old + n = omega (arith, c.feed.ensures.fed, taken, none.fed) in
    let same : (more : List ℕ) → records_to_come new more ≡ records_to_come old (take n into ++ more) =
    λ more. c.feed.ensures.records more ∙ ap (λ (r : Reading). records_to_come r (take n into ++ more)) kept in
    let copies : IsTrue (start.told name) → Copies (start.contents name) at n into =
    λ told. subst (λ (f : Option (List ℕ)). Copies f at n into) (before.only.contents name tt) (ok.bytes (told_after before.only name told)) in
    let piece : IsTrue (start.told name) → IsPieceOf bytes (fed old) n into =
    λ told. subst (λ a. IsPieceOf bytes a n into) at_is (piece_of (start.contents name) at n into some (copies told)) in
    record {
      left = λ told. fed_left bytes old new n into (piece told).is sum same ∙ before.left told;
      inside = λ told. omega (arith, sum, (piece told).within, before.inside told);
      few = omega (arith, sum, at_is, c.if-at-count-gt-MOST_CAPTURE.false);
      more = omega (arith, sum, before.more);
      count = c.feed.ensures.count ∙ ap (λ (r : Reading). r.count) kept ∙ before.count;
      place = omega (arith, before.place, ap (λ (r : Reading). r.place) kept, piece_further c.next.new.self (take n into), ap (λ (r : Reading). r.place) c.feed.ensures.reading);
      size = size;
      read =
          subst (λ place. IsReadTo (start.given name) (now.given name) place) (sym sum)
          (read_same (start.given name) (option_map (raised (fed old) n) (mid.given name)) (now.given name) (fed old + n) (ok.given ∙ ap (λ a. option_map (raised a n) (mid.given name)) at_is)
          (read_on (start.given name) (mid.given name) (fed old) n before.read));
      ahead = λ told found ends rest is low.
          let short = further (drop (fed old) bytes) found ends rest (before.left told ∙ is) in
          omega (arith, short, sum, c.in-Ok.ensures.bound, size, c.requires.size);
      only = touches_then before.only c.in-Ok.ensures.only;
    }

pub returns-in-Err-clause-there : goal.returns-in-Err-clause-there
returns-in-Err-clause-there g c fault is told =
    let start = g.F.Files.meaning c.args.files.now in
    let old = c.loop-fault.reader in
    there_by (start.contents c.args.name.now) old old.place c.in-Err.fault (c.loop-fault.invariant.inside told) c.in-Err.ensures.fault c.in-Err.ensures.uncut
