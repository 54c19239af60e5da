use Rattle.std.proofs.Common.{◌≡◌, ℕ, ◌+◌, ◌-◌, ◌%◌, ◌≤◌, List, ◌++◌, length, take, drop, IfSome, ◌∙◌, ap, sym, subst, refl, arith, length-drop}
use Rattle.std.proofs.lemmas.List.{take_rest}
use Rattle.siit_model.specs.Checksum.{pseudo6}
use Rattle.siit_upper.specs.Walks.{walked}
use Rattle.siit_quoted.specs.Bodies.{NewBody}
use Rattle.siit_quoted.specs.Quoted.{HasQuote6}
use Rattle.siit_quoted.specs.Rewriting.{IsCarried, part_before}
use Rattle.siit_quoted.specs.declared.sums.Sums.{Sums}
use Rattle.siit_quoted.proofs.Quotes46.{rewritten-length}
use Rattle.siit_device.specs.Backward.{new_body4}
use Rattle.siit_departure4.proofs.Errors.{behind-header, body-left, body-made, change-made, error-put, made-shorter}
use Rattle.siit_departure4.proofs.error.new_error.Goals as goal

pub quote64_by-octet-requires-clause-extension : goal.quote64_by-octet-requires-clause-extension
quote64_by-octet-requires-clause-extension c =
    let old : List ℕ = c.args.buf.now.bytes in
    let at : ℕ = c.args.at in
    let b = c.read_body-body.result in
    let e = c.read_body-body.ensures in
    let cut : List ℕ = c.cut_end.new.self.bytes in
    let message : List ℕ = drop at old in
    let same : take (length c.bytes.result.now - at) (drop at c.bytes.result.now) ≡ message = take_rest c.bytes.result.now at ∙ ap (drop at) c.bytes.ensures.value in
    let left = body-left old cut at b.len c.cut_end.ensures.bytes in
    let seen : take b.len (drop 8 (take (length c.bytes.result.now - at) (drop at c.bytes.result.now))) ≡ drop (at + 8) cut = ap (λ m. take b.len (drop 8 m)) same ∙ sym left in
    subst (λ l. IfSome b.ext (λ place. IsCarried place l)) seen e.extension

pub quote64_by-octet-requires-clause-quote : goal.quote64_by-octet-requires-clause-quote
quote64_by-octet-requires-clause-quote c =
    let old : List ℕ = c.args.buf.now.bytes in
    let at : ℕ = c.args.at in
    let b = c.read_body-body.result in
    let e = c.read_body-body.ensures in
    let cut : List ℕ = c.cut_end.new.self.bytes in
    let message : List ℕ = drop at old in
    let same : take (length c.bytes.result.now - at) (drop at c.bytes.result.now) ≡ message = take_rest c.bytes.result.now at ∙ ap (drop at) c.bytes.ensures.value in
    let left = body-left old cut at b.len c.cut_end.ensures.bytes in
    let seen : take b.len (drop 8 (take (length c.bytes.result.now - at) (drop at c.bytes.result.now))) ≡ drop (at + 8) cut = ap (λ m. take b.len (drop 8 m)) same ∙ sym left in
    subst (λ l. HasQuote6 (walked b.walk) (part_before b.ext l)) seen e.quote

pub write_head_at-requires-clause-inside : goal.write_head_at-requires-clause-inside
write_head_at-requires-clause-inside c =
    let old : List ℕ = c.args.buf.now.bytes in
    let at : ℕ = c.args.at in
    let b = c.read_body-body.result in
    let e = c.read_body-body.ensures in
    let cut : List ℕ = c.cut_end.new.self.bytes in
    let message : List ℕ = drop at old in
    let same : take (length c.bytes.result.now - at) (drop at c.bytes.result.now) ≡ message = take_rest c.bytes.result.now at ∙ ap (drop at) c.bytes.ensures.value in
    let left = body-left old cut at b.len c.cut_end.ensures.bytes in
    let has = c.requires.message in
    let header : at + 8 ≤ length old = omega (arith, has.header, length-drop at old) in
    let made = body-made c.args.settings.now _ message (drop (at + 8) cut) c.args.error.now (walked b.walk) b.ext b.len same left e.body has in
    let body : NewBody = new_body4 c.args.settings.now c.args.error.now.new message in
    let mid : List ℕ = c.quote64_by-octet.new.buf.bytes in
    let behind = behind-header old cut body.bytes mid at b.len header c.cut_end.ensures.bytes
    (c.quote64_by-octet.ensures.bytes ∙ ap (λ (n : NewBody). take (at + 8) cut ++ n.bytes) made) in
    omega (arith, ap length c.bytes_mut.ensures.value, behind.size)

pub returns-clause-bytes : goal.returns-clause-bytes
returns-clause-bytes c =
    let old : List ℕ = c.args.buf.now.bytes in
    let at : ℕ = c.args.at in
    let b = c.read_body-body.result in
    let e = c.read_body-body.ensures in
    let cut : List ℕ = c.cut_end.new.self.bytes in
    let message : List ℕ = drop at old in
    let same : take (length c.bytes.result.now - at) (drop at c.bytes.result.now) ≡ message = take_rest c.bytes.result.now at ∙ ap (drop at) c.bytes.ensures.value in
    let left = body-left old cut at b.len c.cut_end.ensures.bytes in
    let has = c.requires.message in
    let header : at + 8 ≤ length old = omega (arith, has.header, length-drop at old) in
    let made = body-made c.args.settings.now _ message (drop (at + 8) cut) c.args.error.now (walked b.walk) b.ext b.len same left e.body has in
    let body : NewBody = new_body4 c.args.settings.now c.args.error.now.new message in
    let mid : List ℕ = c.quote64_by-octet.new.buf.bytes in
    let behind = behind-header old cut body.bytes mid at b.len header c.cut_end.ensures.bytes
    (c.quote64_by-octet.ensures.bytes ∙ ap (λ (n : NewBody). take (at + 8) cut ++ n.bytes) made) in
    let sums : Sums = record { gone = c.sum_both.result; come = b.sums.come } in
    let pseudo = λ (m : List ℕ). pseudo6 c.args.old.src.0 c.args.old.dst.0 58 (length m) in
    error-put c.args.settings.now old mid c.bytes_mut.result.now c.write_head_at.new.bytes at (pseudo message) c.args.error.now.new c.quote64_by-octet.result sums body
    b.sums.gone b.sums.come c.bytes_mut.ensures.value c.write_head_at.auto.bytes c.write_head_at.ensures behind has.header
    (c.quote64_by-octet.ensures.octet ∙ ap (λ (n : NewBody). n.octet) made)
    (c.sum_both.ensures ∙ ap (λ n. (n + b.sums.gone) % 65535) (c.pseudo_sum6-pseudo.ensures.value ∙ ap pseudo same)) refl
    (change-made c.args.settings.now _ message c.args.error.now b.sums.gone b.sums.come same e.sums has)

pub returns-clause-shorter : goal.returns-clause-shorter
returns-clause-shorter c =
    let old : List ℕ = c.args.buf.now.bytes in
    let at : ℕ = c.args.at in
    let b = c.read_body-body.result in
    let e = c.read_body-body.ensures in
    let cut : List ℕ = c.cut_end.new.self.bytes in
    let message : List ℕ = drop at old in
    let same : take (length c.bytes.result.now - at) (drop at c.bytes.result.now) ≡ message = take_rest c.bytes.result.now at ∙ ap (drop at) c.bytes.ensures.value in
    let left = body-left old cut at b.len c.cut_end.ensures.bytes in
    let has = c.requires.message in
    let header : at + 8 ≤ length old = omega (arith, has.header, length-drop at old) in
    let made = body-made c.args.settings.now _ message (drop (at + 8) cut) c.args.error.now (walked b.walk) b.ext b.len same left e.body has in
    let body : NewBody = new_body4 c.args.settings.now c.args.error.now.new message in
    let mid : List ℕ = c.quote64_by-octet.new.buf.bytes in
    let behind = behind-header old cut body.bytes mid at b.len header c.cut_end.ensures.bytes
    (c.quote64_by-octet.ensures.bytes ∙ ap (λ (n : NewBody). take (at + 8) cut ++ n.bytes) made) in
    let shorter : length body.bytes ≤ length (drop 8 message) =
    made-shorter c.args.settings.now _ message c.args.error.now same e.shorter has in
    omega (arith, rewritten-length mid c.write_head_at.new.bytes, behind.size, shorter, length-drop 8 message, length-drop at old, header)
