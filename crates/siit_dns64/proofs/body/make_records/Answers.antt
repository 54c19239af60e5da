use Rattle.std.proofs.Common.{◌++◌, List, ℕ, take, map, subst, sym}
use Rattle.siit_model.specs.Bytes.{field32}
use Rattle.siit_dns.specs.Messages.{ResourceRecord}
use Rattle.siit_dns.specs.Seen.{record_seen}
use Rattle.siit_dns64.specs.Answers.{made_record, prefixes_for}
use Rattle.siit_dns64.specs.Body.{GrowsBy, made_under}
use Rattle.siit_dns64.proofs.Bodies.{grows-more, made-more}
use Rattle.siit_dns64.proofs.body.make_records.Goals as goal

pub loop-prefix-preserved : goal.loop-prefix-preserved
loop-prefix-preserved c =
    let r : ResourceRecord = record_seen c.args.r.now in
    let i : ℕ = c.loop-prefix.prefix-index in
    let before : List (List ℕ) = map (made_record c.args.greatest r) (prefixes_for (take i c.args.prefixes.now) (field32 r.rdata 0)) in
    let grows : GrowsBy c.args.body.now c.make_record.new.body (before ++ made_under c.args.greatest r c.prefix-item.result) =
    grows-more c.args.body.now c.loop-prefix.body c.make_record.new.body before (made_under c.args.greatest r c.prefix-item.result) c.loop-prefix.invariant.0 c.in_ok-make_record.ensures.body in (
      subst (λ (lines : List (List ℕ)). GrowsBy c.args.body.now c.make_record.new.body lines) (sym (made-more c.args.greatest r c.args.prefixes.now i c.prefix-item.result c.loop-prefix-test.true c.prefix-item.is)) grows,
      c.in_ok-make_record.ensures.counted,
    )
