use Rattle.std.proofs.Common.{take, map}
use Rattle.siit_model.specs.Bytes.{field32}
use Rattle.siit_dns.specs.Seen.{record_seen}
use Rattle.siit_dns64.specs.Answers.{made_record, prefixes_for}
use Rattle.siit_dns64.specs.Body.{GrowsBy, IsCounted}
use Rattle.siit_dns64.proofs.body.make_records.Given as goal

abbrev pub invariant-loop-prefix : goal.invariant-loop-prefix
invariant-loop-prefix l =
    GrowsBy l.fn.body l.body (map (made_record l.greatest (record_seen l.r)) (prefixes_for (take l.prefix-index l.prefixes) (field32 l.r.rdata.now 0)))
    × IsCounted l.body
