use Rattle.std.proofs.Common.{List, length, length-drop, ◌≡◌, ◌∙◌, ℕ, ◌+◌, ◌-◌, take, drop, ap, arith, option_map}
use Rattle.std.proofs.lemmas.List.{length-take}
use Rattle.siit_dns.proofs.Items.{record-of, ipv4-size, ipv6-size}
use Rattle.siit_dns.proofs.record.read_record.Goals as goal

pub returns-clause-value : goal.returns-clause-value
returns-clause-value c =
    let start : ℕ = c.in-Some.at + 10 in
    let len : start + c.from-len.result - start ≡ c.from-len.result = omega arith in
    let is_rdata : take (start + c.from-len.result - start) (drop start c.args.bytes.now) ≡ take c.from-len.result (drop start c.args.bytes.now) =
    ap (λ (n : ℕ). take n (drop start c.args.bytes.now)) len in
    record-of c.args.section c.args.bytes.now c.args.place c.in-Some.name.items c.in-Some.at c.get16-kind.result c.get16-2.result c.get32.result c.from-len.result
    (take (start + c.from-len.result - start) (drop start c.args.bytes.now)) (option_map (λ w. w.items) c.in-Some-read_rdata.written) c.in-Some.ensures.value c.if-bytes-at.false c.get16-kind.ensures
    c.get16-2.ensures c.get32.ensures (c.from-len.ensures ∙ c.get16.ensures) c.in-Some-read_rdata.ensures is_rdata

pub returns-clause-sized : goal.returns-clause-sized
returns-clause-sized c =
    let start : ℕ = c.in-Some.at + 10 in
    let rdata : List ℕ = take (start + c.from-len.result - start) (drop start c.args.bytes.now) in
    let size : length rdata ≡ c.from-len.result = omega (arith, length-take (start + c.from-len.result - start) (drop start c.args.bytes.now), length-drop start c.args.bytes.now) in
    record {
      short = omega arith;
      ipv4 = λ is_kind. size ∙ ipv4-size c.get16-kind.result c.args.bytes.now start c.from-len.result (option_map (λ w. w.items) c.in-Some-read_rdata.written) c.in-Some-read_rdata.ensures is_kind;
      ipv6 = λ is_kind. size ∙ ipv6-size c.get16-kind.result c.args.bytes.now start c.from-len.result (option_map (λ w. w.items) c.in-Some-read_rdata.written) c.in-Some-read_rdata.ensures is_kind;
    }
