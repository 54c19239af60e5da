use Rattle.std.proofs.Common.{ℕ, ◌+◌, ◌-◌, List, ◌++◌, length, take, drop, ◌∙◌, ap, subst}
use Rattle.siit_model.specs.Bytes.{AreBytes}
use Rattle.siit_views.proofs.Places.{rewritten-same}
use Rattle.siit_turning.specs.Back.{header_back}
use Rattle.siit_turning.proofs.Packets.{IsCut, accepted-there, turned-back}
use Rattle.siit_turning.proofs.turning.turn_back.Goals as goal

pub turn_behind-requires-clause-accepted : goal.turn_behind-requires-clause-accepted
turn_behind-requires-clause-accepted c =
    let old : List ℕ = c.args.buf.now.bytes in
    let cut : List ℕ = c.cut_end.new.self.bytes in
    let is : IsCut old cut =
    record {
      small = subst AreBytes c.bytes.ensures.value c.are_bytes.ensures;
      six = c.requires.version;
      fits = c.requires.arrived.lengths.fits;
      is = c.cut_end.ensures.bytes ∙ ap (λ n. take (40 + n) old) (c.from.ensures ∙ c.requires.arrived.len);
    } in
    accepted-there c.args.settings.now old cut c.args.arrived.now c.args.new c.args.quote c.requires.arrived c.requires.way is

pub returns-clause-bytes : goal.returns-clause-bytes
returns-clause-bytes c =
    let old : List ℕ = c.args.buf.now.bytes in
    let cut : List ℕ = c.cut_end.new.self.bytes in
    let between : List ℕ = c.turn_behind.new.buf.bytes in
    let len : ℕ = length c.bytes-2.result.now - 40 in
    let is : IsCut old cut =
    record {
      small = subst AreBytes c.bytes.ensures.value c.are_bytes.ensures;
      six = c.requires.version;
      fits = c.requires.arrived.lengths.fits;
      is = c.cut_end.ensures.bytes ∙ ap (λ n. take (40 + n) old) (c.from.ensures ∙ c.requires.arrived.len);
    } in
    rewritten-same between c.write_header.new.bytes (c.write_header.auto.bytes ∙ ap length c.bytes_mut.ensures.value)
    ∙ turned-back c.args.settings.now old cut between c.write_header.new.bytes c.args.arrived.now c.args.new c.args.quote len c.requires.arrived c.requires.way is
    c.turn_behind.ensures.bytes (ap (λ (l : List ℕ). length l - 40) c.bytes-2.ensures.value)
    (c.write_header.ensures ∙ ap (λ (l : List ℕ). header_back len c.args.new l ++ drop 40 l) c.bytes_mut.ensures.value)
