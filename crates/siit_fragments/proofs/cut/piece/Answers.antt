use Rattle.std.proofs.Common.{◌≡◌, ◌+◌, ◌-◌, ◌*◌, ◌≤◌, ℕ, List, ◌∙◌, sym, ap, subst, take, drop, length, arith}
use Rattle.std.proofs.lemmas.List.{length-take-le}
use Rattle.siit_model.specs.Bytes.{field16}
use Rattle.siit_views.specs.Contents.{Contents}
use Rattle.siit_fragments.specs.Fronts.{word_on, fragment_word_on, fronted4, fronted6}
use Rattle.siit_fragments.specs.Plans.{offset_in, IsPiece, IsPlanFor}
use Rattle.siit_views.proofs.Places.{rewritten-same}
use Rattle.siit_fragments.proofs.PieceIs.{piece4-is, piece6-is, header-six, offset6}
use Rattle.siit_fragments.proofs.cut.piece.Goals as goal

pub slice_bounds-front6-end : goal.slice_bounds-front6-end
slice_bounds-front6-end c =
    let six : c.args.plan.now.header ≡ 48 = header-six c.args.plan.now.header c.requires.planned.header c.if-plan-eq20.false in
    let begins = c.place_of-place.ensures.begins in
    sym (length-take-le 48 c.bytes-bytes.result.now (omega (arith, begins)))

pub front6-requires-clause-headers : goal.front6-requires-clause-headers
front6-requires-clause-headers c =
    let six : c.args.plan.now.header ≡ 48 = header-six c.args.plan.now.header c.requires.planned.header c.if-plan-eq20.false in
    let begins = c.place_of-place.ensures.begins in
    length-take-le 48 c.bytes-bytes.result.now (omega (arith, begins))

pub front6-requires-clause-offset : goal.front6-requires-clause-offset
front6-requires-clause-offset c =
    offset6 c.args.plan.now c.place_of-place.result c.args.k c.bytes-bytes.result.now c.place_of-place.ensures
    (header-six c.args.plan.now.header c.requires.planned.header c.if-plan-eq20.false)
    (subst (λ w. 8 * offset_in c.args.plan.now.header w + (length w - c.args.plan.now.header) ≤ 65535) (sym c.bytes-bytes.ensures.value) c.requires.fits)

pub returns-then-plan-eq20-clause-bytes : goal.returns-then-plan-eq20-clause-bytes
returns-then-plan-eq20-clause-bytes c =
    let place = c.place_of-place.result in
    let bytes : List ℕ = c.bytes-bytes.result.now in
    let loaded : List ℕ = c.load.new.self.bytes in
    let lent : c.bytes_mut.result.now ≡ loaded = c.bytes_mut.ensures.value in
    let new : c.front4.new.piece ≡ fronted4 (take 20 bytes) (length loaded) (word_on (field16 (take 20 bytes) 6) place.blocks place.last) (drop 20 loaded) =
    c.front4.ensures ∙ ap (λ l. fronted4 (take 20 bytes) (length l) (word_on (field16 (take 20 bytes) 6) place.blocks place.last) (drop 20 l)) lent in
    let is : IsPiece c.args.plan.now bytes c.args.k c.front4.new.piece =
    piece4-is c.args.plan.now place c.args.k bytes loaded c.front4.new.piece (subst (λ w. IsPlanFor (length w) c.args.plan.now) (sym c.bytes-bytes.ensures.value) c.requires.planned) c.requires.below c.place_of-place.ensures c.if-plan-eq20.true (ap (λ (v : Contents). v.bytes) c.load.ensures) new in
    subst (λ l. IsPiece c.args.plan.now c.args.whole.now.bytes c.args.k l) (sym (rewritten-same loaded c.front4.new.piece (c.front4.auto.piece ∙ ap length lent)))
    (subst (λ w. IsPiece c.args.plan.now w c.args.k c.front4.new.piece) c.bytes-bytes.ensures.value is)

pub returns-else-plan-eq20-clause-bytes : goal.returns-else-plan-eq20-clause-bytes
returns-else-plan-eq20-clause-bytes c =
    let place = c.place_of-place.result in
    let bytes : List ℕ = c.bytes-bytes.result.now in
    let loaded : List ℕ = c.load.new.self.bytes in
    let six : c.args.plan.now.header ≡ 48 = header-six c.args.plan.now.header c.requires.planned.header c.if-plan-eq20.false in
    let lent : c.bytes_mut-else-plan-eq20.result.now ≡ loaded = c.bytes_mut-else-plan-eq20.ensures.value in
    let new : c.front6.new.piece ≡ fronted6 (take 48 bytes) (length loaded - 40) (fragment_word_on (field16 (take 48 bytes) 42) place.blocks place.last) (drop 48 loaded) =
    c.front6.ensures ∙ ap (λ l. fronted6 (take 48 bytes) (length l - 40) (fragment_word_on (field16 (take 48 bytes) 42) place.blocks place.last) (drop 48 l)) lent in
    let is : IsPiece c.args.plan.now bytes c.args.k c.front6.new.piece =
    piece6-is c.args.plan.now place c.args.k bytes loaded c.front6.new.piece (subst (λ w. IsPlanFor (length w) c.args.plan.now) (sym c.bytes-bytes.ensures.value) c.requires.planned) c.requires.below c.place_of-place.ensures six (ap (λ (v : Contents). v.bytes) c.load.ensures) new in
    subst (λ l. IsPiece c.args.plan.now c.args.whole.now.bytes c.args.k l) (sym (rewritten-same loaded c.front6.new.piece (c.front6.auto.piece ∙ ap length lent)))
    (subst (λ w. IsPiece c.args.plan.now w c.args.k c.front6.new.piece) c.bytes-bytes.ensures.value is)
