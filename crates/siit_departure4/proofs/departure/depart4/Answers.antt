use Rattle.std.proofs.Common.{◌≡◌, ℕ, List, length, true, None, ◌∙◌, ap, sym, subst, refl, arith, length-drop}
use Rattle.siit_model.specs.Ipv6.{ipv6_fields}
use Rattle.siit_device.specs.Addresses.{to4}
use Rattle.siit_device.specs.Arrival6.{Arrived, arrived_fragment, is_error6}
use Rattle.siit_arrival6.specs.Arrived.{HasMessage6, HasSource4, arrival_of}
use Rattle.siit_departure4.proofs.Fields.{cut-off}
use Rattle.siit_departure4.proofs.Sent.{MayBeCut, alone, arrival-same, body-long, goes, offset-small, on-its-way, sent-is, whole-length, written}
use Rattle.siit_departure4.proofs.Shapes.{shape}
use Rattle.siit_departure4.proofs.departure.depart4.Goals as goal

pub new_head-to-requires-clause-source : goal.new_head-to-requires-clause-source
new_head-to-requires-clause-source c =
    let settings = c.args.settings.now in
    let old : List ℕ = c.args.buf.now.bytes in
    let arrived = c.args.arrived.now in
    let go = goes settings old arrived c.args.src c.args.dst c.args.error c.requires.arrived c.requires.way in
    subst (λ (b : List ℕ). HasSource4 settings (ipv6_fields b).source c.args.src) (sym c.bytes.ensures.value) go.source

pub new_head-to-requires-clause-sourceless : goal.new_head-to-requires-clause-sourceless
new_head-to-requires-clause-sourceless c =
    let settings = c.args.settings.now in
    let old : List ℕ = c.args.buf.now.bytes in
    let arrived = c.args.arrived.now in
    let go = goes settings old arrived c.args.src c.args.dst c.args.error c.requires.arrived c.requires.way in
    subst (λ (b : List ℕ). c.args.src ≡ None → is_error6 (arrived_fragment (arrival_of b arrived)) ≡ true) (sym c.bytes.ensures.value) go.sourceless

pub new_head-to-requires-clause-destination : goal.new_head-to-requires-clause-destination
new_head-to-requires-clause-destination c =
    let settings = c.args.settings.now in
    let old : List ℕ = c.args.buf.now.bytes in
    let arrived = c.args.arrived.now in
    let go = goes settings old arrived c.args.src c.args.dst c.args.error c.requires.arrived c.requires.way in
    subst (λ (b : List ℕ). to4 settings (ipv6_fields b).destination ≡ c.args.dst.0) (sym c.bytes.ensures.value) go.destination_is

pub new_upper-requires-clause-packet : goal.new_upper-requires-clause-packet
new_upper-requires-clause-packet c =
    let settings = c.args.settings.now in
    let old : List ℕ = c.args.buf.now.bytes in
    let arrived = c.args.arrived.now in
    let has = c.requires.arrived in
    let off = cut-off old c.cut_end.new.self.bytes c.from.result has.lengths (c.from.ensures ∙ has.len) c.cut_end.ensures.bytes in
    alone settings old c.cut_end.new.self.bytes arrived has off

pub new_upper-requires-clause-message : goal.new_upper-requires-clause-message
new_upper-requires-clause-message c =
    let settings = c.args.settings.now in
    let old : List ℕ = c.args.buf.now.bytes in
    let arrived = c.args.arrived.now in
    let go = goes settings old arrived c.args.src c.args.dst c.args.error c.requires.arrived c.requires.way in
    let has = c.requires.arrived in
    let off = cut-off old c.cut_end.new.self.bytes c.from.result has.lengths (c.from.ensures ∙ has.len) c.cut_end.ensures.bytes in
    subst (λ (a : Arrived). HasMessage6 settings a c.args.error) (sym (arrival-same old c.cut_end.new.self.bytes arrived off)) go.message

pub head64_by-requires-clause-alive : goal.head64_by-requires-clause-alive
head64_by-requires-clause-alive c =
    let settings = c.args.settings.now in
    let old : List ℕ = c.args.buf.now.bytes in
    let arrived = c.args.arrived.now in
    let has = c.requires.arrived in
    let off = cut-off old c.cut_end.new.self.bytes c.from.result has.lengths (c.from.ensures ∙ has.len) c.cut_end.ensures.bytes in
    let mid : List ℕ = c.new_upper.new.buf.bytes in
    let way = on-its-way settings old c.bytes.result.now c.cut_end.new.self.bytes mid arrived c.new_head-to.result c.args.ident has c.bytes.ensures.value c.new_head-to.ensures off c.new_upper.ensures.packet in
    let is = way.is_ready in
    omega (arith, is.hop, has.alive)

pub head64_by-requires-clause-within : goal.head64_by-requires-clause-within
head64_by-requires-clause-within c =
    let settings = c.args.settings.now in
    let old : List ℕ = c.args.buf.now.bytes in
    let arrived = c.args.arrived.now in
    let has = c.requires.arrived in
    let off = cut-off old c.cut_end.new.self.bytes c.from.result has.lengths (c.from.ensures ∙ has.len) c.cut_end.ensures.bytes in
    let mid : List ℕ = c.new_upper.new.buf.bytes in
    let way = on-its-way settings old c.bytes.result.now c.cut_end.new.self.bytes mid arrived c.new_head-to.result c.args.ident has c.bytes.ensures.value c.new_head-to.ensures off c.new_upper.ensures.packet in
    let is = way.is_ready in
    is.within

pub head64_by-requires-clause-fits : goal.head64_by-requires-clause-fits
head64_by-requires-clause-fits c =
    let settings = c.args.settings.now in
    let old : List ℕ = c.args.buf.now.bytes in
    let arrived = c.args.arrived.now in
    let go = goes settings old arrived c.args.src c.args.dst c.args.error c.requires.arrived c.requires.way in
    let has = c.requires.arrived in
    let off = cut-off old c.cut_end.new.self.bytes c.from.result has.lengths (c.from.ensures ∙ has.len) c.cut_end.ensures.bytes in
    let mid : List ℕ = c.new_upper.new.buf.bytes in
    let way = on-its-way settings old c.bytes.result.now c.cut_end.new.self.bytes mid arrived c.new_head-to.result c.args.ident has c.bytes.ensures.value c.new_head-to.ensures off c.new_upper.ensures.packet in
    let is = way.is_ready in
    omega (arith, ap length is.upper_is, way.size, go.sent)

pub cut_plan-requires-clause-total : goal.cut_plan-requires-clause-total
cut_plan-requires-clause-total c =
    let settings = c.args.settings.now in
    let old : List ℕ = c.args.buf.now.bytes in
    let arrived = c.args.arrived.now in
    let go = goes settings old arrived c.args.src c.args.dst c.args.error c.requires.arrived c.requires.way in
    let has = c.requires.arrived in
    let off = cut-off old c.cut_end.new.self.bytes c.from.result has.lengths (c.from.ensures ∙ has.len) c.cut_end.ensures.bytes in
    let mid : List ℕ = c.new_upper.new.buf.bytes in
    let way = on-its-way settings old c.bytes.result.now c.cut_end.new.self.bytes mid arrived c.new_head-to.result c.args.ident has c.bytes.ensures.value c.new_head-to.ensures off c.new_upper.ensures.packet in
    let is = way.is_ready in
    let new : List ℕ = c.head64_by.new.buf.bytes in
    let whole = written settings old mid new arrived c.new_head-to.result c.args.ident way c.head64_by.ensures.bytes in
    let total = whole-length settings (arrival_of old arrived) c.args.ident new whole in
    omega (arith, ap length c.bytes-2.ensures.value, total, go.sent)

pub returns-clause-sent : goal.returns-clause-sent
returns-clause-sent c =
    let settings = c.args.settings.now in
    let old : List ℕ = c.args.buf.now.bytes in
    let arrived = c.args.arrived.now in
    let go = goes settings old arrived c.args.src c.args.dst c.args.error c.requires.arrived c.requires.way in
    let has = c.requires.arrived in
    let off = cut-off old c.cut_end.new.self.bytes c.from.result has.lengths (c.from.ensures ∙ has.len) c.cut_end.ensures.bytes in
    let mid : List ℕ = c.new_upper.new.buf.bytes in
    let way = on-its-way settings old c.bytes.result.now c.cut_end.new.self.bytes mid arrived c.new_head-to.result c.args.ident has c.bytes.ensures.value c.new_head-to.ensures off c.new_upper.ensures.packet in
    let is = way.is_ready in
    let new : List ℕ = c.head64_by.new.buf.bytes in
    let whole = written settings old mid new arrived c.new_head-to.result c.args.ident way c.head64_by.ensures.bytes in
    let total = whole-length settings (arrival_of old arrived) c.args.ident new whole in
    let arrival : Arrived = arrival_of old arrived in
    let sum : length c.bytes-2.result.now ≡ _ = ap length c.bytes-2.ensures.value ∙ total in
    let body = body-long settings old arrived has in
    let may : MayBeCut settings arrival arrived.len (length c.bytes-2.result.now) = record {
      len_is = has.len ∙ sym body;
      total_is = sum;
      most = omega (arith, sum, go.sent);
      shorter = omega (arith, c.new_upper.ensures.shorter, is.size, way.size, off.no_padding, off.length_same, length-drop arrived.walk.at (ipv6_fields old).body, body);
      offset = offset-small arrived.walk.frag has.offset;
      shape = shape settings old arrival refl c.requires.unruled has.walk;
    } in
    sent-is settings old arrived c.args.ident arrived.len (length c.bytes-2.result.now) c.cut_plan.result new may whole c.cut_plan.ensures.cut c.cut_plan.ensures.plan c.cut_plan.ensures.planned

pub returns-clause-front : goal.returns-clause-front
returns-clause-front c =
    let settings = c.args.settings.now in
    let old : List ℕ = c.args.buf.now.bytes in
    let arrived = c.args.arrived.now in
    let has = c.requires.arrived in
    let off = cut-off old c.cut_end.new.self.bytes c.from.result has.lengths (c.from.ensures ∙ has.len) c.cut_end.ensures.bytes in
    let mid : List ℕ = c.new_upper.new.buf.bytes in
    let way = on-its-way settings old c.bytes.result.now c.cut_end.new.self.bytes mid arrived c.new_head-to.result c.args.ident has c.bytes.ensures.value c.new_head-to.ensures off c.new_upper.ensures.packet in
    let is = way.is_ready in
    let new : List ℕ = c.head64_by.new.buf.bytes in
    let whole = written settings old mid new arrived c.new_head-to.result c.args.ident way c.head64_by.ensures.bytes in
    let total = whole-length settings (arrival_of old arrived) c.args.ident new whole in
    omega (arith, c.head64_by.ensures.front, c.new_upper.ensures.front, c.cut_end.ensures.front, is.size, way.size, total)
