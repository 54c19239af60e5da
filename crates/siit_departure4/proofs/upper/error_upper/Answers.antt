use Rattle.std.proofs.Common.{ℕ, List, ◌+◌, ◌-◌, ◌++◌, length, take, drop, Ok, ◌∙◌, ap, sym, subst}
use Rattle.siit_model.specs.Bytes.{with_field16}
use Rattle.siit_model.specs.Fragments.{Fragment}
use Rattle.siit_v6to4.proofs.Heads.{upper-is}
use Rattle.siit_device.specs.Arrival6.{arrived_fragment}
use Rattle.siit_device.specs.Backward.{error_by4, error_to_4}
use Rattle.siit_arrival6.specs.Arrived.{HasError6, arrival_of}
use Rattle.siit_departure4.specs.Parts.{common_between}
use Rattle.siit_departure4.proofs.Uppers.{length-written, message-is, upper-here}
use Rattle.siit_departure4.proofs.upper.error_upper.Goals as goal

pub new_error-requires-clause-message : goal.new_error-requires-clause-message
new_error-requires-clause-message c =
    let old : List ℕ = c.args.buf.now.bytes in
    subst (λ l. HasError6 c.args.settings.now l c.args.error.now)
    (sym (upper-is old c.args.arrived.now.walk.at (40 + c.from-at.result) c.requires.packet.no_padding (ap (λ n. 40 + n) c.from-at.ensures))) c.requires.message

pub returns-clause-packet : goal.returns-clause-packet
returns-clause-packet c =
    let old : List ℕ = c.args.buf.now.bytes in
    let mid : List ℕ = c.new_error.new.buf.bytes in
    let at : ℕ = c.args.arrived.now.walk.at in
    let settings = c.args.settings.now in
    let alone = c.requires.packet in
    let has = c.requires.message in
    let new = c.args.error.now.new in
    let f : Fragment = arrived_fragment (arrival_of old c.args.arrived.now) in
    let common = common_between c.args.arrived.now.old in
    length-written old mid c.put16.new.bytes (error_to_4 settings f.common f.bytes) (length c.bytes.result.now - 40) c.args.arrived.now alone
    (c.new_error.ensures.bytes
    ∙ ap (λ n. take (40 + n) old ++ error_by4 settings common (drop (40 + n) old) (Ok new)) c.from-at.ensures
    ∙ ap (λ m. take (40 + at) old ++ error_by4 settings common m (Ok new)) (upper-here old c.args.arrived.now alone)
    ∙ ap (λ l. take (40 + at) old ++ l) (message-is settings f.common c.args.arrived.now.old f.bytes new has.kind alone.source_is alone.destination_is))
    c.bytes.ensures.most (ap (λ (b : List ℕ). length b - 40) c.bytes.ensures.value)
    (c.put16.ensures ∙ ap (λ (b : List ℕ). with_field16 b 4 (length c.bytes.result.now - 40)) c.bytes_mut.ensures.value)
