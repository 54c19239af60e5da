use Rattle.std.proofs.Common.{ℕ, List, subst, arith}
use Rattle.siit_quoted.proofs.Quotes46.{rewritten-length}
use Rattle.siit_device.specs.Arrival6.{Arrived, arrived_fragment}
use Rattle.siit_arrival6.specs.Arrived.{HasErrorOrNone6, arrival_of}
use Rattle.siit_departure4.specs.Parts.{HasUpper}
use Rattle.siit_departure4.proofs.Uppers.{error-icmp, error-is, moved-put}
use Rattle.siit_departure4.proofs.upper.new_upper.Goals as goal

pub error_upper-requires-clause-upper : goal.error_upper-requires-clause-upper
error_upper-requires-clause-upper c =
    let old : List ℕ = c.args.buf.now.bytes in
    let message = subst (HasErrorOrNone6 c.args.settings.now old c.args.arrived.now) c.in-Some.is c.requires.message in
    error-icmp (arrived_fragment (arrival_of old c.args.arrived.now)) message.0

pub returns-in-Some-clause-packet : goal.returns-in-Some-clause-packet
returns-in-Some-clause-packet c =
    let old : List ℕ = c.args.buf.now.bytes in
    let arrival : Arrived = arrival_of old c.args.arrived.now in
    let message = subst (HasErrorOrNone6 c.args.settings.now old c.args.arrived.now) c.in-Some.is c.requires.message in
    subst (λ l. HasUpper arrival l c.error_upper.new.buf.bytes) (error-is c.args.settings.now arrival c.args.to.now message.0) c.error_upper.ensures.packet

pub returns-in-None-clause-packet : goal.returns-in-None-clause-packet
returns-in-None-clause-packet c =
    let old : List ℕ = c.args.buf.now.bytes in
    moved-put c.args.settings.now old c.bytes_mut.result.now c.moved_upper.new.bytes c.args.arrived.now c.args.to.now c.bytes_mut.ensures.value c.moved_upper.auto.bytes
    c.moved_upper.ensures (subst (HasErrorOrNone6 c.args.settings.now old c.args.arrived.now) c.in-None.is c.requires.message)

pub returns-in-None-clause-shorter : goal.returns-in-None-clause-shorter
returns-in-None-clause-shorter c = omega (arith, rewritten-length c.args.buf.now.bytes c.moved_upper.new.bytes)
