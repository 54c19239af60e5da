use Rattle.std.proofs.Common.{◌≡◌, ◌+◌, ◌-◌, ◌*◌, ◌≤◌, ◌==◌, ◌++◌, List, ℕ, true, length, drop, take, ap, sym, subst, ◌∙◌, arith, length-drop}
use Rattle.std.specs.Prelude.{IfSome}
use Rattle.siit_model.specs.Fragments.{fragment4}
use Rattle.siit_model.specs.Ipv4.{Ipv4Packet, header_length_in, ipv4_fields}
use Rattle.siit_views.proofs.Places.{rewritten-same}
use Rattle.siit_quoted.proofs.Quotes46.{rewritten-length}
use Rattle.siit_v4to6.proofs.Heads.{payload-is}
use Rattle.siit_device.specs.Forward.{upper_forward}
use Rattle.siit_departure6.specs.Departed.{IsSent6}
use Rattle.siit_departure6.specs.Parts.{IsPlanned, is_bare, upper_by}
use Rattle.siit_departure6.proofs.Sent.{IsHeaded, cut-headers, ends-within, headed-is, joined, long-enough, sent}
use Rattle.siit_departure6.proofs.Uppers.{bare-long, upper-is, upper-length_is}
use Rattle.siit_departure6.proofs.departure.depart_plain.Goals as goal
use Rattle.siit_departure6.proofs.departure.depart_plain.Goals.{After-bytes_mut}

headed : (c : After-bytes_mut) → IsHeaded (ipv4_fields c.args.buf.now.bytes) c.put_header-headers.result.len c.put_header-headers.new.buf.bytes
headed c =
    headed-is c.args.settings.now c.args.arrived.now.new c.put_header-headers.result.cut (ipv4_fields c.args.buf.now.bytes)
    c.put_header-headers.new.buf.bytes c.put_header-headers.result.len c.put_header-headers.ensures.bytes c.put_header-headers.ensures.len

payload : (c : After-bytes_mut) → length (ipv4_fields c.args.buf.now.bytes).payload + header_length_in c.args.buf.now.bytes ≡ length c.args.buf.now.bytes
payload c =
    let old : List ℕ = c.args.buf.now.bytes in
    omega (arith, ap length (payload-is old c.requires.no_padding), length-drop (header_length_in old) old, c.requires.arrived.lengths.total, c.requires.no_padding)

pub translate_upper-requires-clause-fits : goal.translate_upper-requires-clause-fits
translate_upper-requires-clause-fits c =
    omega (arith, ap length c.bytes_mut.ensures.value, (headed c).size, payload c, c.requires.short)

pub translate_upper-requires-clause-datagram : goal.translate_upper-requires-clause-datagram
translate_upper-requires-clause-datagram c =
    λ (bare : is_bare c.args.arrived.now.upper ≡ true).
    let long = bare-long c.args.settings.now (ipv4_fields c.args.buf.now.bytes) c.args.arrived.now.upper c.requires.arrived.upper bare in
    omega (arith, ap length c.bytes_mut.ensures.value, (headed c).size, long)

pub plan_if-requires-clause-long : goal.plan_if-requires-clause-long
plan_if-requires-clause-long c =
    λ (cut : c.put_header-headers.result.cut ≡ true).
    let settings = c.args.settings.now in
    let packet : Ipv4Packet = ipv4_fields c.args.buf.now.bytes in
    let bytes : List ℕ = c.put_header-headers.new.buf.bytes in
    let made : List ℕ = c.translate_upper.new.bytes in
    let at = c.put_header-headers.result.len in
    let headed = headed-is settings c.args.arrived.now.new c.put_header-headers.result.cut packet bytes at c.put_header-headers.ensures.bytes c.put_header-headers.ensures.len in
    let long = long-enough settings packet (sym c.put_header-headers.ensures.cut ∙ cut) in
    let whole = cut-headers c.put_header-headers.result.cut packet at cut c.put_header-headers.ensures.len in
    let size = ap length c.bytes.ensures.value ∙ rewritten-length bytes made in
    omega (arith, headed.size, long, whole, size)

pub returns-clause-sent : goal.returns-clause-sent
returns-clause-sent c =
    let settings = c.args.settings.now in
    let arrived = c.args.arrived.now in
    let old : List ℕ = c.args.buf.now.bytes in
    let packet : Ipv4Packet = ipv4_fields old in
    let bytes : List ℕ = c.put_header-headers.new.buf.bytes in
    let made : List ℕ = c.translate_upper.new.bytes in
    let headers = c.put_header-headers.result in
    let headed = headed-is settings arrived.new headers.cut packet bytes headers.len c.put_header-headers.ensures.bytes c.put_header-headers.ensures.len in
    let lent = c.bytes_mut.ensures.value in
    let upper : List ℕ = upper_by arrived.upper arrived (packet.offset == 0) packet.payload in
    let is_upper : upper ≡ upper_forward settings (fragment4 packet) =
    upper-is settings packet arrived arrived.upper (omega arith) c.requires.no_error c.requires.arrived.upper c.requires.arrived.protocol c.requires.arrived.old c.requires.arrived.new in
    let same : length upper ≡ length packet.payload = upper-length_is settings packet arrived arrived.upper c.requires.arrived.upper (packet.offset == 0) in
    let behind : made ≡ take headers.len bytes ++ upper =
    c.translate_upper.ensures
    ∙ ap (λ b. take headers.len b ++ upper_by arrived.upper arrived headers.first (drop headers.len b)) lent
    ∙ ap (λ l. take headers.len bytes ++ upper_by arrived.upper arrived headers.first l) headed.behind
    ∙ ap (λ first. take headers.len bytes ++ upper_by arrived.upper arrived first packet.payload) c.put_header-headers.ensures.first in
    let written = joined settings arrived.new headers.cut packet bytes upper made headers.len c.put_header-headers.ensures.bytes c.put_header-headers.ensures.len
    c.requires.arrived.new is_upper same behind in
    let left = rewritten-same bytes made (c.translate_upper.auto.bytes ∙ ap length lent) in
    let short : length packet.payload ≤ 65535 =
    omega (arith, ap length (payload-is old c.requires.no_padding), length-drop (header_length_in old) old, c.requires.short) in
    let ends = ends-within packet c.requires.arrived.shape short in
    let size : length (upper_forward settings (fragment4 packet)) ≡ length packet.payload = ap length (sym is_upper) ∙ same in
    subst (λ b. IsSent6 settings old c.plan_if.result b) (sym left)
    (sent settings old made c.plan_if.result headers.cut c.put_header-headers.ensures.cut written
    (subst (λ n. 8 * packet.offset + n ≤ 65535) (sym size) ends)
    c.plan_if.ensures.whole
    (subst (λ n. IfSome c.plan_if.result (λ p. (headers.cut ≡ true) × IsPlanned n settings.lowest p)) (ap length (c.bytes.ensures.value ∙ left)) c.plan_if.ensures.cut))

pub returns-clause-front : goal.returns-clause-front
returns-clause-front c =
    let old : List ℕ = c.args.buf.now.bytes in
    let packet : Ipv4Packet = ipv4_fields old in
    let headers = c.put_header-headers.result in
    let headed = headed-is c.args.settings.now c.args.arrived.now.new headers.cut packet c.put_header-headers.new.buf.bytes headers.len
    c.put_header-headers.ensures.bytes c.put_header-headers.ensures.len in
    let payload = ap length (payload-is old c.requires.no_padding) in
    room c.args.buf.now.front c.put_header-headers.new.buf.front (length old) (length c.put_header-headers.new.buf.bytes) headers.len (length packet.payload) (header_length_in old)
    c.put_header-headers.ensures.front headed.size headed.most (payload ∙ length-drop (header_length_in old) old) c.requires.arrived.lengths.header
    (omega (arith, c.requires.arrived.lengths.total, c.requires.no_padding))
  where
    room : (front after old new at payload header : ℕ) → after + new ≡ front + old → new ≡ at + payload → at ≤ 48 → payload ≡ old - header → 20 ≤ header → header ≤ old
        → front ≤ after + 28
    room front after old new at payload header a b d e g h = omega arith
