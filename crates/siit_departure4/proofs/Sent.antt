-- The packet that is sent, by what is in the buffer before its header is written.
use Rattle.std.proofs.Common.{◌≡◌, ◌⊎◌, inl, inr, ℕ, ◌+◌, ◌*◌, ◌%◌, ◌<◌, ◌≤◌, List, length, take, drop, Bool, true, false, not, ◌&&◌, ◌||◌, ◌==◌, nat_le, nat_lt, if◌then◌else◌, Option, Some, None, is_some, IfSome, ◌∙◌, ap, sym, subst, refl, arith, length-append, length-drop}
use Rattle.std.proofs.lemmas.Bool.{and_parts, le-leb, leb-true, ltb-false}
use Rattle.std.proofs.lemmas.Bool.Decides.{nat_tests}
use Rattle.std.proofs.lemmas.List.{drop_at, length-take-le}
use Rattle.siit_model.specs.Extensions.{FragmentFields}
use Rattle.siit_model.specs.Fragments.{Fragment, fields_in, is_whole, packet4}
use Rattle.siit_model.specs.Ipv4.{ipv4_bytes}
use Rattle.siit_model.specs.Ipv6.{Ipv6Packet, ipv6_fields, payload_length_in}
use Rattle.siit_upper.specs.Walks.{fragment_in, walked}
use Rattle.siit_upper.specs.declared.walk.FragInfo.{FragInfo}
use Rattle.siit_addr.specs.declared.addr.Addr4.{Addr4}
use Rattle.siit_fragments.specs.Plans.{IsPlanFor, plan_of}
use Rattle.siit_fragments.specs.declared.cut.CutPlan.{CutPlan}
use Rattle.siit_roles.specs.declared.settings.Settings.{Settings}
use Rattle.siit_v6to4.specs.Heads.{headed_packet4}
use Rattle.siit_v6to4.specs.To4.{Head4, df_for, ends_to_4, header_to_4, identification}
use Rattle.siit_v6to4.specs.declared.fields.Head64.{Head64}
use Rattle.siit_v6to4.proofs.Good.{to_4-length}
use Rattle.siit_v6to4.proofs.Heads.{body-length}
use Rattle.siit_device.specs.Arrival6.{Arrived, arrived_fragment, is_error6, is_misshapen6}
use Rattle.siit_device.specs.Backward.{head4_for, is_sent_cut4, sent4, upper_backward, whole4}
use Rattle.siit_device.specs.Shapes.{is_misshapen}
use Rattle.siit_device.proofs.Cuts.{cut4}
use Rattle.siit_arrival6.specs.Arrived.{GoesOn, HasArrived6, HasWay6, arrival_of}
use Rattle.siit_arrival6.specs.declared.arrived.Arrived6.{Arrived6}
use Rattle.siit_arrival6.specs.declared.arrived.Error6.{Error6}
use Rattle.siit_arrival6.specs.declared.arrived.Way6.TheVariants.{On}
use Rattle.siit_departure4.specs.Departed.{IsSent4}
use Rattle.siit_departure4.specs.Parts.{HasUpper, IsAlone6, head_by, packet_with}
use Rattle.siit_departure4.proofs.Fields.{IsCutOff}

-- WHAT ARRIVED

pub goes : (settings : Settings) (old : List ℕ) (arrived : Arrived6) (src : Option Addr4) (dst : Addr4) (error : Option Error6)
    → HasArrived6 settings old arrived → arrived.way ≡ On src dst error → GoesOn settings old arrived src dst error
goes settings old arrived src dst error has way = subst (HasWay6 settings old arrived) way has.way

pub alone : (settings : Settings) (old cut : List ℕ) (arrived : Arrived6) → HasArrived6 settings old arrived → IsCutOff old cut → IsAlone6 cut arrived
alone settings old cut arrived has off = record {
  no_padding = off.no_padding;
  within = omega (arith, has.within, off.length_same);
  len = has.len ∙ sym off.length_same;
  source_is = has.source_is ∙ ap (λ (p : Ipv6Packet). p.source) (sym off.fields);
  destination_is = has.destination_is ∙ ap (λ (p : Ipv6Packet). p.destination) (sym off.fields);
}

pub arrival-same : (old cut : List ℕ) (arrived : Arrived6) → IsCutOff old cut → arrival_of cut arrived ≡ arrival_of old arrived
arrival-same old cut arrived off = ap (λ (p : Ipv6Packet). let a : Arrived = record { packet = p; walked = walked arrived.walk } in a) off.fields

pub body-long : (settings : Settings) (old : List ℕ) (arrived : Arrived6) → HasArrived6 settings old arrived → length (ipv6_fields old).body ≡ payload_length_in old
body-long settings old arrived has =
    let lengths = has.lengths in length-take-le (payload_length_in old) (drop 40 old) (omega (arith, length-drop 40 old, lengths.fits))

-- BEFORE THE HEADER IS WRITTEN

-- the upper part in its packet
upper-of : (arrival : Arrived) (upper : List ℕ) → arrival.walked.at ≤ length arrival.packet.body → drop arrival.walked.at (packet_with arrival upper).body ≡ upper
upper-of arrival upper within =
    drop_at (take arrival.walked.at arrival.packet.body) upper arrival.walked.at (length-take-le arrival.walked.at arrival.packet.body within)

-- what the new header asks for
pub record IsReady (arrival : Arrived) (upper mid : List ℕ) : Type 0 where
  pub hop : (ipv6_fields mid).hop ≡ arrival.packet.hop
  pub within : arrival.walked.at ≤ payload_length_in mid
  pub upper_is : drop arrival.walked.at (ipv6_fields mid).body ≡ upper
  pub size : length mid ≡ 40 + arrival.walked.at + length upper

pub ready : (arrival : Arrived) (upper mid : List ℕ) → arrival.walked.at ≤ length arrival.packet.body → HasUpper arrival upper mid → IsReady arrival upper mid
ready arrival upper mid inside has =
    let at : ℕ = arrival.walked.at in
    let total = ap (λ (p : Ipv6Packet). length p.body) has.packet in
    let parts = length-append (take at arrival.packet.body) upper in
    let front = length-take-le at arrival.packet.body inside in
    let all = body-length mid has.no_padding in
    record {
      hop = ap (λ (p : Ipv6Packet). p.hop) has.packet;
      within = omega (arith, total, parts, front, all);
      upper_is = ap (λ (p : Ipv6Packet). drop at p.body) has.packet ∙ upper-of arrival upper inside;
      size = omega (arith, total, parts, front, all, has.no_padding);
    }

-- THE PACKET

-- the whole packet
pub whole-is : (settings : Settings) (arrival : Arrived) (to : Head64) (number : ℕ) (mid new : List ℕ) →
    let f = arrived_fragment arrival in
    head_by to arrival ≡ head4_for settings (identification arrival.walked.fragment number) f
    → arrival.walked.at ≤ length arrival.packet.body
    → HasUpper arrival (upper_backward settings (head_by to arrival) f) mid
    → new ≡ ipv4_bytes (headed_packet4 to arrival.walked (ipv6_fields mid))
    → new ≡ ipv4_bytes (whole4 settings arrival number)
whole-is settings arrival to number mid new is_head within has is_new =
    let f : Fragment = arrived_fragment arrival in
    let frag = arrival.walked.fragment in
    let upper : List ℕ = upper_backward settings (head_by to arrival) f in
    is_new
    ∙ ap (λ (p : Ipv6Packet). ipv4_bytes (headed_packet4 to arrival.walked p)) has.packet
    ∙ ap (λ (l : List ℕ). ipv4_bytes (packet4 (df_for frag (20 + length l)) (header_to_4 (head_by to arrival) (record f { bytes = l })))) (upper-of arrival upper within)
    ∙ ap (λ (h : Head4). let u = upper_backward settings h f in ipv4_bytes (packet4 (df_for frag (20 + length u)) (record (header_to_4 h f) { bytes = u }))) is_head

-- its length hangs on no number
if-long : (test : Bool) (error one other : List ℕ) → length one ≡ length other → length (if test then error else one) ≡ length (if test then error else other)
if-long true error one other same = refl
if-long false error one other same = same

pub sent-length : (settings : Settings) (arrival : Arrived) (number : ℕ) → length (sent4 settings arrival number).bytes ≡ length (sent4 settings arrival 0).bytes
sent-length settings arrival number =
    let f : Fragment = arrived_fragment arrival in
    let ends = λ (n : ℕ). ends_to_4 (head4_for settings (identification arrival.walked.fragment n) f) f.common in
    if-long (is_error6 f) _ _ _ (to_4-length (ends number) (length f.bytes) f ∙ sym (to_4-length (ends 0) (length f.bytes) f))

-- the length of the upper part that was written
pub upper-length : (settings : Settings) (arrival : Arrived) (to : Head64) (number : ℕ) →
    let f = arrived_fragment arrival in
    head_by to arrival ≡ head4_for settings (identification arrival.walked.fragment number) f
    → length (upper_backward settings (head_by to arrival) f) ≡ length (sent4 settings arrival 0).bytes
upper-length settings arrival to number is_head =
    ap (λ (h : Head4). length (upper_backward settings h (arrived_fragment arrival))) is_head ∙ sent-length settings arrival number

packet-length : (df : ℕ) (f : Fragment) → length (ipv4_bytes (packet4 df f)) ≡ 20 + length f.bytes
packet-length df f = omega arith

pub whole-length : (settings : Settings) (arrival : Arrived) (number : ℕ) (new : List ℕ) → new ≡ ipv4_bytes (whole4 settings arrival number)
    → length new ≡ 20 + length (sent4 settings arrival 0).bytes
whole-length settings arrival number new is =
    let f : Fragment = sent4 settings arrival number in
    ap length is ∙ packet-length (df_for arrival.walked.fragment (20 + length f.bytes)) f ∙ ap (λ n. 20 + n) (sent-length settings arrival number)

-- ON ITS WAY

-- the upper part on the other side
abbrev pub new-upper : Settings → Head64 → Arrived → List ℕ
new-upper settings to arrival = upper_backward settings (head_by to arrival) (arrived_fragment arrival)

abbrev pub HasHead : Settings → Head64 → (number : ℕ) → Arrived → Type 0
HasHead settings to number arrival = head_by to arrival ≡ head4_for settings (identification arrival.walked.fragment number) (arrived_fragment arrival)

-- what is known of a packet before its header is written
pub record IsOnItsWay (settings : Settings) (old : List ℕ) (arrived : Arrived6) (to : Head64) (number : ℕ) (mid : List ℕ) : Type 0 where
  pub inside : arrived.walk.at ≤ length (ipv6_fields old).body
  pub head : HasHead settings to number (arrival_of old arrived)
  pub put : HasUpper (arrival_of old arrived) (new-upper settings to (arrival_of old arrived)) mid
  pub is_ready : IsReady (arrival_of old arrived) (new-upper settings to (arrival_of old arrived)) mid
  pub size : length (new-upper settings to (arrival_of old arrived)) ≡ length (sent4 settings (arrival_of old arrived) 0).bytes

pub on-its-way : (settings : Settings) (old seen cut mid : List ℕ) (arrived : Arrived6) (to : Head64) (number : ℕ) → HasArrived6 settings old arrived
    → seen ≡ old → HasHead settings to number (arrival_of seen arrived) → IsCutOff old cut
    → HasUpper (arrival_of cut arrived) (new-upper settings to (arrival_of cut arrived)) mid → IsOnItsWay settings old arrived to number mid
on-its-way settings old seen cut mid arrived to number has same head_seen off put_cut =
    let arrival : Arrived = arrival_of old arrived in
    let inside : arrived.walk.at ≤ length (ipv6_fields old).body = subst (λ n. arrived.walk.at ≤ n) (sym (body-long settings old arrived has)) has.within in
    let head : HasHead settings to number arrival = subst (λ (b : List ℕ). HasHead settings to number (arrival_of b arrived)) same head_seen in
    let put : HasUpper arrival (new-upper settings to arrival) mid = subst (λ (a : Arrived). HasUpper a (new-upper settings to a) mid) (arrival-same old cut arrived off) put_cut in
    record {
      inside = inside;
      head = head;
      put = put;
      is_ready = ready arrival (new-upper settings to arrival) mid inside put;
      size = upper-length settings arrival to number head;
    }

-- once it is written
pub written : (settings : Settings) (old mid new : List ℕ) (arrived : Arrived6) (to : Head64) (number : ℕ) → IsOnItsWay settings old arrived to number mid
    → new ≡ ipv4_bytes (headed_packet4 to (walked arrived.walk) (ipv6_fields mid)) → new ≡ ipv4_bytes (whole4 settings (arrival_of old arrived) number)
written settings old mid new arrived to number way is_new = whole-is settings (arrival_of old arrived) to number mid new way.head way.inside way.put is_new

pub offset-small : (frag : Option FragInfo) → IfSome frag (λ f. f.offset < 8192) → (fields_in (fragment_in frag)).offset < 8192
offset-small None small = omega arith
offset-small (Some frag) small = small

-- CUT

may-be-cut : (frag : Option FragmentFields) (total : ℕ) → total ≤ 1260 → df_for frag total ≡ 0
may-be-cut None total short = rw (le-leb total 1260 short) refl
may-be-cut (Some fields) total short = refl

ends-by : (whole a b c : Bool) → (not whole && (a || b || c)) ≡ false → (whole ≡ true) ⊎ (c ≡ false)
ends-by true a b c is = inl refl
ends-by false a b true is = absurd (last a b is)
  where
    last : (a b : Bool) → (a || b || true) ≡ false → ⊥
    last true b is = cc
    last false true is = cc
    last false false is = cc
ends-by false a b false is = inr refl

first-offset : (offset : ℕ) (more : Bool) → ((offset == 0) && not more) ≡ true → offset ≡ 0
first-offset offset more is = grind (arith, nat_tests)

-- a fragment of a right shape ends within the longest datagram
ends-within : (f : Fragment) → is_misshapen f ≡ false → length f.bytes ≤ 65535 → 8 * f.offset + length f.bytes ≤ 65535
ends-within f shape short =
    by (ends-by (is_whole f) (length f.bytes == 0) (f.more && not (length f.bytes % 8 == 0)) (nat_lt 65535 (8 * f.offset + length f.bytes)) shape)
  where
    by : (is_whole f ≡ true) ⊎ (nat_lt 65535 (8 * f.offset + length f.bytes) ≡ false) → 8 * f.offset + length f.bytes ≤ 65535
    by (inl whole) = let none : f.offset ≡ 0 = first-offset f.offset f.more whole in omega (arith, none, short)
    by (inr within) = ltb-false 65535 (8 * f.offset + length f.bytes) within

-- what is known of a packet that may be cut
pub record MayBeCut (settings : Settings) (arrival : Arrived) (len total : ℕ) : Type 0 where
  pub len_is : len ≡ length arrival.packet.body
  pub total_is : total ≡ 20 + length (sent4 settings arrival 0).bytes
  pub most : total ≤ 65535
  pub shorter : length (sent4 settings arrival 0).bytes ≤ length (arrived_fragment arrival).bytes
  pub offset : (arrived_fragment arrival).offset < 8192
  pub shape : is_misshapen6 arrival ≡ false

cut-is : (settings : Settings) (arrival : Arrived) (len total : ℕ) → MayBeCut settings arrival len total
    → (nat_le (40 + len) 1280 && nat_lt settings.mtu4 total) ≡ is_sent_cut4 settings arrival
cut-is settings arrival len total may =
    ap (λ n. nat_le (40 + n) 1280 && nat_lt settings.mtu4 total) may.len_is ∙ ap (λ n. nat_le (40 + length arrival.packet.body) 1280 && nat_lt settings.mtu4 n) may.total_is

pub sent-is : (settings : Settings) (old : List ℕ) (arrived : Arrived6) (number len total : ℕ) (plan : Option CutPlan) (new : List ℕ)
    → MayBeCut settings (arrival_of old arrived) len total → new ≡ ipv4_bytes (whole4 settings (arrival_of old arrived) number)
    → is_some plan ≡ (nat_le (40 + len) 1280 && nat_lt settings.mtu4 total)
    → IfSome plan (λ p. p ≡ plan_of total 20 settings.mtu4) → IfSome plan (λ p. IsPlanFor total p)
    → IsSent4 settings old arrived number plan new
sent-is settings old arrived number len total None new may is_new cut is planned = record {
  whole = sym (cut ∙ cut-is settings (arrival_of old arrived) len total may);
  packet = is_new;
}
sent-is settings old arrived number len total (Some plan) new may is_new cut is planned =
    let arrival : Arrived = arrival_of old arrived in
    let f : Fragment = sent4 settings arrival number in
    let tests = and_parts (nat_le (40 + len) 1280) (nat_lt settings.mtu4 total) (sym cut) in
    let few : 40 + len ≤ 1280 = leb-true (40 + len) 1280 tests.0 in
    let size = sent-length settings arrival number in
    let rest = length-drop arrival.walked.at arrival.packet.body in
    let short : 20 + length f.bytes ≤ 1260 = omega (arith, size, may.shorter, rest, may.len_is, few) in
    let long : length (arrived_fragment arrival).bytes ≤ 65535 = omega (arith, rest, may.len_is, few) in
    let ends = ends-within (arrived_fragment arrival) may.shape long in
    let packet : new ≡ ipv4_bytes (packet4 0 f) = is_new ∙ ap (λ df. ipv4_bytes (packet4 df f)) (may-be-cut arrival.walked.fragment (20 + length f.bytes) short) in
    record {
      is_cut = sym (cut ∙ cut-is settings arrival len total may);
      packets =
          cut4 settings.mtu4 total 0 plan f new packet (may.total_is ∙ sym (whole-length settings arrival number new is_new)) is planned (omega arith) may.offset
          (omega (arith, short)) (omega (arith, ends, size, may.shorter));
    }
