-- The bytes of a packet that goes back.
use Rattle.std.proofs.Common.{◌≡◌, ℕ, ◌+◌, ◌-◌, ◌*◌, ◌/◌, ◌%◌, ◌^◌, ◌≤◌, List, [], ◌∷◌, ◌++◌, length, take, drop, slice_index, Bool, true, false, not, ◌&&◌, ◌==◌, if◌then◌else◌, Option, Some, None, IfSome, ◌∙◌, ap, sym, subst, refl, arith, append_assoc, length-append, length-drop}
use Rattle.std.proofs.lemmas.List.{drop-append-le, drop-drop, drop-take, length-take-le, take-append-drop, take-append-le, take-take, take_rest}
use borrow.Rule.Slice.PartMut.{put_mid}
use Rattle.siit_model.specs.Bytes.{AreBytes, bytes16, bytes32, bytes128, field8, field16, field32, part}
use Rattle.siit_model.specs.Checksum.{pseudo6}
use Rattle.siit_model.specs.Extensions.{Walked}
use Rattle.siit_model.specs.Fragments.{Fragment, fields_in, is_whole}
use Rattle.siit_model.specs.Ipv6.{Ipv6Packet, ipv6_bytes, ipv6_fields, ipv6_header, payload_length_in, version6_in}
use Rattle.siit_addr.specs.declared.addr.Addresses6.{Addresses6}
use Rattle.siit_hairpin.specs.declared.hairpin.TurnAnswer.{TurnAnswer}
use Rattle.siit_hairpin.specs.declared.hairpin.TurnAnswer.TheVariants.{Pair}
use Rattle.siit_v6to4.proofs.Packets.{put-behind}
use Rattle.siit_v6to4.proofs.Turned.{turned-is}
use Rattle.siit_upper.specs.Walks.{fragment_in, walked}
use Rattle.siit_v6to4.specs.Turns.{turned_part, turned_upper}
use Rattle.siit_icmp.specs.Errors.{is_error_kind6}
use Rattle.siit_quoted.specs.Errors.{error_moved}
use Rattle.siit_roles.specs.declared.settings.Settings.{Settings}
use Rattle.siit_device.specs.Arrival6.{Arrived, arrived_fragment, is_error6, quote_turn_for, quoted_part6}
use Rattle.siit_device.specs.Turned.{body_by_turn, error_turned, packet_turned, rest_turned, upper_back}
use Rattle.siit_arrival6.specs.Arrived.{GoesBack, HasArrived6, HasTurnedMessage6, HasWay6, arrival_of}
use Rattle.siit_arrival6.specs.declared.arrived.Arrived6.{Arrived6}
use Rattle.siit_arrival6.specs.declared.arrived.Way6.TheVariants.{Back}
use Rattle.siit_turning.specs.Back.{IsAcceptedError, error_between, exchanged, header_back, part_between, upper_between}

-- THE HEADER

-- the header that is written hangs on the first 8 bytes alone
header-first : (len : ℕ) (new : Addresses6) (bytes : List ℕ) → 8 ≤ length bytes → header_back len new bytes ≡ header_back len new (take 8 bytes)
header-first len new [] there = absurd (omega arith)
header-first len new (a ∷ []) there = absurd (omega arith)
header-first len new (a ∷ b ∷ []) there = absurd (omega arith)
header-first len new (a ∷ b ∷ c ∷ []) there = absurd (omega arith)
header-first len new (a ∷ b ∷ c ∷ d ∷ []) there = absurd (omega arith)
header-first len new (a ∷ b ∷ c ∷ d ∷ e ∷ []) there = absurd (omega arith)
header-first len new (a ∷ b ∷ c ∷ d ∷ e ∷ f ∷ []) there = absurd (omega arith)
header-first len new (a ∷ b ∷ c ∷ d ∷ e ∷ f ∷ g ∷ []) there = absurd (omega arith)
header-first len new (a ∷ b ∷ c ∷ d ∷ e ∷ f ∷ g ∷ h ∷ rest) there = refl

-- and so does the packet with other addresses and another body
abbrev back-of : Addresses6 → (body bytes : List ℕ) → Ipv6Packet
back-of new body bytes = record (ipv6_fields bytes) { hop = field8 bytes 7 - 1; source = new.src.0; destination = new.dst.0; body = body }

back-first : (new : Addresses6) (body bytes : List ℕ) → 8 ≤ length bytes → back-of new body bytes ≡ back-of new body (take 8 bytes)
back-first new body [] there = absurd (omega arith)
back-first new body (a ∷ []) there = absurd (omega arith)
back-first new body (a ∷ b ∷ []) there = absurd (omega arith)
back-first new body (a ∷ b ∷ c ∷ []) there = absurd (omega arith)
back-first new body (a ∷ b ∷ c ∷ d ∷ []) there = absurd (omega arith)
back-first new body (a ∷ b ∷ c ∷ d ∷ e ∷ []) there = absurd (omega arith)
back-first new body (a ∷ b ∷ c ∷ d ∷ e ∷ f ∷ []) there = absurd (omega arith)
back-first new body (a ∷ b ∷ c ∷ d ∷ e ∷ f ∷ g ∷ []) there = absurd (omega arith)
back-first new body (a ∷ b ∷ c ∷ d ∷ e ∷ f ∷ g ∷ h ∷ rest) there = refl

-- version, traffic class and flow label are written as they are read
first-word : (bytes : List ℕ) → AreBytes bytes → version6_in bytes ≡ 6 → length bytes ≡ 40 + payload_length_in bytes
    → take 4 bytes ≡ bytes32 (6 * 2 ^ 28 + field16 bytes 0 / 16 % 256 * 2 ^ 20 + field32 bytes 0 % 1048576)
first-word bytes small six whole =
    let eight : List ℕ = take 8 bytes in
    let after : List ℕ = eight ++ bytes128 0 ++ bytes128 0 ++ drop 40 bytes in
    let long : length eight ≡ 8 = length-take-le 8 bytes (omega arith) in
    let grouped : after ≡ eight ++ (bytes128 0 ++ (bytes128 0 ++ drop 40 bytes)) = simp append_assoc in
    let first : take 4 after ≡ take 4 bytes =
    ap (take 4) grouped ∙ take-append-le 4 eight (bytes128 0 ++ (bytes128 0 ++ drop 40 bytes)) (omega arith) ∙ take-take 4 8 bytes (omega arith) in
    sym first
    ∙ ap (take 4) (turned-is bytes bytes after (drop 40 bytes) 0 0 0 small six whole (omega arith) (sym (take-append-drop 40 bytes))
    (omega (arith, length-drop 40 bytes)) refl)

-- the packet in the buffer, without what the link put behind it
pub record IsCut (old cut : List ℕ) : Type 0 where
  pub small : AreBytes cut
  pub six : version6_in old ≡ 6
  pub fits : 40 + payload_length_in old ≤ length old
  pub is : cut ≡ take (40 + payload_length_in old) old

eight-same : (old cut : List ℕ) → IsCut old cut → take 8 cut ≡ take 8 old
eight-same old cut is = ap (take 8) is.is ∙ take-take 8 (40 + payload_length_in old) old (omega arith)

cut-length : (old cut : List ℕ) → IsCut old cut → length cut ≡ 40 + payload_length_in old
cut-length old cut is = ap length is.is ∙ length-take-le (40 + payload_length_in old) old is.fits

pub cut-body : (old cut : List ℕ) → IsCut old cut → drop 40 cut ≡ (ipv6_fields old).body
cut-body old cut is = ap (drop 40) is.is ∙ drop-take 40 (payload_length_in old) old

-- the upper part, or the bytes of a later fragment
pub cut-upper : (old cut : List ℕ) (at : ℕ) → IsCut old cut → drop (40 + at) cut ≡ drop at (ipv6_fields old).body
cut-upper old cut at is = sym (drop-drop at 40 cut) ∙ ap (drop at) (cut-body old cut is)

-- a field that the first 8 bytes hold
abbrev fields-of : List ℕ → ℕ × (ℕ × ℕ)
fields-of bytes = (version6_in bytes, (payload_length_in bytes, field8 bytes 7))

fields-first : (bytes : List ℕ) → 8 ≤ length bytes → fields-of bytes ≡ fields-of (take 8 bytes)
fields-first [] there = absurd (omega arith)
fields-first (a ∷ []) there = absurd (omega arith)
fields-first (a ∷ b ∷ []) there = absurd (omega arith)
fields-first (a ∷ b ∷ c ∷ []) there = absurd (omega arith)
fields-first (a ∷ b ∷ c ∷ d ∷ []) there = absurd (omega arith)
fields-first (a ∷ b ∷ c ∷ d ∷ e ∷ []) there = absurd (omega arith)
fields-first (a ∷ b ∷ c ∷ d ∷ e ∷ f ∷ []) there = absurd (omega arith)
fields-first (a ∷ b ∷ c ∷ d ∷ e ∷ f ∷ g ∷ []) there = absurd (omega arith)
fields-first (a ∷ b ∷ c ∷ d ∷ e ∷ f ∷ g ∷ h ∷ rest) there = refl

fields-same : (one other : List ℕ) → 8 ≤ length one → 8 ≤ length other → take 8 one ≡ take 8 other → fields-of one ≡ fields-of other
fields-same one other there other_there same = fields-first one there ∙ ap fields-of same ∙ sym (fields-first other other_there)

-- the front of the packet before its upper part
rewritten-first : (old cut between upper : List ℕ) (at : ℕ) → IsCut old cut → at ≤ payload_length_in old → between ≡ take (40 + at) cut ++ upper → take 8 between ≡ take 8 cut
rewritten-first old cut between upper at is inside is_between =
    let long : length (take (40 + at) cut) ≡ 40 + at = length-take-le (40 + at) cut (omega (arith, cut-length old cut is)) in
    ap (take 8) is_between ∙ take-append-le 8 (take (40 + at) cut) upper (omega arith) ∙ take-take 8 (40 + at) cut (omega arith)

between-length : (old cut between upper : List ℕ) (at : ℕ) → IsCut old cut → at ≤ payload_length_in old → between ≡ take (40 + at) cut ++ upper → length between ≡ 40 + (at + length upper)
between-length old cut between upper at is inside is_between =
    omega (arith, ap length is_between, length-append (take (40 + at) cut) upper, length-take-le (40 + at) cut (omega (arith, cut-length old cut is)))

pub header-long : (old cut between upper : List ℕ) (at : ℕ) → IsCut old cut → at ≤ payload_length_in old → between ≡ take (40 + at) cut ++ upper → 40 ≤ length between
header-long old cut between upper at is inside is_between = omega (arith, between-length old cut between upper at is inside is_between)

-- the hop limit is still there
pub hop-kept : (old cut between upper : List ℕ) (at : ℕ) → IsCut old cut → at ≤ payload_length_in old → between ≡ take (40 + at) cut ++ upper → slice_index between 7 ≡ (ipv6_fields old).hop
hop-kept old cut between upper at is inside is_between =
    let long = between-length old cut between upper at is inside is_between in
    let same = fields-same between old (omega arith) (omega (arith, is.fits)) (rewritten-first old cut between upper at is inside is_between ∙ eight-same old cut is) in
    ap (λ (f : ℕ × (ℕ × ℕ)). f.1.1) same

-- the packet with its new upper part and its new header
pub packet-back : (old cut between final upper : List ℕ) (new : Addresses6) (at len : ℕ) → IsCut old cut → at ≤ payload_length_in old
    → between ≡ take (40 + at) cut ++ upper → len ≡ length between - 40 → final ≡ header_back len new between ++ drop 40 between
    → final ≡ ipv6_bytes (back-of new (take at (ipv6_fields old).body ++ upper) old)
packet-back old cut between final upper new at len is inside is_between is_len is_final =
    let body : List ℕ = take at (ipv6_fields old).body ++ upper in
    let front : List ℕ = take (40 + at) cut in
    let size = cut-length old cut is in
    let long : length front ≡ 40 + at = length-take-le (40 + at) cut (omega (arith, size)) in
    let last : drop 40 between ≡ body =
    ap (drop 40) is_between ∙ drop-append-le 40 front upper (omega arith) ∙ ap (λ l. l ++ upper) (drop-take 40 at cut ∙ ap (take at) (cut-body old cut is)) in
    let first = rewritten-first old cut between upper at is inside is_between in
    let whole = between-length old cut between upper at is inside is_between in
    let cut_long : 8 ≤ length cut = omega (arith, size) in
    let old_long : 8 ≤ length old = omega (arith, is.fits) in
    let same = fields-same cut old cut_long old_long (eight-same old cut is) in
    let cut_whole : length cut ≡ 40 + payload_length_in cut = size ∙ ap (λ (f : ℕ × (ℕ × ℕ)). 40 + f.1.0) (sym same) in
    let cut_six : version6_in cut ≡ 6 = ap (λ (f : ℕ × (ℕ × ℕ)). f.0) same ∙ is.six in
    let lengths : len ≡ length body = is_len ∙ omega (arith, whole, ap length last, length-drop 40 between) in
    let header : header_back len new between ≡ header_back len new cut =
    header-first len new between (omega (arith, whole)) ∙ ap (header_back len new) first ∙ sym (header-first len new cut cut_long) in
    is_final
    ∙ ap (λ l. l ++ drop 40 between) header
    ∙ ap (λ w. (w ++ bytes16 len ++ slice_index cut 6 ∷ (slice_index cut 7 - 1) ∷ bytes128 new.src.0 ++ bytes128 new.dst.0) ++ drop 40 between) (first-word cut is.small cut_six cut_whole)
    ∙ ap (λ l. ipv6_header len (back-of new body cut) ++ l) last
    ∙ ap (λ n. ipv6_header n (back-of new body cut) ++ body) lengths
    ∙ ap (λ (p : Ipv6Packet). ipv6_header (length body) p ++ body)
    (back-first new body cut cut_long ∙ ap (back-of new body) (eight-same old cut is) ∙ sym (back-first new body old old_long))

-- THE UPPER PART

whole-first : (a b c : Bool) → (a && (b && c)) ≡ true → (a ≡ true) × (b ≡ true)
whole-first true true c is = (refl, refl)
whole-first true false c is = absurd cc
whole-first false b c is = absurd cc

both-true : (a b : Bool) → (a && b) ≡ true → a ≡ true
both-true true b is = refl
both-true false b is = absurd cc

chosen-plain : (first error : Bool) (bytes one other : List ℕ) → error ≡ false
    → (if not first then bytes else if error then one else other) ≡ (if first then other else bytes)
chosen-plain true error bytes one other is = rw is refl
chosen-plain false error bytes one other is = refl

chosen-error : (first error : Bool) (bytes one other : List ℕ) → first ≡ true → error ≡ true
    → (if not first then bytes else if error then one else other) ≡ one
chosen-error first error bytes one other is_first is_error = rw (is_first, is_error) refl

-- where no ICMPv6 error is turned, an upper part or nothing is
plain-back : (settings : Settings) (new : Addresses6) (f : Fragment) → is_error6 f ≡ false
    → upper_back settings new f ≡ (if f.offset == 0 then turned_upper f.common.protocol (pseudo6 f.common.source f.common.destination f.common.protocol (length f.bytes)) (pseudo6 new.src.0 new.dst.0 f.common.protocol (length f.bytes)) f.bytes else f.bytes)
plain-back settings new f plain = chosen-plain (f.offset == 0) (is_error6 f) f.bytes _ _ plain

-- an ICMPv6 error
error-back : (settings : Settings) (new quote : Addresses6) (f : Fragment) → is_error6 f ≡ true → quote_turn_for settings (quoted_part6 f.bytes) ≡ Pair quote
    → (old : Addresses6) → old.src.0 ≡ f.common.source → old.dst.0 ≡ f.common.destination
    → error_between old new (exchanged quote) f.bytes ≡ upper_back settings new f
unfolding error_between error_turned
error-back settings new quote f error pair old is_source is_destination =
    let message : List ℕ = f.bytes in
    let made : (source destination : ℕ) → TurnAnswer → List ℕ = λ source destination turn.
    (let body = body_by_turn turn message in
    error_moved (pseudo6 source destination 58 (length message)) (pseudo6 new.src.0 new.dst.0 58 (8 + length body.bytes))
    (field8 message 0) (field8 message 1) (rest_turned body.octet message) body message) in
    let tests = whole-first (f.common.protocol == 58) (is_whole f) (is_error_kind6 (field8 message 0)) error in
    ap (λ n. made n old.dst.0 (Pair quote)) is_source ∙ ap (λ n. made f.common.source n (Pair quote)) is_destination
    ∙ ap (made f.common.source f.common.destination) (sym pair)
    ∙ sym (chosen-error (f.offset == 0) (is_error6 f) message _ _ (both-true (f.offset == 0) (not f.more) tests.1) error)

-- what is no ICMPv6 error
part-back : (settings : Settings) (arrived : Arrived6) (new : Addresses6) (packet : Ipv6Packet) → arrived.old.src.0 ≡ packet.source → arrived.old.dst.0 ≡ packet.destination →
    let f = arrived_fragment (record { packet = packet; walked = walked arrived.walk }) in
    is_error6 f ≡ false → part_between arrived new f.bytes ≡ upper_back settings new f
part-back settings arrived new packet is_source is_destination plain =
    let w : Walked = walked arrived.walk in
    let f : Fragment = arrived_fragment (record { packet = packet; walked = w }) in
    let made : (source destination : ℕ) → List ℕ = λ source destination.
    turned_part (pseudo6 source destination arrived.walk.upper (length f.bytes)) (pseudo6 new.src.0 new.dst.0 arrived.walk.upper (length f.bytes)) w f.bytes in
    ap (λ n. made n arrived.old.dst.0) is_source ∙ ap (made packet.source) is_destination ∙ sym (plain-back settings new f plain)

by-quote : (settings : Settings) (arrived : Arrived6) (new : Addresses6) (quote : Option Addresses6) (packet : Ipv6Packet) → arrived.old.src.0 ≡ packet.source → arrived.old.dst.0 ≡ packet.destination →
    let arrival : Arrived = record { packet = packet; walked = walked arrived.walk } in
    HasTurnedMessage6 settings arrival quote
    → upper_between arrived new quote (arrived_fragment arrival).bytes ≡ upper_back settings new (arrived_fragment arrival)
by-quote settings arrived new None packet is_source is_destination plain = part-back settings arrived new packet is_source is_destination plain
by-quote settings arrived new (Some quote) packet is_source is_destination error =
    error-back settings new quote (arrived_fragment (record { packet = packet; walked = walked arrived.walk })) error.0 error.1.pair arrived.old is_source is_destination

-- IN PLACE

later-kept : (first : Bool) (later : Bool) (one other : List ℕ) → later ≡ not first → later ≡ true → (if first then one else other) ≡ other
later-kept true later one other is_later is = cc
later-kept false later one other is_later is = refl

first-moved : (first : Bool) (later : Bool) (one other : List ℕ) → later ≡ not first → later ≡ false → (if first then one else other) ≡ one
first-moved true later one other is_later is = refl
first-moved false later one other is_later is = cc

pub part-stays : (at : ℕ) (bytes : List ℕ) (arrived : Arrived6) (new : Addresses6) (later : Bool) → later ≡ not ((fields_in (fragment_in arrived.walk.frag)).offset == 0) → later ≡ true
    → bytes ≡ take at bytes ++ part_between arrived new (drop at bytes)
part-stays at bytes arrived new later is_later is =
    sym (take-append-drop at bytes)
    ∙ ap (λ l. take at bytes ++ l) (sym (later-kept ((fields_in (fragment_in arrived.walk.frag)).offset == 0) later _ (drop at bytes) is_later is))

pub part-moves : (at len : ℕ) (bytes part : List ℕ) (arrived : Arrived6) (new : Addresses6) (later : Bool) → later ≡ not ((fields_in (fragment_in arrived.walk.frag)).offset == 0) → later ≡ false
    → len ≡ length bytes - at
    → part ≡ turned_upper arrived.walk.upper (pseudo6 arrived.old.src.0 arrived.old.dst.0 arrived.walk.upper len) (pseudo6 new.src.0 new.dst.0 arrived.walk.upper len)
    (take (length bytes - at) (drop at bytes))
    → put_mid at (length bytes - at) bytes part ≡ take at bytes ++ part_between arrived new (drop at bytes)
part-moves at len bytes part arrived new later is_later is is_len is_part =
    let upper : List ℕ = drop at bytes in
    let by : ℕ → List ℕ → List ℕ = λ n l. turned_upper arrived.walk.upper (pseudo6 arrived.old.src.0 arrived.old.dst.0 arrived.walk.upper n) (pseudo6 new.src.0 new.dst.0 arrived.walk.upper n) l in
    let moved : ℕ → List ℕ = λ n. by n upper in
    put-behind at bytes part
    ∙ ap (λ l. take at bytes ++ l)
    (is_part ∙ ap (by len) (take_rest bytes at) ∙ ap moved (is_len ∙ sym (length-drop at bytes))
    ∙ sym (first-moved ((fields_in (fragment_in arrived.walk.frag)).offset == 0) later (moved (length upper)) upper is_later is))

-- ALL OF IT

goes-back : (settings : Settings) (bytes : List ℕ) (arrived : Arrived6) (new : Addresses6) (quote : Option Addresses6) → HasArrived6 settings bytes arrived → arrived.way ≡ Back new quote
    → GoesBack settings bytes arrived new quote
goes-back settings bytes arrived new quote has way = subst (HasWay6 settings bytes arrived) way has.way

if-accepted : (settings : Settings) (arrival : Arrived) (quote : Option Addresses6) (message : List ℕ) → message ≡ (arrived_fragment arrival).bytes → HasTurnedMessage6 settings arrival quote
    → IfSome quote (λ (addresses : Addresses6). IsAcceptedError message)
if-accepted settings arrival None message is error = tt
if-accepted settings arrival (Some quote) message is error = subst IsAcceptedError (sym is) (record { header = error.1.header; accepted = error.1.accepted })

-- the error in the packet that was cut
pub accepted-there : (settings : Settings) (old cut : List ℕ) (arrived : Arrived6) (new : Addresses6) (quote : Option Addresses6) → HasArrived6 settings old arrived → arrived.way ≡ Back new quote
    → IsCut old cut → IfSome quote (λ (addresses : Addresses6). IsAcceptedError (drop (40 + arrived.walk.at) cut))
accepted-there settings old cut arrived new quote has way is =
    if-accepted settings (arrival_of old arrived) quote (drop (40 + arrived.walk.at) cut) (cut-upper old cut arrived.walk.at is) (goes-back settings old arrived new quote has way).message

-- the packet that goes back, of what is written
pub turned-back : (settings : Settings) (old cut between final : List ℕ) (arrived : Arrived6) (new : Addresses6) (quote : Option Addresses6) (len : ℕ)
    → HasArrived6 settings old arrived → arrived.way ≡ Back new quote → IsCut old cut
    → between ≡ take (40 + arrived.walk.at) cut ++ upper_between arrived new quote (drop (40 + arrived.walk.at) cut)
    → len ≡ length between - 40 → final ≡ header_back len new between ++ drop 40 between
    → final ≡ ipv6_bytes (packet_turned settings new (arrival_of old arrived))
turned-back settings old cut between final arrived new quote len has way is is_between is_len is_final =
    let at : ℕ = arrived.walk.at in
    let back = goes-back settings old arrived new quote has way in
    let upper : List ℕ = upper_between arrived new quote (drop (40 + at) cut) in
    let same : upper ≡ upper_back settings new (arrived_fragment (arrival_of old arrived)) =
    ap (upper_between arrived new quote) (cut-upper old cut at is)
    ∙ by-quote settings arrived new quote (ipv6_fields old) has.source_is has.destination_is back.message in
    packet-back old cut between final upper new at len is has.within is_between is_len is_final
    ∙ ap (λ l. ipv6_bytes (back-of new (take at (ipv6_fields old).body ++ l) old)) same
