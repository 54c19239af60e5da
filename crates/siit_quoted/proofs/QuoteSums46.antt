-- What goes and comes where a quote goes to IPv6.
use Rattle.std.proofs.Common.{◌≡◌, ℕ, ◌+◌, ◌-◌, ◌*◌, ◌/◌, ◌%◌, ◌<◌, ◌≤◌, List, ◌++◌, length, min, take, drop, Bool, true, false, ◌==◌, if◌then◌else◌, ◌∙◌, ap, sym, subst, refl, arith, length-append, eq-eqb}
use Rattle.std.proofs.lemmas.List.{drop-drop, take-take, take-append-drop, length-take-le, length-drop}
use Rattle.siit_model.specs.Checksum.{residue}
use Rattle.siit_model.specs.Ipv4.{Ipv4Packet, header_length_in, total_length_in, ipv4_fields}
use Rattle.siit_v4to6.specs.To6.{has_fragment_header, next_header_of, upper_to_6}
use Rattle.siit_v4to6.proofs.Good.{part-length}
use Rattle.siit_model.specs.Fragments.{Fragment, fragment4}
use Rattle.siit_model.specs.Ipv6.{ipv6_header}
use Rattle.siit_quoted.specs.Quoted.{HasQuote4, QuotedIpv4, quoted4_fields}
use Rattle.siit_quoted.specs.Quotes.{quoted_packet_to_6, sent_to_6}
use Rattle.siit_quoted.specs.Rewriting.{cut_to_6, extended_to_6, new_body_to_6, fragment_to_6, front_to_6, quote_head_to_6, quoted_upper_to_6}
use Rattle.std.proofs.Common.{Option, Some, replicate}
use Rattle.siit_quoted.specs.Bodies.{joined, padding, room6}
use Rattle.siit_quoted.specs.Sums.{IsDifference, IsPartDifference}
use Rattle.siit_quoted.proofs.Behind.{if-behind, upper-behind}
use Rattle.siit_quoted.proofs.Cuts.{chosen-take, upper_to_6-take}
use Rattle.siit_quoted.proofs.Ends.{ends_of}
use Rattle.siit_quoted.proofs.Fronts.{enough-kept, front-moved, kept-front}
use Rattle.siit_quoted.proofs.PartSums.{headed, residues-are}
use Rattle.siit_quoted.proofs.Quotes46.{Planned46, is_first, payload-length, quote-cut, upper-length-kept}

-- the first bytes of a first fragment, translated
pub front-first : (source destination : ℕ) (quote bytes new : List ℕ) (protocol sent source4 destination4 : ℕ) → (ipv4_fields quote).offset ≡ 0
    → protocol ≡ (ipv4_fields quote).protocol → sent ≡ total_length_in quote - header_length_in quote → source4 ≡ (ipv4_fields quote).source → destination4 ≡ (ipv4_fields quote).destination
    → new ≡ upper_to_6 protocol (record { source4 = source4; destination4 = destination4; source6 = source; destination6 = destination }) sent bytes
    → new ≡ front_to_6 source destination bytes (quoted4_fields quote)
front-first source destination quote bytes new protocol sent source4 destination4 first is_protocol is_sent is_source is_destination is_new =
    let packet : Ipv4Packet = ipv4_fields quote in
    is_new
    ∙ ap (λ p. upper_to_6 p (record { source4 = source4; destination4 = destination4; source6 = source; destination6 = destination }) sent bytes) is_protocol
    ∙ ap (λ a. upper_to_6 packet.protocol (record { source4 = a; destination4 = destination4; source6 = source; destination6 = destination }) sent bytes) is_source
    ∙ ap (λ a. upper_to_6 packet.protocol (record { source4 = packet.source; destination4 = a; source6 = source; destination6 = destination }) sent bytes) is_destination
    ∙ ap (λ n. upper_to_6 packet.protocol (ends_of source destination packet) n bytes) is_sent
    ∙ sym (is_first (packet.offset == 0) (upper_to_6 packet.protocol (ends_of source destination packet) (total_length_in quote - header_length_in quote) bytes) bytes (eq-eqb packet.offset 0 first))

-- enough of the first bytes, translated, are the first bytes of the translated upper part
front-taken : (source destination n : ℕ) (quoted : QuotedIpv4) → 18 ≤ n → front_to_6 source destination (take n quoted.packet.payload) quoted ≡ take n (quoted_upper_to_6 source destination quoted)
front-taken source destination n quoted enough =
    chosen-take n (quoted.packet.offset == 0) (quoted.packet.offset == 0) _ (take n quoted.packet.payload) _ quoted.packet.payload refl
    (λ (_ : (quoted.packet.offset == 0) ≡ true). upper_to_6-take quoted.packet.protocol (ends_of source destination quoted.packet) quoted.sent n quoted.packet.payload enough)
    (λ (_ : (quoted.packet.offset == 0) ≡ false). refl)

-- and those behind stay
behind-stays : (source destination : ℕ) (quoted : QuotedIpv4) → drop 20 (quoted_upper_to_6 source destination quoted) ≡ drop 20 quoted.packet.payload
behind-stays source destination quoted =
    let upper : List ℕ = quoted_upper_to_6 source destination quoted in
    let at_18 : drop 18 upper ≡ drop 18 quoted.packet.payload =
    if-behind 18 (quoted.packet.offset == 0) _ quoted.packet.payload (drop 18 quoted.packet.payload)
    (λ (_ : (quoted.packet.offset == 0) ≡ true). upper-behind quoted.packet.protocol (ends_of source destination quoted.packet) quoted.sent quoted.packet.payload) refl in
    sym (drop-drop 2 18 upper) ∙ ap (drop 2) at_18 ∙ drop-drop 2 18 quoted.packet.payload

eight-or-none : (b : Bool) (n : ℕ) → n ≡ (if b then 8 else 0) → n % 2 ≡ 0
eight-or-none true n is = omega arith
eight-or-none false n is = omega arith

head-length : (source destination : ℕ) (tos_zero : Bool) (quoted : QuotedIpv4)
    → length (quote_head_to_6 source destination tos_zero quoted) ≡ 40 + length (fragment_to_6 quoted.packet)
head-length source destination tos_zero quoted =
    length-append (ipv6_header (sent_to_6 source destination tos_zero quoted) (quoted_packet_to_6 source destination tos_zero quoted)) (fragment_to_6 quoted.packet)

head-even : (source destination : ℕ) (tos_zero : Bool) (quoted : QuotedIpv4) → length (quote_head_to_6 source destination tos_zero quoted) % 2 ≡ 0
head-even source destination tos_zero quoted =
    let f : Fragment = fragment4 quoted.packet in
    let g : Fragment = record f { common = record f.common { protocol = next_header_of f.common.protocol } } in
    let size = head-length source destination tos_zero quoted in
    let even = eight-or-none (has_fragment_header false g) (length (fragment_to_6 quoted.packet)) (part-length false g) in
    omega (arith, size, even)

-- a part of a body
pub part-sums : (source destination limit header_len kept new_len : ℕ) (tos_zero : Bool) (quote copied front written : List ℕ) (gone come g c : ℕ)
    → HasQuote4 quote → Planned46 quote limit header_len kept new_len → 128 ≤ limit
    → written ≡ quote_head_to_6 source destination tos_zero (quoted4_fields quote)
    → copied ≡ take (min kept 20) (drop header_len quote) → front ≡ front_to_6 source destination copied (quoted4_fields quote)
    → IsPartDifference (drop header_len quote) (front ++ take (kept - 20) (drop 20 (drop header_len quote))) g c
    → gone ≡ (residue (take header_len quote) + g) % 65535 → come ≡ (residue written + c) % 65535
    → IsPartDifference quote (cut_to_6 source destination tos_zero limit quote) gone come
part-sums source destination limit header_len kept new_len tos_zero quote copied front written gone come g c good plan enough is_written is_copied is_front difference is_gone is_come =
    let quoted : QuotedIpv4 = quoted4_fields quote in
    let payload : List ℕ = quoted.packet.payload in
    let moved : List ℕ = quoted_upper_to_6 source destination quoted in
    let heads : List ℕ = quote_head_to_6 source destination tos_zero quoted in
    let there : List ℕ = drop header_len quote in
    let m : ℕ = total_length_in quote - header_len in
    let is_payload : payload ≡ take m there = ap (λ h. take (total_length_in quote - h) (drop h quote)) (sym plan.header_len) in
    let size = payload-length quote in
    let most : kept ≤ m = omega (arith, plan.kept, plan.header_len) in
    let n : ℕ = min kept 20 in
    let first : copied ≡ take n payload = is_copied ∙ sym (ap (take n) is_payload ∙ take-take n m there (omega (arith, most))) in
    let all : kept < 20 → length payload ≡ kept = λ short. omega (arith, short, plan.kept, plan.most, size, enough) in
    let taken : front ≡ take n moved =
    is_front ∙ ap (λ l. front_to_6 source destination l quoted) first
    ∙ front-moved (λ l. front_to_6 source destination l quoted) n payload (front-taken source destination n quoted) (upper-length-kept source destination quoted) (enough-kept kept (length payload) all) in
    let new : cut_to_6 source destination tos_zero limit quote ≡ heads ++ (front ++ take (kept - 20) (drop 20 there)) =
    quote-cut source destination limit header_len kept new_len tos_zero quote plan (omega (arith, enough))
    ∙ ap (λ l. heads ++ l) (kept-front moved payload there front kept m is_payload most (behind-stays source destination quoted) taken) in
    let head = length-take-le header_len quote (omega (arith, good.inside, plan.header_len)) in
    subst (λ l. IsPartDifference quote l gone come) (sym new)
    (subst (λ l. IsPartDifference l (heads ++ (front ++ take (kept - 20) (drop 20 there))) gone come) (take-append-drop header_len quote)
    (residues-are (take header_len quote ++ there) (heads ++ (front ++ take (kept - 20) (drop 20 there))) gone come _ _
    is_gone (is_come ∙ ap (λ l. (residue l + c) % 65535) is_written)
    (headed (take header_len quote) heads there (front ++ take (kept - 20) (drop 20 there)) g c (omega (arith, head, plan.header_len))
    (head-even source destination tos_zero quoted) difference)))

padded-even : (len : ℕ) → (len + padding 8 len) % 2 ≡ 0
padded-even len = omega arith

-- a body with an extension
pub sums-extended : (source destination place from gone come : ℕ) (tos_zero : Bool) (ext : Option ℕ) (body : List ℕ) → ext ≡ Some place → from ≡ place → place % 2 ≡ 0 → from ≤ length body
    → IsPartDifference (take from body) (cut_to_6 source destination tos_zero ((1232 - (length body - from)) / 8 * 8) (take from body)) gone come
    → IsDifference body (new_body_to_6 source destination tos_zero ext body).bytes gone come
sums-extended source destination place from gone come tos_zero ext body some is_from even inside difference =
    let extension : List ℕ = drop from body in
    let cut : List ℕ = cut_to_6 source destination tos_zero ((1232 - (length body - from)) / 8 * 8) (take from body) in
    let room : (1232 - (length body - from)) / 8 * 8 ≡ room6 (Some extension) = ap (λ n. (1232 - n) / 8 * 8) (sym (length-drop from body)) in
    let new : (new_body_to_6 source destination tos_zero ext body).bytes ≡ (cut ++ replicate (padding 8 (length cut)) 0) ++ extension =
    ap (λ (e : Option ℕ). (new_body_to_6 source destination tos_zero e body).bytes) some
    ∙ ap (λ n. (extended_to_6 source destination tos_zero (take n body) (drop n body)).bytes) (sym is_from)
    ∙ ap (λ l. (joined 8 (cut_to_6 source destination tos_zero l (take from body)) extension).bytes) (sym room) in
    subst (λ l. IsDifference l (new_body_to_6 source destination tos_zero ext body).bytes gone come) (take-append-drop from body)
    (subst (λ l. IsDifference (take from body ++ extension) l gone come) (sym new)
    (difference.before extension (padding 8 (length cut)) (omega (arith, length-take-le from body inside, is_from, even)) (padded-even (length cut))))
