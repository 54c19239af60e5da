-- A quote on its way to IPv4: its header, its upper part, and both together.
use Rattle.std.proofs.Common.{◌≡◌, ℕ, ◌+◌, ◌-◌, ◌≤◌, List, [], ◌++◌, length, min, take, drop, Bool, true, false, ◌==◌, ◌∙◌, ap, sym, subst, refl, arith, append_assoc, length-append, length-drop}
use Rattle.std.proofs.lemmas.List.{drop-drop, drop-take, length-take, length-take-le}
use borrow.Rule.Slice.PartMut.{put_mid}
use Rattle.siit_model.specs.Bytes.{part}
use Rattle.siit_model.specs.Extensions.{Walked}
use Rattle.siit_model.specs.Ipv6.{Ipv6Packet, ipv6_fields, payload_length_in}
use Rattle.siit_checksum.proofs.Fields.{length-if}
use Rattle.siit_v6to4.specs.To4.{upper_to_4}
use Rattle.siit_model.specs.Fragments.{fields_in}
use Rattle.siit_v6to4.proofs.Good.{upper-length}
use Rattle.siit_views.specs.Contents.{rewritten}
use Rattle.siit_views.proofs.Places.{rewritten-same}
use Rattle.siit_quoted.specs.Quoted.{HasQuote6, QuotedIpv6, quoted6_fields}
use Rattle.siit_quoted.proofs.Ends.{ends_of6, upper_of}
use Rattle.siit_quoted.specs.Quotes.{quote_to_4}
use Rattle.siit_quoted.specs.Rewriting.{quote_head_to_4, quoted_upper_to_4}
use Rattle.siit_quoted.proofs.Places.{quote-taken, rewritten-is}
use Rattle.siit_quoted.proofs.Quotes46.{drop-least, is_first, not_first, payload-here, split-three}

-- the upper part, behind all headers
pub upper-is : (walked : Walked) (quote : List ℕ) → walked.at ≤ payload_length_in quote
    → upper_of (quoted6_fields walked quote) ≡ take (40 + payload_length_in quote - (40 + walked.at)) (drop (40 + walked.at) quote)
upper-is walked quote ordered =
    let n : ℕ = payload_length_in quote - walked.at in
    let sum : payload_length_in quote ≡ walked.at + n = omega arith in
    let same : 40 + payload_length_in quote - (40 + walked.at) ≡ n = omega arith in
    ap (λ k. drop walked.at (take k (drop 40 quote))) sum ∙ drop-take walked.at n (drop 40 quote) ∙ ap (take n) (drop-drop walked.at 40 quote) ∙ ap (λ k. take k (drop (40 + walked.at) quote)) (sym same)

pub upper-length-kept : (source destination : ℕ) (quoted : QuotedIpv6) → length (quoted_upper_to_4 source destination quoted) ≡ length (upper_of quoted)
upper-length-kept source destination quoted =
    length-if (((fields_in quoted.walked.fragment).offset == 0)) _ (upper_of quoted) (length (upper_of quoted))
    (λ (_ : ((fields_in quoted.walked.fragment).offset == 0) ≡ true). upper-length quoted.walked.upper (ends_of6 source destination quoted.packet) quoted.sent (upper_of quoted)) refl

pub payload-length : (walked : Walked) (quote : List ℕ) → walked.at ≤ payload_length_in quote
    → length (upper_of (quoted6_fields walked quote)) ≡ min (length quote) (40 + payload_length_in quote) - (40 + walked.at)
payload-length walked quote ordered =
    ap length (upper-is walked quote ordered)
    ∙ length-take (40 + payload_length_in quote - (40 + walked.at)) (drop (40 + walked.at) quote)
    ∙ ap (λ n. min (40 + payload_length_in quote - (40 + walked.at)) n) (length-drop (40 + walked.at) quote) ∙ omega arith

-- a later fragment's upper part stays
pub upper-later : (source destination : ℕ) (walked : Walked) (quote : List ℕ) → HasQuote6 walked quote → ((fields_in walked.fragment).offset == 0) ≡ false
    → quote ≡ take (40 + walked.at) quote ++ quoted_upper_to_4 source destination (quoted6_fields walked quote) ++ drop (40 + payload_length_in quote) quote
upper-later source destination walked quote good later =
    split-three quote (40 + walked.at) (40 + payload_length_in quote) (omega (arith, good.ordered))
    ∙ ap (λ l. take (40 + walked.at) quote ++ l ++ drop (40 + payload_length_in quote) quote)
    (sym (not_first (((fields_in walked.fragment).offset == 0)) _ (upper_of (quoted6_fields walked quote)) later ∙ upper-is walked quote good.ordered))

-- that of a packet or of a first fragment is moved
pub upper-first : (source destination : ℕ) (walked : Walked) (quote new : List ℕ) (sent header len source6 destination6 : ℕ) → HasQuote6 walked quote → ((fields_in walked.fragment).offset == 0) ≡ true
    → header ≡ 40 + walked.at → len ≡ min (length quote) (40 + payload_length_in quote)
    → sent ≡ payload_length_in quote - walked.at → source6 ≡ (ipv6_fields quote).source → destination6 ≡ (ipv6_fields quote).destination
    → new ≡ upper_to_4 walked.upper (record { source4 = source; destination4 = destination; source6 = source6; destination6 = destination6 }) sent (take (len - header) (drop header quote))
    → put_mid header (len - header) quote new
    ≡ take (40 + walked.at) quote ++ quoted_upper_to_4 source destination (quoted6_fields walked quote) ++ drop (40 + payload_length_in quote) quote
upper-first source destination walked quote new sent header len source6 destination6 good first is_header is_len is_sent is_source is_destination is_new =
    let packet : Ipv6Packet = ipv6_fields quote in
    let hl : ℕ = 40 + walked.at in
    let total : ℕ = 40 + payload_length_in quote in
    let sum : header + (len - header) ≡ len = omega (arith, good.header, good.ordered) in
    let rest : drop (len - header) (drop header quote) ≡ drop total quote =
    drop-drop (len - header) header quote ∙ ap (λ n. drop n quote) (sum ∙ is_len) ∙ drop-least quote total in
    let payload : take (len - header) (drop header quote) ≡ upper_of (quoted6_fields walked quote) =
    ap (λ n. take (n - header) (drop header quote)) is_len ∙ ap (λ n. take (min (length quote) total - n) (drop n quote)) is_header
    ∙ payload-here quote hl total ∙ sym (upper-is walked quote good.ordered) in
    let upper : new ≡ upper_to_4 walked.upper (ends_of6 source destination packet) (payload_length_in quote - walked.at) (upper_of (quoted6_fields walked quote)) =
    is_new
    ∙ ap (λ a. upper_to_4 walked.upper (record { source4 = source; destination4 = destination; source6 = a; destination6 = destination6 }) sent (take (len - header) (drop header quote))) is_source
    ∙ ap (λ a. upper_to_4 walked.upper (record { source4 = source; destination4 = destination; source6 = packet.source; destination6 = a }) sent (take (len - header) (drop header quote))) is_destination
    ∙ ap (λ n. upper_to_4 walked.upper (ends_of6 source destination packet) n (take (len - header) (drop header quote))) is_sent
    ∙ ap (upper_to_4 walked.upper (ends_of6 source destination packet) (payload_length_in quote - walked.at)) payload in
    let chosen = is_first (((fields_in walked.fragment).offset == 0)) (upper_to_4 walked.upper (ends_of6 source destination packet) (payload_length_in quote - walked.at) (upper_of (quoted6_fields walked quote)))
    (upper_of (quoted6_fields walked quote)) first in
    ap (λ l. take header quote ++ (new ++ l)) rest ∙ sym (append_assoc (take header quote) new (drop total quote))
    ∙ ap (λ n. take n quote ++ new ++ drop total quote) is_header ∙ ap (λ l. take hl quote ++ l ++ drop total quote) (upper ∙ sym chosen)

pub quote-length-kept : (source destination : ℕ) (walked : Walked) (quote : List ℕ) → HasQuote6 walked quote
    → length (take (40 + walked.at) quote ++ quoted_upper_to_4 source destination (quoted6_fields walked quote) ++ drop (40 + payload_length_in quote) quote) ≡ length quote
quote-length-kept source destination walked quote good =
    let upper : List ℕ = quoted_upper_to_4 source destination (quoted6_fields walked quote) in
    let behind : List ℕ = drop (40 + payload_length_in quote) quote in
    let size = upper-length-kept source destination (quoted6_fields walked quote) ∙ payload-length walked quote good.ordered in
    length-append (take (40 + walked.at) quote ++ upper) behind ∙ ap (λ n. n + length behind) (length-append (take (40 + walked.at) quote) upper)
    ∙ omega (arith, size, length-take-le (40 + walked.at) quote good.header, length-drop (40 + payload_length_in quote) quote, good.header, good.ordered)

-- what is planned for a quote
pub record Planned64 (walked : Walked) (quote : List ℕ) (limit header count : ℕ) : Type 0 where
  pub header_len : header ≡ 40 + walked.at
  pub kept : count ≡ min (min (length quote) (40 + payload_length_in quote) - (40 + walked.at)) (limit - 20)

pub kept-inside : (walked : Walked) (quote : List ℕ) (limit header_len kept at end : ℕ) → Planned64 walked quote limit header_len kept → HasQuote6 walked quote
    → at ≤ end → length quote ≡ end - at → at + header_len + kept ≤ end
kept-inside walked quote limit header_len kept at end plan good ordered size = omega (arith, plan.header_len, plan.kept, good.header, good.ordered)

pub planned-seen : (walked : Walked) (seen old : List ℕ) (at n limit header count : ℕ) → seen ≡ old → Planned64 walked (part seen at n) limit header count → Planned64 walked (part old at n) limit header count
planned-seen walked seen old at n limit header count same plan = subst (λ (b : List ℕ). Planned64 walked (part b at n) limit header count) same plan

-- the front of the translated quote
pub quote-cut : (source destination limit header_len kept : ℕ) (tos_zero : Bool) (walked : Walked) (quote : List ℕ) → HasQuote6 walked quote → Planned64 walked quote limit header_len kept → 20 ≤ limit
    → take limit (quote_to_4 source destination tos_zero (quoted6_fields walked quote))
    ≡ quote_head_to_4 source destination tos_zero (quoted6_fields walked quote) ++ take kept (quoted_upper_to_4 source destination (quoted6_fields walked quote))
unfolding quote_to_4
quote-cut source destination limit header_len kept tos_zero walked quote good plan enough =
    let quoted : QuotedIpv6 = quoted6_fields walked quote in
    let upper : List ℕ = quoted_upper_to_4 source destination quoted in
    let size : length upper ≡ min (length quote) (40 + payload_length_in quote) - (40 + walked.at) = upper-length-kept source destination quoted ∙ payload-length walked quote good.ordered in
    let is_kept : kept ≡ min (length upper) (limit - (20 + 0)) = plan.kept ∙ ap (λ n. min n (limit - 20)) (sym size) in
    quote-taken (quote_head_to_4 source destination tos_zero quoted) [] upper limit kept enough is_kept

pub quote-cut-length : (source destination limit header_len kept : ℕ) (tos_zero : Bool) (walked : Walked) (quote : List ℕ) → HasQuote6 walked quote → Planned64 walked quote limit header_len kept → 20 ≤ limit
    → 20 + kept ≡ length (take limit (quote_to_4 source destination tos_zero (quoted6_fields walked quote)))
quote-cut-length source destination limit header_len kept tos_zero walked quote good plan enough =
    let quoted : QuotedIpv6 = quoted6_fields walked quote in
    let upper : List ℕ = quoted_upper_to_4 source destination quoted in
    let size : length upper ≡ min (length quote) (40 + payload_length_in quote) - (40 + walked.at) = upper-length-kept source destination quoted ∙ payload-length walked quote good.ordered in
    let inside : kept ≤ length upper = omega (arith, plan.kept, size) in
    sym (ap length (quote-cut source destination limit header_len kept tos_zero walked quote good plan enough)
    ∙ length-append (quote_head_to_4 source destination tos_zero quoted) (take kept upper)
    ∙ ap (λ n. 20 + n) (length-take-le kept upper inside))

-- a translated quote is no longer than its part
pub quote-most : (source destination : ℕ) (tos_zero : Bool) (walked : Walked) (quote : List ℕ) → HasQuote6 walked quote
    → length (quote_to_4 source destination tos_zero (quoted6_fields walked quote)) ≤ length quote
unfolding quote_to_4
quote-most source destination tos_zero walked quote good =
    let quoted : QuotedIpv6 = quoted6_fields walked quote in
    let upper : List ℕ = quoted_upper_to_4 source destination quoted in
    let size : length upper ≡ min (length quote) (40 + payload_length_in quote) - (40 + walked.at) = upper-length-kept source destination quoted ∙ payload-length walked quote good.ordered in
    let whole = length-append (quote_head_to_4 source destination tos_zero quoted) upper in
    omega (arith, whole, size, good.header)

-- a packet in which the upper part of its quote was translated
pub moved-upper : (source destination at end : ℕ) (walked : Walked) (old lent left : List ℕ) → at ≤ end → end ≤ length old → lent ≡ old → HasQuote6 walked (part old at (end - at)) →
    let quote = part lent at (end - at) in
    left ≡ take at lent ++ (take (40 + walked.at) quote ++ quoted_upper_to_4 source destination (quoted6_fields walked quote) ++ drop (40 + payload_length_in quote) quote) ++ drop end lent →
    let quote = part old at (end - at) in
    rewritten old left ≡ take at old ++ ((take (40 + walked.at) quote ++ quoted_upper_to_4 source destination (quoted6_fields walked quote)) ++ drop (40 + payload_length_in quote) quote) ++ drop end old
moved-upper source destination at end walked old lent left ordered inside same good is_left =
    let quote : List ℕ = part old at (end - at) in
    let middle : List ℕ = take (40 + walked.at) quote ++ quoted_upper_to_4 source destination (quoted6_fields walked quote) ++ drop (40 + payload_length_in quote) quote in
    let is : left ≡ take at old ++ middle ++ drop end old =
    is_left ∙ ap (λ (b : List ℕ). let q = part b at (end - at) in take at b ++ (take (40 + walked.at) q ++ quoted_upper_to_4 source destination (quoted6_fields walked q) ++ drop (40 + payload_length_in q) q) ++ drop end b) same in
    let size : length middle ≡ end - at =
    quote-length-kept source destination walked quote good ∙ length-take-le (end - at) (drop at old) (omega (arith, length-drop at old)) in
    rewritten-same old left (ap length is ∙ length-append (take at old ++ middle) (drop end old)
    ∙ omega (arith, length-append (take at old) middle, length-take-le at old (omega arith), size, length-drop end old)) ∙ is

-- the whole packet afterwards
pub quote-rewritten : (source destination at end limit header_len kept : ℕ) (tos_zero : Bool) (walked : Walked) (old moved cut new written : List ℕ) →
    let quote = part old at (end - at) in
    at ≤ end → end ≤ length old → HasQuote6 walked quote → 20 ≤ limit → Planned64 walked quote limit header_len kept
    → written ≡ quote_head_to_4 source destination tos_zero (quoted6_fields walked quote)
    → moved ≡ take at old ++ ((take (40 + walked.at) quote ++ quoted_upper_to_4 source destination (quoted6_fields walked quote)) ++ drop (40 + payload_length_in quote) quote) ++ drop end old
    → cut ≡ take (at + header_len + kept) moved ++ drop (at + header_len + kept + (end - (at + header_len + kept))) moved
    → new ≡ take at cut ++ written ++ drop (at + header_len) cut
    → new ≡ take at old ++ take limit (quote_to_4 source destination tos_zero (quoted6_fields walked quote)) ++ drop end old
quote-rewritten source destination at end limit header_len kept tos_zero walked old moved cut new written ordered inside good enough plan is_written is_moved is_cut is_new =
    let quote : List ℕ = part old at (end - at) in
    let quoted : QuotedIpv6 = quoted6_fields walked quote in
    let upper : List ℕ = quoted_upper_to_4 source destination quoted in
    let size : length quote ≡ end - at = length-take-le (end - at) (drop at old) (omega (arith, length-drop at old)) in
    let upper_size : length upper ≡ min (length quote) (40 + payload_length_in quote) - (40 + walked.at) = upper-length-kept source destination quoted ∙ payload-length walked quote good.ordered in
    let place : ℕ = at + header_len + kept in
    let within : place ≤ end = kept-inside walked quote limit header_len kept at end plan good ordered size in
    let whole = quote-length-kept source destination walked quote good in
    rewritten-is (take at old) (take (40 + walked.at) quote) upper (drop (40 + payload_length_in quote) quote) (drop end old) written moved cut new
    at header_len kept place (end - place)
    (sym (length-take-le at old (omega arith))) (plan.header_len ∙ sym (length-take-le (40 + walked.at) quote good.header)) (omega (arith, plan.kept, upper_size)) refl
    (omega (arith, whole, size)) is_moved is_cut is_new
    ∙ ap (λ l. take at old ++ (l ++ take kept upper) ++ drop end old) is_written
    ∙ ap (λ l. take at old ++ l ++ drop end old) (sym (quote-cut source destination limit header_len kept tos_zero walked quote good plan enough))
