-- A quote on its way to IPv6: its headers, its upper part, and both together.
use Rattle.std.proofs.Common.{not, nat_lt, nat_le, ◌&&◌, ◌||◌, Some, None, ◌≡◌, ℕ, ◌+◌, ◌-◌, ◌≤◌, List, ◌++◌, length, min, take, drop, Bool, true, false, ◌==◌, if◌then◌else◌, inl, inr, ◌⊎◌, ◌∙◌, ap, sym, subst, refl, arith, append_assoc, length-append, length-drop}
use Rattle.std.proofs.lemmas.Bool.{ne_eqb, eq-eqb, cases_lt}
use Rattle.std.proofs.lemmas.List.{take_all, drop_min, drop-drop, take-append-drop, length-take, length-take-le}
use Rattle.siit_model.specs.Bytes.{part}
use Rattle.std.proofs.lemmas.Bool.Decides.{nat_tests}
use Rattle.siit_rules.specs.declared.rule.Rule.{Rule}
use Rattle.siit_rules.specs.declared.rule.Rule.TheVariants.{QuoteShort4, QuoteBad4, NestedTwice4, QuoteType4}
use Rattle.siit_quoted.specs.Refusals.{is_short_quote4, is_bad_quote4, is_nested4, is_untranslated4, quote_refusal4}
use Rattle.siit_model.specs.Fragments.{fragment4}
use Rattle.siit_model.specs.Ipv6.{ipv6_header}
use Rattle.siit_model.specs.Ipv4.{Ipv4Packet, version_in, header_length_in, total_length_in, ipv4_fields}
use Rattle.siit_v4to6.specs.To6.{upper_to_6}
use Rattle.siit_v4to6.proofs.Good.{upper-length}
use Rattle.siit_quoted.specs.Quoted.{HasQuote4, QuotedIpv4, quoted4_fields}
use Rattle.siit_quoted.specs.Quotes.{quoted_packet_to_6, quote_to_6, sent_to_6}
use Rattle.siit_quoted.specs.Rewriting.{fragment_to_6, quote_head_to_6, quoted_upper_to_6}
use Rattle.siit_quoted.proofs.Ends.{ends_of}
use borrow.Rule.Slice.PartMut.{put_mid}
use Rattle.siit_checksum.proofs.Fields.{length-if}
use Rattle.siit_views.specs.Contents.{rewritten}
use Rattle.siit_views.proofs.Places.{rewritten-same}
use Rattle.siit_quoted.proofs.Places.{quote-taken, rewritten-is}

-- the upper part

cases_le : (a b : ℕ) → (a ≤ b) ⊎ (b ≤ a)
cases_le a b = elim (cases_lt b a) [ inl less ↦ inr (omega arith) | inr more ↦ inl more ]

pub not_first : (first : Bool) (one other : List ℕ) → first ≡ false → (if first then one else other) ≡ other
not_first first one other is = rw is refl

pub is_first : (first : Bool) (one other : List ℕ) → first ≡ true → (if first then one else other) ≡ one
is_first first one other is = rw is refl

pub drop-least : (quote : List ℕ) (total : ℕ) → drop (min (length quote) total) quote ≡ drop total quote
drop-least quote total = let flipped : min (length quote) total ≡ min total (length quote) = omega arith in ap (λ n. drop n quote) flipped ∙ drop_min total quote

pub payload-here : (quote : List ℕ) (header total : ℕ) → take (min (length quote) total - header) (drop header quote) ≡ take (total - header) (drop header quote)
payload-here quote header total =
    let rest : List ℕ = drop header quote in
    let size = length-drop header quote in
    elim (cases_le total (length quote)) [
      | inl within ↦ let same : min (length quote) total ≡ total = omega arith in ap (λ n. take (n - header) rest) same
      | inr past ↦
          take_all (min (length quote) total - header) rest (omega (arith, size)) ∙ sym (take_all (total - header) rest (omega (arith, size)))
    ]

pub split-three : (quote : List ℕ) (header total : ℕ) → header ≤ total → quote ≡ take header quote ++ take (total - header) (drop header quote) ++ drop total quote
split-three quote header total ordered =
    let sum : header + (total - header) ≡ total = omega arith in
    sym (append_assoc (take header quote) (take (total - header) (drop header quote)) (drop total quote)
    ∙ ap (λ l. take header quote ++ (take (total - header) (drop header quote) ++ l)) (sym (drop-drop (total - header) header quote ∙ ap (λ n. drop n quote) sum))
    ∙ ap (λ l. take header quote ++ l) (take-append-drop (total - header) (drop header quote))
    ∙ take-append-drop header quote)

-- a later fragment's upper part stays
pub upper-later : (source destination : ℕ) (quote : List ℕ) → header_length_in quote ≤ total_length_in quote → ((ipv4_fields quote).offset ≡ 0 → ⊥)
    → quote ≡ take (header_length_in quote) quote ++ quoted_upper_to_6 source destination (quoted4_fields quote) ++ drop (total_length_in quote) quote
upper-later source destination quote ordered later =
    split-three quote (header_length_in quote) (total_length_in quote) ordered
    ∙ ap (λ l. take (header_length_in quote) quote ++ l ++ drop (total_length_in quote) quote)
    (sym (not_first ((ipv4_fields quote).offset == 0) _ (ipv4_fields quote).payload (ne_eqb (ipv4_fields quote).offset 0 later)))

-- that of a packet or of a first fragment is moved
pub upper-first : (source destination : ℕ) (quote new : List ℕ) (protocol sent header len source4 destination4 : ℕ) → header ≤ len → len ≤ length quote
    → (ipv4_fields quote).offset ≡ 0 → header ≡ header_length_in quote → len ≡ min (length quote) (total_length_in quote)
    → protocol ≡ (ipv4_fields quote).protocol → sent ≡ total_length_in quote - header → source4 ≡ (ipv4_fields quote).source → destination4 ≡ (ipv4_fields quote).destination
    → new ≡ upper_to_6 protocol (record { source4 = source4; destination4 = destination4; source6 = source; destination6 = destination }) sent (take (len - header) (drop header quote))
    → put_mid header (len - header) quote new
    ≡ take (header_length_in quote) quote ++ quoted_upper_to_6 source destination (quoted4_fields quote) ++ drop (total_length_in quote) quote
upper-first source destination quote new protocol sent header len source4 destination4 ordered inside first is_header is_len is_protocol is_sent is_source is_destination is_new =
    let packet : Ipv4Packet = ipv4_fields quote in
    let hl : ℕ = header_length_in quote in
    let total : ℕ = total_length_in quote in
    let sum : header + (len - header) ≡ len = omega arith in
    let rest : drop (len - header) (drop header quote) ≡ drop total quote =
    drop-drop (len - header) header quote ∙ ap (λ n. drop n quote) (sum ∙ is_len) ∙ drop-least quote total in
    let payload : take (len - header) (drop header quote) ≡ packet.payload =
    ap (λ n. take (n - header) (drop header quote)) is_len ∙ ap (λ n. take (min (length quote) total - n) (drop n quote)) is_header ∙ payload-here quote hl total in
    let upper : new ≡ upper_to_6 packet.protocol (ends_of source destination packet) (total - hl) packet.payload =
    is_new
    ∙ ap (λ p. upper_to_6 p (record { source4 = source4; destination4 = destination4; source6 = source; destination6 = destination }) sent (take (len - header) (drop header quote))) is_protocol
    ∙ ap (λ a. upper_to_6 packet.protocol (record { source4 = a; destination4 = destination4; source6 = source; destination6 = destination }) sent (take (len - header) (drop header quote))) is_source
    ∙ ap (λ a. upper_to_6 packet.protocol (record { source4 = packet.source; destination4 = a; source6 = source; destination6 = destination }) sent (take (len - header) (drop header quote))) is_destination
    ∙ ap (λ n. upper_to_6 packet.protocol (ends_of source destination packet) n (take (len - header) (drop header quote))) (is_sent ∙ ap (λ n. total - n) is_header)
    ∙ ap (upper_to_6 packet.protocol (ends_of source destination packet) (total - hl)) payload in
    let chosen_upper = is_first (packet.offset == 0) (upper_to_6 packet.protocol (ends_of source destination packet) (total - hl) packet.payload) packet.payload (eq-eqb packet.offset 0 first) in
    ap (λ l. take header quote ++ (new ++ l)) rest ∙ sym (append_assoc (take header quote) new (drop total quote))
    ∙ ap (λ n. take n quote ++ new ++ drop total quote) is_header ∙ ap (λ l. take hl quote ++ l ++ drop total quote) (upper ∙ sym chosen_upper)

-- the upper part stays as long, and so does the quote
pub upper-length-kept : (source destination : ℕ) (quoted : QuotedIpv4) → length (quoted_upper_to_6 source destination quoted) ≡ length quoted.packet.payload
upper-length-kept source destination quoted =
    length-if (quoted.packet.offset == 0) _ quoted.packet.payload (length quoted.packet.payload)
    (λ (_ : (quoted.packet.offset == 0) ≡ true). upper-length quoted.packet.protocol (ends_of source destination quoted.packet) quoted.sent quoted.packet.payload) refl

pub quote-length-kept : (source destination : ℕ) (quote : List ℕ) → header_length_in quote ≤ total_length_in quote
    → length (take (header_length_in quote) quote ++ quoted_upper_to_6 source destination (quoted4_fields quote) ++ drop (total_length_in quote) quote) ≡ length quote
quote-length-kept source destination quote ordered =
    let header : List ℕ = take (header_length_in quote) quote in
    let behind : List ℕ = drop (total_length_in quote) quote in
    let upper : List ℕ = quoted_upper_to_6 source destination (quoted4_fields quote) in
    let payload : List ℕ = (ipv4_fields quote).payload in
    length-append (header ++ upper) behind ∙ ap (λ n. n + length behind) (length-append header upper)
    ∙ ap (λ n. length header + n + length behind) (upper-length-kept source destination (quoted4_fields quote))
    ∙ sym (length-append (header ++ payload) behind ∙ ap (λ n. n + length behind) (length-append header payload))
    ∙ sym (ap length (split-three quote (header_length_in quote) (total_length_in quote) ordered))

-- what is planned for a quote
pub record Planned46 (quote : List ℕ) (limit header count size : ℕ) : Type 0 where
  pub header_len : header ≡ header_length_in quote
  pub new_len : size ≡ 40 + length (fragment_to_6 (ipv4_fields quote))
  pub most : size ≤ 48
  pub kept : count ≡ min (min (length quote) (total_length_in quote) - header_length_in quote) (limit - size)

pub payload-length : (quote : List ℕ) → length (ipv4_fields quote).payload ≡ min (length quote) (total_length_in quote) - header_length_in quote
payload-length quote =
    length-take (total_length_in quote - header_length_in quote) (drop (header_length_in quote) quote)
    ∙ ap (λ n. min (total_length_in quote - header_length_in quote) n) (length-drop (header_length_in quote) quote) ∙ omega arith

pub kept-inside : (quote : List ℕ) (limit header_len kept new_len at end : ℕ) → Planned46 quote limit header_len kept new_len → HasQuote4 quote
    → at ≤ end → length quote ≡ end - at → at + header_len + kept ≤ end
kept-inside quote limit header_len kept new_len at end plan good ordered size = omega (arith, plan.header_len, plan.kept, good.inside, good.ordered)

-- the front of the translated quote
pub quote-cut : (source destination limit header_len kept new_len : ℕ) (tos_zero : Bool) (quote : List ℕ) → Planned46 quote limit header_len kept new_len → 48 ≤ limit
    → take limit (quote_to_6 source destination tos_zero (quoted4_fields quote))
    ≡ quote_head_to_6 source destination tos_zero (quoted4_fields quote) ++ take kept (quoted_upper_to_6 source destination (quoted4_fields quote))
unfolding quote_to_6
quote-cut source destination limit header_len kept new_len tos_zero quote plan enough =
    let packet : Ipv4Packet = ipv4_fields quote in
    let quoted : QuotedIpv4 = quoted4_fields quote in
    let upper : List ℕ = quoted_upper_to_6 source destination quoted in
    let head : List ℕ = ipv6_header (sent_to_6 source destination tos_zero quoted) (quoted_packet_to_6 source destination tos_zero quoted) in
    let size : length upper ≡ min (length quote) (total_length_in quote) - header_length_in quote = upper-length-kept source destination quoted ∙ payload-length quote in
    let fits : 40 + length (fragment_to_6 packet) ≤ limit = omega (arith, plan.new_len, plan.most) in
    let is_kept : kept ≡ min (length upper) (limit - (40 + length (fragment_to_6 packet))) =
    plan.kept ∙ ap (λ n. min n (limit - new_len)) (sym size) ∙ ap (λ n. min (length upper) (limit - n)) plan.new_len in
    quote-taken head (fragment_to_6 packet) upper limit kept fits is_kept

pub quote-cut-length : (source destination limit header_len kept new_len : ℕ) (tos_zero : Bool) (quote : List ℕ) → Planned46 quote limit header_len kept new_len → 48 ≤ limit
    → new_len + kept ≡ length (take limit (quote_to_6 source destination tos_zero (quoted4_fields quote)))
quote-cut-length source destination limit header_len kept new_len tos_zero quote plan enough =
    let packet : Ipv4Packet = ipv4_fields quote in
    let quoted : QuotedIpv4 = quoted4_fields quote in
    let upper : List ℕ = quoted_upper_to_6 source destination quoted in
    let size : length upper ≡ min (length quote) (total_length_in quote) - header_length_in quote = upper-length-kept source destination quoted ∙ payload-length quote in
    let inside : kept ≤ length upper = omega (arith, plan.kept, size) in
    let head : length (quote_head_to_6 source destination tos_zero quoted) ≡ 40 + length (fragment_to_6 packet) =
    length-append (ipv6_header (sent_to_6 source destination tos_zero quoted) (quoted_packet_to_6 source destination tos_zero quoted)) (fragment_to_6 packet) in
    sym (ap length (quote-cut source destination limit header_len kept new_len tos_zero quote plan enough)
    ∙ length-append (quote_head_to_6 source destination tos_zero quoted) (take kept upper)
    ∙ ap (λ n. n + length (take kept upper)) (head ∙ sym plan.new_len) ∙ ap (λ n. new_len + n) (length-take-le kept upper inside))

-- a packet in which the upper part of its quote was translated
pub moved-upper : (source destination at end : ℕ) (old lent left : List ℕ) → at ≤ end → end ≤ length old → lent ≡ old → HasQuote4 (part old at (end - at)) →
    let quote = part lent at (end - at) in
    left ≡ take at lent ++ (take (header_length_in quote) quote ++ quoted_upper_to_6 source destination (quoted4_fields quote) ++ drop (total_length_in quote) quote) ++ drop end lent →
    let quote = part old at (end - at) in
    rewritten old left ≡ take at old ++ ((take (header_length_in quote) quote ++ quoted_upper_to_6 source destination (quoted4_fields quote)) ++ drop (total_length_in quote) quote) ++ drop end old
moved-upper source destination at end old lent left ordered inside same good is_left =
    let quote : List ℕ = part old at (end - at) in
    let middle : List ℕ = take (header_length_in quote) quote ++ quoted_upper_to_6 source destination (quoted4_fields quote) ++ drop (total_length_in quote) quote in
    let is : left ≡ take at old ++ middle ++ drop end old =
    is_left ∙ ap (λ (b : List ℕ). let q = part b at (end - at) in take at b ++ (take (header_length_in q) q ++ quoted_upper_to_6 source destination (quoted4_fields q) ++ drop (total_length_in q) q) ++ drop end b) same in
    let size : length middle ≡ end - at =
    quote-length-kept source destination quote good.ordered ∙ length-take-le (end - at) (drop at old) (omega (arith, length-drop at old)) in
    rewritten-same old left (ap length is ∙ length-append (take at old ++ middle) (drop end old)
    ∙ omega (arith, length-append (take at old) middle, length-take-le at old (omega arith), size, length-drop end old)) ∙ is

pub rewritten-length : (lent left : List ℕ) → length (rewritten lent left) ≡ length lent
rewritten-length lent left =
    length-take-le (length lent) (left ++ drop (length left) lent) (omega (arith, length-append left (drop (length left) lent), length-drop (length left) lent))

-- the whole packet afterwards
pub quote-rewritten : (source destination at end limit header_len kept new_len : ℕ) (tos_zero : Bool) (old moved cut new written : List ℕ) →
    let quote = part old at (end - at) in
    at ≤ end → end ≤ length old → HasQuote4 quote → 48 ≤ limit → Planned46 quote limit header_len kept new_len
    → take new_len written ≡ quote_head_to_6 source destination tos_zero (quoted4_fields quote)
    → moved ≡ take at old ++ ((take (header_length_in quote) quote ++ quoted_upper_to_6 source destination (quoted4_fields quote)) ++ drop (total_length_in quote) quote) ++ drop end old
    → cut ≡ take (at + header_len + kept) moved ++ drop (at + header_len + kept + (end - (at + header_len + kept))) moved
    → new ≡ take at cut ++ take new_len written ++ drop (at + header_len) cut
    → new ≡ take at old ++ take limit (quote_to_6 source destination tos_zero (quoted4_fields quote)) ++ drop end old
quote-rewritten source destination at end limit header_len kept new_len tos_zero old moved cut new written ordered inside good enough plan is_written is_moved is_cut is_new =
    let quote : List ℕ = part old at (end - at) in
    let quoted : QuotedIpv4 = quoted4_fields quote in
    let upper : List ℕ = quoted_upper_to_6 source destination quoted in
    let size : length quote ≡ end - at = length-take-le (end - at) (drop at old) (omega (arith, length-drop at old)) in
    let upper_size : length upper ≡ min (length quote) (total_length_in quote) - header_length_in quote = upper-length-kept source destination quoted ∙ payload-length quote in
    let place : ℕ = at + header_len + kept in
    let within : place ≤ end = kept-inside quote limit header_len kept new_len at end plan good ordered size in
    let whole = quote-length-kept source destination quote good.ordered in
    rewritten-is (take at old) (take (header_length_in quote) quote) upper (drop (total_length_in quote) quote) (drop end old) (take new_len written) moved cut new
    at header_len kept place (end - place)
    (sym (length-take-le at old (omega arith))) (plan.header_len ∙ sym (length-take-le (header_length_in quote) quote good.inside)) (omega (arith, plan.kept, upper_size)) refl
    (omega (arith, whole, size)) is_moved is_cut is_new
    ∙ ap (λ l. take at old ++ (l ++ take kept upper) ++ drop end old) is_written
    ∙ ap (λ l. take at old ++ l ++ drop end old) (sym (quote-cut source destination limit header_len kept new_len tos_zero quote plan enough))

-- the same of the bytes that were seen
pub planned-seen : (seen old : List ℕ) (at n limit header count size : ℕ) → seen ≡ old → Planned46 (part seen at n) limit header count size → Planned46 (part old at n) limit header count size
planned-seen seen old at n limit header count size same plan = subst (λ (b : List ℕ). Planned46 (part b at n) limit header count size) same plan

-- how long the packet is once the end of the quote is gone
pub cut-length : (old left cut : List ℕ) (place end : ℕ) → place ≤ end → end ≤ length old
    → cut ≡ take place (rewritten old left) ++ drop (place + (end - place)) (rewritten old left) → length cut + end ≡ place + length old
cut-length old left cut place end ordered inside is_cut =
    let moved : List ℕ = rewritten old left in
    let size = rewritten-length old left in
    let sum = ap length is_cut in
    omega (arith, sum, length-append (take place moved) (drop (place + (end - place)) moved), length-take-le place moved (omega (arith, size)), length-drop (place + (end - place)) moved, size)

-- a translated quote is at most 28 bytes longer
pub quote-cut-most : (quote : List ℕ) (limit header_len kept new_len at end : ℕ) → Planned46 quote limit header_len kept new_len → HasQuote4 quote
    → length quote ≡ end - at → new_len + kept ≤ end - at + 28
quote-cut-most quote limit header_len kept new_len at end plan good size = omega (arith, plan.most, plan.kept, good.least, good.ordered, good.inside, size)

-- what an accepted quote tells
tests-false : (short bad nested other : Bool) (a b c d : Rule) →
    (if short then Some a else if bad then Some b else if nested then Some c else if other then Some d else None) ≡ None → (short ≡ false) × (bad ≡ false)
tests-false true bad nested other a b c d is = absurd (cc)
tests-false false true nested other a b c d is = absurd (cc)
tests-false false false nested other a b c d is = (refl, refl)

lengths-from : (len version header total : ℕ)
    → (nat_lt len 20 || ((version == 4) && nat_le 20 header && nat_lt len header)) ≡ false
    → (not (version == 4) || nat_lt header 20 || nat_lt total header) ≡ false
    → (version ≡ 4) × (20 ≤ header) × (header ≤ len) × (header ≤ total)
lengths-from len version header total one two = (grind (arith, nat_tests), grind (arith, nat_tests), grind (arith, nat_tests), grind (arith, nat_tests))

pub accepted-quote : (quote : List ℕ) → quote_refusal4 quote ≡ None → HasQuote4 quote
accepted-quote quote is =
    let tests = tests-false (is_short_quote4 quote) (is_bad_quote4 quote) (is_nested4 (fragment4 (ipv4_fields quote))) (is_untranslated4 (fragment4 (ipv4_fields quote))) QuoteShort4 QuoteBad4 NestedTwice4 QuoteType4 is in
    let facts = lengths-from (length quote) (version_in quote) (header_length_in quote) (total_length_in quote) tests.0 tests.1 in
    record { version = facts.0; least = facts.1; inside = facts.2; ordered = facts.3 }
