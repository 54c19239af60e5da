-- A quote that is turned: its upper part, its addresses, and what stands before them.
use Rattle.std.proofs.Common.{◌≡◌, ℕ, ◌+◌, ◌*◌, ◌/◌, ◌%◌, ◌^◌, ◌-◌, ◌<◌, ◌≤◌, List, [], ◌∷◌, ◌++◌, length, min, take, drop, true, false, ◌==◌, ◌∙◌, ap, sym, refl, arith, append_assoc, length-append, length-drop}
use Rattle.std.proofs.lemmas.List.{drop-drop, drop-take, take-take, take-append-le, drop-append-le, take_at, drop_at, length-take, length-take-le}
use borrow.Rule.Slice.PartMut.{put_mid}
use Rattle.siit_model.specs.Bytes.{AreBytes, bytes16, bytes32, bytes128, part}
use Rattle.siit_model.specs.Checksum.{pseudo6}
use Rattle.siit_model.specs.Extensions.{Walked}
use Rattle.siit_model.specs.Fragments.{fields_in}
use Rattle.siit_model.specs.Ipv6.{Ipv6Packet, ipv6_fields, payload_length_in, version6_in}
use Rattle.siit_views.specs.Contents.{rewritten}
use Rattle.siit_views.proofs.Places.{rewritten-same}
use Rattle.siit_v4to6.proofs.Written.{length-written}
use Rattle.siit_v6to4.specs.Turns.{turned_packet, turned_upper}
use Rattle.siit_v6to4.proofs.Turned.{part-length}
use Rattle.siit_quoted.specs.Quoted.{HasQuote6, QuotedIpv6, quoted6_fields}
use Rattle.siit_quoted.specs.Quotes.{quote_turned}
use Rattle.siit_quoted.specs.Rewriting.{quoted_upper_turned}
use Rattle.siit_quoted.proofs.Ends.{upper_of}
use Rattle.siit_quoted.proofs.Quotes46.{drop-least, is_first, not_first, payload-here, split-three}
use Rattle.siit_quoted.proofs.Quotes64.{payload-length, upper-is}

-- four bytes that are read as a number, and written again
word-read : (a b c d : ℕ) → b < 256 → c < 256 → d < 256 → a / 16 ≡ 6
    → 6 * 2 ^ 28 + (a * 256 + b) / 16 % 256 * 2 ^ 20 + ((a * 256 + b) * 65536 + (c * 256 + d)) % 1048576 ≡ (a * 256 + b) * 65536 + (c * 256 + d)
word-read a b c d small_b small_c small_d six = omega arith

listed : (w x y z a b c d : ℕ) → w ≡ a → x ≡ b → y ≡ c → z ≡ d → w ∷ x ∷ y ∷ z ∷ [] ≡ a ∷ b ∷ c ∷ d ∷ []
listed w x y z a b c d e f g h = rw (e, f, g, h) refl

word-written : (a b c d : ℕ) → a < 256 → b < 256 → c < 256 → d < 256 → bytes32 ((a * 256 + b) * 65536 + (c * 256 + d)) ≡ a ∷ b ∷ c ∷ d ∷ []
word-written a b c d small_a small_b small_c small_d = listed _ _ _ _ a b c d (omega arith) (omega arith) (omega arith) (omega arith)

two-written : (a b : ℕ) → a < 256 → b < 256 → bytes16 (a * 256 + b) ≡ a ∷ b ∷ []
two-written a b small_a small_b =
    let one : (a * 256 + b) / 256 % 256 ≡ a = omega arith in
    let two : (a * 256 + b) % 256 ≡ b = omega arith in
    rw (one, two) refl

-- what stands before the addresses, as it is written
abbrev before : ℕ → Ipv6Packet → List ℕ
before len packet = bytes32 (6 * 2 ^ 28 + packet.class * 2 ^ 20 + packet.flow) ++ bytes16 len ++ packet.next ∷ packet.hop ∷ []

before-is : (bytes : List ℕ) → AreBytes bytes → version6_in bytes ≡ 6 → 8 ≤ length bytes → take 8 bytes ≡ before (payload_length_in bytes) (ipv6_fields bytes)
before-is [] small six there = absurd (omega arith)
before-is (a ∷ []) small six there = absurd (omega arith)
before-is (a ∷ b ∷ []) small six there = absurd (omega arith)
before-is (a ∷ b ∷ c ∷ []) small six there = absurd (omega arith)
before-is (a ∷ b ∷ c ∷ d ∷ []) small six there = absurd (omega arith)
before-is (a ∷ b ∷ c ∷ d ∷ e ∷ []) small six there = absurd (omega arith)
before-is (a ∷ b ∷ c ∷ d ∷ e ∷ f ∷ []) small six there = absurd (omega arith)
before-is (a ∷ b ∷ c ∷ d ∷ e ∷ f ∷ g ∷ []) small six there = absurd (omega arith)
before-is (a ∷ b ∷ c ∷ d ∷ e ∷ f ∷ g ∷ h ∷ rest) small six there =
    let word : bytes32 (6 * 2 ^ 28 + (a * 256 + b) / 16 % 256 * 2 ^ 20 + ((a * 256 + b) * 65536 + (c * 256 + d)) % 1048576) ≡ a ∷ b ∷ c ∷ d ∷ [] =
    ap bytes32 (word-read a b c d (small 1) (small 2) (small 3) six) ∙ word-written a b c d (small 0) (small 1) (small 2) (small 3) in
    let len : bytes16 (e * 256 + f) ≡ e ∷ f ∷ [] = two-written e f (small 4) (small 5) in
    sym (ap (λ w. w ++ bytes16 (e * 256 + f) ++ g ∷ h ∷ []) word ∙ ap (λ w. (a ∷ b ∷ c ∷ d ∷ []) ++ w ++ g ∷ h ∷ []) len)

-- a later fragment's upper part stays
pub upper-later : (source destination : ℕ) (walked : Walked) (quote : List ℕ) → HasQuote6 walked quote → ((fields_in walked.fragment).offset == 0) ≡ false
    → quote ≡ take (40 + walked.at) quote ++ quoted_upper_turned source destination (quoted6_fields walked quote) ++ drop (40 + payload_length_in quote) quote
upper-later source destination walked quote good later =
    split-three quote (40 + walked.at) (40 + payload_length_in quote) (omega (arith, good.ordered))
    ∙ ap (λ l. take (40 + walked.at) quote ++ l ++ drop (40 + payload_length_in quote) quote)
    (sym (not_first ((fields_in walked.fragment).offset == 0) _ (upper_of (quoted6_fields walked quote)) later ∙ upper-is walked quote good.ordered))

-- that of a packet or of a first fragment is moved
pub upper-first : (source destination : ℕ) (walked : Walked) (quote new : List ℕ) (sent header len old_source old_destination : ℕ) → HasQuote6 walked quote
    → ((fields_in walked.fragment).offset == 0) ≡ true
    → header ≡ 40 + walked.at → len ≡ min (length quote) (40 + payload_length_in quote)
    → sent ≡ payload_length_in quote - walked.at → old_source ≡ (ipv6_fields quote).source → old_destination ≡ (ipv6_fields quote).destination
    → new ≡ turned_upper walked.upper (pseudo6 old_source old_destination walked.upper sent) (pseudo6 source destination walked.upper sent) (take (len - header) (drop header quote))
    → put_mid header (len - header) quote new
    ≡ take (40 + walked.at) quote ++ quoted_upper_turned source destination (quoted6_fields walked quote) ++ drop (40 + payload_length_in quote) quote
upper-first source destination walked quote new sent header len old_source old_destination good first is_header is_len is_sent is_source is_destination is_new =
    let packet : Ipv6Packet = ipv6_fields quote in
    let hl : ℕ = 40 + walked.at in
    let total : ℕ = 40 + payload_length_in quote in
    let upper : List ℕ = upper_of (quoted6_fields walked quote) in
    let sum : header + (len - header) ≡ len = omega (arith, good.header, good.ordered) in
    let rest : drop (len - header) (drop header quote) ≡ drop total quote =
    drop-drop (len - header) header quote ∙ ap (λ n. drop n quote) (sum ∙ is_len) ∙ drop-least quote total in
    let here : take (len - header) (drop header quote) ≡ upper =
    ap (λ n. take (n - header) (drop header quote)) is_len ∙ ap (λ n. take (min (length quote) total - n) (drop n quote)) is_header
    ∙ payload-here quote hl total ∙ sym (upper-is walked quote good.ordered) in
    let moved = λ (s d n : ℕ) (l : List ℕ). turned_upper walked.upper (pseudo6 s d walked.upper n) (pseudo6 source destination walked.upper n) l in
    let is : new ≡ moved packet.source packet.destination (payload_length_in quote - walked.at) upper =
    is_new
    ∙ ap (λ s. moved s old_destination sent (take (len - header) (drop header quote))) is_source
    ∙ ap (λ d. moved packet.source d sent (take (len - header) (drop header quote))) is_destination
    ∙ ap (λ n. moved packet.source packet.destination n (take (len - header) (drop header quote))) is_sent
    ∙ ap (moved packet.source packet.destination (payload_length_in quote - walked.at)) here in
    let chosen = is_first ((fields_in walked.fragment).offset == 0) (moved packet.source packet.destination (payload_length_in quote - walked.at) upper) upper first in
    ap (λ l. take header quote ++ (new ++ l)) rest ∙ sym (append_assoc (take header quote) new (drop total quote))
    ∙ ap (λ n. take n quote ++ new ++ drop total quote) is_header ∙ ap (λ l. take hl quote ++ l ++ drop total quote) (is ∙ sym chosen)

-- other addresses, in place
pub turned-is : (source destination : ℕ) (walked : Walked) (quote between after : List ℕ) → AreBytes quote → HasQuote6 walked quote
    → between ≡ take (40 + walked.at) quote ++ quoted_upper_turned source destination (quoted6_fields walked quote) ++ drop (40 + payload_length_in quote) quote
    → after ≡ take 8 between ++ bytes128 source ++ bytes128 destination ++ drop 40 between
    → after ≡ quote_turned source destination (quoted6_fields walked quote) ++ drop (40 + payload_length_in quote) quote
unfolding quote_turned
turned-is source destination walked quote between after small good is_between is_after =
    let packet : Ipv6Packet = ipv6_fields quote in
    let len : ℕ = payload_length_in quote in
    let upper : List ℕ = quoted_upper_turned source destination (quoted6_fields walked quote) in
    let behind : List ℕ = drop (40 + len) quote in
    let front : List ℕ = take (40 + walked.at) quote in
    let long : length front ≡ 40 + walked.at = length-take-le (40 + walked.at) quote good.header in
    let grouped : between ≡ front ++ (upper ++ behind) = is_between ∙ append_assoc front upper behind in
    let first : take 8 between ≡ before len packet =
    ap (take 8) grouped ∙ take-append-le 8 front (upper ++ behind) (omega (arith, long)) ∙ take-take 8 (40 + walked.at) quote (omega arith)
    ∙ before-is quote small good.version (omega (arith, good.header)) in
    let last : drop 40 between ≡ take walked.at packet.body ++ (upper ++ behind) =
    ap (drop 40) grouped ∙ drop-append-le 40 front (upper ++ behind) (omega (arith, long))
    ∙ ap (λ l. l ++ (upper ++ behind)) (drop-take 40 walked.at quote ∙ sym (take-take walked.at len (drop 40 quote) good.ordered)) in
    let sum : len ≡ walked.at + (len - walked.at) = omega (arith, good.ordered) in
    is_after
    ∙ ap (λ l. l ++ bytes128 source ++ bytes128 destination ++ drop 40 between) first
    ∙ ap (λ l. before len packet ++ bytes128 source ++ bytes128 destination ++ l) (last ∙ sym (append_assoc (take walked.at packet.body) upper behind))
    ∙ ap (λ n. before n packet ++ bytes128 source ++ bytes128 destination ++ ((take walked.at packet.body ++ upper) ++ behind)) sum

-- a turned quote is what stays of it, its new addresses and its upper part
pub turned-parts : (source destination : ℕ) (walked : Walked) (quote : List ℕ) → AreBytes quote → HasQuote6 walked quote
    → quote_turned source destination (quoted6_fields walked quote)
    ≡ take 8 quote ++ ((bytes128 source ++ bytes128 destination) ++ (take walked.at (drop 40 quote) ++ quoted_upper_turned source destination (quoted6_fields walked quote)))
unfolding quote_turned
turned-parts source destination walked quote small good =
    let packet : Ipv6Packet = ipv6_fields quote in
    let len : ℕ = payload_length_in quote in
    let upper : List ℕ = quoted_upper_turned source destination (quoted6_fields walked quote) in
    let addresses : List ℕ = bytes128 source ++ bytes128 destination in
    let first : take 8 quote ≡ before len packet = before-is quote small good.version (omega (arith, good.header)) in
    let sum : len ≡ walked.at + (len - walked.at) = omega (arith, good.ordered) in
    let body : take walked.at (drop 40 quote) ≡ take walked.at packet.body = sym (take-take walked.at len (drop 40 quote) good.ordered) in
    sym (ap (λ l. l ++ (addresses ++ (take walked.at (drop 40 quote) ++ upper))) first
    ∙ ap (λ n. before n packet ++ (addresses ++ (take walked.at (drop 40 quote) ++ upper))) sum
    ∙ ap (λ l. before (walked.at + (len - walked.at)) packet ++ (addresses ++ (l ++ upper))) body)

-- a turned quote is as long as the quoted packet is there
pub turned-length : (source destination : ℕ) (walked : Walked) (quote : List ℕ) → HasQuote6 walked quote
    → length (quote_turned source destination (quoted6_fields walked quote)) ≡ min (length quote) (40 + payload_length_in quote)
unfolding quote_turned
turned-length source destination walked quote good =
    let quoted : QuotedIpv6 = quoted6_fields walked quote in
    let packet : Ipv6Packet = ipv6_fields quote in
    let upper : List ℕ = quoted_upper_turned source destination quoted in
    let whole = length-written (walked.at + quoted.sent) (turned_packet source destination quoted.sent walked packet) in
    let size : length packet.body ≡ min (payload_length_in quote) (length quote - 40) = length-take (payload_length_in quote) (drop 40 quote) ∙ ap (λ n. min (payload_length_in quote) n) (length-drop 40 quote) in
    let here : length upper ≡ min (length quote) (40 + payload_length_in quote) - (40 + walked.at) = part-length _ _ walked (upper_of quoted) ∙ payload-length walked quote good.ordered in
    omega (arith, whole, length-append (take walked.at packet.body) upper, length-take-le walked.at packet.body (omega (arith, size, good.header, good.ordered)), here, good.header, good.ordered)

-- a packet in which its quote was turned
pub moved-turned : (source destination at end : ℕ) (walked : Walked) (old lent left : List ℕ) → at ≤ end → end ≤ length old → lent ≡ old → HasQuote6 walked (part old at (end - at)) →
    let quote = part lent at (end - at) in
    left ≡ take at lent ++ (quote_turned source destination (quoted6_fields walked quote) ++ drop (40 + payload_length_in quote) quote) ++ drop end lent →
    let quote = part old at (end - at) in
    rewritten old left ≡ take at old ++ (quote_turned source destination (quoted6_fields walked quote) ++ drop (40 + payload_length_in quote) quote) ++ drop end old
moved-turned source destination at end walked old lent left ordered inside same good is_left =
    let quote : List ℕ = part old at (end - at) in
    let middle : List ℕ = quote_turned source destination (quoted6_fields walked quote) ++ drop (40 + payload_length_in quote) quote in
    let is : left ≡ take at old ++ middle ++ drop end old =
    is_left ∙ ap (λ (b : List ℕ). let q = part b at (end - at) in take at b ++ (quote_turned source destination (quoted6_fields walked q) ++ drop (40 + payload_length_in q) q) ++ drop end b) same in
    let part_size : length quote ≡ end - at = length-take-le (end - at) (drop at old) (omega (arith, length-drop at old)) in
    let size : length middle ≡ end - at =
    length-append (quote_turned source destination (quoted6_fields walked quote)) (drop (40 + payload_length_in quote) quote)
    ∙ omega (arith, turned-length source destination walked quote good, length-drop (40 + payload_length_in quote) quote, part_size) in
    rewritten-same old left (ap length is ∙ length-append (take at old ++ middle) (drop end old)
    ∙ omega (arith, length-append (take at old) middle, length-take-le at old (omega arith), size, length-drop end old)) ∙ is

-- bytes behind the quote are taken out
cut-is : (front quote behind rest l1 l2 : List ℕ) (place n : ℕ) → place ≡ length front + length quote → place + n ≡ length front + length (quote ++ behind)
    → l1 ≡ front ++ (quote ++ behind) ++ rest → l2 ≡ take place l1 ++ drop (place + n) l1 → l2 ≡ front ++ quote ++ rest
cut-is front quote behind rest l1 l2 place n is_place is_end is_l1 is_l2 =
    let grouped : l1 ≡ (front ++ quote) ++ (behind ++ rest) = is_l1 ∙ simp append_assoc in
    let first : take place l1 ≡ front ++ quote =
    ap (take place) grouped ∙ take_at (front ++ quote) (behind ++ rest) place (omega (arith, length-append front quote)) in
    let last : drop (place + n) l1 ≡ rest =
    ap (drop (place + n)) is_l1 ∙ drop_at (front ++ (quote ++ behind)) rest (place + n) (omega (arith, length-append front (quote ++ behind))) in
    is_l2 ∙ ap (λ l. l ++ drop (place + n) l1) first ∙ ap (λ l. (front ++ quote) ++ l) last

-- the whole packet afterwards
pub turned-rewritten : (source destination at end len : ℕ) (walked : Walked) (old moved new : List ℕ) →
    let quote = part old at (end - at) in
    at ≤ end → end ≤ length old → HasQuote6 walked quote → len ≡ min (length quote) (40 + payload_length_in quote)
    → moved ≡ take at old ++ (quote_turned source destination (quoted6_fields walked quote) ++ drop (40 + payload_length_in quote) quote) ++ drop end old
    → new ≡ take (at + len) moved ++ drop (at + len + (end - (at + len))) moved
    → new ≡ take at old ++ quote_turned source destination (quoted6_fields walked quote) ++ drop end old
turned-rewritten source destination at end len walked old moved new ordered inside good is_len is_moved is_new =
    let quote : List ℕ = part old at (end - at) in
    let turned : List ℕ = quote_turned source destination (quoted6_fields walked quote) in
    let behind : List ℕ = drop (40 + payload_length_in quote) quote in
    let part_size : length quote ≡ end - at = length-take-le (end - at) (drop at old) (omega (arith, length-drop at old)) in
    let size = turned-length source destination walked quote good in
    let front : length (take at old) ≡ at = length-take-le at old (omega arith) in
    cut-is (take at old) turned behind (drop end old) moved new (at + len) (end - (at + len)) (omega (arith, front, size, is_len))
    (omega (arith, front, size, is_len, length-append turned behind, length-drop (40 + payload_length_in quote) quote, part_size)) is_moved is_new
