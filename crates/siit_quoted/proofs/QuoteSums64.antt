-- What goes and comes where a quote goes to IPv4.
use Rattle.std.proofs.Common.{◌≡◌, ℕ, ◌+◌, ◌-◌, ◌%◌, ◌<◌, ◌≤◌, List, ◌++◌, length, min, take, drop, replicate, Bool, true, false, ◌==◌, Option, Some, None, ◌∙◌, ap, sym, subst, refl, arith, length-append, take_all}
use Rattle.std.proofs.lemmas.List.{drop-drop, length-take-le, take-append-drop, take-take}
use Rattle.siit_model.specs.Checksum.{residue}
use Rattle.siit_model.specs.Extensions.{Walked}
use Rattle.siit_model.specs.Fragments.{fields_in}
use Rattle.siit_model.specs.Ipv6.{Ipv6Packet, ipv6_fields, payload_length_in}
use Rattle.siit_v6to4.specs.To4.{upper_to_4}
use Rattle.siit_quoted.specs.Bodies.{padding}
use Rattle.siit_quoted.specs.Quoted.{HasQuote6, QuotedIpv6, quoted6_fields}
use Rattle.siit_quoted.specs.Quotes.{quote_to_4}
use Rattle.siit_quoted.specs.Rewriting.{cut_to_4, extended_to_4, front_to_4, quote_head_to_4, quoted_upper_to_4, walked_body_to_4}
use Rattle.siit_quoted.specs.Sums.{IsDifference, IsPartDifference}
use Rattle.siit_quoted.proofs.Behind.{if-behind, upper_to_4-behind}
use Rattle.siit_quoted.proofs.Cuts.{chosen-take, upper_to_4-take}
use Rattle.siit_quoted.proofs.Ends.{ends_of6, upper_of}
use Rattle.siit_quoted.proofs.Fronts.{enough-kept, front-moved, kept-front}
use Rattle.siit_quoted.proofs.PartSums.{headed, residues-are}
use Rattle.siit_quoted.proofs.Quotes46.{is_first}
use Rattle.siit_quoted.proofs.Quotes64.{Planned64, payload-length, quote-cut, upper-is, upper-length-kept}

-- the first bytes of a packet or of a first fragment, translated
pub front-first : (source destination : ℕ) (walked : Walked) (quote bytes new : List ℕ) (sent source6 destination6 : ℕ) → ((fields_in walked.fragment).offset == 0) ≡ true
    → sent ≡ payload_length_in quote - walked.at → source6 ≡ (ipv6_fields quote).source → destination6 ≡ (ipv6_fields quote).destination
    → new ≡ upper_to_4 walked.upper (record { source4 = source; destination4 = destination; source6 = source6; destination6 = destination6 }) sent bytes
    → new ≡ front_to_4 source destination bytes (quoted6_fields walked quote)
front-first source destination walked quote bytes new sent source6 destination6 first is_sent is_source is_destination is_new =
    let packet : Ipv6Packet = ipv6_fields quote in
    is_new
    ∙ ap (λ a. upper_to_4 walked.upper (record { source4 = source; destination4 = destination; source6 = a; destination6 = destination6 }) sent bytes) is_source
    ∙ ap (λ a. upper_to_4 walked.upper (record { source4 = source; destination4 = destination; source6 = packet.source; destination6 = a }) sent bytes) is_destination
    ∙ ap (λ n. upper_to_4 walked.upper (ends_of6 source destination packet) n bytes) is_sent
    ∙ sym (is_first ((fields_in walked.fragment).offset == 0) (upper_to_4 walked.upper (ends_of6 source destination packet) (payload_length_in quote - walked.at) bytes) bytes first)

module _ (source destination : ℕ) (quoted : QuotedIpv6) where
  -- enough of the first bytes, translated, are the first bytes of the translated upper part
  front-taken : (n : ℕ) → 18 ≤ n → front_to_4 source destination (take n (upper_of quoted)) quoted ≡ take n (quoted_upper_to_4 source destination quoted)
  front-taken n enough =
      chosen-take n ((fields_in quoted.walked.fragment).offset == 0) ((fields_in quoted.walked.fragment).offset == 0) _ (take n (upper_of quoted)) _ (upper_of quoted) refl
      (λ (_ : ((fields_in quoted.walked.fragment).offset == 0) ≡ true).
      upper_to_4-take quoted.walked.upper (ends_of6 source destination quoted.packet) quoted.sent n (upper_of quoted) enough)
      (λ (_ : ((fields_in quoted.walked.fragment).offset == 0) ≡ false). refl)

  -- and those behind stay
  behind-stays : drop 20 (quoted_upper_to_4 source destination quoted) ≡ drop 20 (upper_of quoted)
  behind-stays =
      let upper : List ℕ = quoted_upper_to_4 source destination quoted in
      let at_18 : drop 18 upper ≡ drop 18 (upper_of quoted) =
      if-behind 18 ((fields_in quoted.walked.fragment).offset == 0) _ (upper_of quoted) (drop 18 (upper_of quoted))
      (λ (_ : ((fields_in quoted.walked.fragment).offset == 0) ≡ true).
      upper_to_4-behind quoted.walked.upper (ends_of6 source destination quoted.packet) quoted.sent (upper_of quoted)) refl in
      sym (drop-drop 2 18 upper) ∙ ap (drop 2) at_18 ∙ drop-drop 2 18 (upper_of quoted)

-- a part of a body
pub part-sums : (source destination limit header_len kept : ℕ) (tos_zero : Bool) (walked : Walked) (quote copied front written : List ℕ) (gone come g c : ℕ)
    → HasQuote6 walked quote → Planned64 walked quote limit header_len kept → 128 ≤ limit
    → written ≡ quote_head_to_4 source destination tos_zero (quoted6_fields walked quote)
    → copied ≡ take (min kept 20) (drop header_len quote) → front ≡ front_to_4 source destination copied (quoted6_fields walked quote)
    → IsPartDifference (drop header_len quote) (front ++ take (kept - 20) (drop 20 (drop header_len quote))) g c
    → gone ≡ (residue (take header_len quote) + g) % 65535 → come ≡ (residue written + c) % 65535
    → IsPartDifference quote (cut_to_4 source destination tos_zero limit walked quote) gone come
part-sums source destination limit header_len kept tos_zero walked quote copied front written gone come g c good plan enough is_written is_copied is_front difference is_gone is_come =
    let quoted : QuotedIpv6 = quoted6_fields walked quote in
    let upper : List ℕ = upper_of quoted in
    let moved : List ℕ = quoted_upper_to_4 source destination quoted in
    let heads : List ℕ = quote_head_to_4 source destination tos_zero quoted in
    let there : List ℕ = drop header_len quote in
    let m : ℕ = 40 + payload_length_in quote - header_len in
    let units = good.units in
    let is_upper : upper ≡ take m there = upper-is walked quote good.ordered ∙ ap (λ n. take (40 + payload_length_in quote - n) (drop n quote)) (sym plan.header_len) in
    let size = payload-length walked quote good.ordered in
    let most : kept ≤ m = omega (arith, plan.kept, plan.header_len) in
    let n : ℕ = min kept 20 in
    let first : copied ≡ take n upper = is_copied ∙ sym (ap (take n) is_upper ∙ take-take n m there (omega (arith, most))) in
    let all : kept < 20 → length upper ≡ kept = λ short. omega (arith, short, plan.kept, size, enough) in
    let taken : front ≡ take n moved =
    is_front ∙ ap (λ l. front_to_4 source destination l quoted) first
    ∙ front-moved (λ l. front_to_4 source destination l quoted) n upper (front-taken source destination quoted n) (upper-length-kept source destination quoted) (enough-kept kept (length upper) all) in
    let new : cut_to_4 source destination tos_zero limit walked quote ≡ heads ++ (front ++ take (kept - 20) (drop 20 there)) =
    quote-cut source destination limit header_len kept tos_zero walked quote good plan (omega (arith, enough))
    ∙ ap (λ l. heads ++ l) (kept-front moved upper there front kept m is_upper most (behind-stays source destination quoted) taken) in
    let head = length-take-le header_len quote (omega (arith, good.header, plan.header_len)) in
    subst (λ l. IsPartDifference quote l gone come) (sym new)
    (subst (λ l. IsPartDifference l (heads ++ (front ++ take (kept - 20) (drop 20 there))) gone come) (take-append-drop header_len quote)
    (residues-are (take header_len quote ++ there) (heads ++ (front ++ take (kept - 20) (drop 20 there))) gone come _ _
    is_gone (is_come ∙ ap (λ l. (residue l + c) % 65535) is_written)
    (headed (take header_len quote) heads there (front ++ take (kept - 20) (drop 20 there)) g c (omega (arith, head, plan.header_len, units)) refl difference)))

quote-bounded : (source destination : ℕ) (tos_zero : Bool) (walked : Walked) (quote : List ℕ) → HasQuote6 walked quote
    → length (quote_to_4 source destination tos_zero (quoted6_fields walked quote)) ≤ 65575
unfolding quote_to_4
quote-bounded source destination tos_zero walked quote good =
    let quoted : QuotedIpv6 = quoted6_fields walked quote in
    let upper : List ℕ = quoted_upper_to_4 source destination quoted in
    let size = upper-length-kept source destination quoted ∙ payload-length walked quote good.ordered in
    let whole = length-append (quote_head_to_4 source destination tos_zero quoted) upper in
    omega (arith, whole, size, good.fits, good.ordered)

padded-even : (len : ℕ) → (len + padding 4 len) % 2 ≡ 0
padded-even len = omega arith

-- a body without an extension: its quote isn't cut
pub sums-alone : (source destination gone come : ℕ) (tos_zero : Bool) (walked : Walked) (ext : Option ℕ) (body : List ℕ) → ext ≡ None → HasQuote6 walked body
    → IsPartDifference body (cut_to_4 source destination tos_zero 65575 walked body) gone come
    → IsDifference body (walked_body_to_4 source destination tos_zero walked ext body).bytes gone come
sums-alone source destination gone come tos_zero walked ext body none good difference =
    let made : List ℕ = quote_to_4 source destination tos_zero (quoted6_fields walked body) in
    subst (λ (e : Option ℕ). IsDifference body (walked_body_to_4 source destination tos_zero walked e body).bytes gone come) (sym none)
    (subst (λ l. IsDifference body l gone come) (take_all 65575 made (quote-bounded source destination tos_zero walked body good)) difference.last)

-- one with an extension
pub sums-extended : (source destination place from gone come : ℕ) (tos_zero : Bool) (walked : Walked) (ext : Option ℕ) (body : List ℕ) → ext ≡ Some place → from ≡ place → place % 2 ≡ 0
    → from ≤ length body → IsPartDifference (take from body) (cut_to_4 source destination tos_zero 1020 walked (take from body)) gone come
    → IsDifference body (walked_body_to_4 source destination tos_zero walked ext body).bytes gone come
sums-extended source destination place from gone come tos_zero walked ext body some is_from even inside difference =
    let extension : List ℕ = drop from body in
    let cut : List ℕ = cut_to_4 source destination tos_zero 1020 walked (take from body) in
    let new : (walked_body_to_4 source destination tos_zero walked ext body).bytes ≡ (cut ++ replicate (padding 4 (length cut)) 0) ++ extension =
    ap (λ (e : Option ℕ). (walked_body_to_4 source destination tos_zero walked e body).bytes) some
    ∙ ap (λ n. (extended_to_4 source destination tos_zero walked (take n body) (drop n body)).bytes) (sym is_from) in
    subst (λ l. IsDifference l (walked_body_to_4 source destination tos_zero walked ext body).bytes gone come) (take-append-drop from body)
    (subst (λ l. IsDifference (take from body ++ extension) l gone come) (sym new)
    (difference.before extension (padding 4 (length cut)) (omega (arith, length-take-le from body inside, is_from, even)) (padded-even (length cut))))
