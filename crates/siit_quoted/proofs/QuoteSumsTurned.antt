-- What goes and comes where a quote is turned.
use Rattle.std.proofs.Common.{◌≡◌, ℕ, ◌+◌, ◌-◌, ◌%◌, ◌<◌, ◌≤◌, List, ◌++◌, length, min, take, drop, replicate, true, false, ◌==◌, Option, Some, None, ◌∙◌, ap, sym, subst, refl, arith, length-drop, take_all}
use Rattle.std.proofs.lemmas.List.{drop-drop, length-take-le, take-append-drop, take-take}
use Rattle.siit_model.specs.Bytes.{AreBytes, bytes128}
use Rattle.siit_model.specs.Checksum.{pseudo6, residue}
use Rattle.siit_model.specs.Extensions.{Walked}
use Rattle.siit_model.specs.Fragments.{fields_in}
use Rattle.siit_model.specs.Ipv6.{Ipv6Packet, ipv6_fields, payload_length_in}
use Rattle.siit_v6to4.specs.Turns.{turned_upper}
use Rattle.siit_v6to4.proofs.Turned.{part-length}
use Rattle.siit_quoted.specs.Bodies.{padding}
use Rattle.siit_quoted.specs.Quoted.{HasQuote6, QuotedIpv6, quoted6_fields}
use Rattle.siit_quoted.specs.Quotes.{quote_turned}
use Rattle.siit_quoted.specs.Rewriting.{extended_turned, front_turned, quoted_upper_turned, walked_body_turned}
use Rattle.siit_quoted.specs.Sums.{IsDifference, IsPartDifference}
use Rattle.siit_quoted.proofs.Behind.{if-behind, turned-behind}
use Rattle.siit_quoted.proofs.Cuts.{chosen-take, turned_upper-take}
use Rattle.siit_quoted.proofs.Ends.{upper_of}
use Rattle.siit_quoted.proofs.Fronts.{enough-kept, front-moved, kept-front}
use Rattle.siit_quoted.proofs.PartSums.{headed, residues-are, staying}
use Rattle.siit_quoted.proofs.Quotes46.{is_first}
use Rattle.siit_quoted.proofs.Quotes64.{payload-length, upper-is}
use Rattle.siit_quoted.proofs.TurnedQuotes.{turned-parts}

-- the first bytes of a packet or of a first fragment, their checksum moved
pub front-first : (source destination : ℕ) (walked : Walked) (quote bytes new : List ℕ) (sent old_source old_destination : ℕ) → ((fields_in walked.fragment).offset == 0) ≡ true
    → sent ≡ payload_length_in quote - walked.at → old_source ≡ (ipv6_fields quote).source → old_destination ≡ (ipv6_fields quote).destination
    → new ≡ turned_upper walked.upper (pseudo6 old_source old_destination walked.upper sent) (pseudo6 source destination walked.upper sent) bytes
    → new ≡ front_turned source destination bytes (quoted6_fields walked quote)
front-first source destination walked quote bytes new sent old_source old_destination first is_sent is_source is_destination is_new =
    let packet : Ipv6Packet = ipv6_fields quote in
    let moved = λ (s d n : ℕ). turned_upper walked.upper (pseudo6 s d walked.upper n) (pseudo6 source destination walked.upper n) bytes in
    is_new
    ∙ ap (λ s. moved s old_destination sent) is_source ∙ ap (λ d. moved packet.source d sent) is_destination ∙ ap (moved packet.source packet.destination) is_sent
    ∙ sym (is_first ((fields_in walked.fragment).offset == 0) (moved packet.source packet.destination (payload_length_in quote - walked.at)) bytes first)

module _ (source destination : ℕ) (quoted : QuotedIpv6) where
  -- enough of the first bytes, turned, are the first bytes of the turned upper part
  front-taken : (n : ℕ) → 18 ≤ n → front_turned source destination (take n (upper_of quoted)) quoted ≡ take n (quoted_upper_turned source destination quoted)
  front-taken n enough =
      chosen-take n ((fields_in quoted.walked.fragment).offset == 0) ((fields_in quoted.walked.fragment).offset == 0) _ (take n (upper_of quoted)) _ (upper_of quoted) refl
      (λ (_ : ((fields_in quoted.walked.fragment).offset == 0) ≡ true). turned_upper-take quoted.walked.upper _ _ n (upper_of quoted) enough)
      (λ (_ : ((fields_in quoted.walked.fragment).offset == 0) ≡ false). refl)

  -- and those behind stay
  behind-stays : drop 20 (quoted_upper_turned source destination quoted) ≡ drop 20 (upper_of quoted)
  behind-stays =
      let upper : List ℕ = quoted_upper_turned source destination quoted in
      let at_18 : drop 18 upper ≡ drop 18 (upper_of quoted) =
      if-behind 18 ((fields_in quoted.walked.fragment).offset == 0) _ (upper_of quoted) (drop 18 (upper_of quoted))
      (λ (_ : ((fields_in quoted.walked.fragment).offset == 0) ≡ true). turned-behind quoted.walked.upper _ _ (upper_of quoted)) refl in
      sym (drop-drop 2 18 upper) ∙ ap (drop 2) at_18 ∙ drop-drop 2 18 (upper_of quoted)

  upper-length : length (quoted_upper_turned source destination quoted) ≡ length (upper_of quoted)
  upper-length = part-length _ _ quoted.walked (upper_of quoted)

-- a quote in its parts
quote-parts : (quote : List ℕ) (at header_len : ℕ) → header_len ≡ 40 + at
    → quote ≡ take 8 quote ++ (take 32 (drop 8 quote) ++ (take at (drop 40 quote) ++ drop header_len quote))
quote-parts quote at header_len is =
    let last : drop at (drop 40 quote) ≡ drop header_len quote = drop-drop at 40 quote ∙ ap (λ n. drop n quote) (sym is) in
    let body : drop 40 quote ≡ take at (drop 40 quote) ++ drop header_len quote = sym (take-append-drop at (drop 40 quote)) ∙ ap (λ l. take at (drop 40 quote) ++ l) last in
    let behind : drop 8 quote ≡ take 32 (drop 8 quote) ++ (take at (drop 40 quote) ++ drop header_len quote) =
    sym (take-append-drop 32 (drop 8 quote)) ∙ ap (λ l. take 32 (drop 8 quote) ++ l) (drop-drop 32 8 quote ∙ body) in
    sym (take-append-drop 8 quote) ∙ ap (λ l. take 8 quote ++ l) behind

-- a part of a body
pub part-sums : (source destination header_len kept : ℕ) (walked : Walked) (quote copied front : List ℕ) (gone come read written g c : ℕ)
    → AreBytes quote → HasQuote6 walked quote → header_len ≡ 40 + walked.at → kept ≡ min (length quote) (40 + payload_length_in quote) - header_len
    → copied ≡ take (min kept 20) (drop header_len quote) → front ≡ front_turned source destination copied (quoted6_fields walked quote)
    → IsPartDifference (drop header_len quote) (front ++ take (kept - 20) (drop 20 (drop header_len quote))) g c
    → read ≡ residue (take 32 (drop 8 quote)) → written ≡ residue (bytes128 source ++ bytes128 destination)
    → gone ≡ (read + g) % 65535 → come ≡ (written + c) % 65535
    → IsPartDifference quote (quote_turned source destination (quoted6_fields walked quote)) gone come
part-sums source destination header_len kept walked quote copied front gone come read written g c small good is_header is_kept is_copied is_front difference is_read is_written is_gone is_come =
    let quoted : QuotedIpv6 = quoted6_fields walked quote in
    let upper : List ℕ = upper_of quoted in
    let moved : List ℕ = quoted_upper_turned source destination quoted in
    let there : List ℕ = drop header_len quote in
    let m : ℕ = 40 + payload_length_in quote - header_len in
    let is_upper : upper ≡ take m there = upper-is walked quote good.ordered ∙ ap (λ n. take (40 + payload_length_in quote - n) (drop n quote)) (sym is_header) in
    let size : length upper ≡ kept = payload-length walked quote good.ordered ∙ ap (λ n. min (length quote) (40 + payload_length_in quote) - n) (sym is_header) ∙ sym is_kept in
    let most : kept ≤ m = omega (arith, is_kept) in
    let n : ℕ = min kept 20 in
    let first : copied ≡ take n upper = is_copied ∙ sym (ap (take n) is_upper ∙ take-take n m there (omega (arith, most))) in
    let taken : front ≡ take n moved =
    is_front ∙ ap (λ l. front_turned source destination l quoted) first
    ∙ front-moved (λ l. front_turned source destination l quoted) n upper (front-taken source destination quoted n) (upper-length source destination quoted)
    (enough-kept kept (length upper) (λ (_ : kept < 20). size)) in
    let all : moved ≡ front ++ take (kept - 20) (drop 20 there) =
    sym (take_all kept moved (at-most (length moved) kept (upper-length source destination quoted ∙ size)))
    ∙ kept-front moved upper there front kept m is_upper most (behind-stays source destination quoted) taken in
    let upper_difference : IsPartDifference there moved g c = subst (λ l. IsPartDifference there l g c) (sym all) difference in
    let body : List ℕ = take walked.at (drop 40 quote) in
    let old_addresses : List ℕ = take 32 (drop 8 quote) in
    let addresses : List ℕ = bytes128 source ++ bytes128 destination in
    let units = good.units in
    let size_1 = length-take-le walked.at (drop 40 quote) (omega (arith, good.header, length-drop 40 quote)) in
    let size_2 = length-take-le 32 (drop 8 quote) (omega (arith, good.header, length-drop 8 quote)) in
    let size_3 = length-take-le 8 quote (omega (arith, good.header)) in
    subst (λ l. IsPartDifference l (quote_turned source destination quoted) gone come) (sym (quote-parts quote walked.at header_len is_header))
    (subst (λ l. IsPartDifference (take 8 quote ++ (old_addresses ++ (body ++ there))) l gone come) (sym (turned-parts source destination walked quote small good))
    (residues-are (take 8 quote ++ (old_addresses ++ (body ++ there))) (take 8 quote ++ (addresses ++ (body ++ moved))) gone come _ _
    (is_gone ∙ ap (λ x. (x + g) % 65535) is_read) (is_come ∙ ap (λ x. (x + c) % 65535) is_written)
    (staying (take 8 quote) (old_addresses ++ (body ++ there)) (addresses ++ (body ++ moved)) _ _ (omega (arith, size_3))
    (headed old_addresses addresses (body ++ there) (body ++ moved) g c (omega (arith, size_2)) refl
    (staying body there moved g c (omega (arith, size_1, units)) upper_difference)))))
  where
    at-most : (a b : ℕ) → a ≡ b → a ≤ b
    at-most a b is = omega arith

padded-even : (len : ℕ) → (len + padding 8 len) % 2 ≡ 0
padded-even len = omega arith

-- a body without an extension
pub sums-alone : (source destination gone come : ℕ) (walked : Walked) (ext : Option ℕ) (body : List ℕ) → ext ≡ None
    → IsPartDifference body (quote_turned source destination (quoted6_fields walked body)) gone come
    → IsDifference body (walked_body_turned source destination walked ext body).bytes gone come
sums-alone source destination gone come walked ext body none difference =
    subst (λ (e : Option ℕ). IsDifference body (walked_body_turned source destination walked e body).bytes gone come) (sym none) difference.last

-- one with an extension
pub sums-extended : (source destination place from gone come : ℕ) (walked : Walked) (ext : Option ℕ) (body : List ℕ) → ext ≡ Some place → from ≡ place → place % 8 ≡ 0 → from ≤ length body
    → IsPartDifference (take from body) (quote_turned source destination (quoted6_fields walked (take from body))) gone come
    → IsDifference body (walked_body_turned source destination walked ext body).bytes gone come
sums-extended source destination place from gone come walked ext body some is_from units inside difference =
    let extension : List ℕ = drop from body in
    let turned : List ℕ = quote_turned source destination (quoted6_fields walked (take from body)) in
    let new : (walked_body_turned source destination walked ext body).bytes ≡ (turned ++ replicate (padding 8 (length turned)) 0) ++ extension =
    ap (λ (e : Option ℕ). (walked_body_turned source destination walked e body).bytes) some
    ∙ ap (λ n. (extended_turned source destination walked (take n body) (drop n body)).bytes) (sym is_from) in
    subst (λ l. IsDifference l (walked_body_turned source destination walked ext body).bytes gone come) (take-append-drop from body)
    (subst (λ l. IsDifference (take from body ++ extension) l gone come) (sym new)
    (difference.before extension (padding 8 (length turned)) (omega (arith, length-take-le from body inside, is_from, units)) (padded-even (length turned))))
