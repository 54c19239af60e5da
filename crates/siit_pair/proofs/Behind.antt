-- Packets that come out behind two devices are read as they are written.
use Rattle.std.proofs.Common.{◌≡◌, ℕ, ◌+◌, ◌*◌, ◌<◌, ◌≤◌, List, [], ◌∷◌, ◌++◌, length, take, drop, replicate, map, All, Bool, true, false, not, ◌&&◌, ◌||◌, ◌==◌, nat_le, nat_lt, if◌then◌else◌, is_err, Option, Some, None, Result, Ok, Err, ◌∙◌, ap, sym, subst, refl, arith, eq-eqb, le-ltb}
use Rattle.std.proofs.lemmas.Bool.{cond_both, cond-false, cond-true, and_parts, and_right, eqb-true}
use Rattle.std.proofs.lemmas.List.{length-append, length-drop, length-replicate, length-take}
use Rattle.std.proofs.lemmas.List.Elements.{All-cons, All-head, All-map, All-nil, All-tail}
use Rattle.siit_model.specs.Bytes.{field8}
use Rattle.siit_model.specs.Checksum.{pseudo6, residue}
use Rattle.siit_model.specs.Extensions.{FragmentFields, Walked, Trouble, walk_of}
use Rattle.siit_model.specs.Fragments.{Common, Datagram, Fragment, fragment_by, is_whole, packet4}
use Rattle.siit_model.specs.Ipv4.{Ipv4Packet, header_length_in, ipv4_bytes, ipv4_bytes_as, ipv4_fields, ipv4_header, ipv4_of, total_length4, total_length_in, version_in}
use Rattle.siit_model.specs.Ipv6.{ipv6_fields, payload_length_in}
use Rattle.siit_checksum.proofs.Residues.{is_right-with_checksum}
use Rattle.siit_fragments.specs.Covers.{IsFragmentOf}
use Rattle.siit_fragments.specs.Pieces.{blocks_of, piece_of, pieces_of}
use Rattle.siit_fragments.proofs.Pieces.{All-pieces, piece-length}
use Rattle.siit_icmp.specs.Icmp.{icmp_to_4}
use Rattle.siit_icmp.specs.declared.kinds.NewKind.{NewKind}
use Rattle.siit_icmp.specs.declared.kinds.Rest.{Rest}
use Rattle.siit_icmp.specs.declared.kinds.Rest.TheVariants.{Same, Zero, Mtu, Pointer, PointerSix, Length}
use Rattle.siit_map.specs.Mapping.{ipv4_for}
use Rattle.siit_quoted.specs.Bodies.{Body, NewBody, carried_to_4, has_extension, joined_to_4, length_octet6, padded, padding, part_of, parted}
use Rattle.siit_quoted.specs.Errors.{error_moved, part_to_4, quote_by_walk}
use Rattle.siit_quoted.specs.Quoted.{QuotedIpv6, quoted6_fields}
use Rattle.siit_quoted.specs.Quotes.{quote_to_4, quoted_packet_to_4}
use Rattle.siit_rules.specs.declared.rule.Rule.{Rule}
use Rattle.siit_roles.specs.declared.settings.Settings.{Settings}
use Rattle.siit_v6to4.specs.Laws.{IsHeader4}
use Rattle.siit_v6to4.specs.To4.{df_for, ends_to_4, identification, walk_in}
use Rattle.siit_v6to4.proofs.Good.{to_4-length}
use Rattle.siit_v6to4.proofs.Written.{fields-written, length-written, total_length-written}
use Rattle.siit_device.specs.Addresses.{to4}
use Rattle.siit_device.specs.Arrival6.{Arrived, is_error6, quoted_part6}
use Rattle.siit_device.specs.Backward.{error_by4, error_to_4, head4_for, is_sent_cut4, new_body4, packets_to_4, pieces4, rest_to_4, sent4, source_to_4, translated4, whole4}
use Rattle.siit_cutting.specs.Laws.{Numbered, given_by, given_to_4}

-- READING WHAT IS WRITTEN

-- the fields of a fragment that a header has room for, and a length that a packet has
pub record FitsBehind (f : Fragment) : Type 0 where
  pub id : f.id < 65536
  pub source : f.common.source < 4294967296
  pub destination : f.common.destination < 4294967296
  pub inside : 8 * f.offset + length f.bytes ≤ 65515

abbrev pub IsReadBack : Ipv4Packet → Type 0
IsReadBack p = ipv4_of (ipv4_bytes p) ≡ Some p

tests-pass : (no_header is_four enough cut_header cut low over is_right : Bool) (packet : Ipv4Packet)
    → no_header ≡ false → is_four ≡ true → enough ≡ true → cut_header ≡ false → cut ≡ false → low ≡ false → over ≡ false → is_right ≡ true
    → (if (no_header || ((is_four && enough) && (cut_header || cut))) || (((not is_four || low) || over) || not is_right) then None else Some packet) ≡ Some packet
tests-pass no_header is_four enough cut_header cut low over is_right packet a b c d e f g h = rw (a, b, c, d, e, f, g, h) refl

flag-small : (flag : Bool) → (if flag then 1 else 0) < 2
flag-small true = omega arith
flag-small false = omega arith

read-fragment4 : (df : ℕ) (f : Fragment) → df < 2 → f.offset < 8192 → f.id < 65536 → f.common.source < 4294967296 → f.common.destination < 4294967296
    → 20 + length f.bytes ≤ 65535 → IsReadBack (packet4 df f)
read-fragment4 df f small_df small_offset small_id small_source small_destination fits =
    let p : Ipv4Packet = packet4 df f in
    let bytes : List ℕ = ipv4_bytes p in
    let len : ℕ = total_length4 p in
    let is : IsHeader4 p = record {
      id = small_id;
      df = small_df;
      mf = flag-small f.more;
      offset = small_offset;
      source = small_source;
      destination = small_destination;
      whole_words = refl;
      few_options = omega arith;
    } in
    let small : len < 65536 = omega arith in
    let total : total_length_in bytes ≡ len = total_length-written len p small in
    let size : length bytes ≡ len = length-written len p in
    let header : header_length_in bytes ≡ 20 = refl in
    let right : residue (take (header_length_in bytes) bytes) ≡ 0 = is_right-with_checksum (ipv4_header len p 0) 10 refl (omega arith) in
    tests-pass (nat_lt (length bytes) 20) (version_in bytes == 4) (nat_le 20 (header_length_in bytes)) (nat_lt (length bytes) (header_length_in bytes))
    (nat_lt (length bytes) (total_length_in bytes)) (nat_lt (header_length_in bytes) 20) (nat_lt (total_length_in bytes) (header_length_in bytes))
    (residue (take (header_length_in bytes) bytes) == 0) (ipv4_fields bytes)
    (le-ltb (length bytes) 20 (omega (arith, size))) refl refl (le-ltb (length bytes) (header_length_in bytes) (omega (arith, size)))
    (le-ltb (length bytes) (total_length_in bytes) (omega (arith, size, total))) refl
    (le-ltb (total_length_in bytes) (header_length_in bytes) (omega (arith, total)))
    (eq-eqb (residue (take (header_length_in bytes) bytes)) 0 right)
    ∙ ap (λ q. Some q) (fields-written len p is (omega arith) small)

-- LENGTHS OF ICMPV4 ERRORS

take-most : (n : ℕ) (xs : List ℕ) → length (take n xs) ≤ n
take-most n xs = omega (arith, length-take n xs)

taken-most : (n : ℕ) (xs : List ℕ) → length (take n xs) ≤ length xs
taken-most n xs = omega (arith, length-take n xs)

dropped-most : (n : ℕ) (xs : List ℕ) → length (drop n xs) ≤ length xs
dropped-most n xs = omega (arith, length-drop n xs)

rest-most : (settings : Settings) (rest : Rest) (octet : ℕ) (message : List ℕ) → length (rest_to_4 settings rest octet message) ≤ 4
rest-most settings Same octet message = take-most 4 (drop 4 message)
rest-most settings Zero octet message = omega arith
rest-most settings Length octet message = omega arith
rest-most settings Mtu octet message = omega arith
rest-most settings Pointer octet message = omega arith
rest-most settings PointerSix octet message = omega arith

chain : (a b c : ℕ) → a ≤ b → b ≤ c → a ≤ c
chain a b c one two = omega arith

body-most : (bytes : List ℕ) → length (ipv6_fields bytes).body ≤ length bytes
body-most bytes = chain (length (ipv6_fields bytes).body) (length (drop 40 bytes)) (length bytes) (taken-most (payload_length_in bytes) (drop 40 bytes)) (dropped-most 40 bytes)

quote-most : (source destination : ℕ) (zero : Bool) (walked : Walked) (bytes : List ℕ) → length (quote_to_4 source destination zero (quoted6_fields walked bytes)) ≤ 20 + length bytes
unfolding quote_to_4
quote-most source destination zero walked bytes =
    let quoted : QuotedIpv6 = quoted6_fields walked bytes in
    let f : Fragment = fragment_by quoted.packet walked in
    let p : Ipv4Packet = quoted_packet_to_4 source destination zero quoted in
    summed (length (ipv4_bytes_as (20 + quoted.sent) p)) (length p.payload) (length f.bytes) (length (ipv6_fields bytes).body) (length bytes)
    (length-written (20 + quoted.sent) p) (to_4-length _ quoted.sent f) (dropped-most walked.at (ipv6_fields bytes).body) (body-most bytes)
  where
    summed : (n a b c m : ℕ) → n ≡ 20 + 0 + a → a ≡ b → b ≤ c → c ≤ m → n ≤ 20 + m
    summed n a b c m is same less few = omega arith

walked-most : (source destination : ℕ) (zero : Bool) (bytes : List ℕ) (r : Result Walked Trouble)
    → length (quote_by_walk (λ walked. quote_to_4 source destination zero (quoted6_fields walked bytes)) r) ≤ 20 + length bytes
walked-most source destination zero bytes (Ok walked) = quote-most source destination zero walked bytes
walked-most source destination zero bytes (Err trouble) = omega arith

part-most : (octet : ℕ) (behind : List ℕ) → length (part_of 8 octet behind) ≤ length behind
part-most octet behind =
    cond_both (octet == 0) behind (take (octet * 8) behind) (λ l. length l ≤ length behind) (λ _. omega arith) (λ _. taken-most (octet * 8) behind)

padding-most : (len : ℕ) → len ≤ 1020 → len + padding 4 len ≤ 1023
padding-most len small = omega arith

extension-some : (test may : Bool) (behind extension : List ℕ)
    → (if test then Some behind else None) ≡ Some extension → extension ≡ behind
extension-some true may behind extension is = cc
extension-some false may behind extension is = cc

joined-most : (kind : ℕ) (found : Option (List ℕ)) (quote behind : List ℕ) → length behind ≤ 2351 → length quote ≤ 2371
    → ((extension : List ℕ) → found ≡ Some extension → length extension ≤ length behind) → length (joined_to_4 (carried_to_4 kind found) quote).bytes ≤ 3374
joined-most kind None quote behind few small there = omega arith
joined-most kind (Some extension) quote behind few small there =
    by-test ((kind == 3) || (kind == 11))
  where
    cut : List ℕ
    cut = take 1020 quote

    by-test : (test : Bool) → length (joined_to_4 (if test then Some extension else None) quote).bytes ≤ 3374
    by-test false = omega arith
    by-test true =
        summed (length extension) (length behind) (length (take 1020 quote)) (padding 4 (length (take 1020 quote))) (length (padded 4 (take 1020 quote)))
        (length (padded 4 (take 1020 quote) ++ extension)) few (there extension refl) (padding-most (length (take 1020 quote)) (take-most 1020 quote))
        (length-append (take 1020 quote) (replicate (padding 4 (length (take 1020 quote))) 0)
        ∙ ap (λ n. length (take 1020 quote) + n) (length-replicate (padding 4 (length (take 1020 quote))) 0))
        (length-append (padded 4 (take 1020 quote)) extension)
      where
        summed : (e b c p q r : ℕ) → b ≤ 2351 → e ≤ b → c + p ≤ 1023 → q ≡ c + p → r ≡ q + e → r ≤ 3374
        summed e b c p q r few less most is_q is_r = omega arith

moved-most : (old new kind code : ℕ) (rest : List ℕ) (body : NewBody) (message : List ℕ) → length rest ≤ 4 → length body.bytes ≤ 3374
    → length (error_moved old new kind code rest body message) ≤ 65515
moved-most old new kind code rest body message four most = omega (arith, four, most, length-append rest body.bytes)

error-by : (settings : Settings) (common : Common) (message : List ℕ) (r : Result NewKind Rule) → length message ≤ 2351
    → length (error_by4 settings common message r) ≤ 65515
error-by settings common message (Err rule) small = omega arith
error-by settings common message (Ok n) small =
    let body : NewBody = new_body4 settings n message in
    let octet : ℕ = length_octet6 message in
    let behind : List ℕ = drop 8 message in
    let few : length behind ≤ 2351 = chain (length behind) (length message) 2351 (dropped-most 8 message) small in
    let held : List ℕ = part_of 8 octet behind in
    let old : Body = parted 8 octet behind in
    let six = ipv6_fields (quoted_part6 message) in
    let quote : List ℕ = part_to_4 (to4 settings six.source) (to4 settings six.destination) settings.tos_zero held in
    let short : length quote ≤ 2371 =
    sum (length quote) (length held) (length behind) (walked-most (to4 settings six.source) (to4 settings six.destination) settings.tos_zero held (walk_in held)) (part-most octet behind) few in
    let most : length body.bytes ≤ 3374 =
    joined-most n.kind old.extension quote behind few short
    (λ extension is. subst (λ l. length l ≤ length behind) (sym (extension-some (has_extension 8 octet behind) true (drop (octet * 8) behind) extension is)) (dropped-most (octet * 8) behind)) in
    moved-most (pseudo6 common.source common.destination 58 (length message)) 0 n.kind n.code (rest_to_4 settings n.rest body.octet message) body message (rest-most settings n.rest body.octet message) most
  where
    sum : (q h b : ℕ) → q ≤ 20 + h → h ≤ b → b ≤ 2351 → q ≤ 2371
    sum q h b one two three = omega arith

error-most : (settings : Settings) (common : Common) (message : List ℕ) → length message ≤ 2351 → length (error_to_4 settings common message) ≤ 65515
unfolding error_to_4
error-most settings common message small = error-by settings common message (icmp_to_4 (field8 message 0) (field8 message 1)) small

-- THE FRAGMENT THAT IS SENT

at-zero : (n : ℕ) → n ≤ 65515 → 8 * 0 + n ≤ 65515
at-zero n small = omega arith

identified : (fields : Option FragmentFields) (number : ℕ) → identification fields number < 65536
identified None number = omega arith
identified (Some fields) number = omega arith

df-small : (fields : Option FragmentFields) (total : ℕ) → df_for fields total < 2
df-small None total = cond_both (nat_le total 1260) 0 1 (λ n. n < 2) (λ _. omega arith) (λ _. omega arith)
df-small (Some fields) total = omega arith

module _ (second : Settings) (e : Datagram) (id : ℕ) (mapped : is_err (ipv4_for second.mapping e.common.source) ≡ false)
    (small_source : to4 second e.common.source < 4294967296) (small_destination : to4 second e.common.destination < 4294967296)
    (short : length e.payload ≤ 65515) (error_short : (f : Fragment) → IsFragmentOf e id f → is_error6 f ≡ true → length f.bytes ≤ 2351) where
  -- what is known of the fragment that is sent
  fits : (number : ℕ) (f : Fragment) → IsFragmentOf e id f → number < 65536 → FitsBehind (translated4 second number f)
  fits number f of small =
      let unmapped : is_err (ipv4_for second.mapping f.common.source) ≡ false = subst (λ (c : Common). is_err (ipv4_for second.mapping c.source) ≡ false) (sym of.shares) mapped in
      let source : source_to_4 second number f ≡ to4 second f.common.source =
      cond-false (is_error6 f && is_err (ipv4_for second.mapping f.common.source)) _ (to4 second f.common.source) (and_right (is_error6 f) _ unmapped) in
      let inside : 8 * f.offset + length f.bytes ≤ length e.payload = of.slice.inside in
      record {
        id = small;
        source = subst (λ a. a < 4294967296) (sym source) (subst (λ (c : Common). to4 second c.source < 4294967296) (sym of.shares) small_source);
        destination = subst (λ (c : Common). to4 second c.destination < 4294967296) (sym of.shares) small_destination;
        inside = by-test (is_error6 f) refl
            (λ error.
            let start : f.offset ≡ 0 = at-start f error in
            subst (λ l. 8 * f.offset + length l ≤ 65515) (sym (cond-true (is_error6 f) (error_to_4 second f.common f.bytes) _ error))
            (subst (λ o. 8 * o + length (error_to_4 second f.common f.bytes) ≤ 65515) (sym start)
            (at-zero (length (error_to_4 second f.common f.bytes)) (error-most second f.common f.bytes (error_short f of error)))))
            (λ other.
            subst (λ l. 8 * f.offset + length l ≤ 65515) (sym (cond-false (is_error6 f) (error_to_4 second f.common f.bytes) _ other))
            (subst (λ n. 8 * f.offset + n ≤ 65515) (sym (to_4-length (ends_to_4 (head4_for second number f) f.common) (length f.bytes) f))
            (chain (8 * f.offset + length f.bytes) (length e.payload) 65515 inside short)));
      }
    where
      by-test : {X : Type 0} (b : Bool) {c : Bool} → c ≡ b → (c ≡ true → X) → (c ≡ false → X) → X
      by-test true is f g = f is
      by-test false is f g = g is

      at-start : (f : Fragment) → is_error6 f ≡ true → f.offset ≡ 0
      at-start f error =
          eqb-true f.offset 0 (and_parts (f.offset == 0) (not f.more) (and_parts (is_whole f) _ (and_parts (f.common.protocol == 58) _ error).1).0).0

  read-packets : (arrived : Arrived) (number : ℕ) → 68 ≤ second.mtu4 → IsFragmentOf e id (fragment_by arrived.packet arrived.walked)
      → (fragment_by arrived.packet arrived.walked).offset < 8192 → All IsReadBack (packets_to_4 second arrived number)
  read-packets arrived number mtu of small_offset =
      let f : Fragment = fragment_by arrived.packet arrived.walked in
      let g : Fragment = sent4 second arrived number in
      let fit : FitsBehind g = fits (identification arrived.walked.fragment number) f of (identified arrived.walked.fragment number) in
      let inside : 8 * f.offset + length g.bytes ≤ 65515 = fit.inside in
      All-if (is_sent_cut4 second arrived) (pieces4 second arrived number) (whole4 second arrived number ∷ [])
      (All-map IsReadBack (packet4 0) (pieces_of (blocks_of 20 second.mtu4) g)
      (All-pieces (λ h. IsReadBack (packet4 0 h)) (blocks_of 20 second.mtu4) g (omega arith)
      (λ k begins.
      let size = piece-length (blocks_of 20 second.mtu4) g k in
      read-fragment4 0 (piece_of (blocks_of 20 second.mtu4) g k) (omega arith) (omega arith) fit.id fit.source fit.destination (omega (arith, size)))))
      (All-cons IsReadBack (whole4 second arrived number) []
      (read-fragment4 (df_for arrived.walked.fragment (20 + length g.bytes)) g (df-small arrived.walked.fragment (20 + length g.bytes)) small_offset fit.id fit.source fit.destination (omega arith))
      (All-nil IsReadBack))
    where
      All-if : (test : Bool) (xs ys : List Ipv4Packet) → All IsReadBack xs → All IsReadBack ys → All IsReadBack (if test then xs else ys)
      All-if true xs ys one two = one
      All-if false xs ys one two = two

  pub behind-read : (x : Numbered) (walked : Walked) → walk_of x.0.next x.0.body ≡ Ok walked → 68 ≤ second.mtu4
      → IsFragmentOf e id (fragment_by x.0 walked) → (fragment_by x.0 walked).offset < 8192 → All IsReadBack (given_to_4 second x)
  behind-read x walked walk mtu of small =
      subst (λ r. All IsReadBack (given_by second x.0 x.1 r)) (sym walk)
      (read-packets (record { packet = x.0; walked = walked }) x.1 mtu of small)

-- all that is read, one by one
pub read-all_back : (packets : List Ipv4Packet) → All IsReadBack packets → map ipv4_of (map ipv4_bytes packets) ≡ map (λ p. Some p) packets
read-all_back [] each = refl
read-all_back (p ∷ packets) each =
    ap (λ o. o ∷ map ipv4_of (map ipv4_bytes packets)) (All-head IsReadBack p packets each)
    ∙ ap (λ l. Some p ∷ l) (read-all_back packets (All-tail IsReadBack p packets each))
