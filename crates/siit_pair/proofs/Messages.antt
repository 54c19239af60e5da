-- ICMP errors behind two devices: the message is what both make of it, and its residue stays.
use Rattle.std.proofs.Common.{◌≡◌, ℕ, ◌+◌, ◌*◌, ◌%◌, ◌<◌, ◌≤◌, List, [], ◌∷◌, ◌++◌, length, take, drop, Bool, true, false, ◌&&◌, ◌==◌, if◌then◌else◌, is_none, is_ok, is_some, unwrap_or, Option, Some, None, Result, Ok, option_and_then, ◌∙◌, ap, sym, refl, arith, eq-eqb}
use Rattle.std.specs.Int.{byte_at}
use Rattle.std.specs.Result.{result_err}
use Rattle.std.proofs.lemmas.Bool.{cond-true, and_from}
use Rattle.std.proofs.lemmas.List.{length-take-le, length-drop, length-append}
use Rattle.siit_model.specs.Bytes.{bytes16, part, field8, field16, field32}
use Rattle.siit_model.specs.Checksum.{moved, pseudo6, residue, words_sum}
use Rattle.siit_model.specs.Fragments.{Common, datagram4, is_whole, whole_of}
use Rattle.siit_model.specs.Ipv4.{Ipv4Packet, ipv4_fields}
use Rattle.siit_model.specs.Ipv6.{ipv6_fields}
use Rattle.siit_checksum.proofs.Digits.{two-read}
use Rattle.siit_icmp.specs.Errors.{is_error_kind4, is_error_kind6}
use Rattle.siit_icmp.specs.Icmp.{icmp_to_4, icmp_to_6, mtu_to_4, pointer_to_4}
use Rattle.siit_icmp.specs.declared.kinds.NewKind.{NewKind}
use Rattle.siit_icmp.specs.declared.kinds.Rest.{Rest}
use Rattle.siit_icmp.specs.declared.kinds.Rest.TheVariants.{Same, Zero, Mtu, Pointer, PointerSix, Length}
use Rattle.siit_map.specs.Mapping.{ipv4_for, ipv6_for}
use Rattle.siit_quoted.specs.Bodies.{NewBody, carried_to_4, joined_to_4, length_octet6, part_of, parted}
use Rattle.siit_quoted.specs.Errors.{error_moved, part_to_4}
use Rattle.siit_quoted.specs.Refusals.{quote_refusal4, quote_refusal6}
use Rattle.siit_rules.specs.declared.rule.Rule.{Rule}
use Rattle.siit_rules.specs.declared.rule.Rule.TheVariants.{IcmpCode4, IcmpType4}
use Rattle.siit_roles.specs.declared.settings.Settings.{Settings}
use Rattle.siit_v4to6.specs.To6.{next_header_of}
use Rattle.siit_device.specs.Addresses.{to4, to6}
use Rattle.siit_device.specs.Arrival4.{quoted_part4}
use Rattle.siit_device.specs.Arrival6.{is_error6, quoted_part6}
use Rattle.siit_device.specs.Backward.{error_by4, error_to_4, new_body4, rest_to_4}
use Rattle.siit_device.specs.Forward.{error_by6, error_to_6, is_error_fragment4, new_body6, rest_to_6}
use Rattle.siit_device.specs.Rows.{is_by}
use Rattle.siit_device.proofs.ErrorKinds.{Becomes, kinds6}
use Rattle.siit_pair.specs.Across.{across, between}
use Rattle.siit_pair.specs.Same.{error_backward, error_behind, error_forward, error_if4, error_if6, has_pointer4, has_pointer6, is_mapped4, is_mapped6, is_same_error, is_the_message, is_translated4, is_translated6, unsummed, unsummed_error4, unsummed_error6}
use Rattle.siit_pair.proofs.Conditions4.{HasQuote4}
use Rattle.siit_pair.proofs.Conditions6.{HasQuote6, HasUpper6}
use Rattle.siit_pair.proofs.Payloads.{equal-bytes}

-- LENGTHS

pub rest6-length : (settings : Settings) (rest : Rest) (octet : ℕ) (message : List ℕ) → 8 ≤ length message → length (rest_to_6 settings rest octet message) ≡ 4
rest6-length settings Same octet message long = length-take-le 4 (drop 4 message) (omega (arith, length-drop 4 message))
rest6-length settings Zero octet message long = refl
rest6-length settings Length octet message long = refl
rest6-length settings Mtu octet message long = refl
rest6-length settings Pointer octet message long = refl
rest6-length settings PointerSix octet message long = refl

pub rest4-length : (settings : Settings) (rest : Rest) (octet : ℕ) (message : List ℕ) → 8 ≤ length message → length (rest_to_4 settings rest octet message) ≡ 4
rest4-length settings Same octet message long = length-take-le 4 (drop 4 message) (omega (arith, length-drop 4 message))
rest4-length settings Zero octet message long = refl
rest4-length settings Length octet message long = refl
rest4-length settings Mtu octet message long = refl
rest4-length settings Pointer octet message long = refl
rest4-length settings PointerSix octet message long = refl

-- a message by its type, code, checksum and what follows
abbrev pub message-of : (kind code checksum : ℕ) → List ℕ → List ℕ
message-of kind code checksum rest = kind ∷ code ∷ bytes16 checksum ++ rest

-- RESIDUES

moved-residue : (old new a b w c : ℕ) → c ≡ moved w ((old + a % 65535) % 65535) ((new + b % 65535) % 65535)
    → (new + (b + c) % 65535) % 65535 ≡ (old + (a + w) % 65535) % 65535
moved-residue old new a b w c is = omega arith

moved-small : (c old new : ℕ) → moved c old new < 65536
moved-small c old new = omega arith

sum-of : (k c checksum : ℕ) (rest : List ℕ) → checksum < 65536 → words_sum (message-of k c checksum rest) ≡ words_sum (k ∷ c ∷ 0 ∷ 0 ∷ rest) + checksum
sum-of k c checksum rest small =
    let read : byte_at 1 checksum * 256 + byte_at 0 checksum ≡ checksum = two-read checksum small in
    summed (k * 256 + c) (byte_at 1 checksum * 256) (byte_at 0 checksum) (words_sum rest) checksum read
  where
    summed : (kc h l x n : ℕ) → h + l ≡ n → kc + (h + l + x) ≡ kc + (0 * 256 + 0 + x) + n
    summed kc h l x n is = omega arith

-- pseudo-header and message have one residue before and after
pub error-residue : (old new kind code : ℕ) (rest : List ℕ) (body : NewBody) (message : List ℕ) → 4 ≤ length message
    → (new + residue (error_moved old new kind code rest body message)) % 65535 ≡ (old + residue message) % 65535
error-residue old new kind code rest body [] long = absurd (omega arith)
error-residue old new kind code rest body (a ∷ []) long = absurd (omega arith)
error-residue old new kind code rest body (a ∷ b ∷ []) long = absurd (omega arith)
error-residue old new kind code rest body (a ∷ b ∷ x ∷ []) long = absurd (omega arith)
error-residue old new kind code rest body (a ∷ b ∷ x ∷ y ∷ t) long =
    let message : List ℕ = a ∷ b ∷ x ∷ y ∷ t in
    let blank : List ℕ = kind ∷ code ∷ 0 ∷ 0 ∷ rest ++ body.bytes in
    let empty : List ℕ = a ∷ b ∷ 0 ∷ 0 ∷ t in
    let c : ℕ = moved (x * 256 + y) ((old + residue empty) % 65535) ((new + residue blank) % 65535) in
    ap (λ n. (new + n % 65535) % 65535) (sum-of kind code c (rest ++ body.bytes) (moved-small (x * 256 + y) ((old + residue empty) % 65535) ((new + residue blank) % 65535)))
    ∙ moved-residue old new (words_sum empty) (words_sum blank) (x * 256 + y) c refl
    ∙ ap (λ n. (old + n % 65535) % 65535) (swapped (a * 256 + b) (x * 256) y (words_sum t))
  where
    swapped : (ab h l s : ℕ) → ab + (0 * 256 + 0 + s) + (h + l) ≡ ab + (h + l + s)
    swapped ab h l s = omega arith

four-of : (n : ℕ) → 8 ≤ n → 4 ≤ n
four-of n long = omega arith

-- KINDS

by-none : (rule : Rule) (r : Result NewKind Rule) (n : NewKind) → r ≡ Ok n → is_by rule (result_err r) ≡ false
by-none rule r n is = rw is refl

inside : (n m : NewKind) → (r : Result NewKind Rule) → r ≡ Ok n → r ≡ Ok m → n ≡ m
inside n m r is other = cc

pub error-kind6 : (kind code : ℕ) (n : NewKind) → is_error_kind4 kind ≡ true → icmp_to_6 kind code ≡ Ok n → is_error_kind6 n.kind ≡ true
error-kind6 kind code n error is =
    let becomes : Becomes is_error_kind6 (icmp_to_6 kind code) =
    kinds6 kind code error (by-none IcmpType4 (icmp_to_6 kind code) n is) (by-none IcmpCode4 (icmp_to_6 kind code) n is) in
    ap (λ (m : NewKind). is_error_kind6 m.kind) (inside n becomes.0 (icmp_to_6 kind code) is becomes.1.0) ∙ becomes.1.1

-- the checksum isn't read
module _ (settings : Settings) (k c a b x y : ℕ) (t : List ℕ) where
  abbrev one : List ℕ
  one = k ∷ c ∷ a ∷ b ∷ t

  abbrev other : List ℕ
  other = k ∷ c ∷ x ∷ y ∷ t

  octet-any : length_octet6 one ≡ length_octet6 other
  octet-any = refl

  behind-any : drop 8 one ≡ drop 8 other
  behind-any = refl

  field-any : field32 one 4 ≡ field32 other 4
  field-any = refl

  words-any : part one 4 4 ≡ part other 4 4
  words-any = refl

  part-any : quoted_part6 one ≡ quoted_part6 other
  part-any = ap (λ o. part_of 8 o (drop 8 one)) octet-any ∙ ap (λ l. part_of 8 (length_octet6 other) l) behind-any

  pointer-any : (rest : Rest) → has_pointer4 rest one ≡ has_pointer4 rest other
  pointer-any Same = refl
  pointer-any Zero = refl
  pointer-any Mtu = refl
  pointer-any Pointer = ap (λ n. is_some (pointer_to_4 n)) field-any
  pointer-any PointerSix = refl
  pointer-any Length = refl

  rest-any : (rest : Rest) (octet : ℕ) → rest_to_4 settings rest octet one ≡ rest_to_4 settings rest octet other
  rest-any Same octet = words-any
  rest-any Zero octet = refl
  rest-any Mtu octet = ap (λ n. 0 ∷ 0 ∷ bytes16 (mtu_to_4 n settings.mtu4 settings.mtu6)) field-any
  rest-any Pointer octet = ap (λ n. unwrap_or (pointer_to_4 n) 0 ∷ 0 ∷ 0 ∷ 0 ∷ []) field-any
  rest-any PointerSix octet = refl
  rest-any Length octet = refl

  abbrev new_body : (kind octet : ℕ) → (part behind : List ℕ) → NewBody
  new_body kind octet part behind =
      let quoted = ipv6_fields part in
      let old = parted 8 octet behind in
      joined_to_4 (carried_to_4 kind old.extension) (part_to_4 (to4 settings quoted.source) (to4 settings quoted.destination) settings.tos_zero old.part)

  body-any : (m : NewKind) → new_body4 settings m one ≡ new_body4 settings m other
  body-any m =
      ap (λ p. new_body m.kind (length_octet6 one) p (drop 8 one)) part-any
      ∙ ap (λ o. new_body m.kind o (quoted_part6 other) (drop 8 one)) octet-any
      ∙ ap (λ l. new_body m.kind (length_octet6 other) (quoted_part6 other) l) behind-any

  translated-any : (m : NewKind) → is_translated4 settings m one ≡ is_translated4 settings m other
  translated-any m =
      ap (λ p. p && is_none (quote_refusal6 (quoted_part6 one)) && is_mapped4 settings (ipv6_fields (quoted_part6 one))) (pointer-any m.rest)
      ∙ ap (λ l. has_pointer4 m.rest other && is_none (quote_refusal6 l) && is_mapped4 settings (ipv6_fields l)) part-any

  made-any : (m : NewKind) → unsummed_error4 settings m one ≡ unsummed_error4 settings m other
  made-any m =
      ap (λ (n : NewBody). m.kind ∷ m.code ∷ 0 ∷ 0 ∷ rest_to_4 settings m.rest n.octet one ++ n.bytes) (body-any m)
      ∙ ap (λ r. m.kind ∷ m.code ∷ 0 ∷ 0 ∷ r ++ (new_body4 settings m other).bytes) (rest-any m.rest (new_body4 settings m other).octet)

if-so : (test : Bool) (message : List ℕ) → test ≡ true → (if test then Some message else None) ≡ Some message
if-so test message is = rw is refl

behind-by : (settings : Settings) (k c a b x y : ℕ) (t : List ℕ) (m : NewKind) → icmp_to_4 k c ≡ Ok m → is_translated4 settings m (k ∷ c ∷ x ∷ y ∷ t) ≡ true
    → error_backward settings (k ∷ c ∷ a ∷ b ∷ t) ≡ Some (unsummed_error4 settings m (k ∷ c ∷ x ∷ y ∷ t))
unfolding error_backward
behind-by settings k c a b x y t m is translated =
    ap (error_if4 settings (k ∷ c ∷ a ∷ b ∷ t)) is
    ∙ if-so (is_translated4 settings m (k ∷ c ∷ a ∷ b ∷ t)) (unsummed_error4 settings m (k ∷ c ∷ a ∷ b ∷ t)) (translated-any settings k c a b x y t m ∙ translated)
    ∙ ap Some (made-any settings k c a b x y t m)

ahead-by : (settings : Settings) (message : List ℕ) (n : NewKind) → icmp_to_6 (field8 message 0) (field8 message 1) ≡ Ok n → is_translated6 settings n message ≡ true
    → error_forward settings message ≡ Some (unsummed_error6 settings n message)
unfolding error_forward
ahead-by settings message n is translated =
    ap (error_if6 settings message) is ∙ if-so (is_translated6 settings n message) (unsummed_error6 settings n message) translated

-- ACROSS

none-is : {X : Type 0} (o : Option X) → o ≡ None → is_none o ≡ true
none-is o is = rw is refl

module _ (first second : Settings) (d : Ipv4Packet) (id : ℕ) (icmp : d.protocol ≡ 1) (whole : is_whole (whole_of (datagram4 d)) ≡ true)
    (kind_is : is_error_kind4 (field8 d.payload 0) ≡ true) (long : 8 ≤ length d.payload)
    (n : NewKind) (n_is : icmp_to_6 (field8 d.payload 0) (field8 d.payload 1) ≡ Ok n) where
  abbrev body : NewBody
  body = new_body6 first n d.payload

  abbrev rest : List ℕ
  rest = rest_to_6 first n.rest body.octet d.payload

  abbrev pseudo : ℕ
  pseudo = pseudo6 (to6 first d.source) (to6 first d.destination) 58 (8 + length body.bytes)

  -- the checksum between both devices
  abbrev pub checksum6 : ℕ
  checksum6 = moved (field16 d.payload 2) ((0 + residue (take 2 d.payload ++ 0 ∷ 0 ∷ drop 4 d.payload)) % 65535)
      ((pseudo + residue (n.kind ∷ n.code ∷ 0 ∷ 0 ∷ rest ++ body.bytes)) % 65535)

  abbrev pub middle : List ℕ
  middle = message-of n.kind n.code checksum6 (rest ++ body.bytes)

  pub forward : (between first d).payload ≡ middle
  unfolding error_to_6
  forward =
      cond-true (is_error_fragment4 (whole_of (datagram4 d))) (error_to_6 first (datagram4 d).common d.payload) _
      (and_from (d.protocol == 1) _ (eq-eqb d.protocol 1 icmp) (and_from (is_whole (whole_of (datagram4 d))) _ whole kind_is))
      ∙ ap (error_by6 first (datagram4 d).common d.payload) n_is

  pub middle-length : length middle ≡ 8 + length body.bytes
  middle-length = let four = rest6-length first n.rest body.octet d.payload long in omega (arith, four, length-append rest body.bytes)

  pub middle-error : is_error6 (whole_of (between first d)) ≡ true
  middle-error =
      and_from (next_header_of d.protocol == 58) _ (eq-eqb (next_header_of d.protocol) 58 (ap next_header_of icmp))
      (ap (λ l. is_error_kind6 (field8 l 0)) forward ∙ error-kind6 (field8 d.payload 0) (field8 d.payload 1) n kind_is n_is)

  -- behind the second
  module _ (accepted4 : HasQuote4 first d.payload) (pointer6 : has_pointer6 n.rest d.payload ≡ true)
      (upper6 : HasUpper6 middle) (accepted6 : HasQuote6 second middle) where
    abbrev common6 : Common
    common6 = (between first d).common

    abbrev m : NewKind
    m = upper6.kind

    abbrev body4 : NewBody
    body4 = new_body4 second m middle

    abbrev rest4 : List ℕ
    rest4 = rest_to_4 second m.rest body4.octet middle

    abbrev pseudo_old : ℕ
    pseudo_old = pseudo6 common6.source common6.destination 58 (length middle)

    abbrev pub checksum4 : ℕ
    checksum4 = moved (field16 middle 2) ((pseudo_old + residue (take 2 middle ++ 0 ∷ 0 ∷ drop 4 middle)) % 65535)
        ((0 + residue (m.kind ∷ m.code ∷ 0 ∷ 0 ∷ rest4 ++ body4.bytes)) % 65535)

    abbrev pub last : List ℕ
    last = message-of m.kind m.code checksum4 (rest4 ++ body4.bytes)

    pub backward : (across first second d id).payload ≡ last
    unfolding error_to_4
    backward =
        cond-true (is_error6 (whole_of (between first d))) (error_to_4 second common6 (between first d).payload) _ middle-error
        ∙ ap (λ l. error_to_4 second common6 l) forward
        ∙ ap (error_by4 second common6 middle) upper6.is

    pub last-long : 8 ≤ length last
    last-long = let four = rest4-length second m.rest body4.octet middle upper6.long in omega (arith, four, length-append rest4 body4.bytes)

    residue-same : residue last ≡ residue d.payload
    residue-same =
        let size : pseudo ≡ pseudo_old = ap (λ k. pseudo6 common6.source common6.destination 58 k) (sym middle-length) in
        let there : (pseudo + residue middle) % 65535 ≡ (0 + residue d.payload) % 65535 = error-residue 0 pseudo n.kind n.code rest body d.payload (four-of (length d.payload) long) in
        let back : (0 + residue last) % 65535 ≡ (pseudo_old + residue middle) % 65535 =
        error-residue pseudo_old 0 m.kind m.code rest4 body4 middle (four-of (length middle) upper6.long) in
        reduced (words_sum last) (words_sum d.payload) (back ∙ ap (λ p. (p + residue middle) % 65535) (sym size) ∙ there)
      where
        reduced : (x y : ℕ) → (0 + x % 65535) % 65535 ≡ (0 + y % 65535) % 65535 → x % 65535 ≡ y % 65535
        reduced x y is = omega arith

    translated6 : is_translated6 first n d.payload ≡ true
    translated6 =
        let part : List ℕ = quoted_part4 d.payload in
        and_from (has_pointer6 n.rest d.payload && is_none (quote_refusal4 part)) (is_mapped6 first (ipv4_fields part))
        (and_from (has_pointer6 n.rest d.payload) (is_none (quote_refusal4 part)) pointer6 (none-is (quote_refusal4 part) accepted4.accepted))
        (and_from (is_ok (ipv6_for first.mapping (ipv4_fields part).source)) (is_ok (ipv6_for first.mapping (ipv4_fields part).destination)) accepted4.source accepted4.destination)

    translated4 : is_translated4 second m middle ≡ true
    translated4 =
        let part : List ℕ = quoted_part6 middle in
        and_from (has_pointer4 m.rest middle && is_none (quote_refusal6 part)) (is_mapped4 second (ipv6_fields part))
        (and_from (has_pointer4 m.rest middle) (is_none (quote_refusal6 part)) upper6.pointer (none-is (quote_refusal6 part) accepted6.accepted))
        (and_from (is_ok (ipv4_for second.mapping (ipv6_fields part).source)) (is_ok (ipv4_for second.mapping (ipv6_fields part).destination)) accepted6.source accepted6.destination)

    -- the same with the checksum counted as zero
    abbrev unsummed6 : List ℕ
    unsummed6 = unsummed_error6 first n d.payload

    behind : error_behind first second d.payload ≡ Some (unsummed 2 last)
    behind =
        ap (option_and_then (error_backward second)) (ahead-by first d.payload n n_is translated6)
        ∙ behind-by second n.kind n.code 0 0 (byte_at 1 checksum6) (byte_at 0 checksum6) (rest ++ body.bytes) m upper6.is translated4

    pub error-across : is_same_error first second d.payload (across first second d id).payload ≡ true
    error-across =
        ap (λ l. is_same_error first second d.payload l) backward
        ∙ and_from (residue last == residue d.payload) _ (eq-eqb (residue last) (residue d.payload) residue-same)
        (ap (λ o. is_the_message o (unsummed 2 last)) behind ∙ equal-bytes (unsummed 2 last) (unsummed 2 last) refl)
