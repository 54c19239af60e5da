-- How long a packet is on the IPv4 side.
use Rattle.std.proofs.Common.{◌≡◌, ℕ, ◌+◌, ◌-◌, ◌*◌, ◌%◌, ◌≤◌, List, ◌∷◌, ◌++◌, length, min, take, drop, Bool, true, false, ◌&&◌, ◌||◌, ◌==◌, if◌then◌else◌, Some, None, Ok, ◌∙◌, ap, sym, refl, arith, length-append, length-drop}
use Rattle.std.proofs.lemmas.List.{length-take, length-take-le}
use Rattle.siit_model.specs.Bytes.{field8, field16, bytes16}
use Rattle.siit_model.specs.Checksum.{moved, pseudo6, residue}
use Rattle.siit_model.specs.Extensions.{Walked}
use Rattle.siit_model.specs.Fragments.{Common}
use Rattle.siit_model.specs.Ipv6.{ipv6_fields, payload_length_in}
use Rattle.siit_icmp.specs.Icmp.{icmp_to_4}
use Rattle.siit_icmp.specs.declared.kinds.NewKind.{NewKind}
use Rattle.siit_icmp.specs.declared.kinds.Rest.{Rest}
use Rattle.siit_icmp.specs.declared.kinds.Rest.TheVariants.{Same, Zero, Mtu, Pointer, PointerSix, Length}
use Rattle.siit_v6to4.specs.To4.{walk_in, ends_to_4, identification}
use Rattle.siit_v6to4.proofs.Good.{to_4-length}
use Rattle.siit_quoted.specs.Bodies.{NewBody, carried_to_4, joined_to_4, has_extension, length_octet6, padding}
use Rattle.siit_quoted.specs.Errors.{body_to_4, error_moved, part_to_4}
use Rattle.siit_quoted.specs.Quoted.{HasQuote6, QuotedIpv6, quoted6_fields}
use Rattle.siit_quoted.specs.Quotes.{quote_to_4}
use Rattle.siit_quoted.specs.Rewriting.{quote_head_to_4, quoted_upper_to_4}
use Rattle.siit_quoted.proofs.Bodies.{by-walk}
use Rattle.siit_quoted.proofs.Extended.{joined-length}
use Rattle.siit_quoted.proofs.Quotes64.{upper-length-kept, payload-length}
use Rattle.siit_roles.specs.declared.settings.Settings.{Settings}
use Rattle.siit_device.specs.Addresses.{to4}
use Rattle.siit_device.specs.Arrival6.{Arrived, arrived_fragment, is_error6, quoted_part6}
use Rattle.siit_device.specs.Backward.{sent4, error_to_4, error_by4, rest_to_4, new_body4, head4_for}
use Rattle.siit_arrival6.specs.Sizes.{quote_size, body_size}

quote_length : (source destination : ℕ) (tos_zero : Bool) (walked : Walked) (quote : List ℕ) → HasQuote6 walked quote
    → length (quote_to_4 source destination tos_zero (quoted6_fields walked quote)) ≡ quote_size walked quote
unfolding quote_to_4
quote_length source destination tos_zero walked quote good =
    let quoted : QuotedIpv6 = quoted6_fields walked quote in
    let upper : List ℕ = quoted_upper_to_4 source destination quoted in
    let size : length upper ≡ min (length quote) (40 + payload_length_in quote) - (40 + walked.at) = upper-length-kept source destination quoted ∙ payload-length walked quote good.ordered in
    length-append (quote_head_to_4 source destination tos_zero quoted) upper ∙ ap (λ n. 20 + n) size

joined_length : (b : Bool) (kind : ℕ) (extension quote : List ℕ)
    → length (joined_to_4 (carried_to_4 kind (if b then Some extension else None)) quote).bytes
    ≡ (if b && ((kind == 3) || (kind == 11)) then min 1020 (length quote) + padding 4 (min 1020 (length quote)) + length extension else length quote)
joined_length false kind extension quote = refl
joined_length true kind extension quote = carried ((kind == 3) || (kind == 11))
  where
    carried : (c : Bool) → length (joined_to_4 (if c then Some extension else None) quote).bytes
        ≡ (if c then min 1020 (length quote) + padding 4 (min 1020 (length quote)) + length extension else length quote)
    carried true = joined-length 4 (take 1020 quote) extension ∙ ap (λ n. n + padding 4 n + length extension) (length-take 1020 quote)
    carried false = refl

body_length : (source destination : ℕ) (tos_zero : Bool) (kind : ℕ) (message : List ℕ) (w : Walked) → walk_in (quoted_part6 message) ≡ Ok w
    → HasQuote6 w (quoted_part6 message)
    → length (body_to_4 source destination tos_zero kind message).bytes
    ≡ body_size kind (length_octet6 message) (quote_size w (quoted_part6 message)) (drop 8 message)
body_length source destination tos_zero kind message w walk has =
    let part = quoted_part6 message in
    let octet = length_octet6 message in
    let body = drop 8 message in
    let quote = part_to_4 source destination tos_zero part in
    let size : length quote ≡ quote_size w part =
    ap length (by-walk (λ walked. quote_to_4 source destination tos_zero (quoted6_fields walked part)) (walk_in part) w walk)
    ∙ quote_length source destination tos_zero w part has in
    joined_length (has_extension 8 octet body) kind (drop (octet * 8) body) quote
    ∙ ap (λ n. if has_extension 8 octet body && ((kind == 3) || (kind == 11)) then min 1020 n + padding 4 (min 1020 n) + length (drop (octet * 8) body) else n) size
    ∙ ap (λ m. if has_extension 8 octet body && ((kind == 3) || (kind == 11)) then min 1020 (quote_size w part) + padding 4 (min 1020 (quote_size w part)) + m else quote_size w part) (length-drop (octet * 8) body)

rest_length : (settings : Settings) (rest : Rest) (octet : ℕ) (message : List ℕ) → 8 ≤ length message → length (rest_to_4 settings rest octet message) ≡ 4
rest_length settings Same octet message long = length-take-le 4 (drop 4 message) (omega (arith, length-drop 4 message))
rest_length settings Zero octet message long = refl
rest_length settings Length octet message long = refl
rest_length settings Mtu octet message long = refl
rest_length settings Pointer octet message long = refl
rest_length settings PointerSix octet message long = refl

moved_length : (old new kind code : ℕ) (rest : List ℕ) (body : NewBody) (message : List ℕ) (n : ℕ) → length rest ≡ 4 → length body.bytes ≡ n
    → length (error_moved old new kind code rest body message) ≡ 8 + n
moved_length old new kind code rest body message n four is =
    let before = (old + residue (take 2 message ++ 0 ∷ 0 ∷ drop 4 message)) % 65535 in
    let blank = kind ∷ code ∷ 0 ∷ 0 ∷ rest ++ body.bytes in
    let head = kind ∷ code ∷ bytes16 (moved (field16 message 2) before ((new + residue blank) % 65535)) in
    length-append (head ++ rest) body.bytes ∙ omega (arith, length-append head rest, four, is)

error_length : (settings : Settings) (common : Common) (message : List ℕ) (new : NewKind) (w : Walked) → 8 ≤ length message
    → icmp_to_4 (field8 message 0) (field8 message 1) ≡ Ok new → walk_in (quoted_part6 message) ≡ Ok w → HasQuote6 w (quoted_part6 message)
    → length (error_to_4 settings common message)
    ≡ 8 + body_size new.kind (length_octet6 message) (quote_size w (quoted_part6 message)) (drop 8 message)
unfolding error_to_4
error_length settings common message new w long kind walk has =
    let body = new_body4 settings new message in
    let rest = rest_to_4 settings new.rest body.octet message in
    ap (λ r. length (error_by4 settings common message r)) kind
    ∙ moved_length (pseudo6 common.source common.destination 58 (length message)) 0 new.kind new.code rest body message
    (body_size new.kind (length_octet6 message) (quote_size w (quoted_part6 message)) (drop 8 message))
    (rest_length settings new.rest body.octet message long)
    (body_length (to4 settings (ipv6_fields (quoted_part6 message)).source) (to4 settings (ipv6_fields (quoted_part6 message)).destination) settings.tos_zero new.kind message w walk has)

chosen : (b : Bool) (x y : List ℕ) → b ≡ true → length (if b then x else y) ≡ length x
chosen b x y e = rw e refl

not_chosen : (b : Bool) (x y : List ℕ) → b ≡ false → length (if b then x else y) ≡ length y
not_chosen b x y e = rw e refl

pub sent_error : (settings : Settings) (arrived : Arrived) (new : NewKind) (w : Walked) (message : List ℕ) → message ≡ (arrived_fragment arrived).bytes
    → is_error6 (arrived_fragment arrived) ≡ true → 8 ≤ length (arrived_fragment arrived).bytes
    → icmp_to_4 (field8 (arrived_fragment arrived).bytes 0) (field8 (arrived_fragment arrived).bytes 1) ≡ Ok new
    → walk_in (quoted_part6 (arrived_fragment arrived).bytes) ≡ Ok w → HasQuote6 w (quoted_part6 (arrived_fragment arrived).bytes)
    → 8 + body_size new.kind (length_octet6 message) (quote_size w (quoted_part6 message)) (drop 8 message)
    ≡ length (sent4 settings arrived 0).bytes
sent_error settings arrived new w message is_message is_error long kind walk has =
    let f = arrived_fragment arrived in
    ap (λ (m : List ℕ). 8 + body_size new.kind (length_octet6 m) (quote_size w (quoted_part6 m)) (drop 8 m)) is_message
    ∙ sym (chosen (is_error6 f) _ _ is_error ∙ error_length settings f.common f.bytes new w long kind walk has)

pub sent_plain : (settings : Settings) (arrived : Arrived) → is_error6 (arrived_fragment arrived) ≡ false
    → length (sent4 settings arrived 0).bytes ≡ length (arrived_fragment arrived).bytes
sent_plain settings arrived no_error =
    let f = arrived_fragment arrived in
    not_chosen (is_error6 f) _ _ no_error ∙ to_4-length (ends_to_4 (head4_for settings (identification arrived.walked.fragment 0) f) f.common) (length f.bytes) f
