-- Which bytes of the body of an ICMPv6 error are translated, and what they become.
use Rattle.std.proofs.Common.{◌≡◌, ◌⊎◌, inl, inr, ℕ, ◌+◌, ◌*◌, ◌%◌, ◌≤◌, List, length, min, take, drop, Bool, true, false, ◌&&◌, ◌||◌, ◌==◌, nat_le, if◌then◌else◌, Option, Some, None, is_some, IfSome, Ok, ok_or, ◌∙◌, ap, sym, subst, refl, arith, take_all, length-drop}
use Rattle.std.proofs.lemmas.Bool.Decides.{nat_tests}
use Rattle.std.proofs.lemmas.Bool.{leb-true, leb-false, ne_eqb}
use Rattle.std.proofs.lemmas.List.{drop_all, length-take, length-take-le, take_min}
use Rattle.siit_model.specs.Bytes.{field8}
use Rattle.siit_model.specs.Checksum.{residue}
use Rattle.siit_model.specs.Extensions.{Walked}
use Rattle.siit_checksum.proofs.Residues.{residue-cut}
use Rattle.siit_icmp.specs.Icmp.{icmp_to_4, new}
use Rattle.siit_icmp.specs.declared.kinds.NewKind.{NewKind}
use Rattle.siit_icmp.specs.declared.kinds.Rest.TheVariants.{Length}
use Rattle.siit_rules.specs.declared.rule.Rule.TheVariants.{IcmpCode6}
use Rattle.siit_v6to4.specs.To4.{walk_in}
use Rattle.siit_quoted.specs.Bodies.{NewBody, carried_to_4, has_extension, joined_to_4, length_octet6, padding, parted}
use Rattle.siit_quoted.specs.Errors.{body_to_4}
use Rattle.siit_quoted.specs.Quoted.{HasQuote6, quoted6_fields}
use Rattle.siit_quoted.specs.Quotes.{quote_to_4}
use Rattle.siit_quoted.specs.Rewriting.{IsCarried, extension_behind, part_before, walked_body_to_4}
use Rattle.siit_quoted.specs.Sums.{IsDifference}
use Rattle.siit_quoted.proofs.Bodies.{by-walk}
use Rattle.siit_quoted.proofs.Extended.{joined-length}
use Rattle.siit_quoted.proofs.Quotes64.{quote-most}
use Rattle.siit_device.specs.Arrival6.{quoted_part6}
use Rattle.siit_departure4.specs.Parts.{extension_in}

-- THE TYPES THAT TELL OF AN EXTENSION

unreachable-kind : (a b c : Bool) (n : NewKind)
    → ok_or (if a then Some (new 3 1 Length) else if b then Some (new 3 10 Length) else if c then Some (new 3 3 Length) else None) IcmpCode6 ≡ Ok n → n.kind ≡ 3
unreachable-kind true b c n is = let same : new 3 1 Length ≡ n = cc in ap (λ (k : NewKind). k.kind) (sym same)
unreachable-kind false true c n is = let same : new 3 10 Length ≡ n = cc in ap (λ (k : NewKind). k.kind) (sym same)
unreachable-kind false false true n is = let same : new 3 3 Length ≡ n = cc in ap (λ (k : NewKind). k.kind) (sym same)
unreachable-kind false false false n is = cc

one-or-three : (kind : ℕ) → ((kind == 1) || (kind == 3)) ≡ true → (kind ≡ 1) ⊎ (kind ≡ 3)
one-or-three kind is = grind (arith, nat_tests)

carried-by : (kind code : ℕ) (n : NewKind) → (kind ≡ 1) ⊎ (kind ≡ 3) → icmp_to_4 kind code ≡ Ok n → ((n.kind == 3) || (n.kind == 11)) ≡ true
carried-by kind code n (inl one) is =
    let three : n.kind ≡ 3 = unreachable-kind _ _ _ n (sym (ap (λ k. icmp_to_4 k code) one) ∙ is) in
    ap (λ k. (k == 3) || (k == 11)) three
carried-by kind code n (inr three) is =
    let same : new 11 code Length ≡ n = let e : Ok (new 11 code Length) ≡ Ok n = sym (ap (λ k. icmp_to_4 k code) three) ∙ is in cc in
    ap (λ (k : NewKind). (k.kind == 3) || (k.kind == 11)) (sym same)

octet-kind : (told : Bool) (octet : ℕ) → 1 ≤ (if told then octet else 0) → told ≡ true
octet-kind true octet some = refl
octet-kind false octet some = absurd (omega arith)

-- THE BYTES THAT ARE TRANSLATED

-- what is known of the first `len` bytes of a body, which are translated
pub record IsKept (message : List ℕ) (ext : Option ℕ) (len kind : ℕ) : Type 0 where
  pub inside : len ≤ length (drop 8 message)
  pub carried : IfSome ext (λ place. IsCarried place (take len (drop 8 message)))
  pub units : IfSome ext (λ place. place % 8 ≡ 0)
  pub part : part_before ext (take len (drop 8 message)) ≡ quoted_part6 message
  pub extension : extension_behind ext (take len (drop 8 message)) ≡ carried_to_4 kind (parted 8 (length_octet6 message) (drop 8 message)).extension
  pub rest : residue (drop 8 message) ≡ (residue (take len (drop 8 message)) + residue (drop len (drop 8 message))) % 65535

-- a residue cut at an even place or at the end
cut-all : (body : List ℕ) (len : ℕ) → len ≡ length body → residue body ≡ (residue (take len body) + residue (drop len body)) % 65535
cut-all body len is =
    let first : residue (take len body) ≡ residue body = ap residue (take_all len body (omega arith)) in
    let last : residue (drop len body) ≡ 0 = ap residue (drop_all len body (omega arith)) in
    omega (arith, first, last)

cut-units : (units len : ℕ) (body : List ℕ) (within : Bool) → nat_le (units * 8) (length body) ≡ within → len ≡ length (take (units * 8) body)
    → residue body ≡ (residue (take len body) + residue (drop len body)) % 65535
cut-units units len body true within is =
    residue-cut body len (omega (arith, is, length-take-le (units * 8) body (leb-true (units * 8) (length body) within)))
cut-units units len body false within is =
    cut-all body len (omega (arith, is, length-take (units * 8) body, leb-false (units * 8) (length body) within))

cut-part : (none : Bool) (units len : ℕ) (body : List ℕ) → len ≡ length (if none then body else take (units * 8) body)
    → residue body ≡ (residue (take len body) + residue (drop len body)) % 65535
cut-part true units len body is = cut-all body len is
cut-part false units len body is = cut-units units len body (nat_le (units * 8) (length body)) refl is

part-kept : (none : Bool) (units len : ℕ) (body : List ℕ) → len ≡ length (if none then body else take (units * 8) body)
    → (len ≤ length body) × (take len body ≡ (if none then body else take (units * 8) body))
part-kept true units len body is = (omega arith, take_all len body (omega arith))
part-kept false units len body is =
    let size = length-take (units * 8) body in
    (omega (arith, size), ap (λ n. take n body) (is ∙ size) ∙ sym (take-min (units * 8) body))
  where
    take-min : (n : ℕ) (xs : List ℕ) → take n xs ≡ take (min n (length xs)) xs
    take-min n xs = sym (take_min n xs)

none-kept : (message : List ℕ) (len kind : ℕ) → has_extension 8 (length_octet6 message) (drop 8 message) ≡ false → len ≡ length (quoted_part6 message)
    → IsKept message None len kind
none-kept message len kind has is =
    let octet = length_octet6 message in
    let kept = part-kept (octet == 0) octet len (drop 8 message) is in
    record {
      inside = kept.0;
      carried = tt;
      units = tt;
      part = kept.1;
      extension = sym (without (has_extension 8 octet (drop 8 message)) (drop (octet * 8) (drop 8 message)) has);
      rest = cut-part (octet == 0) octet len (drop 8 message) is;
    }
  where
    without : (b : Bool) (extension : List ℕ) → b ≡ false → carried_to_4 kind (if b then Some extension else None) ≡ None
    without b extension e = rw e refl

first-tests : (a b c d : Bool) → (a && b && c && d) ≡ true → (a ≡ true) × (b ≡ true)
first-tests true true c d is = (refl, refl)
first-tests true false c d is = cc
first-tests false b c d is = cc

some-kept : (message : List ℕ) (len kind : ℕ) → has_extension 8 (length_octet6 message) (drop 8 message) ≡ true → ((kind == 3) || (kind == 11)) ≡ true
    → len ≡ length (drop 8 message) → IsKept message (Some (length_octet6 message * 8)) len kind
some-kept message len kind has carried is =
    let octet = length_octet6 message in
    let body = drop 8 message in
    let tests = first-tests _ _ _ _ has in
    let least : 128 ≤ octet * 8 = leb-true 128 (octet * 8) tests.0 in
    let some : octet * 8 + 4 ≤ length body = leb-true (octet * 8 + 4) (length body) tests.1 in
    let all : take len body ≡ body = take_all len body (omega arith) in
    record {
      inside = omega arith;
      carried = record { least = least; some = omega (arith, some, ap length all) };
      units = omega arith;
      part = ap (take (octet * 8)) all ∙ sym (some-units (octet == 0) (ne_eqb octet 0 (λ (none : octet ≡ 0). omega (arith, least, none))));
      extension = ap (λ l. Some (drop (octet * 8) l)) all ∙ sym (with_it (has_extension 8 octet body) (drop (octet * 8) body) has);
      rest = cut-all body len is;
    }
  where
    some-units : (none : Bool) → none ≡ false → (if none then drop 8 message else take (length_octet6 message * 8) (drop 8 message)) ≡ take (length_octet6 message * 8) (drop 8 message)
    some-units none e = rw e refl

    carried-it : (c : Bool) (extension : List ℕ) → c ≡ true → (if c then Some extension else None) ≡ Some extension
    carried-it c extension e = rw e refl

    with_it : (b : Bool) (extension : List ℕ) → b ≡ true → carried_to_4 kind (if b then Some extension else None) ≡ Some extension
    with_it true extension e = carried-it ((kind == 3) || (kind == 11)) extension carried
    with_it false extension e = cc

-- by the place of the extension
pub kept : (message : List ℕ) (ext : Option ℕ) (len : ℕ) (n : NewKind) → icmp_to_4 (field8 message 0) (field8 message 1) ≡ Ok n
    → ext ≡ extension_in message → len ≡ (if is_some ext then length (drop 8 message) else length (quoted_part6 message)) → IsKept message ext len n.kind
kept message ext len n kind is_ext is_len =
    by (has_extension 8 (length_octet6 message) (drop 8 message)) refl
  where
    by : (has : Bool) → has_extension 8 (length_octet6 message) (drop 8 message) ≡ has → IsKept message ext len n.kind
    by true has =
        let is : ext ≡ Some (length_octet6 message * 8) = is_ext ∙ ap (λ b. if b then Some (length_octet6 message * 8) else None) has in
        let told = (field8 message 0 == 1) || (field8 message 0 == 3) in
        let least : 128 ≤ length_octet6 message * 8 = leb-true 128 (length_octet6 message * 8) (first-tests _ _ _ _ has).0 in
        subst (λ e. IsKept message e len n.kind) (sym is)
        (some-kept message len n.kind has
        (carried-by (field8 message 0) (field8 message 1) n (one-or-three (field8 message 0) (octet-kind told (field8 message 4) (omega (arith, least)))) kind)
        (is_len ∙ ap (λ (e : Option ℕ). if is_some e then length (drop 8 message) else length (quoted_part6 message)) is))
    by false has =
        let is : ext ≡ None = is_ext ∙ ap (λ b. if b then Some (length_octet6 message * 8) else None) has in
        subst (λ e. IsKept message e len n.kind) (sym is)
        (none-kept message len n.kind has (is_len ∙ ap (λ (e : Option ℕ). if is_some e then length (drop 8 message) else length (quoted_part6 message)) is))

-- as it is read: the body and the part that holds the quote
pub kept-seen : (message body part : List ℕ) (ext : Option ℕ) (len : ℕ) (n : NewKind) → icmp_to_4 (field8 message 0) (field8 message 1) ≡ Ok n
    → ext ≡ extension_in message → body ≡ drop 8 message → part ≡ quoted_part6 message → len ≡ (if is_some ext then length body else length part)
    → IsKept message ext len n.kind
kept-seen message body part ext len n kind is_ext is_body is_part is_len =
    kept message ext len n kind is_ext
    (is_len ∙ ap (λ b. if is_some ext then length b else length part) is_body ∙ ap (λ p. if is_some ext then length (drop 8 message) else length p) is_part)

-- the even place of an extension
pub even-units : (ext : Option ℕ) → IfSome ext (λ place. place % 8 ≡ 0) → IfSome ext (λ place. place % 2 ≡ 0)
even-units None units = tt
even-units (Some place) units = omega (arith, units)

-- THE NEW BODY

pub body-is : (source destination : ℕ) (tos_zero : Bool) (message : List ℕ) (ext : Option ℕ) (len kind : ℕ) (w : Walked) → IsKept message ext len kind
    → walk_in (quoted_part6 message) ≡ Ok w
    → walked_body_to_4 source destination tos_zero w ext (take len (drop 8 message)) ≡ body_to_4 source destination tos_zero kind message
body-is source destination tos_zero message ext len kind w is walk =
    let made = λ (w : Walked) (q : List ℕ). quote_to_4 source destination tos_zero (quoted6_fields w q) in
    let part = quoted_part6 message in
    ap (λ (e : Option (List ℕ)). joined_to_4 e (made w (part_before ext (take len (drop 8 message))))) is.extension
    ∙ ap (λ q. joined_to_4 (carried_to_4 kind (parted 8 (length_octet6 message) (drop 8 message)).extension) (made w q)) is.part
    ∙ ap (λ l. joined_to_4 (carried_to_4 kind (parted 8 (length_octet6 message) (drop 8 message)).extension) l) (sym (by-walk (λ v. made v part) (walk_in part) w walk))

pub quote-kept : (message : List ℕ) (ext : Option ℕ) (len kind : ℕ) (w : Walked) → IsKept message ext len kind → HasQuote6 w (quoted_part6 message)
    → HasQuote6 w (part_before ext (take len (drop 8 message)))
quote-kept message ext len kind w is has = subst (HasQuote6 w) (sym is.part) has

-- what goes with what isn't translated
pub body-difference : (message new : List ℕ) (ext : Option ℕ) (len kind gone come behind all : ℕ) → IsKept message ext len kind
    → IsDifference (take len (drop 8 message)) new gone come → behind ≡ residue (drop len (drop 8 message)) → all ≡ (gone + behind) % 65535
    → IsDifference (drop 8 message) new all come
body-difference message new ext len kind gone come behind all is change is_behind is_all = record { same = omega (arith, change.same, is.rest, is_behind, is_all) }

-- THE LENGTH

padded-within : (len place : ℕ) → len ≤ place → 128 ≤ place → place % 8 ≡ 0 → len + padding 4 len ≤ place
padded-within len place shorter least units = omega arith

walked-shorter : (source destination : ℕ) (tos_zero : Bool) (w : Walked) (ext : Option ℕ) (body : List ℕ) → IfSome ext (λ place. IsCarried place body)
    → IfSome ext (λ place. place % 8 ≡ 0) → HasQuote6 w (part_before ext body)
    → length (walked_body_to_4 source destination tos_zero w ext body).bytes ≤ length body
walked-shorter source destination tos_zero w None body carried units has = quote-most source destination tos_zero w body has
walked-shorter source destination tos_zero w (Some place) body carried units has =
    let quote : List ℕ = quote_to_4 source destination tos_zero (quoted6_fields w (take place body)) in
    let most = quote-most source destination tos_zero w (take place body) has in
    let size = length-take 1020 quote in
    let part = length-take-le place body (omega (arith, carried.some)) in
    let within : length (take 1020 quote) + padding 4 (length (take 1020 quote)) ≤ place = padded-within (length (take 1020 quote)) place (omega (arith, most, size, part)) carried.least units in
    omega (arith, joined-length 4 (take 1020 quote) (drop place body), within, length-drop place body, carried.some)

pub body-shorter : (source destination : ℕ) (tos_zero : Bool) (message : List ℕ) (ext : Option ℕ) (len kind : ℕ) (w : Walked) → IsKept message ext len kind
    → walk_in (quoted_part6 message) ≡ Ok w → HasQuote6 w (quoted_part6 message)
    → length (body_to_4 source destination tos_zero kind message).bytes ≤ length (drop 8 message)
body-shorter source destination tos_zero message ext len kind w is walk has =
    let shorter = walked-shorter source destination tos_zero w ext (take len (drop 8 message)) is.carried is.units (quote-kept message ext len kind w is has) in
    let size = length-take-le len (drop 8 message) is.inside in
    let same = ap (λ (b : NewBody). length b.bytes) (body-is source destination tos_zero message ext len kind w is walk) in
    omega (arith, shorter, size, same)
