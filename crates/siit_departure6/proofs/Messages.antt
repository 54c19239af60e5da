-- The message of a translated ICMP error: what goes and comes in it, and its bytes.
use Rattle.std.proofs.Common.{◌≡◌, ◌⊎◌, ℕ, ◌+◌, ◌-◌, ◌%◌, ◌≤◌, List, [], ◌∷◌, ◌++◌, length, take, drop, Option, Some, None, refl, ap, sym, subst, ◌∙◌, arith, append_assoc, ⊎_elim, length-drop, length-append}
use Rattle.std.specs.Prelude.{IfSome}
use Rattle.std.proofs.lemmas.List.{drop_all, drop-drop, drop-take, drop_at, length-take-le, take_rest}
use Rattle.siit_model.specs.Bytes.{bytes16, field16, part, with_field16}
use Rattle.siit_model.specs.Checksum.{moved, pseudo6, residue}
use Rattle.siit_addr.specs.declared.addr.Addresses6.{Addresses6}
use Rattle.siit_checksum.proofs.Residues.{residue-append, residue-cut}
use Rattle.siit_icmp.specs.declared.kinds.Rest.{Rest}
use Rattle.siit_icmp.specs.declared.kinds.Rest.TheVariants.{Same, Zero, Mtu, Pointer, PointerSix, Length}
use Rattle.siit_fragments.proofs.Parts.{drop-with_field16, length-part, take-with_field16}
use Rattle.siit_quoted.specs.Errors.{body_to_6}
use Rattle.siit_quoted.specs.Laws.{IsCarriedIf6}
use Rattle.siit_quoted.specs.Rewriting.{IsCarriedTo6}
use Rattle.siit_quoted.specs.Sums.{IsDifference}
use Rattle.siit_quoted.proofs.Differences.{checksum-moved}
use Rattle.siit_roles.specs.declared.settings.Settings.{Settings}
use Rattle.siit_device.specs.Forward.{rest_to_6}
use Rattle.siit_arrival4.specs.declared.arrived.Error4.{Error4}
use Rattle.siit_departure6.specs.Kept.{IsKept, blanked, kept_body}
use Rattle.siit_departure6.specs.declared.kept.Kept.{Kept}
use Rattle.siit_departure6.specs.Parts.{message_to_6}

-- SUMS

blanked-set : (message : List ℕ) → blanked message ≡ with_field16 message 2 0
blanked-set message = sym (append_assoc (take 2 message) (bytes16 0) (drop 4 message))

-- the residues of what is kept of a body and of what is cut off
ends-summed : (message : List ℕ) (len : ℕ) → 8 ≤ len → len ≤ length message → (len ≡ length message) ⊎ (len % 2 ≡ 0)
    → residue (drop 8 message) ≡ (residue (part message 8 (len - 8)) + residue (drop len message)) % 65535
ends-summed message len there inside even =
    let body : List ℕ = drop 8 message in
    let sum : 8 + (len - 8) ≡ len = omega arith in
    let rest : drop (len - 8) body ≡ drop len message = drop-drop (len - 8) 8 message ∙ ap (λ k. drop k message) sum in
    ⊎_elim
    (λ (all : len ≡ length message).
    let none = ap residue (drop_all len message (omega arith)) in
    let whole = ap residue (ap (λ k. part message 8 (k - 8)) all ∙ take_rest message 8) in
    omega (arith, none, whole))
    (λ (is_even : len % 2 ≡ 0).
    let cut = residue-cut body (len - 8) (omega arith) in
    let same = ap residue rest in
    omega (arith, cut, same))
    even

pub message-summed : (message new : List ℕ) (len head gone come behind all : ℕ) → 8 ≤ len → len ≤ length message
    → (len ≡ length message) ⊎ (len % 2 ≡ 0)
    → IsDifference (part message 8 (len - 8)) new gone come
    → head ≡ residue (with_field16 (take 8 message) 2 0) → behind ≡ residue (drop len message) → all ≡ (head + gone + behind) % 65535
    → IsDifference (blanked message) new all come
message-summed message new len head gone come behind all there inside even change is_head is_behind is_all =
    let blank : List ℕ = with_field16 message 2 0 in
    let cut = residue-cut blank 8 (omega arith) in
    let first = ap residue (take-with_field16 message 2 0 8 (omega arith) (omega arith)) in
    let body = ap residue (drop-with_field16 message 2 0 8 (omega arith) (omega arith)) in
    let ends = ends-summed message len there inside even in
    let same = ap residue (blanked-set message) in
    record { same = joined (residue (blanked message)) (residue blank) (residue (take 8 blank)) (residue (drop 8 blank)) (residue (drop 8 message)) (residue (part message 8 (len - 8))) (residue (drop len message)) (residue new) head gone come behind all same cut (first ∙ sym is_head) body ends change.same is_behind is_all }
  where
    joined : (whole blank first rest body kept cut new head gone come behind all : ℕ) → whole ≡ blank → blank ≡ (first + rest) % 65535 → first ≡ head → rest ≡ body
        → body ≡ (kept + cut) % 65535 → (kept + come) % 65535 ≡ (new + gone) % 65535 → behind ≡ cut → all ≡ (head + gone + behind) % 65535
        → (whole + come) % 65535 ≡ (new + all) % 65535
    joined whole blank first rest body kept cut new head gone come behind all a b c d e f g h = omega arith

-- BYTES

-- the checksum by what goes and comes
checksum-is : (sum pseudo gone come : ℕ) (old head new : List ℕ) → length head % 2 ≡ 0 → IsDifference old new gone come
    → moved sum gone ((pseudo + residue head + come) % 65535) ≡ moved sum ((0 + residue old) % 65535) ((pseudo + residue (head ++ new)) % 65535)
checksum-is sum pseudo gone come old head new even change =
    let both = residue-append head new even in
    let law = checksum-moved sum 0 (pseudo + residue head) old new gone come change in
    let whole : (pseudo + residue (head ++ new)) % 65535 ≡ (pseudo + residue head + residue new) % 65535 = omega (arith, both) in
    reduced sum gone ((pseudo + residue head + come) % 65535)
    ∙ sym law
    ∙ ap (λ n. moved sum ((0 + residue old) % 65535) n) (sym whole)
  where
    reduced : (sum gone n : ℕ) → moved sum gone n ≡ moved sum ((0 + gone) % 65535) n
    reduced sum gone n = omega arith

pub message-is : (settings : Settings) (new : Addresses6) (error : Error4) (message rest head made : List ℕ) (sum pseudo gone come : ℕ) →
    let body = body_to_6 error.quote.src.0 error.quote.dst.0 settings.tos_zero error.new.kind message in
    sum ≡ field16 message 2 → IsDifference (blanked message) body.bytes gone come
    → pseudo ≡ pseudo6 new.src.0 new.dst.0 58 (8 + length body.bytes)
    → rest ≡ rest_to_6 settings error.new.rest body.octet message → length rest ≡ 4
    → head ≡ error.new.kind ∷ error.new.code ∷ bytes16 (moved sum gone ((pseudo + residue (error.new.kind ∷ error.new.code ∷ 0 ∷ 0 ∷ rest) + come) % 65535)) ++ rest
    → made ≡ head ++ body.bytes
    → made ≡ message_to_6 settings new error message
unfolding message_to_6
message-is settings new error message rest head made sum pseudo gone come is_sum change is_pseudo is_rest size is_head is_made =
    let kind : ℕ = error.new.kind in
    let code : ℕ = error.new.code in
    let body = body_to_6 error.quote.src.0 error.quote.dst.0 settings.tos_zero kind message in
    let blank : List ℕ = kind ∷ code ∷ 0 ∷ 0 ∷ rest in
    is_made
    ∙ ap (λ h. h ++ body.bytes) is_head
    ∙ ap (λ n. kind ∷ code ∷ bytes16 n ++ rest ++ body.bytes) (checksum-is sum pseudo gone come (blanked message) blank body.bytes (omega (arith, size)) change)
    ∙ ap (λ n. kind ∷ code ∷ bytes16 (moved n ((0 + residue (blanked message)) % 65535) ((pseudo + residue (blank ++ body.bytes)) % 65535)) ++ rest ++ body.bytes) is_sum
    ∙ ap (λ p. kind ∷ code ∷ bytes16 (moved (field16 message 2) ((0 + residue (blanked message)) % 65535) ((p + residue (blank ++ body.bytes)) % 65535)) ++ rest ++ body.bytes) is_pseudo
    ∙ ap (λ r. kind ∷ code ∷ bytes16 (moved (field16 message 2) ((0 + residue (blanked message)) % 65535) ((pseudo6 new.src.0 new.dst.0 58 (8 + length body.bytes) + residue ((kind ∷ code ∷ 0 ∷ 0 ∷ r) ++ body.bytes)) % 65535)) ++ r ++ body.bytes) is_rest

-- PLACES

-- the body that is kept, where the end of the packet was cut off
pub kept-here : (kept : Kept) (at : ℕ) (old cut : List ℕ) → 8 ≤ kept.len → cut ≡ take (at + kept.len) old → drop (at + 8) cut ≡ kept_body kept (drop at old)
kept-here kept at old cut there is_cut =
    let sum : at + kept.len ≡ (at + 8) + (kept.len - 8) = omega arith in
    ap (drop (at + 8)) (is_cut ∙ ap (λ n. take n old) sum)
    ∙ drop-take (at + 8) (kept.len - 8) old
    ∙ ap (take (kept.len - 8)) (sym (drop-drop 8 at old))

pub carried-if : (ext : Option ℕ) (body : List ℕ) → IfSome ext (λ place. IsCarriedTo6 place body) → IsCarriedIf6 ext body
carried-if None body has = tt
carried-if (Some place) body has = has

-- bytes 4 to 7, once the length octet is known
pub rest-told : (settings : Settings) (rest : Rest) (octet : ℕ) (message told made : List ℕ) → told ≡ rest_to_6 settings rest 0 message
    → (rest ≡ Length → made ≡ octet ∷ 0 ∷ 0 ∷ 0 ∷ []) → ((rest ≡ Length → ⊥) → made ≡ told) → made ≡ rest_to_6 settings rest octet message
rest-told settings Same octet message told made is one other = other (λ (e : Same ≡ Length). cc) ∙ is
rest-told settings Zero octet message told made is one other = other (λ (e : Zero ≡ Length). cc) ∙ is
rest-told settings Mtu octet message told made is one other = other (λ (e : Mtu ≡ Length). cc) ∙ is
rest-told settings Pointer octet message told made is one other = other (λ (e : Pointer ≡ Length). cc) ∙ is
rest-told settings PointerSix octet message told made is one other = other (λ (e : PointerSix ≡ Length). cc) ∙ is
rest-told settings Length octet message told made is one other = one refl

pub rest-length : (settings : Settings) (rest : Rest) (octet : ℕ) (message : List ℕ) → 8 ≤ length message → length (rest_to_6 settings rest octet message) ≡ 4
rest-length settings Same octet message there = omega (arith, length-part message 4 4)
rest-length settings Zero octet message there = refl
rest-length settings Mtu octet message there = refl
rest-length settings Pointer octet message there = refl
rest-length settings PointerSix octet message there = refl
rest-length settings Length octet message there = refl

-- what stands in the buffer once the quote was rewritten
pub record IsRewritten (at : ℕ) (bytes body : List ℕ) : Type 0 where
  pub behind : drop (at + 8) bytes ≡ body
  pub size : length bytes - at ≡ 8 + length body

pub rewritten-is : (at : ℕ) (cut bytes body : List ℕ) → at + 8 ≤ length cut → bytes ≡ take (at + 8) cut ++ body → IsRewritten at bytes body
rewritten-is at cut bytes body inside is =
    let front : length (take (at + 8) cut) ≡ at + 8 = length-take-le (at + 8) cut inside in
    record {
      behind = ap (drop (at + 8)) is ∙ drop_at (take (at + 8) cut) body (at + 8) front;
      size = omega (arith, ap length is, length-append (take (at + 8) cut) body, front);
    }

-- what is known of the message once the end of the packet was cut off
pub record IsCutOff (kind at : ℕ) (old cut : List ℕ) (kept : Kept) : Type 0 where
  pub has : IsKept kind (drop at old) kept
  pub here : drop (at + 8) cut ≡ kept_body kept (drop at old)
  pub carried : IsCarriedIf6 kept.ext (drop (at + 8) cut)
  pub inside : at + 8 ≤ length cut

pub cut-off : (kind at : ℕ) (seen old cut : List ℕ) (kept : Kept) → seen ≡ old → IsKept kind (take (length seen - at) (drop at seen)) kept
    → cut ≡ take (at + kept.len) old → at ≤ length old → IsCutOff kind at old cut kept
cut-off kind at seen old cut kept same is_kept is_cut there =
    let message : take (length seen - at) (drop at seen) ≡ drop at old = take_rest seen at ∙ ap (drop at) same in
    let has : IsKept kind (drop at old) kept = subst (λ m. IsKept kind m kept) message is_kept in
    let here : drop (at + 8) cut ≡ kept_body kept (drop at old) = kept-here kept at old cut has.header is_cut in
    let long : at + kept.len ≤ length old = omega (arith, has.inside, length-drop at old) in
    record {
      has = has;
      here = here;
      carried = carried-if kept.ext (drop (at + 8) cut) (subst (λ b. IfSome kept.ext (λ place. IsCarriedTo6 place b)) (sym here) has.carried);
      inside = omega (arith, ap length is_cut, length-take-le (at + kept.len) old long, has.header);
    }

pub message-short : (settings : Settings) (new : Addresses6) (error : Error4) (message : List ℕ) → 8 ≤ length message
    → length (body_to_6 error.quote.src.0 error.quote.dst.0 settings.tos_zero error.new.kind message).bytes ≤ 1232
    → length (message_to_6 settings new error message) ≤ 1240
unfolding message_to_6
message-short settings new error message there most =
    let body = body_to_6 error.quote.src.0 error.quote.dst.0 settings.tos_zero error.new.kind message in
    let rest : List ℕ = rest_to_6 settings error.new.rest body.octet message in
    let four = rest-length settings error.new.rest body.octet message there in
    omega (arith, four, most, length-append rest body.bytes)
