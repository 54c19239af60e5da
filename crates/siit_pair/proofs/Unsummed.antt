-- Errors as they stand in the buffer, with whatever checksum they have there.
use Rattle.std.proofs.Common.{◌≡◌, ℕ, ◌≤◌, List, [], ◌∷◌, ◌++◌, length, take, drop, replicate, Bool, ◌&&◌, if◌then◌else◌, Option, Some, None, Result, Ok, Err, refl, ap, ◌∙◌, sym, arith, length-append}
use Rattle.std.specs.Prelude.{is_none}
use Rattle.siit_model.specs.Fragments.{Common}
use Rattle.siit_model.specs.Ipv6.{ipv6_fields}
use Rattle.siit_fragments.proofs.Parts.{length-part}
use Rattle.siit_addr.specs.declared.addr.Addresses6.{Addresses6}
use Rattle.siit_rules.specs.declared.rule.Rule.{Rule}
use Rattle.siit_icmp.specs.Icmp.{icmp_to_4}
use Rattle.siit_icmp.specs.declared.kinds.NewKind.{NewKind}
use Rattle.siit_icmp.specs.declared.kinds.Rest.{Rest}
use Rattle.siit_icmp.specs.declared.kinds.Rest.TheVariants.{Same, Zero, Mtu, Pointer, PointerSix, Length}
use Rattle.siit_quoted.specs.Bodies.{NewBody}
use Rattle.siit_quoted.specs.Errors.{body_to_6}
use Rattle.siit_quoted.specs.Refusals.{quote_refusal6}
use Rattle.siit_roles.specs.declared.settings.Settings.{Settings}
use Rattle.siit_device.specs.Arrival6.{quoted_part6}
use Rattle.siit_device.specs.Backward.{error_by4, new_body4, rest_to_4}
use Rattle.siit_device.specs.Forward.{rest_to_6}
use Rattle.siit_arrival4.specs.Arrived.{HasError4}
use Rattle.siit_arrival4.specs.declared.arrived.Error4.{Error4}
use Rattle.siit_departure6.specs.Parts.{message_to_6}
use Rattle.siit_pair.specs.Same.{error_backward, error_if4, has_pointer4, is_mapped4, unsummed, unsummed_error4, unsummed_error6}

-- an error with its checksum counted as zero, by the addresses of its quote
between : Settings → NewKind → (message : List ℕ) → (source destination : ℕ) → List ℕ
between settings new message source destination =
    let body = body_to_6 source destination settings.tos_zero new.kind message in
    new.kind ∷ new.code ∷ 0 ∷ 0 ∷ rest_to_6 settings new.rest body.octet message ++ body.bytes

pub unsummed-message : (settings : Settings) (ends : Addresses6) (error : Error4) (message : List ℕ) → HasError4 settings message error
    → unsummed 2 (message_to_6 settings ends error message) ≡ unsummed_error6 settings error.new message
unfolding message_to_6 between
unsummed-message settings ends error message has =
    λ i. between settings error.new message (sym has.quote.source_is i) (sym has.quote.destination_is i)

rest-length : (settings : Settings) (rest : Rest) (octet : ℕ) (message : List ℕ) → 8 ≤ length message → length (rest_to_6 settings rest octet message) ≡ 4
rest-length settings Same octet message there = omega (arith, length-part message 4 4)
rest-length settings Zero octet message there = refl
rest-length settings Mtu octet message there = refl
rest-length settings Pointer octet message there = refl
rest-length settings PointerSix octet message there = refl
rest-length settings Length octet message there = refl

pub message-long : (settings : Settings) (ends : Addresses6) (error : Error4) (message : List ℕ) → 8 ≤ length message
    → 8 ≤ length (message_to_6 settings ends error message)
unfolding message_to_6
message-long settings ends error message there =
    let body : NewBody = body_to_6 error.quote.src.0 error.quote.dst.0 settings.tos_zero error.new.kind message in
    let rest : List ℕ = rest_to_6 settings error.new.rest body.octet message in
    let four = rest-length settings error.new.rest body.octet message there in
    omega (arith, four, length-append rest body.bytes)

-- behind zeros in place of an IPv6 header, which are taken off again
pub unsummed-behind : (settings : Settings) (common : Common) (new : NewKind) (old grown made bare : List ℕ) → grown ≡ replicate 40 0 ++ old
    → made ≡ take 40 grown ++ error_by4 settings common (drop 40 grown) (Ok new) → bare ≡ drop 40 made
    → unsummed 2 bare ≡ unsummed_error4 settings new old
unsummed-behind settings common new old grown made bare is_grown is_made is_bare =
    ap (unsummed 2) (is_bare ∙ ap (drop 40) (is_made ∙ ap (λ (g : List ℕ). take 40 g ++ error_by4 settings common (drop 40 g) (Ok new)) is_grown))

-- THE CHECKSUM ISN'T LOOKED AT

any-pointer : (rest : Rest) (a b c d x y : ℕ) (behind : List ℕ) → has_pointer4 rest (a ∷ b ∷ x ∷ y ∷ behind) ≡ has_pointer4 rest (a ∷ b ∷ c ∷ d ∷ behind)
any-pointer Same a b c d x y behind = refl
any-pointer Zero a b c d x y behind = refl
any-pointer Mtu a b c d x y behind = refl
any-pointer Pointer a b c d x y behind = refl
any-pointer PointerSix a b c d x y behind = refl
any-pointer Length a b c d x y behind = refl

any-rest : (settings : Settings) (rest : Rest) (octet a b c d x y : ℕ) (behind : List ℕ)
    → rest_to_4 settings rest octet (a ∷ b ∷ x ∷ y ∷ behind) ≡ rest_to_4 settings rest octet (a ∷ b ∷ c ∷ d ∷ behind)
any-rest settings Same octet a b c d x y behind = refl
any-rest settings Zero octet a b c d x y behind = refl
any-rest settings Mtu octet a b c d x y behind = refl
any-rest settings Pointer octet a b c d x y behind = refl
any-rest settings PointerSix octet a b c d x y behind = refl
any-rest settings Length octet a b c d x y behind = refl

-- the error that is made, by what its pointer and its bytes 4 to 7 say
by-parts : Settings → NewKind → (message : List ℕ) → (pointer : Bool) → (rest : List ℕ) → Option (List ℕ)
by-parts settings new message pointer rest =
    let part = quoted_part6 message in
    if pointer && is_none (quote_refusal6 part) && is_mapped4 settings (ipv6_fields part)
    then Some (new.kind ∷ new.code ∷ 0 ∷ 0 ∷ rest ++ (new_body4 settings new message).bytes) else None

any-error : (settings : Settings) (a b c d x y : ℕ) (behind : List ℕ) (row : Result NewKind Rule)
    → error_if4 settings (a ∷ b ∷ x ∷ y ∷ behind) row ≡ error_if4 settings (a ∷ b ∷ c ∷ d ∷ behind) row
unfolding by-parts
any-error settings a b c d x y behind (Err rule) = refl
any-error settings a b c d x y behind (Ok new) =
    let octet : ℕ = (new_body4 settings new (a ∷ b ∷ c ∷ d ∷ behind)).octet in
    λ i. by-parts settings new (a ∷ b ∷ c ∷ d ∷ behind) (any-pointer new.rest a b c d x y behind i) (any-rest settings new.rest octet a b c d x y behind i)

pub checksum-unseen : (settings : Settings) (message : List ℕ) → 8 ≤ length message
    → error_backward settings (unsummed 2 message) ≡ error_backward settings message
unfolding error_backward
checksum-unseen settings (a ∷ b ∷ c ∷ d ∷ rest) there = any-error settings a b c d 0 0 rest (icmp_to_4 a b)
checksum-unseen settings (a ∷ b ∷ c ∷ []) there = absurd (omega arith)
checksum-unseen settings (a ∷ b ∷ []) there = absurd (omega arith)
checksum-unseen settings (a ∷ []) there = absurd (omega arith)
checksum-unseen settings [] there = absurd (omega arith)
