-- The bytes of an ICMPv6 error that became an ICMPv4 error.
use Rattle.std.proofs.Common.{◌≡◌, ℕ, ◌+◌, ◌%◌, ◌≤◌, List, [], ◌∷◌, ◌++◌, length, take, drop, Option, ◌∙◌, ap, sym, subst, refl, arith, append_assoc, length-append, length-drop}
use Rattle.std.proofs.lemmas.List.{drop-drop, drop-take, drop_at, length-take-le, take-append-le, drop-append-le, take-take}
use Rattle.siit_model.specs.Bytes.{part, bytes16, field16, with_field16}
use Rattle.siit_model.specs.Checksum.{moved, residue}
use Rattle.siit_checksum.proofs.Residues.{residue-append}
use Rattle.siit_model.specs.Extensions.{Walked}
use Rattle.siit_model.specs.Ipv6.{ipv6_fields}
use Rattle.siit_icmp.specs.declared.kinds.NewKind.{NewKind}
use Rattle.siit_icmp.specs.declared.kinds.Rest.{Rest}
use Rattle.siit_icmp.specs.declared.kinds.Rest.TheVariants.{Same, Zero, Mtu, Pointer, PointerSix, Length}
use Rattle.siit_quoted.specs.Bodies.{NewBody}
use Rattle.siit_quoted.specs.Errors.{body_to_4, error_moved}
use Rattle.siit_quoted.specs.Rewriting.{walked_body_to_4}
use Rattle.siit_quoted.specs.Sums.{IsDifference}
use Rattle.siit_quoted.specs.declared.sums.Sums.{Sums}
use Rattle.siit_quoted.proofs.Differences.{checksum-moved}
use Rattle.siit_roles.specs.declared.settings.Settings.{Settings}
use Rattle.siit_views.specs.Contents.{rewritten}
use Rattle.siit_views.proofs.Places.{rewritten-same}
use Rattle.siit_device.specs.Addresses.{to4}
use Rattle.siit_device.specs.Arrival6.{quoted_part6}
use Rattle.siit_device.specs.Backward.{new_body4, rest_to_4}
use Rattle.siit_arrival6.specs.Arrived.{HasError6}
use Rattle.siit_arrival6.specs.declared.arrived.Error6.{Error6}
use Rattle.siit_departure4.specs.Parts.{head_written}

-- bytes 4 to 7 are four, and hang on the first 8 bytes
module _ (settings : Settings) (octet a b c d e f g h : ℕ) (body : List ℕ) where
  rest-same : (rest : Rest) → rest_to_4 settings rest octet (a ∷ b ∷ c ∷ d ∷ e ∷ f ∷ g ∷ h ∷ []) ≡ rest_to_4 settings rest octet (a ∷ b ∷ c ∷ d ∷ e ∷ f ∷ g ∷ h ∷ body)
  rest-same Same = refl
  rest-same Zero = refl
  rest-same Length = refl
  rest-same Mtu = refl
  rest-same Pointer = refl
  rest-same PointerSix = refl

  rest-length : (rest : Rest) → length (rest_to_4 settings rest octet (a ∷ b ∷ c ∷ d ∷ e ∷ f ∷ g ∷ h ∷ body)) ≡ 4
  rest-length Same = refl
  rest-length Zero = refl
  rest-length Length = refl
  rest-length Mtu = refl
  rest-length Pointer = refl
  rest-length PointerSix = refl

-- the message that is written, its body known by what went and came
pub error-written : (settings : Settings) (pseudo : ℕ) (new : NewKind) (octet : ℕ) (sums : Sums) (nb : NewBody) (gone come : ℕ) (message : List ℕ) → 8 ≤ length message
    → octet ≡ nb.octet → sums.gone ≡ (pseudo + gone) % 65535 → sums.come ≡ come → IsDifference (drop 8 message) nb.bytes gone come
    → head_written settings new octet sums (take 8 message) ++ nb.bytes
    ≡ error_moved pseudo 0 new.kind new.code (rest_to_4 settings new.rest nb.octet message) nb message
error-written settings pseudo new octet sums nb gone come (a ∷ b ∷ c ∷ d ∷ e ∷ f ∷ g ∷ h ∷ body) long is_octet is_gone is_come change =
    let message : List ℕ = a ∷ b ∷ c ∷ d ∷ e ∷ f ∷ g ∷ h ∷ body in
    let head : List ℕ = a ∷ b ∷ c ∷ d ∷ e ∷ f ∷ g ∷ h ∷ [] in
    let rest : List ℕ = rest_to_4 settings new.rest nb.octet message in
    let is_rest : rest_to_4 settings new.rest octet head ≡ rest =
    ap (λ n. rest_to_4 settings new.rest n head) is_octet ∙ rest-same settings nb.octet a b c d e f g h body new.rest in
    let blank : List ℕ = new.kind ∷ new.code ∷ 0 ∷ 0 ∷ rest in
    let four = rest-length settings nb.octet a b c d e f g h body new.rest in
    let blanked : List ℕ = a ∷ b ∷ 0 ∷ 0 ∷ e ∷ f ∷ g ∷ h ∷ [] in
    let before : (sums.gone + residue blanked) % 65535 ≡ ((pseudo + residue blanked) + gone) % 65535 = omega (arith, is_gone) in
    let old : (pseudo + residue (blanked ++ body)) % 65535 ≡ ((pseudo + residue blanked) + residue body) % 65535 = omega (arith, residue-append blanked body refl) in
    let made : (0 + residue (blank ++ nb.bytes)) % 65535 ≡ (residue blank + residue nb.bytes) % 65535 = omega (arith, residue-append blank nb.bytes (omega (arith, four))) in
    let sum : moved (field16 message 2) ((sums.gone + residue blanked) % 65535) ((sums.come + residue blank) % 65535)
    ≡ moved (field16 message 2) ((pseudo + residue (blanked ++ body)) % 65535) ((0 + residue (blank ++ nb.bytes)) % 65535) =
    ap (λ n. moved (field16 message 2) n ((sums.come + residue blank) % 65535)) before
    ∙ ap (λ n. moved (field16 message 2) (((pseudo + residue blanked) + gone) % 65535) (n % 65535)) (let x : sums.come + residue blank ≡ residue blank + come = omega arith in x)
    ∙ sym (checksum-moved (field16 message 2) (pseudo + residue blanked) (residue blank) body nb.bytes gone come change)
    ∙ ap (λ n. moved (field16 message 2) n ((residue blank + residue nb.bytes) % 65535)) (sym old)
    ∙ ap (λ n. moved (field16 message 2) ((pseudo + residue (blanked ++ body)) % 65535) n) (sym made) in
    ap (λ (r : List ℕ). new.kind ∷ new.code ∷ bytes16 (moved (field16 head 2) ((sums.gone + residue (with_field16 head 2 0)) % 65535) ((sums.come + residue (new.kind ∷ new.code ∷ 0 ∷ 0 ∷ r)) % 65535)) ++ r ++ nb.bytes) is_rest
    ∙ ap (λ n. new.kind ∷ new.code ∷ bytes16 n ++ rest ++ nb.bytes) sum
error-written settings pseudo new octet sums nb gone come [] long is_octet is_gone is_come change = absurd (omega arith)
error-written settings pseudo new octet sums nb gone come (a ∷ []) long is_octet is_gone is_come change = absurd (omega arith)
error-written settings pseudo new octet sums nb gone come (a ∷ b ∷ []) long is_octet is_gone is_come change = absurd (omega arith)
error-written settings pseudo new octet sums nb gone come (a ∷ b ∷ c ∷ []) long is_octet is_gone is_come change = absurd (omega arith)
error-written settings pseudo new octet sums nb gone come (a ∷ b ∷ c ∷ d ∷ []) long is_octet is_gone is_come change = absurd (omega arith)
error-written settings pseudo new octet sums nb gone come (a ∷ b ∷ c ∷ d ∷ e ∷ []) long is_octet is_gone is_come change = absurd (omega arith)
error-written settings pseudo new octet sums nb gone come (a ∷ b ∷ c ∷ d ∷ e ∷ f ∷ []) long is_octet is_gone is_come change = absurd (omega arith)
error-written settings pseudo new octet sums nb gone come (a ∷ b ∷ c ∷ d ∷ e ∷ f ∷ g ∷ []) long is_octet is_gone is_come change = absurd (omega arith)

-- the body that was rewritten, behind the old header
pub record IsBehind (old body mid : List ℕ) (at : ℕ) : Type 0 where
  pub front : take at mid ≡ take at old
  pub header : part mid at 8 ≡ take 8 (drop at old)
  pub rest : drop (at + 8) mid ≡ body
  pub size : length mid ≡ at + 8 + length body

pub behind-header : (old cut body mid : List ℕ) (at len : ℕ) → at + 8 ≤ length old → cut ≡ take (at + 8 + len) old → mid ≡ take (at + 8) cut ++ body → IsBehind old body mid at
behind-header old cut body mid at len inside is_cut is_mid =
    let front : List ℕ = take (at + 8) old in
    let size : length front ≡ at + 8 = length-take-le (at + 8) old inside in
    let is : mid ≡ front ++ body = is_mid ∙ ap (λ l. take (at + 8) l ++ body) is_cut ∙ ap (λ l. l ++ body) (take-take (at + 8) (at + 8 + len) old (omega arith)) in
    record {
      front = ap (take at) is ∙ take-append-le at front body (omega (arith, size)) ∙ take-take at (at + 8) old (omega arith);
      header =
          ap (λ l. part l at 8) is ∙ ap (take 8) (drop-append-le at front body (omega (arith, size)) ∙ ap (λ l. l ++ body) (drop-take at 8 old))
          ∙ take-append-le 8 (take 8 (drop at old)) body (omega (arith, length-take-le 8 (drop at old) (omega (arith, length-drop at old)))) ∙ take-take 8 8 (drop at old) (omega arith);
      rest = ap (drop (at + 8)) is ∙ drop_at front body (at + 8) size;
      size = ap length is ∙ length-append front body ∙ ap (λ n. n + length body) size;
    }

-- what is left to be translated, once the end was cut off
pub body-left : (old cut : List ℕ) (at len : ℕ) → cut ≡ take (at + 8 + len) old → drop (at + 8) cut ≡ take len (drop 8 (drop at old))
body-left old cut at len is =
    ap (drop (at + 8)) is ∙ drop-take (at + 8) len old ∙ ap (take len) (sym (drop-drop 8 at old))

-- the new body by the addresses that the device gives
body-mapped : (settings : Settings) (message : List ℕ) (error : Error6) → HasError6 settings message error
    → body_to_4 error.quote.src.0 error.quote.dst.0 settings.tos_zero error.new.kind message ≡ new_body4 settings error.new message
body-mapped settings message error has =
    let mapped = has.quote in
    ap (λ s. body_to_4 s error.quote.dst.0 settings.tos_zero error.new.kind message) (sym mapped.source_is)
    ∙ ap (λ d. body_to_4 (to4 settings (ipv6_fields (quoted_part6 message)).source) d settings.tos_zero error.new.kind message) (sym mapped.destination_is)

-- and as it is written, of a message that is read
pub body-made : (settings : Settings) (seen message left : List ℕ) (error : Error6) (w : Walked) (ext : Option ℕ) (len : ℕ) → seen ≡ message
    → left ≡ take len (drop 8 message)
    → walked_body_to_4 error.quote.src.0 error.quote.dst.0 settings.tos_zero w ext (take len (drop 8 seen))
    ≡ body_to_4 error.quote.src.0 error.quote.dst.0 settings.tos_zero error.new.kind seen
    → HasError6 settings message error
    → walked_body_to_4 error.quote.src.0 error.quote.dst.0 settings.tos_zero w ext left ≡ new_body4 settings error.new message
body-made settings seen message left error w ext len same is_left made has =
    let body = λ (l : List ℕ). walked_body_to_4 error.quote.src.0 error.quote.dst.0 settings.tos_zero w ext l in
    ap body (is_left ∙ ap (λ m. take len (drop 8 m)) (sym same)) ∙ made
    ∙ ap (body_to_4 error.quote.src.0 error.quote.dst.0 settings.tos_zero error.new.kind) same ∙ body-mapped settings message error has

pub change-made : (settings : Settings) (seen message : List ℕ) (error : Error6) (gone come : ℕ) → seen ≡ message
    → IsDifference (drop 8 seen) (body_to_4 error.quote.src.0 error.quote.dst.0 settings.tos_zero error.new.kind seen).bytes gone come
    → HasError6 settings message error → IsDifference (drop 8 message) (new_body4 settings error.new message).bytes gone come
change-made settings seen message error gone come same change has =
    subst (λ (b : NewBody). IsDifference (drop 8 message) b.bytes gone come) (body-mapped settings message error has)
    (subst (λ m. IsDifference (drop 8 m) (body_to_4 error.quote.src.0 error.quote.dst.0 settings.tos_zero error.new.kind m).bytes gone come) same change)

pub made-shorter : (settings : Settings) (seen message : List ℕ) (error : Error6) → seen ≡ message
    → length (body_to_4 error.quote.src.0 error.quote.dst.0 settings.tos_zero error.new.kind seen).bytes ≤ length (drop 8 seen)
    → HasError6 settings message error → length (new_body4 settings error.new message).bytes ≤ length (drop 8 message)
made-shorter settings seen message error same shorter has =
    subst (λ (b : NewBody). length b.bytes ≤ length (drop 8 message)) (body-mapped settings message error has)
    (subst (λ m. length (body_to_4 error.quote.src.0 error.quote.dst.0 settings.tos_zero error.new.kind m).bytes ≤ length (drop 8 m)) same shorter)

-- the whole packet with the new message
pub error-put : (settings : Settings) (old mid lent left : List ℕ) (at pseudo : ℕ) (new : NewKind) (octet : ℕ) (sums : Sums) (nb : NewBody) (gone come : ℕ)
    → lent ≡ mid → length left ≡ length lent → left ≡ take at lent ++ head_written settings new octet sums (part lent at 8) ++ drop (at + 8) lent
    → IsBehind old nb.bytes mid at → 8 ≤ length (drop at old) → octet ≡ nb.octet → sums.gone ≡ (pseudo + gone) % 65535 → sums.come ≡ come
    → IsDifference (drop 8 (drop at old)) nb.bytes gone come
    → rewritten mid left ≡ take at old ++ error_moved pseudo 0 new.kind new.code (rest_to_4 settings new.rest nb.octet (drop at old)) nb (drop at old)
error-put settings old mid lent left at pseudo new octet sums nb gone come same long is_left behind header is_octet is_gone is_come change =
    let message : List ℕ = drop at old in
    let head = head_written settings new octet sums in
    rewritten-same mid left (long ∙ ap length same) ∙ is_left
    ∙ ap (λ (b : List ℕ). take at b ++ head (part b at 8) ++ drop (at + 8) b) same
    ∙ ap (λ l. l ++ head (part mid at 8) ++ drop (at + 8) mid) behind.front
    ∙ ap (λ l. take at old ++ head l ++ drop (at + 8) mid) behind.header
    ∙ ap (λ l. take at old ++ head (take 8 message) ++ l) behind.rest
    ∙ append_assoc (take at old) (head (take 8 message)) nb.bytes
    ∙ ap (λ l. take at old ++ l) (error-written settings pseudo new octet sums nb gone come message header is_octet is_gone is_come change)
