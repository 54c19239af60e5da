-- An IPv4 text that is written is read again.
use Rattle.std.proofs.Common.{◌≡◌, ℕ, ◌+◌, ◌*◌, ◌/◌, ◌%◌, ◌<◌, List, [], ◌∷◌, ◌++◌, Some, ap, ◌∙◌, arith, append_assoc}
use Rattle.std.specs.Prelude.{option_map}
use Rattle.std.proofs.Math.Nat.{div-div-eq-div-mul}
use Rattle.siit_addr.specs.Texts.{parts_at, point, octet_of, ipv4_of_parts, ipv4_of_text}
use Rattle.siit_addr.specs.Canonical.{decimal_text, ipv4_text}
use Rattle.siit_addr.proofs.NumberIn.{number_on}
use Rattle.siit_addr.proofs.Lacking.{Lacks, parts_at-front, parts_at-only, point_is_no_digit, Lacks-decimal_text}
use Rattle.siit_addr.proofs.DigitTexts.{octet_of-decimal_text}

-- four texts with points between them are four parts
four_parts : (a b c d : List ℕ) → Lacks point a → Lacks point b → Lacks point c → Lacks point d → parts_at point (a ++ point ∷ [] ++ b ++ point ∷ [] ++ c ++ point ∷ [] ++ d) ≡ a ∷ b ∷ c ∷ d ∷ []
four_parts a b c d la lb lc ld =
    simp append_assoc
    (parts_at-front point a (b ++ point ∷ (c ++ point ∷ d)) la
    ∙ ap (λ parts. a ∷ parts) (parts_at-front point b (c ++ point ∷ d) lb
    ∙ ap (λ parts. b ∷ parts) (parts_at-front point c d lc ∙ ap (λ parts. c ∷ parts) (parts_at-only point d ld))))

one_more : (n o : ℕ) (parts : List (List ℕ)) → o < 256 → number_on 256 octet_of (Some n) (decimal_text o ∷ parts) ≡ number_on 256 octet_of (Some (n * 256 + o)) parts
one_more n o parts h =
    ap (λ octet. number_on 256 octet_of (option_map (λ d. n * 256 + d) octet) parts) (octet_of-decimal_text o h)

four_octets : (a b c d : ℕ) → a < 256 → b < 256 → c < 256 → d < 256 → ipv4_of_parts (decimal_text a ∷ decimal_text b ∷ decimal_text c ∷ decimal_text d ∷ []) ≡ Some (((a * 256 + b) * 256 + c) * 256 + d)
four_octets a b c d ha hb hc hd =
    one_more 0 a (decimal_text b ∷ decimal_text c ∷ decimal_text d ∷ []) ha
    ∙ one_more (0 * 256 + a) b (decimal_text c ∷ decimal_text d ∷ []) hb
    ∙ one_more ((0 * 256 + a) * 256 + b) c (decimal_text d ∷ []) hc
    ∙ one_more (((0 * 256 + a) * 256 + b) * 256 + c) d [] hd
    ∙ ap Some (omega arith)

pub ipv4_of_text-ipv4_text : (a : ℕ) → a < 4294967296 → ipv4_of_text (ipv4_text a) ≡ Some a
ipv4_of_text-ipv4_text a h =
    let first = a / 16777216 % 256 in
    let second = a / 65536 % 256 in
    let third = a / 256 % 256 in
    let fourth = a % 256 in
    ap ipv4_of_parts (four_parts (decimal_text first) (decimal_text second) (decimal_text third) (decimal_text fourth)
    (Lacks-decimal_text point first point_is_no_digit) (Lacks-decimal_text point second point_is_no_digit)
    (Lacks-decimal_text point third point_is_no_digit) (Lacks-decimal_text point fourth point_is_no_digit))
    ∙ four_octets first second third fourth (omega arith) (omega arith) (omega arith) (omega arith)
    ∙ ap Some (omega (arith, div-div-eq-div-mul a 256 256, div-div-eq-div-mul a 65536 256))
