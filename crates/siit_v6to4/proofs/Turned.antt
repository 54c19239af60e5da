-- The bytes of a packet that is turned.
use Rattle.std.proofs.Common.{◌≡◌, ℕ, ◌+◌, ◌*◌, ◌/◌, ◌%◌, ◌^◌, ◌-◌, ◌<◌, ◌≤◌, List, [], ◌∷◌, ◌++◌, length, take, drop, Bool, true, false, not, Some, None, ◌==◌, if◌then◌else◌, ◌∙◌, ap, sym, refl, arith, length-append}
use Rattle.std.proofs.lemmas.Bool.Decides.{nat_tests}
use Rattle.std.proofs.lemmas.List.{drop-take, take-take, take-append-le, drop-append-le, length-take-le}
use Rattle.siit_model.specs.Bytes.{AreBytes, bytes16, bytes32, bytes128}
use Rattle.siit_model.specs.Extensions.{Walked}
use Rattle.siit_model.specs.Fragments.{fields_in}
use Rattle.siit_model.specs.Ipv6.{Ipv6Packet, ipv6_bytes, ipv6_fields, is_bad_header6, is_short6, payload_length_in, version6_in}
use Rattle.siit_rules.specs.declared.rule.Rule.{Rule}
use Rattle.siit_rules.specs.declared.rule.Rule.TheVariants.{Short6, BadHeader6}
use Rattle.siit_views.specs.Headers.{refusal6}
use Rattle.siit_checksum.proofs.Fields.{length-if}
use Rattle.siit_upper.proofs.Moved.{length-tcp_moved, length-udp_moved, length-icmp_moved}
use Rattle.siit_v6to4.specs.Turns.{turned_part, turned_upper}
use Rattle.siit_v6to4.proofs.Heads.{body-is, body-length}

pub upper-length : (protocol old new : ℕ) (part : List ℕ) → length (turned_upper protocol old new part) ≡ length part
upper-length protocol old new part =
    length-if (protocol == 6) _ _ (length part) (λ (_ : (protocol == 6) ≡ true). length-tcp_moved old new part)
    (length-if (protocol == 17) _ _ (length part) (λ (_ : (protocol == 17) ≡ true). length-udp_moved old new part)
    (length-if (protocol == 58) _ part (length part) (λ (_ : (protocol == 58) ≡ true). length-icmp_moved old new part) refl))

pub part-length : (old new : ℕ) (walked : Walked) (part : List ℕ) → length (turned_part old new walked part) ≡ length part
part-length old new walked part =
    length-if ((fields_in walked.fragment).offset == 0) _ part (length part) (λ (_ : ((fields_in walked.fragment).offset == 0) ≡ true). upper-length walked.upper old new part) refl

-- four bytes that are read as a number, and written again
word-read : (a b c d : ℕ) → b < 256 → c < 256 → d < 256 → a / 16 ≡ 6
    → 6 * 2 ^ 28 + (a * 256 + b) / 16 % 256 * 2 ^ 20 + ((a * 256 + b) * 65536 + (c * 256 + d)) % 1048576 ≡ (a * 256 + b) * 65536 + (c * 256 + d)
word-read a b c d small_b small_c small_d six = omega arith

listed : (w x y z a b c d : ℕ) → w ≡ a → x ≡ b → y ≡ c → z ≡ d → w ∷ x ∷ y ∷ z ∷ [] ≡ a ∷ b ∷ c ∷ d ∷ []
listed w x y z a b c d e f g h = rw (e, f, g, h) refl

word-written : (a b c d : ℕ) → a < 256 → b < 256 → c < 256 → d < 256 → bytes32 ((a * 256 + b) * 65536 + (c * 256 + d)) ≡ a ∷ b ∷ c ∷ d ∷ []
word-written a b c d small_a small_b small_c small_d = listed _ _ _ _ a b c d (omega arith) (omega arith) (omega arith) (omega arith)

two-written : (a b : ℕ) → a < 256 → b < 256 → bytes16 (a * 256 + b) ≡ a ∷ b ∷ []
two-written a b small_a small_b =
    let one : (a * 256 + b) / 256 % 256 ≡ a = omega arith in
    let two : (a * 256 + b) % 256 ≡ b = omega arith in
    rw (one, two) refl

-- what stands before the addresses, as it is written
abbrev before : ℕ → Ipv6Packet → List ℕ
before len packet = bytes32 (6 * 2 ^ 28 + packet.class * 2 ^ 20 + packet.flow) ++ bytes16 len ++ packet.next ∷ packet.hop ∷ []

before-is : (bytes : List ℕ) → AreBytes bytes → version6_in bytes ≡ 6 → 8 ≤ length bytes → take 8 bytes ≡ before (payload_length_in bytes) (ipv6_fields bytes)
before-is [] small six there = absurd (omega arith)
before-is (a ∷ []) small six there = absurd (omega arith)
before-is (a ∷ b ∷ []) small six there = absurd (omega arith)
before-is (a ∷ b ∷ c ∷ []) small six there = absurd (omega arith)
before-is (a ∷ b ∷ c ∷ d ∷ []) small six there = absurd (omega arith)
before-is (a ∷ b ∷ c ∷ d ∷ e ∷ []) small six there = absurd (omega arith)
before-is (a ∷ b ∷ c ∷ d ∷ e ∷ f ∷ []) small six there = absurd (omega arith)
before-is (a ∷ b ∷ c ∷ d ∷ e ∷ f ∷ g ∷ []) small six there = absurd (omega arith)
before-is (a ∷ b ∷ c ∷ d ∷ e ∷ f ∷ g ∷ h ∷ rest) small six there =
    let word : bytes32 (6 * 2 ^ 28 + (a * 256 + b) / 16 % 256 * 2 ^ 20 + ((a * 256 + b) * 65536 + (c * 256 + d)) % 1048576) ≡ a ∷ b ∷ c ∷ d ∷ [] =
    ap bytes32 (word-read a b c d (small 1) (small 2) (small 3) six) ∙ word-written a b c d (small 0) (small 1) (small 2) (small 3) in
    let len : bytes16 (e * 256 + f) ≡ e ∷ f ∷ [] = two-written e f (small 4) (small 5) in
    sym (ap (λ w. w ++ bytes16 (e * 256 + f) ++ g ∷ h ∷ []) word ∙ ap (λ w. (a ∷ b ∷ c ∷ d ∷ []) ++ w ++ g ∷ h ∷ []) len)

accepted : (short bad : Bool) (one other : Rule) → (if short then Some one else if bad then Some other else None) ≡ None → bad ≡ false
accepted true bad one other none = absurd cc
accepted false true one other none = absurd cc
accepted false false one other none = refl

six-is : (version : ℕ) → not (version == 6) ≡ false → version ≡ 6
six-is version is = grind (arith, nat_tests)

pub version-accepted : (bytes : List ℕ) → refusal6 bytes ≡ None → version6_in bytes ≡ 6
version-accepted bytes none = six-is (version6_in bytes) (accepted (is_short6 bytes) (is_bad_header6 bytes) Short6 BadHeader6 none)

-- other addresses, and another part behind `at` bytes of the body
pub turned-is : (bytes between after part : List ℕ) (source destination at : ℕ) → AreBytes bytes → version6_in bytes ≡ 6
    → length bytes ≡ 40 + payload_length_in bytes → at ≤ payload_length_in bytes
    → between ≡ take (40 + at) bytes ++ part → length part ≡ payload_length_in bytes - at
    → after ≡ take 8 between ++ bytes128 source ++ bytes128 destination ++ drop 40 between
    → after ≡ ipv6_bytes (record (ipv6_fields bytes) { source = source; destination = destination; body = take at (ipv6_fields bytes).body ++ part })
turned-is bytes between after part source destination at small six whole within is_between is_part is_after =
    let packet : Ipv6Packet = ipv6_fields bytes in
    let long : length (take (40 + at) bytes) ≡ 40 + at = length-take-le (40 + at) bytes (omega arith) in
    let first : take 8 between ≡ before (payload_length_in bytes) packet =
    ap (take 8) is_between ∙ take-append-le 8 (take (40 + at) bytes) part (omega arith) ∙ take-take 8 (40 + at) bytes (omega arith) ∙ before-is bytes small six (omega arith) in
    let body : List ℕ = take at packet.body ++ part in
    let last : drop 40 between ≡ body =
    ap (drop 40) is_between ∙ drop-append-le 40 (take (40 + at) bytes) part (omega arith)
    ∙ ap (λ l. l ++ part) (drop-take 40 at bytes ∙ ap (take at) (sym (body-is bytes whole))) in
    let lengths : payload_length_in bytes ≡ length body =
    omega (arith, length-append (take at packet.body) part, length-take-le at packet.body (omega (arith, body-length bytes whole)), is_part) in
    is_after
    ∙ ap (λ l. l ++ bytes128 source ++ bytes128 destination ++ drop 40 between) first
    ∙ ap (λ l. before (payload_length_in bytes) packet ++ bytes128 source ++ bytes128 destination ++ l) last
    ∙ ap (λ n. before n packet ++ bytes128 source ++ bytes128 destination ++ body) lengths
