-- A part whose checksum is moved stays bytes, and stays as long.
use Rattle.std.proofs.Common.{◌≡◌, ℕ, ◌<◌, List, length, slice_set, Bool, true, false, nat_lt, ◌&&◌, ◌∙◌, refl, subst, sym}
use Rattle.std.proofs.lemmas.Bool.{ltb-true}
use Rattle.siit_model.specs.Bytes.{AreBytes, field16}
use Rattle.siit_model.specs.Upper.{has_field16}
use Rattle.siit_upper.specs.Moves.{echo_moved, icmp_moved, tcp_moved, udp_moved}
use Rattle.siit_checksum.proofs.Fields.{bytes-with_field16, bytes-set_first, bytes-if, length-with_field16, length-set_first, length-if}

pub bytes-tcp_moved : (old new : ℕ) (part : List ℕ) → AreBytes part → AreBytes (tcp_moved old new part)
bytes-tcp_moved old new part small = bytes-if (has_field16 part 16) _ part (bytes-with_field16 part 16 _ small) small

pub bytes-udp_moved : (old new : ℕ) (part : List ℕ) → AreBytes part → AreBytes (udp_moved old new part)
bytes-udp_moved old new part small = bytes-if (has_field16 part 6 && nat_lt 0 (field16 part 6)) _ part (bytes-with_field16 part 6 _ small) small

pub bytes-echo_moved : (kind old new : ℕ) (part : List ℕ) → kind < 256 → AreBytes part → AreBytes (echo_moved kind old new part)
bytes-echo_moved kind old new part byte small =
    let turned : AreBytes (slice_set part 0 kind) = bytes-set_first part kind byte small in
    bytes-if (has_field16 part 2) _ (slice_set part 0 kind) (bytes-with_field16 (slice_set part 0 kind) 2 _ turned) turned

and-first : (a b : Bool) → (a && b) ≡ true → a ≡ true
and-first true b both = refl
and-first false b both = both

pub length-tcp_moved : (old new : ℕ) (part : List ℕ) → length (tcp_moved old new part) ≡ length part
length-tcp_moved old new part =
    length-if (has_field16 part 16) _ part (length part) (λ (has : has_field16 part 16 ≡ true). length-with_field16 part 16 _ (ltb-true 17 (length part) has)) refl

pub length-udp_moved : (old new : ℕ) (part : List ℕ) → length (udp_moved old new part) ≡ length part
length-udp_moved old new part =
    length-if (has_field16 part 6 && nat_lt 0 (field16 part 6)) _ part (length part)
    (λ (has : (has_field16 part 6 && nat_lt 0 (field16 part 6)) ≡ true). length-with_field16 part 6 _ (ltb-true 7 (length part) (and-first (has_field16 part 6) _ has))) refl

pub length-echo_moved : (kind old new : ℕ) (part : List ℕ) → length (echo_moved kind old new part) ≡ length part
length-echo_moved kind old new part =
    let same : length (slice_set part 0 kind) ≡ length part = length-set_first part kind in
    length-if (has_field16 part 2) _ (slice_set part 0 kind) (length part)
    (λ (has : has_field16 part 2 ≡ true). length-with_field16 (slice_set part 0 kind) 2 _ (subst (λ n. 3 < n) (sym same) (ltb-true 3 (length part) has)) ∙ same) same

pub bytes-icmp_moved : (old new : ℕ) (part : List ℕ) → AreBytes part → AreBytes (icmp_moved old new part)
bytes-icmp_moved old new part small = bytes-if (has_field16 part 2) _ part (bytes-with_field16 part 2 _ small) small

pub length-icmp_moved : (old new : ℕ) (part : List ℕ) → length (icmp_moved old new part) ≡ length part
length-icmp_moved old new part =
    length-if (has_field16 part 2) _ part (length part) (λ (has : has_field16 part 2 ≡ true). length-with_field16 part 2 _ (ltb-true 3 (length part) has)) refl
