-- Checksums that are moved by a difference.
use Rattle.std.proofs.Common.{◌≡◌, ℕ, ◌+◌, ◌-◌, ◌*◌, ◌/◌, ◌%◌, ◌<◌, ◌≤◌, List, ◌++◌, length, ◌∙◌, ap, sym, arith, append_assoc}
use Rattle.std.proofs.lemmas.Bool.Decides.{nat_tests}
use Rattle.siit_model.specs.Bytes.{field16, with_field16}
use Rattle.siit_model.specs.Checksum.{residue, moved, moved_between, without_zero}
use Rattle.siit_checksum.proofs.Residues.{residue-append, residue-with_field16}

same-remainder : (u v m n : ℕ) → u + 65535 * m ≡ v + 65535 * n → u % 65535 ≡ v % 65535
same-remainder u v m n same =
    let one : (u + 65535 * m) % 65535 ≡ u % 65535 = omega arith in
    let two : (v + 65535 * n) % 65535 ≡ v % 65535 = omega arith in
    sym one ∙ ap (λ k. k % 65535) same ∙ two

pub moved_by_difference : (checksum old new other_old other_new : ℕ) → new ≤ 65535 → other_new ≤ 65535
    → (old + other_new) % 65535 ≡ (other_old + new) % 65535 → moved checksum old new ≡ moved checksum other_old other_new
moved_by_difference checksum old new other_old other_new small other_small same =
    same-remainder (checksum + old + (65535 - new)) (checksum + other_old + (65535 - other_new)) ((other_old + new) / 65535) ((old + other_new) / 65535) (omega (arith, same))

added : (old new same : ℕ) → ((old + same) % 65535 + new) % 65535 ≡ (old + (new + same) % 65535) % 65535
added old new same = omega arith

pub only_differences_count : (checksum old new same : ℕ) → old ≤ 65535 → new ≤ 65535
    → moved checksum ((old + same) % 65535) ((new + same) % 65535) ≡ moved checksum old new
only_differences_count checksum old new same small_old small_new =
    moved_by_difference checksum ((old + same) % 65535) ((new + same) % 65535) old new (omega arith) small_new (added old new same)

pub moved_in_turn : (checksum old new other_old other_new : ℕ) → new ≤ 65535 → other_new ≤ 65535
    → moved (moved checksum old new) other_old other_new ≡ moved checksum ((old + other_old) % 65535) ((new + other_new) % 65535)
moved_in_turn checksum old new other_old other_new small other_small =
    let first : ℕ = checksum + old + (65535 - new) in
    same-remainder (first % 65535 + other_old + (65535 - other_new)) (checksum + (old + other_old) % 65535 + (65535 - (new + other_new) % 65535))
    (first / 65535 + (new + other_new) / 65535) ((old + other_old) / 65535 + 1) (omega arith)

pub changed_part_residue : (front old new back : List ℕ) → length front % 2 ≡ 0 → length old % 2 ≡ 0 → length new % 2 ≡ 0
    → (residue (front ++ old ++ back) + residue new) % 65535 ≡ (residue (front ++ new ++ back) + residue old) % 65535
changed_part_residue front old new back even_front even_old even_new =
    let one = residue-append front (old ++ back) even_front in
    let two = residue-append front (new ++ back) even_front in
    let three = residue-append old back even_old in
    let four = residue-append new back even_new in
    omega (arith, one, two, three, four, ap residue (append_assoc front old back), ap residue (append_assoc front new back))

-- a checksum set into bytes whose field counted as zero
balanced : (p q c o blank_old blank_new written checksum : ℕ) → (blank_old + c) % 65535 ≡ o % 65535 → written % 65535 ≡ (blank_new + checksum) % 65535
    → checksum % 65535 ≡ moved c ((p + blank_old) % 65535) ((q + blank_new) % 65535) → (q + written) % 65535 ≡ (p + o) % 65535
balanced p q c o blank_old blank_new written checksum is_old is_written is_checksum =
    let m : ℕ = (q + blank_new) % 65535 in
    let small : m < 65535 = omega arith in
    let sum : (checksum + m) % 65535 ≡ (c + (p + blank_old) % 65535) % 65535 = omega (arith, is_checksum) in
    omega (arith, is_old, is_written, sum)

-- the field as zero, and as a number
blank-is : (bytes : List ℕ) (place : ℕ) → place % 2 ≡ 0 → place + 2 ≤ length bytes → (residue (with_field16 bytes place 0) + field16 bytes place) % 65535 ≡ residue bytes % 65535
blank-is bytes place even inside = omega (arith, residue-with_field16 bytes place 0 even inside (omega arith))

written-is : (bytes : List ℕ) (place value : ℕ) → place % 2 ≡ 0 → place + 2 ≤ length bytes → value < 65536
    → residue (with_field16 bytes place value) % 65535 ≡ (residue (with_field16 bytes place 0) + value) % 65535
written-is bytes place value even inside small =
    let one = residue-with_field16 bytes place 0 even inside (omega arith) in
    let two = residue-with_field16 bytes place value even inside small in
    omega (arith, one, two)

keeps : (place p q checksum : ℕ) (old new : List ℕ) → place % 2 ≡ 0 → place + 2 ≤ length old → place + 2 ≤ length new → checksum < 65536
    → checksum % 65535 ≡ moved_between place p q old new → (q + residue (with_field16 new place checksum)) % 65535 ≡ (p + residue old) % 65535
keeps place p q checksum old new even in_old in_new small is =
    balanced p q (field16 old place) (residue old) (residue (with_field16 old place 0)) (residue (with_field16 new place 0)) (residue (with_field16 new place checksum)) checksum
    (blank-is old place even in_old) (written-is new place checksum even in_new small) is

pub moved_between_keeps_residue : (place old_pseudo new_pseudo : ℕ) (old new : List ℕ) → place % 2 ≡ 0 → place + 2 ≤ length old → place + 2 ≤ length new
    → (new_pseudo + residue (with_field16 new place (moved_between place old_pseudo new_pseudo old new))) % 65535 ≡ (old_pseudo + residue old) % 65535
moved_between_keeps_residue place p q old new even in_old in_new =
    keeps place p q (moved_between place p q old new) old new even in_old in_new (omega arith) (omega arith)

nonzero-same : (n : ℕ) → n < 65535 → without_zero n % 65535 ≡ n
nonzero-same n small = grind (arith, nat_tests)

nonzero-small : (n : ℕ) → n < 65535 → without_zero n < 65536
nonzero-small n small = grind (arith, nat_tests)

below : (n : ℕ) → n % 65535 < 65535
below n = omega arith

pub moved_udp_between_keeps_residue : (place old_pseudo new_pseudo : ℕ) (old new : List ℕ) → place % 2 ≡ 0 → place + 2 ≤ length old → place + 2 ≤ length new
    → (new_pseudo + residue (with_field16 new place (without_zero (moved_between place old_pseudo new_pseudo old new)))) % 65535
    ≡ (old_pseudo + residue old) % 65535
moved_udp_between_keeps_residue place p q old new even in_old in_new =
    let small : moved_between place p q old new < 65535 = below _ in
    keeps place p q (without_zero (moved_between place p q old new)) old new even in_old in_new
    (nonzero-small (moved_between place p q old new) small) (nonzero-same (moved_between place p q old new) small)
