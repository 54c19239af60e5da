-- Transport checksums as they are moved are instances of the one rule.
use Rattle.std.proofs.Common.{◌≡◌, ℕ, ◌+◌, ◌*◌, ◌%◌, ◌<◌, ◌≤◌, List, [], ◌∷◌, length, slice_set, Bool, true, nat_lt, ◌&&◌, if◌then◌else◌, ◌∙◌, ap, sym, refl, arith}
use Rattle.std.proofs.lemmas.Bool.{lt-ltb}
use Rattle.siit_model.specs.Bytes.{AreBytes, field16, with_field16}
use Rattle.siit_model.specs.Checksum.{words_sum, residue, moved, moved_between, without_zero}
use Rattle.siit_model.specs.Upper.{has_field16}
use Rattle.siit_upper.specs.Moves.{echo_moved, icmp_moved, tcp_moved, udp_moved}
use Rattle.siit_checksum.proofs.Moves.{moved_by_difference, moved_in_turn, only_differences_count}

when : (test : Bool) (a b : List ℕ) → test ≡ true → (if test then a else b) ≡ a
when test a b is = rw is refl

both : (a b : Bool) → a ≡ true → b ≡ true → (a && b) ≡ true
both a b one two = rw (one, two) refl

pub tcp_is_moved_between : (old new : ℕ) (part : List ℕ) → old ≤ 65535 → new ≤ 65535 → 18 ≤ length part
    → tcp_moved old new part ≡ with_field16 part 16 (moved_between 16 old new part part)
tcp_is_moved_between old new part small_old small_new there =
    when (has_field16 part 16) _ part (lt-ltb 17 (length part) (omega arith))
    ∙ ap (λ n. with_field16 part 16 n) (sym (only_differences_count (field16 part 16) old new (residue (with_field16 part 16 0)) small_old small_new))

pub udp_is_moved_between : (old new : ℕ) (part : List ℕ) → old ≤ 65535 → new ≤ 65535 → 8 ≤ length part → 0 < field16 part 6
    → udp_moved old new part ≡ with_field16 part 6 (without_zero (moved_between 6 old new part part))
udp_is_moved_between old new part small_old small_new there some =
    when (has_field16 part 6 && nat_lt 0 (field16 part 6)) _ part (both (has_field16 part 6) (nat_lt 0 (field16 part 6)) (lt-ltb 7 (length part) (omega arith)) (lt-ltb 0 (field16 part 6) some))
    ∙ ap (λ n. with_field16 part 6 (without_zero n)) (sym (only_differences_count (field16 part 6) old new (residue (with_field16 part 6 0)) small_old small_new))

pub icmp_is_moved_between : (old new : ℕ) (part : List ℕ) → old ≤ 65535 → new ≤ 65535 → 4 ≤ length part
    → icmp_moved old new part ≡ with_field16 part 2 (moved_between 2 old new part part)
icmp_is_moved_between old new part small_old small_new there =
    when (has_field16 part 2) _ part (lt-ltb 3 (length part) (omega arith))
    ∙ ap (λ n. with_field16 part 2 n) (sym (only_differences_count (field16 part 2) old new (residue (with_field16 part 2 0)) small_old small_new))

-- the type's word goes and comes, and the rest counts on both sides
word-changed : (checksum old new word other rest : ℕ) → old ≤ 65535 → new ≤ 65535 → other ≤ 65535
    → moved (moved checksum word other) old new ≡ moved checksum ((old + (word + rest) % 65535) % 65535) ((new + (other + rest) % 65535) % 65535)
word-changed checksum old new word other rest small_old small_new small_other =
    moved_in_turn checksum word other old new small_other small_new
    ∙ moved_by_difference checksum ((word + old) % 65535) ((other + new) % 65535) ((old + (word + rest) % 65535) % 65535) ((new + (other + rest) % 65535) % 65535)
    (omega arith) (omega arith) (omega arith)

pub echo_is_moved_between : (kind old new : ℕ) (part : List ℕ) → kind < 256 → AreBytes part → old ≤ 65535 → new ≤ 65535 → 4 ≤ length part
    → echo_moved kind old new part ≡ with_field16 (slice_set part 0 kind) 2 (moved_between 2 old new part (slice_set part 0 kind))
echo_is_moved_between kind old new [] byte small small_old small_new there = absurd (omega arith)
echo_is_moved_between kind old new (a ∷ []) byte small small_old small_new there = absurd (omega arith)
echo_is_moved_between kind old new (a ∷ b ∷ []) byte small small_old small_new there = absurd (omega arith)
echo_is_moved_between kind old new (a ∷ b ∷ c ∷ []) byte small small_old small_new there = absurd (omega arith)
echo_is_moved_between kind old new (a ∷ b ∷ c ∷ d ∷ rest) byte small small_old small_new there =
    let code : b < 256 = small 1 in
    when (has_field16 (a ∷ b ∷ c ∷ d ∷ rest) 2) _ (kind ∷ b ∷ c ∷ d ∷ rest) (lt-ltb 3 (length (a ∷ b ∷ c ∷ d ∷ rest)) (omega arith))
    ∙ ap (λ n. with_field16 (kind ∷ b ∷ c ∷ d ∷ rest) 2 n) (word-changed (c * 256 + d) old new (a * 256 + b) (kind * 256 + b) (0 + words_sum rest) small_old small_new (omega arith))
