-- Checksums that are moved by pseudo-headers with a length. The difference doesn't depend on the length, which a
-- fragment can't tell.
use Rattle.std.proofs.Common.{◌≡◌, ℕ, ◌+◌, ◌%◌, ◌^◌, ◌<◌, ◌≤◌, ◌∙◌, ap, arith}
use Rattle.siit_model.specs.Checksum.{moved, pseudo4, pseudo6}
use Rattle.siit_checksum.proofs.Moves.{moved_by_difference}
use Rattle.siit_checksum.proofs.Numbers.{pseudo4-is, pseudo6-is}

crossed : (x y n m : ℕ) → ((x + n) % 65535 + (y + m) % 65535) % 65535 ≡ ((x + m) % 65535 + (y + n) % 65535) % 65535
crossed x y n m = omega arith

swapped : (a b c d : ℕ) → a + b + c + d ≡ a + b + d + c
swapped a b c d = omega arith

small : (n : ℕ) → n < 65536 → n < 2 ^ 32
small n h = omega arith

below : (value number : ℕ) → value ≡ number % 65535 → value ≤ 65535
below value number is = omega arith

module _ (c source destination source6 destination6 protocol n m : ℕ) (s : source < 2 ^ 32) (d : destination < 2 ^ 32)
    (s6 : source6 < 2 ^ 128) (d6 : destination6 < 2 ^ 128) (small_n : n < 65536) (small_m : m < 65536) where
  four : (k : ℕ) → k < 65536 → pseudo4 source destination protocol k ≡ (source + destination + protocol + k) % 65535
  four k k_small = pseudo4-is source destination protocol k s d k_small

  six : (k : ℕ) → k < 65536 → pseudo6 source6 destination6 protocol k ≡ (source6 + destination6 + protocol + k) % 65535
  six k k_small = pseudo6-is source6 destination6 protocol k s6 d6 (small k k_small) ∙ ap (λ sum. sum % 65535) (swapped source6 destination6 k protocol)

  pub to_6-any_length :
      moved c (pseudo4 source destination protocol n) (pseudo6 source6 destination6 protocol n)
      ≡ moved c (pseudo4 source destination protocol m) (pseudo6 source6 destination6 protocol m)
  to_6-any_length =
      moved_by_difference c (pseudo4 source destination protocol n) (pseudo6 source6 destination6 protocol n)
      (pseudo4 source destination protocol m) (pseudo6 source6 destination6 protocol m) (below _ _ (six n small_n)) (below _ _ (six m small_m))
      (rw (four n small_n, six m small_m, four m small_m, six n small_n) (crossed (source + destination + protocol) (source6 + destination6 + protocol) n m))

  pub to_4-any_length :
      moved c (pseudo6 source6 destination6 protocol n) (pseudo4 source destination protocol n)
      ≡ moved c (pseudo6 source6 destination6 protocol m) (pseudo4 source destination protocol m)
  to_4-any_length =
      moved_by_difference c (pseudo6 source6 destination6 protocol n) (pseudo4 source destination protocol n)
      (pseudo6 source6 destination6 protocol m) (pseudo4 source destination protocol m) (below _ _ (four n small_n)) (below _ _ (four m small_m))
      (rw (six n small_n, four m small_m, six m small_m, four n small_n) (crossed (source6 + destination6 + protocol) (source + destination + protocol) n m))
