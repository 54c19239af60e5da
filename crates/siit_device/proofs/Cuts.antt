-- A packet that is cut by its plan: the pieces are the packets of its fragment's pieces, in either family.
use Rattle.std.proofs.Common.{◌≡◌, ℕ, ◌+◌, ◌-◌, ◌*◌, ◌/◌, ◌%◌, ◌<◌, ◌≤◌, List, length, map, Some, ◌∙◌, ap, sym, subst, refl, arith}
use Rattle.std.specs.Prelude.{slice_get, option_map}
use Rattle.std.proofs.lemmas.List.{length-map}
use Rattle.std.proofs.lemmas.List.FromFn.{length-map-range_with_len, get_or-map-range_with_len}
use Rattle.std.proofs.lemmas.Option.{slice_get-map, slice_get-get_or}
use Rattle.siit_model.specs.Bytes.{field16, flag_bit}
use Rattle.siit_model.specs.Fragments.{Fragment, fragment_packet6, packet4}
use Rattle.siit_model.specs.Ipv4.{ipv4_bytes}
use Rattle.siit_model.specs.Ipv6.{ipv6_bytes}
use Rattle.siit_checksum.proofs.Digits.{two-read}
use Rattle.siit_fragments.specs.Pieces.{blocks_of, piece_count, piece_of, pieces_of}
use Rattle.siit_fragments.specs.Plans.{IsPiece, IsPlanFor, offset_in, plan_of}
use Rattle.siit_fragments.specs.declared.cut.CutPlan.{CutPlan}
use Rattle.siit_fragments.proofs.Written.{flag-small}
use Rattle.siit_chain.specs.Verdicts.{IsCutInto}

-- A piece at its place, and as it is written.
piece-at : (blocks : ℕ) (f : Fragment) (k : ℕ) → k < piece_count blocks (length f.bytes) → slice_get (pieces_of blocks f) k ≡ Some (piece_of blocks f k)
piece-at blocks f k below =
    let count : ℕ = piece_count blocks (length f.bytes) in
    let size : length (pieces_of blocks f) ≡ count = length-map-range_with_len (piece_of blocks f) 0 count in
    slice_get-get_or (pieces_of blocks f) k (piece_of blocks f k) (subst (λ n. k < n) (sym size) below)
    ∙ ap (λ g. Some g) (get_or-map-range_with_len (piece_of blocks f) 0 count k k (piece_of blocks f k) below (omega arith))

written-at : {P : Type 0} (packet : Fragment → P) (write : P → List ℕ) (blocks : ℕ) (f : Fragment) (k : ℕ) → k < piece_count blocks (length f.bytes)
    → slice_get (map write (map packet (pieces_of blocks f))) k ≡ Some (write (packet (piece_of blocks f k)))
written-at packet write blocks f k below =
    slice_get-map write (map packet (pieces_of blocks f)) k
    ∙ ap (option_map write) (slice_get-map packet (pieces_of blocks f) k)
    ∙ ap (λ o. option_map write (option_map packet o)) (piece-at blocks f k below)

written-count : {P : Type 0} (packet : Fragment → P) (write : P → List ℕ) (blocks : ℕ) (f : Fragment)
    → length (map write (map packet (pieces_of blocks f))) ≡ piece_count blocks (length f.bytes)
written-count packet write blocks f =
    length-map (map packet (pieces_of blocks f)) write ∙ length-map (pieces_of blocks f) packet
    ∙ length-map-range_with_len (piece_of blocks f) 0 (piece_count blocks (length f.bytes))

blocks-back : (blocks : ℕ) → 8 * blocks / 8 ≡ blocks
blocks-back blocks = omega arith

-- By the plan for its length: the packet in its written form is cut into the packets of the pieces.
module _ (mtu : ℕ) (f : Fragment) where
  planned6 : IsPlanFor (48 + length f.bytes) (plan_of (48 + length f.bytes) 48 mtu) → f.offset < 8192 → 8 * f.offset + length f.bytes ≤ 65535
      → IsCutInto (plan_of (48 + length f.bytes) 48 mtu) (ipv6_bytes (fragment_packet6 f)) (map ipv6_bytes (map fragment_packet6 (pieces_of (blocks_of 48 mtu) f)))
  planned6 planned small fits =
      let plan : CutPlan = plan_of (48 + length f.bytes) 48 mtu in
      let whole : List ℕ = ipv6_bytes (fragment_packet6 f) in
      let blocks : ℕ = blocks_of 48 mtu in
      let size : length whole ≡ 48 + length f.bytes = omega arith in
      let flag = flag-small f.more in
      let word : field16 whole 42 ≡ 8 * f.offset + flag_bit f.more = two-read (8 * f.offset + flag_bit f.more) (omega arith) in
      let offset : field16 whole 42 / 8 ≡ f.offset = omega arith in
      let behind : 48 + length f.bytes - 48 ≡ length f.bytes = omega arith in
      record {
        planned = subst (λ n. IsPlanFor n plan) (sym size) planned;
        total = λ (four : 48 ≡ 20). absurd (omega arith);
        fits = omega (arith, offset, size, fits);
        as_many = written-count fragment_packet6 ipv6_bytes blocks f ∙ ap (piece_count blocks) (sym behind);
        each = λ (k : ℕ) (piece : List ℕ) below (is : IsPiece plan whole k piece).
            written-at fragment_packet6 ipv6_bytes blocks f k (subst (λ n. k < piece_count blocks n) behind below)
            ∙ ap (λ b. Some (ipv6_bytes (fragment_packet6 (piece_of b f k)))) (sym (blocks-back blocks))
            ∙ ap (λ l. Some l) (sym (is.six f refl small refl));
      }

  planned4 : (df : ℕ) → df < 2 → IsPlanFor (20 + length f.bytes) (plan_of (20 + length f.bytes) 20 mtu) → f.offset < 8192 → 20 + length f.bytes ≤ 65535
      → 8 * f.offset + length f.bytes ≤ 65535
      → IsCutInto (plan_of (20 + length f.bytes) 20 mtu) (ipv4_bytes (packet4 df f)) (map ipv4_bytes (map (packet4 df) (pieces_of (blocks_of 20 mtu) f)))
  planned4 df small_df planned small short fits =
      let plan : CutPlan = plan_of (20 + length f.bytes) 20 mtu in
      let whole : List ℕ = ipv4_bytes (packet4 df f) in
      let blocks : ℕ = blocks_of 20 mtu in
      let size : length whole ≡ 20 + length f.bytes = omega arith in
      let flag = flag-small f.more in
      let word : field16 whole 6 ≡ df * 16384 + flag_bit f.more * 8192 + f.offset = two-read (df * 16384 + flag_bit f.more * 8192 + f.offset) (omega arith) in
      let offset : field16 whole 6 % 8192 ≡ f.offset = omega arith in
      let behind : 20 + length f.bytes - 20 ≡ length f.bytes = omega arith in
      record {
        planned = subst (λ n. IsPlanFor n plan) (sym size) planned;
        total = λ (_ : 20 ≡ 20). omega (arith, size, short);
        fits = omega (arith, offset, size, fits);
        as_many = written-count (packet4 df) ipv4_bytes blocks f ∙ ap (piece_count blocks) (sym behind);
        each = λ (k : ℕ) (piece : List ℕ) below (is : IsPiece plan whole k piece).
            written-at (packet4 df) ipv4_bytes blocks f k (subst (λ n. k < piece_count blocks n) behind below)
            ∙ ap (λ b. Some (ipv4_bytes (packet4 df (piece_of b f k)))) (sym (blocks-back blocks))
            ∙ ap (λ l. Some l) (sym (is.four df f refl small_df small refl));
      }

-- The packet of a fragment whose end is no longer than a datagram's, and a plan that `plan` makes for its length.
pub cut6 : (mtu total : ℕ) (plan : CutPlan) (f : Fragment) (whole : List ℕ) → whole ≡ ipv6_bytes (fragment_packet6 f) → total ≡ length whole
    → plan ≡ plan_of total 48 mtu → IsPlanFor total plan → f.offset < 8192 → 8 * f.offset + length f.bytes ≤ 65535
    → IsCutInto plan whole (map ipv6_bytes (map fragment_packet6 (pieces_of (blocks_of 48 mtu) f)))
cut6 mtu total plan f whole is_whole is_total is_plan planned small fits =
    let pieces : List (List ℕ) = map ipv6_bytes (map fragment_packet6 (pieces_of (blocks_of 48 mtu) f)) in
    let size : total ≡ 48 + length f.bytes = omega (arith, is_total, ap length is_whole) in
    let same : plan ≡ plan_of (48 + length f.bytes) 48 mtu = is_plan ∙ ap (λ n. plan_of n 48 mtu) size in
    subst (λ w. IsCutInto plan w pieces) (sym is_whole)
    (subst (λ p. IsCutInto p (ipv6_bytes (fragment_packet6 f)) pieces) (sym same)
    (planned6 mtu f (subst (λ p. IsPlanFor (48 + length f.bytes) p) same (subst (λ n. IsPlanFor n plan) size planned)) small fits))

pub cut4 : (mtu total df : ℕ) (plan : CutPlan) (f : Fragment) (whole : List ℕ) → whole ≡ ipv4_bytes (packet4 df f) → total ≡ length whole
    → plan ≡ plan_of total 20 mtu → IsPlanFor total plan → df < 2 → f.offset < 8192 → 20 + length f.bytes ≤ 65535 → 8 * f.offset + length f.bytes ≤ 65535
    → IsCutInto plan whole (map ipv4_bytes (map (packet4 df) (pieces_of (blocks_of 20 mtu) f)))
cut4 mtu total df plan f whole is_whole is_total is_plan planned small_df small short fits =
    let pieces : List (List ℕ) = map ipv4_bytes (map (packet4 df) (pieces_of (blocks_of 20 mtu) f)) in
    let size : total ≡ 20 + length f.bytes = omega (arith, is_total, ap length is_whole) in
    let same : plan ≡ plan_of (20 + length f.bytes) 20 mtu = is_plan ∙ ap (λ n. plan_of n 20 mtu) size in
    subst (λ w. IsCutInto plan w pieces) (sym is_whole)
    (subst (λ p. IsCutInto p (ipv4_bytes (packet4 df f)) pieces) (sym same)
    (planned4 mtu f df small_df (subst (λ p. IsPlanFor (20 + length f.bytes) p) same (subst (λ n. IsPlanFor n plan) size planned)) small short fits))
