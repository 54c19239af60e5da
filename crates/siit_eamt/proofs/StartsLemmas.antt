-- Where prefixes begin and end, found block by block and then sorted.
use Rattle.std.proofs.Common.{◌≡◌, ℕ, ◌+◌, ◌*◌, ◌^◌, ◌<◌, ◌≤◌, false, List, length, get_or, take, All, Contains, IsPermutation, is_lt, nat_cmp, sym, ap, subst, arith}
use Rattle.std.specs.List.Sorted.{IsSorted}
use Rattle.std.proofs.Math.Nat.{pow-le-pow_right}
use Rattle.std.proofs.lemmas.Bool.Decides.{nat_tests}
use Rattle.std.proofs.lemmas.List.{length-take-le, take_all}
use Rattle.std.proofs.lemmas.List.Elements.{All-more, All-weaker}
use Rattle.std.proofs.lemmas.List.Sorted.{All-permutation, Contains-permutation, IsNonDecreasingBy-from_all_adjacent, length_permutation}
use Rattle.siit_eamt.specs.declared.starts.Block.{Block}
use Rattle.siit_eamt.specs.Starts.{AreAdded, AreAscendingStarts, AreStarts}

-- a block of too many addresses ends above all of them
pub ends_above : (first bits : ℕ) → 128 ≤ bits → first + 2 ^ bits < 2 ^ 128 → ⊥
ends_above first bits wide below = let more = pow-le-pow_right {n = 2} (omega arith) {i = 128} {j = bits} wide in absurd (omega arith)

pub one_more_block : (blocks : List Block) (k : ℕ) (d : Block) (highest : ℕ) (before after : List ℕ) → k < length blocks
    → AreStarts (take k blocks) highest before → AreAdded (get_or blocks k d) highest before after → AreStarts (take (k + 1) blocks) highest after
one_more_block blocks k d highest before after in_k are added = record {
  zero = added.kept 0 are.zero;
  firsts = All-more (λ (b : Block). Contains after b.first) blocks k d in_k
      (All-weaker (λ (b : Block). Contains before b.first) (λ b. Contains after b.first) (λ b among. added.kept b.first among) (take k blocks) are.firsts) added.first;
  ends = All-more (λ (b : Block). b.first + 2 ^ b.bits ≤ highest → Contains after (b.first + 2 ^ b.bits)) blocks k d in_k
      (All-weaker (λ (b : Block). b.first + 2 ^ b.bits ≤ highest → Contains before (b.first + 2 ^ b.bits)) (λ b. b.first + 2 ^ b.bits ≤ highest → Contains after (b.first + 2 ^ b.bits))
      (λ b among below. added.kept (b.first + 2 ^ b.bits) (among below)) (take k blocks) are.ends) added.end;
  within = added.within are.within;
  few =
      let more = added.few in
      let few = are.few in
      let shorter = length-take-le k blocks (omega arith) in
      let longer = length-take-le (k + 1) blocks (omega arith) in
      omega arith;
}

le_from_order : (a b : ℕ) → is_lt (nat_cmp a b) ≡ false → b ≤ a
le_from_order a b h = grind (arith, nat_tests, h)

pub sorted_starts : (blocks : List Block) (highest : ℕ) (before after : List ℕ) → AreStarts blocks highest before → IsPermutation before after
    → IsSorted nat_cmp after → AreAscendingStarts blocks highest after
sorted_starts blocks highest before after are same sorted = record {
  all = record {
    zero = Contains-permutation before after 0 same are.zero;
    firsts = All-weaker (λ (b : Block). Contains before b.first) (λ b. Contains after b.first) (λ b among. Contains-permutation before after b.first same among) blocks are.firsts;
    ends = All-weaker (λ (b : Block). b.first + 2 ^ b.bits ≤ highest → Contains before (b.first + 2 ^ b.bits)) (λ b. b.first + 2 ^ b.bits ≤ highest → Contains after (b.first + 2 ^ b.bits))
        (λ b among below. Contains-permutation before after (b.first + 2 ^ b.bits) same (among below)) blocks are.ends;
    within = All-permutation (λ (start : ℕ). start ≤ highest) before after same are.within;
    few = let few = are.few in let length_is = length_permutation before after same in omega arith;
  };
  ascending = IsNonDecreasingBy-from_all_adjacent (λ (start : ℕ). start) after
      (λ k d h. le_from_order (get_or after (k + 1) d) (get_or after k d) (sorted k d (omega arith) h));
}
