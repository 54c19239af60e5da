-- The intervals of both families, cut where the prefixes of entries without a fault begin and end.
use Rattle.std.proofs.Common.{◌≡◌, ℕ, ◌+◌, ◌-◌, ◌%◌, ◌^◌, List, [], map, None, Some, refl}
use Rattle.std.specs.List.{slice_get}
use Rattle.siit_eamt.specs.declared.entry.Eam.{Eam}
use Rattle.siit_eamt.specs.declared.trie.Node.{Node}
use Rattle.siit_eamt.specs.Cutting.{interval_from}
use Rattle.siit_eamt.specs.Faults.{first_fault}
use Rattle.siit_eamt.specs.Intervals.{AnswerAs, HasBegun, place4, place6}
use Rattle.siit_eamt.specs.Standing.{IsTrieOf, has_bits4, has_bits6}
use Rattle.siit_eamt.specs.Starts.{AreAscendingStarts, block4, block6}
use Rattle.siit_eamt.proofs.Accepted.{good_from_faultless}
use Rattle.siit_eamt.proofs.Cut.{cut_answers, cut_begins}
use Rattle.siit_eamt.proofs.Ranges.{IsGoodEntry-from_test}

module _ (entries : List Eam) (nodes : List Node) (highest : ℕ) (starts : List ℕ) (faultless : first_fault [] entries ≡ None)
    (trie : IsTrieOf has_bits4 32 entries nodes) (highest_is : highest + 1 ≡ 2 ^ 32) (are : AreAscendingStarts (map block4 entries) highest starts) where
  clean4 : (k : ℕ) (e : Eam) → slice_get entries k ≡ Some e → e.p4.addr.0 % 2 ^ (32 - e.p4.len) ≡ 0
  clean4 k e here = (IsGoodEntry-from_test e (good_from_faultless entries faultless k e here)).clean4

  pub answers4 : AnswerAs (place4 entries) (2 ^ 32) (map (interval_from nodes 32) starts)
  answers4 =
      cut_answers 32 (λ (e : Eam). e.p4.len) (λ e. e.p4.addr.0) (λ e. e.p4.in_range) entries clean4 nodes trie.places block4 (λ e. refl) (λ e. refl)
      highest highest_is starts are

  pub begins4 : (address : ℕ) → HasBegun (map (interval_from nodes 32) starts) 0 address
  begins4 =
      cut_begins 32 (λ (e : Eam). e.p4.len) (λ e. e.p4.addr.0) (λ e. e.p4.in_range) entries clean4 nodes trie.places block4 (λ e. refl) (λ e. refl)
      highest highest_is starts are

module _ (entries : List Eam) (nodes : List Node) (highest : ℕ) (starts : List ℕ) (faultless : first_fault [] entries ≡ None)
    (trie : IsTrieOf has_bits6 128 entries nodes) (highest_is : highest + 1 ≡ 2 ^ 128) (are : AreAscendingStarts (map block6 entries) highest starts) where
  clean6 : (k : ℕ) (e : Eam) → slice_get entries k ≡ Some e → e.p6.addr.0 % 2 ^ (128 - e.p6.len) ≡ 0
  clean6 k e here = (IsGoodEntry-from_test e (good_from_faultless entries faultless k e here)).clean6

  pub answers6 : AnswerAs (place6 entries) (2 ^ 128) (map (interval_from nodes 128) starts)
  answers6 =
      cut_answers 128 (λ (e : Eam). e.p6.len) (λ e. e.p6.addr.0) (λ e. e.p6.in_range) entries clean6 nodes trie.places block6 (λ e. refl) (λ e. refl)
      highest highest_is starts are

  pub begins6 : (address : ℕ) → HasBegun (map (interval_from nodes 128) starts) 0 address
  begins6 =
      cut_begins 128 (λ (e : Eam). e.p6.len) (λ e. e.p6.addr.0) (λ e. e.p6.in_range) entries clean6 nodes trie.places block6 (λ e. refl) (λ e. refl)
      highest highest_is starts are
