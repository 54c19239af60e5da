-- What goes and comes where a part of a body is rewritten.
use Rattle.std.proofs.Common.{◌≡◌, ℕ, ◌+◌, ◌-◌, ◌%◌, ◌≤◌, List, [], ◌++◌, length, take, drop, replicate, sym, subst, refl, arith, append_assoc, length-append}
use Rattle.std.proofs.lemmas.List.{length-take-le}
use Rattle.siit_model.specs.Checksum.{residue}
use Rattle.siit_quoted.specs.Sums.{IsDifference, IsPartDifference}
use Rattle.siit_quoted.proofs.Differences.{before, behind, ended, ended-at, ended-last, in-turn}

-- all of it, read before and after
pub whole-difference : (old new : List ℕ) → IsPartDifference old new (residue old) (residue new)
whole-difference old new = record {
  last = record { same = omega arith };
  before = λ rest n even_old even_new. ended [] old new rest n (omega arith) even_old even_new;
}

-- residues that are equal, and ones that are less by 65535
pub residues-are : (old new : List ℕ) (gone come g c : ℕ) → gone ≡ g % 65535 → come ≡ c % 65535 → IsPartDifference old new g c → IsPartDifference old new gone come
residues-are old new gone come g c is_gone is_come difference = record {
  last = record { same = omega (arith, difference.last.same, is_gone, is_come) };
  before = λ rest n even_old even_new. record { same = omega (arith, (difference.before rest n even_old even_new).same, is_gone, is_come) };
}

-- k bytes kept: the sums begin at the even place at or before the cut
cut-difference : (rest : List ℕ) (k : ℕ) → k ≤ length rest
    → IsPartDifference rest (take k rest) (residue (drop (k - k % 2) rest)) (residue (drop (k - k % 2) (take k rest)))
cut-difference rest k inside = record {
  last = ended-last rest k (k - k % 2) refl inside;
  before = λ behind_it n even_old even_new. ended-at rest behind_it k (k - k % 2) n refl inside even_old (omega (arith, even_new, length-take-le k rest inside));
}

-- behind an even number of bytes that stay
pub staying : (front old new : List ℕ) (gone come : ℕ) → length front % 2 ≡ 0 → IsPartDifference old new gone come → IsPartDifference (front ++ old) (front ++ new) gone come
staying front old new gone come even difference = record {
  last = behind front old new gone come even difference.last;
  before = λ rest n even_old even_new.
      let zeros : List ℕ = replicate n 0 in
      let old_is : front ++ (old ++ rest) ≡ (front ++ old) ++ rest = sym (append_assoc front old rest) in
      let new_is : front ++ ((new ++ zeros) ++ rest) ≡ ((front ++ new) ++ zeros) ++ rest = simp append_assoc in
      subst (λ l. IsDifference l (((front ++ new) ++ zeros) ++ rest) gone come) old_is
      (subst (λ l. IsDifference (front ++ (old ++ rest)) l gone come) new_is
      (behind front (old ++ rest) ((new ++ zeros) ++ rest) gone come even
      (difference.before rest n (omega (arith, even, even_old, length-append front old)) (omega (arith, even, even_new, length-append front new)))));
}

-- behind another front of an even length
pub headed : (front other old new : List ℕ) (gone come : ℕ) → length front % 2 ≡ 0 → length other % 2 ≡ 0 → IsPartDifference old new gone come
    → IsPartDifference (front ++ old) (other ++ new) (residue front + gone) (residue other + come)
headed front other old new gone come even_front even_other difference = record {
  last = in-turn (front ++ old) (other ++ old) (other ++ new) (residue front) (residue other) gone come (before front other old even_front even_other)
      (behind other old new gone come even_other difference.last);
  before = λ rest n even_old even_new.
      let zeros : List ℕ = replicate n 0 in
      let old_is : front ++ (old ++ rest) ≡ (front ++ old) ++ rest = sym (append_assoc front old rest) in
      let new_is : other ++ ((new ++ zeros) ++ rest) ≡ ((other ++ new) ++ zeros) ++ rest = simp append_assoc in
      subst (λ l. IsDifference l (((other ++ new) ++ zeros) ++ rest) (residue front + gone) (residue other + come)) old_is
      (subst (λ l. IsDifference (front ++ (old ++ rest)) l (residue front + gone) (residue other + come)) new_is
      (in-turn (front ++ (old ++ rest)) (other ++ (old ++ rest)) (other ++ ((new ++ zeros) ++ rest)) (residue front) (residue other) gone come
      (before front other (old ++ rest) even_front even_other)
      (behind other (old ++ rest) ((new ++ zeros) ++ rest) gone come even_other
      (difference.before rest n (omega (arith, even_front, even_old, length-append front old)) (omega (arith, even_other, even_new, length-append other new))))));
}

-- another front of an even length, and k bytes kept of the rest
pub fronts-difference : (front other rest : List ℕ) (k : ℕ) → length front % 2 ≡ 0 → length other % 2 ≡ 0 → k ≤ length rest
    → IsPartDifference (front ++ rest) (other ++ take k rest) (residue front + residue (drop (k - k % 2) rest)) (residue other + residue (drop (k - k % 2) (take k rest)))
fronts-difference front other rest k even_front even_other inside = headed front other rest (take k rest) _ _ even_front even_other (cut-difference rest k inside)
