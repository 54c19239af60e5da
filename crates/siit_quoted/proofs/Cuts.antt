-- A translated upper part whose end is cut behind its checksum is the cut part translated.
use Rattle.std.proofs.Common.{◌≡◌, ℕ, zero, suc, ◌<◌, ◌≤◌, List, [], ◌∷◌, length, take, slice_set, Bool, true, false, nat_lt, ◌==◌, ◌&&◌, ◌||◌, if◌then◌else◌, ◌∙◌, ap, sym, subst, refl, arith}
use Rattle.std.proofs.lemmas.List.{get_or-take, length-take}
use Rattle.std.proofs.lemmas.Bool.{ltb-true, and_parts}
use Rattle.std.proofs.lemmas.Bool.Decides.{nat_tests}
use Rattle.siit_model.specs.Bytes.{field8, field16, with_field16}
use Rattle.siit_model.specs.Checksum.{moved, moved_udp}
use Rattle.siit_model.specs.Upper.{Ends, has_field16}
use Rattle.siit_upper.specs.Moves.{echo_moved, icmp_moved, tcp_moved, udp_moved}
use Rattle.siit_checksum.proofs.Fields.{length-set_first}
use Rattle.siit_icmp.specs.Icmp.{echo_kind4, echo_kind6}
use Rattle.siit_v4to6.specs.To6.{echo_to_6, is_echo4, upper_to_6}
use Rattle.siit_v6to4.specs.To4.{echo_to_4, is_echo6, upper_to_4}
use Rattle.siit_v6to4.specs.Turns.{turned_upper}
use Rattle.siit_quoted.proofs.Words.{field16-take, has_field16-take, with_field16-take}

-- a choice whose parts commute with a cut
pub chosen-take : (k : ℕ) (test other : Bool) (one two cut rest : List ℕ) → other ≡ test → (test ≡ true → one ≡ take k cut) → (test ≡ false → two ≡ take k rest)
    → (if other then one else two) ≡ take k (if test then cut else rest)
chosen-take k true other one two cut rest is then_same else_same = rw is (then_same refl)
chosen-take k false other one two cut rest is then_same else_same = rw is (else_same refl)

pub tcp_moved-take : (old new k : ℕ) (part : List ℕ) → 18 ≤ k → tcp_moved old new (take k part) ≡ take k (tcp_moved old new part)
tcp_moved-take old new k part enough =
    chosen-take k (has_field16 part 16) (has_field16 (take k part) 16) _ (take k part) _ part (has_field16-take part 16 k (omega arith))
    (λ (has : has_field16 part 16 ≡ true).
    ap (λ n. with_field16 (take k part) 16 (moved n old new)) (field16-take part 16 k (omega arith)) ∙ with_field16-take part 16 (moved (field16 part 16) old new) k (omega arith) (ltb-true 17 (length part) has))
    (λ (_ : has_field16 part 16 ≡ false). refl)

pub udp_moved-take : (old new k : ℕ) (part : List ℕ) → 18 ≤ k → udp_moved old new (take k part) ≡ take k (udp_moved old new part)
udp_moved-take old new k part enough =
    let word : field16 (take k part) 6 ≡ field16 part 6 = field16-take part 6 k (omega arith) in
    let test : (has_field16 (take k part) 6 && nat_lt 0 (field16 (take k part) 6)) ≡ (has_field16 part 6 && nat_lt 0 (field16 part 6)) =
    ap (λ t. t && nat_lt 0 (field16 (take k part) 6)) (has_field16-take part 6 k (omega arith)) ∙ ap (λ n. has_field16 part 6 && nat_lt 0 n) word in
    chosen-take k (has_field16 part 6 && nat_lt 0 (field16 part 6)) (has_field16 (take k part) 6 && nat_lt 0 (field16 (take k part) 6)) _ (take k part) _ part test
    (λ (has : (has_field16 part 6 && nat_lt 0 (field16 part 6)) ≡ true).
    ap (λ n. with_field16 (take k part) 6 (moved_udp n old new)) word
    ∙ with_field16-take part 6 (moved_udp (field16 part 6) old new) k (omega arith) (ltb-true 7 (length part) (and_parts (has_field16 part 6) _ has).0))
    (λ (_ : (has_field16 part 6 && nat_lt 0 (field16 part 6)) ≡ false). refl)

set_first-take : (k value : ℕ) (part : List ℕ) → 1 ≤ k → slice_set (take k part) 0 value ≡ take k (slice_set part 0 value)
set_first-take zero value part some = absurd (omega arith)
set_first-take (suc k) value [] some = refl
set_first-take (suc k) value (first ∷ rest) some = refl

pub echo_moved-take : (kind old new k : ℕ) (part : List ℕ) → 18 ≤ k → echo_moved kind old new (take k part) ≡ take k (echo_moved kind old new part)
echo_moved-take kind old new k part enough =
    let turned : List ℕ = slice_set part 0 kind in
    let same : slice_set (take k part) 0 kind ≡ take k turned = set_first-take k kind part (omega arith) in
    let value : ℕ = moved (moved (field16 part 2) (field16 part 0) (field16 turned 0)) old new in
    let moves : moved (moved (field16 (take k part) 2) (field16 (take k part) 0) (field16 (slice_set (take k part) 0 kind) 0)) old new ≡ value =
    ap (λ n. moved (moved n (field16 (take k part) 0) (field16 (slice_set (take k part) 0 kind) 0)) old new) (field16-take part 2 k (omega arith))
    ∙ ap (λ n. moved (moved (field16 part 2) n (field16 (slice_set (take k part) 0 kind) 0)) old new) (field16-take part 0 k (omega arith))
    ∙ ap (λ n. moved (moved (field16 part 2) (field16 part 0) n) old new) (ap (λ l. field16 l 0) same ∙ field16-take turned 0 k (omega arith)) in
    chosen-take k (has_field16 part 2) (has_field16 (take k part) 2) _ _ _ turned (has_field16-take part 2 k (omega arith))
    (λ (has : has_field16 part 2 ≡ true).
    ap (λ n. with_field16 (slice_set (take k part) 0 kind) 2 n) moves ∙ ap (λ l. with_field16 l 2 value) same
    ∙ with_field16-take turned 2 value k (omega arith) (subst (λ n. 3 < n) (sym (length-set_first part kind)) (ltb-true 3 (length part) has)))
    (λ (_ : has_field16 part 2 ≡ false). same)

echo_to_4-take : (pseudo k : ℕ) (part : List ℕ) → 18 ≤ k → echo_to_4 pseudo (take k part) ≡ take k (echo_to_4 pseudo part)
echo_to_4-take pseudo k part enough =
    let first : field8 (take k part) 0 ≡ field8 part 0 = get_or-take k part 0 0 (omega arith) in
    let some : nat_lt 0 (length (take k part)) ≡ nat_lt 0 (length part) = let size = length-take k part in grind (arith, nat_tests) in
    let test : is_echo6 (take k part) ≡ is_echo6 part =
    ap (λ t. t && ((field8 (take k part) 0 == 128) || (field8 (take k part) 0 == 129))) some ∙ ap (λ n. nat_lt 0 (length part) && ((n == 128) || (n == 129))) first in
    chosen-take k (is_echo6 part) (is_echo6 (take k part)) _ (take k part) _ part test
    (λ (_ : is_echo6 part ≡ true).
    ap (λ n. echo_moved (echo_kind4 n) pseudo 0 (take k part)) first ∙ echo_moved-take (echo_kind4 (field8 part 0)) pseudo 0 k part enough)
    (λ (_ : is_echo6 part ≡ false). refl)

pub upper_to_4-take : (protocol : ℕ) (ends : Ends) (whole k : ℕ) (part : List ℕ) → 18 ≤ k → upper_to_4 protocol ends whole (take k part) ≡ take k (upper_to_4 protocol ends whole part)
upper_to_4-take protocol ends whole k part enough =
    chosen-take k (protocol == 6) (protocol == 6) _ _ _ _ refl (λ (_ : (protocol == 6) ≡ true). tcp_moved-take _ _ k part enough)
    (λ (_ : (protocol == 6) ≡ false).
    chosen-take k (protocol == 17) (protocol == 17) _ _ _ _ refl (λ (_ : (protocol == 17) ≡ true). udp_moved-take _ _ k part enough)
    (λ (_ : (protocol == 17) ≡ false).
    chosen-take k (protocol == 58) (protocol == 58) _ _ _ part refl (λ (_ : (protocol == 58) ≡ true). echo_to_4-take _ k part enough)
    (λ (_ : (protocol == 58) ≡ false). refl)))

-- the same towards IPv6
echo_to_6-take : (pseudo k : ℕ) (part : List ℕ) → 18 ≤ k → echo_to_6 pseudo (take k part) ≡ take k (echo_to_6 pseudo part)
echo_to_6-take pseudo k part enough =
    let first : field8 (take k part) 0 ≡ field8 part 0 = get_or-take k part 0 0 (omega arith) in
    let some : nat_lt 0 (length (take k part)) ≡ nat_lt 0 (length part) = let size = length-take k part in grind (arith, nat_tests) in
    let test : is_echo4 (take k part) ≡ is_echo4 part =
    ap (λ t. t && ((field8 (take k part) 0 == 8) || (field8 (take k part) 0 == 0))) some ∙ ap (λ n. nat_lt 0 (length part) && ((n == 8) || (n == 0))) first in
    chosen-take k (is_echo4 part) (is_echo4 (take k part)) _ (take k part) _ part test
    (λ (_ : is_echo4 part ≡ true).
    ap (λ n. echo_moved (echo_kind6 n) 0 pseudo (take k part)) first ∙ echo_moved-take (echo_kind6 (field8 part 0)) 0 pseudo k part enough)
    (λ (_ : is_echo4 part ≡ false). refl)

pub upper_to_6-take : (protocol : ℕ) (ends : Ends) (whole k : ℕ) (part : List ℕ) → 18 ≤ k → upper_to_6 protocol ends whole (take k part) ≡ take k (upper_to_6 protocol ends whole part)
upper_to_6-take protocol ends whole k part enough =
    chosen-take k (protocol == 6) (protocol == 6) _ _ _ _ refl (λ (_ : (protocol == 6) ≡ true). tcp_moved-take _ _ k part enough)
    (λ (_ : (protocol == 6) ≡ false).
    chosen-take k (protocol == 17) (protocol == 17) _ _ _ _ refl (λ (_ : (protocol == 17) ≡ true). udp_moved-take _ _ k part enough)
    (λ (_ : (protocol == 17) ≡ false).
    chosen-take k (protocol == 1) (protocol == 1) _ _ _ part refl (λ (_ : (protocol == 1) ≡ true). echo_to_6-take _ k part enough)
    (λ (_ : (protocol == 1) ≡ false). refl)))

-- the same of a turned one
icmp_moved-take : (old new k : ℕ) (part : List ℕ) → 18 ≤ k → icmp_moved old new (take k part) ≡ take k (icmp_moved old new part)
icmp_moved-take old new k part enough =
    chosen-take k (has_field16 part 2) (has_field16 (take k part) 2) _ (take k part) _ part (has_field16-take part 2 k (omega arith))
    (λ (has : has_field16 part 2 ≡ true).
    ap (λ n. with_field16 (take k part) 2 (moved n old new)) (field16-take part 2 k (omega arith)) ∙ with_field16-take part 2 (moved (field16 part 2) old new) k (omega arith) (ltb-true 3 (length part) has))
    (λ (_ : has_field16 part 2 ≡ false). refl)

pub turned_upper-take : (protocol old new k : ℕ) (part : List ℕ) → 18 ≤ k → turned_upper protocol old new (take k part) ≡ take k (turned_upper protocol old new part)
turned_upper-take protocol old new k part enough =
    chosen-take k (protocol == 6) (protocol == 6) _ _ _ _ refl (λ (_ : (protocol == 6) ≡ true). tcp_moved-take old new k part enough)
    (λ (_ : (protocol == 6) ≡ false).
    chosen-take k (protocol == 17) (protocol == 17) _ _ _ _ refl (λ (_ : (protocol == 17) ≡ true). udp_moved-take old new k part enough)
    (λ (_ : (protocol == 17) ≡ false).
    chosen-take k (protocol == 58) (protocol == 58) _ _ _ part refl (λ (_ : (protocol == 58) ≡ true). icmp_moved-take old new k part enough)
    (λ (_ : (protocol == 58) ≡ false). refl)))
