-- A translated upper part differs within its first 18 bytes alone.
use Rattle.std.proofs.Common.{◌≡◌, ℕ, ◌+◌, ◌-◌, ◌<◌, ◌≤◌, List, [], ◌∷◌, ◌++◌, length, take, drop, slice_set, Bool, true, false, nat_lt, ◌&&◌, ◌==◌, if◌then◌else◌, ◌∙◌, ap, sym, subst, refl, arith, length-append}
use Rattle.std.proofs.lemmas.Bool.{and_parts, ltb-true}
use Rattle.std.proofs.lemmas.List.{drop-drop, drop_at, length-take-le}
use Rattle.siit_model.specs.Bytes.{bytes16, field16, with_field16}
use Rattle.siit_model.specs.Upper.{Ends, has_field16}
use Rattle.siit_upper.specs.Moves.{echo_moved, icmp_moved, tcp_moved, udp_moved}
use Rattle.siit_checksum.proofs.Fields.{length-set_first}
use Rattle.siit_v4to6.specs.To6.{is_echo4, upper_to_6}
use Rattle.siit_v6to4.specs.To4.{is_echo6, upper_to_4}
use Rattle.siit_v6to4.specs.Turns.{turned_upper}

with_field16-behind : (bytes : List ℕ) (place value k : ℕ) → place + 2 ≤ k → place + 1 < length bytes → drop k (with_field16 bytes place value) ≡ drop k bytes
with_field16-behind bytes place value k past inside =
    let rest : ℕ = k - (place + 2) in
    let sum : place + 2 + rest ≡ k = omega arith in
    let size : length (take place bytes ++ bytes16 value) ≡ place + 2 = length-append (take place bytes) (bytes16 value) ∙ ap (λ n. n + 2) (length-take-le place bytes (omega arith)) in
    sym (drop-drop rest (place + 2) (with_field16 bytes place value) ∙ ap (λ n. drop n (with_field16 bytes place value)) sum)
    ∙ ap (drop rest) (drop_at (take place bytes ++ bytes16 value) (drop (place + 2) bytes) (place + 2) size)
    ∙ drop-drop rest (place + 2) bytes ∙ ap (λ n. drop n bytes) sum

pub if-behind : (k : ℕ) (test : Bool) (one other left : List ℕ) → (test ≡ true → drop k one ≡ left) → drop k other ≡ left → drop k (if test then one else other) ≡ left
if-behind k true one other left is others = is refl
if-behind k false one other left is others = others

set_first-behind : (part : List ℕ) (kind : ℕ) → drop 18 (slice_set part 0 kind) ≡ drop 18 part
set_first-behind [] kind = refl
set_first-behind (first ∷ rest) kind = refl

echo-behind : (kind old new : ℕ) (part : List ℕ) → drop 18 (echo_moved kind old new part) ≡ drop 18 part
echo-behind kind old new part =
    let turned : List ℕ = slice_set part 0 kind in
    if-behind 18 (has_field16 part 2) _ turned (drop 18 part)
    (λ (has : has_field16 part 2 ≡ true). with_field16-behind turned 2 _ 18 (omega arith) (subst (λ n. 3 < n) (sym (length-set_first part kind)) (ltb-true 3 (length part) has)) ∙ set_first-behind part kind)
    (set_first-behind part kind)

tcp-behind : (old new : ℕ) (part : List ℕ) → drop 18 (tcp_moved old new part) ≡ drop 18 part
tcp-behind old new part =
    if-behind 18 (has_field16 part 16) _ part (drop 18 part)
    (λ (has : has_field16 part 16 ≡ true). with_field16-behind part 16 _ 18 (omega arith) (ltb-true 17 (length part) has)) refl

udp-behind : (old new : ℕ) (part : List ℕ) → drop 18 (udp_moved old new part) ≡ drop 18 part
udp-behind old new part =
    if-behind 18 (has_field16 part 6 && nat_lt 0 (field16 part 6)) _ part (drop 18 part)
    (λ (has : (has_field16 part 6 && nat_lt 0 (field16 part 6)) ≡ true).
    with_field16-behind part 6 _ 18 (omega arith) (ltb-true 7 (length part) (and_parts (has_field16 part 6) _ has).0)) refl

icmp-behind : (old new : ℕ) (part : List ℕ) → drop 18 (icmp_moved old new part) ≡ drop 18 part
icmp-behind old new part =
    if-behind 18 (has_field16 part 2) _ part (drop 18 part)
    (λ (has : has_field16 part 2 ≡ true). with_field16-behind part 2 _ 18 (omega arith) (ltb-true 3 (length part) has)) refl

pub upper-behind : (protocol : ℕ) (ends : Ends) (whole : ℕ) (part : List ℕ) → drop 18 (upper_to_6 protocol ends whole part) ≡ drop 18 part
upper-behind protocol ends whole part =
    if-behind 18 (protocol == 6) _ _ (drop 18 part) (λ (_ : (protocol == 6) ≡ true). tcp-behind _ _ part)
    (if-behind 18 (protocol == 17) _ _ (drop 18 part) (λ (_ : (protocol == 17) ≡ true). udp-behind _ _ part)
    (if-behind 18 (protocol == 1) _ part (drop 18 part)
    (λ (_ : (protocol == 1) ≡ true). if-behind 18 (is_echo4 part) _ part (drop 18 part) (λ (_ : is_echo4 part ≡ true). echo-behind _ 0 _ part) refl) refl))

pub upper_to_4-behind : (protocol : ℕ) (ends : Ends) (whole : ℕ) (part : List ℕ) → drop 18 (upper_to_4 protocol ends whole part) ≡ drop 18 part
upper_to_4-behind protocol ends whole part =
    if-behind 18 (protocol == 6) _ _ (drop 18 part) (λ (_ : (protocol == 6) ≡ true). tcp-behind _ _ part)
    (if-behind 18 (protocol == 17) _ _ (drop 18 part) (λ (_ : (protocol == 17) ≡ true). udp-behind _ _ part)
    (if-behind 18 (protocol == 58) _ part (drop 18 part)
    (λ (_ : (protocol == 58) ≡ true). if-behind 18 (is_echo6 part) _ part (drop 18 part) (λ (_ : is_echo6 part ≡ true). echo-behind _ _ 0 part) refl) refl))

pub turned-behind : (protocol old new : ℕ) (part : List ℕ) → drop 18 (turned_upper protocol old new part) ≡ drop 18 part
turned-behind protocol old new part =
    if-behind 18 (protocol == 6) _ _ (drop 18 part) (λ (_ : (protocol == 6) ≡ true). tcp-behind old new part)
    (if-behind 18 (protocol == 17) _ _ (drop 18 part) (λ (_ : (protocol == 17) ≡ true). udp-behind old new part)
    (if-behind 18 (protocol == 58) _ part (drop 18 part) (λ (_ : (protocol == 58) ≡ true). icmp-behind old new part) refl))
