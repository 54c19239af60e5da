-- An upper part that is translated to IPv6 and back, and one that is cut.
use Rattle.std.proofs.Common.{◌≡◌, ℕ, ◌+◌, ◌*◌, ◌%◌, ◌<◌, ◌≤◌, ◌⊎◌, List, [], ◌∷◌, length, Bool, true, false, ◌==◌, ◌&&◌, ◌||◌, nat_lt, if◌then◌else◌, inl, inr, ◌∙◌, ap, sym, subst, refl, arith}
use Rattle.std.specs.Int.{byte_at}
use Rattle.std.proofs.lemmas.Bool.{ltb-true, lt-ltb, ne_eqb, and_from, and_parts, or_cases, eqb-true, cases_eq, cases_Bool}
use Rattle.std.proofs.lemmas.Bool.Decides.{nat_tests}
use Rattle.siit_model.specs.Bytes.{AreBytes, field16, with_field16}
use Rattle.siit_model.specs.Checksum.{moved, moved_udp, pseudo4, pseudo6}
use Rattle.siit_model.specs.Upper.{Ends, has_field16}
use Rattle.siit_upper.specs.Moves.{echo_moved, tcp_moved, udp_moved}
use Rattle.siit_checksum.proofs.Digits.{two-read}
use Rattle.siit_checksum.proofs.Fields.{length-with_field16}
use Rattle.siit_icmp.specs.Icmp.{echo_kind4, echo_kind6}
use Rattle.siit_v4to6.specs.To6.{echo_to_6, is_echo4, next_header_of, upper_to_6}
use Rattle.siit_v6to4.specs.To4.{echo_to_4, is_echo6, upper_to_4}
use Rattle.siit_quoted.specs.Laws.{respelled, spelled}
use Rattle.siit_quoted.proofs.Words.{field16-with_field16, with_field16-same, with_field16-twice}

moved-back : (checksum old new : ℕ) → old ≤ 65535 → new ≤ 65535 → moved (moved checksum old new) new old ≡ checksum % 65535
moved-back checksum old new small_old small_new = omega arith

-- two choices by tests that are equal
if-same : {A : Type 0} (test other : Bool) (x y z w : A) → other ≡ test → (test ≡ true → x ≡ z) → (test ≡ false → y ≡ w) → (if other then x else y) ≡ (if test then z else w)
if-same true other x y z w is then_same else_same = rw is (then_same refl)
if-same false other x y z w is then_same else_same = rw is (else_same refl)

pub tcp_moved-back : (old new : ℕ) (part : List ℕ) → old ≤ 65535 → new ≤ 65535 → tcp_moved new old (tcp_moved old new part) ≡ respelled 16 part
tcp_moved-back old new part small_old small_new =
    elim (cases_Bool (has_field16 part 16)) [
      | inl has ↦
          let inside : 16 + 1 < length part = ltb-true 17 (length part) has in
          let value : ℕ = moved (field16 part 16) old new in
          let one : tcp_moved old new part ≡ with_field16 part 16 value = rw has refl in
          let still : has_field16 (with_field16 part 16 value) 16 ≡ true = ap (λ n. nat_lt 17 n) (length-with_field16 part 16 value inside) ∙ has in
          ap (tcp_moved new old) one ∙ rw still refl
          ∙ with_field16-twice part 16 value _ inside
          ∙ ap (λ n. with_field16 part 16 (moved n new old)) (field16-with_field16 part 16 value inside (omega arith))
          ∙ ap (with_field16 part 16) (moved-back (field16 part 16) old new small_old small_new) ∙ sym (rw has refl)
      | inr hasnt ↦ let none : tcp_moved old new part ≡ part = rw hasnt refl in ap (tcp_moved new old) none ∙ rw hasnt refl
    ]

-- a UDP checksum is spelled in 1 to 65535, and 0 stays
udp-moved-back : (checksum old new : ℕ) → 0 < checksum → checksum < 65536 → old ≤ 65535 → new ≤ 65535 → moved_udp (moved_udp checksum old new) new old ≡ checksum
udp-moved-back checksum old new some small small_old small_new = grind (arith, nat_tests)

udp-moved-some : (checksum old new : ℕ) → (0 < moved_udp checksum old new) × (moved_udp checksum old new < 65536)
udp-moved-some checksum old new = (grind (arith, nat_tests), grind (arith, nat_tests))

-- an ICMP echo message of four bytes at least
pub echo_moved-back : (kind p a b c d : ℕ) (rest : List ℕ) → a < 256 → b < 256 → kind < 256 → p ≤ 65535
    → echo_moved a p 0 (echo_moved kind 0 p (a ∷ b ∷ c ∷ d ∷ rest)) ≡ respelled 2 (a ∷ b ∷ c ∷ d ∷ rest)
echo_moved-back kind p a b c d rest small_a small_b small_kind small_p =
    let has : (l : List ℕ) (w x y z : ℕ) → has_field16 (w ∷ x ∷ y ∷ z ∷ l) 2 ≡ true = λ l w x y z. lt-ltb 3 (length (w ∷ x ∷ y ∷ z ∷ l)) (omega arith) in
    let v : ℕ = moved (moved (c * 256 + d) (a * 256 + b) (kind * 256 + b)) 0 p in
    let one : echo_moved kind 0 p (a ∷ b ∷ c ∷ d ∷ rest) ≡ kind ∷ b ∷ byte_at 1 v ∷ byte_at 0 v ∷ rest = rw (has rest a b c d) refl in
    let read : byte_at 1 v * 256 + byte_at 0 v ≡ v = two-read v (omega arith) in
    let w : ℕ = moved (moved (byte_at 1 v * 256 + byte_at 0 v) (kind * 256 + b) (a * 256 + b)) p 0 in
    let two : echo_moved a p 0 (kind ∷ b ∷ byte_at 1 v ∷ byte_at 0 v ∷ rest) ≡ a ∷ b ∷ byte_at 1 w ∷ byte_at 0 w ∷ rest =
    rw (has rest kind b (byte_at 1 v) (byte_at 0 v)) refl in
    let same : w ≡ (c * 256 + d) % 65535 = omega (arith, read) in
    ap (echo_moved a p 0) one ∙ two ∙ ap (λ n. a ∷ b ∷ byte_at 1 n ∷ byte_at 0 n ∷ rest) same ∙ sym (rw (has rest a b c d) refl)

pub udp_moved-back : (old new : ℕ) (part : List ℕ) → AreBytes part → old ≤ 65535 → new ≤ 65535 → udp_moved new old (udp_moved old new part) ≡ part
udp_moved-back old new part small small_old small_new =
    elim (cases_Bool (has_field16 part 6 && nat_lt 0 (field16 part 6))) [
      | inl has ↦
          let both = and_parts (has_field16 part 6) (nat_lt 0 (field16 part 6)) has in
          let inside : 6 + 1 < length part = ltb-true 7 (length part) both.0 in
          let some : 0 < field16 part 6 = ltb-true 0 (field16 part 6) both.1 in
          let word : field16 part 6 < 65536 = omega (arith, small 6, small 7) in
          let value : ℕ = moved_udp (field16 part 6) old new in
          let range = udp-moved-some (field16 part 6) old new in
          let one : udp_moved old new part ≡ with_field16 part 6 value = rw has refl in
          let read : field16 (with_field16 part 6 value) 6 ≡ value = field16-with_field16 part 6 value inside range.1 in
          let still : (has_field16 (with_field16 part 6 value) 6 && nat_lt 0 (field16 (with_field16 part 6 value) 6)) ≡ true =
          and_from _ _ (ap (λ n. nat_lt 7 n) (length-with_field16 part 6 value inside) ∙ both.0) (lt-ltb 0 _ (subst (λ n. 0 < n) (sym read) range.0)) in
          ap (udp_moved new old) one ∙ rw still refl
          ∙ with_field16-twice part 6 value _ inside
          ∙ ap (λ n. with_field16 part 6 (moved_udp n new old)) read
          ∙ ap (with_field16 part 6) (udp-moved-back (field16 part 6) old new some word small_old small_new) ∙ with_field16-same part 6 small inside
      | inr hasnt ↦ let none : udp_moved old new part ≡ part = rw hasnt refl in ap (udp_moved new old) none ∙ rw hasnt refl
    ]

-- an echo message whose type is a
echo-case : (a kind p b c d : ℕ) (rest : List ℕ) → a < 256 → b < 256 → kind < 256 → p ≤ 65535
    → is_echo4 (a ∷ b ∷ c ∷ d ∷ rest) ≡ true → kind ≡ echo_kind6 a → ((kind == 128) || (kind == 129)) ≡ true → echo_kind4 kind ≡ a
    → echo_to_4 p (echo_to_6 p (a ∷ b ∷ c ∷ d ∷ rest)) ≡ respelled 2 (a ∷ b ∷ c ∷ d ∷ rest)
echo-case a kind p b c d rest small_a small_b small_kind small_p echo is_kind six back =
    let part : List ℕ = a ∷ b ∷ c ∷ d ∷ rest in
    let has : (l : List ℕ) (w x y z : ℕ) → has_field16 (w ∷ x ∷ y ∷ z ∷ l) 2 ≡ true = λ l w x y z. lt-ltb 3 (length (w ∷ x ∷ y ∷ z ∷ l)) (omega arith) in
    let v : ℕ = moved (moved (c * 256 + d) (a * 256 + b) (kind * 256 + b)) 0 p in
    let there : List ℕ = kind ∷ b ∷ byte_at 1 v ∷ byte_at 0 v ∷ rest in
    let to6 : echo_to_6 p part ≡ echo_moved kind 0 p part = rw echo (ap (λ k. echo_moved k 0 p part) (sym is_kind)) in
    let one : echo_moved kind 0 p part ≡ there = rw (has rest a b c d) refl in
    let is_echo : is_echo6 there ≡ true = and_from _ _ (lt-ltb 0 (length there) (omega arith)) six in
    let to4 : echo_to_4 p there ≡ echo_moved a p 0 there = rw is_echo (ap (λ k. echo_moved k p 0 there) back) in
    ap (echo_to_4 p) (to6 ∙ one) ∙ to4 ∙ ap (echo_moved a p 0) (sym one) ∙ echo_moved-back kind p a b c d rest small_a small_b small_kind small_p

echo-type : (part : List ℕ) (a : ℕ) → (nat_lt 0 (length part) && ((a == 8) || (a == 0))) ≡ true → (a ≡ 8) ⊎ (a ≡ 0)
echo-type part a is =
    elim (or_cases (a == 8) (a == 0) (and_parts (nat_lt 0 (length part)) _ is).1) [ inl request ↦ inl (eqb-true a 8 request) | inr reply ↦ inr (eqb-true a 0 reply) ]

echo-back : (p : ℕ) (part : List ℕ) → AreBytes part → p ≤ 65535 → is_echo4 part ≡ true → 8 ≤ length part → echo_to_4 p (echo_to_6 p part) ≡ respelled 2 part
echo-back p [] small small_p echo long = absurd (omega arith)
echo-back p (a ∷ []) small small_p echo long = absurd (omega arith)
echo-back p (a ∷ b ∷ []) small small_p echo long = absurd (omega arith)
echo-back p (a ∷ b ∷ c ∷ []) small small_p echo long = absurd (omega arith)
echo-back p (a ∷ b ∷ c ∷ d ∷ rest) small small_p echo long =
    let small_a : a < 256 = small 0 in
    let small_b : b < 256 = small 1 in
    elim (echo-type (a ∷ b ∷ c ∷ d ∷ rest) a echo) [
      | inl request ↦ echo-case a 128 p b c d rest small_a small_b (omega arith) small_p echo (sym (ap echo_kind6 request)) refl (sym request)
      | inr reply ↦ echo-case a 129 p b c d rest small_a small_b (omega arith) small_p echo (sym (ap echo_kind6 reply)) refl (sym reply)
    ]

upper-other : (protocol : ℕ) (ends : Ends) (whole : ℕ) (part : List ℕ) → (protocol == 6) ≡ false → (protocol == 17) ≡ false → (protocol == 1) ≡ false → (protocol == 58) ≡ false
    → upper_to_4 (next_header_of protocol) ends whole (upper_to_6 protocol ends whole part) ≡ spelled protocol part
upper-other protocol ends whole part a b c d = rw (c, a, b, d) refl

pub upper-back : (protocol : ℕ) (ends : Ends) (whole : ℕ) (part : List ℕ) → AreBytes part → (protocol ≡ 58 → ⊥)
    → (protocol ≡ 1 → (is_echo4 part ≡ true) × (8 ≤ length part))
    → upper_to_4 (next_header_of protocol) ends whole (upper_to_6 protocol ends whole part) ≡ spelled protocol part
upper-back protocol ends whole part small other echo =
    let same = λ (n : ℕ). upper_to_4 (next_header_of n) ends whole (upper_to_6 n ends whole part) ≡ spelled n part in
    elim (cases_eq protocol 6) [
      | inl tcp ↦
          subst same (sym tcp) (tcp_moved-back (pseudo4 ends.source4 ends.destination4 6 whole) (pseudo6 ends.source6 ends.destination6 6 whole) part (omega arith) (omega arith))
      | inr no_tcp ↦
          elim (cases_eq protocol 17) [
            | inl udp ↦
                subst same (sym udp) (udp_moved-back (pseudo4 ends.source4 ends.destination4 17 whole) (pseudo6 ends.source6 ends.destination6 17 whole) part small (omega arith) (omega arith))
            | inr no_udp ↦
                elim (cases_eq protocol 1) [
                  | inl icmp ↦
                      let is = echo icmp in
                      subst same (sym icmp) (echo-back (pseudo6 ends.source6 ends.destination6 58 whole) part small (omega arith) is.0 is.1)
                  | inr no_icmp ↦ upper-other protocol ends whole part (ne_eqb protocol 6 no_tcp) (ne_eqb protocol 17 no_udp) (ne_eqb protocol 1 no_icmp) (ne_eqb protocol 58 other)
                ]
          ]
    ]
