-- The residue of pseudo-header and upper part stays.
use Rattle.std.proofs.Common.{◌≡◌, ℕ, ◌+◌, ◌%◌, ◌<◌, ◌≤◌, List, length, slice_set, Bool, true, if◌then◌else◌, ◌∙◌, ap, sym, subst, refl, arith}
use Rattle.std.proofs.lemmas.Bool.Decides.{nat_tests}
use Rattle.siit_model.specs.Bytes.{field8, field16}
use Rattle.siit_model.specs.Checksum.{pseudo4, pseudo6, residue}
use Rattle.siit_model.specs.Upper.{Ends}
use Rattle.siit_icmp.specs.Icmp.{echo_kind4}
use Rattle.siit_checksum.proofs.Fields.{length-set_first}
use Rattle.siit_checksum.proofs.Moves.{moved_between_keeps_residue, moved_udp_between_keeps_residue}
use Rattle.siit_upper.proofs.Between.{echo_is_moved_between, icmp_is_moved_between, tcp_is_moved_between, udp_is_moved_between}
use Rattle.siit_upper.specs.Moves.{tcp_moved, udp_moved}
use Rattle.siit_v6to4.specs.Laws.{ResidueStaysTo4, ResidueStaysTurned}
use Rattle.siit_v6to4.specs.To4.{is_echo6}

when : (test : Bool) (a b : List ℕ) → test ≡ true → (if test then a else b) ≡ a
when test a b is = rw is refl

kind-byte : (kind : ℕ) → echo_kind4 kind < 256
kind-byte kind = grind (arith, nat_tests)

tcp-stays : (p q : ℕ) (part : List ℕ) → p ≤ 65535 → q ≤ 65535 → 18 ≤ length part → (q + residue (tcp_moved p q part)) % 65535 ≡ (p + residue part) % 65535
tcp-stays p q part small_p small_q there =
    ap (λ l. (q + residue l) % 65535) (tcp_is_moved_between p q part small_p small_q there)
    ∙ moved_between_keeps_residue 16 p q part part refl (omega arith) (omega arith)

udp-stays : (p q : ℕ) (part : List ℕ) → p ≤ 65535 → q ≤ 65535 → 8 ≤ length part → 0 < field16 part 6
    → (q + residue (udp_moved p q part)) % 65535 ≡ (p + residue part) % 65535
udp-stays p q part small_p small_q there some =
    ap (λ l. (q + residue l) % 65535) (udp_is_moved_between p q part small_p small_q there some)
    ∙ moved_udp_between_keeps_residue 6 p q part part refl (omega arith) (omega arith)

pub residue_stays_to_4 : ResidueStaysTo4
residue_stays_to_4 = record {
  tcp = λ (ends : Ends) (whole : ℕ) (part : List ℕ) there.
      tcp-stays (pseudo6 ends.source6 ends.destination6 6 whole) (pseudo4 ends.source4 ends.destination4 6 whole) part (omega arith) (omega arith) there;
  udp = λ (ends : Ends) (whole : ℕ) (part : List ℕ) there some.
      udp-stays (pseudo6 ends.source6 ends.destination6 17 whole) (pseudo4 ends.source4 ends.destination4 17 whole) part (omega arith) (omega arith) there some;
  echo = λ (ends : Ends) (whole : ℕ) (part : List ℕ) are_bytes there is_echo.
      let p : ℕ = pseudo6 ends.source6 ends.destination6 58 whole in
      let kind : ℕ = echo_kind4 (field8 part 0) in
      let turned : List ℕ = slice_set part 0 kind in
      let long : 4 ≤ length turned = subst (λ n. 4 ≤ n) (sym (length-set_first part kind)) there in
      let stays = moved_between_keeps_residue 2 p 0 part turned refl there long in
      let is = ap residue (when (is_echo6 part) _ part is_echo ∙ echo_is_moved_between kind p 0 part (kind-byte (field8 part 0)) are_bytes (omega arith) (omega arith) there) in
      is ∙ omega (arith, stays);
}

pub residue_stays_turned : ResidueStaysTurned
residue_stays_turned = record {
  tcp = tcp-stays;
  udp = udp-stays;
  icmp = λ (p q : ℕ) (part : List ℕ) small_p small_q there.
      ap (λ l. (q + residue l) % 65535) (icmp_is_moved_between p q part small_p small_q there)
      ∙ moved_between_keeps_residue 2 p q part part refl there there;
}
