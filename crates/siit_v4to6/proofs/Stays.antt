-- The residue of pseudo-header and upper part stays.
use Rattle.std.proofs.Common.{◌≡◌, ℕ, ◌+◌, ◌%◌, ◌<◌, ◌≤◌, List, length, slice_set, Bool, true, if◌then◌else◌, ◌∙◌, ap, sym, subst, refl, arith}
use Rattle.std.proofs.lemmas.Bool.Decides.{nat_tests}
use Rattle.siit_model.specs.Bytes.{field8}
use Rattle.siit_model.specs.Checksum.{pseudo4, pseudo6, residue}
use Rattle.siit_model.specs.Upper.{Ends}
use Rattle.siit_icmp.specs.Icmp.{echo_kind6}
use Rattle.siit_checksum.proofs.Fields.{length-set_first}
use Rattle.siit_checksum.proofs.Moves.{moved_between_keeps_residue, moved_udp_between_keeps_residue}
use Rattle.siit_upper.proofs.Between.{echo_is_moved_between, tcp_is_moved_between, udp_is_moved_between}
use Rattle.siit_v4to6.specs.Laws.{ResidueStaysTo6}
use Rattle.siit_v4to6.specs.To6.{is_echo4}

when : (test : Bool) (a b : List ℕ) → test ≡ true → (if test then a else b) ≡ a
when test a b is = rw is refl

kind-byte : (kind : ℕ) → echo_kind6 kind < 256
kind-byte kind = grind (arith, nat_tests)

pub residue_stays_to_6 : ResidueStaysTo6
residue_stays_to_6 = record {
  tcp = λ (ends : Ends) (whole : ℕ) (part : List ℕ) there.
      let p : ℕ = pseudo4 ends.source4 ends.destination4 6 whole in
      let q : ℕ = pseudo6 ends.source6 ends.destination6 6 whole in
      ap (λ l. (q + residue l) % 65535) (tcp_is_moved_between p q part (omega arith) (omega arith) there)
      ∙ moved_between_keeps_residue 16 p q part part refl (omega arith) (omega arith);
  udp = λ (ends : Ends) (whole : ℕ) (part : List ℕ) there some.
      let p : ℕ = pseudo4 ends.source4 ends.destination4 17 whole in
      let q : ℕ = pseudo6 ends.source6 ends.destination6 17 whole in
      ap (λ l. (q + residue l) % 65535) (udp_is_moved_between p q part (omega arith) (omega arith) there some)
      ∙ moved_udp_between_keeps_residue 6 p q part part refl (omega arith) (omega arith);
  echo = λ (ends : Ends) (whole : ℕ) (part : List ℕ) are_bytes there is_echo.
      let q : ℕ = pseudo6 ends.source6 ends.destination6 58 whole in
      let kind : ℕ = echo_kind6 (field8 part 0) in
      let turned : List ℕ = slice_set part 0 kind in
      let long : 4 ≤ length turned = subst (λ n. 4 ≤ n) (sym (length-set_first part kind)) there in
      ap (λ l. (q + residue l) % 65535) (when (is_echo4 part) _ part is_echo ∙ echo_is_moved_between kind 0 q part (kind-byte (field8 part 0)) are_bytes (omega arith) (omega arith) there)
      ∙ moved_between_keeps_residue 2 0 q part turned refl there long
      ∙ omega arith;
}
