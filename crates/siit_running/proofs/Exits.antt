-- Results by what they are.
use Rattle.std.proofs.Common.{◌≡◌, List, Option, Some, None, Result, Ok, Err, IfErr, OnOk, refl, sym}
use Rattle.std.specs.Prelude.{IfSome, IsSome, MatchOption}
use Rattle.std.specs.Borrow.{Bor}
use Rattle.std.proofs.Common.{ℕ}
use Rattle.siit_capture.specs.LinkPackets.{packet_as, packet_of}
use Rattle.siit_capture.specs.Records.{Record}
use Rattle.siit_chain.specs.Carried.{captured_packet}
use Rattle.siit_rules.specs.declared.rule.Family.{Family}
use Rattle.siit_running.specs.Carrying.{packet_in}

pub if_err_by : {T E : Type 0} (r : Result T E) (P : E → Type 0) → ((e : E) → r ≡ Err e → P e) → IfErr r P
if_err_by (Ok x) P h = tt
if_err_by (Err e) P h = h e refl

pub on_ok_by : {E P : Type 0} (r : Result (Unit {0}) E) → (Ok tt ≡ r → P) → OnOk r P
on_ok_by (Ok x) h = h refl
on_ok_by (Err e) h = tt

-- the packet that a reader gives of a record
pub packet_is : (found : Option Record) (result : Option (Family × Bor (List ℕ))) → IsSome found → IfSome found (λ (f : Record). MatchOption result (packet_of f.link f.bytes ≡ None) (λ packet. packet_of f.link f.bytes ≡ packet_as packet.0 packet.1.now)) → captured_packet result ≡ packet_in found
packet_is None result some h = cc
packet_is (Some f) None some h = sym h
packet_is (Some f) (Some packet) some h = sym h
