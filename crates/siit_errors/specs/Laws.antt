-- Laws of generated errors. With them the answers to answers end.
use Rattle.std.specs.Prelude.{◌≡◌, ℕ, ◌+◌, ◌%◌, ◌^◌, ◌<◌, List, length, true, false}
use Rattle.siit_model.specs.Bytes.{AreBytes}
use Rattle.siit_model.specs.Checksum.{IsRightChecksum, pseudo6, residue}
use Rattle.siit_model.specs.Ipv4.{IsGoodIpv4, ipv4_fields}
use Rattle.siit_model.specs.Ipv6.{IsGoodIpv6, ipv6_fields}
use Rattle.siit_icmp.specs.Errors.{is_error_kind4, is_error_kind6}
use Rattle.siit_errors.specs.Answers.{may_answer4, may_answer6}
use Rattle.siit_errors.specs.Errors.{error4, error6, error_packet4, error_packet6}

-- an error is answered by none (RFC 1122 section 3.2.2, RFC 4443 section 2.4)
abbrev pub ErrorsAreNotAnswered4 : Type 0
ErrorsAreNotAnswered4 = (source kind code rest : ℕ) (bytes : List ℕ) → is_error_kind4 kind ≡ true → may_answer4 (error4 source kind code rest bytes) ≡ false

abbrev pub ErrorsAreNotAnswered6 : Type 0
ErrorsAreNotAnswered6 = (source kind code rest : ℕ) (bytes : List ℕ) → is_error_kind6 kind ≡ true → may_answer6 (error6 source kind code rest bytes) ≡ false

-- and may pass 64 devices
abbrev pub ErrorsHaveHops4 : Type 0
ErrorsHaveHops4 = (source kind code rest : ℕ) (bytes : List ℕ) → (ipv4_fields (error4 source kind code rest bytes)).ttl ≡ 64

abbrev pub ErrorsHaveHops6 : Type 0
ErrorsHaveHops6 = (source kind code rest : ℕ) (bytes : List ℕ) → (ipv6_fields (error6 source kind code rest bytes)).hop ≡ 64

-- its checksum is right (RFC 792, RFC 4443 section 2.3)
abbrev pub ErrorsAreRight4 : Type 0
ErrorsAreRight4 = (source kind code rest : ℕ) (bytes : List ℕ) → IsRightChecksum (error_packet4 source kind code rest bytes).payload

abbrev pub ErrorsAreRight6 : Type 0
ErrorsAreRight6 =
    (source kind code rest : ℕ) (bytes : List ℕ)
    → (let packet = error_packet6 source kind code rest bytes in
    (pseudo6 packet.source packet.destination 58 (length packet.body) + residue packet.body) % 65535 ≡ 0)

-- it has a written form
abbrev pub ErrorsAreGood4 : Type 0
ErrorsAreGood4 = (source kind code rest : ℕ) (bytes : List ℕ) → AreBytes bytes → source < 2 ^ 32 → kind < 256 → code < 256
    → IsGoodIpv4 (error_packet4 source kind code rest bytes)

abbrev pub ErrorsAreGood6 : Type 0
ErrorsAreGood6 = (source kind code rest : ℕ) (bytes : List ℕ) → AreBytes bytes → source < 2 ^ 128 → kind < 256 → code < 256
    → IsGoodIpv6 (error_packet6 source kind code rest bytes)
