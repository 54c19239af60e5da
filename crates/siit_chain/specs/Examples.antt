-- Texts and ways through a chain, as worked by hand.
use Rattle.std.specs.Prelude.{◌≡◌, ℕ, ◌+◌, ◌-◌, ◌*◌, List, [], ◌∷◌, ◌++◌, map, codes, true, false, Option, Some, None}
use Rattle.siit_capture.specs.LinkPackets.{IpPacket, packet_as}
use Rattle.siit_rules.specs.declared.rule.Family.TheVariants.{Four, Six}
use Rattle.siit_rules.specs.declared.rule.Rule.TheVariants.{Expired6, NotIp, OtherFamily, SourceMap4, UdpZero4}
use Rattle.siit_chain.specs.Carried.{Chain, Trace, carry_captured, fresh}
use Rattle.siit_chain.specs.Log.{drops, leaves, text_of}
use Rattle.siit_chain.specs.Outcome.{Outcome, dropped, pieces, through}
use Rattle.siit_chain.specs.Texts.{end_line, output_record, report_line}
use Rattle.siit_chain.specs.declared.origin.End.{End}
use Rattle.siit_chain.specs.declared.origin.End.TheVariants.{Left, Right}
use Rattle.siit_chain.specs.declared.origin.Origin.{Origin}
use Rattle.siit_chain.specs.declared.origin.Output.TheVariants as outputs

-- the fourth record of the right capture
abbrev pub fourth : Origin
fourth = record { end = Right; number = 4; seconds = 1; nanos = 5000 }

-- the first record of the left capture
abbrev pub first : Origin
first = record { end = Left; number = 1; seconds = 1; nanos = 5000 }

pub record TextExamples : Type 0 where
  -- a record at one second and five microseconds
  pub packet : output_record first (0x60 ∷ 0x00 ∷ [])
      ≡ 0x01 ∷ 0x00 ∷ 0x00 ∷ 0x00 ∷ 0x88 ∷ 0x13 ∷ 0x00 ∷ 0x00 ∷ 0x02 ∷ 0x00 ∷ 0x00 ∷ 0x00 ∷ 0x02 ∷ 0x00 ∷ 0x00 ∷ 0x00 ∷ 0x60 ∷ 0x00 ∷ []
  pub silent : report_line first 1 UdpZero4 false ≡ codes "L 1 1 22 UdpZero4 silent" ++ 10 ∷ []
  -- a rule that has an answer, where none was sent
  pub unanswered : report_line first 6 SourceMap4 false ≡ codes "L 1 6 29 SourceMap4 silent" ++ 10 ∷ []
  pub answered4 : report_line fourth 1 SourceMap4 true ≡ codes "R 4 1 29 SourceMap4 icmp4/3/13" ++ 10 ∷ []
  pub answered6 : report_line first 2 Expired6 true ≡ codes "L 1 2 58 Expired6 icmp6/3/0" ++ 10 ∷ []
  pub end : end_line (record { left_read = 4; right_read = 0; left = 0; right = 2; dropped = 2 }) ≡ codes "end 4 0 0 2 2" ++ 10 ∷ []
  -- a number that has no place in 64 bits
  pub most : end_line (record { left_read = 18446744073709551616; right_read = 0; left = 0; right = 0; dropped = 0 })
      ≡ codes "end 18446744073709551615 0 0 0 0" ++ 10 ∷ []

-- Three devices of little use. A packet is the number of events that it may have, and a body.
pub data Toy : Type 0 where
  -- sends on each byte of the body alone
  cutter : Toy
  -- sends on the packet with its own next number before the body
  marker : Toy
  -- drops the packet and answers
  refuser : Toy

abbrev pub toy_outcome : Toy → End → List ℕ → ℕ → Outcome
toy_outcome toy side [] ident = dropped NotIp None
toy_outcome cutter side (life ∷ body) ident = pieces false (map (λ byte. (life - 1) ∷ byte ∷ []) body)
toy_outcome marker side (life ∷ body) ident = through true ((life - 1) ∷ ident ∷ body)
toy_outcome refuser side (life ∷ body) ident = dropped Expired6 (Some (2 ∷ 7 ∷ []))

abbrev pub toy_measure : List ℕ → ℕ
toy_measure [] = 0
toy_measure (life ∷ body) = life

abbrev pub toys : List Toy → Chain Toy
toys devices = record { outcome = toy_outcome; measure = toy_measure; devices = devices; left = Four; right = Six }

-- the numbers that device 2 hands out begin with 200
abbrev pub numbers : ℕ → ℕ → ℕ
numbers device k = 100 * device + k

abbrev pub carried_by : List Toy → Origin → Option IpPacket → Trace
carried_by devices origin captured = carry_captured (toys devices) origin (fresh numbers) captured

pub record CarriedExamples : Type 0 where
  -- each piece is given the next number
  pub numbered : (carried_by (cutter ∷ marker ∷ []) first (packet_as Four (9 ∷ 5 ∷ 6 ∷ []))).log
      ≡ leaves first Right (7 ∷ 200 ∷ 5 ∷ []) ∷ leaves first Right (7 ∷ 201 ∷ 6 ∷ []) ∷ []
  pub two_used : (carried_by (cutter ∷ marker ∷ []) first (packet_as Four (9 ∷ 5 ∷ 6 ∷ []))).coming 2 0 ≡ 202
  -- the answer to the first piece has left before the second piece is dropped
  pub depth_first : (carried_by (cutter ∷ refuser ∷ []) first (packet_as Four (9 ∷ 5 ∷ 6 ∷ []))).log
      ≡ drops first 2 Expired6 true ∷ leaves first Left (1 ∷ 7 ∷ []) ∷ drops first 2 Expired6 true ∷ leaves first Left (1 ∷ 7 ∷ []) ∷ []
  -- from the right the last device comes first
  pub from_right : (carried_by (marker ∷ marker ∷ []) fourth (packet_as Six (9 ∷ 5 ∷ []))).log ≡ leaves fourth Left (7 ∷ 100 ∷ 200 ∷ 5 ∷ []) ∷ []
  pub other_family : (carried_by (marker ∷ []) first (packet_as Six (9 ∷ 5 ∷ []))).log ≡ drops first 0 OtherFamily false ∷ []
  pub no_packet : text_of (carried_by (marker ∷ []) first None).log outputs.Report ≡ codes "L 1 0 1 NotIp silent" ++ 10 ∷ []
