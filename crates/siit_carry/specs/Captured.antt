-- A captured packet, or the rule that drops it before any device.
use Rattle.std.specs.Prelude.{ℕ, List, take, Option, Some, None, Result, Ok, Err, Bool, true, false}
use Rattle.std.specs.Borrow.{Bor}
use Rattle.siit_capture.specs.LinkPackets.{IpPacket}
use Rattle.siit_rules.specs.declared.rule.Family.{Family}
use Rattle.siit_rules.specs.declared.rule.Rule.{Rule}
use Rattle.siit_rules.specs.declared.rule.Rule.TheVariants.{NotIp, OtherFamily}
use Rattle.siit_chain.specs.Carried.{is_family, most_bytes}

-- the bytes of a packet that are looked at, where its family is the link's
abbrev pub bytes_if : (is_wanted : Bool) → List ℕ → Result (List ℕ) Rule
bytes_if true bytes = Ok (take most_bytes bytes)
bytes_if false bytes = Err OtherFamily

abbrev pub judged : (wanted : Family) → Option IpPacket → Result (List ℕ) Rule
judged wanted None = Err NotIp
judged wanted (Some packet) = bytes_if (is_family packet.family wanted) packet.bytes

abbrev pub bytes_or_rule : Result (Bor (List ℕ)) Rule → Result (List ℕ) Rule
bytes_or_rule (Ok bytes) = Ok bytes.now
bytes_or_rule (Err rule) = Err rule
