-- What becomes of an upper part, as far as the rules on upper parts tell: of an ICMP error the new type and code, its
-- quote not being looked at.
use Rattle.std.specs.Prelude.{◌≡◌, ◌≤◌, length, true, Ok, IsSome}
use Rattle.siit_model.specs.Bytes.{field8}
use Rattle.siit_model.specs.Ipv4.{Ipv4Packet}
use Rattle.siit_icmp.specs.Icmp.{icmp_to_6, pointer_to_6}
use Rattle.siit_icmp.specs.declared.kinds.NewKind.{NewKind}
use Rattle.siit_icmp.specs.declared.kinds.Rest.TheVariants.{Pointer}
use Rattle.siit_device.specs.Arrival4.{is_error4}
use Rattle.siit_arrival4.specs.Arrived.{HasMoved4, HasBare4}
use Rattle.siit_arrival4.specs.declared.kinds.Kind4.{Kind4}
use Rattle.siit_arrival4.specs.declared.kinds.Kind4.TheVariants.{Moved, Bare, Error}

pub record HasErrorKind4 (packet : Ipv4Packet) (new : NewKind) : Type 0 where
  pub is_error : is_error4 packet ≡ true
  pub header : 8 ≤ length packet.payload
  pub kind : icmp_to_6 (field8 packet.payload 0) (field8 packet.payload 1) ≡ Ok new
  pub pointer : new.rest ≡ Pointer → IsSome (pointer_to_6 (field8 packet.payload 4))

abbrev pub HasKind4 : Ipv4Packet → Kind4 → Type 0
HasKind4 packet Moved = HasMoved4 packet
HasKind4 packet Bare = HasBare4 packet
HasKind4 packet (Error new) = HasErrorKind4 packet new
