-- Laws of the walk over extension headers, of Fragment headers (RFC 8200 sections 4 and 4.5), and of moved checksums
-- (RFC 1624).
use Rattle.std.specs.Prelude.{◌≡◌, ℕ, ◌<◌, ◌≤◌, List, ◌++◌, length, slice_set, false, Some, Ok}
use Rattle.siit_model.specs.Bytes.{AreBytes, field16, with_field16}
use Rattle.siit_model.specs.Checksum.{moved_between, without_zero}
use Rattle.siit_model.specs.Extensions.{FragmentFields, Walked, fragment_fields, fragment_header, is_extension, walk_of}
use Rattle.siit_model.specs.Fragments.{Fragment, fields_in, fragment6, fragment_packet6, plain_packet6}
use Rattle.siit_upper.specs.Moves.{echo_moved, icmp_moved, tcp_moved, udp_moved}

-- a Fragment header that is written is read as its fields
abbrev pub FragmentHeaderIsRead : Type 0
FragmentHeaderIsRead = (next : ℕ) (fields : FragmentFields) (behind : List ℕ) → fields.offset < 8192 → fields.id < 4294967296
    → fragment_fields (fragment_header next fields ++ behind) ≡ fields

-- a fragment is read in the packet that is made of it
abbrev pub FragmentIsRead6 : Type 0
FragmentIsRead6 = (f : Fragment) → f.offset < 8192 → f.id < 4294967296 → is_extension f.common.protocol ≡ false
    → fragment6 (fragment_packet6 f) ≡ Some f

-- and in one without a Fragment header its upper part is read as that of a whole packet
abbrev pub PlainIsRead6 : Type 0
PlainIsRead6 = (f : Fragment) → is_extension f.common.protocol ≡ false → fragment6 (plain_packet6 f) ≡ Some (record f { id = 0; offset = 0; more = false })

-- what a walk over bytes finds has room in its fields
pub record HasRoom (walked : Walked) : Type 0 where
  pub upper : walked.upper < 256
  pub offset : (fields_in walked.fragment).offset < 8192
  pub id : (fields_in walked.fragment).id < 4294967296

abbrev pub WalksHaveRoom : Type 0
WalksHaveRoom = (next : ℕ) (body : List ℕ) (walked : Walked) → AreBytes body → next < 256 → walk_of next body ≡ Ok walked → HasRoom walked

-- TCP, UDP and ICMP are moved by one rule, `moved_between`, of which an echo message that gets another type is an
-- instance too. The residues of the pseudo-headers are at most 65535.
abbrev pub TcpIsMovedBetween : Type 0
TcpIsMovedBetween = (old new : ℕ) (part : List ℕ) → old ≤ 65535 → new ≤ 65535 → 18 ≤ length part
    → tcp_moved old new part ≡ with_field16 part 16 (moved_between 16 old new part part)

abbrev pub UdpIsMovedBetween : Type 0
UdpIsMovedBetween = (old new : ℕ) (part : List ℕ) → old ≤ 65535 → new ≤ 65535 → 8 ≤ length part → 0 < field16 part 6
    → udp_moved old new part ≡ with_field16 part 6 (without_zero (moved_between 6 old new part part))

abbrev pub IcmpIsMovedBetween : Type 0
IcmpIsMovedBetween = (old new : ℕ) (part : List ℕ) → old ≤ 65535 → new ≤ 65535 → 4 ≤ length part
    → icmp_moved old new part ≡ with_field16 part 2 (moved_between 2 old new part part)

abbrev pub EchoIsMovedBetween : Type 0
EchoIsMovedBetween = (kind old new : ℕ) (part : List ℕ) → kind < 256 → AreBytes part → old ≤ 65535 → new ≤ 65535 → 4 ≤ length part
    → echo_moved kind old new part ≡ with_field16 (slice_set part 0 kind) 2 (moved_between 2 old new part (slice_set part 0 kind))
