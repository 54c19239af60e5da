-- What becomes of an upper part, as far as the rules on upper parts tell: of an ICMPv6 error the new type and code, its
-- quote not being looked at.
use Rattle.std.specs.Prelude.{◌≡◌, ◌≤◌, length, true, false, Option, Some, None, Ok, IsSome}
use Rattle.siit_model.specs.Bytes.{field8, field32}
use Rattle.siit_icmp.specs.Icmp.{icmp_to_4, pointer_to_4}
use Rattle.siit_icmp.specs.declared.kinds.NewKind.{NewKind}
use Rattle.siit_icmp.specs.declared.kinds.Rest.TheVariants.{Pointer}
use Rattle.siit_device.specs.Arrival6.{Arrived, arrived_fragment, is_error6}

pub record HasErrorKind6 (arrived : Arrived) (new : NewKind) : Type 0 where
  pub is_error : is_error6 (arrived_fragment arrived) ≡ true
  pub header : 8 ≤ length (arrived_fragment arrived).bytes
  pub kind : icmp_to_4 (field8 (arrived_fragment arrived).bytes 0) (field8 (arrived_fragment arrived).bytes 1) ≡ Ok new
  pub pointer : new.rest ≡ Pointer → IsSome (pointer_to_4 (field32 (arrived_fragment arrived).bytes 4))

-- an ICMPv6 error with this type and code on the other side, or another upper part
abbrev pub HasKind6 : Arrived → Option NewKind → Type 0
HasKind6 arrived None = is_error6 (arrived_fragment arrived) ≡ false
HasKind6 arrived (Some new) = HasErrorKind6 arrived new
