-- The parts of the definitions that functions of this crate look up in tables of their own.
use Rattle.std.specs.Prelude.{ℕ, ◌+◌, ◌*◌, ◌==◌, if◌then◌else◌, Option, Some, None}
use Rattle.siit_icmp.specs.declared.kinds.NewKind.{NewKind}
use Rattle.siit_icmp.specs.declared.kinds.Rest.TheVariants.{Zero, Mtu, Pointer, PointerSix, Length}
use Rattle.siit_icmp.specs.Icmp.{new, is_echo_kind4, echo_kind6, is_echo_kind6, echo_kind4, unreachable_to_6, problem_to_6, unreachable_to_4, problem_to_4}

-- a type and a code as one number
abbrev pub pair_of : NewKind → ℕ
pair_of message = 256 * message.kind + message.code

-- the ICMPv6 type of an ICMPv4 echo message, and back
abbrev pub echo_row_to_6 : ℕ → Option ℕ
echo_row_to_6 kind = if is_echo_kind4 kind then Some (echo_kind6 kind) else None

abbrev pub echo_row_to_4 : ℕ → Option ℕ
echo_row_to_4 kind = if is_echo_kind6 kind then Some (echo_kind4 kind) else None

-- the errors of ICMPv4 that keep their code: Time Exceeded
abbrev pub any_code_to_6 : (kind code : ℕ) → Option NewKind
any_code_to_6 kind code = if kind == 11 then Some (new 3 code Length) else None

-- the messages of ICMPv4 whose code decides
abbrev pub one_code_to_6 : (kind code : ℕ) → Option NewKind
one_code_to_6 kind code =
    if kind == 3 then unreachable_to_6 code
    else if kind == 12 then problem_to_6 code
    else None

-- an ICMPv6 error with what its type and code say of bytes 4 to 7
abbrev pub error_row_to_6 : (kind code : ℕ) → NewKind
error_row_to_6 kind code = new kind code (if kind == 2 then Mtu else if kind == 4 then (if code == 0 then Pointer else PointerSix) else Length)

-- the errors of ICMPv6 that are translated whatever their code is: Packet Too Big, and Time Exceeded
abbrev pub any_code_to_4 : (kind code : ℕ) → Option NewKind
any_code_to_4 kind code =
    if kind == 2 then Some (new 3 4 Mtu)
    else if kind == 3 then Some (new 11 code Length)
    else None

-- the messages of ICMPv6 whose code decides
abbrev pub one_code_to_4 : (kind code : ℕ) → Option NewKind
one_code_to_4 kind code =
    if kind == 1 then unreachable_to_4 code
    else if kind == 4 then problem_to_4 code
    else None

-- An ICMPv4 error with what its type and code say of bytes 4 to 7. An unknown next header is an unreachable protocol,
-- which has no quote with a length.
abbrev pub error_row_to_4 : (kind code : ℕ) → NewKind
error_row_to_4 kind code = new kind code (if kind == 12 then Pointer else if code == 2 then Zero else Length)
