-- What the rules of both families ask of a packet's fragment: its shape, and how much of the upper part it holds.
use Rattle.std.specs.Prelude.{ℕ, ◌+◌, ◌*◌, ◌%◌, length, Bool, not, ◌&&◌, ◌||◌, ◌==◌, nat_lt, if◌then◌else◌}
use Rattle.siit_model.specs.Fragments.{Fragment, is_whole}

-- A fragment without payload, one with more behind it that doesn't end at a multiple of 8 bytes, or one that ends
-- behind the longest datagram (RFC 791 section 3.2, RFC 8200 section 4.5).
abbrev pub is_misshapen : Fragment → Bool
is_misshapen f =
    not (is_whole f)
    && ((length f.bytes == 0) || (f.more && not (length f.bytes % 8 == 0)) || nat_lt 65535 (8 * f.offset + length f.bytes))

-- how long the header of an upper protocol is: TCP, UDP, and ICMP by its number in the family
abbrev pub least_upper : (icmp protocol : ℕ) → ℕ
least_upper icmp protocol =
    if protocol == 6 then 20
    else if (protocol == 17) || (protocol == icmp) then 8
    else 0

-- the upper part begins here, and its header isn't whole
abbrev pub is_upper_short : (icmp : ℕ) → Fragment → Bool
is_upper_short icmp f = (f.offset == 0) && nat_lt (length f.bytes) (least_upper icmp f.common.protocol)
