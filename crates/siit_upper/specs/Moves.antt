-- Transport checksums that move from a pseudo-header of residue `old` to one of residue `new` (RFC 1624), in a part
-- that may be cut.
use Rattle.std.specs.Prelude.{ℕ, List, slice_set, ◌&&◌, nat_lt, if◌then◌else◌}
use Rattle.siit_model.specs.Bytes.{field16, with_field16}
use Rattle.siit_model.specs.Checksum.{moved, moved_udp}
use Rattle.siit_model.specs.Upper.{has_field16}

-- TCP: its checksum stands at 16. It stays where it isn't whole in the part.
abbrev pub tcp_moved : (old new : ℕ) → List ℕ → List ℕ
tcp_moved old new part = if has_field16 part 16 then with_field16 part 16 (moved (field16 part 16) old new) else part

-- UDP: the same at 6, but that a checksum of 0, which says that there is none, stays, and that none is written as 0.
abbrev pub udp_moved : (old new : ℕ) → List ℕ → List ℕ
udp_moved old new part =
    if has_field16 part 6 && nat_lt 0 (field16 part 6) then with_field16 part 6 (moved_udp (field16 part 6) old new) else part

-- ICMP echo, whose checksum stands at 2: it gets the type `kind`, and the checksum moves by that and by the
-- pseudo-header, which has residue 0 where there is none.
abbrev pub echo_moved : (kind old new : ℕ) → List ℕ → List ℕ
echo_moved kind old new part =
    let turned = slice_set part 0 kind in
    if has_field16 part 2 then with_field16 turned 2 (moved (moved (field16 part 2) (field16 part 0) (field16 turned 0)) old new) else turned

-- an ICMPv6 message whose type stays: its checksum, which stands at 2, moves likewise
abbrev pub icmp_moved : (old new : ℕ) → List ℕ → List ℕ
icmp_moved old new part = if has_field16 part 2 then with_field16 part 2 (moved (field16 part 2) old new) else part
