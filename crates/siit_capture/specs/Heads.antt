-- The head of a classic capture, 24 bytes (draft-ietf-opsawg-pcap, section 4): it says the form of all records.
use Rattle.std.specs.Prelude.{ℕ, ◌+◌, ◌*◌, List, length, drop, slice_index, Bool, ◌&&◌, ◌==◌, nat_lt, if◌then◌else◌, Option, Some, None, option_map}
use Rattle.siit_model.specs.Bytes.{field16, field32}
use Rattle.siit_capture.specs.Fronts.{Front, bad, cut, whole}
use Rattle.siit_capture.specs.declared.form.CaptureFault.TheVariants.{BadLinkType, BadMagic, BadVersion}
use Rattle.siit_capture.specs.declared.form.Endian.{Endian}
use Rattle.siit_capture.specs.declared.form.Endian.TheVariants.{Big, Little}
use Rattle.siit_capture.specs.declared.form.Resolution.{Resolution}
use Rattle.siit_capture.specs.declared.form.Resolution.TheVariants.{Microseconds, Nanoseconds}
use Rattle.siit_capture.specs.declared.form.LinkType.{LinkType}
use Rattle.siit_capture.specs.declared.form.LinkType.TheVariants.{Ethernet, Ipv4, Ipv6, Raw}
use Rattle.siit_capture.specs.declared.form.Magic.{Magic}
use Rattle.siit_capture.specs.declared.form.Form.{Form}

-- the numbers in two and in four bytes from a place on
abbrev pub number16 : Endian → List ℕ → ℕ → ℕ
number16 Big bytes place = field16 bytes place
number16 Little bytes place = slice_index bytes place + 256 * slice_index bytes (place + 1)

abbrev pub number32 : Endian → List ℕ → ℕ → ℕ
number32 Big bytes place = field32 bytes place
number32 Little bytes place = number16 Little bytes place + 65536 * number16 Little bytes (place + 2)

-- the two magic numbers, by the resolution of times that they mean
abbrev pub resolution_of : ℕ → Option Resolution
resolution_of number =
    if number == 0xa1b2c3d4 then Some Microseconds
    else if number == 0xa1b23c4d then Some Nanoseconds
    else None

abbrev pub magic_in : Endian → List ℕ → Option Magic
magic_in endian bytes =
    option_map (λ resolution. record { endian = endian; resolution = resolution }) (resolution_of (number32 endian bytes 0))

abbrev pub or_else : {A : Type 0} → Option A → Option A → Option A
or_else (Some a) other = Some a
or_else None other = other

-- The magic number stands in the byte order of all further fields.
abbrev pub magic_of : List ℕ → Option Magic
magic_of bytes = or_else (magic_in Big bytes) (magic_in Little bytes)

-- version 2.4
abbrev pub is_version : Endian → List ℕ → Bool
is_version endian bytes = (number16 endian bytes 4 == 2) && (number16 endian bytes 6 == 4)

-- the link types that are read: Ethernet frames, IP packets of either version, IPv4 packets, IPv6 packets
abbrev pub link_of : ℕ → Option LinkType
link_of number =
    if number == 1 then Some Ethernet
    else if number == 101 then Some Raw
    else if number == 228 then Some Ipv4
    else if number == 229 then Some Ipv6
    else None

abbrev pub head_by_link : Magic → Option LinkType → List ℕ → Front Form
head_by_link magic None bytes = bad BadLinkType
head_by_link magic (Some link) bytes = whole (record { magic = magic; link = link }) (drop 24 bytes)

abbrev pub head_by_magic : Option Magic → List ℕ → Front Form
head_by_magic None bytes = bad BadMagic
head_by_magic (Some magic) bytes =
    if nat_lt (length bytes) 24 then cut
    else if is_version magic.endian bytes then head_by_link magic (link_of (number32 magic.endian bytes 20)) bytes
    else bad BadVersion

-- The head at the front. The eight bytes behind the version and the snapshot length aren't read.
abbrev pub head_front : List ℕ → Front Form
head_front bytes = if nat_lt (length bytes) 4 then cut else head_by_magic (magic_of bytes) bytes
