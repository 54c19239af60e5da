-- The table of RFC 6052 section 2.4: 192.0.2.33 under a prefix of each length.
use Rattle.std.specs.Prelude.{◌≡◌, ℕ, ◌*◌, ◌+◌, Some}
use Rattle.siit_addr.specs.Addresses.{dotted}
use Rattle.siit_rfc6052.specs.Embedding.{embedded, extracted}

-- the number of an IPv6 address by its eight groups
abbrev groups : (a b c d e f g h : ℕ) → ℕ
groups a b c d e f g h =
    ((((((a * 65536 + b) * 65536 + c) * 65536 + d) * 65536 + e) * 65536 + f) * 65536 + g) * 65536 + h

-- the address is embedded so under the prefix, and extracted again
abbrev IsRow : (len prefix a x : ℕ) → Type 0
IsRow len prefix a x = (embedded len prefix a ≡ x) × (extracted len prefix x ≡ Some a)

abbrev pub EmbeddingExamples : Type 0
EmbeddingExamples =
    IsRow 32 (groups 0x2001 0xdb8 0 0 0 0 0 0) (dotted 192 0 2 33) (groups 0x2001 0xdb8 0xc000 0x221 0 0 0 0)
    × IsRow 40 (groups 0x2001 0xdb8 0x100 0 0 0 0 0) (dotted 192 0 2 33) (groups 0x2001 0xdb8 0x1c0 2 0x21 0 0 0)
    × IsRow 48 (groups 0x2001 0xdb8 0x122 0 0 0 0 0) (dotted 192 0 2 33) (groups 0x2001 0xdb8 0x122 0xc000 2 0x2100 0 0)
    × IsRow 56 (groups 0x2001 0xdb8 0x122 0x300 0 0 0 0) (dotted 192 0 2 33) (groups 0x2001 0xdb8 0x122 0x3c0 0 0x221 0 0)
    × IsRow 64 (groups 0x2001 0xdb8 0x122 0x344 0 0 0 0) (dotted 192 0 2 33) (groups 0x2001 0xdb8 0x122 0x344 0xc0 2 0x2100 0)
    × IsRow 96 (groups 0x2001 0xdb8 0x122 0x344 0 0 0 0) (dotted 192 0 2 33) (groups 0x2001 0xdb8 0x122 0x344 0 0 0xc000 0x221)
