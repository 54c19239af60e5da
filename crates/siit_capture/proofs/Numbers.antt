-- Numbers at the front of bytes, where more bytes follow.
use Rattle.std.proofs.Common.{◌≡◌, ℕ, ◌+◌, ◌≤◌, ◌<◌, List, ◌++◌, length, arith}
use Rattle.std.specs.Prelude.{slice_index}
use Rattle.std.proofs.lemmas.List.{get_or_append_left}
use Rattle.siit_capture.specs.Heads.{number16, number32}
use Rattle.siit_capture.specs.declared.form.Endian.{Endian}
use Rattle.siit_capture.specs.declared.form.Endian.TheVariants.{Big, Little}

pub byte_more : (xs more : List ℕ) (place : ℕ) → place < length xs → slice_index (xs ++ more) place ≡ slice_index xs place
byte_more xs more place h = get_or_append_left xs more 0 place h

pub number16_more : (endian : Endian) (xs more : List ℕ) (place : ℕ) → place + 2 ≤ length xs → number16 endian (xs ++ more) place ≡ number16 endian xs place
number16_more Big xs more place h = rw (byte_more xs more place (omega arith), byte_more xs more (place + 1) (omega arith))
number16_more Little xs more place h = rw (byte_more xs more place (omega arith), byte_more xs more (place + 1) (omega arith))

pub number32_more : (endian : Endian) (xs more : List ℕ) (place : ℕ) → place + 4 ≤ length xs → number32 endian (xs ++ more) place ≡ number32 endian xs place
number32_more Big xs more place h = rw (number16_more Big xs more place (omega arith), number16_more Big xs more (place + 2) (omega arith))
number32_more Little xs more place h = rw (number16_more Little xs more place (omega arith), number16_more Little xs more (place + 2) (omega arith))
