-- What a file that is read to its end is to the program that reads it.
use Rattle.std.specs.Prelude.{ℕ, ◌≤◌, ◌<◌, List, length, IsTrue}
use Rattle.siit_model.specs.Bytes.{AreBytes}
use Rattle.siit_word.specs.Files.{held, FilesMeaning, Holds, ReadFailed}
use Rattle.siit_command.specs.declared.reading.Unread.{Unread}
use Rattle.siit_command.specs.declared.reading.Unread.TheVariants.{Failed, NoMemory, TooLong}

-- The file was read to its end as these bytes, which are at most so many.
pub record WasRead (files : FilesMeaning) (name : List ℕ) (most : ℕ) (bytes : List ℕ) : Type 0 where
  pub file : Holds files name bytes
  pub within : length bytes ≤ most
  pub are_bytes : AreBytes bytes

-- The file holds more bytes than so many.
abbrev pub IsLonger : FilesMeaning → (name : List ℕ) (most : ℕ) → Type 0
IsLonger files name most = IsTrue (files.told name) → most < length (held (files.contents name))

-- why it wasn't read
abbrev pub IsUnread : (before after : FilesMeaning) (name : List ℕ) (most : ℕ) → Unread → Type 0
IsUnread before after name most Failed = ReadFailed before after name
IsUnread before after name most NoMemory = Unit {0}
IsUnread before after name most TooLong = IsLonger before name most
