-- What the program's own addresses stand for.
use Rattle.siit_command.specs.Words as words
use Rattle.siit_command.specs.declared.words.Address.{Address}
use Rattle.siit_command.specs.declared.words.Address.TheVariants.{Four, Six}

abbrev pub address_read : Address → words.Address
address_read (Four a) = words.four a.0
address_read (Six x) = words.six x.0
