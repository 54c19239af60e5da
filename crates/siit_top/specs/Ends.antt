-- The status of each way in which a command ends.
use Rattle.std.specs.Prelude.{ℕ}
use Rattle.siit_command.specs.declared.reading.Unread.{Unread}
use Rattle.siit_command.specs.declared.reading.Unread.TheVariants as unread
use Rattle.siit_top.specs.declared.commands.ends.Stopped.{Stopped}
use Rattle.siit_top.specs.declared.commands.ends.Stopped.TheVariants as stopped
use Rattle.siit_top.specs.declared.commands.settings.NoSettings.{NoSettings}
use Rattle.siit_top.specs.declared.commands.settings.NoSettings.TheVariants as unset
use Rattle.siit_top.specs.declared.commands.map.MapEnd.{MapEnd}
use Rattle.siit_top.specs.declared.commands.map.MapEnd.TheVariants as map
use Rattle.siit_top.specs.declared.commands.discover.DiscoverEnd.{DiscoverEnd}
use Rattle.siit_top.specs.declared.commands.discover.DiscoverEnd.TheVariants as discover
use Rattle.siit_top.specs.declared.commands.dns64.Dns64End.{Dns64End}
use Rattle.siit_top.specs.declared.commands.dns64.Dns64End.TheVariants as dns64
use Rattle.siit_top.specs.declared.status.Status.{Status}
use Rattle.siit_top.specs.declared.status.Status.TheVariants.{Ok, BadConfig, ReadFault, WriteFault, BadMessage, NoMemory, TooLong, NoDevice}
use Rattle.siit_top.specs.Dns64Run.{message_word}

-- The file that the word at this place names wasn't read.
abbrev pub unread_status : (word : ℕ) → Unread → Status
unread_status word unread.Failed = ReadFault
unread_status word unread.NoMemory = NoMemory
unread_status word unread.TooLong = TooLong word

-- A file wasn't written to its end.
abbrev pub stopped_status : Stopped → Status
stopped_status stopped.Failed = WriteFault
stopped_status stopped.NoMemory = NoMemory

-- CONFIG gave no settings.
abbrev pub unset_status : NoSettings → Status
unset_status (unset.Unread unread) = unread_status 1 unread
unset_status (unset.BadConfig fault) = BadConfig fault
unset_status unset.NoMemory = NoMemory

abbrev pub map_status : MapEnd → Status
map_status map.Printed = Ok
map_status (map.Unread unread) = unread_status 1 unread
map_status (map.BadConfig fault) = BadConfig fault
map_status map.NoDevice = NoDevice
map_status map.NoMemory = NoMemory

abbrev pub discover_status : DiscoverEnd → Status
discover_status discover.Printed = Ok
discover_status (discover.Unread unread) = unread_status 1 unread
discover_status (discover.BadMessage fault) = BadMessage 1 fault
discover_status discover.NoMemory = NoMemory

abbrev pub dns64_status : Dns64End → Status
dns64_status dns64.Answered = Ok
dns64_status (dns64.Unread word unread) = unread_status word unread
dns64_status (dns64.BadMessage fault) = BadMessage (message_word fault.which) fault.fault
dns64_status dns64.NoMemory = NoMemory
dns64_status (dns64.Stopped stopped) = stopped_status stopped
