-- The text of a configuration's fault. Devices are counted from 1, entries from 0.
use Rattle.std.specs.Prelude.{ℕ, List, [], ◌++◌, codes}
use Rattle.std.specs.Fmt.{decimal}
use Rattle.siit_config.specs.declared.fault.ConfigFault.{ConfigFault}
use Rattle.siit_config.specs.declared.fault.ConfigFault.TheVariants.{NotToml, Missing, WrongKind, BadValue, Unknown, ChainLength, MtuOrder, BadEam, Eam, NotSymmetric, NoMemory}
use Rattle.siit_eamt.specs.declared.entry.EamFault.{EamFault}
use Rattle.siit_eamt.specs.declared.entry.EamFault.TheVariants as table

-- a text of the device with this number
abbrev pub of_device : ℕ → List ℕ → List ℕ
of_device device text = codes "device " ++ decimal device ++ codes ": " ++ text

-- a word, a blank and a name
abbrev pub named : List ℕ → List ℕ → List ℕ
named word name = word ++ codes " " ++ name

-- a text of the entry with this number
abbrev pub of_entry : ℕ → List ℕ → List ℕ
of_entry entry text = codes "eam " ++ decimal entry ++ codes ": " ++ text

-- Want of memory is no fault of a table or of a configuration, and has no text.
abbrev pub table_text : EamFault → List ℕ
table_text table.TooMany = codes "too many"
table_text (table.HostBits entry) = of_entry entry (codes "HostBits")
table_text (table.SuffixTooLong entry) = of_entry entry (codes "SuffixTooLong")
table_text (table.Twice4 entry other) = of_entry entry (named (codes "Twice4") (decimal other))
table_text (table.Twice6 entry other) = of_entry entry (named (codes "Twice6") (decimal other))
table_text table.NoMemory = []

abbrev pub config_text : ConfigFault → List ℕ
config_text NotToml = codes "not toml"
config_text (Missing device key) = of_device device (named (codes "missing") key.bytes)
config_text (WrongKind device key) = of_device device (named (codes "wrong kind") key.bytes)
config_text (BadValue device key) = of_device device (named (codes "bad value") key.bytes)
config_text (Unknown device key) = of_device device (named (codes "unknown") key.bytes)
config_text ChainLength = codes "chain length"
config_text (MtuOrder device) = of_device device (codes "mtu order")
config_text (BadEam device entry) = of_device device (named (codes "bad eam") (decimal entry))
config_text (Eam device fault) = of_device device (table_text fault)
config_text (NotSymmetric device) = of_device device (codes "not symmetric")
config_text NoMemory = []
