-- The configuration of a chain of devices. Its keys, their defaults and the order of the faults are this project's own.
use Rattle.std.specs.Prelude.{ℕ, ◌+◌, List, [], ◌∷◌, length, codes, Bool, false, nat_le, ◌&&◌, if◌then◌else◌, Option, Some, None, Result, Ok}
use Rattle.std.specs.Str.{is_utf8}
use Rattle.toml.specs.Data.{Members, as_integer, as_table}
use Rattle.toml.specs.Parse.{parse_document}
use Rattle.siit_roles.specs.Chain.{Chain}
use Rattle.siit_roles.specs.declared.settings.Settings.{Settings}
use Rattle.siit_config.specs.Faults.{Fault, not_toml, chain_length, ◌>>=◌, or_fault}
use Rattle.siit_config.specs.Keys.{key, flag_or, array_of, no_others}
use Rattle.siit_config.specs.Texts.{family_of}
use Rattle.siit_config.specs.Devices.{device_of, known_keys, must}

-- the devices of these tables, counted from a number; all faults of one come before those of the next
abbrev pub devices_of : (symmetric : Bool) (device : ℕ) → List Members → Result (List Settings) Fault
devices_of symmetric device [] = Ok []
devices_of symmetric device (members ∷ tables) = do
  settings ← device_of device members symmetric
  rest ← devices_of symmetric (device + 1) tables
  Ok (settings ∷ rest)

-- the chain of a document's members
abbrev pub chain_settings_of : Members → Result Chain Fault
chain_settings_of members = do
  left ← key 0 members as_integer family_of None (codes "left")
  symmetric ← flag_or 0 members false (codes "symmetric")
  tables ← key 0 members (array_of as_table) (λ tables. Some tables) None (codes "device")
  _ ← must chain_length (nat_le 1 (length tables) && nat_le (length tables) 8)
  _ ← no_others 0 (known_keys None) members
  devices ← devices_of symmetric 1 tables
  Ok (record { left = left; devices = devices })

-- the members of the TOML document that the bytes are
abbrev pub document_of : List ℕ → Option Members
document_of bytes = if is_utf8 bytes then parse_document bytes else None

abbrev pub config_of : List ℕ → Result Chain Fault
config_of bytes = do
  members ← or_fault not_toml (document_of bytes)
  chain_settings_of members
