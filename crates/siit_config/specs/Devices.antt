-- The configuration of one device: its keys in the order of the configuration's documentation, and the faults behind
-- them.
use Rattle.std.specs.Prelude.{ℕ, ◌+◌, ◌-◌, ◌^◌, min, List, [], ◌∷◌, codes, Bool, true, false, not, ◌||◌, nat_lt, Option, Some, None, option_map, Result, Ok, Err}
use Rattle.toml.specs.Data.{Data, Members, as_str}
use Rattle.siit_addr.specs.declared.addr.Addr4.{Addr4}
use Rattle.siit_addr.specs.declared.addr.Prefix4.{Prefix4}
use Rattle.siit_addr.specs.declared.addr.Prefix6.{Prefix6}
use Rattle.siit_eamt.specs.declared.entry.Eam.{Eam}
use Rattle.siit_eamt.specs.declared.entry.EamFault.{EamFault}
use Rattle.siit_eamt.specs.Faults.{table_fault}
use Rattle.siit_eamt.specs.Disjoint.{is_disjoint}
use Rattle.siit_map.specs.Mapping as mapping
use Rattle.siit_roles.specs.declared.role.Role.{Role}
use Rattle.siit_roles.specs.declared.role.Role.TheVariants.{Plain, Border, Edge, Customer}
use Rattle.siit_roles.specs.declared.settings.Settings.{Settings}
use Rattle.siit_config.specs.Faults.{Fault, mtu_order, bad_eam, eam, not_symmetric, ◌>>=◌}
use Rattle.siit_config.specs.Keys.{text, text_or, number_or, flag_or, key, array_of, two_texts, no_others}
use Rattle.siit_addr.specs.Prefixes.{addr4_of_text, addr6_of_text}
use Rattle.siit_config.specs.Texts.{role_of, clean_prefix_of, embedding_of, local_embedding_of, pool_of, either_name, mapping_entry_of}

-- The keys of the top level, where there is no role, and those of a device with a role.
abbrev pub known_keys : Option Role → List (List ℕ)
known_keys None = codes "left" ∷ codes "symmetric" ∷ codes "device" ∷ []
known_keys (Some role) =
    codes "role" ∷ codes "prefix" ∷ codes "address4" ∷ codes "address6" ∷ codes "pool4" ∷ codes "mtu4"
    ∷ codes "mtu6" ∷ codes "lowest_mtu6" ∷ codes "tos" ∷ codes "udp_zero" ∷ keys_of role
  where
    keys_of : Role → List (List ℕ)
    keys_of Plain = codes "hairpin" ∷ codes "eam" ∷ []
    keys_of Border = codes "hairpin" ∷ codes "eam" ∷ []
    keys_of Edge = codes "eam" ∷ []
    keys_of Customer = codes "local4" ∷ codes "local_prefix6" ∷ []

-- a condition, or else the fault
abbrev pub must : Fault → Bool → Result (Unit {0}) Fault
must fault true = Ok tt
must fault false = Err fault

-- an entry from an array of two texts, none where one of them is no prefix
abbrev pub entry_in : Data → Option (Option Eam)
entry_in value = option_map mapping_entry_of (two_texts value)

-- The entries, unless one of them is no prefix; those before it are counted. The count is held at its greatest value,
-- which no configuration reaches.
abbrev pub mapping_entries_of : (device before : ℕ) → List (Option Eam) → Result (List Eam) Fault
mapping_entries_of device before [] = Ok []
mapping_entries_of device before (None ∷ rest) = Err (bad_eam device (min before (2 ^ 32 - 1)))
mapping_entries_of device before (Some entry ∷ rest) = do
  entries ← mapping_entries_of device (before + 1) rest
  Ok (entry ∷ entries)

-- a table of these entries (RFC 7757 section 3)
abbrev pub table_of : (symmetric : Bool) (device : ℕ) → Prefix6 → List Eam → Result mapping.Mapping Fault
table_of symmetric device prefix entries = do
  _ ← no_fault (table_fault entries)
  _ ← must (not_symmetric device) (not symmetric || is_disjoint entries prefix)
  Ok (mapping.table entries prefix)
  where
    no_fault : Option EamFault → Result (Unit {0}) Fault
    no_fault None = Ok tt
    no_fault (Some fault) = Err (eam device fault)

-- the mapping, from the prefix, the local prefixes of a customer and the entries
abbrev pub mapping_of : (symmetric : Bool) (device : ℕ) → Prefix6 → Option (Prefix4 × Prefix6) → List (Option Eam) → Result mapping.Mapping Fault
mapping_of symmetric device prefix (Some local) entries = Ok (mapping.customer local.0 local.1 prefix)
mapping_of symmetric device prefix None entries = do
  good ← mapping_entries_of device 0 entries
  table_of symmetric device prefix good

module _ (device : ℕ) (members : Members) where
  -- what a customer stands for locally: its IPv4 prefix, and the IPv6 prefix of that
  abbrev pub local_of : Role → (prefix : Prefix6) → Result (Option (Prefix4 × Prefix6)) Fault
  local_of Customer prefix = do
    local4 ← text device members clean_prefix_of (codes "local4")
    local_prefix6 ← text device members (local_embedding_of prefix) (codes "local_prefix6")
    Ok (Some (local4, local_prefix6))
  local_of role prefix = Ok None

  -- the pool of IPv4 addresses, address4 alone where the key isn't there
  abbrev pub pool4_of : (address4 : Addr4) → Result (List Addr4) Fault
  pool4_of address4 = key device members (array_of as_str) pool_of (Some (address4 ∷ [])) (codes "pool4")

  abbrev pub hairpin_of : Role → Result Bool Fault
  hairpin_of Plain = flag_or device members true (codes "hairpin")
  hairpin_of Border = flag_or device members true (codes "hairpin")
  hairpin_of role = Ok false

  abbrev pub eam_of : Role → Result (List (Option Eam)) Fault
  eam_of Customer = Ok []
  eam_of role = key device members (array_of entry_in) (λ entries. Some entries) (Some []) (codes "eam")

  abbrev pub device_of : (symmetric : Bool) → Result Settings Fault
  device_of symmetric = do
    role ← text device members role_of (codes "role")
    prefix ← text device members embedding_of (codes "prefix")
    local ← local_of role prefix
    address4 ← text device members addr4_of_text (codes "address4")
    address6 ← text device members addr6_of_text (codes "address6")
    pool4 ← pool4_of address4
    mtu4 ← number_or device members 1500 68 65535 (codes "mtu4")
    mtu6 ← number_or device members 1500 1280 65535 (codes "mtu6")
    lowest ← number_or device members 1280 1280 65535 (codes "lowest_mtu6")
    tos_zero ← text_or device members false (either_name (codes "copy") (codes "zero")) (codes "tos")
    udp_compute ← text_or device members false (either_name (codes "drop") (codes "compute")) (codes "udp_zero")
    hairpin ← hairpin_of role
    entries ← eam_of role
    _ ← no_others device (known_keys (Some role)) members
    _ ← must (mtu_order device) (not (nat_lt mtu6 lowest))
    mapped ← mapping_of symmetric device prefix local entries
    Ok (record {
      role = role;
      mapping = mapped;
      address4 = address4;
      address6 = address6;
      pool4 = pool4;
      mtu4 = mtu4;
      mtu6 = mtu6;
      lowest = lowest;
      tos_zero = tos_zero;
      udp_compute = udp_compute;
      hairpin = hairpin;
    })
