-- What the devices of an accepted configuration are.
use Rattle.std.specs.Prelude.{◌≡◌, ℕ, ◌^◌, ◌<◌, ◌≤◌, List, length, codes, Bool, false, true, None, Result, Ok, IsOk, IsTrue}
use Rattle.std.specs.List.{All}
use Rattle.siit_addr.specs.declared.addr.Prefix6.{Prefix6}
use Rattle.siit_eamt.specs.declared.entry.Eam.{Eam}
use Rattle.siit_eamt.specs.Faults.{table_fault}
use Rattle.siit_map.specs.Mapping.{Mapping, table, customer, ipv6_for}
use Rattle.siit_map.specs.Reversible.{IsDisjointTable, IsReversible}
use Rattle.siit_rfc6052.specs.Embedding.{is_embedding_prefix}
use Rattle.siit_roles.specs.Chain.{Chain}
use Rattle.siit_roles.specs.Limits.{IsWithinLimits}
use Rattle.siit_roles.specs.declared.role.Role.{Role}
use Rattle.siit_roles.specs.declared.role.Role.TheVariants.{Plain, Border, Edge, Customer}
use Rattle.siit_roles.specs.declared.settings.Settings.{Settings}
use Rattle.siit_config.specs.Config.{config_of, document_of}
use Rattle.siit_config.specs.Faults.{Fault, not_toml, ◌>>=◌, or_fault}
use Rattle.siit_config.specs.Keys.{flag_or}

-- addresses with the bits of their families
pub record IsEntryInRange (entry : Eam) : Type 0 where
  pub four : entry.p4.addr.0 < 2 ^ 32
  pub six : entry.p6.addr.0 < 2 ^ 128

-- a table without fault, beside a prefix under which addresses are embedded
pub record IsAcceptedTable (entries : List Eam) (prefix : Prefix6) : Type 0 where
  pub accepted : table_fault entries ≡ None
  pub embeds : IsTrue (is_embedding_prefix prefix.len prefix.addr.0)
  pub entries_in_range : All IsEntryInRange entries
  pub prefix_in_range : prefix.addr.0 < 2 ^ 128

pub record HasAcceptedTable (mapping : Mapping) : Type 0 where
  pub entries : List Eam
  pub prefix : Prefix6
  pub is : mapping ≡ table entries prefix
  pub accepted : IsAcceptedTable entries prefix

-- A customer's device has its local prefixes, and any other a table.
abbrev pub IsMappingFor : Role → Mapping → Type 0
IsMappingFor Plain mapping = HasAcceptedTable mapping
IsMappingFor Border mapping = HasAcceptedTable mapping
IsMappingFor Edge mapping = HasAcceptedTable mapping
IsMappingFor Customer mapping = Unit {0}

pub record IsAcceptedDevice (settings : Settings) : Type 0 where
  pub limits : IsWithinLimits settings
  pub mapping : IsMappingFor settings.role settings.mapping

pub record IsAcceptedChain (chain : Chain) : Type 0 where
  pub some_device : 1 ≤ length chain.devices
  pub few_devices : length chain.devices ≤ 8
  pub each : All IsAcceptedDevice chain.devices

-- The chain of every configuration that is accepted keeps its limits, and each table is one.
abbrev pub AcceptedChainsAreGood : Type 0
AcceptedChainsAreGood = (bytes : List ℕ) (chain : Chain) → config_of bytes ≡ Ok chain → IsAcceptedChain chain

-- the key `symmetric` of a document, false where it isn't there
abbrev pub symmetric_of : List ℕ → Result Bool Fault
symmetric_of bytes = do
  members ← or_fault not_toml (document_of bytes)
  flag_or 0 members false (codes "symmetric")

-- No two prefixes of a family overlap, the translation prefix among them.
abbrev pub IsDisjointMapping : Mapping → Type 0
IsDisjointMapping (table entries prefix) = IsDisjointTable entries prefix
IsDisjointMapping (customer local4 local6 provider) = Unit {0}

-- A configuration that is symmetric has no other table.
abbrev pub SymmetricTablesAreDisjoint : Type 0
SymmetricTablesAreDisjoint =
    (bytes : List ℕ) (chain : Chain) → config_of bytes ≡ Ok chain → symmetric_of bytes ≡ Ok true
    → All (λ settings. IsDisjointMapping settings.mapping) chain.devices

-- a device's IPv4 addresses that map forth come back, where it has a table
abbrev pub MapsBack : Mapping → Type 0
MapsBack (table entries prefix) = (a : ℕ) → a < 2 ^ 32 → IsOk (ipv6_for (table entries prefix) a) → IsReversible (table entries prefix) a
MapsBack (customer local4 local6 provider) = Unit {0}

-- So each IPv4 address that a device of it maps comes back there.
abbrev pub SymmetricAddressesComeBack : Type 0
SymmetricAddressesComeBack =
    (bytes : List ℕ) (chain : Chain) → config_of bytes ≡ Ok chain → symmetric_of bytes ≡ Ok true
    → All (λ settings. MapsBack settings.mapping) chain.devices
