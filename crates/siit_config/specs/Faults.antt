-- The faults of a configuration, their keys as texts.
use Rattle.std.specs.Prelude.{◌≡◌, ◌≢◌, ℕ, List, Option, Some, None, IfSome, Result, Ok, Err}
use Rattle.siit_eamt.specs.declared.entry.EamFault.{EamFault}
use Rattle.siit_eamt.specs.declared.entry.EamFault.TheVariants as table_fault
use Rattle.siit_config.specs.declared.fault.ConfigFault.{ConfigFault}
use Rattle.siit_config.specs.declared.fault.ConfigFault.TheVariants.{NotToml, Missing, WrongKind, BadValue, Unknown, ChainLength, MtuOrder, BadEam, Eam, NotSymmetric, NoMemory}

-- Devices are counted from 1; 0 is the top level.
pub data Fault : Type 0 where
  not_toml : Fault
  missing : (device : ℕ) (key : List ℕ) → Fault
  wrong_kind : (device : ℕ) (key : List ℕ) → Fault
  bad_value : (device : ℕ) (key : List ℕ) → Fault
  unknown : (device : ℕ) (key : List ℕ) → Fault
  chain_length : Fault
  mtu_order : (device : ℕ) → Fault
  bad_eam : (device entry : ℕ) → Fault
  eam : (device : ℕ) (fault : EamFault) → Fault
  not_symmetric : (device : ℕ) → Fault

-- the fault of a text, none where memory was refused
abbrev pub fault_of : ConfigFault → Option Fault
fault_of NotToml = Some not_toml
fault_of (Missing device key) = Some (missing device key.bytes)
fault_of (WrongKind device key) = Some (wrong_kind device key.bytes)
fault_of (BadValue device key) = Some (bad_value device key.bytes)
fault_of (Unknown device key) = Some (unknown device key.bytes)
fault_of ChainLength = Some chain_length
fault_of (MtuOrder device) = Some (mtu_order device)
fault_of (BadEam device entry) = Some (bad_eam device entry)
fault_of (Eam device fault) = Some (eam device fault)
fault_of (NotSymmetric device) = Some (not_symmetric device)
fault_of NoMemory = None

-- the fault of a table is none of memory
abbrev pub IsNoTableMemory : ConfigFault → Type 0
IsNoTableMemory (Eam device fault) = fault ≢ table_fault.NoMemory
IsNoTableMemory _ = Unit {0}

-- The fault is told exactly. Want of memory tells nothing, and it is no fault of a table.
abbrev pub Tells : {X : Type 0} → ConfigFault → Result X Fault → Type 0
Tells e r = IsNoTableMemory e × IfSome (fault_of e) (λ fault. r ≡ Err fault)

-- the outcome of a call is the one that is told
abbrev pub Gives : {X : Type 0} → Result X Fault → Result X ConfigFault → Type 0
Gives told (Ok x) = told ≡ Ok x
Gives told (Err e) = Tells e told

-- the first outcome goes on as f says, unless it is a fault
infixl 10 ◌>>=◌
abbrev pub ◌>>=◌ : {A B : Type 0} → Result A Fault → (A → Result B Fault) → Result B Fault
Ok a >>= f = f a
Err fault >>= f = Err fault

-- the value that is there, or else the fault
abbrev pub or_fault : {X : Type 0} → Fault → Option X → Result X Fault
or_fault fault None = Err fault
or_fault fault (Some x) = Ok x
