-- Identifications to come, by device and by how many stand before.
use Rattle.std.specs.Prelude.{◌≡◌, ◌≢◌, ℕ, zero, suc, ◌+◌, ◌%◌, List, [], slice_get, slice_index}
use Rattle.std.specs.Option.{option_map_or}
use Rattle.std.specs.Global.{Vec}
use Rattle.siit_word.specs.declared.idents.ListIdents.{ListIdents}
use Rattle.siit_word.specs.declared.idents.Counter.{Counter}

-- The device's first number is gone, and the others moved up.
abbrev pub DropsFirst : (ℕ → ℕ → ℕ) → (ℕ → ℕ → ℕ) → ℕ → Type 0
DropsFirst old new device = (k : ℕ) → new device k ≡ old device (k + 1)

abbrev pub KeepsOtherDevices : (ℕ → ℕ → ℕ) → (ℕ → ℕ → ℕ) → ℕ → Type 0
KeepsOtherDevices old new device = (other k : ℕ) → other ≢ device → new other k ≡ old other k

-- The list of a device: device 1 has the first, and one without a list the empty one.
abbrev pub list_for : List (Vec ℕ) → ℕ → List ℕ
list_for lists zero = []
list_for lists (suc place) = option_map_or (λ v. v.items) (slice_get lists place) []

-- what a device's list gives, and 0 after its end
abbrev pub coming_listed : ListIdents → ℕ → ℕ → ℕ
coming_listed idents device k = slice_index (list_for idents.lists.items device) (slice_index idents.taken device + k)

-- what a device's number counts up to, and 0 after 65535
abbrev pub coming_counted : Counter → ℕ → ℕ → ℕ
coming_counted counter device k = (slice_index counter.next device + k) % 65536
