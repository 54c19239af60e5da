-- Worked choices from a pool.
use Rattle.std.specs.Prelude.{◌≡◌, ℕ, List, [], ◌∷◌, map, Option, Some, None, option_map}
use Rattle.siit_addr.specs.Addresses.{dotted}
use Rattle.siit_addr.specs.declared.addr.Addr4.{Addr4}
use Rattle.siit_roles.specs.Pool.{pool_source}

abbrev pool_of : List ℕ → List Addr4
pool_of addresses = map (λ a. record { 0 = a }) addresses

abbrev sources : List ℕ → (identifications : List ℕ) → List (Option ℕ)
sources pool identifications = map (λ i. option_map (λ a. a.0) (pool_source (pool_of pool) i)) identifications

-- of 192.0.2.250 and 192.0.2.251 the second for odd identifications
abbrev pub TwoAddressesTakeTurns : Type 0
TwoAddressesTakeTurns =
    (sources (dotted 192 0 2 250 ∷ dotted 192 0 2 251 ∷ []) (1 ∷ 2 ∷ 0 ∷ 65535 ∷ [])
    ≡ Some (dotted 192 0 2 251) ∷ Some (dotted 192 0 2 250) ∷ Some (dotted 192 0 2 250) ∷ Some (dotted 192 0 2 251) ∷ [])

-- one address serves always, and an empty pool has none
abbrev pub OneAddressServesAlways : Type 0
OneAddressServesAlways =
    (sources (dotted 192 0 2 254 ∷ []) (0 ∷ 1 ∷ 65535 ∷ []) ≡ Some (dotted 192 0 2 254) ∷ Some (dotted 192 0 2 254) ∷ Some (dotted 192 0 2 254) ∷ [])
    × (sources [] (1 ∷ []) ≡ None ∷ [])
