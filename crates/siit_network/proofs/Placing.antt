-- Devices that are placed one after another.
use Rattle.std.proofs.Common.{◌≡◌, suc, ◌<◌, List, [], ◌∷◌, ◌++◌, length, refl, ap, sym, ◌∙◌, arith, All}
use Rattle.std.proofs.lemmas.List.{append_assoc}
use Rattle.siit_rules.specs.declared.rule.Family.{Family}
use Rattle.siit_roles.specs.Chain as configured
use Rattle.siit_roles.specs.Limits.{IsWithinLimits}
use Rattle.siit_roles.specs.declared.settings.Settings.{Settings}
use Rattle.siit_chain.specs.Carried.{chain_of}
use Rattle.siit_engine.specs.Placed.{Placed, life_of, other_family, outcome_at}
use Rattle.siit_network.specs.Networks.{family_behind, network, placed_from}

-- one device more
module _ (family : Family) (done now all : List Placed) (settings : Settings) (rest items : List Settings) (is : items ≡ settings ∷ rest) where
  pub placed_on : done ++ placed_from family items ≡ all → (placed : Placed) → placed.settings ≡ settings → placed.left ≡ family → now ≡ done ++ placed ∷ []
      → now ++ placed_from (other_family family) rest ≡ all
  placed_on before placed own left pushed =
      ap (λ xs. xs ++ placed_from (other_family family) rest) (pushed ∙ (λ i. done ++ record { settings = own i; left = left i } ∷ []))
      ∙ append_assoc done (record { settings = settings; left = family } ∷ []) (placed_from (other_family family) rest)
      ∙ ap (λ xs. done ++ placed_from family xs) (sym is)
      ∙ before

  pub behind_on : (last : Family) → family_behind family items ≡ last → family_behind (other_family family) rest ≡ last
  behind_on last before = ap (family_behind family) (sym is) ∙ before

  pub limits_on : All IsWithinLimits items → All IsWithinLimits rest
  limits_on before k d below = let shifted = before (suc k) d (omega (arith, ap length is, below)) in rw is at shifted

-- as many devices as settings
placed_length : (left : Family) (settings : List Settings) → length (placed_from left settings) ≡ length settings
placed_length left [] = refl
placed_length left (own ∷ rest) = ap suc (placed_length (other_family left) rest)

pub as_many_placed : {devices : List Placed} (left : Family) (settings : List Settings) → devices ≡ placed_from left settings → length settings < 256
    → length devices < 256
as_many_placed left settings is few = omega (arith, ap length is, placed_length left settings, few)

-- the chain that was made is the network
pub same_network : (settings : configured.Chain) (devices : List Placed) (left right : Family) → devices ≡ placed_from settings.left settings.devices
    → left ≡ settings.left → right ≡ family_behind settings.left settings.devices
    → chain_of outcome_at life_of devices left right ≡ network settings
same_network settings devices left right is first last =
    ap (λ ds. chain_of outcome_at life_of ds left right) is
    ∙ ap (λ f. chain_of outcome_at life_of (placed_from settings.left settings.devices) f right) first
    ∙ ap (chain_of outcome_at life_of (placed_from settings.left settings.devices) settings.left) last
