-- The devices of a configured chain. Each stands between an IPv4 link and an IPv6 link, so that the families of the
-- links alternate.
use Rattle.std.specs.Prelude.{List, [], ◌∷◌}
use Rattle.siit_rules.specs.declared.rule.Family.{Family}
use Rattle.siit_roles.specs.Chain as configured
use Rattle.siit_roles.specs.declared.settings.Settings.{Settings}
use Rattle.siit_chain.specs.Carried.{Chain, chain_of}
use Rattle.siit_engine.specs.Placed.{Placed, life_of, other_family, outcome_at}

-- the devices of these settings behind a link of this family
abbrev pub placed_from : Family → List Settings → List Placed
placed_from left [] = []
placed_from left (settings ∷ rest) = record { settings = settings; left = left } ∷ placed_from (other_family left) rest

-- the family of the link behind them
abbrev pub family_behind : Family → List Settings → Family
family_behind left [] = left
family_behind left (settings ∷ rest) = family_behind (other_family left) rest

abbrev pub network : configured.Chain → Chain Placed
network chain =
    chain_of outcome_at life_of (placed_from chain.left chain.devices) chain.left (family_behind chain.left chain.devices)
