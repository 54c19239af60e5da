-- The pair of SIIT-DC: a border relay (RFC 7755) and, behind it, an edge relay (RFC 7756) with the border's table.
use Rattle.std.specs.Prelude.{◌≡◌, [], ◌∷◌, Bool, true, false}
use Rattle.siit_map.specs.Mapping.{Mapping, customer, entries_of, prefix_in, table}
use Rattle.siit_rules.specs.declared.rule.Family.TheVariants.{Four}
use Rattle.siit_roles.specs.Chain.{Chain}
use Rattle.siit_roles.specs.declared.role.Role.TheVariants.{Border, Edge}
use Rattle.siit_roles.specs.declared.settings.Settings.{Settings}

-- Two devices with one prefix and one table, its entries in one order.
pub record HaveOneTable (border edge : Settings) : Type 0 where
  pub prefixes : prefix_in border.mapping ≡ prefix_in edge.mapping
  pub entries : entries_of border.mapping ≡ entries_of edge.mapping

-- The left link is IPv4, and there are two devices, a border and then an edge, with one table. All else may differ.
pub record IsPair (chain : Chain) : Type 0 where
  pub border : Settings
  pub edge : Settings
  pub left : chain.left ≡ Four
  pub devices : chain.devices ≡ border ∷ edge ∷ []
  pub border_role : border.role ≡ Border
  pub edge_role : edge.role ≡ Edge
  pub table : HaveOneTable border edge

-- the mapping by a table, which every border and edge of a configuration has
abbrev pub is_table : Mapping → Bool
is_table (table entries prefix) = true
is_table (customer local4 local6 provider) = false
