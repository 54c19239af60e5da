-- What the roles refuse, the first rule in the rules' order. An address whose mapping is refused has no entry and is
-- not local. These rules are this project's own, for the edge relay of RFC 7756 and the customer side of RFC 6877.
use Rattle.std.specs.Prelude.{Bool, true, false, not, if◌then◌else◌, Option, Some, None}
use Rattle.siit_map.specs.declared.mapping.Means.{Means}
use Rattle.siit_map.specs.declared.mapping.Means.TheVariants.{Eam, Local}
use Rattle.siit_rules.specs.declared.rule.Rule.{Rule}
use Rattle.siit_rules.specs.declared.rule.Rule.TheVariants.{RoleSource4, RoleDestination4, RoleSource6, RoleDestination6}
use Rattle.siit_roles.specs.declared.role.Role.{Role}
use Rattle.siit_roles.specs.declared.role.Role.TheVariants.{Edge, Customer}

abbrev pub has_entry : Option Means → Bool
has_entry (Some (Eam entry)) = true
has_entry _ = false

abbrev pub is_local : Option Means → Bool
is_local (Some Local) = true
is_local _ = false

-- a packet that arrives on the IPv4 side
abbrev pub role_refusal4 : Role → (src dst : Option Means) → Option Rule
role_refusal4 Edge src dst = if has_entry src then None else Some RoleSource4
role_refusal4 Customer src dst =
    if not (is_local src) then Some RoleSource4
    else if is_local dst then Some RoleDestination4
    else None
role_refusal4 _ src dst = None

-- a packet that arrives on the IPv6 side
abbrev pub role_refusal6 : Role → (src dst : Option Means) → Option Rule
role_refusal6 Edge src dst = if has_entry dst then None else Some RoleDestination6
role_refusal6 Customer src dst =
    if is_local src then Some RoleSource6
    else if not (is_local dst) then Some RoleDestination6
    else None
role_refusal6 _ src dst = None
