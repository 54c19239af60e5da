-- Settings that are made are those of the well-known translator.
use Rattle.std.proofs.Common.{◌≡◌, ℕ, ◌≤◌, List, [], ◌∷◌, false, true, refl, ap, subst, ◌∙◌}
use Rattle.std.proofs.Math.Bridge.{le_prop}
use Rattle.siit_addr.specs.declared.addr.Addr4.{Addr4}
use Rattle.siit_addr.specs.declared.addr.Addr6.{Addr6}
use Rattle.siit_addr.specs.declared.addr.Prefix6.{Prefix6}
use Rattle.siit_eamt.specs.declared.entry.Eam.{Eam}
use Rattle.siit_map.specs.Mapping.{Mapping, table}
use Rattle.siit_rfc6052.specs.Embedding.{well_known}
use Rattle.siit_roles.specs.declared.role.Role.TheVariants.{Plain}
use Rattle.siit_roles.specs.declared.settings.Settings.{Settings}
use Rattle.siit_top.specs.WellKnown.{own_address4, own_address6, well_known_device, well_known_prefix}

abbrev prefix_of : (number len : ℕ) → len ≤ 128 → Prefix6
prefix_of number len within = record { addr = record { 0 = number }; len = len; in_range = within }

-- prefixes of one address and one length are one
same_prefix : (a b l m : ℕ) → a ≡ b → l ≡ m → (i : l ≤ 128) (j : m ≤ 128) → prefix_of a l i ≡ prefix_of b m j
same_prefix a b l m same is i =
    subst (λ (n : ℕ). (j : n ≤ 128) → prefix_of a l i ≡ prefix_of b n j) is
    (λ j. ap (λ (x : ℕ). prefix_of x l i) same ∙ ap (λ (k : l ≤ 128). prefix_of b l k) (le_prop i j))

-- a device that is the well-known one but for its mapping and its pool
abbrev device_with : Mapping → List Addr4 → Settings
device_with mapping pool = record well_known_device { mapping = mapping; pool4 = pool }

pub is_well_known : {mapping : Mapping} {entries : List Eam} {prefix : Prefix6} {pool : List Addr4} → mapping ≡ table entries prefix → entries ≡ [] → prefix.len ≡ 96 → prefix.addr.0 ≡ well_known → pool ≡ own_address4 ∷ []
    → device_with mapping pool ≡ well_known_device
is_well_known {mapping} {entries} {prefix} {pool} is none len address one =
    let same : prefix ≡ well_known_prefix = same_prefix prefix.addr.0 well_known prefix.len 96 address len prefix.in_range well_known_prefix.in_range in
    ap (λ (m : Mapping). device_with m pool) (is ∙ ap (λ (es : List Eam). table es prefix) none ∙ ap (table []) same)
    ∙ ap (device_with (table [] well_known_prefix)) one
