-- Where a refusal is one of a group's, the group's first rule is that refusal.
use Rattle.std.proofs.Common.{◌≡◌, ◌⊎◌, inl, inr, ℕ, List, Bool, true, false, not, ◌==◌, if◌then◌else◌, Option, Some, None, ok_or, Ok, Err, refl, ap}
use Rattle.siit_rules.specs.declared.rule.Rule.{Rule}
use Rattle.siit_rules.specs.declared.rule.Rule.TheVariants.{IcmpType4, IcmpCode4, RoleSource4, RoleDestination4, QuoteShort4, QuoteBad4, NestedTwice4, QuoteType4}
use Rattle.siit_icmp.specs.Icmp.{icmp_to_6, unreachable_to_6, problem_to_6, is_echo_kind4, echo_kind6, new}
use Rattle.siit_icmp.specs.declared.kinds.NewKind.{NewKind}
use Rattle.siit_icmp.specs.declared.kinds.Rest.TheVariants.{Same, Mtu, Pointer, PointerSix, Length}
use Rattle.siit_map.specs.declared.mapping.Means.{Means}
use Rattle.siit_roles.specs.Roles.{role_refusal4, has_entry, is_local}
use Rattle.siit_roles.specs.declared.role.Role.{Role}
use Rattle.siit_roles.specs.declared.role.Role.TheVariants.{Plain, Border, Edge, Customer}
use Rattle.siit_quoted.specs.Refusals.{quote_refusal4, is_short_quote4, is_bad_quote4, is_nested4, is_untranslated4}
use Rattle.siit_quoted.specs.Quoted.{quoted4_fields, quoted_fragment4}
use Rattle.siit_device.specs.Rows.{is_by}

-- ICMP

kind_by : (a b c d : Bool) (x y : Option NewKind) (k l : NewKind) (rule : Rule)
    → (if a then Ok k else if b then ok_or x IcmpCode4 else if c then Ok l else if d then ok_or y IcmpCode4 else Err IcmpType4) ≡ Err rule
    → (rule ≡ IcmpType4) ⊎ (rule ≡ IcmpCode4)
kind_by true b c d x y k l rule e = cc
kind_by false true c d None y k l rule e = inr cc
kind_by false true c d (Some x) y k l rule e = cc
kind_by false false true d x y k l rule e = cc
kind_by false false false true x None k l rule e = inr cc
kind_by false false false true x (Some y) k l rule e = cc
kind_by false false false false x y k l rule e = inl cc

pub kind_refusal : (kind code : ℕ) (rule : Rule) → icmp_to_6 kind code ≡ Err rule → (rule ≡ IcmpType4) ⊎ (rule ≡ IcmpCode4)
kind_refusal kind code rule e =
    kind_by (is_echo_kind4 kind) (kind == 3) (kind == 11) (kind == 12) (unreachable_to_6 code) (problem_to_6 code)
    (new (echo_kind6 kind) code Same) (new 3 code Length) rule e

unreachable_by : (a b c d f : Bool) (n : NewKind)
    → (if a then Some (new 1 0 Length) else if b then Some (new 4 1 PointerSix) else if c then Some (new 1 4 Length)
    else if d then Some (new 2 0 Mtu) else if f then Some (new 1 1 Length) else None) ≡ Some n
    → n.rest ≡ Pointer → ⊥
unreachable_by true b c d f n e p = cc
unreachable_by false true c d f n e p = cc
unreachable_by false false true d f n e p = cc
unreachable_by false false false true f n e p = cc
unreachable_by false false false false true n e p = cc
unreachable_by false false false false false n e p = cc

pointer_by : (a b c d : Bool) (x y : Option NewKind) (k l n : NewKind)
    → (if a then Ok k else if b then ok_or x IcmpCode4 else if c then Ok l else if d then ok_or y IcmpCode4 else Err IcmpType4) ≡ Ok n
    → n.rest ≡ Pointer → (k.rest ≡ Pointer → ⊥) → (l.rest ≡ Pointer → ⊥) → ((m : NewKind) → x ≡ Some m → m.rest ≡ Pointer → ⊥) → d ≡ true
pointer_by true b c d x y k l n e p not_k not_l not_x = let same : k ≡ n = cc in absurd (not_k (rw same p))
pointer_by false true c d None y k l n e p not_k not_l not_x = cc
pointer_by false true c d (Some x) y k l n e p not_k not_l not_x = let same : x ≡ n = cc in absurd (not_x n (ap Some same) p)
pointer_by false false true d x y k l n e p not_k not_l not_x = let same : l ≡ n = cc in absurd (not_l (rw same p))
pointer_by false false false true x y k l n e p not_k not_l not_x = refl
pointer_by false false false false x y k l n e p not_k not_l not_x = cc

-- a pointer is told by a Parameter Problem alone
pub pointer_kind : (kind code : ℕ) (n : NewKind) → icmp_to_6 kind code ≡ Ok n → n.rest ≡ Pointer → (kind == 12) ≡ true
pointer_kind kind code n e p =
    pointer_by (is_echo_kind4 kind) (kind == 3) (kind == 11) (kind == 12) (unreachable_to_6 code) (problem_to_6 code)
    (new (echo_kind6 kind) code Same) (new 3 code Length) n e p (λ q. cc) (λ q. cc)
    (λ m x. unreachable_by _ _ _ _ _ m x)

pub type_or_code : (rule : Rule) (later : Option Rule) → (rule ≡ IcmpType4) ⊎ (rule ≡ IcmpCode4)
    → (if is_by IcmpType4 (Some rule) then Some IcmpType4 else if is_by IcmpCode4 (Some rule) then Some IcmpCode4 else later) ≡ Some rule
type_or_code rule later (inl e) = rw e refl
type_or_code rule later (inr e) = rw e refl

-- ROLES

role_by : (role : Role) (src dst : Option Means) (rule : Rule) → role_refusal4 role src dst ≡ Some rule → (rule ≡ RoleSource4) ⊎ (rule ≡ RoleDestination4)
role_by Plain src dst rule e = cc
role_by Border src dst rule e = cc
role_by Edge src dst rule e = edge (has_entry src) e
  where
    edge : (b : Bool) → (if b then None else Some RoleSource4) ≡ Some rule → (rule ≡ RoleSource4) ⊎ (rule ≡ RoleDestination4)
    edge true e = cc
    edge false e = inl cc
role_by Customer src dst rule e = customer (is_local src) (is_local dst) e
  where
    customer : (b c : Bool) → (if not b then Some RoleSource4 else if c then Some RoleDestination4 else None) ≡ Some rule
        → (rule ≡ RoleSource4) ⊎ (rule ≡ RoleDestination4)
    customer false c e = inl cc
    customer true true e = inr cc
    customer true false e = cc

pub role_first : (role : Role) (src dst : Option Means) (rule : Rule) (later : Option Rule) → role_refusal4 role src dst ≡ Some rule
    → (if is_by RoleSource4 (Some rule) then Some RoleSource4 else if is_by RoleDestination4 (Some rule) then Some RoleDestination4 else later)
    ≡ Some rule
role_first role src dst rule later e = pick (role_by role src dst rule e)
  where
    pick : (rule ≡ RoleSource4) ⊎ (rule ≡ RoleDestination4)
        → (if is_by RoleSource4 (Some rule) then Some RoleSource4 else if is_by RoleDestination4 (Some rule) then Some RoleDestination4 else later)
        ≡ Some rule
    pick (inl e) = rw e refl
    pick (inr e) = rw e refl

-- QUOTES

quote_by : (a b c d : Bool) (rule : Rule)
    → (if a then Some QuoteShort4 else if b then Some QuoteBad4 else if c then Some NestedTwice4 else if d then Some QuoteType4 else None) ≡ Some rule
    → (later : Option Rule)
    → (if is_by QuoteShort4 (Some rule) then Some QuoteShort4 else if is_by QuoteBad4 (Some rule) then Some QuoteBad4
    else if is_by NestedTwice4 (Some rule) then Some NestedTwice4 else if is_by QuoteType4 (Some rule) then Some QuoteType4 else later) ≡ Some rule
quote_by true b c d rule e later = let is : rule ≡ QuoteShort4 = cc in rw is refl
quote_by false true c d rule e later = let is : rule ≡ QuoteBad4 = cc in rw is refl
quote_by false false true d rule e later = let is : rule ≡ NestedTwice4 = cc in rw is refl
quote_by false false false true rule e later = let is : rule ≡ QuoteType4 = cc in rw is refl
quote_by false false false false rule e later = cc

pub quote_first : (part : List ℕ) (rule : Rule) (later : Option Rule) → quote_refusal4 part ≡ Some rule
    → (if is_by QuoteShort4 (Some rule) then Some QuoteShort4 else if is_by QuoteBad4 (Some rule) then Some QuoteBad4
    else if is_by NestedTwice4 (Some rule) then Some NestedTwice4 else if is_by QuoteType4 (Some rule) then Some QuoteType4 else later) ≡ Some rule
quote_first part rule later e =
    quote_by (is_short_quote4 part) (is_bad_quote4 part) (is_nested4 (quoted_fragment4 (quoted4_fields part)))
    (is_untranslated4 (quoted_fragment4 (quoted4_fields part))) rule e later
