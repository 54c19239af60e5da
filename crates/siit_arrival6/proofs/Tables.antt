-- Where a refusal is one of a group's, the group's first rule is that refusal.
use Rattle.std.proofs.Common.{◌≡◌, ◌⊎◌, inl, inr, ℕ, List, length, nat_lt, Bool, true, false, not, ◌==◌, if◌then◌else◌, Option, Some, None, ok_or, Result, Ok, Err, refl, ap}
use Rattle.siit_rules.specs.declared.rule.Rule.{Rule}
use Rattle.siit_rules.specs.declared.rule.Rule.TheVariants.{IcmpType6, IcmpCode6, RoleSource6, RoleDestination6, QuoteShort6, QuoteBad6, NestedTwice6, QuoteType6}
use Rattle.siit_icmp.specs.Icmp.{icmp_to_4, unreachable_to_4, problem_to_4, is_echo_kind6, echo_kind4, new}
use Rattle.siit_icmp.specs.declared.kinds.NewKind.{NewKind}
use Rattle.siit_icmp.specs.declared.kinds.Rest.TheVariants.{Same, Zero, Mtu, Pointer, Length}
use Rattle.siit_map.specs.declared.mapping.Means.{Means}
use Rattle.siit_roles.specs.Roles.{role_refusal6, has_entry, is_local}
use Rattle.siit_roles.specs.declared.role.Role.{Role}
use Rattle.siit_roles.specs.declared.role.Role.TheVariants.{Plain, Border, Edge, Customer}
use Rattle.siit_model.specs.Extensions.{Walked, Trouble, runs_short, out_of_order, behind_fragment}
use Rattle.siit_model.specs.Ipv6.{version6_in}
use Rattle.siit_v6to4.specs.To4.{walk_in}
use Rattle.siit_quoted.specs.Refusals.{quote_refusal6, refusal_by_walk6, is_bad_quote6, is_nested6, is_untranslated6}
use Rattle.siit_quoted.specs.Quoted.{quoted6_fields, quoted_fragment6}
use Rattle.siit_device.specs.Rows.{is_by}

-- ICMPV6

kind_by : (a b c d e : Bool) (x y : Option NewKind) (k l m : NewKind) (rule : Rule)
    → (if a then Ok k else if b then ok_or x IcmpCode6 else if c then Ok l else if d then Ok m else if e then ok_or y IcmpCode6 else Err IcmpType6) ≡ Err rule
    → (rule ≡ IcmpType6) ⊎ (rule ≡ IcmpCode6)
kind_by true b c d e x y k l m rule is = cc
kind_by false true c d e None y k l m rule is = inr cc
kind_by false true c d e (Some x) y k l m rule is = cc
kind_by false false true d e x y k l m rule is = cc
kind_by false false false true e x y k l m rule is = cc
kind_by false false false false true x None k l m rule is = inr cc
kind_by false false false false true x (Some y) k l m rule is = cc
kind_by false false false false false x y k l m rule is = inl cc

pub kind_refusal : (kind code : ℕ) (rule : Rule) → icmp_to_4 kind code ≡ Err rule → (rule ≡ IcmpType6) ⊎ (rule ≡ IcmpCode6)
kind_refusal kind code rule e =
    kind_by (is_echo_kind6 kind) (kind == 1) (kind == 2) (kind == 3) (kind == 4) (unreachable_to_4 code) (problem_to_4 code)
    (new (echo_kind4 kind) code Same) (new 3 4 Mtu) (new 11 code Length) rule e

unreachable_by : (a b c : Bool) (n : NewKind)
    → (if a then Some (new 3 1 Length) else if b then Some (new 3 10 Length) else if c then Some (new 3 3 Length) else None) ≡ Some n
    → n.rest ≡ Pointer → ⊥
unreachable_by true b c n e p = cc
unreachable_by false true c n e p = cc
unreachable_by false false true n e p = cc
unreachable_by false false false n e p = cc

problem_by : (a b : Bool) (n : NewKind) → (if a then Some (new 12 0 Pointer) else if b then Some (new 3 2 Zero) else None) ≡ Some n
    → n.rest ≡ Pointer → a ≡ true
problem_by true b n e p = refl
problem_by false true n e p = cc
problem_by false false n e p = cc

pointer_by : (a b c d f g : Bool) (x y : Option NewKind) (k l m n : NewKind)
    → (if a then Ok k else if b then ok_or x IcmpCode6 else if c then Ok l else if d then Ok m else if f then ok_or y IcmpCode6 else Err IcmpType6) ≡ Ok n
    → n.rest ≡ Pointer → (k.rest ≡ Pointer → ⊥) → (l.rest ≡ Pointer → ⊥) → (m.rest ≡ Pointer → ⊥)
    → ((o : NewKind) → x ≡ Some o → o.rest ≡ Pointer → ⊥) → ((o : NewKind) → y ≡ Some o → o.rest ≡ Pointer → g ≡ true) → (f ≡ true) × (g ≡ true)
pointer_by true b c d f g x y k l m n e p not_k not_l not_m not_x is_y = let same : k ≡ n = cc in absurd (not_k (rw same p))
pointer_by false true c d f g None y k l m n e p not_k not_l not_m not_x is_y = cc
pointer_by false true c d f g (Some x) y k l m n e p not_k not_l not_m not_x is_y = let same : x ≡ n = cc in absurd (not_x n (ap Some same) p)
pointer_by false false true d f g x y k l m n e p not_k not_l not_m not_x is_y = let same : l ≡ n = cc in absurd (not_l (rw same p))
pointer_by false false false true f g x y k l m n e p not_k not_l not_m not_x is_y = let same : m ≡ n = cc in absurd (not_m (rw same p))
pointer_by false false false false true g x None k l m n e p not_k not_l not_m not_x is_y = cc
pointer_by false false false false true g x (Some y) k l m n e p not_k not_l not_m not_x is_y = let same : y ≡ n = cc in (refl, is_y n (ap Some same) p)
pointer_by false false false false false g x y k l m n e p not_k not_l not_m not_x is_y = cc

-- a pointer is told by a Parameter Problem about a wrong field alone
pub pointer_kind : (kind code : ℕ) (n : NewKind) → icmp_to_4 kind code ≡ Ok n → n.rest ≡ Pointer → ((kind == 4) ≡ true) × ((code == 0) ≡ true)
pointer_kind kind code n e p =
    pointer_by (is_echo_kind6 kind) (kind == 1) (kind == 2) (kind == 3) (kind == 4) (code == 0) (unreachable_to_4 code) (problem_to_4 code)
    (new (echo_kind4 kind) code Same) (new 3 4 Mtu) (new 11 code Length) n e p (λ q. cc) (λ q. cc) (λ q. cc)
    (λ m x. unreachable_by _ _ _ m x) (λ m x. problem_by _ _ m x)

pub type_or_code : (rule : Rule) (later : Option Rule) → (rule ≡ IcmpType6) ⊎ (rule ≡ IcmpCode6)
    → (if is_by IcmpType6 (Some rule) then Some IcmpType6 else if is_by IcmpCode6 (Some rule) then Some IcmpCode6 else later) ≡ Some rule
type_or_code rule later (inl e) = rw e refl
type_or_code rule later (inr e) = rw e refl

-- ROLES

role_by : (role : Role) (src dst : Option Means) (rule : Rule) → role_refusal6 role src dst ≡ Some rule → (rule ≡ RoleSource6) ⊎ (rule ≡ RoleDestination6)
role_by Plain src dst rule e = cc
role_by Border src dst rule e = cc
role_by Edge src dst rule e = edge (has_entry dst) e
  where
    edge : (b : Bool) → (if b then None else Some RoleDestination6) ≡ Some rule → (rule ≡ RoleSource6) ⊎ (rule ≡ RoleDestination6)
    edge true e = cc
    edge false e = inr cc
role_by Customer src dst rule e = customer (is_local src) (is_local dst) e
  where
    customer : (b c : Bool) → (if b then Some RoleSource6 else if not c then Some RoleDestination6 else None) ≡ Some rule
        → (rule ≡ RoleSource6) ⊎ (rule ≡ RoleDestination6)
    customer true c e = inl cc
    customer false false e = inr cc
    customer false true e = cc

pub role_first : (role : Role) (src dst : Option Means) (rule : Rule) (later : Option Rule) → role_refusal6 role src dst ≡ Some rule
    → (if is_by RoleSource6 (Some rule) then Some RoleSource6 else if is_by RoleDestination6 (Some rule) then Some RoleDestination6 else later)
    ≡ Some rule
role_first role src dst rule later e = pick (role_by role src dst rule e)
  where
    pick : (rule ≡ RoleSource6) ⊎ (rule ≡ RoleDestination6)
        → (if is_by RoleSource6 (Some rule) then Some RoleSource6 else if is_by RoleDestination6 (Some rule) then Some RoleDestination6 else later)
        ≡ Some rule
    pick (inl e) = rw e refl
    pick (inr e) = rw e refl

-- QUOTES

quote_rules : Rule → Option Rule → Option Rule
quote_rules rule later =
    if is_by QuoteShort6 (Some rule) then Some QuoteShort6 else if is_by QuoteBad6 (Some rule) then Some QuoteBad6
    else if is_by NestedTwice6 (Some rule) then Some NestedTwice6 else if is_by QuoteType6 (Some rule) then Some QuoteType6 else later

walked_by : (a b c : Bool) (rule : Rule) → (if a then Some QuoteBad6 else if b then Some NestedTwice6 else if c then Some QuoteType6 else None) ≡ Some rule
    → (later : Option Rule) → quote_rules rule later ≡ Some rule
unfolding quote_rules
walked_by true b c rule e later = let is : rule ≡ QuoteBad6 = cc in rw is refl
walked_by false true c rule e later = let is : rule ≡ NestedTwice6 = cc in rw is refl
walked_by false false true rule e later = let is : rule ≡ QuoteType6 = cc in rw is refl
walked_by false false false rule e later = cc

walk_by : (part : List ℕ) (walk : Result Walked Trouble) (rule : Rule) → refusal_by_walk6 part walk ≡ Some rule
    → (later : Option Rule) → quote_rules rule later ≡ Some rule
unfolding quote_rules
walk_by part (Err runs_short) rule e later = let is : rule ≡ QuoteShort6 = cc in rw is refl
walk_by part (Err out_of_order) rule e later = let is : rule ≡ QuoteBad6 = cc in rw is refl
walk_by part (Err behind_fragment) rule e later = let is : rule ≡ QuoteBad6 = cc in rw is refl
walk_by part (Ok walked) rule e later =
    let quoted = quoted6_fields walked part in
    walked_by (is_bad_quote6 quoted) (is_nested6 (quoted_fragment6 quoted)) (is_untranslated6 (quoted_fragment6 quoted)) rule e later

quote_by : (a b : Bool) (x : Option Rule) (rule : Rule) → (if a then Some QuoteShort6 else if b then Some QuoteBad6 else x) ≡ Some rule
    → (later : Option Rule) → (x ≡ Some rule → quote_rules rule later ≡ Some rule) → quote_rules rule later ≡ Some rule
unfolding quote_rules
quote_by true b x rule e later next = let is : rule ≡ QuoteShort6 = cc in rw is refl
quote_by false true x rule e later next = let is : rule ≡ QuoteBad6 = cc in rw is refl
quote_by false false x rule e later next = next e

pub quote_first : (part : List ℕ) (rule : Rule) (later : Option Rule) → quote_refusal6 part ≡ Some rule
    → (if is_by QuoteShort6 (Some rule) then Some QuoteShort6 else if is_by QuoteBad6 (Some rule) then Some QuoteBad6
    else if is_by NestedTwice6 (Some rule) then Some NestedTwice6 else if is_by QuoteType6 (Some rule) then Some QuoteType6 else later) ≡ Some rule
unfolding quote_rules
quote_first part rule later e =
    quote_by (nat_lt (length part) 40) (not (version6_in part == 6)) (refusal_by_walk6 part (walk_in part)) rule e later
    (λ f. walk_by part (walk_in part) rule f later)
