-- In a table whose prefixes don't overlap, addresses come back.
use Rattle.std.proofs.Common.{◌≡◌, ℕ, ◌+◌, ◌-◌, ◌*◌, ◌/◌, ◌^◌, ◌<◌, ◌≤◌, min, Bool, true, false, eqb, List, get_or, Option, Some, None, Ok, AllPairs, IsOk, refl, sym, ap, ◌∙◌, subst, arith, ⊎_elim}
use Rattle.std.specs.List.{slice_get}
use Rattle.std.specs.Option.{option_map}
use Rattle.std.proofs.lemmas.Bool.{cases_lt, false≢true}
use Rattle.std.proofs.lemmas.Bool.Decides.{nat_tests}
use Rattle.std.proofs.lemmas.Nat.{shr-shr, shl-shr}
use Rattle.std.proofs.lemmas.Option.{slice_get_within, get_or_from_slice_get, same_Some, cond_some}
use Rattle.std.proofs.Math.Nat.{add-sub_cancel_left}
use Rattle.siit_addr.specs.Addresses.{agree, overlap}
use Rattle.siit_addr.specs.declared.addr.Prefix6.{Prefix6}
use Rattle.siit_rfc6052.specs.Embedding.{ExtractsEmbedded, octet_places, gathered}
use Rattle.siit_eamt.specs.declared.entry.Eam.{Eam as Entry}
use Rattle.siit_eamt.specs.Entries.{best4, best6, up, down, holds4, holds6, length6, is_good, weight}
use Rattle.siit_eamt.specs.Disjoint.{overlap6}
use Rattle.siit_eamt.proofs.Disjoint.{IsDisjoint, disjoint_from_test}
use Rattle.siit_eamt.proofs.Longest.{longest_is}
use Rattle.siit_eamt.proofs.Powers.{agrees_above}
use Rattle.siit_eamt.proofs.Ranges.{IsSuffix4-from_held, IsGoodEntry-from_test}
use Rattle.siit_eamt.proofs.Accepted.{held_from_longest, good_from_accepted}
use Rattle.siit_map.specs.declared.mapping.Means.TheVariants.{Eam, Prefix}
use Rattle.siit_map.specs.declared.mapping.MapRefusal.{MapRefusal}
use Rattle.siit_map.specs.Prefixed.{prefix_refusal, under_prefix, unless_refused, extracted_under, embedded_in, back_under}
use Rattle.siit_map.specs.Mapping.{table, by_entry}
use Rattle.siit_map.specs.Reversible.{IsReversible, IsDisjointTable, DisjointTablesComeBack}

-- numbers that agree in their first bits agree in fewer
agrees_shorter : (w l m x a : ℕ) → l ≤ m → x / 2 ^ (w - m) ≡ a / 2 ^ (w - m) → x / 2 ^ (w - l) ≡ a / 2 ^ (w - l)
agrees_shorter w l m x a le same =
    let k = (w - l) - (w - m) in
    let sum : (w - m) + k ≡ w - l = omega arith in
    subst (λ (n : ℕ). x / 2 ^ n ≡ a / 2 ^ n) sum
    (sym (shr-shr x (w - m) k) ∙ ap (λ t. t / 2 ^ k) same ∙ shr-shr a (w - m) k)

same_quotients : (m n : ℕ) → eqb m n ≡ true → m ≡ n
same_quotients m n h = grind (arith, nat_tests, h)

quotients_same : (m n : ℕ) → m ≡ n → eqb m n ≡ true
quotients_same m n h = grind (arith, nat_tests, h)

-- two prefixes that hold one address overlap
both_hold : (w l1 a1 l2 a2 x : ℕ) → agree w l1 x a1 ≡ true → agree w l2 x a2 ≡ true → overlap w l1 a1 l2 a2 ≡ true
both_hold w l1 a1 l2 a2 x h1 h2 =
    let l = min l1 l2 in
    let first = agrees_shorter w l l1 x a1 (omega arith) (same_quotients (x / 2 ^ (w - l1)) (a1 / 2 ^ (w - l1)) h1) in
    let second = agrees_shorter w l l2 x a2 (omega arith) (same_quotients (x / 2 ^ (w - l2)) (a2 / 2 ^ (w - l2)) h2) in
    quotients_same (a1 / 2 ^ (w - l)) (a2 / 2 ^ (w - l)) (sym first ∙ second)

never_both : (v : Bool) → v ≡ true → v ≡ false → ⊥
never_both v t f = cc

not_true : (v : Bool) → (v ≡ true → ⊥) → v ≡ false
not_true true h = absurd (h refl)
not_true false h = refl

-- entries at two places don't hold one address
never_two : (entries : List Entry) → AllPairs (λ e f. overlap6 e f ≡ false) entries → (x i k : ℕ) (e f : Entry) → i < k
    → slice_get entries i ≡ Some e → slice_get entries k ≡ Some f → holds6 x e ≡ true → holds6 x f ≡ true → ⊥
never_two entries apart x i k e f lt at_i at_k held_e held_f =
    let there : overlap6 (get_or entries i e) (get_or entries k e) ≡ false = apart i k e lt (slice_get_within entries k f at_k) in
    let here : overlap6 e f ≡ false =
    subst (λ (g : Entry). overlap6 e g ≡ false) (get_or_from_slice_get entries k f e at_k)
    (subst (λ (g : Entry). overlap6 g (get_or entries k e) ≡ false) (get_or_from_slice_get entries i e e at_i) there) in
    never_both (overlap6 e f) (both_hold 128 e.p6.len e.p6.addr.0 f.p6.len f.p6.addr.0 x held_e held_f) here

one_place : (entries : List Entry) → AllPairs (λ e f. overlap6 e f ≡ false) entries → (x i k : ℕ) (e f : Entry)
    → slice_get entries i ≡ Some e → slice_get entries k ≡ Some f → holds6 x e ≡ true → holds6 x f ≡ true → i ≡ k
one_place entries apart x i k e f at_i at_k held_e held_f =
    ⊎_elim (λ (lt : i < k). absurd (never_two entries apart x i k e f lt at_i at_k held_e held_f))
    (λ (ge : k ≤ i). ⊎_elim (λ (lt : k < i). absurd (never_two entries apart x k i f e lt at_k at_i held_f held_e))
    (λ (le : i ≤ k). omega arith) (cases_lt k i))
    (cases_lt i k)

-- an entry holds the address that it gives, and gives the first one back
up_held : (e : Entry) (a : ℕ) → is_good e ≡ true → holds4 a e ≡ true → holds6 (up e a) e ≡ true
up_held e a good held =
    let suffix = IsSuffix4-from_held e a good held in
    let g = IsGoodEntry-from_test e good in
    quotients_same _ _ (agrees_above e.p6.addr.0 ((a - e.p4.addr.0) * weight e) (2 ^ (128 - e.p6.len)) suffix.moved g.clean6)

down-up : (e : Entry) (a : ℕ) → is_good e ≡ true → holds4 a e ≡ true → down e (up e a) ≡ a
down-up e a good held =
    let suffix = IsSuffix4-from_held e a good held in
    let moved = add-sub_cancel_left e.p6.addr.0 ((a - e.p4.addr.0) * weight e) in
    let back : (up e a - e.p6.addr.0) / weight e ≡ a - e.p4.addr.0 =
    ap (λ t. t / weight e) moved ∙ shl-shr (a - e.p4.addr.0) (96 + e.p4.len - e.p6.len) in
    omega (arith, back, suffix.above)

-- the entry that holds an address alone is the longest
best_from_alone : (entries : List Entry) → AllPairs (λ e f. overlap6 e f ≡ false) entries → (x i : ℕ) (e : Entry)
    → slice_get entries i ≡ Some e → holds6 x e ≡ true → best6 entries x ≡ Some (i, e)
best_from_alone entries apart x i e at held =
    longest_is (holds6 x) length6 entries (Some (i, e)) (record {
      here = at;
      passes = held;
      upper = λ k y at_k t.
          let same_place = one_place entries apart x k i y e at_k at t held in
          let same = same_Some y e (sym at_k ∙ ap (slice_get entries) same_place ∙ at) in
          omega (arith, ap length6 same);
      first = λ k y lt at_k t. absurd (omega (arith, one_place entries apart x k i y e at_k at t held));
    })

-- no entry holds an address that the prefix holds
none_from_prefix : (entries : List Entry) (prefix : Prefix6) → IsDisjoint entries prefix → (x : ℕ) → agree 128 prefix.len x prefix.addr.0 ≡ true
    → best6 entries x ≡ None
none_from_prefix entries prefix disjoint x held =
    longest_is (holds6 x) length6 entries None (λ k y at_k. not_true (holds6 x y) (λ t.
    let clear : overlap 128 y.p6.len y.p6.addr.0 prefix.len prefix.addr.0 ≡ false =
    subst (λ (g : Entry). overlap 128 g.p6.len g.p6.addr.0 prefix.len prefix.addr.0 ≡ false) (get_or_from_slice_get entries k y y at_k)
    (disjoint.clear k y (slice_get_within entries k y at_k)) in
    never_both _ (both_hold 128 y.p6.len y.p6.addr.0 prefix.len prefix.addr.0 x t held) clear))

module _ (entries : List Entry) (prefix : Prefix6) (accepted : IsDisjointTable entries prefix) where
  back_by_entry : (a i : ℕ) (e : Entry) → best4 entries a ≡ Some (i, e) → IsReversible (table entries prefix) a
  back_by_entry a i e found =
      let here = held_from_longest (holds4 a) _ entries i e found in
      let good = good_from_accepted entries accepted.accepted i e here.0 in
      let x = up e a in
      let again = best_from_alone entries (disjoint_from_test entries prefix accepted.disjoint).apart6 x i e here.0 (up_held e a good here.1) in
      record {
        address = up e a;
        by = Eam i;
        back_by = Eam i;
        forth = ap (λ (best : Option (ℕ × Entry)). by_entry (option_map (λ best. (best.0, up best.1 a)) best) (under_prefix prefix a)) found;
        back = ap (λ (best : Option (ℕ × Entry)). by_entry (option_map (λ best. (best.0, down best.1 (up e a))) best) (extracted_under prefix (up e a))) again
            ∙ ap (λ (n : ℕ). Ok (n, Eam i)) (down-up e a good here.1);
      }

  back_by_prefix : ExtractsEmbedded → (a : ℕ) → a < 2 ^ 32 → best4 entries a ≡ None → prefix_refusal prefix a ≡ None → IsReversible (table entries prefix) a
  back_by_prefix law a small found free =
      let x = embedded_in prefix a in
      let extracted = law prefix.len prefix.addr.0 a accepted.embeds accepted.in_range small in
      let held = (cond_some (agree 128 prefix.len (embedded_in prefix a) prefix.addr.0) (gathered (octet_places prefix.len) 0 (embedded_in prefix a)) a extracted).0 in
      let none = none_from_prefix entries prefix (disjoint_from_test entries prefix accepted.disjoint) (embedded_in prefix a) held in
      record {
        address = embedded_in prefix a;
        by = Prefix;
        back_by = Prefix;
        forth = ap (λ (best : Option (ℕ × Entry)). by_entry (option_map (λ best. (best.0, up best.1 a)) best) (under_prefix prefix a)) found
            ∙ ap (λ (r : Option MapRefusal). unless_refused r (embedded_in prefix a, Prefix)) free;
        back = ap (λ (best : Option (ℕ × Entry)). by_entry (option_map (λ best. (best.0, down best.1 (embedded_in prefix a))) best) (extracted_under prefix (embedded_in prefix a))) none
            ∙ ap (back_under prefix) extracted
            ∙ ap (λ (r : Option MapRefusal). unless_refused r (a, Prefix)) free;
      }

  by_refusal : ExtractsEmbedded → (a : ℕ) → a < 2 ^ 32 → best4 entries a ≡ None → (r : Option MapRefusal) → prefix_refusal prefix a ≡ r
      → IsOk (unless_refused r (embedded_in prefix a, Prefix)) → IsReversible (table entries prefix) a
  by_refusal law a small found None free ok = back_by_prefix law a small found free
  by_refusal law a small found (Some refusal) free ok = absurd (false≢true ok)

  by_best : ExtractsEmbedded → (a : ℕ) → a < 2 ^ 32 → (best : Option (ℕ × Entry)) → best4 entries a ≡ best
      → IsOk (by_entry (option_map (λ best. (best.0, up best.1 a)) best) (under_prefix prefix a)) → IsReversible (table entries prefix) a
  by_best law a small None found ok = by_refusal law a small found (prefix_refusal prefix a) refl ok
  by_best law a small (Some best) found ok = back_by_entry a best.0 best.1 found

pub come_back : ExtractsEmbedded → DisjointTablesComeBack
come_back law entries prefix accepted a small ok = by_best entries prefix accepted law a small (best4 entries a) refl ok
