-- Replies to turned packets, and packets that are never turned.
use Rattle.std.proofs.Common.{◌≡◌, ℕ, ◌^◌, ◌<◌, Bool, true, false, if◌then◌else◌, List, Option, Some, None, Result, Ok, Err, is_some, refl, sym, ap, ◌∙◌, subst}
use Rattle.std.specs.Option.{option_map}
use Rattle.std.proofs.lemmas.Bool.{false≢true}
use Rattle.std.proofs.lemmas.Option.{cond_some}
use Rattle.siit_addr.specs.Addresses.{agree}
use Rattle.siit_addr.specs.declared.addr.Prefix6.{Prefix6}
use Rattle.siit_rfc6052.specs.Embedding.{ExtractsEmbedded, octet_places, gathered}
use Rattle.siit_eamt.specs.declared.entry.Eam.{Eam as Entry}
use Rattle.siit_eamt.specs.Entries.{best4, best6, up, down, holds4, entry_to_6}
use Rattle.siit_eamt.specs.Faults.{table_fault}
use Rattle.siit_eamt.proofs.Accepted.{held_from_longest, good_from_accepted}
use Rattle.siit_eamt.proofs.Disjoint.{disjoint_from_test}
use Rattle.siit_map.specs.declared.mapping.Means.{Means}
use Rattle.siit_map.specs.declared.mapping.Means.TheVariants.{Eam, Prefix, Local}
use Rattle.siit_map.specs.declared.mapping.MapRefusal.{MapRefusal}
use Rattle.siit_map.specs.Prefixed.{prefix_refusal, prefix_form, under_prefix, unless_refused, extracted_under, embedded_in, back_under}
use Rattle.siit_map.specs.Mapping.{Mapping, table, customer, entries_of, prefix_in, by_entry, ipv4_for, ipv6_for}
use Rattle.siit_map.specs.Reversible.{IsDisjointTable}
use Rattle.siit_hairpin.specs.declared.hairpin.TurnAnswer.{TurnAnswer}
use Rattle.siit_hairpin.specs.declared.hairpin.TurnAnswer.TheVariants.{Not, Pair}
use Rattle.siit_hairpin.specs.Turn.{pair_of, own_address, turned_between}
use Rattle.siit_hairpin.specs.Laws.{RepliesComeFromTheFirstDestination, TranslatedPacketsPass}
use Rattle.siit_hairpin.proofs.Held.{none_under_prefix, not_none_above}

-- a packet without a destination of its own is not turned
not_turned : (source : Option ℕ) → turned_between source None ≡ Not
not_turned None = refl
not_turned (Some source) = refl

source_in : TurnAnswer → Option ℕ
source_in (Pair addresses) = Some addresses.src.0
source_in answer = None

turned_source : (source destination : Option ℕ) (from to : ℕ) → turned_between source destination ≡ pair_of from to → source ≡ Some from
unfolding source_in
turned_source None None from to h = cc
turned_source (Some source) None from to h = cc
turned_source None (Some destination) from to h = cc
turned_source (Some source) (Some destination) from to h = ap source_in h

-- a form under the prefix is the embedded address, which isn't refused
form_parts : (refusal : Option MapRefusal) (x from : ℕ) → (if is_some refusal then None else Some x) ≡ Some from → (refusal ≡ None) × (x ≡ from)
form_parts None x from h = (refl, cc)
form_parts (Some refusal) x from h = absurd cc

abbrev mapped : ℕ → Means → Result (ℕ × Means) MapRefusal
mapped n by = Ok (n, by)

address_in : Result (ℕ × Means) MapRefusal → ℕ
address_in (Ok answer) = answer.0
address_in (Err refusal) = 0

address_of : (n m : ℕ) (by means : Means) → mapped n by ≡ mapped m means → n ≡ m
unfolding address_in
address_of n m by means h = ap address_in h

is_by_prefix : Result (ℕ × Means) MapRefusal → Bool
is_by_prefix (Ok (n, Prefix)) = true
is_by_prefix answer = false

-- an answer by the prefix is none by an entry
by_prefix_or_entry : (n m place : ℕ) → mapped n Prefix ≡ mapped m (Eam place) → ⊥
unfolding is_by_prefix
by_prefix_or_entry n m place h = false≢true (sym (ap is_by_prefix h))

-- where an entry takes an IPv4 address
abbrev there : ℕ → ℕ × Entry → ℕ × ℕ
there a best = (best.0, up best.1 a)

module _ (entries : List Entry) (prefix : Prefix6) where
  -- the form under the prefix of an IPv4 address maps back to it
  form_back : IsDisjointTable entries prefix → ExtractsEmbedded → (a : ℕ) → a < 2 ^ 32 → prefix_refusal prefix a ≡ None
      → ipv4_for (table entries prefix) (embedded_in prefix a) ≡ Ok (a, Prefix)
  form_back accepted law a small free =
      let x = embedded_in prefix a in
      let extracted = law prefix.len prefix.addr.0 a accepted.embeds accepted.in_range small in
      let held = (cond_some (agree 128 prefix.len (embedded_in prefix a) prefix.addr.0) (gathered (octet_places prefix.len) 0 (embedded_in prefix a)) a extracted).0 in
      let none = none_under_prefix entries prefix (disjoint_from_test entries prefix accepted.disjoint) (embedded_in prefix a) held in
      ap (λ (best : Option (ℕ × Entry)). by_entry (option_map (λ best. (best.0, down best.1 (embedded_in prefix a))) best) (extracted_under prefix (embedded_in prefix a))) none
      ∙ ap (back_under prefix) extracted
      ∙ ap (λ (r : Option MapRefusal). unless_refused r (a, Prefix)) free

  -- an address that an entry maps to is no form under the prefix, so it is the entry's forth too
  entry_forth : IsDisjointTable entries prefix → ExtractsEmbedded → (host host4 place : ℕ) (by : Means) → host4 < 2 ^ 32 → prefix_refusal prefix host4 ≡ None
      → ipv4_for (table entries prefix) host ≡ Ok (host4, Eam place)
      → (best : Option (ℕ × Entry))
      → by_entry (option_map (there host4) best) (under_prefix prefix host4) ≡ Ok (host, by)
      → option_map (λ (hit : ℕ × ℕ). hit.1) (option_map (there host4) best) ≡ Some host
  entry_forth accepted law host host4 place by small free back None to =
      let plain : unless_refused None (embedded_in prefix host4, Prefix) ≡ Ok (host, by) =
      ap (λ (r : Option MapRefusal). unless_refused r (embedded_in prefix host4, Prefix)) (sym free) ∙ to in
      let same : embedded_in prefix host4 ≡ host = address_of _ _ _ _ plain in
      let other : ipv4_for (table entries prefix) host ≡ Ok (host4, Prefix) =
      subst (λ (x : ℕ). ipv4_for (table entries prefix) x ≡ Ok (host4, Prefix)) same (form_back accepted law host4 small free) in
      absurd (by_prefix_or_entry host4 host4 place (sym other ∙ back))
  entry_forth accepted law host host4 place by small free back (Some best) to = ap Some (address_of _ _ _ _ to)

pub replies_come : ExtractsEmbedded → RepliesComeFromTheFirstDestination
replies_come law entries prefix accepted host first from to sent =
    let mapping = table entries prefix in
    let form : prefix_form prefix sent.host4 ≡ Some from = turned_source _ _ from to sent.pair in
    let parts = form_parts (prefix_refusal prefix sent.host4) (embedded_in prefix sent.host4) from form in
    let back : ipv4_for (table entries prefix) from ≡ Ok (sent.host4, Prefix) =
    subst (λ (x : ℕ). ipv4_for (table entries prefix) x ≡ Ok (sent.host4, Prefix)) parts.1 (form_back entries prefix accepted law sent.host4 sent.in_range parts.0) in
    let own : own_address (table entries prefix) (Ok (sent.host4, Prefix)) ≡ Some host =
    entry_forth entries prefix accepted law host sent.host4 sent.place sent.by sent.in_range parts.0 sent.back (best4 entries sent.host4) sent.forth in
    ap (λ (x : Option ℕ). turned_between x (own_address (table entries prefix) (ipv4_for (table entries prefix) from))) sent.form
    ∙ ap (λ (r : Result (ℕ × Means) MapRefusal). turned_between (Some first) (own_address (table entries prefix) r)) back
    ∙ ap (λ (x : Option ℕ). turned_between (Some first) x) own

-- an address that maps back under the prefix to an IPv4 address without an entry has no host of its own
no_own_address : (mapping : Mapping) (d : ℕ) (by : Means) → (by ≡ Prefix → entry_to_6 (entries_of mapping) d ≡ None) → own_address mapping (Ok (d, by)) ≡ None
no_own_address mapping d (Eam i) none = refl
no_own_address mapping d Prefix none = ap (option_map (λ (hit : ℕ × ℕ). hit.1)) (none refl)
no_own_address mapping d Local none = refl

-- an address that an entry gives doesn't map back under the prefix
not_under_prefix : (entries : List Entry) (prefix : Prefix6) (x d : ℕ) (best : Option (ℕ × Entry)) → (best ≡ None → ⊥)
    → by_entry (option_map (λ best. (best.0, down best.1 x)) best) (extracted_under prefix x) ≡ Ok (d, Prefix) → ⊥
not_under_prefix entries prefix x d None some h = some refl
not_under_prefix entries prefix x d (Some best) some h = by_prefix_or_entry d (down best.1 x) best.0 (sym h)

no_entry_forth : (entries : List Entry) (prefix : Prefix6) → table_fault entries ≡ None → (d x : ℕ) (by : Means)
    → ipv4_for (table entries prefix) x ≡ Ok (d, Prefix)
    → (best : Option (ℕ × Entry)) → best4 entries d ≡ best
    → by_entry (option_map (there d) best) (under_prefix prefix d) ≡ Ok (x, by)
    → option_map (there d) best ≡ None
no_entry_forth entries prefix accepted d x by back None found to = refl
no_entry_forth entries prefix accepted d x by back (Some best) found to =
    let here = held_from_longest (holds4 d) _ entries best.0 best.1 found in
    let good = good_from_accepted entries accepted best.0 best.1 here.0 in
    let same : up best.1 d ≡ x = address_of _ _ _ _ to in
    let at : ipv4_for (table entries prefix) (up best.1 d) ≡ Ok (d, Prefix) = subst (λ (y : ℕ). ipv4_for (table entries prefix) y ≡ Ok (d, Prefix)) (sym same) back in
    absurd (not_under_prefix entries prefix (up best.1 d) d (best6 entries (up best.1 d)) (not_none_above entries best.0 best.1 d here.0 good here.1) at)

no_forth : (mapping : Mapping) → table_fault (entries_of mapping) ≡ None → (d x : ℕ) (by : Means)
    → ipv6_for mapping d ≡ Ok (x, by) → ipv4_for mapping x ≡ Ok (d, Prefix) → entry_to_6 (entries_of mapping) d ≡ None
no_forth (table entries prefix) accepted d x by to back = no_entry_forth entries prefix accepted d x by back (best4 entries d) refl to
no_forth (customer local4 local6 provider) accepted d x by to back = refl

pub translated_pass : TranslatedPacketsPass
translated_pass mapping accepted d sent source4 =
    let own : own_address mapping (Ok (d, sent.back_by)) ≡ None = no_own_address mapping d sent.back_by (λ same.
    no_forth mapping accepted d sent.address sent.by sent.forth
    (subst (λ (m : Means). ipv4_for mapping sent.address ≡ Ok (d, m)) same sent.back)) in
    ap (λ (r : Result (ℕ × Means) MapRefusal). turned_between (prefix_form (prefix_in mapping) source4) (own_address mapping r)) sent.back
    ∙ ap (turned_between (prefix_form (prefix_in mapping) source4)) own
    ∙ not_turned (prefix_form (prefix_in mapping) source4)
