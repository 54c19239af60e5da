-- What is a pair, and what isn't.
use Rattle.std.proofs.Common.{◌≡◌, ℕ, ◌*◌, ◌^◌, List, [], ◌∷◌, ◌∙◌, ap, sym, refl}
use Rattle.std.proofs.lemmas.Bool.{eqb-false}
use Rattle.siit_addr.specs.Addresses.{dotted}
use Rattle.siit_addr.specs.declared.addr.Prefix6.{Prefix6}
use Rattle.siit_eamt.specs.declared.entry.Eam.{Eam}
use Rattle.siit_map.specs.Mapping.{entries_of, prefix_in}
use Rattle.siit_roles.specs.Chain.{Chain}
use Rattle.siit_roles.specs.declared.role.Role.TheVariants.{Border, Edge}
use Rattle.siit_roles.specs.declared.settings.Settings.{Settings}
use Rattle.siit_pair.specs.PairExamples.{PairExamples, border, edge}
use Rattle.siit_pair.specs.Pairs.{HaveOneTable, IsPair}

-- the devices of a pair are its border and its edge
record AreThese (chain : Chain) (one two : Settings) : Type 0 where
  border_role : one.role ≡ Border
  edge_role : two.role ≡ Edge
  table : HaveOneTable one two

inner : (one two three four : Settings) → one ∷ two ∷ [] ≡ three ∷ four ∷ [] → (one ≡ three) × (two ≡ four)
inner one two three four is = (cc, cc)

these : (chain : Chain) (one two : Settings) → chain.devices ≡ one ∷ two ∷ [] → IsPair chain → AreThese chain one two
these chain one two devices pair =
    let same = inner pair.border pair.edge one two (sym pair.devices ∙ devices) in
    record {
      border_role = ap (λ (s : Settings). s.role) (sym same.0) ∙ pair.border_role;
      edge_role = ap (λ (s : Settings). s.role) (sym same.1) ∙ pair.edge_role;
      table = record {
        prefixes = ap (λ (s : Settings). prefix_in s.mapping) (sym same.0) ∙ pair.table.prefixes ∙ ap (λ (s : Settings). prefix_in s.mapping) same.1;
        entries = ap (λ (s : Settings). entries_of s.mapping) (sym same.0) ∙ pair.table.entries ∙ ap (λ (s : Settings). entries_of s.mapping) same.1;
      };
    }

first-address : List Eam → ℕ
first-address [] = 0
first-address (e ∷ entries) = e.p4.addr.0

no-role : Edge ≡ Border → ⊥
no-role is = cc

pub pair_examples : PairExamples
unfolding first-address
pair_examples = record {
  pair = record {
    border = border;
    edge = edge;
    left = refl;
    devices = refl;
    border_role = refl;
    edge_role = refl;
    table = record { prefixes = refl; entries = refl };
  };
  swapped = λ pair. no-role (these _ edge border refl pair).border_role;
  alone = λ pair. let is = pair.devices in cc;
  followed = λ pair. let is = pair.devices in cc;
  six = λ pair. let is = pair.left in cc;
  other_order = λ pair. eqb-false (dotted 192 0 2 1) (dotted 192 0 2 2) refl (ap first-address (these _ border _ refl pair).table.entries);
  other_prefix = λ pair.
      eqb-false (0x64ff9b * 2 ^ 96) (0x20010db8 * 2 ^ 96) refl (ap (λ (p : Prefix6). p.addr.0) (these _ border _ refl pair).table.prefixes);
}
