-- The devices of an accepted configuration, key by key.
use Rattle.std.proofs.Common.{◌≡◌, ◌⊎◌, ℕ, ℤ, pos, negsuc, suc, ◌+◌, ◌^◌, ◌<◌, ◌≤◌, List, [], ◌∷◌, length, codes, Bool, true, false, not, ◌&&◌, ◌||◌, nat_le, nat_lt, Option, Some, None, Result, Ok, Err, IsTrue, ap, refl, inl, inr, arith}
use Rattle.std.specs.List.{All}
use Rattle.std.proofs.lemmas.Bool.{and_parts, not-true, leb-true, ltb-false}
use Rattle.std.proofs.lemmas.List.Elements.{All-cons, All-head, All-nil, All-tail}
use Rattle.toml.specs.Data.{Data, Items, no_items, item, Members, as_array, get_member, as_integer, as_str, as_table}
use Rattle.siit_addr.specs.Prefixes.{addr4_of_text, addr6_of_text}
use Rattle.siit_addr.specs.declared.addr.Addr4.{Addr4}
use Rattle.siit_addr.specs.declared.addr.Prefix4.{Prefix4}
use Rattle.siit_addr.specs.declared.addr.Prefix6.{Prefix6}
use Rattle.siit_config.specs.Faults.{Fault, chain_length, mtu_order, not_symmetric, wrong_kind, bad_value, ◌>>=◌, or_fault}
use Rattle.siit_eamt.specs.declared.entry.Eam.{Eam}
use Rattle.siit_eamt.specs.Disjoint.{is_disjoint}
use Rattle.siit_eamt.specs.Faults.{table_fault}
use Rattle.siit_map.specs.Mapping.{Mapping, table, customer}
use Rattle.siit_rfc6052.specs.Embedding.{is_embedding_prefix}
use Rattle.siit_addr.specs.Prefixes.{prefix4_of_text, prefix6_of_text}
use Rattle.siit_roles.specs.Chain.{Chain}
use Rattle.siit_roles.specs.declared.role.Role.{Role}
use Rattle.siit_roles.specs.declared.role.Role.TheVariants.{Plain, Border, Edge, Customer}
use Rattle.siit_roles.specs.declared.settings.Settings.{Settings}
use Rattle.siit_config.specs.Config.{chain_settings_of, config_of, devices_of, document_of}
use Rattle.siit_config.specs.Devices.{device_of, entry_in, eam_of, hairpin_of, known_keys, local_of, mapping_entries_of, mapping_of, must, pool4_of, table_of}
use Rattle.siit_config.specs.Keys.{all_of, array_of, flag_or, key, no_others, number_or, text, text_or, two_texts, value_of}
use Rattle.siit_config.specs.Laws.{HasAcceptedTable, IsAcceptedDevice, IsAcceptedTable, IsDisjointMapping, IsEntryInRange, IsMappingFor, symmetric_of}
use Rattle.siit_config.proofs.Options.{bool_or, none_or_some, passed}
use Rattle.siit_config.proofs.TextRanges.{prefix4_small, prefix6_small}
use Rattle.siit_config.specs.Texts.{addresses4_of, either_name, embedding_of, family_of, mapping_entry_of, number_within, pool_of, role_of}

-- an outcome that came of another
pub record Bound {A B : Type 0} (r : Result A Fault) (f : A → Result B Fault) (b : B) : Type 0 where
  pub value : A
  pub first : r ≡ Ok value
  pub rest : f value ≡ Ok b

pub bound : {A B : Type 0} (r : Result A Fault) (f : A → Result B Fault) (b : B) → (r >>= f) ≡ Ok b → Bound r f b
bound (Ok a) f b h = record { value = a; first = refl; rest = h }
bound (Err fault) f b h = absurd (cc)

pub ok_is : {A : Type 0} (r : Result A Fault) (x y : A) → r ≡ Ok x → r ≡ Ok y → x ≡ y
ok_is r x y h k = cc

pub ok_or_err : {A : Type 0} (r : Result A Fault) → ((a : A) × (r ≡ Ok a)) ⊎ ((fault : Fault) × (r ≡ Err fault))
ok_or_err (Ok a) = inl (a, refl)
ok_or_err (Err fault) = inr (fault, refl)

-- a value that was there
pub was_there : {X : Type 0} (fault : Fault) (o : Option X) (x : X) → or_fault fault o ≡ Ok x → o ≡ Some x
was_there fault None x h = absurd (cc)
was_there fault (Some y) x h = cc

-- NUMBERS

pub record IsBetween (low high n : ℕ) : Type 0 where
  pub least : low ≤ n
  pub most : n ≤ high

within : (low high : ℕ) (z : ℤ) (n : ℕ) → number_within low high z ≡ Some n → IsBetween low high n
within low high (pos m) n h =
    let both = passed (nat_le low m && nat_le m high) m n h in
    let parts = and_parts (nat_le low m) (nat_le m high) both.0 in
    rw (← both.1) (record { least = leb-true low m parts.0; most = leb-true m high parts.1 })
within low high (negsuc m) n h = absurd (cc)

value_between : (low high default : ℕ) → IsBetween low high default → (device : ℕ) (name : List ℕ) (found : Option Data) (n : ℕ)
    → value_of as_integer (number_within low high) (Some default) device name found ≡ Ok n → IsBetween low high n
value_between low high default within_both device name None n h = let same : default ≡ n = cc in rw (← same) within_both
value_between low high default within_both device name (Some datum) n h =
    let both = bound (or_fault (wrong_kind device name) (as_integer datum)) (λ value. or_fault (bad_value device name) (number_within low high value)) n h in
    within low high both.value n (was_there (bad_value device name) (number_within low high both.value) n both.rest)

pub between : (device : ℕ) (members : Members) (default low high : ℕ) (name : List ℕ) (n : ℕ) → IsBetween low high default
    → number_or device members default low high name ≡ Ok n → IsBetween low high n
between device members default low high name n fits h = value_between low high default fits device name (get_member name members) n h

-- THE POOL

as_many : (texts : List (List ℕ)) (pool : List Addr4) → addresses4_of texts ≡ Some pool → length pool ≡ length texts
as_many [] pool h = let same : [] ≡ pool = cc in rw (← same) refl
as_many (text ∷ texts) pool h =
    elim (none_or_some (addr4_of_text text)) [
      | inl none ↦ let gone = rw none at h in absurd (cc)
      | inr some ↦ elim (none_or_some (addresses4_of texts)) [
        | inl none ↦ let gone = rw (some.1, none) at h in absurd (cc)
        | inr rest ↦
            let both = rw (some.1, rest.1) at h in
            let same : some.0 ∷ rest.0 ≡ pool = cc in
            rw (← same) (ap suc (as_many texts rest.0 rest.1))
      ]
    ]

pub record HasPool (pool : List Addr4) : Type 0 where
  pub least : 1 ≤ length pool
  pub most : length pool ≤ 256

pool_between : (texts : List (List ℕ)) (pool : List Addr4) → pool_of texts ≡ Some pool → HasPool pool
pool_between texts pool h =
    elim (bool_or (nat_le 1 (length texts) && nat_le (length texts) 256)) [
      | inl good ↦
          let parts = and_parts (nat_le 1 (length texts)) (nat_le (length texts) 256) good in
          let many = as_many texts pool (rw good at h) in
          let least = leb-true 1 (length texts) parts.0 in
          let most = leb-true (length texts) 256 parts.1 in
          record { least = omega arith; most = omega arith }
      | inr bad ↦ let gone = rw bad at h in absurd (cc)
    ]

value_pool : (address : Addr4) (device : ℕ) (name : List ℕ) (found : Option Data) (pool : List Addr4)
    → value_of (array_of as_str) pool_of (Some (address ∷ [])) device name found ≡ Ok pool → HasPool pool
value_pool address device name None pool h =
    let same : address ∷ [] ≡ pool = cc in rw (← same) (record { least = omega arith; most = omega arith })
value_pool address device name (Some datum) pool h =
    let both = bound (or_fault (wrong_kind device name) (array_of as_str datum)) (λ value. or_fault (bad_value device name) (pool_of value)) pool h in
    pool_between both.value pool (was_there (bad_value device name) (pool_of both.value) pool both.rest)

pub has_pool : (device : ℕ) (members : Members) (address : Addr4) (pool : List Addr4) → pool4_of device members address ≡ Ok pool → HasPool pool
has_pool device members address pool h = value_pool address device (codes "pool4") (get_member (codes "pool4") members) pool h

-- THE PREFIX

-- a prefix of 128 bits under which addresses are embedded
pub record IsPrefix (prefix : Prefix6) : Type 0 where
  pub embeds : IsTrue (is_embedding_prefix prefix.len prefix.addr.0)
  pub in_range : prefix.addr.0 < 2 ^ 128

embedding_embeds : (content : List ℕ) (prefix : Prefix6) → embedding_of content ≡ Some prefix → IsPrefix prefix
embedding_embeds content prefix h =
    elim (none_or_some (prefix6_of_text content)) [
      | inl none ↦ let gone = rw none at h in absurd (cc)
      | inr some ↦
          let both = passed (is_embedding_prefix some.0.len some.0.addr.0) some.0 prefix (rw some.1 at h) in
          rw (← both.1) (record { embeds = both.0; in_range = prefix6_small content some.0 some.1 })
    ]

value_embeds : (device : ℕ) (name : List ℕ) (found : Option Data) (prefix : Prefix6)
    → value_of as_str embedding_of None device name found ≡ Ok prefix → IsPrefix prefix
value_embeds device name None prefix h = absurd (cc)
value_embeds device name (Some datum) prefix h =
    let both = bound (or_fault (wrong_kind device name) (as_str datum)) (λ value. or_fault (bad_value device name) (embedding_of value)) prefix h in
    embedding_embeds both.value prefix (was_there (bad_value device name) (embedding_of both.value) prefix both.rest)

pub embeds : (device : ℕ) (members : Members) (prefix : Prefix6) → text device members embedding_of (codes "prefix") ≡ Ok prefix
    → IsPrefix prefix
embeds device members prefix h = value_embeds device (codes "prefix") (get_member (codes "prefix") members) prefix h

-- THE TABLE

pub held : (fault : Fault) (test : Bool) (done : Unit {0}) → must fault test ≡ Ok done → test ≡ true
held fault true done h = refl
held fault false done h = absurd (cc)

-- an entry in range, if there is one
abbrev pub IsInRangeIf : Option Eam → Type 0
IsInRangeIf None = Unit {0}
IsInRangeIf (Some entry) = IsEntryInRange entry

texts_in_range : (texts : List ℕ × List ℕ) → IsInRangeIf (mapping_entry_of texts)
texts_in_range texts =
    elim (none_or_some (prefix4_of_text texts.0)) as (λ _. IsInRangeIf (mapping_entry_of texts)) [
      | inl none ↦ rw none tt
      | inr four ↦ elim (none_or_some (prefix6_of_text texts.1)) as (λ _. IsInRangeIf (mapping_entry_of texts)) [
        | inl none ↦ rw (four.1, none) tt
        | inr six ↦ rw (four.1, six.1) (record { four = prefix4_small texts.0 four.0 four.1; six = prefix6_small texts.1 six.0 six.1 })
      ]
    ]

entry_in_range : (value : Data) (entry : Option Eam) → entry_in value ≡ Some entry → IsInRangeIf entry
entry_in_range value entry h =
    elim (none_or_some (two_texts value)) [
      | inl none ↦ let gone = rw none at h in absurd (cc)
      | inr texts ↦
          let made = rw texts.1 at h in
          let same : mapping_entry_of texts.0 ≡ entry = cc in
          rw (← same) (texts_in_range texts.0)
    ]

items_in_range : (items : Items) (entries : List (Option Eam)) → all_of entry_in items ≡ Some entries → All IsInRangeIf entries
items_in_range no_items entries h = let same : [] ≡ entries = cc in rw (← same) (All-nil IsInRangeIf)
items_in_range (item value items) entries h =
    elim (none_or_some (entry_in value)) [
      | inl none ↦ let gone = rw none at h in absurd (cc)
      | inr entry ↦
          let h1 = rw entry.1 at h in
          elim (none_or_some (all_of entry_in items)) [
            | inl none ↦ let gone = rw none at h1 in absurd (cc)
            | inr rest ↦
                let made = rw rest.1 at h1 in
                let same : entry.0 ∷ rest.0 ≡ entries = cc in
                rw (← same) (All-cons IsInRangeIf entry.0 rest.0 (entry_in_range value entry.0 entry.1) (items_in_range items rest.0 rest.1))
          ]
    ]

array_in_range : (value : Data) (entries : List (Option Eam)) → array_of entry_in value ≡ Some entries → All IsInRangeIf entries
array_in_range value entries h =
    elim (none_or_some (as_array value)) [
      | inl none ↦ let gone = rw none at h in absurd (cc)
      | inr items ↦ items_in_range items.0 entries (rw items.1 at h)
    ]

value_in_range : (device : ℕ) (name : List ℕ) (found : Option Data) (entries : List (Option Eam))
    → value_of (array_of entry_in) (λ entries. Some entries) (Some []) device name found ≡ Ok entries → All IsInRangeIf entries
value_in_range device name None entries h = let same : [] ≡ entries = cc in rw (← same) (All-nil IsInRangeIf)
value_in_range device name (Some datum) entries h =
    let both = bound (or_fault (wrong_kind device name) (array_of entry_in datum)) (λ value. or_fault (bad_value device name) (Some value)) entries h in
    let same = ok_is (Ok both.value) both.value entries refl both.rest in
    rw (← same) (array_in_range datum both.value (was_there (wrong_kind device name) (array_of entry_in datum) both.value both.first))

pub eam_in_range : (device : ℕ) (document : Members) (role : Role) (entries : List (Option Eam)) → eam_of device document role ≡ Ok entries
    → All IsInRangeIf entries
eam_in_range device document Customer entries h = let same : [] ≡ entries = ok_is (Ok []) [] entries refl h in rw (← same) (All-nil IsInRangeIf)
eam_in_range device document Plain entries h = value_in_range device (codes "eam") (get_member (codes "eam") document) entries h
eam_in_range device document Border entries h = value_in_range device (codes "eam") (get_member (codes "eam") document) entries h
eam_in_range device document Edge entries h = value_in_range device (codes "eam") (get_member (codes "eam") document) entries h

entries_in_range : (device before : ℕ) (told : List (Option Eam)) (entries : List Eam) → All IsInRangeIf told
    → mapping_entries_of device before told ≡ Ok entries → All IsEntryInRange entries
entries_in_range device before [] entries small h = let same : [] ≡ entries = ok_is (Ok []) [] entries refl h in rw (← same) (All-nil IsEntryInRange)
entries_in_range device before (None ∷ rest) entries small h = absurd (cc)
entries_in_range device before (Some entry ∷ told) entries small h =
    elim (ok_or_err (mapping_entries_of device (before + 1) told)) [
      | inr wrong ↦ let gone = rw wrong.1 at h in absurd (cc)
      | inl rest ↦
          let h1 = rw rest.1 at h in
          let same : entry ∷ rest.0 ≡ entries = ok_is (Ok (entry ∷ rest.0)) (entry ∷ rest.0) entries refl h1 in
          rw (← same) (All-cons IsEntryInRange entry rest.0 (All-head IsInRangeIf (Some entry) told small)
          (entries_in_range device (before + 1) told rest.0 (All-tail IsInRangeIf (Some entry) told small) rest.1))
    ]

-- what a table's mapping is
pub record IsTableMapping (symmetric : Bool) (mapped : Mapping) : Type 0 where
  pub accepted : HasAcceptedTable mapped
  pub disjoint : symmetric ≡ true → IsDisjointMapping mapped

disjoint_if : (symmetric disjoint : Bool) → (not symmetric || disjoint) ≡ true → symmetric ≡ true → disjoint ≡ true
disjoint_if true disjoint h e = h
disjoint_if false disjoint h e = absurd (cc)

table_mapped : (symmetric : Bool) (device : ℕ) (prefix : Prefix6) (entries : List Eam) (mapped : Mapping)
    → IsPrefix prefix → All IsEntryInRange entries → table_of symmetric device prefix entries ≡ Ok mapped → IsTableMapping symmetric mapped
table_mapped symmetric device prefix entries mapped good small h =
    elim (none_or_some (table_fault entries)) [
      | inl none ↦
          let rest = bound (must (not_symmetric device) (not symmetric || is_disjoint entries prefix)) (λ done. Ok (table entries prefix)) mapped (rw none at h) in
          let test = held (not_symmetric device) (not symmetric || is_disjoint entries prefix) rest.value rest.first in
          let same : table entries prefix ≡ mapped = ok_is (Ok (table entries prefix)) (table entries prefix) mapped refl rest.rest in
          rw (← same) (record {
            accepted = record {
              entries = entries;
              prefix = prefix;
              is = refl;
              accepted = record { accepted = none; embeds = good.embeds; entries_in_range = small; prefix_in_range = good.in_range };
            };
            disjoint = λ e. record {
              accepted = none;
              embeds = good.embeds;
              in_range = good.in_range;
              disjoint = disjoint_if symmetric (is_disjoint entries prefix) test e;
            };
          })
      | inr some ↦ let gone = rw some.1 at h in absurd (cc)
    ]

without_local : (symmetric : Bool) (device : ℕ) (prefix : Prefix6) (entries : List (Option Eam)) (mapped : Mapping)
    → IsPrefix prefix → All IsInRangeIf entries → mapping_of symmetric device prefix None entries ≡ Ok mapped → IsTableMapping symmetric mapped
without_local symmetric device prefix entries mapped good small h =
    let both = bound (mapping_entries_of device 0 entries) (table_of symmetric device prefix) mapped h in
    table_mapped symmetric device prefix both.value mapped good (entries_in_range device 0 entries both.value small both.first) both.rest

-- what the mapping of a role is
pub record IsRoleMapping (role : Role) (symmetric : Bool) (mapped : Mapping) : Type 0 where
  pub accepted : IsMappingFor role mapped
  pub disjoint : symmetric ≡ true → IsDisjointMapping mapped

of_customer : (symmetric : Bool) (device : ℕ) (prefix : Prefix6) (local : Option (Prefix4 × Prefix6)) (entries : List (Option Eam)) (mapped : Mapping)
    → IsPrefix prefix → All IsInRangeIf entries → mapping_of symmetric device prefix local entries ≡ Ok mapped → IsRoleMapping Customer symmetric mapped
of_customer symmetric device prefix (Some local) entries mapped good small h =
    let same : customer local.0 local.1 prefix ≡ mapped = ok_is (Ok (customer local.0 local.1 prefix)) (customer local.0 local.1 prefix) mapped refl h in
    rw (← same) (record { accepted = tt; disjoint = λ e. tt })
of_customer symmetric device prefix None entries mapped good small h =
    record { accepted = tt; disjoint = (without_local symmetric device prefix entries mapped good small h).disjoint }

-- a role that has no local prefixes
no_local : (symmetric : Bool) (device : ℕ) (prefix : Prefix6) (local : Option (Prefix4 × Prefix6)) (entries : List (Option Eam)) (mapped : Mapping)
    → IsPrefix prefix → All IsInRangeIf entries → None ≡ local → mapping_of symmetric device prefix local entries ≡ Ok mapped → IsTableMapping symmetric mapped
no_local symmetric device prefix (Some local) entries mapped good small none h = absurd (cc)
no_local symmetric device prefix None entries mapped good small none h = without_local symmetric device prefix entries mapped good small h

pub mapping_is : (role : Role) (symmetric : Bool) (device : ℕ) (document : Members) (prefix : Prefix6) (local : Option (Prefix4 × Prefix6))
    (entries : List (Option Eam)) (mapped : Mapping) → IsPrefix prefix → All IsInRangeIf entries → local_of device document role prefix ≡ Ok local
    → mapping_of symmetric device prefix local entries ≡ Ok mapped → IsRoleMapping role symmetric mapped
mapping_is Customer symmetric device document prefix local entries mapped good small is_local h = of_customer symmetric device prefix local entries mapped good small h
mapping_is Plain symmetric device document prefix local entries mapped good small is_local h =
    let is = no_local symmetric device prefix local entries mapped good small (ok_is (Ok None) None local refl is_local) h in
    record { accepted = is.accepted; disjoint = is.disjoint }
mapping_is Border symmetric device document prefix local entries mapped good small is_local h =
    let is = no_local symmetric device prefix local entries mapped good small (ok_is (Ok None) None local refl is_local) h in
    record { accepted = is.accepted; disjoint = is.disjoint }
mapping_is Edge symmetric device document prefix local entries mapped good small is_local h =
    let is = no_local symmetric device prefix local entries mapped good small (ok_is (Ok None) None local refl is_local) h in
    record { accepted = is.accepted; disjoint = is.disjoint }

-- ONE DEVICE

pub record IsDevice (symmetric : Bool) (settings : Settings) : Type 0 where
  pub good : IsAcceptedDevice settings
  pub disjoint : symmetric ≡ true → IsDisjointMapping settings.mapping

in_order : (mtu6 lowest : ℕ) → not (nat_lt mtu6 lowest) ≡ true → lowest ≤ mtu6
in_order mtu6 lowest h = ltb-false mtu6 lowest (not-true (nat_lt mtu6 lowest) h)

pub device_is : (symmetric : Bool) (device : ℕ) (members : Members) (settings : Settings)
    → device_of device members symmetric ≡ Ok settings → IsDevice symmetric settings
device_is symmetric device document settings h =
    elim (ok_or_err (text device document role_of (codes "role"))) [
      | inr wrong ↦ let gone = rw wrong.1 at h in absurd (cc)
      | inl role ↦
          let h0 = rw role.1 at h in
          elim (ok_or_err (text device document embedding_of (codes "prefix"))) [
            | inr wrong ↦ let gone = rw wrong.1 at h0 in absurd (cc)
            | inl prefix ↦
                let h1 = rw prefix.1 at h0 in
                elim (ok_or_err (local_of device document role.0 prefix.0)) [
                  | inr wrong ↦ let gone = rw wrong.1 at h1 in absurd (cc)
                  | inl local ↦
                      let h2 = rw local.1 at h1 in
                      elim (ok_or_err (text device document addr4_of_text (codes "address4"))) [
                        | inr wrong ↦ let gone = rw wrong.1 at h2 in absurd (cc)
                        | inl address4 ↦
                            let h3 = rw address4.1 at h2 in
                            elim (ok_or_err (text device document addr6_of_text (codes "address6"))) [
                              | inr wrong ↦ let gone = rw wrong.1 at h3 in absurd (cc)
                              | inl address6 ↦
                                  let h4 = rw address6.1 at h3 in
                                  elim (ok_or_err (pool4_of device document address4.0)) [
                                    | inr wrong ↦ let gone = rw wrong.1 at h4 in absurd (cc)
                                    | inl pool4 ↦
                                        let h5 = rw pool4.1 at h4 in
                                        elim (ok_or_err (number_or device document 1500 68 65535 (codes "mtu4"))) [
                                          | inr wrong ↦ let gone = rw wrong.1 at h5 in absurd (cc)
                                          | inl mtu4 ↦
                                              let h6 = rw mtu4.1 at h5 in
                                              elim (ok_or_err (number_or device document 1500 1280 65535 (codes "mtu6"))) [
                                                | inr wrong ↦ let gone = rw wrong.1 at h6 in absurd (cc)
                                                | inl mtu6 ↦
                                                    let h7 = rw mtu6.1 at h6 in
                                                    elim (ok_or_err (number_or device document 1280 1280 65535 (codes "lowest_mtu6"))) [
                                                      | inr wrong ↦ let gone = rw wrong.1 at h7 in absurd (cc)
                                                      | inl lowest ↦
                                                          let h8 = rw lowest.1 at h7 in
                                                          elim (ok_or_err (text_or device document false (either_name (codes "copy") (codes "zero")) (codes "tos"))) [
                                                            | inr wrong ↦ let gone = rw wrong.1 at h8 in absurd (cc)
                                                            | inl tos_zero ↦
                                                                let h9 = rw tos_zero.1 at h8 in
                                                                elim (ok_or_err (text_or device document false (either_name (codes "drop") (codes "compute")) (codes "udp_zero"))) [
                                                                  | inr wrong ↦ let gone = rw wrong.1 at h9 in absurd (cc)
                                                                  | inl udp_compute ↦
                                                                      let h10 = rw udp_compute.1 at h9 in
                                                                      elim (ok_or_err (hairpin_of device document role.0)) [
                                                                        | inr wrong ↦ let gone = rw wrong.1 at h10 in absurd (cc)
                                                                        | inl hairpin ↦
                                                                            let h11 = rw hairpin.1 at h10 in
                                                                            elim (ok_or_err (eam_of device document role.0)) [
                                                                              | inr wrong ↦ let gone = rw wrong.1 at h11 in absurd (cc)
                                                                              | inl entries ↦
                                                                                  let h12 = rw entries.1 at h11 in
                                                                                  elim (ok_or_err (no_others device (known_keys (Some role.0)) document)) [
                                                                                    | inr wrong ↦ let gone = rw wrong.1 at h12 in absurd (cc)
                                                                                    | inl others ↦
                                                                                        let h13 = rw others.1 at h12 in
                                                                                        elim (ok_or_err (must (mtu_order device) (not (nat_lt mtu6.0 lowest.0)))) [
                                                                                          | inr wrong ↦ let gone = rw wrong.1 at h13 in absurd (cc)
                                                                                          | inl order ↦
                                                                                              let h14 = rw order.1 at h13 in
                                                                                              elim (ok_or_err (mapping_of symmetric device prefix.0 local.0 entries.0)) [
                                                                                                | inr wrong ↦ let gone = rw wrong.1 at h14 in absurd (cc)
                                                                                                | inl mapped ↦
                                                                                                    let h15 = rw mapped.1 at h14 in
                                                                                                    let made : Settings = record {
                                                                                                      role = role.0;
                                                                                                      mapping = mapped.0;
                                                                                                      address4 = address4.0;
                                                                                                      address6 = address6.0;
                                                                                                      pool4 = pool4.0;
                                                                                                      mtu4 = mtu4.0;
                                                                                                      mtu6 = mtu6.0;
                                                                                                      lowest = lowest.0;
                                                                                                      tos_zero = tos_zero.0;
                                                                                                      udp_compute = udp_compute.0;
                                                                                                      hairpin = hairpin.0;
                                                                                                    } in
                                                                                                    let same : made ≡ settings = ok_is (Ok made) made settings refl h15 in
                                                                                                    let pool = has_pool device document address4.0 pool4.0 pool4.1 in
                                                                                                    let least4 = between device document 1500 68 65535 (codes "mtu4") mtu4.0 (record { least = omega arith; most = omega arith }) mtu4.1 in
                                                                                                    let least6 = between device document 1500 1280 65535 (codes "mtu6") mtu6.0 (record { least = omega arith; most = omega arith }) mtu6.1 in
                                                                                                    let least_lowest = between device document 1280 1280 65535 (codes "lowest_mtu6") lowest.0 (record { least = omega arith; most = omega arith }) lowest.1 in
                                                                                                    let ordered = in_order mtu6.0 lowest.0 (held (mtu_order device) (not (nat_lt mtu6.0 lowest.0)) order.0 order.1) in
                                                                                                    let kept = mapping_is role.0 symmetric device document prefix.0 local.0 entries.0 mapped.0 (embeds device document prefix.0 prefix.1) (eam_in_range device document role.0 entries.0 entries.1) local.1 mapped.1 in
                                                                                                    rw (← same) (record {
                                                                                                      good = record {
                                                                                                        limits = record {
                                                                                                          mtu4 = least4.least;
                                                                                                          mtu6 = least6.least;
                                                                                                          lowest = least_lowest.least;
                                                                                                          order = ordered;
                                                                                                          some_address = pool.least;
                                                                                                          few_addresses = pool.most;
                                                                                                        };
                                                                                                        mapping = kept.accepted;
                                                                                                      };
                                                                                                      disjoint = kept.disjoint;
                                                                                                    })
                                                                                              ]
                                                                                        ]
                                                                                  ]
                                                                            ]
                                                                      ]
                                                                ]
                                                          ]
                                                    ]
                                              ]
                                        ]
                                  ]
                            ]
                      ]
                ]
          ]
    ]

-- ALL DEVICES

pub devices_are : (symmetric : Bool) (device : ℕ) (tables : List Members) (devices : List Settings)
    → devices_of symmetric device tables ≡ Ok devices → All (IsDevice symmetric) devices × (length devices ≡ length tables)
devices_are symmetric device [] devices h =
    let same : [] ≡ devices = ok_is (Ok []) [] devices refl h in
    rw (← same) (All-nil (IsDevice symmetric), refl)
devices_are symmetric device (document ∷ tables) devices h =
    elim (ok_or_err (device_of device document symmetric)) [
      | inr wrong ↦ let gone = rw wrong.1 at h in absurd (cc)
      | inl settings ↦
          let h0 = rw settings.1 at h in
          elim (ok_or_err (devices_of symmetric (device + 1) tables)) [
            | inr wrong ↦ let gone = rw wrong.1 at h0 in absurd (cc)
            | inl rest ↦
                let h1 = rw rest.1 at h0 in
                let same : settings.0 ∷ rest.0 ≡ devices = ok_is (Ok (settings.0 ∷ rest.0)) (settings.0 ∷ rest.0) devices refl h1 in
                let others = devices_are symmetric (device + 1) tables rest.0 rest.1 in
                rw (← same) (All-cons (IsDevice symmetric) settings.0 rest.0 (device_is symmetric device document settings.0 settings.1) others.0, ap suc others.1)
          ]
    ]

-- THE CHAIN

pub record IsChain (symmetric : Result Bool Fault) (chain : Chain) : Type 0 where
  pub some_device : 1 ≤ length chain.devices
  pub few_devices : length chain.devices ≤ 8
  pub flag : Bool
  pub told : symmetric ≡ Ok flag
  pub each : All (IsDevice flag) chain.devices

pub chain_is : (document : Members) (chain : Chain) → chain_settings_of document ≡ Ok chain
    → IsChain (flag_or 0 document false (codes "symmetric")) chain
chain_is document chain h =
    elim (ok_or_err (key 0 document as_integer family_of None (codes "left"))) [
      | inr wrong ↦ let gone = rw wrong.1 at h in absurd (cc)
      | inl left ↦
          let h0 = rw left.1 at h in
          elim (ok_or_err (flag_or 0 document false (codes "symmetric"))) [
            | inr wrong ↦ let gone = rw wrong.1 at h0 in absurd (cc)
            | inl symmetric ↦
                let h1 = rw symmetric.1 at h0 in
                elim (ok_or_err (key 0 document (array_of as_table) (λ tables. Some tables) None (codes "device"))) [
                  | inr wrong ↦ let gone = rw wrong.1 at h1 in absurd (cc)
                  | inl tables ↦
                      let h2 = rw tables.1 at h1 in
                      elim (ok_or_err (must chain_length (nat_le 1 (length tables.0) && nat_le (length tables.0) 8))) [
                        | inr wrong ↦ let gone = rw wrong.1 at h2 in absurd (cc)
                        | inl few ↦
                            let h3 = rw few.1 at h2 in
                            elim (ok_or_err (no_others 0 (known_keys None) document)) [
                              | inr wrong ↦ let gone = rw wrong.1 at h3 in absurd (cc)
                              | inl others ↦
                                  let h4 = rw others.1 at h3 in
                                  elim (ok_or_err (devices_of symmetric.0 1 tables.0)) [
                                    | inr wrong ↦ let gone = rw wrong.1 at h4 in absurd (cc)
                                    | inl devices ↦
                                        let h5 = rw devices.1 at h4 in
                                        let made : Chain = record { left = left.0; devices = devices.0 } in
                                        let same : made ≡ chain = ok_is (Ok made) made chain refl h5 in
                                        let each = devices_are symmetric.0 1 tables.0 devices.0 devices.1 in
                                        let both = and_parts (nat_le 1 (length tables.0)) (nat_le (length tables.0) 8)
                                        (held chain_length (nat_le 1 (length tables.0) && nat_le (length tables.0) 8) few.0 few.1) in
                                        let least = leb-true 1 (length tables.0) both.0 in
                                        let most = leb-true (length tables.0) 8 both.1 in
                                        let many = each.1 in
                                        rw (← same) (record {
                                          some_device = omega arith;
                                          few_devices = omega arith;
                                          flag = symmetric.0;
                                          told = symmetric.1;
                                          each = each.0;
                                        })
                                  ]
                            ]
                      ]
                ]
          ]
    ]

pub configured_is : (bytes : List ℕ) (chain : Chain) → config_of bytes ≡ Ok chain → IsChain (symmetric_of bytes) chain
configured_is bytes chain h =
    elim (none_or_some (document_of bytes)) as (λ _. IsChain (symmetric_of bytes) chain) [
      | inl none ↦ let gone = rw none at h in absurd (cc)
      | inr document ↦ rw document.1 (chain_is document.0 chain (rw document.1 at h))
    ]
