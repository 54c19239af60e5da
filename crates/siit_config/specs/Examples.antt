-- Worked configurations, over the members of their documents.
use Rattle.std.specs.Prelude.{◌≡◌, ℕ, ◌*◌, ◌^◌, pos, List, [], ◌∷◌, map, codes, Bool, true, false, Some, option_map, Err}
use Rattle.std.specs.Result.{result_ok}
use Rattle.toml.specs.Data.{Data, string, integer, boolean, array, table, Items, no_items, item, Members, no_members, member}
use Rattle.siit_addr.specs.Addresses.{dotted}
use Rattle.siit_eamt.specs.declared.entry.Eam.{Eam as Entry}
use Rattle.siit_eamt.specs.declared.entry.EamFault.TheVariants.{Twice4}
use Rattle.siit_map.specs.Mapping as mapping
use Rattle.siit_roles.specs.Chain.{Chain}
use Rattle.siit_roles.specs.declared.settings.Settings.{Settings}
use Rattle.siit_config.specs.Faults.{missing, wrong_kind, bad_value, unknown, chain_length, mtu_order, bad_eam, eam, not_symmetric}
use Rattle.siit_config.specs.Config.{chain_settings_of}

abbrev pair : List ℕ → List ℕ → Data
pair first second = array (item (string first) (item (string second) no_items))

-- a document with IPv4 at the left, these devices, and symmetric set so
abbrev document : Bool → List Members → Members
document symmetric devices =
    member (codes "device") (array (tables devices)) (member (codes "left") (integer (pos 4)) (member (codes "symmetric") (boolean symmetric) no_members))
  where
    tables : List Members → Items
    tables [] = no_items
    tables (device ∷ devices) = item (table device) (tables devices)

-- a device with this role and table, and more members behind these
abbrev relay : (role : List ℕ) → Data → Members → Members
relay role entries more =
    member (codes "address4") (string (codes "192.0.2.254"))
    (member (codes "address6") (string (codes "2001:db8:ffff::1"))
    (member (codes "eam") entries
    (member (codes "prefix") (string (codes "64:ff9b::/96"))
    (member (codes "role") (string role) more))))

abbrev one_entry : Data
one_entry = array (item (pair (codes "192.0.2.1/32") (codes "2001:db8:6464::1/128")) no_items)

-- the same prefix twice, and a prefix inside another
abbrev twice : Data
twice =
    array (item (pair (codes "192.0.2.1/32") (codes "2001:db8:a::/128"))
    (item (pair (codes "192.0.2.1/32") (codes "2001:db8:b::/128")) no_items))

abbrev nested : Data
nested =
    array (item (pair (codes "198.51.100.0/24") (codes "2001:db8:a::/120"))
    (item (pair (codes "198.51.100.7/32") (codes "2001:db8:b::7/128")) no_items))

abbrev bad_second : Data
bad_second = array (item (pair (codes "192.0.2.1/32") (codes "2001:db8:a::/128")) (item (pair (codes "192.0.2.2") (codes "2001:db8:b::/128")) no_items))

abbrev customer : Members
customer =
    member (codes "address4") (string (codes "192.168.1.1"))
    (member (codes "address6") (string (codes "2001:db8:ffff::1"))
    (member (codes "local4") (string (codes "192.168.1.0/24"))
    (member (codes "local_prefix6") (string (codes "2001:db8:c1a7::/96"))
    (member (codes "prefix") (string (codes "2001:db8:64:64::/64"))
    (member (codes "role") (string (codes "customer")) no_members)))))

-- an entry, a mapping and a device by their numbers
abbrev entry_numbers : Entry → List ℕ
entry_numbers entry = entry.p4.addr.0 ∷ entry.p4.len ∷ entry.p6.addr.0 ∷ entry.p6.len ∷ []

abbrev mapping_numbers : mapping.Mapping → List (List ℕ)
mapping_numbers (mapping.table entries prefix) = (prefix.addr.0 ∷ prefix.len ∷ []) ∷ map entry_numbers entries
mapping_numbers (mapping.customer local4 local6 provider) =
    (provider.addr.0 ∷ provider.len ∷ []) ∷ (local4.addr.0 ∷ local4.len ∷ []) ∷ (local6.addr.0 ∷ local6.len ∷ []) ∷ []

abbrev limits : Settings → List ℕ
limits settings = settings.mtu4 ∷ settings.mtu6 ∷ settings.lowest ∷ []

abbrev choices : Settings → List Bool
choices settings = settings.tos_zero ∷ settings.udp_compute ∷ settings.hairpin ∷ []

abbrev shown : Chain → List (List ℕ × List Bool × List (List ℕ))
shown chain = map (λ s. (limits s, choices s, mapping_numbers s.mapping)) chain.devices

-- a border and an edge with one table, all else by default
abbrev pub APairIsAccepted : Type 0
APairIsAccepted =
    (option_map shown (result_ok (chain_settings_of (document true (relay (codes "border") one_entry no_members ∷ relay (codes "edge") one_entry no_members ∷ []))))
    ≡ Some (device true ∷ device false ∷ []))
  where
    device : Bool → List ℕ × List Bool × List (List ℕ)
    device hairpin = (
      1500 ∷ 1500 ∷ 1280 ∷ [],
      false ∷ false ∷ hairpin ∷ [],
      (0x64ff9b * 2 ^ 96 ∷ 96 ∷ []) ∷ (dotted 192 0 2 1 ∷ 32 ∷ 0x20010db8646400000000000000000001 ∷ 128 ∷ []) ∷ [],
    )

-- the customer side of 464XLAT
abbrev pub ACustomerIsAccepted : Type 0
ACustomerIsAccepted =
    (option_map shown (result_ok (chain_settings_of (document false (customer ∷ []))))
    ≡ Some ((
      1500 ∷ 1500 ∷ 1280 ∷ [],
      false ∷ false ∷ false ∷ [],
      (0x20010db8006400640000000000000000 ∷ 64 ∷ []) ∷ (dotted 192 168 1 0 ∷ 24 ∷ [])
          ∷ (0x20010db8c1a700000000000000000000 ∷ 96 ∷ []) ∷ [],
    ) ∷ []))

abbrev pub TopLevelIsRefused : Type 0
TopLevelIsRefused =
    (map chain_settings_of
    (no_members
    ∷ member (codes "left") (string (codes "4")) no_members
    ∷ member (codes "left") (integer (pos 5)) no_members
    ∷ member (codes "left") (integer (pos 4)) no_members
    ∷ document false []
    ∷ member (codes "Left") (integer (pos 4)) (document false (customer ∷ []))
    ∷ [])
    ≡ Err (missing 0 (codes "left"))
    ∷ Err (wrong_kind 0 (codes "left"))
    ∷ Err (bad_value 0 (codes "left"))
    ∷ Err (missing 0 (codes "device"))
    ∷ Err chain_length
    ∷ Err (unknown 0 (codes "Left"))
    ∷ [])

-- Lowest above mtu6, an unknown key before that, a prefix that two entries have, a text that is no prefix, prefixes
-- that overlap in a symmetric configuration, a key that the role doesn't have, and a role that there isn't.
abbrev pub DevicesAreRefused : Type 0
DevicesAreRefused =
    (map chain_settings_of
    (document false (relay (codes "plain") one_entry limits_wrong ∷ [])
    ∷ document false (relay (codes "plain") one_entry (member (codes "x") (boolean true) limits_wrong) ∷ [])
    ∷ document false (relay (codes "plain") twice no_members ∷ [])
    ∷ document false (relay (codes "plain") bad_second no_members ∷ [])
    ∷ document true (relay (codes "plain") nested no_members ∷ [])
    ∷ document false (relay (codes "edge") one_entry (member (codes "hairpin") (boolean true) no_members) ∷ [])
    ∷ document false (relay (codes "hub") one_entry no_members ∷ [])
    ∷ [])
    ≡ Err (mtu_order 1)
    ∷ Err (unknown 1 (codes "x"))
    ∷ Err (eam 1 (Twice4 1 0))
    ∷ Err (bad_eam 1 1)
    ∷ Err (not_symmetric 1)
    ∷ Err (unknown 1 (codes "hairpin"))
    ∷ Err (bad_value 1 (codes "role"))
    ∷ [])
  where
    limits_wrong : Members
    limits_wrong = member (codes "lowest_mtu6") (integer (pos 1400)) (member (codes "mtu6") (integer (pos 1300)) no_members)

abbrev pub NestedPrefixesAreAccepted : Type 0
NestedPrefixesAreAccepted =
    (option_map (λ shown. map (λ s. s.0) shown) (option_map shown (result_ok (chain_settings_of (document false (relay (codes "plain") nested no_members ∷ [])))))
    ≡ Some ((1500 ∷ 1500 ∷ 1280 ∷ []) ∷ []))

-- a device with this pool in its configuration
abbrev with_pool : Items → Members
with_pool texts = document false (relay (codes "plain") one_entry (member (codes "pool4") (array texts) no_members) ∷ [])

abbrev pools : Chain → List (List ℕ)
pools chain = map (λ s. map (λ a. a.0) s.pool4) chain.devices

-- two addresses in their order, and without the key the device's own address
abbrev pub PoolsAreRead : Type 0
PoolsAreRead =
    (map (λ members. option_map pools (result_ok (chain_settings_of members)))
    (with_pool (item (string (codes "192.0.2.250")) (item (string (codes "192.0.2.251")) no_items))
    ∷ document false (relay (codes "plain") one_entry no_members ∷ [])
    ∷ [])
    ≡ Some ((dotted 192 0 2 250 ∷ dotted 192 0 2 251 ∷ []) ∷ [])
    ∷ Some ((dotted 192 0 2 254 ∷ []) ∷ [])
    ∷ [])

-- no address, a text that is no address, and an element that is no text, though a bad text stands before it
abbrev pub PoolsAreRefused : Type 0
PoolsAreRefused =
    (map (λ texts. chain_settings_of (with_pool texts))
    (no_items
    ∷ item (string (codes "192.0.2.256")) no_items
    ∷ item (string (codes "192.0.2.256")) (item (integer (pos 1)) no_items)
    ∷ [])
    ≡ Err (bad_value 1 (codes "pool4"))
    ∷ Err (bad_value 1 (codes "pool4"))
    ∷ Err (wrong_kind 1 (codes "pool4"))
    ∷ [])
