-- Lines of `map`, as worked by hand.
use Rattle.std.specs.Prelude.{◌≡◌, ℕ, List, [], ◌∷◌, map, codes, Option, Some, option_map}
use Rattle.siit_addr.specs.Addresses.{dotted}
use Rattle.siit_addr.specs.Texts.{both_with}
use Rattle.siit_addr.specs.declared.addr.Prefix4.{Prefix4}
use Rattle.siit_addr.specs.declared.addr.Prefix6.{Prefix6}
use Rattle.siit_config.specs.Texts.{clean_prefix_of, mapping_entry_of}
use Rattle.siit_addr.specs.Prefixes.{prefix6_of_text}
use Rattle.siit_map.specs.Mapping.{Mapping, table, customer}
use Rattle.siit_top.specs.MapLine.{map_line}
use Rattle.siit_command.specs.Words.{Address, four, six}

-- the well-known prefix, and one entry
abbrev relay : Option Mapping
relay =
    both_with (λ entry prefix. table (entry ∷ []) prefix)
    (mapping_entry_of (codes "192.0.2.1/32", codes "2001:db8:6464::1/128"))
    (prefix6_of_text (codes "64:ff9b::/96"))

-- the customer side of 464XLAT
abbrev customer_side : Option Mapping
customer_side =
    both_with (λ (local4 : Prefix4) (prefixes : Prefix6 × Prefix6). customer local4 prefixes.0 prefixes.1)
    (clean_prefix_of (codes "192.168.1.0/24"))
    (both_with (λ local6 provider. (local6, provider)) (prefix6_of_text (codes "2001:db8:c1a7::/96")) (prefix6_of_text (codes "2001:db8:64:64::/64")))

abbrev lines : Option Mapping → List Address → Option (List (List ℕ))
lines mapping addresses = option_map (λ m. map (map_line m) addresses) mapping

pub record MapExamples : Type 0 where
  pub relayed : lines relay (four (dotted 10 0 0 1) ∷ four (dotted 8 8 8 8) ∷ four (dotted 192 0 2 1) ∷ six 0x20010db8646400000000000000000001 ∷ [])
      ≡ Some (codes "10.0.0.1 refused WkpNonGlobal\n" ∷ codes "8.8.8.8 64:ff9b::808:808 prefix\n"
      ∷ codes "192.0.2.1 2001:db8:6464::1 eam 1\n" ∷ codes "2001:db8:6464::1 192.0.2.1 eam 1\n" ∷ [])
  pub at_customer : lines customer_side (four (dotted 192 168 1 10) ∷ six 0x20010db80064006400c6290004000000 ∷ [])
      ≡ Some (codes "192.168.1.10 2001:db8:c1a7::c0a8:10a local\n"
      ∷ codes "2001:db8:64:64:c6:2900:400:0 198.41.0.4 prefix\n" ∷ [])
