-- Prefixes found, as worked by hand.
use Rattle.std.specs.Prelude.{◌≡◌, ℕ, ◌+◌, ◌*◌, ◌^◌, List, [], ◌∷◌, ◌++◌, Ok, Err}
use Rattle.siit_model.specs.Bytes.{bytes128}
use Rattle.siit_addr.specs.Addresses.{dotted}
use Rattle.siit_rfc6052.specs.Embedding.{embedded, well_known}
use Rattle.siit_dns.specs.declared.fault.DnsFault.TheVariants.{NotAnswer}
use Rattle.siit_discovery.specs.Discovery.{ipv4only, prefixes_of, found}

-- an AAAA record whose name is a pointer to the question's
abbrev address_record : ℕ → List ℕ
address_record x = 0xc0 ∷ 0x0c ∷ 0x00 ∷ 0x1c ∷ 0x00 ∷ 0x01 ∷ 0x00 ∷ 0x00 ∷ 0x0e ∷ 0x10 ∷ 0x00 ∷ 0x10 ∷ [] ++ bytes128 x

-- an answer with two addresses, behind these flags
abbrev answer : (flags : ℕ) → (x y : ℕ) → List ℕ
answer flags x y =
    0x12 ∷ 0x34 ∷ flags ∷ 0x80 ∷ 0x00 ∷ 0x01 ∷ 0x00 ∷ 0x02 ∷ 0x00 ∷ 0x00 ∷ 0x00 ∷ 0x00 ∷ [] ++ ipv4only ++ 0x00 ∷ 0x1c ∷ 0x00 ∷ 0x01 ∷ []
    ++ address_record x ++ address_record y

-- 2001:db8:64:64::, and both addresses under it with a length of 64
abbrev prefix : ℕ
prefix = 0x20010db800640064 * 2 ^ 64

abbrev first : ℕ
first = prefix + 0x00c00000aa000000

abbrev second : ℕ
second = prefix + 0x00c00000ab000000

-- a /64 that holds one of the known addresses itself, so that an address under it has two candidates
abbrev twofold : ℕ
twofold = 0x20010db8c00000aa * 2 ^ 64

pub record DiscoveryExamples : Type 0 where
  pub both : found (answer 0x81 first second) ≡ Ok ((prefix, 64) ∷ [])
  pub query : found (answer 0x01 first second) ≡ Err NotAnswer
  -- one address alone shows its only candidate
  pub alone : prefixes_of (first ∷ []) ≡ (prefix, 64) ∷ []
  pub none : prefixes_of (prefix ∷ []) ≡ []
  pub by_length_96 : prefixes_of (embedded 96 well_known (dotted 192 0 0 171) ∷ []) ≡ (well_known, 96) ∷ []
  -- of two candidates none counts alone, nor with the same address again, but one does with its partner
  pub two_candidates : prefixes_of ((twofold + 0xc00000aa) ∷ []) ≡ []
  pub repeated : prefixes_of ((twofold + 0xc00000aa) ∷ (twofold + 0xc00000aa) ∷ []) ≡ []
  pub with_partner : prefixes_of ((twofold + 0xc00000aa) ∷ (twofold + 0xc00000ab) ∷ []) ≡ (twofold, 96) ∷ []
