-- Two hosts behind one border, and what comes of the packets between them, as worked by hand.
use Rattle.std.specs.Prelude.{◌≡◌, ℕ, ◌+◌, List, [], ◌∷◌, ◌++◌, length}
use Rattle.siit_model.specs.Bytes.{bytes16, bytes32, bytes128, with_field16}
use Rattle.siit_model.specs.Checksum.{checksum_of, pseudo6, residue}
use Rattle.siit_addr.specs.Addresses.{dotted}
use Rattle.siit_map.specs.Mapping.{Mapping, table}
use Rattle.siit_roles.specs.declared.role.Role.TheVariants.{Border}
use Rattle.siit_roles.specs.declared.settings.Settings.{Settings}
use Rattle.siit_rules.specs.declared.rule.Family.TheVariants.{Six}
use Rattle.siit_device.specs.Examples.{device, single, prefix96, words}
use Rattle.siit_chain.specs.Outcome.{turned}
use Rattle.siit_device.specs.Outcome.{outcome_of}

-- 2001:db8:a::1, 2001:db8:b::2, and the prefix 2001:db8:46::/96
abbrev host_a : ℕ
host_a = 0x20010db8000a00000000000000000001

abbrev host_b : ℕ
host_b = 0x20010db8000b00000000000000000002

abbrev under_46 : ℕ → ℕ
under_46 a = 0x20010db8004600000000000000000000 + a

abbrev two_hosts : Mapping
two_hosts = table (single (dotted 192 0 2 1) host_a ∷ single (dotted 192 0 2 2) host_b ∷ []) (prefix96 (under_46 0))

abbrev relay : Settings
relay = device Border two_hosts (dotted 192 0 2 254) (under_46 1)

-- a UDP packet of 8 bytes with this checksum
abbrev datagram : (hop source destination checksum : ℕ) → List ℕ
datagram hop source destination checksum =
    words (0x60000000 ∷ []) ++ bytes16 8 ++ 17 ∷ hop ∷ bytes128 source ++ bytes128 destination ++ words (0x10000035 ∷ (0x00080000 + checksum) ∷ [])

-- a port unreachable about some bytes, with a right checksum
abbrev unreachable : (hop source destination : ℕ) → List ℕ → List ℕ
unreachable hop source destination quoted =
    let blank = words (0x01040000 ∷ 0 ∷ []) ++ quoted in
    words (0x60000000 ∷ []) ++ bytes16 (length blank) ++ 58 ∷ hop ∷ bytes128 source ++ bytes128 destination
    ++ with_field16 blank 2 (checksum_of (residue (bytes32 (pseudo6 source destination 58 (length blank)) ++ blank)))

pub record HairpinExamples : Type 0 where
  pub sent : outcome_of relay Six (datagram 64 host_a (under_46 (dotted 192 0 2 2)) 0x5555) 1
      ≡ turned (datagram 63 (under_46 (dotted 192 0 2 1)) host_b 0x5554)
  pub reply : outcome_of relay Six (datagram 64 host_b (under_46 (dotted 192 0 2 1)) 0x5554) 1
      ≡ turned (datagram 63 (under_46 (dotted 192 0 2 2)) host_a 0x5555)
  -- about the turned packet; the quote goes back to what the first host sent, but for its hop limit
  pub error : outcome_of relay Six (unreachable 64 host_b (under_46 (dotted 192 0 2 1)) (datagram 63 (under_46 (dotted 192 0 2 1)) host_b 0x5554)) 1
      ≡ turned (unreachable 63 (under_46 (dotted 192 0 2 2)) host_a (datagram 63 host_a (under_46 (dotted 192 0 2 2)) 0x5555))
