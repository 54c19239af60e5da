-- Two hosts behind one translator, as worked by hand.
use Rattle.std.specs.Prelude.{◌≡◌, ℕ, ◌*◌, ◌^◌, ◌+◌, [], ◌∷◌, Ok}
use Rattle.std.proofs.Common.{lit≤}
use Rattle.siit_addr.specs.Addresses.{dotted}
use Rattle.siit_addr.specs.declared.addr.Prefix6.{Prefix6}
use Rattle.siit_eamt.specs.declared.entry.Eam.{Eam as Entry}
use Rattle.siit_map.specs.declared.mapping.Means.TheVariants.{Eam}
use Rattle.siit_map.specs.Mapping.{Mapping, table, ipv4_for}
use Rattle.siit_hairpin.specs.declared.hairpin.TurnAnswer.TheVariants.{Not, Refused}
use Rattle.siit_hairpin.specs.Turn.{pair_of, turn_of}

-- an entry of one IPv4 and one IPv6 address, and a prefix of 96 bits
abbrev single : (a x : ℕ) → Entry
single a x = record {
  p4 = record { addr = record { 0 = a }; len = 32; in_range = lit≤ tt };
  p6 = record { addr = record { 0 = x }; len = 128; in_range = lit≤ tt };
}

abbrev prefix96 : ℕ → Prefix6
prefix96 x = record { addr = record { 0 = x }; len = 96; in_range = lit≤ tt }

-- 2001:db8:a::1 and 2001:db8:b::2, and the prefix 2001:db8:46::/96
abbrev host_a : ℕ
host_a = 0x20010db8000a00000000000000000001

abbrev host_b : ℕ
host_b = 0x20010db8000b00000000000000000002

abbrev under_46 : ℕ → ℕ
under_46 a = 0x20010db8004600000000000000000000 + a

abbrev border : Mapping
border = table (single (dotted 192 0 2 1) host_a ∷ single (dotted 192 0 2 2) host_b ∷ []) (prefix96 (under_46 0))

-- A packet from the first to the second one's translated form is turned, and so is the reply. A packet to an address
-- without an entry, and one to the second's own address, are not.
pub record HairpinExamples : Type 0 where
  pub source : ipv4_for border host_a ≡ Ok (dotted 192 0 2 1, Eam 0)
  pub sent : turn_of border (dotted 192 0 2 1) (under_46 (dotted 192 0 2 2)) ≡ pair_of (under_46 (dotted 192 0 2 1)) host_b
  pub reply : turn_of border (dotted 192 0 2 2) (under_46 (dotted 192 0 2 1)) ≡ pair_of (under_46 (dotted 192 0 2 2)) host_a
  pub no_entry : turn_of border (dotted 192 0 2 1) (under_46 (dotted 8 8 8 8)) ≡ Not
  pub own_address : turn_of border (dotted 192 0 2 1) host_b ≡ Not

-- under the well-known prefix, a source that isn't global has no form
abbrev well_known : Mapping
well_known = table (single (dotted 8 8 8 8) host_b ∷ []) (prefix96 (0x64ff9b * 2 ^ 96))

pub record RefusedExamples : Type 0 where
  pub private_source : turn_of well_known (dotted 10 0 0 1) (0x64ff9b * 2 ^ 96 + dotted 8 8 8 8) ≡ Refused
  pub global_source : turn_of well_known (dotted 9 9 9 9) (0x64ff9b * 2 ^ 96 + dotted 8 8 8 8) ≡ pair_of (0x64ff9b * 2 ^ 96 + dotted 9 9 9 9) host_b
