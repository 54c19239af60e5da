-- What each part of joining is for: fragments of which every other part holds, and which aren't the datagram.
use Rattle.std.specs.Prelude.{◌≡◌, ℕ, ◌<◌, List, [], ◌∷◌, length, replicate, true, false, None}
use Rattle.std.specs.List.{All, Any}
use Rattle.siit_model.specs.Fragments.{Common, Datagram, Fragment}
use Rattle.siit_fragments.specs.Covers.{Covers, HoldsByte, IsFragmentOf, IsPart, IsSliceOf}

-- of a protocol for experiments (RFC 3692), whose upper part has no checksum that is known
abbrev pub shared : Common
shared = record { class = 0; hop = 64; protocol = 253; source = 1; destination = 2 }

abbrev pub sixteen : Datagram
sixteen = record { common = shared; payload = 1 ∷ 2 ∷ 3 ∷ 4 ∷ 5 ∷ 6 ∷ 7 ∷ 8 ∷ 9 ∷ 10 ∷ 11 ∷ 12 ∷ 13 ∷ 14 ∷ 15 ∷ 16 ∷ [] }

abbrev pub eight : Datagram
eight = record { common = shared; payload = 1 ∷ 2 ∷ 3 ∷ 4 ∷ 5 ∷ 6 ∷ 7 ∷ 8 ∷ [] }

abbrev pub nothing : Datagram
nothing = record { common = shared; payload = [] }

abbrev pub first : Fragment
first = record { common = shared; id = 5; offset = 0; more = true; bytes = 1 ∷ 2 ∷ 3 ∷ 4 ∷ 5 ∷ 6 ∷ 7 ∷ 8 ∷ [] }

abbrev pub second : Fragment
second = record { common = shared; id = 5; offset = 1; more = false; bytes = 9 ∷ 10 ∷ 11 ∷ 12 ∷ 13 ∷ 14 ∷ 15 ∷ 16 ∷ [] }

-- the second half with its last byte changed
abbrev pub changed : Fragment
changed = record second { bytes = 9 ∷ 10 ∷ 11 ∷ 12 ∷ 13 ∷ 14 ∷ 15 ∷ 0 ∷ [] }

-- the second half on its way to another host
abbrev pub strayed : Fragment
strayed = record second { common = record shared { destination = 3 } }

-- the second half of another datagram
abbrev pub foreign : Fragment
foreign = record second { id = 6 }

-- no byte, between both halves
abbrev pub empty : Fragment
empty = record { common = shared; id = 5; offset = 1; more = true; bytes = [] }

-- the whole datagram of eight bytes
abbrev pub whole : Fragment
whole = record { common = shared; id = 5; offset = 0; more = false; bytes = 1 ∷ 2 ∷ 3 ∷ 4 ∷ 5 ∷ 6 ∷ 7 ∷ 8 ∷ [] }

-- TCP's checksum is at byte 16: here in a later fragment
abbrev pub tcp : Common
tcp = record shared { protocol = 6 }

abbrev pub segment : Datagram
segment = record { common = tcp; payload = replicate 24 7 }

abbrev pub ports : Fragment
ports = record { common = tcp; id = 5; offset = 0; more = true; bytes = replicate 16 7 }

abbrev pub checksum : Fragment
checksum = record { common = tcp; id = 5; offset = 2; more = false; bytes = replicate 8 7 }

-- Every byte of a datagram is in some fragment.
abbrev pub HasEvery : Datagram → List Fragment → Type 0
HasEvery d fragments = (place : ℕ) → place < length d.payload → Any (HoldsByte place) fragments

-- the rest holds, and these don't join to the datagram
abbrev pub Refused : (rest : Type 0) → Datagram → List Fragment → Type 0
Refused rest d fragments = rest × (Covers d fragments → ⊥)

-- a fragment of this datagram, whatever its identification
abbrev pub IsFragmentOfAny : Datagram → Fragment → Type 0
IsFragmentOfAny d f = IsFragmentOf d f.id f

-- a slice of the payload with this identification, whoever sent it
abbrev pub IsSliceBy : Datagram → (id : ℕ) → Fragment → Type 0
IsSliceBy d id f = IsSliceOf d.payload f × (f.id ≡ id)

pub record CoverExamples : Type 0 where
  -- Both halves join, in any order and with repetition.
  pub joined : Covers sixteen (second ∷ first ∷ second ∷ [])
  -- there is a fragment: no packet at all isn't the empty datagram
  pub some : Refused (HasEvery nothing []) nothing []
  -- of one identification: halves of two datagrams aren't one
  pub identified : Refused
      (All (IsFragmentOfAny sixteen) (first ∷ foreign ∷ []) × HasEvery sixteen (first ∷ foreign ∷ []) × All (IsPart None) (first ∷ foreign ∷ []))
      sixteen (first ∷ foreign ∷ [])
  -- of these addresses, protocol, TOS and TTL
  pub shares : Refused
      (All (IsSliceBy sixteen 5) (first ∷ strayed ∷ []) × HasEvery sixteen (first ∷ strayed ∷ []) × All (IsPart None) (first ∷ strayed ∷ []))
      sixteen (first ∷ strayed ∷ [])
  -- with the payload's bytes
  pub bytes : Refused
      (HasEvery sixteen (first ∷ changed ∷ []) × All (IsPart None) (first ∷ changed ∷ []))
      sixteen (first ∷ changed ∷ [])
  -- More says whether further bytes follow: the first half isn't a datagram of eight bytes
  pub more : Refused
      (HasEvery eight (first ∷ []) × All (IsPart None) (first ∷ []))
      eight (first ∷ [])
  -- every byte is there
  pub every : Refused
      (All (IsFragmentOf sixteen 5) (first ∷ []) × All (IsPart None) (first ∷ []))
      sixteen (first ∷ [])
  -- one whole packet, and not two
  pub twice : Refused
      (All (IsFragmentOf eight 5) (whole ∷ whole ∷ []) × HasEvery eight (whole ∷ whole ∷ []))
      eight (whole ∷ whole ∷ [])
  -- no fragment without payload
  pub payload : Refused
      (All (IsFragmentOf sixteen 5) (first ∷ empty ∷ second ∷ []) × HasEvery sixteen (first ∷ empty ∷ second ∷ []))
      sixteen (first ∷ empty ∷ second ∷ [])
  -- no later fragment with the checksum, which a translator wouldn't find there
  pub leaves : Refused
      (All (IsFragmentOf segment 5) (ports ∷ checksum ∷ []) × HasEvery segment (ports ∷ checksum ∷ []))
      segment (ports ∷ checksum ∷ [])
