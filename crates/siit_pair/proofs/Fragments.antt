-- Fragments that cross two devices.
use Rattle.std.proofs.Common.{◌≡◌, ℕ, ◌-◌, ◌≤◌, List, [], ◌∷◌, length, map, get_or, All, flat_map, Bool, true, false, ◌||◌, ◌==◌, if◌then◌else◌, Some, None, ◌∙◌, ap, sym, subst, refl, ⊎_elim, arith, ne_eqb, true≢false}
use Rattle.std.specs.List.{list_any}
use Rattle.std.proofs.lemmas.Bool.{and_parts, eqb-true}
use Rattle.std.proofs.lemmas.List.Elements.{All-head, All-map, All-tail}
use Rattle.siit_model.specs.Fragments.{Datagram, datagram4, fragment4, whole_of}
use Rattle.siit_model.specs.Ipv4.{Ipv4Packet, IsGoodIpv4, ipv4_fields, is_whole4}
use Rattle.siit_model.specs.Ipv6.{ipv6_bytes, ipv6_fields}
use Rattle.siit_fragments.specs.Covers.{Covers4, Covers6, IsFragmentOf, IsOneWhole}
use Rattle.siit_fragments.specs.Laws.{HasChecksum}
use Rattle.siit_fragments.proofs.Lists.{All-flat_map, All-from_map}
use Rattle.siit_roles.specs.Limits.{IsWithinLimits}
use Rattle.siit_roles.specs.declared.settings.Settings.{Settings}
use Rattle.siit_device.specs.Forward.{packets_to_6}
use Rattle.siit_arrival4.specs.Unruled.{IsUnruled, RulesLeave4}
use Rattle.siit_arrival6.specs.Unruled.{RulesLeave6}
use Rattle.siit_cutting.specs.Laws.{CuttingCommutesTo4, CuttingCommutesTo6, HasAddresses6, IsTaken4, IsWalked, Numbered, first_id, given_to_4}
use Rattle.siit_pair.specs.Across.{between}
use Rattle.siit_pair.specs.Laws.{AreReversible, ComesOut, FragmentsComeAcross, GoesAcross, PassesBoth}
use Rattle.siit_pair.proofs.Conditions4.{HasUpper4, has-upper4}
use Rattle.siit_pair.proofs.Datagrams.{datagrams_across}
use Rattle.siit_pair.proofs.Gathered.{Facts, Facts6, goes-parts, goes-whole, lives}
use Rattle.siit_pair.proofs.Payloads.{range4}
use Rattle.siit_pair.proofs.Taken.{alive, left, no-rule4, taken4, taken6, unruled6, walk, walked}
use Rattle.siit_pair.proofs.Written.{IsReadAgain, given-read, upper-most}

-- what is read again, one by one
read-all : (between : List Numbered) → All (λ x. IsReadAgain x.0) between → map (λ x. (ipv6_fields (ipv6_bytes x.0), x.1)) between ≡ between
read-all [] each = refl
read-all (x ∷ between) each =
    ap (λ q. (q, x.1) ∷ map (λ y. (ipv6_fields (ipv6_bytes y.0), y.1)) between) (All-head (λ (y : Numbered). IsReadAgain y.0) x between each)
    ∙ ap (λ l. x ∷ l) (read-all between (All-tail (λ (y : Numbered). IsReadAgain y.0) x between each))

clashes : ℕ → Bool
clashes protocol = list_any (λ n. protocol == n) (0 ∷ 43 ∷ 44 ∷ 58 ∷ 60 ∷ [])

no-clash : (protocol n : ℕ) → clashes protocol ≡ false → clashes n ≡ true → protocol ≡ n → ⊥
no-clash protocol n h is e = cc

-- which upper headers hold their checksum
holds-checksum : (icmp tcp udp icmp6 : Bool) (bytes : List ℕ) → (if tcp then 20 else if udp || icmp then 8 else 0) ≤ length bytes → icmp6 ≡ false
    → HasChecksum (if icmp then Some 2 else if tcp then Some 16 else if udp then Some 6 else if icmp6 then Some 2 else None) bytes
holds-checksum true true udp icmp6 bytes e f = omega arith
holds-checksum true false true icmp6 bytes e f = omega arith
holds-checksum true false false icmp6 bytes e f = omega arith
holds-checksum false true udp icmp6 bytes e f = omega arith
holds-checksum false false true icmp6 bytes e f = omega arith
holds-checksum false false false true bytes e f = cc
holds-checksum false false false false bytes e f = tt

three : (n : ℕ) → 2 ≤ n - 1 → 3 ≤ n
three n is = omega arith

module _ (law4 : RulesLeave4) (law6 : RulesLeave6) (cut6 : CuttingCommutesTo6)
    (first second : Settings) (d : Ipv4Packet) (entered : List (List ℕ)) (numbered : List Numbered) (alike : first.mapping ≡ second.mapping)
    (limits : IsWithinLimits first) (limits2 : IsWithinLimits second) (good : IsGoodIpv4 d) (whole : is_whole4 d ≡ true)
    (back : AreReversible first.mapping d) (addresses : HasAddresses6 first (datagram4 d).common)
    (covers : Covers4 d (map ipv4_fields entered)) (passes : PassesBoth first second entered numbered) where
  abbrev packets : List Ipv4Packet
  packets = map ipv4_fields entered

  abbrev e : Datagram
  e = between first d

  facts : All (Facts first) packets
  facts = All-map (Facts first) ipv4_fields entered (λ k b within. record {
    taken = taken4 law4 first (get_or entered k b) (passes.bytes k b within) (passes.taken k b within);
    none = no-rule4 first (get_or entered k b) (passes.taken k b within);
  })

  taken : All IsTaken4 packets
  taken = λ k p within. (facts k p within).taken

  of : All (λ p. IsFragmentOf (datagram4 d) covers.id (fragment4 p)) packets
  of = All-from_map (IsFragmentOf (datagram4 d) covers.id) fragment4 packets covers.parts

  read-given : All IsReadAgain (flat_map (packets_to_6 first) packets)
  read-given = All-flat_map IsReadAgain (packets_to_6 first) packets
      (λ k p within. given-read first (get_or packets k p) limits (taken k p within)
      (subst (λ c. HasAddresses6 first c) (sym (of k p within).shares) addresses))

  pub read-between : All (λ x. IsReadAgain x.0) numbered
  read-between = All-from_map IsReadAgain (λ (x : Numbered). x.0) numbered (subst (λ l. All IsReadAgain l) (sym passes.given) read-given)

  pub facts6 : All (Facts6 second) numbered
  facts6 = λ k x within.
      let y : Numbered = get_or numbered k x in
      let again = read-between k x within in
      let small = passes.bytes_between k x within in
      let none = passes.taken_between k x within in
      record {
        alive = alive law6 second y again small none;
        walked = (left law6 second y again small none).walked;
        walk = walk law6 second y again small none;
        none = unruled6 law6 second y again small none;
      }

  walks : All IsWalked (flat_map (packets_to_6 first) packets)
  walks =
      subst (λ l. All IsWalked l) passes.given
      (All-map IsWalked (λ (x : Numbered). x.0) numbered
      (λ k x within. walked law6 second (get_or numbered k x) (read-between k x within) (passes.bytes_between k x within) (passes.taken_between k x within)))

  short : length d.payload ≤ 65515
  short = let fits = good.fits in omega arith

  six : Covers6 e (flat_map (packets_to_6 first) packets)
  six = cut6 first d packets limits addresses short covers taken walks

  pub six-numbered : Covers6 e (map (λ x. x.0) numbered)
  six-numbered = subst (λ l. Covers6 e l) (sym passes.given) six

  living : 3 ≤ d.ttl
  living = three d.ttl (lives second e numbered six-numbered facts6)

  pub goes : GoesAcross first second d
  goes =
      ⊎_elim (λ one. at-whole packets facts of one passes.given)
      (λ parts. goes-parts first second d packets facts covers parts living) covers.form
    where
      at-whole : (some : List Ipv4Packet) → All (Facts first) some → All (λ p. IsFragmentOf (datagram4 d) covers.id (fragment4 p)) some → IsOneWhole (map fragment4 some)
          → map (λ (x : Numbered). x.0) numbered ≡ flat_map (packets_to_6 first) some → GoesAcross first second d
      at-whole [] known parts one given = absurd one
      at-whole (p ∷ q ∷ rest) known parts one given = absurd one
      at-whole (p ∷ []) known parts one given =
          goes-whole first second d whole covers.id p (All-head (Facts first) p [] known)
          (All-head (λ q. IsFragmentOf (datagram4 d) covers.id (fragment4 q)) p [] parts) one living numbered given facts6

  pub unruled : IsUnruled (whole_of (datagram4 d))
  unfolding clashes
  unruled =
      let upper : HasUpper4 first d = has-upper4 first d (eqb-true d.offset 0 (and_parts (d.offset == 0) (d.mf == 0) whole).0) goes.upper in
      record {
        source = good.source;
        destination = good.destination;
        id = omega arith;
        long = λ _. holds-checksum (d.protocol == 1) (d.protocol == 6) (d.protocol == 17) (d.protocol == 58) d.payload upper.long
            (ne_eqb d.protocol 58 (clear 58 refl));
        icmp = λ _. refl;
        udp = λ _ _ more. absurd (true≢false (sym more));
        clash0 = clear 0 refl;
        clash43 = clear 43 refl;
        clash44 = clear 44 refl;
        clash58 = clear 58 refl;
        clash60 = clear 60 refl;
      }
    where
      clear : (n : ℕ) → clashes n ≡ true → d.protocol ≡ n → ⊥
      clear n is same = no-clash d.protocol n goes.no_clash is same

  pub comes-out : CuttingCommutesTo4 → ComesOut first second d numbered (flat_map (given_to_4 second) numbered)
  comes-out cut4 = record {
    is_read = read-all numbered read-between;
    covers = cut4 second e numbered limits2
        (let range = range4 first second d 0 alike good back addresses in record { source = range.source4; destination = range.destination4 })
        (fits-on (length e.payload) (upper-most first (whole_of (datagram4 d)) unruled short)) six-numbered
        (λ k x within. taken6 law6 second (get_or numbered k x) (read-between k x within) (passes.bytes_between k x within) (passes.taken_between k x within));
    same = datagrams_across first second d (first_id (flat_map (given_to_4 second) numbered)) alike good whole back addresses goes;
  }
    where
      fits-on : (n : ℕ) → n ≤ 65515 → n ≤ 65535
      fits-on n small = omega arith

pub fragments_across : RulesLeave4 → RulesLeave6 → CuttingCommutesTo6 → CuttingCommutesTo4 → FragmentsComeAcross
fragments_across law4 law6 cut6 cut4 first second d entered numbered alike limits limits2 good whole back addresses covers passes =
    comes-out law4 law6 cut6 first second d entered numbered alike limits limits2 good whole back addresses covers passes cut4
