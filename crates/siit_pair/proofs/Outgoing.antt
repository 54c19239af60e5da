-- What comes out behind two devices is read as it is written.
use Rattle.std.proofs.Common.{◌≡◌, ℕ, ◌<◌, ◌≤◌, List, [], ◌∷◌, length, map, get_or, All, flat_map, Bool, true, false, ◌==◌, Option, Some, ◌∙◌, ap, sym, subst, refl, arith, eq-eqb, true≢false}
use Rattle.std.proofs.lemmas.Bool.{and_from, and_parts, cond_both, cond-true, eqb-true}
use Rattle.std.proofs.lemmas.List.Elements.{All-cons, All-head, All-nil, All-tail}
use Rattle.siit_model.specs.Bytes.{field8}
use Rattle.siit_model.specs.Fragments.{Common, Datagram, Fragment, datagram4, fragment6, fragment_by, fragment_if, is_whole, whole_of}
use Rattle.siit_model.specs.Ipv4.{Ipv4Packet, IsGoodIpv4, ipv4_bytes, ipv4_fields, ipv4_of, is_whole4}
use Rattle.siit_fragments.specs.Covers.{Covers4, Covers6, IsFragmentOf}
use Rattle.siit_fragments.proofs.Lists.{All-flat_map}
use Rattle.siit_icmp.specs.Errors.{is_error_kind4, is_error_kind6}
use Rattle.siit_icmp.specs.Icmp.{is_echo_kind4}
use Rattle.siit_v4to6.specs.To6.{next_header_of}
use Rattle.siit_device.specs.Shapes.{least_upper}
use Rattle.siit_roles.specs.Limits.{IsWithinLimits}
use Rattle.siit_roles.specs.declared.settings.Settings.{Settings}
use Rattle.siit_device.specs.Arrival6.{is_error6}
use Rattle.siit_device.specs.Forward.{error_to_6, is_error_fragment4}
use Rattle.siit_arrival4.specs.Unruled.{IsUnruled, RulesLeave4}
use Rattle.siit_arrival6.specs.Unruled.{RulesLeave6}
use Rattle.siit_cutting.proofs.Lists.{whole-data}
use Rattle.siit_cutting.specs.Laws.{CuttingCommutesTo6, HasAddresses6, Numbered, given_to_4}
use Rattle.siit_pair.specs.Across.{between}
use Rattle.siit_pair.specs.Laws.{AreReversible, GoesAcross, PacketsBehindAreRead, PassesBoth}
use Rattle.siit_pair.proofs.Conditions4.{HasUpper4, has-upper4}
use Rattle.siit_pair.proofs.Behind.{IsReadBack, behind-read, read-all_back}
use Rattle.siit_pair.proofs.Datagrams.{is-error, mapped-back}
use Rattle.siit_pair.proofs.Echoes.{echo-between}
use Rattle.siit_pair.proofs.Gathered.{Facts6}
use Rattle.siit_pair.proofs.Payloads.{range4}
use Rattle.siit_pair.proofs.Taken.{taken6}
use Rattle.siit_pair.proofs.Written.{translated-most, upper-most}
use Rattle.siit_pair.proofs.Fragments.{facts6, goes, read-between, six-numbered, unruled}

-- each fragment that is read in packets that cover a datagram is one of the datagram's
each-of : (e : Datagram) (id : ℕ) (xs : List Numbered) (fragments : List Fragment) → map fragment6 (map (λ (x : Numbered). x.0) xs) ≡ map (λ f. Some f) fragments
    → All (IsFragmentOf e id) fragments → All (λ (x : Numbered). (f : Fragment) → fragment6 x.0 ≡ Some f → IsFragmentOf e id f) xs
each-of e id [] fragments is parts = All-nil (λ (x : Numbered). (f : Fragment) → fragment6 x.0 ≡ Some f → IsFragmentOf e id f)
each-of e id (x ∷ xs) [] is parts = cc
each-of e id (x ∷ xs) (f ∷ fragments) is parts =
    let first : fragment6 x.0 ≡ Some f = cc in
    let rest : map fragment6 (map (λ (y : Numbered). y.0) xs) ≡ map (λ g. Some g) fragments = cc in
    All-cons (λ (y : Numbered). (g : Fragment) → fragment6 y.0 ≡ Some g → IsFragmentOf e id g) x xs
    (λ g read. let same : f ≡ g = inner f g (fragment6 x.0) first read in subst (IsFragmentOf e id) same (All-head (IsFragmentOf e id) f fragments parts))
    (each-of e id xs fragments rest (All-tail (IsFragmentOf e id) f fragments parts))
  where
    inner : (f g : Fragment) (o : Option Fragment) → o ≡ Some f → o ≡ Some g → f ≡ g
    inner f g o one two = cc

from-icmp : (protocol : ℕ) → (protocol ≡ 58 → ⊥) → next_header_of protocol ≡ 58 → protocol ≡ 1
from-icmp protocol other =
    cond_both (protocol == 1) 58 protocol (λ n. n ≡ 58 → protocol ≡ 1) (λ one _. eqb-true protocol 1 one) (λ _ is. absurd (other is))

module _ (law4 : RulesLeave4) (law6 : RulesLeave6) (cut6 : CuttingCommutesTo6)
    (first second : Settings) (d : Ipv4Packet) (entered : List (List ℕ)) (numbered : List Numbered) (alike : first.mapping ≡ second.mapping)
    (limits : IsWithinLimits first) (limits2 : IsWithinLimits second) (good : IsGoodIpv4 d) (whole : is_whole4 d ≡ true)
    (back : AreReversible first.mapping d) (addresses : HasAddresses6 first (datagram4 d).common)
    (covers : Covers4 d (map ipv4_fields entered)) (passes : PassesBoth first second entered numbered) where
  abbrev e : Datagram
  e = between first d

  gone : GoesAcross first second d
  gone = goes law4 law6 cut6 first second d entered numbered alike limits limits2 good whole back addresses covers passes

  joined : Covers6 e (map (λ x. x.0) numbered)
  joined = six-numbered law4 law6 cut6 first second d entered numbered alike limits limits2 good whole back addresses covers passes

  known : All (Facts6 second) numbered
  known = facts6 law4 law6 cut6 first second d entered numbered alike limits limits2 good whole back addresses covers passes

  left-of : IsUnruled (whole_of (datagram4 d))
  left-of = unruled law4 law6 cut6 first second d entered numbered alike limits limits2 good whole back addresses covers passes

  short-d : length d.payload ≤ 65515
  short-d = let fits = good.fits in omega arith

  -- an error between the devices is one that the first translated
  error-short : is_error6 (whole_of e) ≡ true → length e.payload ≤ 2351
  error-short error =
      let parts = and_parts (next_header_of d.protocol == 58) _ error in
      let icmp : d.protocol ≡ 1 = from-icmp d.protocol left-of.clash58 (eqb-true (next_header_of d.protocol) 58 parts.0) in
      let upper : HasUpper4 first d = has-upper4 first d (eqb-true d.offset 0 (and_parts (d.offset == 0) (d.mf == 0) whole).0) gone.upper in
      let found = upper.kind icmp in
      let long : 8 ≤ length d.payload = subst (λ n. least_upper 1 n ≤ length d.payload) icmp upper.long in
      by-test (is_error_kind4 (field8 d.payload 0)) refl
      (λ kind.
      subst (λ l. length l ≤ 2351)
      (sym (cond-true (is_error_fragment4 (whole_of (datagram4 d))) (error_to_6 first (datagram4 d).common d.payload) _
      (and_from (d.protocol == 1) _ (eq-eqb d.protocol 1 icmp) (and_from (is_whole (whole_of (datagram4 d))) _ refl kind))))
      (translated-most first (datagram4 d).common d.payload found.kind found.is))
      (λ no_kind.
      by-test (is_echo_kind4 (field8 d.payload 0)) refl
      (λ echo. absurd (true≢false (sym parts.1 ∙ echo-between first second d 0 icmp good.payload_bytes long echo)))
      (λ no_echo. absurd (true≢false (sym (is-error (field8 d.payload 0) (field8 d.payload 1) found.kind found.is no_echo) ∙ no_kind))))
    where
      by-test : {X : Type 0} (b : Bool) {c : Bool} → c ≡ b → (c ≡ true → X) → (c ≡ false → X) → X
      by-test true is f g = f is
      by-test false is f g = g is

  -- and so is a fragment that is one
  short-of : (id : ℕ) (f : Fragment) → IsFragmentOf e id f → is_error6 f ≡ true → length f.bytes ≤ 2351
  short-of id f of error =
      let one : is_whole f ≡ true = (and_parts (is_whole f) _ (and_parts (f.common.protocol == 58) _ error).1).0 in
      let held : f.bytes ≡ e.payload = whole-data e id f one of in
      let kind : is_error_kind6 (field8 f.bytes 0) ≡ true = (and_parts (is_whole f) _ (and_parts (f.common.protocol == 58) _ error).1).1 in
      let all : is_error6 (whole_of e) ≡ true =
      and_from (e.common.protocol == 58) _ (ap (λ (c : Common). c.protocol == 58) (sym of.shares) ∙ (and_parts (f.common.protocol == 58) _ error).0)
      (ap (λ l. is_error_kind6 (field8 l 0)) (sym held) ∙ kind) in
      subst (λ l. length l ≤ 2351) (sym held) (error-short all)

  pub out-read : map ipv4_of (map ipv4_bytes (flat_map (given_to_4 second) numbered)) ≡ map (λ p. Some p) (flat_map (given_to_4 second) numbered)
  out-read =
      let range = range4 first second d 0 alike good back addresses in
      let each = each-of e joined.covers.id numbered joined.fragments joined.walked joined.covers.parts in
      let mtu = limits2.mtu4 in
      read-all_back (flat_map (given_to_4 second) numbered)
      (All-flat_map IsReadBack (given_to_4 second) numbered
      (λ k x within.
      let y : Numbered = get_or numbered k x in
      let fact : Facts6 second y = known k x within in
      let took = taken6 law6 second y
      (read-between law4 law6 cut6 first second d entered numbered alike limits limits2 good whole back addresses covers passes k x within)
      (passes.bytes_between k x within) (passes.taken_between k x within) in
      let read : fragment6 y.0 ≡ Some (fragment_by y.0 fact.walked) = ap (fragment_if y.0) fact.walk in
      let same : took.fragment ≡ fragment_by y.0 fact.walked = inner took.fragment (fragment_by y.0 fact.walked) (fragment6 y.0) took.read read in
      behind-read second e joined.covers.id (mapped-back first second alike d.source back.source) range.source4 range.destination4
      (upper-most first (whole_of (datagram4 d)) left-of short-d) (short-of joined.covers.id) y fact.walked fact.walk mtu (each k x within (fragment_by y.0 fact.walked) read)
      (subst (λ (f : Fragment). f.offset < 8192) same took.unruled.offset)))
    where
      inner : (f g : Fragment) (o : Option Fragment) → o ≡ Some f → o ≡ Some g → f ≡ g
      inner f g o one two = cc

pub packets_behind_read : RulesLeave4 → RulesLeave6 → CuttingCommutesTo6 → PacketsBehindAreRead
packets_behind_read law4 law6 cut6 first second d entered numbered alike limits limits2 good whole back addresses covers passes =
    out-read law4 law6 cut6 first second d entered numbered alike limits limits2 good whole back addresses covers passes
