-- A packet without the bytes of the link behind it: all that is known of it stays.
use Rattle.std.proofs.Common.{◌≡◌, ℕ, ◌+◌, ◌-◌, ◌*◌, ◌%◌, ◌≤◌, ◌<◌, List, length, take, drop, map, true, false, Option, Some, None, refl, ap, sym, subst, ◌∙◌, arith}
use Rattle.std.proofs.lemmas.List.{drop-take, take-take, get_or-take, length-take-le}
use Rattle.siit_model.specs.Bytes.{part, field8, field16, field32}
use Rattle.siit_model.specs.Ipv4.{ipv4_fields, header_length_in, total_length_in}
use Rattle.siit_model.specs.Ipv6.{ipv6_bytes}
use Rattle.siit_fragments.specs.declared.cut.CutPlan.{CutPlan}
use Rattle.siit_roles.specs.declared.settings.Settings.{Settings}
use Rattle.siit_chain.specs.Verdicts.{IsCutInto}
use Rattle.siit_device.specs.Arrival4.{is_misshapen4}
use Rattle.siit_device.specs.Forward.{is_cut6, pieces6, whole6}
use Rattle.siit_arrival4.specs.Arrived.{AreAddresses4, HasArrived4, HasUpper4, IsMapped4}
use Rattle.siit_arrival4.specs.declared.arrived.Arrived4.{Arrived4}
use Rattle.siit_departure6.specs.Departed.{IsSent6}

part-take : (bytes : List ℕ) (whole place n : ℕ) → place + n ≤ whole → part (take whole bytes) place n ≡ part bytes place n
part-take bytes whole place n fits =
    let left : ℕ = whole - place in
    let e : place + left ≡ whole = omega arith in
    ap (λ k. take n (drop place (take k bytes))) (sym e) ∙ ap (take n) (drop-take place left bytes) ∙ take-take n left (drop place bytes) (omega arith)

field8-take : (bytes : List ℕ) (whole place : ℕ) → place < whole → field8 (take whole bytes) place ≡ field8 bytes place
field8-take bytes whole place fits = get_or-take whole bytes place 0 fits

field16-take : (bytes : List ℕ) (whole place : ℕ) → place + 1 < whole → field16 (take whole bytes) place ≡ field16 bytes place
field16-take bytes whole place fits = cc (field8-take bytes whole place (omega arith), field8-take bytes whole (place + 1) fits)

field32-take : (bytes : List ℕ) (whole place : ℕ) → place + 3 < whole → field32 (take whole bytes) place ≡ field32 bytes place
field32-take bytes whole place fits = cc (field16-take bytes whole place (omega arith), field16-take bytes whole (place + 2) (omega arith))

-- the fields of a packet, by its first bytes
fields-take : (bytes : List ℕ) (whole : ℕ) → 20 ≤ header_length_in bytes → header_length_in bytes ≤ whole → whole ≡ total_length_in bytes
    → ipv4_fields (take whole bytes) ≡ ipv4_fields bytes
fields-take bytes whole least ordered is_whole =
    let header : ℕ = header_length_in bytes in
    cc (
      field8-take bytes whole 0 (omega arith),
      field8-take bytes whole 1 (omega arith),
      field16-take bytes whole 2 (omega arith),
      field16-take bytes whole 4 (omega arith),
      field16-take bytes whole 6 (omega arith),
      field8-take bytes whole 8 (omega arith),
      field8-take bytes whole 9 (omega arith),
      field32-take bytes whole 12 (omega arith),
      field32-take bytes whole 16 (omega arith),
      part-take bytes whole 20 (header - 20) (omega arith),
      part-take bytes whole header (total_length_in bytes - header) (omega arith),
    )

same-sent : (settings : Settings) (bytes cut new : List ℕ) (plan : Option CutPlan) → ipv4_fields cut ≡ ipv4_fields bytes
    → IsSent6 settings cut plan new → IsSent6 settings bytes plan new
same-sent settings bytes cut new None same is =
    subst (λ p. (is_cut6 settings p ≡ false) × (new ≡ ipv6_bytes (whole6 settings p))) same is
same-sent settings bytes cut new (Some plan) same is =
    subst (λ p. (is_cut6 settings p ≡ true) × IsCutInto plan new (map ipv6_bytes (pieces6 settings p))) same is

-- what is known of the packet that is cut off from the bytes behind it
pub record IsAlone (settings : Settings) (bytes cut : List ℕ) (arrived : Arrived4) : Type 0 where
  pub has : HasArrived4 settings cut arrived
  pub no_padding : length cut ≡ total_length_in cut
  pub sent : (plan : Option CutPlan) (new : List ℕ) → IsSent6 settings cut plan new → IsSent6 settings bytes plan new

module _ (settings : Settings) (bytes : List ℕ) (arrived : Arrived4) where
  taken : HasArrived4 settings bytes arrived → IsAlone settings bytes (take (total_length_in bytes) bytes) arrived
  taken has =
      let whole : ℕ = total_length_in bytes in
      let cut : List ℕ = take whole bytes in
      let least : 20 ≤ header_length_in bytes = has.lengths.header in
      let ordered : header_length_in bytes ≤ whole = has.lengths.total in
      let inside : whole ≤ length bytes = has.lengths.fits in
      let fields : ipv4_fields cut ≡ ipv4_fields bytes = fields-take bytes whole least ordered refl in
      let header : header_length_in cut ≡ header_length_in bytes = ap (λ b. b % 16 * 4) (field8-take bytes whole 0 (omega arith)) in
      let total : total_length_in cut ≡ whole = field16-take bytes whole 2 (omega arith) in
      let size : length cut ≡ whole = length-take-le whole bytes inside in
      record {
        has = record {
          lengths = record { header = omega (arith, header, least); total = omega (arith, header, total, ordered); fits = omega (arith, total, size) };
          header_len = has.header_len ∙ sym header;
          total = has.total ∙ sym total;
          alive = subst (λ p. 2 ≤ p.ttl) (sym fields) has.alive;
          shape = subst (λ p. is_misshapen4 p ≡ false) (sym fields) has.shape;
          protocol = has.protocol ∙ sym (ap (λ p. p.protocol) fields);
          old = subst (λ p. AreAddresses4 p.source p.destination arrived.old) (sym fields) has.old;
          new = subst (λ p. IsMapped4 settings p arrived.new) (sym fields) has.new;
          upper = subst (λ p. HasUpper4 settings p arrived.upper) (sym fields) has.upper;
        };
        no_padding = size ∙ sym total;
        sent = λ plan new is. same-sent settings bytes cut new plan fields is;
      }

  pub alone : (cut : List ℕ) (n : ℕ) → HasArrived4 settings bytes arrived → n ≡ arrived.total → cut ≡ take n bytes → IsAlone settings bytes cut arrived
  alone cut n has is_n is_cut =
      subst (λ b. IsAlone settings bytes b arrived) (sym (is_cut ∙ ap (λ k. take k bytes) (is_n ∙ has.total))) (taken has)
