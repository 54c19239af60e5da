-- Whether a datagram came out of a pair, by its two devices.
use Rattle.std.proofs.Common.{◌≡◌, ℕ, List, [], ◌∷◌, get_or, Bool, true, false, ◌||◌, ap, ◌∙◌, sym}
use Rattle.std.specs.Prelude.{IsTrue}
use Rattle.siit_model.specs.Ipv4.{Ipv4Packet, ipv4_fields}
use Rattle.siit_roles.specs.Chain.{Chain}
use Rattle.siit_roles.specs.declared.settings.Settings.{Settings}
use Rattle.siit_pair.specs.Pairs.{IsPair}
use Rattle.siit_pair.specs.Same.{IsSame, is_same_from, is_same_from_an_end, is_whole_packet}

-- from the first end that it is tried from
pub from-left : (left right : Settings) (before after : Ipv4Packet) (result : Bool) → result ≡ is_same_from left right before after → result ≡ true
    → result ≡ is_same_from_an_end left right before after
from-left left right before after result is is_true =
    let other : Bool = is_same_from right left before after in
    is_true ∙ sym (ap (λ b. b || other) (sym is ∙ is_true))

-- from the other one
pub from-right : (left right : Settings) (before after : Ipv4Packet) (tried result : Bool) → tried ≡ is_same_from left right before after → tried ≡ false
    → result ≡ is_same_from right left before after → result ≡ is_same_from_an_end left right before after
from-right left right before after tried result is_tried is_false is =
    let other : Bool = is_same_from right left before after in
    is ∙ sym (ap (λ b. b || other) (sym is_tried ∙ is_false))

pub same-decided : (chain : Chain) (left right : Settings) (before after : List ℕ) (result : Bool) → IsPair chain → chain.devices ≡ left ∷ right ∷ []
    → is_whole_packet before ≡ true → is_whole_packet after ≡ true
    → result ≡ is_same_from_an_end left right (ipv4_fields before) (ipv4_fields after)
    → (IsTrue result → IsSame chain before after) × (IsSame chain before after → IsTrue result)
same-decided chain left right before after result pair devices whole_before whole_after is =
    let old : Ipv4Packet = ipv4_fields before in
    let new : Ipv4Packet = ipv4_fields after in
    let tested : List Settings → Bool = λ l. is_same_from_an_end (get_or l 0 left) (get_or l 1 left) old new in
    let ends : (p : IsPair chain) → result ≡ is_same_from_an_end p.border p.edge old new = λ p. is ∙ ap tested (sym devices ∙ p.devices) in (
      λ holds. record {
        pair = pair;
        before_is_whole = whole_before;
        after_is_whole = whole_after;
        from_an_end = sym (ends pair) ∙ holds;
      },
      λ (same : IsSame chain before after). ends same.pair ∙ same.from_an_end,
    )
