-- The records that a datagram was sent as, their packets' bytes, and the packets that these are read as.
use Rattle.std.proofs.Common.{◌≡◌, ℕ, List, [], ◌∷◌, map, Bool, true, false, if◌then◌else◌, Some, None, ◌∙◌, ap, refl}
use Rattle.std.specs.List.{All}
use Rattle.std.proofs.lemmas.List.Elements.{All-cons, All-nil, All-head, All-tail}
use Rattle.siit_model.specs.Fragments.{fragment4}
use Rattle.siit_model.specs.Ipv4.{Ipv4Packet, ipv4_fields, ipv4_of}
use Rattle.siit_rules.specs.declared.rule.Family.TheVariants.{Four}
use Rattle.siit_fragments.specs.Covers.{Covers4, IsFragmentOf}
use Rattle.siit_fragments.proofs.Lists.{All-from_map}
use Rattle.siit_crossing.specs.Carrying.{Captured, packet_entering}

-- LISTS

pub same_somes : {X : Type 0} (xs ys : List X) → map (λ x. Some x) xs ≡ map (λ y. Some y) ys → xs ≡ ys
same_somes [] [] h = refl
same_somes [] (y ∷ ys) h = absurd (cc)
same_somes (x ∷ xs) [] h = absurd (cc)
same_somes (x ∷ xs) (y ∷ ys) h =
    let head : x ≡ y = cc in
    let tail : map (λ x. Some x) xs ≡ map (λ y. Some y) ys = cc in
    let rest = same_somes xs ys tail in
    cc

pub same_maps : {X Y : Type 0} (f g : X → Y) (xs : List X) → All (λ x. f x ≡ g x) xs → map f xs ≡ map g xs
same_maps f g [] h = refl
same_maps f g (x ∷ xs) h =
    let head = All-head (λ x. f x ≡ g x) x xs h in
    let rest = same_maps f g xs (All-tail (λ x. f x ≡ g x) x xs h) in
    cc

-- PACKETS

kept : (test : Bool) (x y : Ipv4Packet) → (if test then None else Some x) ≡ Some y → x ≡ y
kept true x y h = absurd (cc)
kept false x y h = cc

pub read_is : (bytes : List ℕ) (packet : Ipv4Packet) → ipv4_of bytes ≡ Some packet → ipv4_fields bytes ≡ packet
read_is bytes packet h = kept _ (ipv4_fields bytes) packet h

-- the packets of a cover go to the datagram's destination
pub one_destination : (d : Ipv4Packet) (packets : List Ipv4Packet) → Covers4 d packets → All (λ p. p.destination ≡ d.destination) packets
one_destination d packets covers =
    let each = All-from_map (IsFragmentOf _ covers.id) fragment4 packets covers.parts in
    λ k p below. ap (λ common. common.destination) (each k p below).shares

-- and so does each record's packet
pub destinations : (destination : ℕ) (records : List Captured) (entered : List (List ℕ)) (packets : List Ipv4Packet)
    → map (λ r. packet_entering Four r.found) records ≡ map (λ bytes. Some bytes) entered
    → map ipv4_of entered ≡ map (λ packet. Some packet) packets
    → All (λ p. p.destination ≡ destination) packets
    → All (λ r. (bytes : List ℕ) → packet_entering Four r.found ≡ Some bytes → (ipv4_fields bytes).destination ≡ destination) records
destinations destination [] entered packets enter are_read all = All-nil _
destinations destination (r ∷ records) [] packets enter are_read all = absurd (cc)
destinations destination (r ∷ records) (b ∷ entered) [] enter are_read all = absurd (cc)
destinations destination (r ∷ records) (b ∷ entered) (p ∷ packets) enter are_read all =
    let here : packet_entering Four r.found ≡ Some b = cc in
    let others : map (λ r. packet_entering Four r.found) records ≡ map (λ bytes. Some bytes) entered = cc in
    let is_read : ipv4_of b ≡ Some p = cc in
    let rest : map ipv4_of entered ≡ map (λ packet. Some packet) packets = cc in
    let fields = read_is b p is_read in
    let to = All-head (λ p. p.destination ≡ destination) p packets all in
    All-cons (λ r. (bytes : List ℕ) → packet_entering Four r.found ≡ Some bytes → (ipv4_fields bytes).destination ≡ destination) r records
    (λ bytes e.
    let same : bytes ≡ b = cc in
    ap (λ x. (ipv4_fields x).destination) same ∙ ap (λ x. x.destination) fields ∙ to)
    (destinations destination records entered packets others rest (All-tail (λ p. p.destination ≡ destination) p packets all))
