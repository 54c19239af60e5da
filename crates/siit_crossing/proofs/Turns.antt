-- A packet for an address that maps back isn't turned.
use Rattle.std.proofs.Common.{◌≡◌, ℕ, ◌^◌, ◌<◌, [], ◌∷◌, All, Bool, true, false, ◌&&◌, if◌then◌else◌, None, refl, ap, sym, subst, ◌∙◌}
use Rattle.std.proofs.lemmas.List.Elements.{All-cons, All-map, All-nil, All-weaker}
use Rattle.siit_checksum.proofs.Digits.{sixteen-read}
use Rattle.siit_model.specs.Fragments.{Fragment, fragment_packet6}
use Rattle.siit_model.specs.Ipv4.{Ipv4Packet, ipv4_fields}
use Rattle.siit_model.specs.Ipv6.{Ipv6Packet}
use Rattle.siit_fragments.specs.Pieces.{blocks_of, piece_of}
use Rattle.siit_eamt.specs.Faults.{table_fault}
use Rattle.siit_map.specs.Mapping.{entries_of, ipv6_for}
use Rattle.siit_map.specs.Reversible.{IsReversible}
use Rattle.siit_hairpin.specs.Turn.{turn_of}
use Rattle.siit_hairpin.specs.declared.hairpin.TurnAnswer.{TurnAnswer}
use Rattle.siit_hairpin.specs.declared.hairpin.TurnAnswer.TheVariants.{Not}
use Rattle.siit_hairpin.proofs.TurnLaws.{translated_pass}
use Rattle.siit_roles.specs.declared.settings.Settings.{Settings}
use Rattle.siit_device.specs.Addresses.{address_of, to6}
use Rattle.siit_device.specs.Arrival6.{is_pair, source_standing, turns_back}
use Rattle.siit_device.specs.Forward.{is_cut6, packets_to_6, pieces6, translated6, whole6}
use Rattle.siit_model.specs.Fragments.{fragment4}
use Rattle.siit_crossing.specs.Across.{IsNotTurned, read_again}
use Rattle.siit_crossing.specs.Laws.{NoneTurnsInPairs}

-- all packets that a device makes of one go to the same address
goes-there : (settings : Settings) (packet : Ipv4Packet) (cut : Bool)
    → All (λ (q : Ipv6Packet). q.destination ≡ to6 settings packet.destination) (if cut then pieces6 settings packet else whole6 settings packet ∷ [])
goes-there settings packet true =
    All-map (λ (q : Ipv6Packet). q.destination ≡ to6 settings packet.destination) fragment_packet6 _
    (All-map (λ (f : Fragment). f.common.destination ≡ to6 settings packet.destination)
    (piece_of (blocks_of 48 settings.lowest) (translated6 settings (fragment4 packet))) _ (λ k place within. refl))
goes-there settings packet false =
    All-cons (λ (q : Ipv6Packet). q.destination ≡ to6 settings packet.destination) (whole6 settings packet) [] refl
    (All-nil (λ (q : Ipv6Packet). q.destination ≡ to6 settings packet.destination))

-- where turning is off as well
not-pair : (b : Bool) (answer : TurnAnswer) → answer ≡ Not → is_pair (if b then answer else Not) ≡ false
not-pair true answer is = ap is_pair is
not-pair false answer is = refl

-- the address that is read again is the one that was written
stays : (second : Settings) (destination4 : ℕ) (back : IsReversible second.mapping destination4) (q : Ipv6Packet) → table_fault (entries_of second.mapping) ≡ None
    → q.destination ≡ back.address → back.address < 2 ^ 128 → IsNotTurned second (read_again q)
stays second destination4 back q accepted there room walked walk =
    let source4 : ℕ = source_standing second (record { packet = read_again q; walked = walked }) in
    let read : (read_again q).destination ≡ back.address = sixteen-read q.destination (subst (λ x. x < 2 ^ 128) (sym there) room) ∙ there in
    not-pair (second.hairpin && turns_back second.role) (turn_of second.mapping source4 (read_again q).destination)
    (ap (λ x. turn_of second.mapping source4 x) read ∙ translated_pass second.mapping accepted destination4 back source4)

pub none_turns_in_pairs : NoneTurnsInPairs
none_turns_in_pairs first second bytes same accepted back room =
    let packet : Ipv4Packet = ipv4_fields bytes in
    let address : to6 first packet.destination ≡ back.address =
    ap (λ mapping. address_of (ipv6_for mapping packet.destination)) same ∙ ap address_of back.forth in
    All-weaker (λ (q : Ipv6Packet). q.destination ≡ to6 first packet.destination) (λ q. IsNotTurned second (read_again q))
    (λ q there. stays second packet.destination back q accepted (there ∙ address) (subst (λ x. x < 2 ^ 128) address room))
    (packets_to_6 first packet) (goes-there first packet (is_cut6 first packet))
