-- A datagram's records cross both devices of a pair, and what leaves joins to what the pair makes of it.
use Rattle.std.proofs.Common.{◌≡◌, ℕ, ◌^◌, ◌<◌, List, [], ◌∷◌, map, Some, None, Ok, ◌∙◌, ap, sym, subst, refl}
use Rattle.std.specs.List.{All, flat_map}
use Rattle.std.proofs.lemmas.List.Elements.{All-head, All-tail}
use Rattle.std.proofs.lemmas.List.Folds.{flat_map-map}
use Rattle.std.proofs.lemmas.Simd.{map-map}
use Rattle.siit_model.specs.Fragments.{datagram4}
use Rattle.siit_model.specs.Ipv4.{Ipv4Packet, ipv4_bytes, ipv4_fields, ipv4_of}
use Rattle.siit_addr.specs.declared.addr.Prefix6.{Prefix6}
use Rattle.siit_rules.specs.declared.rule.Family.TheVariants.{Four}
use Rattle.siit_capture.specs.Captures.{Records}
use Rattle.siit_eamt.specs.declared.entry.Eam.{Eam}
use Rattle.siit_eamt.specs.Faults.{table_fault}
use Rattle.siit_fragments.specs.Covers.{Covers4}
use Rattle.siit_map.specs.Mapping.{Mapping, entries_of, ipv6_for, prefix_in, table}
use Rattle.siit_map.specs.Reversible.{IsReversible}
use Rattle.siit_roles.specs.Chain.{Chain}
use Rattle.siit_roles.specs.Limits.{IsWithinLimits}
use Rattle.siit_roles.specs.declared.role.Role.TheVariants.{Border, Edge}
use Rattle.siit_roles.specs.declared.settings.Settings.{Settings}
use Rattle.siit_chain.specs.Log.{Entry}
use Rattle.siit_chain.specs.declared.origin.End.{End}
use Rattle.siit_chain.specs.declared.origin.End.TheVariants.{Left, Right}
use Rattle.siit_run.specs.Runs.{finished, run_of}
use Rattle.siit_network.specs.Networks.{network}
use Rattle.siit_config.specs.Config.{config_of}
use Rattle.siit_config.specs.Laws.{AcceptedChainsAreGood, HasAcceptedTable, IsAcceptedDevice, IsAcceptedTable, IsMappingFor}
use Rattle.siit_device.specs.Addresses.{address_of, to6}
use Rattle.siit_cutting.specs.Laws.{HasAddresses6, given_to_4}
use Rattle.siit_crossing.specs.Across.{GoesTo6, IsPassage, Passage, RecordsCrossBoth, all_between, all_entering, read_again, two_devices}
use Rattle.siit_crossing.specs.Carrying.{Captured, packet_entering}
use Rattle.siit_crossing.specs.Laws.{NoneTurnsInPairs, NoneTurnsOf, UnnamedRecordsCrossBoth}
use Rattle.siit_pair.specs.Laws.{AreReversible, FragmentsComeAcross, PacketsBehindAreRead, PassesBoth}
use Rattle.siit_pair.specs.Pairs.{IsPair}
use Rattle.siit_delivery.specs.Deliveries.{Delivers, IsDelivered, IsSentAs}
use Rattle.siit_delivery.specs.Laws.{PairsDeliver}
use Rattle.siit_delivery.proofs.Ranges.{mapped_small}
use Rattle.siit_delivery.proofs.Sendings.{destinations, one_destination, same_maps, same_somes}

-- two devices with one accepted table, in either order
pub record ShareTable (first second : Settings) : Type 0 where
  pub entries : List Eam
  pub prefix : Prefix6
  pub first_is : first.mapping ≡ table entries prefix
  pub second_is : second.mapping ≡ table entries prefix
  pub accepted : IsAcceptedTable entries prefix
  pub first_limits : IsWithinLimits first
  pub second_limits : IsWithinLimits second

pub small_of : (first second : Settings) → ShareTable first second → (a : ℕ) → to6 first a < 2 ^ 128
small_of first second one a =
    subst (λ (m : Mapping). address_of (ipv6_for m a) < 2 ^ 128) (sym one.first_is) (mapped_small one.entries one.prefix one.accepted a)

pub alike : (first second : Settings) → ShareTable first second → first.mapping ≡ second.mapping
alike first second one = one.first_is ∙ sym one.second_is

-- WHAT ENTERS

-- the bytes that enter are those of the records that cross
entered_is : (coming : ℕ → ℕ → ℕ) (end : End) (first second : Settings) (passages : List Passage) (records : List Captured) (entered : List (List ℕ))
    → map (λ passage. passage.captured) passages ≡ records → All (IsPassage coming end first second) passages
    → map (λ r. packet_entering Four r.found) records ≡ map (λ bytes. Some bytes) entered → entered ≡ all_entering passages
entered_is coming end first second passages records entered records_are each enter =
    let over = sym (map-map (λ (r : Captured). packet_entering Four r.found) (λ (p : Passage). p.captured) passages)
    ∙ ap (map (λ (r : Captured). packet_entering Four r.found)) records_are ∙ enter in
    let here = same_maps (λ (p : Passage). packet_entering Four p.captured.found) (λ (p : Passage). Some p.bytes) passages (λ k p below. (each k p below).enters) in
    let somes = map-map (λ (bytes : List ℕ). Some bytes) (λ (p : Passage). p.bytes) passages in
    same_somes entered (all_entering passages) (sym over ∙ here ∙ sym somes)

-- and they are read as the packets that join to the datagram
packets_are : (first : Settings) (entered : List (List ℕ)) (packets : List Ipv4Packet) → All (GoesTo6 first) entered
    → map ipv4_of entered ≡ map (λ packet. Some packet) packets → map ipv4_fields entered ≡ packets
packets_are first entered packets goes are_read =
    let here = same_maps ipv4_of (λ bytes. Some (ipv4_fields bytes)) entered (λ k bytes below. (goes k bytes below).left.is_read) in
    let somes = map-map (λ (p : Ipv4Packet). Some p) ipv4_fields entered in
    same_somes (map ipv4_fields entered) packets (somes ∙ sym here ∙ are_read)

-- WHAT LEAVES

delivered : (coming : ℕ → ℕ → ℕ) (end : End) (first second : Settings) (capture : Records) (records : List Captured) (d : Ipv4Packet) (log : List Entry)
    → FragmentsComeAcross → PacketsBehindAreRead → ShareTable first second → RecordsCrossBoth coming end first second records log
    → IsSentAs capture records d → AreReversible first.mapping d → IsDelivered first second end records d log
delivered coming end first second capture records d log law reading one crosses sent reversible =
    let between = all_between crosses.passages in
    let entered = entered_is coming end first second crosses.passages records sent.entered crosses.records_are crosses.each sent.enter in
    let goes = crosses.first_goes in
    let are_read : map ipv4_of (all_entering crosses.passages) ≡ map (λ packet. Some packet) sent.packets = ap (map ipv4_of) (sym entered) ∙ sent.are_read in
    let packets = packets_are first (all_entering crosses.passages) sent.packets goes are_read in
    let covers : Covers4 d (map ipv4_fields (all_entering crosses.passages)) = subst (Covers4 d) (sym packets) sent.joined in
    let addresses : HasAddresses6 first (datagram4 d).common = record { source = small_of first second one d.source; destination = small_of first second one d.destination } in
    let passes : PassesBoth first second (all_entering crosses.passages) between = record {
      bytes = λ k x below. (goes k x below).small;
      taken = λ k x below. (goes k x below).no_rule;
      given = crosses.sent;
      bytes_between = λ k x below. (crosses.second_goes k x below).small;
      taken_between = λ k x below. (crosses.second_goes k x below).no_rule;
    } in
    let out = law first second d (all_entering crosses.passages) between (alike first second one) one.first_limits one.second_limits
    sent.good sent.whole reversible addresses covers passes in
    let again = reading first second d (all_entering crosses.passages) between (alike first second one) one.first_limits one.second_limits
    sent.good sent.whole reversible addresses covers passes in
    let same = sym (flat_map-map (given_to_4 second) (λ x. (read_again x.0, x.1)) between) ∙ ap (flat_map (given_to_4 second)) out.is_read in
    let far = crosses.far ∙ ap (map ipv4_bytes) same in
    record {
      packets = flat_map (given_to_4 second) between;
      far = far;
      read = ap (map ipv4_of) far ∙ again;
      near = crosses.near;
      joined = out.covers;
      same = out.same;
    }

-- NOTHING TURNS

none_turn : (first second : Settings) (capture : Records) (records : List Captured) (d : Ipv4Packet) → NoneTurnsInPairs → ShareTable first second
    → IsSentAs capture records d → AreReversible first.mapping d → All (NoneTurnsOf first second) records
none_turn first second capture records d law one sent reversible =
    let to = destinations d.destination records sent.entered sent.packets sent.enter sent.are_read (one_destination d sent.packets sent.joined) in
    let accepted : table_fault (entries_of second.mapping) ≡ None = ap (λ (m : Mapping). table_fault (entries_of m)) one.second_is ∙ one.accepted.accepted in
    let back : IsReversible second.mapping d.destination =
    subst (λ (m : Mapping). IsReversible m d.destination) (alike first second one) reversible.destination in
    λ k r below bytes enters.
    let same = to k r below bytes enters in
    law first second bytes (alike first second one) accepted (subst (IsReversible second.mapping) (sym same) back)
    (small_of first second one (ipv4_fields bytes).destination)

-- FROM EITHER END

swapped : (border edge : Settings) → ShareTable border edge → ShareTable edge border
swapped border edge one = record {
  entries = one.entries;
  prefix = one.prefix;
  first_is = one.second_is;
  second_is = one.first_is;
  accepted = one.accepted;
  first_limits = one.second_limits;
  second_limits = one.first_limits;
}

reversible_there : (border edge : Settings) → ShareTable border edge → (d : Ipv4Packet) → AreReversible border.mapping d → AreReversible edge.mapping d
reversible_there border edge one d reversible = subst (λ (m : Mapping). AreReversible m d) (alike border edge one) reversible

both_deliver : (border edge : Settings) (coming : ℕ → ℕ → ℕ) (left right : Records) → UnnamedRecordsCrossBoth → NoneTurnsInPairs → FragmentsComeAcross → PacketsBehindAreRead
    → ShareTable border edge → (run_of (two_devices border edge) coming left right).course ≡ finished
    → Delivers border edge left right (run_of (two_devices border edge) coming left right).trace.log
both_deliver border edge coming left right crossing turning law reading one done Left records d sent reversible unnamed =
    delivered coming Left border edge left records d (run_of (two_devices border edge) coming left right).trace.log law reading one
    (crossing border edge coming left right done Left records sent.captured unnamed (none_turn border edge left records d turning one sent reversible))
    sent reversible
both_deliver border edge coming left right crossing turning law reading one done Right records d sent reversible unnamed =
    let other = swapped border edge one in
    let back = reversible_there border edge one d reversible in
    delivered coming Right edge border right records d (run_of (two_devices border edge) coming left right).trace.log law reading other
    (crossing border edge coming left right done Right records sent.captured unnamed (none_turn edge border right records d turning other sent back))
    sent back

-- AN ACCEPTED PAIR

-- a device with a role that has a table
border_table : (settings : Settings) → settings.role ≡ Border → IsAcceptedDevice settings → HasAcceptedTable settings.mapping
border_table settings role accepted = subst (λ r. IsMappingFor r settings.mapping) role accepted.mapping

edge_table : (settings : Settings) → settings.role ≡ Edge → IsAcceptedDevice settings → HasAcceptedTable settings.mapping
edge_table settings role accepted = subst (λ r. IsMappingFor r settings.mapping) role accepted.mapping

one_table : AcceptedChainsAreGood → (bytes : List ℕ) (chain : Chain) → config_of bytes ≡ Ok chain → (pair : IsPair chain) → ShareTable pair.border pair.edge
one_table law bytes chain config pair =
    let each = subst (All IsAcceptedDevice) pair.devices (law bytes chain config).each in
    let border = All-head IsAcceptedDevice pair.border (pair.edge ∷ []) each in
    let edge = All-head IsAcceptedDevice pair.edge [] (All-tail IsAcceptedDevice pair.border (pair.edge ∷ []) each) in
    let first = border_table pair.border pair.border_role border in
    let second = edge_table pair.edge pair.edge_role edge in
    let entries : second.entries ≡ first.entries = sym (ap entries_of second.is) ∙ sym pair.table.entries ∙ ap entries_of first.is in
    let prefix : second.prefix ≡ first.prefix = sym (ap prefix_in second.is) ∙ sym pair.table.prefixes ∙ ap prefix_in first.is in
    record {
      entries = first.entries;
      prefix = first.prefix;
      first_is = first.is;
      second_is = second.is ∙ ap (λ e. table e second.prefix) entries ∙ ap (table first.entries) prefix;
      accepted = first.accepted;
      first_limits = border.limits;
      second_limits = edge.limits;
    }

network_is : (chain : Chain) (pair : IsPair chain) → network chain ≡ two_devices pair.border pair.edge
network_is chain pair = rw (pair.left, pair.devices) refl

pub pairs_do_deliver : AcceptedChainsAreGood → UnnamedRecordsCrossBoth → NoneTurnsInPairs → FragmentsComeAcross → PacketsBehindAreRead → PairsDeliver
pairs_do_deliver accepted crossing turning law reading bytes chain config pair coming left right done =
    let is = network_is chain pair in
    let there = subst (λ n. (run_of n coming left right).course ≡ finished) is done in
    subst (λ n. Delivers pair.border pair.edge left right (run_of n coming left right).trace.log) (sym is)
    (both_deliver pair.border pair.edge coming left right crossing turning law reading (one_table accepted bytes chain config pair) there)
