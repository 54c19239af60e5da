-- Packets, and records of packets, that cross two devices.
use Rattle.std.proofs.Common.{◌≡◌, ℕ, ◌+◌, List, [], ◌∷◌, ◌++◌, length, map, take, zip, flat_map, All, Bool, true, false, if◌then◌else◌, Option, Some, None, refl, ap, sym, subst, ◌∙◌, arith}
use Rattle.std.proofs.lemmas.List.{length-map, map-append}
use Rattle.std.proofs.lemmas.List.Concat.{flat_map-append}
use Rattle.std.proofs.lemmas.List.Folds.{flat_map-map}
use Rattle.std.proofs.lemmas.List.Elements.{All-cons, All-head, All-map, All-nil, All-tail}
use Rattle.siit_model.specs.Ipv4.{ipv4_bytes, ipv4_fields}
use Rattle.siit_model.specs.Ipv6.{Ipv6Packet, ipv6_bytes, ipv6_fields}
use Rattle.siit_rules.specs.declared.rule.Family.TheVariants.{Four, Six}
use Rattle.siit_rules.specs.declared.rule.Rule.TheVariants.{OtherFamily}
use Rattle.siit_capture.specs.LinkPackets.{IpPacket, packet_of}
use Rattle.siit_fragments.proofs.Lists.{All-flat_map, All-from_map}
use Rattle.siit_roles.specs.declared.settings.Settings.{Settings}
use Rattle.siit_chain.specs.Carried.{Chain, carry, carry_captured, entering_at, family_at, fresh, is_family, most_bytes, other_end}
use Rattle.siit_chain.specs.Log.{Entry, drops, drops_in, leaves}
use Rattle.siit_chain.specs.declared.origin.End.{End}
use Rattle.siit_chain.specs.declared.origin.End.TheVariants.{Left, Right}
use Rattle.siit_chain.specs.declared.origin.Origin.{Origin}
use Rattle.siit_run.specs.Runs.{origin_of, run_of}
use Rattle.siit_device.specs.Forward.{packets_to_6}
use Rattle.siit_arrival4.specs.Unruled.{RulesLeave4}
use Rattle.siit_arrival6.specs.Unruled.{RulesLeave6}
use Rattle.siit_cutting.specs.Laws.{Numbered, given_to_4}
use Rattle.siit_cutting.proofs.Lists.{map-flat_map}
use Rattle.siit_engine.specs.Falling.{engine_falls}
use Rattle.siit_engine.specs.Placed.{Placed}
use Rattle.siit_crossing.specs.Across.{GoesTo4, GoesTo6, IsNotTurned, IsPassage, NoneTurns, PacketCrosses, Passage, RecordsCrossBoth, all_between, all_entering, entries_across, last_met, packets_across, read_again, settings_at, two_devices}
use Rattle.siit_crossing.specs.Carrying.{Captured, IsRecordCarried, IsComing, IsStillToCome, entering_of, packet_entering}
use Rattle.siit_crossing.specs.Entries.{IsUnnamed, entries_of_record, entries_of_records, packet_leaving, packets_leaving}
use Rattle.siit_crossing.specs.Laws.{NoneTurnsOf, PacketsCrossBoth, UnnamedRecordsCrossBoth}
use Rattle.siit_crossing.proofs.Crossed.{Crosses, Forwards, crosses, place_first, place_second}
use Rattle.siit_crossing.proofs.Devices.{bytes_to_4, bytes_to_6, sends-to_4, sends-to_6}
use Rattle.siit_crossing.proofs.Runs.{each_record_is_carried}

-- LISTS OF PACKETS WITH NUMBERS

zip-map : {X Y Z : Type 0} (f : X → Y) (xs : List X) (ns : List Z) → zip (map f xs) ns ≡ map (λ p. (f p.0, p.1)) (zip xs ns)
zip-map f [] ns = refl
zip-map f (x ∷ xs) [] = refl
zip-map f (x ∷ xs) (n ∷ ns) = ap (λ l. (f x, n) ∷ l) (zip-map f xs ns)

zip-firsts : {X Y : Type 0} (xs : List X) (ns : List Y) → length ns ≡ length xs → map (λ p. p.0) (zip xs ns) ≡ xs
zip-firsts [] ns size = refl
zip-firsts (x ∷ xs) [] size = absurd (omega arith)
zip-firsts (x ∷ xs) (n ∷ ns) size = ap (λ l. x ∷ l) (zip-firsts xs ns (omega arith))

All-zip_right : {X Y : Type 0} (P : Y → Type 0) (xs : List X) (ns : List Y) → All P ns → All (λ p. P p.1) (zip xs ns)
All-zip_right {X} {Y} P [] ns each = All-nil (λ (p : X × Y). P p.1)
All-zip_right {X} {Y} P (x ∷ xs) [] each = All-nil (λ (p : X × Y). P p.1)
All-zip_right {X} {Y} P (x ∷ xs) (n ∷ ns) each =
    All-cons (λ (p : X × Y). P p.1) (x, n) (zip xs ns) (All-head P n ns each) (All-zip_right P xs ns (All-tail P n ns each))

-- A PACKET

abbrev with_bytes : Numbered → List ℕ × ℕ
with_bytes x = (ipv6_bytes x.0, x.1)

-- the device that a packet meets last, by its way
place-met : (end : End) → place_second (other_end end) + 1 ≡ last_met end
place-met Left = refl
place-met Right = refl

crossed : (coming : ℕ → ℕ → ℕ) (origin : Origin) (end : End) (first second : Settings) (bytes : List ℕ) (log : List Entry)
    → Crosses origin (other_end end) coming (bytes_to_6 first) (bytes_to_4 second) (λ b number. GoesTo6 first b) (λ b number. GoesTo4 second b) bytes log
    → PacketCrosses coming origin end first second bytes log
crossed coming origin end first second bytes log c =
    let packets : List Ipv6Packet = packets_to_6 first (ipv4_fields bytes) in
    let between : List Numbered = zip packets c.numbers in
    let zipped : zip (map ipv6_bytes packets) c.numbers ≡ map with_bytes between = zip-map ipv6_bytes packets c.numbers in
    record {
      between = between;
      crosses = record {
        first_goes = c.first_clean;
        sent = zip-firsts packets c.numbers (c.as_many ∙ length-map packets ipv6_bytes);
        numbers =
            All-zip_right (IsComing coming (last_met end)) packets c.numbers
            (subst (λ device. All (IsComing coming device) c.numbers) (place-met end) c.come);
        second_goes =
            All-from_map (λ (x : List ℕ × ℕ). GoesTo4 second x.0) with_bytes between
            (subst (λ l. All (λ (x : List ℕ × ℕ). GoesTo4 second x.0) l) zipped c.second_clean);
      };
      written =
          c.written
          ∙ ap (map (leaves origin (other_end end)))
          (ap (λ l. flat_map (λ (x : List ℕ × ℕ). bytes_to_4 second x.0 x.1) l) zipped
          ∙ flat_map-map (λ (x : List ℕ × ℕ). bytes_to_4 second x.0 x.1) with_bytes between
          ∙ sym (map-flat_map ipv4_bytes (λ (x : Numbered). given_to_4 second (read_again x.0, x.1)) between));
    }

abbrev Anything : List ℕ → Type 0
Anything bytes = Unit {0}

none-turns : (first second : Settings) (bytes : List ℕ) → NoneTurns first second bytes
    → All (λ b. IsNotTurned second (ipv6_fields b)) (map ipv6_bytes (packets_to_6 first (ipv4_fields bytes)))
none-turns first second bytes none = All-map (λ b. IsNotTurned second (ipv6_fields b)) ipv6_bytes (packets_to_6 first (ipv4_fields bytes)) none

first-at : RulesLeave4 → (left right : Settings) (end : End)
    → Forwards (two_devices left right) (place_first (other_end end)) (other_end end) Anything (λ b number. GoesTo6 (settings_at end left right) b) (bytes_to_6 (settings_at end left right))
first-at leave left right Left = record {
  device = record { settings = left; left = Four };
  stands = refl;
  sends = λ bytes number good. sends-to_6 leave (record { settings = left; left = Four }) Left refl bytes number;
}
first-at leave left right Right = record {
  device = record { settings = right; left = Six };
  stands = refl;
  sends = λ bytes number good. sends-to_6 leave (record { settings = right; left = Six }) Right refl bytes number;
}

second-at : RulesLeave6 → (left right : Settings) (end : End)
    → Forwards (two_devices left right) (place_second (other_end end)) (other_end end) (λ b. IsNotTurned (settings_at (other_end end) left right) (ipv6_fields b))
    (λ b number. GoesTo4 (settings_at (other_end end) left right) b) (bytes_to_4 (settings_at (other_end end) left right))
second-at leave left right Left = record {
  device = record { settings = right; left = Six };
  stands = refl;
  sends = λ bytes number stays. sends-to_4 leave (record { settings = right; left = Six }) Left refl bytes number stays;
}
second-at leave left right Right = record {
  device = record { settings = left; left = Four };
  stands = refl;
  sends = λ bytes number stays. sends-to_4 leave (record { settings = left; left = Four }) Right refl bytes number stays;
}

end-twice : (end : End) → other_end (other_end end) ≡ end
end-twice Left = refl
end-twice Right = refl

pub packets_cross_both : RulesLeave4 → RulesLeave6 → PacketsCrossBoth
packets_cross_both leave4 leave6 left right coming origin end bytes none silent =
    let first : Settings = settings_at end left right in
    let second : Settings = settings_at (other_end end) left right in
    let chain : Chain Placed = two_devices left right in
    crossed coming origin end first second bytes (carry chain origin (fresh coming) (entering_at 2 end bytes)).log
    (subst (λ e. Crosses origin (other_end end) coming (bytes_to_6 first) (bytes_to_4 second) (λ b number. GoesTo6 first b) (λ b number. GoesTo4 second b) bytes
    (carry chain origin (fresh coming) (entering_at 2 e bytes)).log) (end-twice end)
    (crosses chain engine_falls origin (other_end end) refl (λ b. IsNotTurned second (ipv6_fields b)) (λ b number. GoesTo4 second b) (bytes_to_4 second)
    (second-at leave6 left right end) coming Anything (λ b number. GoesTo6 first b) (bytes_to_6 first) bytes (first-at leave4 left right end) tt (none-turns first second bytes none)
    (subst (λ e. drops_in (carry chain origin (fresh coming) (entering_at 2 e bytes)).log ≡ 0) (sym (end-twice end)) silent)))

-- A RECORD

-- a record of which no drop is written has a packet that enters
record Enters {D : Type 0} (chain : Chain D) (origin : Origin) (now : ℕ → ℕ → ℕ) (packet : Option IpPacket) : Type 0 where
  bytes : List ℕ
  enters : entering_of (family_at origin.end chain.left chain.right) packet ≡ Some bytes
  log : (carry_captured chain origin (fresh now) packet).log ≡ (carry chain origin (fresh now) (entering_at (length chain.devices) origin.end bytes)).log

one-not_none : (n : ℕ) → n ≡ 1 → n ≡ 0 → ⊥
one-not_none n one none = omega (arith, one, none)

module _ {D : Type 0} (chain : Chain D) (origin : Origin) (now : ℕ → ℕ → ℕ) where
  enters-by : (captured : IpPacket) (b : Bool) → is_family captured.family (family_at origin.end chain.left chain.right) ≡ b
      → drops_in (carry_captured chain origin (fresh now) (Some captured)).log ≡ 0 → Enters chain origin now (Some captured)
  enters-by captured true is silent = record {
    bytes = take most_bytes captured.bytes;
    enters = ap (λ b. if b then Some (take most_bytes captured.bytes) else None) is;
    log = ap (λ b. (if b then carry chain origin (fresh now) (entering_at (length chain.devices) origin.end (take most_bytes captured.bytes))
        else record { log = drops origin 0 OtherFamily false ∷ []; coming = now }).log) is;
  }
  enters-by captured false is silent =
      absurd (one-not_none _
      (ap (λ b. drops_in (if b then carry chain origin (fresh now) (entering_at (length chain.devices) origin.end (take most_bytes captured.bytes))
      else record { log = drops origin 0 OtherFamily false ∷ []; coming = now }).log) is) silent)

  enters : (packet : Option IpPacket) → drops_in (carry_captured chain origin (fresh now) packet).log ≡ 0 → Enters chain origin now packet
  enters None silent = absurd (one-not_none 1 refl silent)
  enters (Some captured) silent = enters-by captured (is_family captured.family (family_at origin.end chain.left chain.right)) refl silent

four-at : (end : End) → family_at end Four Four ≡ Four
four-at Left = refl
four-at Right = refl

still-coming : (coming now : ℕ → ℕ → ℕ) (device number : ℕ) → IsStillToCome coming now → IsComing now device number → IsComing coming device number
still-coming coming now device number still is = (still.gone device + is.0, sym (still.is device is.0) ∙ is.1)

-- a record that crosses
record RecordCrosses (coming : ℕ → ℕ → ℕ) (end : End) (first second : Settings) (captured : Captured) (log : List Entry) : Type 0 where
  passage : Passage
  captured_is : passage.captured ≡ captured
  is : IsPassage coming end first second passage
  entries : entries_of_record end captured.number log ≡ entries_across end second passage

module _ (cross : PacketsCrossBoth) (left right : Settings) (coming : ℕ → ℕ → ℕ) (end : End) (log : List Entry) where
  abbrev one : Settings
  one = settings_at end left right

  abbrev two : Settings
  two = settings_at (other_end end) left right

  record-crosses : (captured : Captured) → IsRecordCarried (two_devices left right) coming end captured log → IsUnnamed end captured.number log → NoneTurnsOf one two captured
      → RecordCrosses coming end one two captured log
  record-crosses captured c unnamed none =
      let chain : Chain Placed = two_devices left right in
      let origin : Origin = origin_of end captured.number captured.found in
      let packet : Option IpPacket = packet_of captured.found.link captured.found.bytes in
      let silent : drops_in (carry_captured chain origin (fresh c.now) packet).log ≡ 0 = ap drops_in (sym c.entries) ∙ unnamed in
      let entry : Enters chain origin c.now packet = enters chain origin c.now packet silent in
      let is_entering : packet_entering Four captured.found ≡ Some entry.bytes = ap (λ family. entering_of family packet) (sym (four-at end)) ∙ entry.enters in
      let crossing : PacketCrosses c.now origin end one two entry.bytes (carry chain origin (fresh c.now) (entering_at 2 end entry.bytes)).log =
      cross left right c.now origin end entry.bytes (none entry.bytes is_entering) (ap drops_in (sym entry.log) ∙ silent) in
      record {
        passage = record { captured = captured; bytes = entry.bytes; between = crossing.between };
        captured_is = refl;
        is = record {
          enters = is_entering;
          crosses = record {
            first_goes = crossing.crosses.first_goes;
            sent = crossing.crosses.sent;
            numbers = λ k x within. still-coming coming c.now (last_met end) _ c.still (crossing.crosses.numbers k x within);
            second_goes = crossing.crosses.second_goes;
          };
        };
        entries = c.entries ∙ entry.log ∙ crossing.written;
      }

-- RECORDS

-- records that cross, record by record
record Gathered (coming : ℕ → ℕ → ℕ) (end : End) (first second : Settings) (records : List Captured) (log : List Entry) : Type 0 where
  passages : List Passage
  records_are : map (λ passage. passage.captured) passages ≡ records
  each : All (IsPassage coming end first second) passages
  entries : entries_of_records end (map (λ captured. captured.number) records) log ≡ flat_map (entries_across end second) passages

gather : (coming : ℕ → ℕ → ℕ) (end : End) (first second : Settings) (records : List Captured) (log : List Entry)
    → All (λ captured. RecordCrosses coming end first second captured log) records → Gathered coming end first second records log
gather coming end first second [] log each = record { passages = []; records_are = refl; each = All-nil (IsPassage coming end first second); entries = refl }
gather coming end first second (captured ∷ records) log each =
    let P : Captured → Type 0 = λ c. RecordCrosses coming end first second c log in
    let here : RecordCrosses coming end first second captured log = All-head P captured records each in
    let rest : Gathered coming end first second records log = gather coming end first second records log (All-tail P captured records each) in
    record {
      passages = here.passage ∷ rest.passages;
      records_are = λ i. here.captured_is i ∷ rest.records_are i;
      each = All-cons (IsPassage coming end first second) here.passage rest.passages here.is rest.each;
      entries = λ i. here.entries i ++ rest.entries i;
    }

leaving-far : (end : End) (origin : Origin) (packets : List (List ℕ)) → packets_leaving (other_end end) (map (leaves origin (other_end end)) packets) ≡ packets
leaving-far end origin [] = refl
leaving-far Left origin (packet ∷ packets) = ap (λ l. packet ∷ l) (leaving-far Left origin packets)
leaving-far Right origin (packet ∷ packets) = ap (λ l. packet ∷ l) (leaving-far Right origin packets)

leaving-near : (end : End) (origin : Origin) (packets : List (List ℕ)) → packets_leaving end (map (leaves origin (other_end end)) packets) ≡ []
leaving-near end origin [] = refl
leaving-near Left origin (packet ∷ packets) = leaving-near Left origin packets
leaving-near Right origin (packet ∷ packets) = leaving-near Right origin packets

across-append : (second : Settings) (one other : List Numbered) → packets_across second (one ++ other) ≡ packets_across second one ++ packets_across second other
across-append second one other =
    ap (map ipv4_bytes) (flat_map-append (λ (x : Numbered). given_to_4 second (read_again x.0, x.1)) one other)
    ∙ map-append ipv4_bytes (flat_map (λ (x : Numbered). given_to_4 second (read_again x.0, x.1)) one)
    (flat_map (λ (x : Numbered). given_to_4 second (read_again x.0, x.1)) other)

all-far : (end : End) (second : Settings) (passages : List Passage)
    → packets_leaving (other_end end) (flat_map (entries_across end second) passages) ≡ packets_across second (all_between passages)
all-far end second [] = refl
all-far end second (p ∷ passages) =
    flat_map-append (packet_leaving (other_end end)) (entries_across end second p) (flat_map (entries_across end second) passages)
    ∙ (λ i. leaving-far end (origin_of end p.captured.number p.captured.found) (packets_across second p.between) i ++ all-far end second passages i)
    ∙ sym (across-append second p.between (all_between passages))

all-near : (end : End) (second : Settings) (passages : List Passage) → packets_leaving end (flat_map (entries_across end second) passages) ≡ []
all-near end second [] = refl
all-near end second (p ∷ passages) =
    flat_map-append (packet_leaving end) (entries_across end second p) (flat_map (entries_across end second) passages)
    ∙ (λ i. leaving-near end (origin_of end p.captured.number p.captured.found) (packets_across second p.between) i ++ all-near end second passages i)

all-sent : (coming : ℕ → ℕ → ℕ) (end : End) (first second : Settings) (passages : List Passage) → All (IsPassage coming end first second) passages
    → map (λ x. x.0) (all_between passages) ≡ flat_map (packets_to_6 first) (map ipv4_fields (all_entering passages))
all-sent coming end first second [] each = refl
all-sent coming end first second (p ∷ passages) each =
    let here : IsPassage coming end first second p = All-head (IsPassage coming end first second) p passages each in
    map-append (λ (x : Numbered). x.0) p.between (all_between passages)
    ∙ (λ i. here.crosses.sent i ++ all-sent coming end first second passages (All-tail (IsPassage coming end first second) p passages each) i)

joined : (coming : ℕ → ℕ → ℕ) (end : End) (first second : Settings) (records : List Captured) (log : List Entry) → Gathered coming end first second records log
    → RecordsCrossBoth coming end first second records log
joined coming end first second records log g = record {
  passages = g.passages;
  records_are = g.records_are;
  each = g.each;
  entries = g.entries;
  first_goes = All-map (GoesTo6 first) (λ passage. passage.bytes) g.passages (λ k p within. (g.each k p within).crosses.first_goes);
  sent = all-sent coming end first second g.passages g.each;
  numbers = All-flat_map (λ (x : Numbered). IsComing coming (last_met end) x.1) (λ passage. passage.between) g.passages (λ k p within. (g.each k p within).crosses.numbers);
  second_goes = All-flat_map (λ (x : Numbered). GoesTo4 second (ipv6_bytes x.0)) (λ passage. passage.between) g.passages (λ k p within. (g.each k p within).crosses.second_goes);
  far = ap (packets_leaving (other_end end)) g.entries ∙ all-far end second g.passages;
  near = ap (packets_leaving end) g.entries ∙ all-near end second g.passages;
}

pub records_cross_both : RulesLeave4 → RulesLeave6 → UnnamedRecordsCrossBoth
records_cross_both leave4 leave6 left right coming left_capture right_capture over end records captured unnamed none =
    let log : List Entry = (run_of (two_devices left right) coming left_capture right_capture).trace.log in
    joined coming end (settings_at end left right) (settings_at (other_end end) left right) records log
    (gather coming end (settings_at end left right) (settings_at (other_end end) left right) records log
    (λ k c within.
    record-crosses (packets_cross_both leave4 leave6) left right coming end log _ (each_record_is_carried (two_devices left right) coming left_capture right_capture over end _ (captured k c within))
    (unnamed k c within) (none k c within)))
