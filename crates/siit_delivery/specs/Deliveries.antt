-- What a pair of relays delivers of the datagrams that hosts at one end send (RFC 7755, RFC 7756), in the terms of the
-- records that a run read and of the log of what it wrote.
use Rattle.std.specs.Prelude.{◌≡◌, ℕ, List, [], map, true, Some}
use Rattle.std.specs.List.{All}
use Rattle.siit_model.specs.Ipv4.{Ipv4Packet, IsGoodIpv4, ipv4_bytes, ipv4_of, is_whole4}
use Rattle.siit_rules.specs.declared.rule.Family.TheVariants.{Four}
use Rattle.siit_capture.specs.Captures.{Records}
use Rattle.siit_fragments.specs.Covers.{Covers4}
use Rattle.siit_chain.specs.Carried.{other_end}
use Rattle.siit_chain.specs.Log.{Entry}
use Rattle.siit_chain.specs.declared.origin.End.{End}
use Rattle.siit_roles.specs.declared.settings.Settings.{Settings}
use Rattle.siit_cutting.specs.Laws.{first_id}
use Rattle.siit_crossing.specs.Across.{settings_at}
use Rattle.siit_crossing.specs.Carrying.{Captured, IsCaptured, capture_at, packet_entering}
use Rattle.siit_crossing.specs.Entries.{IsUnnamed, entries_of_records, packets_leaving}
use Rattle.siit_pair.specs.Across.{across}
use Rattle.siit_pair.specs.Laws.{AreReversible}
use Rattle.siit_pair.specs.Same.{is_same_from}

-- A whole datagram was sent as these records of a capture: each has an IPv4 packet, and joined they are the datagram.
pub record IsSentAs (capture : Records) (records : List Captured) (d : Ipv4Packet) : Type 0 where
  pub captured : All (IsCaptured capture) records
  pub entered : List (List ℕ)
  pub enter : map (λ r. packet_entering Four r.found) records ≡ map (λ bytes. Some bytes) entered
  pub packets : List Ipv4Packet
  pub are_read : map ipv4_of entered ≡ map (λ packet. Some packet) packets
  pub good : IsGoodIpv4 d
  pub whole : is_whole4 d ≡ true
  pub joined : Covers4 d packets

-- No drop in the log names any of these records.
abbrev pub AreUnnamed : End → List Captured → List Entry → Type 0
AreUnnamed end records log = All (λ r. IsUnnamed end r.number log) records

-- all that the log has of them
abbrev pub entries_about : End → List Captured → List Entry → List Entry
entries_about end records log = entries_of_records end (map (λ r. r.number) records) log

-- What was written of them at the far end is read as packets that join to the datagram that both devices make of this
-- one, the same in all but what is listed, with the identification of the first packet written; and nothing was written
-- at the near end.
pub record IsDelivered (first second : Settings) (end : End) (records : List Captured) (d : Ipv4Packet) (log : List Entry) : Type 0 where
  pub packets : List Ipv4Packet
  pub far : packets_leaving (other_end end) (entries_about end records log) ≡ map ipv4_bytes packets
  pub read : map ipv4_of (packets_leaving (other_end end) (entries_about end records log)) ≡ map (λ packet. Some packet) packets
  pub near : packets_leaving end (entries_about end records log) ≡ []
  pub joined : Covers4 (across first second d (first_id packets)) packets
  pub same : is_same_from first second d (across first second d (first_id packets)) ≡ true

-- Each datagram whose addresses come back, and which no drop names, is delivered, from either end.
abbrev pub Delivers : (border edge : Settings) (left right : Records) (log : List Entry) → Type 0
Delivers border edge left right log =
    (end : End) (records : List Captured) (d : Ipv4Packet) → IsSentAs (capture_at end left right) records d
    → AreReversible border.mapping d → AreUnnamed end records log
    → IsDelivered (settings_at end border edge) (settings_at (other_end end) border edge) end records d log
