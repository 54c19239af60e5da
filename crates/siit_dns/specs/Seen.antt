-- The program's records as those of the definitions.
use Rattle.std.specs.Prelude.{ℕ, option_map, Result, Ok, Err, ◌≡◌, ◌<◌, length, List}
use Rattle.siit_dns.specs.Messages.{Question, ResourceRecord}
use Rattle.siit_dns.specs.declared.record.QuestionView.{QuestionView}
use Rattle.siit_dns.specs.declared.record.RecordView.{RecordView}

abbrev pub question_seen : QuestionView → Question
question_seen q = record { name = q.name.items; kind = q.kind; class = q.class }

abbrev pub record_seen : RecordView → ResourceRecord
record_seen r = record {
  section = r.section;
  name = r.name.items;
  kind = r.kind;
  class = r.class;
  ttl = r.ttl;
  rdata = r.rdata.now;
  written = option_map (λ w. w.items) r.written;
}

-- the RDATA of a record that a message holds: at most 65,535 bytes, 4 for an IPv4 address and 16 for an IPv6 address
pub record IsSized (kind : ℕ) (rdata : List ℕ) : Type 0 where
  pub short : length rdata < 65536
  pub ipv4 : kind ≡ 1 → length rdata ≡ 4
  pub ipv6 : kind ≡ 28 → length rdata ≡ 16

-- an item and the place behind it, or the place of a fault
abbrev pub item_seen : {X Y : Type 0} → (X → Y) → Result (X × ℕ) ℕ → Result (Y × ℕ) ℕ
item_seen seen (Ok x) = Ok (seen x.0, x.1)
item_seen seen (Err place) = Err place
