-- What comes of a record that was carried.
use Rattle.std.specs.Prelude.{◌≡◌, ℕ, List, Option, Some, None}
use Rattle.siit_word.specs.Files.{FilesMeaning}
use Rattle.siit_capture.specs.LinkPackets.{IpPacket, packet_of}
use Rattle.siit_capture.specs.Records.{Record}
use Rattle.siit_chain.specs.Carried.{HasComing, Trace}
use Rattle.siit_chain.specs.Counted.{counts_of}
use Rattle.siit_chain.specs.Log.{text_of}
use Rattle.siit_chain.specs.Outputs.{GrewBy}
use Rattle.siit_chain.specs.declared.origin.Counts.{Counts}
use Rattle.siit_chain.specs.declared.origin.Output.{Output}

-- the IP packet of a record
abbrev pub packet_in : Option Record → Option IpPacket
packet_in None = None
packet_in (Some record_found) = packet_of record_found.link record_found.bytes

-- Each named file grew by all that came of it, which was counted, and its numbers were used.
pub record CarriesAll (outs : Output → Option (List ℕ)) (before now : FilesMeaning) (coming : ℕ → ℕ → ℕ) (counts : Counts) (all : Trace) : Type 0 where
  pub grew : GrewBy outs before now (text_of all.log)
  pub comes : HasComing coming all
  pub counted : counts ≡ counts_of all.log
