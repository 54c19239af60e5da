-- Worked captures: bytes to records, and records to packets.
use Rattle.std.specs.Prelude.{◌≡◌, ℕ, ◌+◌, List, [], ◌∷◌, ◌++◌, length, take, replicate, None}
use Rattle.siit_rules.specs.declared.rule.Family.TheVariants.{Four, Six}
use Rattle.siit_capture.specs.Captures.{ended, faulty, one_more, records_of}
use Rattle.siit_capture.specs.LinkPackets.{packet_as, packet_of}
use Rattle.siit_capture.specs.Records.{Record}
use Rattle.siit_capture.specs.Written.{little_bytes32, written_head, written_record}
use Rattle.siit_capture.specs.declared.form.CaptureFault.TheVariants.{BadLinkType, BadMagic, BadTime, BadVersion, CutRecord, RecordTooLong}
use Rattle.siit_capture.specs.declared.form.LinkType.TheVariants.{Ethernet, Ipv4, Ipv6, Raw}

-- a TCP packet of 40 bytes from 8.8.8.8 to 192.0.2.1
abbrev packet4 : List ℕ
packet4 =
    0x45 ∷ 0x00 ∷ 0x00 ∷ 0x28 ∷ 0x00 ∷ 0x01 ∷ 0x40 ∷ 0x00 ∷ 0x40 ∷ 0x06 ∷ 0x68 ∷ 0xbe ∷ 0x08 ∷ 0x08 ∷ 0x08 ∷ 0x08
    ∷ 0xc0 ∷ 0x00 ∷ 0x02 ∷ 0x01 ∷ 0xc0 ∷ 0x00 ∷ 0x00 ∷ 0x50 ∷ 0x00 ∷ 0x00 ∷ 0x00 ∷ 0x01 ∷ 0x00 ∷ 0x00 ∷ 0x00 ∷ 0x00
    ∷ 0x50 ∷ 0x02 ∷ 0x20 ∷ 0x00 ∷ 0xfd ∷ 0x7f ∷ 0x00 ∷ 0x00 ∷ []

-- an IPv6 packet without payload
abbrev packet6 : List ℕ
packet6 =
    0x60 ∷ 0x00 ∷ 0x00 ∷ 0x00 ∷ 0x00 ∷ 0x00 ∷ 0x3b ∷ 0x40 ∷ 0x20 ∷ 0x01 ∷ 0x0d ∷ 0xb8 ∷ 0x64 ∷ 0x64 ∷ 0x00 ∷ 0x00
    ∷ 0x00 ∷ 0x00 ∷ 0x00 ∷ 0x00 ∷ 0x00 ∷ 0x00 ∷ 0x00 ∷ 0x01 ∷ 0x00 ∷ 0x64 ∷ 0xff ∷ 0x9b ∷ 0x00 ∷ 0x00 ∷ 0x00 ∷ 0x00
    ∷ 0x00 ∷ 0x00 ∷ 0x00 ∷ 0x00 ∷ 0x08 ∷ 0x08 ∷ 0x08 ∷ 0x08 ∷ []

-- the addresses in front of a frame
abbrev addresses : List ℕ
addresses =
    0x02 ∷ 0x00 ∷ 0x00 ∷ 0x00 ∷ 0x00 ∷ 0x01 ∷ 0x02 ∷ 0x00 ∷ 0x00 ∷ 0x00 ∷ 0x00 ∷ 0x02 ∷ []

-- an ethertype of ARP and a request (RFC 826)
abbrev arp : List ℕ
arp =
    0x08 ∷ 0x06 ∷ 0x00 ∷ 0x01 ∷ 0x08 ∷ 0x00 ∷ 0x06 ∷ 0x04 ∷ 0x00 ∷ 0x01 ∷ 0x02 ∷ 0x00 ∷ 0x00 ∷ 0x00 ∷ 0x00 ∷ 0x02
    ∷ 0xc0 ∷ 0x00 ∷ 0x02 ∷ 0x01 ∷ 0x00 ∷ 0x00 ∷ 0x00 ∷ 0x00 ∷ 0x00 ∷ 0x00 ∷ 0xc0 ∷ 0x00 ∷ 0x02 ∷ 0x02 ∷ []

-- The head that tcpdump writes on an Ethernet interface: little-endian, microseconds, snapshot length 262,144.
abbrev tcpdump_head : (link : ℕ) → List ℕ
tcpdump_head link =
    0xd4 ∷ 0xc3 ∷ 0xb2 ∷ 0xa1 ∷ 0x02 ∷ 0x00 ∷ 0x04 ∷ 0x00 ∷ 0x00 ∷ 0x00 ∷ 0x00 ∷ 0x00
    ∷ 0x00 ∷ 0x00 ∷ 0x00 ∷ 0x00 ∷ 0x00 ∷ 0x00 ∷ 0x04 ∷ 0x00 ∷ little_bytes32 link

-- a record of it; the frame was longer by some bytes that weren't captured
abbrev recorded : (seconds microseconds uncaptured : ℕ) → List ℕ → List ℕ
recorded seconds microseconds uncaptured frame =
    little_bytes32 seconds ++ little_bytes32 microseconds ++ little_bytes32 (length frame) ++ little_bytes32 (length frame + uncaptured) ++ frame

abbrev found_at : (seconds nanoseconds : ℕ) → List ℕ → Record
found_at seconds nanoseconds frame = record { link = Ethernet; seconds = seconds; nanoseconds = nanoseconds; bytes = frame }

abbrev arp_frame : List ℕ
arp_frame = addresses ++ arp

abbrev tagged_frame : List ℕ
tagged_frame = addresses ++ 0x81 ∷ 0x00 ∷ 0x00 ∷ 0x05 ∷ 0x08 ∷ 0x00 ∷ packet4

abbrev padded_frame : List ℕ
padded_frame = addresses ++ 0x08 ∷ 0x00 ∷ packet4 ++ replicate 6 0

abbrev frame6 : List ℕ
frame6 = addresses ++ 0x86 ∷ 0xdd ∷ packet6

abbrev ethernet_capture : List ℕ
ethernet_capture =
    tcpdump_head 1 ++ recorded 1 5 0 arp_frame ++ recorded 1 999999 0 tagged_frame ++ recorded 2 0 0 padded_frame ++ recorded 4294967295 7 100 frame6

pub record EthernetExamples : Type 0 where
  pub records : records_of ethernet_capture
      ≡ one_more (found_at 1 5000 arp_frame) 82 (one_more (found_at 1 999999000 tagged_frame) 156
      (one_more (found_at 2 0 padded_frame) 232 (one_more (found_at 4294967295 7000 frame6) 302 ended)))
  pub arp : packet_of Ethernet arp_frame ≡ None
  pub tagged : packet_of Ethernet tagged_frame ≡ packet_as Four packet4
  pub padded : packet_of Ethernet padded_frame ≡ packet_as Four (packet4 ++ replicate 6 0)
  pub six : packet_of Ethernet frame6 ≡ packet_as Six packet6

-- more tags, shorter frames, and records without link header
pub record PacketExamples : Type 0 where
  pub two_tags : packet_of Ethernet (addresses ++ 0x88 ∷ 0xa8 ∷ 0x00 ∷ 0x01 ∷ 0x81 ∷ 0x00 ∷ 0x00 ∷ 0x05 ∷ 0x86 ∷ 0xdd ∷ packet6) ≡ packet_as Six packet6
  pub three_tags : packet_of Ethernet (addresses ++ 0x81 ∷ 0x00 ∷ 0x00 ∷ 0x01 ∷ 0x81 ∷ 0x00 ∷ 0x00 ∷ 0x02 ∷ 0x81 ∷ 0x00 ∷ 0x00 ∷ 0x03 ∷ 0x08 ∷ 0x00 ∷ packet4) ≡ None
  pub short : packet_of Ethernet (addresses ++ 0x08 ∷ []) ≡ None
  pub short_tag : packet_of Ethernet (addresses ++ 0x81 ∷ 0x00 ∷ 0x00 ∷ []) ≡ None
  pub bare : packet_of Ethernet (addresses ++ 0x08 ∷ 0x00 ∷ []) ≡ packet_as Four []
  pub four : packet_of Raw packet4 ≡ packet_as Four packet4
  pub six : packet_of Raw packet6 ≡ packet_as Six packet6
  pub seven : packet_of Raw (0x70 ∷ []) ≡ None
  pub nothing : packet_of Raw [] ≡ None
  pub as_four : packet_of Ipv4 packet6 ≡ packet_as Four packet6
  pub as_six : packet_of Ipv6 packet4 ≡ packet_as Six packet4
  pub no_four : packet_of Ipv4 [] ≡ None
  pub no_six : packet_of Ipv6 [] ≡ None

-- a big-endian head
abbrev big_head : (last_of_magic : List ℕ) → (link : ℕ) → List ℕ
big_head last_of_magic link =
    0xa1 ∷ 0xb2 ∷ last_of_magic ++ 0x00 ∷ 0x02 ∷ 0x00 ∷ 0x04 ∷ 0x00 ∷ 0x00 ∷ 0x00 ∷ 0x00
    ∷ 0x00 ∷ 0x00 ∷ 0x00 ∷ 0x00 ∷ 0x00 ∷ 0x04 ∷ 0x00 ∷ 0x00 ∷ 0x00 ∷ 0x00 ∷ 0x00 ∷ link ∷ []

-- a big-endian record of one byte, with a fraction of 258
abbrev big_record : List ℕ
big_record = 0x00 ∷ 0x00 ∷ 0x00 ∷ 0x03 ∷ 0x00 ∷ 0x00 ∷ 0x01 ∷ 0x02 ∷ 0x00 ∷ 0x00 ∷ 0x00 ∷ 0x01 ∷ 0x00 ∷ 0x00 ∷ 0x00 ∷ 0x01 ∷ 0x45 ∷ []

abbrev raw_found : (seconds nanoseconds : ℕ) → List ℕ → Record
raw_found seconds nanoseconds packet = record { link = Raw; seconds = seconds; nanoseconds = nanoseconds; bytes = packet }

pub record FormExamples : Type 0 where
  pub big_micro : records_of (big_head (0xc3 ∷ 0xd4 ∷ []) 101 ++ big_record) ≡ one_more (raw_found 3 258000 (0x45 ∷ [])) 41 ended
  pub big_nano : records_of (big_head (0x3c ∷ 0x4d ∷ []) 101 ++ big_record) ≡ one_more (raw_found 3 258 (0x45 ∷ [])) 41 ended
  pub little_nano : records_of (written_head ++ written_record (raw_found 1 999999999 packet4)) ≡ one_more (raw_found 1 999999999 packet4) 80 ended

-- captures that end early
pub record EndExamples : Type 0 where
  pub empty : records_of (tcpdump_head 101) ≡ ended
  pub nothing : records_of [] ≡ faulty 0 CutRecord
  pub cut_magic : records_of (0xd4 ∷ 0xc3 ∷ 0xb2 ∷ []) ≡ faulty 0 CutRecord
  pub cut_head : records_of (take 23 (tcpdump_head 101)) ≡ faulty 0 CutRecord
  pub ten_more : records_of (tcpdump_head 101 ++ recorded 1 5 0 packet4 ++ replicate 10 0) ≡ one_more (raw_found 1 5000 packet4) 80 (faulty 80 CutRecord)
  pub cut_packet : records_of (take 79 (tcpdump_head 101 ++ recorded 1 5 0 packet4)) ≡ faulty 24 CutRecord

-- the head of a record alone
abbrev claimed : (fraction captured : ℕ) → List ℕ
claimed fraction captured = little_bytes32 1 ++ little_bytes32 fraction ++ little_bytes32 captured ++ little_bytes32 captured

-- each fault at its place, the earlier one first
pub record FaultExamples : Type 0 where
  pub magic : records_of (0x0a ∷ 0x0d ∷ 0x0d ∷ 0x0a ∷ []) ≡ faulty 0 BadMagic
  pub version : records_of (0xd4 ∷ 0xc3 ∷ 0xb2 ∷ 0xa1 ∷ 0x02 ∷ 0x00 ∷ 0x03 ∷ replicate 17 0) ≡ faulty 0 BadVersion
  pub link : records_of (tcpdump_head 113) ≡ faulty 0 BadLinkType
  pub high_link : records_of (tcpdump_head 65537) ≡ faulty 0 BadLinkType
  pub too_long : records_of (tcpdump_head 1 ++ claimed 1000000 262145) ≡ faulty 24 RecordTooLong
  pub longest : records_of (tcpdump_head 1 ++ claimed 999999 262144) ≡ faulty 24 CutRecord
  pub time : records_of (tcpdump_head 1 ++ claimed 1000000 262144) ≡ faulty 24 BadTime
  pub nano_time : records_of (written_head ++ claimed 1000000000 0) ≡ faulty 24 BadTime
