-- What finished runs have written of their records, as worked by hand.
use Rattle.std.specs.Prelude.{◌≡◌, ℕ, ◌+◌, ◌*◌, ◌^◌, List, [], ◌∷◌, ◌++◌, Some, None, false}
use Rattle.siit_addr.specs.Addresses.{dotted}
use Rattle.siit_capture.specs.Captures.{ended, one_more}
use Rattle.siit_capture.specs.Records.{Record}
use Rattle.siit_capture.specs.declared.form.LinkType.TheVariants.{Raw}
use Rattle.siit_rules.specs.declared.rule.Family.TheVariants.{Four}
use Rattle.siit_rules.specs.declared.rule.Rule.TheVariants.{OtherFamily, UdpZero4}
use Rattle.siit_map.specs.Mapping.{Mapping, table}
use Rattle.siit_roles.specs.declared.role.Role.TheVariants.{Border, Edge}
use Rattle.siit_roles.specs.declared.settings.Settings.{Settings}
use Rattle.siit_chain.specs.Examples.{Toy, cutter, marker, numbers, refuser, toys}
use Rattle.siit_chain.specs.Log.{Entry, drops, drops_in, leaves}
use Rattle.siit_chain.specs.declared.origin.End.TheVariants.{Left, Right}
use Rattle.siit_run.specs.Runs.{Run, finished, origin_of, run_of}
use Rattle.siit_device.specs.Examples.{device, prefix96, single, words}
use Rattle.siit_crossing.specs.Across.{two_devices}
use Rattle.siit_crossing.specs.Carrying.{packet_entering, read_at, record_numbered}
use Rattle.siit_crossing.specs.Entries.{entries_of_capture, entries_of_record, entries_of_records, packets_leaving}

abbrev at_time : (seconds : ℕ) → (bytes : List ℕ) → Record
at_time seconds bytes = record { link = Raw; seconds = seconds; nanoseconds = 7; bytes = bytes }

-- TOYS

-- Of the packets of toys the first byte is a life of 69 or 101, which a raw record takes for IPv4 or IPv6.
abbrev one : Record
one = at_time 5 (0x45 ∷ 5 ∷ 6 ∷ [])

abbrev other : Record
other = at_time 6 (0x65 ∷ 8 ∷ [])

abbrev last : Record
last = at_time 9 (0x45 ∷ 7 ∷ [])

abbrev strange : Record
strange = at_time 9 (0x65 ∷ 7 ∷ [])

abbrev toy_run : List Toy → Run
toy_run devices = run_of (toys devices) numbers (one_more one 43 (one_more last 61 (one_more strange 79 ended))) (one_more other 42 ended)

abbrev toy_log : List Toy → List Entry
toy_log devices = (toy_run devices).trace.log

pub record ToyExamples : Type 0 where
  pub finishes : (toy_run (cutter ∷ marker ∷ [])).course ≡ finished
  pub read : read_at Left (toy_run (cutter ∷ marker ∷ [])) ≡ 3
  -- the second device has used two numbers when the right record comes, and three when the second left one does
  pub left_first : entries_of_record Left 1 (toy_log (cutter ∷ marker ∷ []))
      ≡ leaves (origin_of Left 1 one) Right (67 ∷ 200 ∷ 5 ∷ []) ∷ leaves (origin_of Left 1 one) Right (67 ∷ 201 ∷ 6 ∷ []) ∷ []
  pub right_first : entries_of_record Right 1 (toy_log (cutter ∷ marker ∷ []))
      ≡ leaves (origin_of Right 1 other) Left (99 ∷ 202 ∷ []) ∷ leaves (origin_of Right 1 other) Left (99 ∷ 8 ∷ []) ∷ []
  pub left_second : entries_of_record Left 2 (toy_log (cutter ∷ marker ∷ [])) ≡ leaves (origin_of Left 2 last) Right (67 ∷ 203 ∷ 7 ∷ []) ∷ []
  -- of another family than its link
  pub left_third : entries_of_record Left 3 (toy_log (cutter ∷ marker ∷ [])) ≡ drops (origin_of Left 3 strange) 0 OtherFamily false ∷ []
  pub no_fourth : entries_of_record Left 4 (toy_log (cutter ∷ marker ∷ [])) ≡ []
  pub together : packets_leaving Right (entries_of_records Left (1 ∷ 2 ∷ []) (toy_log (cutter ∷ marker ∷ [])))
      ≡ (67 ∷ 200 ∷ 5 ∷ []) ∷ (67 ∷ 201 ∷ 6 ∷ []) ∷ (67 ∷ 203 ∷ 7 ∷ []) ∷ []
  pub none_back : packets_leaving Left (entries_of_records Left (1 ∷ 2 ∷ []) (toy_log (cutter ∷ marker ∷ []))) ≡ []
  pub in_order : entries_of_capture Left (toy_log (cutter ∷ marker ∷ []))
      ≡ entries_of_records Left (1 ∷ 2 ∷ 3 ∷ []) (toy_log (cutter ∷ marker ∷ []))
  -- a drop names a record, and what goes back leaves at the near end, marked by its fourth number
  pub named : drops_in (entries_of_record Left 2 (toy_log (marker ∷ refuser ∷ []))) ≡ 1
  pub answered : packets_leaving Left (entries_of_record Left 2 (toy_log (marker ∷ refuser ∷ []))) ≡ (1 ∷ 103 ∷ 7 ∷ []) ∷ []
  pub second : record_numbered (one_more one 43 (one_more last 61 ended)) 2 ≡ Some last
  pub zeroth : record_numbered (one_more one 43 (one_more last 61 ended)) 0 ≡ None
  pub enters : packet_entering Four one ≡ Some (0x45 ∷ 5 ∷ 6 ∷ [])
  pub stays_out : packet_entering Four strange ≡ None

-- A BORDER AND AN EDGE

-- 192.0.2.1 is 2001:db8:6464::1, and all else is under 64:ff9b::/96
abbrev one_table : Mapping
one_table = table (single (dotted 192 0 2 1) (0x20010db864640000 * 2 ^ 64 + 1) ∷ []) (prefix96 (0x64ff9b * 2 ^ 96))

abbrev border : Settings
border = device Border one_table (dotted 192 0 2 254) (0x20010db8ffff0000 * 2 ^ 64 + 1)

abbrev edge : Settings
edge = device Edge one_table (dotted 192 0 2 253) (0x20010db8ffff0000 * 2 ^ 64 + 2)

-- a TCP segment from 8.8.8.8 to 192.0.2.1, and as it leaves behind both devices
abbrev segment : List ℕ
segment = words (0xc0000050 ∷ 0x00000001 ∷ 0x00000000 ∷ 0x50022000 ∷ 0xfd7f0000 ∷ [])

abbrev arriving : Record
arriving = at_time 5 (words (0x45000028 ∷ 0x00014000 ∷ 0x400668be ∷ 0x08080808 ∷ 0xc0000201 ∷ []) ++ segment)

abbrev gone_on : List ℕ
gone_on = words (0x45000028 ∷ 0x00010000 ∷ 0x3e06aabe ∷ 0x08080808 ∷ 0xc0000201 ∷ []) ++ segment

-- UDP without a checksum between the same hosts
abbrev bare : Record
bare = at_time 6 (words (0x45000020 ∷ 0x00010000 ∷ 0x4011a8bb ∷ 0x08080808 ∷ 0xc0000201 ∷ 0x10000035 ∷ 0x000c0000 ∷ 0x61626364 ∷ []))

-- a segment back, from 192.0.2.1 to 8.8.8.8
abbrev returning : Record
returning = at_time 7 (words (0x45000028 ∷ 0x00010000 ∷ 0x4006a8be ∷ 0xc0000201 ∷ 0x08080808 ∷ []) ++ segment)

abbrev returned : List ℕ
returned = words (0x45000028 ∷ 0x00010000 ∷ 0x3e06aabe ∷ 0xc0000201 ∷ 0x08080808 ∷ []) ++ segment

-- the first number of each device is 1
abbrev counted : ℕ → ℕ → ℕ
counted device_number k = k + 1

abbrev pair_log : List Entry
pair_log = (run_of (two_devices border edge) counted (one_more arriving 80 (one_more bare 128 ended)) (one_more returning 80 ended)).trace.log

pub record PairExamples : Type 0 where
  pub crosses : entries_of_record Left 1 pair_log ≡ leaves (origin_of Left 1 arriving) Right gone_on ∷ []
  pub named : entries_of_record Left 2 pair_log ≡ drops (origin_of Left 2 bare) 1 UdpZero4 false ∷ []
  pub back : entries_of_record Right 1 pair_log ≡ leaves (origin_of Right 1 returning) Left returned ∷ []
