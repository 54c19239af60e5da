-- Errors, as worked by hand, and packets that are answered or not.
use Rattle.std.specs.Prelude.{◌≡◌, ℕ, ◌^◌, ◌*◌, ◌+◌, List, [], ◌∷◌, ◌++◌, take, length, replicate, true, false, Some, None}
use Rattle.siit_model.specs.Bytes.{bytes32}
use Rattle.siit_rules.specs.declared.rule.Rule.TheVariants.{Short4, SourceRoute4, TooBig4, Expired6, SegmentsLeft6}
use Rattle.siit_errors.specs.Answers.{may_answer4, may_answer6}
use Rattle.siit_errors.specs.Errors.{error_for4, error_for6}

-- the bytes of 32-bit words
abbrev words : List ℕ → List ℕ
words [] = []
words (word ∷ rest) = bytes32 word ++ words rest

-- a TCP segment
abbrev segment : List ℕ
segment = words (0xc0000050 ∷ 0x00000001 ∷ 0x00000000 ∷ 0x50022000 ∷ 0xfd7f0000 ∷ [])

-- from 8.8.8.8 to 192.0.2.1, with DF and 1,500 bytes; and with a source route that has not expired
abbrev long4 : List ℕ
long4 = words (0x450005dc ∷ 0x00014000 ∷ 0x4006630a ∷ 0x08080808 ∷ 0xc0000201 ∷ []) ++ segment ++ replicate 1460 0

abbrev routed4 : List ℕ
routed4 = words (0x47000030 ∷ 0x00010000 ∷ 0x400619ab ∷ 0x08080808 ∷ 0xc0000201 ∷ 0x83070401 ∷ 0x02030400 ∷ []) ++ segment

-- the address 192.0.2.254 of the device
abbrev device4 : ℕ
device4 = 0xc00002fe

pub record ErrorExamples4 : Type 0 where
  -- 576 bytes, of which 548 are quoted, and an MTU of 1,480
  pub too_big : error_for4 TooBig4 device4 1480 long4
      ≡ Some (words (0x45000240 ∷ 0x00000000 ∷ 0x4001a5af ∷ 0xc00002fe ∷ 0x08080808 ∷ 0x0304c95f ∷ 0x000005c8 ∷ []) ++ take 548 long4)
  -- options are quoted
  pub source_route : error_for4 SourceRoute4 device4 0 routed4
      ≡ Some (words (0x4500004c ∷ 0x00000000 ∷ 0x4001a7a3 ∷ 0xc00002fe ∷ 0x08080808 ∷ 0x0305cf26 ∷ 0x00000000 ∷ []) ++ routed4)
  -- padding of the link is not
  pub padded : error_for4 SourceRoute4 device4 0 (routed4 ++ 1 ∷ 2 ∷ []) ≡ error_for4 SourceRoute4 device4 0 routed4
  -- a silent rule
  pub silent : error_for4 Short4 device4 0 routed4 ≡ None

-- 64:ff9b::808:808 and 2001:db8:6464::1, and TCP between them with hop limit 1
abbrev remote6 : List ℕ
remote6 = words (0x0064ff9b ∷ 0x00000000 ∷ 0x00000000 ∷ 0x08080808 ∷ [])

abbrev host6 : List ℕ
host6 = words (0x20010db8 ∷ 0x64640000 ∷ 0x00000000 ∷ 0x00000001 ∷ [])

abbrev old6 : List ℕ
old6 =
    words (0x60000000 ∷ 0x00140601 ∷ []) ++ remote6 ++ host6
    ++ words (0xc0000050 ∷ 0x00000001 ∷ 0x00000000 ∷ 0x50022000 ∷ 0x2d630000 ∷ [])

-- behind a Routing header with Segments Left 1
abbrev routed6 : List ℕ
routed6 = words (0x60000000 ∷ 0x001c2b40 ∷ []) ++ host6 ++ remote6 ++ words (0x06000001 ∷ 0x00000000 ∷ []) ++ segment

-- the address 2001:db8:ffff:: of devices with this number at its end
abbrev device6 : ℕ → ℕ
device6 number = 0x20010db8ffff * 2 ^ 80 + number

pub record ErrorExamples6 : Type 0 where
  pub expired : error_for6 Expired6 (device6 2) 0 old6
      ≡ Some (words (0x60000000 ∷ 0x00443a40 ∷ 0x20010db8 ∷ 0xffff0000 ∷ 0x00000000 ∷ 0x00000002 ∷ []) ++ remote6
      ++ words (0x030058bb ∷ 0x00000000 ∷ []) ++ old6)
  -- the pointer is the place of Segments Left
  pub segments_left : error_for6 SegmentsLeft6 (device6 1) 43 routed6
      ≡ Some (words (0x60000000 ∷ 0x004c3a40 ∷ 0x20010db8 ∷ 0xffff0000 ∷ 0x00000000 ∷ 0x00000001 ∷ []) ++ host6
      ++ words (0x0400da15 ∷ 0x0000002b ∷ []) ++ routed6)
  pub padded : error_for6 Expired6 (device6 2) 0 (old6 ++ 0 ∷ []) ≡ error_for6 Expired6 (device6 2) 0 old6

-- routed4 without options and with another total length, field of flags and offset, and protocol, before a payload
abbrev packet4 : (shape protocol : ℕ) → (payload : List ℕ) → List ℕ
packet4 shape protocol payload =
    words ((0x45000000 + 20 + length payload) ∷ (0x00010000 + shape) ∷ (0x40000000 + protocol * 65536) ∷ 0x08080808 ∷ 0xc0000201 ∷ []) ++ payload

abbrev packet6 : (next : ℕ) → (body : List ℕ) → List ℕ
packet6 next body = words (0x60000000 ∷ (length body * 65536 + next * 256 + 1) ∷ []) ++ remote6 ++ host6 ++ body

pub record AnsweredExamples : Type 0 where
  pub segment4 : may_answer4 (packet4 0 6 segment) ≡ true
  -- an echo request, an error, and ICMP without a type
  pub echo4 : may_answer4 (packet4 0 1 (8 ∷ 0 ∷ [])) ≡ true
  pub error4 : may_answer4 (packet4 0 1 (3 ∷ 3 ∷ [])) ≡ false
  pub redirect4 : may_answer4 (packet4 0 1 (5 ∷ [])) ≡ false
  pub bare4 : may_answer4 (packet4 0 1 []) ≡ false
  -- the number of ICMPv6 is no ICMP here
  pub other4 : may_answer4 (packet4 0 58 (3 ∷ [])) ≡ true
  -- a first and a later fragment
  pub first4 : may_answer4 (packet4 0x2000 6 segment) ≡ true
  pub later4 : may_answer4 (packet4 0x2005 6 segment) ≡ false
  pub segment6 : may_answer6 (packet6 6 segment) ≡ true
  pub echo6 : may_answer6 (packet6 58 (128 ∷ 0 ∷ [])) ≡ true
  pub error6 : may_answer6 (packet6 58 (127 ∷ 0 ∷ [])) ≡ false
  pub bare6 : may_answer6 (packet6 58 []) ≡ false
  pub other6 : may_answer6 (packet6 1 (3 ∷ [])) ≡ true
  -- behind a Fragment header of offset 0, and of another one
  pub first6 : may_answer6 (packet6 44 (words (0x06000001 ∷ 0x00000007 ∷ []) ++ segment)) ≡ true
  pub later6 : may_answer6 (packet6 44 (words (0x06000009 ∷ 0x00000007 ∷ []) ++ segment)) ≡ false
  -- an ICMPv6 error behind Destination Options
  pub behind6 : may_answer6 (packet6 60 (words (0x3a000000 ∷ 0x00000000 ∷ []) ++ 1 ∷ 4 ∷ [])) ≡ false
  -- Hop-by-Hop Options that aren't first
  pub out_of_order6 : may_answer6 (packet6 60 (words (0x00000000 ∷ 0x00000000 ∷ []) ++ segment)) ≡ false
