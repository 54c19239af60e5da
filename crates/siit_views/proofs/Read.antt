-- Packets that are read are good.
use Rattle.std.proofs.Common.{◌≡◌, ℕ, ◌+◌, ◌-◌, ◌*◌, ◌%◌, ◌<◌, ◌≤◌, min, List, length, Bool, true, false, not, ◌&&◌, ◌||◌, ◌==◌, nat_lt, nat_le, if◌then◌else◌, Some, None, ◌∙◌, subst, refl, arith}
use Rattle.std.proofs.lemmas.Bool.{ltb-false, or_parts, and_from, not-false, le-leb}
use Rattle.siit_model.specs.Bytes.{AreBytes, field8}
use Rattle.siit_model.specs.Ipv4.{IsGoodIpv4, ipv4_fields, version_in, header_length_in, total_length_in, is_short4, is_bad_header4}
use Rattle.siit_model.specs.Ipv6.{IsGoodIpv6, ipv6_fields, payload_length_in, is_short6, is_bad_header6}
use Rattle.siit_checksum.proofs.Fields.{bytes-part, field16-small, field32-small, field128-small, length-part}
use Rattle.siit_views.specs.Headers.{HasLengths4}
use Rattle.siit_views.specs.Laws.{ReadIsGood4, ReadIsGood6}

-- an option is there where its test is false
taken : {X : Type 0} (test : Bool) (value : X) (result : X) → (if test then None else Some value) ≡ Some result → (test ≡ false) × (value ≡ result)
taken true value result e = (cc, cc)
taken false value result e = (refl, cc)

lengths : (bytes : List ℕ) → is_short4 bytes ≡ false → is_bad_header4 bytes ≡ false → HasLengths4 bytes
lengths bytes long good =
    let right = or_parts _ (not _) good in
    let over = or_parts (not (version_in bytes == 4) || nat_lt (header_length_in bytes) 20) (nat_lt (total_length_in bytes) (header_length_in bytes)) right.0 in
    let low = or_parts (not (version_in bytes == 4)) (nat_lt (header_length_in bytes) 20) over.0 in
    let version : (version_in bytes == 4) ≡ true = not-false (version_in bytes == 4) low.0 in
    let header : 20 ≤ header_length_in bytes = ltb-false (header_length_in bytes) 20 low.1 in
    let total : header_length_in bytes ≤ total_length_in bytes = ltb-false (total_length_in bytes) (header_length_in bytes) over.1 in
    let short = or_parts (nat_lt (length bytes) 20) _ long in
    let cut = second-false ((version_in bytes == 4) && nat_le 20 (header_length_in bytes)) (nat_lt (length bytes) (header_length_in bytes) || nat_lt (length bytes) (total_length_in bytes)) short.1
    (and_from (version_in bytes == 4) (nat_le 20 (header_length_in bytes)) version (le-leb 20 (header_length_in bytes) header)) in
    let fits = or_parts (nat_lt (length bytes) (header_length_in bytes)) (nat_lt (length bytes) (total_length_in bytes)) cut in
    record { header = header; total = total; fits = ltb-false (length bytes) (total_length_in bytes) fits.1 }
  where
    second-false : (x y : Bool) → (x && y) ≡ false → x ≡ true → y ≡ false
    second-false true y e is = e
    second-false false y e is = cc

fields-good : (bytes : List ℕ) → AreBytes bytes → HasLengths4 bytes → IsGoodIpv4 (ipv4_fields bytes)
fields-good bytes small long =
    let options = length-part bytes 20 (header_length_in bytes - 20) in
    let payload = length-part bytes (header_length_in bytes) (total_length_in bytes - header_length_in bytes) in
    let total_small : total_length_in bytes < 65536 = field16-small bytes 2 small in
    let first : field8 bytes 0 % 16 < 16 = omega arith in
    let header = long.header in
    let total = long.total in
    let fits = long.fits in
    let option_length : length (ipv4_fields bytes).options ≡ header_length_in bytes - 20 = options ∙ omega arith in
    let payload_length : length (ipv4_fields bytes).payload ≡ total_length_in bytes - header_length_in bytes = payload ∙ omega arith in
    record {
      tos = small 1;
      id = field16-small bytes 4 small;
      df = omega arith;
      mf = omega arith;
      offset = omega arith;
      ttl = small 8;
      protocol = small 9;
      source = field32-small bytes 12 small;
      destination = field32-small bytes 16 small;
      whole_words = words (field8 bytes 0 % 16) (length (ipv4_fields bytes).options) option_length;
      few_options = few (field8 bytes 0 % 16) (length (ipv4_fields bytes).options) first option_length;
      fits = all (header_length_in bytes) (total_length_in bytes) (length (ipv4_fields bytes).options) (length (ipv4_fields bytes).payload) header total total_small option_length payload_length;
      option_bytes = bytes-part bytes 20 (header_length_in bytes - 20) small;
      payload_bytes = bytes-part bytes (header_length_in bytes) (total_length_in bytes - header_length_in bytes) small;
    }
  where
    words : (n len : ℕ) → len ≡ n * 4 - 20 → len % 4 ≡ 0
    words n len is = omega arith

    few : (n len : ℕ) → n < 16 → len ≡ n * 4 - 20 → len ≤ 40
    few n len small_n is = omega arith

    all : (h t o p : ℕ) → 20 ≤ h → h ≤ t → t < 65536 → o ≡ h - 20 → p ≡ t - h → 20 + o + p ≤ 65535
    all h t o p a b c d e = omega arith

pub read_is_good4 : ReadIsGood4
read_is_good4 bytes packet small is =
    let read = taken (is_short4 bytes || is_bad_header4 bytes) (ipv4_fields bytes) packet is in
    let tests = or_parts (is_short4 bytes) (is_bad_header4 bytes) read.0 in
    subst (λ p. IsGoodIpv4 p) read.1 (fields-good bytes small (lengths bytes tests.0 tests.1))

pub read_is_good6 : ReadIsGood6
read_is_good6 bytes packet small is =
    let read = taken (is_short6 bytes || is_bad_header6 bytes) (ipv6_fields bytes) packet is in
    let size = length-part bytes 40 (payload_length_in bytes) in
    let most = field16-small bytes 4 small in
    subst (λ p. IsGoodIpv6 p) read.1 (record {
      class = omega arith;
      flow = omega arith;
      hop = small 7;
      source = field128-small bytes 8 small;
      destination = field128-small bytes 24 small;
      next = small 6;
      fits = few (payload_length_in bytes) (length bytes - 40) (length (ipv6_fields bytes).body) most size;
      bytes = bytes-part bytes 40 (payload_length_in bytes) small;
    })
  where
    few : (n m len : ℕ) → n < 65536 → len ≡ min n m → len ≤ 65535
    few n m len small_n is = omega arith
