-- What is read in written packets of their hops and of what decides whether they are answered.
use Rattle.std.proofs.Common.{◌≡◌, ℕ, zero, suc, ◌+◌, ◌-◌, ◌*◌, ◌/◌, ◌%◌, ◌<◌, ◌≤◌, List, [], ◌∷◌, length, take, Bool, true, false, not, ◌&&◌, ◌==◌, nat_lt, if◌then◌else◌, Result, Ok, Err, ◌∙◌, ap, sym, refl, arith, eq-eqb, ne_eqb}
use Rattle.std.proofs.lemmas.List.{take_all}
use Rattle.std.specs.Option.{option_map_or}
use Rattle.siit_model.specs.Bytes.{field8, field16, flag_bit}
use Rattle.siit_model.specs.Extensions.{Walked, Trouble, behind_fragment, is_extension, runs_short, walk_of}
use Rattle.siit_model.specs.Fragments.{Fragment, fragment_by, fragment_if, fragment_packet6, packet4}
use Rattle.siit_model.specs.Ipv4.{Ipv4Packet, ipv4_bytes, ipv4_fields, version_in, total_length_in}
use Rattle.siit_model.specs.Ipv6.{Ipv6Packet, ipv6_bytes, ipv6_fields, payload_length_in, version6_in}
use Rattle.siit_checksum.proofs.Digits.{two-read}
use Rattle.siit_icmp.specs.Errors.{is_error_kind4, is_error_kind6}
use Rattle.siit_v4to6.proofs.Written.{version-written}
use Rattle.siit_errors.specs.Answers.{is_answerable, is_perhaps_error, may_answer4, may_answer6}
use Rattle.siit_device.specs.Laws.{life, measure}

-- THE MEASURE

pub lived4 : (bytes : List ℕ) → version_in bytes ≡ 4 → measure bytes ≡ life (may_answer4 bytes) (ipv4_fields bytes).ttl
unfolding measure
lived4 bytes four =
    let test : (version_in bytes == 4) ≡ true = eq-eqb (version_in bytes) 4 four in
    ap (λ (t : Bool). life (if t then may_answer4 bytes else may_answer6 bytes) (if t then (ipv4_fields bytes).ttl else (ipv6_fields bytes).hop)) test

not-four : (version : ℕ) → version ≡ 6 → (version == 4) ≡ false
not-four version six = ne_eqb version 4 (λ (four : version ≡ 4). omega arith)

pub lived6 : (bytes : List ℕ) → version6_in bytes ≡ 6 → measure bytes ≡ life (may_answer6 bytes) (ipv6_fields bytes).hop
unfolding measure
lived6 bytes six =
    let test : (version_in bytes == 4) ≡ false = not-four (version_in bytes) six in
    ap (λ (t : Bool). life (if t then may_answer4 bytes else may_answer6 bytes) (if t then (ipv4_fields bytes).ttl else (ipv6_fields bytes).hop)) test

true-false : true ≡ false → ⊥
true-false e = cc

-- a packet with fewer hops, which isn't answered where the first one isn't
pub falls-by : (before after : Bool) (hops left : ℕ) → 2 ≤ hops → left ≡ hops - 1 → (before ≡ false → after ≡ false) → life after left < life before hops
falls-by true true hops left alive is silent = omega arith
falls-by true false hops left alive is silent = omega arith
falls-by false true hops left alive is silent = absurd (true-false (silent refl))
falls-by false false hops left alive is silent = omega arith

-- an error that answers a packet
pub answer-falls : (hops : ℕ) → life false 64 < life true hops
answer-falls hops = omega arith

pub bounded : (answered : Bool) (hops : ℕ) → hops < 256 → life answered hops ≤ 255 + 64
bounded true hops small = omega arith
bounded false hops small = omega arith

-- IPv4

pub made4 : (p : Ipv4Packet) → p.options ≡ [] → version_in (ipv4_bytes p) ≡ 4
made4 p none = ap (λ (l : List ℕ). (64 + 5 + length l / 4) / 16) none

-- a message whose type is cut off, or an error
pub perhaps-taken : (kinds : ℕ → Bool) (n kind : ℕ) (rest : List ℕ) → kinds kind ≡ true → is_perhaps_error kinds (take n (kind ∷ rest)) ≡ true
perhaps-taken kinds zero kind rest error = refl
perhaps-taken kinds (suc n) kind rest error = error

flag-small : (flag : Bool) → flag_bit flag < 2
flag-small true = omega arith
flag-small false = omega arith

pub first-false : (a b : Bool) → a ≡ false → (a && b) ≡ false
first-false true b is = absurd (true-false is)
first-false false b is = refl

pub second-false : (a b c : Bool) → b ≡ true → c ≡ true → (a && not (b && c)) ≡ false
second-false true true true is_b is_c = refl
second-false false b c is_b is_c = refl
second-false true false c is_b is_c = absurd (true-false (sym is_b))
second-false true true false is_b is_c = absurd (true-false (sym is_c))

-- the payload that is read is that of the packet, as far as its length tells
payload-taken : (p : Ipv4Packet) (kind : ℕ) (rest : List ℕ) → p.options ≡ [] → p.payload ≡ kind ∷ rest → (n : ℕ) × ((ipv4_fields (ipv4_bytes p)).payload ≡ take n (kind ∷ rest))
payload-taken p kind rest none is_payload =
    let q : Ipv4Packet = record p { options = [] } in
    let same : ipv4_bytes p ≡ ipv4_bytes q = ap (λ (l : List ℕ). ipv4_bytes (record p { options = l })) none in
    (total_length_in (ipv4_bytes q) - 20, ap (λ (l : List ℕ). (ipv4_fields l).payload) same ∙ ap (λ (l : List ℕ). take (total_length_in (ipv4_bytes q) - 20) l) is_payload)

-- a later fragment isn't answered
pub later-silent4 : (df : ℕ) (f : Fragment) → df < 2 → f.offset < 8192 → (f.offset ≡ 0 → ⊥) → may_answer4 (ipv4_bytes (packet4 df f)) ≡ false
later-silent4 df f small_df small later =
    let p : Ipv4Packet = packet4 df f in
    let word : ℕ = p.df * 16384 + p.mf * 8192 + p.offset in
    let flag = flag-small f.more in
    let is_word : field16 (ipv4_bytes p) 6 ≡ word = two-read word (omega arith) in
    let offset : field16 (ipv4_bytes p) 6 % 8192 ≡ f.offset = ap (λ n. n % 8192) is_word ∙ omega arith in
    first-false ((ipv4_fields (ipv4_bytes p)).offset == 0) _ (ne_eqb (field16 (ipv4_bytes p) 6 % 8192) 0 (λ (none : field16 (ipv4_bytes p) 6 % 8192 ≡ 0). later (sym offset ∙ none)))

-- nor is an ICMP error
pub message-silent4 : (p : Ipv4Packet) (kind : ℕ) (rest : List ℕ) → p.options ≡ [] → p.protocol ≡ 1 → p.payload ≡ kind ∷ rest → is_error_kind4 kind ≡ true
    → may_answer4 (ipv4_bytes p) ≡ false
message-silent4 p kind rest none icmp is_payload error =
    let bytes : List ℕ = ipv4_bytes p in
    second-false ((ipv4_fields bytes).offset == 0) ((ipv4_fields bytes).protocol == 1) (is_perhaps_error is_error_kind4 (ipv4_fields bytes).payload)
    (eq-eqb p.protocol 1 icmp)
    (ap (λ (l : List ℕ). is_perhaps_error is_error_kind4 l) (payload-taken p kind rest none is_payload).1
    ∙ perhaps-taken is_error_kind4 (payload-taken p kind rest none is_payload).0 kind rest error)

-- IPv6

pub made6 : (p : Ipv6Packet) → p.class < 256 → p.flow < 1048576 → version6_in (ipv6_bytes p) ≡ 6
made6 p small_class small_flow =
    version-written (length p.body) (record p { source = 0; destination = 0 }) (record { class = small_class; flow = small_flow; source = omega arith; destination = omega arith })

pub body-read : (p : Ipv6Packet) → length p.body < 65536 → (ipv6_fields (ipv6_bytes p)).body ≡ p.body
body-read p small = ap (λ n. take n p.body) (two-read (length p.body) small) ∙ take_all (length p.body) p.body (omega arith)

-- whether a packet is answered, by its walk
abbrev pub answered-by : Ipv6Packet → Result Walked Trouble → Bool
answered-by q r = option_map_or (is_answerable 58 is_error_kind6) (fragment_if q r) false

silent-if : (q : Ipv6Packet) (short behind : Bool) (w : Walked) → is_answerable 58 is_error_kind6 (fragment_by q w) ≡ false
    → answered-by q (if short then Err runs_short else if behind then Err behind_fragment else Ok w) ≡ false
silent-if q true behind w silent = refl
silent-if q false true w silent = refl
silent-if q false false w silent = silent

-- a later fragment isn't answered
pub later-silent6 : (f : Fragment) → f.offset < 8192 → (f.offset ≡ 0 → ⊥) → 8 + length f.bytes < 65536 → may_answer6 (ipv6_bytes (fragment_packet6 f)) ≡ false
later-silent6 f small later fits =
    let p : Ipv6Packet = fragment_packet6 f in
    let q : Ipv6Packet = ipv6_fields (ipv6_bytes p) in
    let value : ℕ = 8 * f.offset + flag_bit f.more in
    let flag = flag-small f.more in
    let two : field16 p.body 2 ≡ value = two-read value (omega arith) in
    let offset : field16 p.body 2 / 8 ≡ f.offset = ap (λ n. n / 8) two ∙ omega arith in
    ap (λ (l : List ℕ). answered-by (record q { body = l }) (walk_of 44 l)) (body-read p (omega arith))
    ∙ silent-if (record q { body = p.body }) (nat_lt (length p.body) 8) (is_extension (field8 p.body 0)) _
    (first-false (field16 p.body 2 / 8 == 0) _ (ne_eqb (field16 p.body 2 / 8) 0 (λ (none : field16 p.body 2 / 8 ≡ 0). later (sym offset ∙ none))))

-- nor is an ICMPv6 error
pub message-silent6 : (p : Ipv6Packet) (kind : ℕ) (rest : List ℕ) → p.next ≡ 58 → p.body ≡ kind ∷ rest → is_error_kind6 kind ≡ true → may_answer6 (ipv6_bytes p) ≡ false
message-silent6 p kind rest is_next is_body error =
    let q : Ipv6Packet = ipv6_fields (ipv6_bytes p) in
    let n : ℕ = payload_length_in (ipv6_bytes p) in
    ap (λ (k : ℕ). answered-by (record q { next = k }) (walk_of k q.body)) is_next
    ∙ ap (λ (l : List ℕ). answered-by (record q { next = 58; body = take n l }) (walk_of 58 (take n l))) is_body
    ∙ ap not (perhaps-taken is_error_kind6 n kind rest error)
