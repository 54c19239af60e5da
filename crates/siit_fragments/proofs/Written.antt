-- A piece's bytes are those of its packet.
use Rattle.std.proofs.Common.{◌≡◌, ℕ, ◌+◌, ◌-◌, ◌*◌, ◌/◌, ◌%◌, ◌<◌, ◌≤◌, min, List, length, take, drop, Bool, true, false, not, ◌||◌, ◌==◌, nat_lt, ◌∙◌, ap, sym, arith, eq-eqb, ne_eqb, length-drop, ⊎_elim}
use Rattle.std.proofs.lemmas.Bool.{cases_lt, lt-ltb, le-ltb}
use Rattle.std.proofs.lemmas.List.{drop-take, drop-drop, take_min}
use Rattle.siit_model.specs.Bytes.{part}
use Rattle.siit_model.specs.Ipv4.{ipv4_bytes}
use Rattle.siit_model.specs.Ipv6.{ipv6_bytes}
use Rattle.siit_model.specs.Fragments.{Fragment}
use Rattle.siit_model.specs.Fragments.{fragment_packet6, packet4}
use Rattle.siit_model.specs.Bytes.{flag_bit}
use Rattle.siit_fragments.specs.Fronts.{word_on, fragment_word_on, fronted4, fronted6}

pub flag-small : (flag : Bool) → flag_bit flag < 2
flag-small true = omega arith
flag-small false = omega arith

-- the flag behind a number that holds it in its lowest bit
flag-lowest : (n : ℕ) (flag : Bool) → n % 2 ≡ flag_bit flag → (n % 2 == 1) ≡ flag
flag-lowest n true is = eq-eqb (n % 2) 1 is
flag-lowest n false is = ne_eqb (n % 2) 1 (λ (odd : n % 2 ≡ 1). omega arith)

pub word4 : (df offset blocks : ℕ) (more last : Bool) → df < 2 → offset < 8192
    → word_on (df * 16384 + flag_bit more * 8192 + offset) blocks last ≡ df * 16384 + flag_bit (more || not last) * 8192 + (offset + blocks)
word4 df offset blocks more last small_df small =
    let word : ℕ = df * 16384 + flag_bit more * 8192 + offset in
    let flag = flag-small more in
    let high : word / 16384 ≡ df = omega arith in
    let bit : word / 8192 % 2 ≡ flag_bit more = omega arith in
    let low : word % 8192 ≡ offset = omega arith in
    ap (λ n. n * 16384 + flag_bit ((word / 8192 % 2 == 1) || not last) * 8192 + (word % 8192 + blocks)) high
    ∙ ap (λ b. df * 16384 + flag_bit (b || not last) * 8192 + (word % 8192 + blocks)) (flag-lowest (word / 8192) more bit)
    ∙ ap (λ n. df * 16384 + flag_bit (more || not last) * 8192 + (n + blocks)) low

pub word6 : (offset blocks : ℕ) (more last : Bool) → fragment_word_on (8 * offset + flag_bit more) blocks last ≡ 8 * (offset + blocks) + flag_bit (more || not last)
word6 offset blocks more last =
    let word : ℕ = 8 * offset + flag_bit more in
    let flag = flag-small more in
    let high : word / 8 ≡ offset = omega arith in
    let bit : word % 2 ≡ flag_bit more = omega arith in
    ap (λ n. 8 * (n + blocks) + flag_bit ((word % 2 == 1) || not last)) high
    ∙ ap (λ b. 8 * (offset + blocks) + flag_bit (b || not last)) (flag-lowest word more bit)

-- the last piece is the one that ends with the packet
pub not-last : (len from unit header : ℕ) → from + header < header + len → not (min (header + len) (from + header + unit) == (header + len)) ≡ nat_lt (from + unit) len
not-last len from unit header begins =
    ⊎_elim
    (λ (inner : from + unit < len).
    ap not (ne_eqb (min (header + len) (from + header + unit)) (header + len) (λ (e : min (header + len) (from + header + unit) ≡ header + len). omega arith))
    ∙ sym (lt-ltb (from + unit) len inner))
    (λ (last : len ≤ from + unit).
    ap not (eq-eqb (min (header + len) (from + header + unit)) (header + len) (omega arith)) ∙ sym (le-ltb (from + unit) len last))
    (cases_lt (from + unit) len)

-- what was loaded behind its first bytes, where the packet has so many header bytes before its own
pub loaded-behind : (header : ℕ) (whole bytes : List ℕ) (from unit : ℕ) → drop header whole ≡ bytes → length whole ≡ header + length bytes → from < length bytes
    → drop header (take (min (header + length bytes) (from + header + unit) - from) (drop from whole)) ≡ part bytes from unit
loaded-behind header whole bytes from unit is_bytes size begins =
    let n : ℕ = min unit (length bytes - from) in
    let all : min (header + length bytes) (from + header + unit) - from ≡ header + n = omega arith in
    let left : length (drop from bytes) ≡ length bytes - from = length-drop from bytes in
    ap (λ k. drop header (take k (drop from whole))) all
    ∙ drop-take header n (drop from whole)
    ∙ ap (λ l. take n l) (drop-drop header from whole ∙ ap (λ k. drop k whole) (omega arith) ∙ sym (drop-drop from header whole) ∙ ap (λ l. drop from l) is_bytes)
    ∙ ap (λ k. take (min unit k) (drop from bytes)) (sym left)
    ∙ take_min unit (drop from bytes)

-- the piece's packet, by its parts
pub made4 : (df : ℕ) (f g : Fragment) (len word : ℕ) (rest : List ℕ) → g.common ≡ f.common → g.id ≡ f.id → rest ≡ g.bytes → len ≡ 20 + length g.bytes
    → word ≡ df * 16384 + flag_bit g.more * 8192 + g.offset
    → fronted4 (take 20 (ipv4_bytes (packet4 df f))) len word rest ≡ ipv4_bytes (packet4 df g)
made4 df f g len word rest common id is_rest is_len is_word =
    ap (λ w. fronted4 (take 20 (ipv4_bytes (packet4 df f))) len w rest) is_word
    ∙ ap (λ n. fronted4 (take 20 (ipv4_bytes (packet4 df f))) n (df * 16384 + flag_bit g.more * 8192 + g.offset) rest) is_len
    ∙ ap (λ l. fronted4 (take 20 (ipv4_bytes (packet4 df f))) (20 + length g.bytes) (df * 16384 + flag_bit g.more * 8192 + g.offset) l) is_rest
    ∙ ap (λ c. ipv4_bytes (packet4 df (record g { common = c; id = f.id }))) (sym common)
    ∙ ap (λ n. ipv4_bytes (packet4 df (record g { id = n }))) (sym id)

pub made6 : (f g : Fragment) (len word : ℕ) (rest : List ℕ) → g.common ≡ f.common → g.id ≡ f.id → rest ≡ g.bytes → len ≡ length (fragment_packet6 g).body
    → word ≡ 8 * g.offset + flag_bit g.more
    → fronted6 (take 48 (ipv6_bytes (fragment_packet6 f))) len word rest ≡ ipv6_bytes (fragment_packet6 g)
made6 f g len word rest common id is_rest is_len is_word =
    ap (λ w. fronted6 (take 48 (ipv6_bytes (fragment_packet6 f))) len w rest) is_word
    ∙ ap (λ n. fronted6 (take 48 (ipv6_bytes (fragment_packet6 f))) n (8 * g.offset + flag_bit g.more) rest) is_len
    ∙ ap (λ l. fronted6 (take 48 (ipv6_bytes (fragment_packet6 f))) (length (fragment_packet6 g).body) (8 * g.offset + flag_bit g.more) l) is_rest
    ∙ ap (λ c. ipv6_bytes (fragment_packet6 (record g { common = c; id = f.id }))) (sym common)
    ∙ ap (λ n. ipv6_bytes (fragment_packet6 (record g { id = n }))) (sym id)
