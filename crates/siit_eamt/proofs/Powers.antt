-- Prefixes as ranges of numbers.
use Rattle.std.proofs.Common.{◌≡◌, ℕ, ◌+◌, ◌-◌, ◌*◌, ◌/◌, ◌%◌, ◌^◌, ◌<◌, ◌≤◌, sym, ap, ◌∙◌, subst, arith}
use Rattle.std.proofs.lemmas.Nat.{pow_pos, pow-add, shl_below, shr_below, div-mul-add, mod-mul-add, mod-pow-add}
use Rattle.std.proofs.Math.Nat.{mul-le-mul_left, lt_of_mul-lt-mul_left}

-- a number that agrees with a multiple of m in all but the last places lies no more than m above it
pub above_multiple : (a p m : ℕ) → 0 < m → a / m ≡ p / m → p % m ≡ 0 → (p ≤ a) × (a - p < m)
above_multiple a p m pos same clean = let e = ap (λ t. m * t) same in (omega arith, omega arith)

-- and the other way round
pub agrees_above : (p d m : ℕ) → d < m → p % m ≡ 0 → (p + d) / m ≡ p / m
agrees_above p d m small clean =
    let e : p + d ≡ p / m * m + d = omega arith in
    ap (λ t. t / m) e ∙ div-mul-add (p / m) m d small

-- two multiples of m differ by m or more
pub multiples_apart : (p q m : ℕ) → 0 < m → p % m ≡ 0 → q % m ≡ 0 → p < q → p + m ≤ q
multiples_apart p q m pos pm qm less =
    let k : p / m < q / m = lt_of_mul-lt-mul_left m (omega arith) in
    omega (arith, mul-le-mul_left m k)

-- a multiple of 2^k is one of each lower power
pub multiple_below : (p j k : ℕ) → j ≤ k → p % 2 ^ k ≡ 0 → p % 2 ^ j ≡ 0
multiple_below p j k le h =
    let e : (k - j) + j ≡ k = omega arith in
    let split = mod-pow-add p (k - j) j in
    let whole : p % 2 ^ ((k - j) + j) ≡ 0 = subst (λ n. p % 2 ^ n ≡ 0) (sym e) h in
    omega (arith, split, whole)

-- a higher power of 2 is a multiple of a lower one
pub pow-multiple : (j k : ℕ) → j ≤ k → 2 ^ k % 2 ^ j ≡ 0
pow-multiple j k le =
    let e : (k - j) + j ≡ k = omega arith in
    let product : 2 ^ (k - j) * 2 ^ j + 0 ≡ 2 ^ k = omega (arith, pow-add 2 (k - j) j, ap (λ n. 2 ^ n) e) in
    ap (λ t. t % 2 ^ j) (sym product) ∙ mod-mul-add (2 ^ (k - j)) (2 ^ j) 0 (pow_pos j)

-- a multiple of 2^j below 2^k has room for 2^j above it
pub room_above : (p j k : ℕ) → j ≤ k → p < 2 ^ k → p % 2 ^ j ≡ 0 → p + 2 ^ j ≤ 2 ^ k
room_above p j k le below clean = multiples_apart p (2 ^ k) (2 ^ j) (pow_pos j) clean (pow-multiple j k le) below

-- an IPv4 suffix moved up behind an IPv6 prefix, and back
pub suffix_up : (l4 l6 d : ℕ) → l4 ≤ 32 → l6 ≤ 96 + l4 → d < 2 ^ (32 - l4) → d * 2 ^ (96 + l4 - l6) < 2 ^ (128 - l6)
suffix_up l4 l6 d in_range room below =
    let e : (32 - l4) + (96 + l4 - l6) ≡ 128 - l6 = omega arith in
    subst (λ n. d * 2 ^ (96 + l4 - l6) < 2 ^ n) e (shl_below d (32 - l4) (96 + l4 - l6) below)

pub suffix_down : (l4 l6 d : ℕ) → l4 ≤ 32 → l6 ≤ 96 + l4 → d < 2 ^ (128 - l6) → d / 2 ^ (96 + l4 - l6) < 2 ^ (32 - l4)
suffix_down l4 l6 d in_range room below =
    let e : (32 - l4) + (96 + l4 - l6) ≡ 128 - l6 = omega arith in
    shr_below d (32 - l4) (96 + l4 - l6) (subst (λ n. d < 2 ^ n) (sym e) below)
