-- The bucket of an address, and the addresses of a bucket.
use Rattle.std.proofs.Common.{◌≡◌, ℕ, suc, ◌+◌, ◌-◌, ◌*◌, ◌/◌, ◌%◌, ◌^◌, ◌<◌, ◌≤◌, min, refl, ap, ◌∙◌, arith}
use Rattle.std.proofs.lemmas.Nat.{mul-le, div-add-mod', div-mul-add, le-div, mod_below}

product_le : (n x m : ℕ) → n ≤ x / m → n * m ≤ x
product_le n x m le = omega (arith, mul-le n m (x / m) m le (omega arith), div-add-mod' x m)

below_next : (n x m : ℕ) → 0 < m → x / m ≤ n → x < (n + 1) * m
below_next n x m pos le =
    let whole = div-add-mod' x m in
    let rest = mod_below x m pos in
    let product = mul-le (x / m + 1) m (n + 1) m (omega arith) (omega arith) in
    let spread : (x / m + 1) * m ≡ x / m * m + m = omega arith in
    omega arith

-- buckets of m addresses from the lowest one on, of which the last has this number
module _ (lowest m last : ℕ) (pos : 0 < m) where
  pub first_is_below : (number address : ℕ) → 0 < number → number ≤ min ((address - lowest) / m) last → lowest + number * m ≤ address
  first_is_below number address some le =
      let product = product_le number (address - lowest) m (omega arith) in
      let least = mul-le 1 m number m (omega arith) (omega arith) in
      let once : 1 * m ≡ m = omega arith in
      omega arith

  pub last_is_above : (number address : ℕ) → number < last → min ((address - lowest) / m) last ≤ number → address < lowest + (number + 1) * m
  last_is_above number address less le =
      let below = below_next number (address - lowest) m pos (omega arith) in
      omega arith

  pub bucket_of_first : (number : ℕ) → number ≤ last → min ((lowest + number * m - lowest) / m) last ≡ number
  bucket_of_first number le =
      let same : lowest + number * m - lowest ≡ number * m + 0 = omega arith in
      let quotient = ap (λ x. x / m) same ∙ div-mul-add number m 0 pos in
      omega arith

  pub bucket_of_last : (number : ℕ) → number < last → min ((lowest + (number + 1) * m - 1 - lowest) / m) last ≡ number
  bucket_of_last number less =
      let same : lowest + (number + 1) * m - 1 - lowest ≡ number * m + (m - 1) = omega arith in
      let quotient = ap (λ x. x / m) same ∙ div-mul-add number m (m - 1) (omega arith) in
      omega arith

  pub bucket_of_highest : (highest : ℕ) → lowest + last * m ≤ highest → min ((highest - lowest) / m) last ≡ last
  bucket_of_highest highest within =
      let quotient = le-div last (highest - lowest) m pos (omega arith) in
      omega arith
