-- The parts of a packet that was cut from the bytes behind it, as the fields of all the bytes.
use Rattle.std.proofs.Common.{◌≡◌, ◌∙◌, ℕ, ◌+◌, ◌-◌, ◌≤◌, List, take, drop, arith, ap}
use Rattle.std.proofs.lemmas.List.{take-take, drop-take}

-- the first of the first bytes
pub front-front : (bytes packet front : List ℕ) (n total : ℕ) → packet ≡ take total bytes → front ≡ take n packet → n ≤ total → front ≡ take n bytes
front-front bytes packet front n total is_packet is_front inside = is_front ∙ ap (take n) is_packet ∙ take-take n total bytes inside

-- what follows some of the first bytes
pub front-rest : (bytes packet rest : List ℕ) (n total : ℕ) → packet ≡ take total bytes → rest ≡ drop n packet → n ≤ total → rest ≡ take (total - n) (drop n bytes)
front-rest bytes packet rest n total is_packet is_rest inside =
    let more : ℕ = total - n in
    let sum : total ≡ n + more = omega arith in
    is_rest ∙ ap (drop n) (is_packet ∙ ap (λ (k : ℕ). take k bytes) sum) ∙ drop-take n more bytes
