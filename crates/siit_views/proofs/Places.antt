-- Parts of a list, as a packet's place in its room moves and as the room is written.
use Rattle.std.proofs.Common.{◌≡◌, ℕ, zero, suc, ◌+◌, ◌-◌, ◌≤◌, List, [], ◌∷◌, ◌++◌, ◌∙◌, ap, sym, length, take, drop, arith, length-drop}
use Rattle.std.specs.List.{slice_range, copy_within}
use Rattle.std.proofs.Math.Seq.{take-append-add}
use Rattle.std.proofs.lemmas.List.{drop-take, drop-drop, take-take, take-append-le, take_at, drop_at, length-take-le, append_assoc as assoc}
use Rattle.std.proofs.lemmas.Slice.{between_is}
use Rattle.siit_views.specs.Contents.{rewritten}

-- the part behind its first n bytes
pub slice_range-drop : (xs : List ℕ) (start n end : ℕ) → start + n ≤ end → slice_range xs (start + n) end ≡ drop n (slice_range xs start end)
slice_range-drop xs start n end fits =
    let rest : ℕ = end - (start + n) in
    let sum : end - start ≡ n + rest = omega arith in
    ap (take rest) (sym (drop-drop n start xs)) ∙ sym (drop-take n rest (drop start xs)) ∙ sym (ap (λ k. drop n (take k (drop start xs))) sum)

-- the first k of two lists joined
pub take-append : (k : ℕ) (xs ys : List ℕ) → take k (xs ++ ys) ≡ take k xs ++ take (k - length xs) ys
take-append zero xs ys = let none : 0 - length xs ≡ 0 = omega arith in rw none
take-append (suc k) [] ys = let same : suc k - 0 ≡ suc k = omega arith in rw same
take-append (suc k) (x ∷ xs) ys =
    let same : suc k - suc (length xs) ≡ k - length xs = omega arith in
    rw same (ap (λ l. x ∷ l) (take-append k xs ys))

-- what stands at a place once zs was written there
pub take-drop-take : (n start k : ℕ) (xs zs ys : List ℕ) → start ≤ length xs → start + k ≤ n → take k (drop start (take n ((take start xs ++ zs) ++ ys))) ≡ take k (zs ++ ys)
take-drop-take n start k xs zs ys here fits =
    let m : ℕ = n - start in
    let sum : n ≡ start + m = omega arith in
    ap (λ i. take k (drop start (take i ((take start xs ++ zs) ++ ys)))) sum
    ∙ ap (take k) (drop-take start m ((take start xs ++ zs) ++ ys))
    ∙ take-take k m (drop start ((take start xs ++ zs) ++ ys)) (omega arith)
    ∙ ap (take k) (ap (drop start) (assoc (take start xs) zs ys) ∙ drop_at (take start xs) (zs ++ ys) start (length-take-le start xs here))

-- the room after bytes were written over it from start on
abbrev pub written : ℕ → ℕ → List ℕ → List ℕ → List ℕ
written size start xs zs =
    take size ((take start xs ++ (zs ++ drop (length zs) (drop start xs))) ++ drop (length (take start xs ++ (zs ++ drop (length zs) (drop start xs)))) xs)

-- bytes that were written stand there
pub slice_range-written : (size start end : ℕ) (xs zs : List ℕ) → start ≤ length xs → start ≤ end → end ≤ size → length zs ≡ end - start → slice_range (written size start xs zs) start end ≡ zs
slice_range-written size start end xs zs here ordered fits all =
    let left : List ℕ = drop (length zs) (drop start xs) in
    let behind : List ℕ = drop (length (take start xs ++ (zs ++ left))) xs in
    take-drop-take size start (end - start) xs (zs ++ left) behind here (omega arith)
    ∙ ap (take (end - start)) (assoc zs left behind) ∙ take_at zs (left ++ behind) (end - start) all

-- bytes that were written before a packet stand before it
pub slice_range-grown : (size start n end : ℕ) (xs zs : List ℕ) → size ≡ length xs → start + n ≤ end → end ≤ size → length zs ≡ n → slice_range (written size start xs zs) start end ≡ zs ++ slice_range xs (start + n) end
slice_range-grown size start n end xs zs whole ordered fits all =
    let left : List ℕ = drop (length zs) (drop start xs) in
    let behind : List ℕ = drop (length (take start xs ++ (zs ++ left))) xs in
    let k : ℕ = end - (start + n) in
    let sum : end - start ≡ length zs + k = omega arith in
    let same : left ≡ drop (start + n) xs = drop-drop (length zs) start xs ∙ ap (λ i. drop (start + i) xs) all in
    let enough : k ≤ length left = omega (arith, ap length same, length-drop (start + n) xs) in
    take-drop-take size start (end - start) xs (zs ++ left) behind (omega arith) (omega arith)
    ∙ ap (take (end - start)) (assoc zs left behind) ∙ ap (λ i. take i (zs ++ (left ++ behind))) sum
    ∙ take-append-add zs (left ++ behind) k
    ∙ ap (λ l. zs ++ l) (take-append-le k left behind enough ∙ ap (take k) same)

-- a part that was lent holds what was left in it
pub slice_range-lent : (size start end : ℕ) (xs zs : List ℕ) → size ≡ length xs → start ≤ end → end ≤ size → slice_range (written size start xs zs) start end ≡ rewritten (slice_range xs start end) zs
slice_range-lent size start end xs zs whole ordered fits =
    let rest : List ℕ = drop start xs in
    let left : List ℕ = drop (length zs) rest in
    let behind : List ℕ = drop (length (take start xs ++ (zs ++ left))) xs in
    let k : ℕ = end - start in
    let is_k : length (take k rest) ≡ k = length-take-le k rest (omega (arith, length-drop start xs)) in
    let enough : k - length zs ≤ length left = omega (arith, length-drop (length zs) rest, length-drop start xs) in
    take-drop-take size start k xs (zs ++ left) behind (omega arith) (omega arith)
    ∙ ap (take k) (assoc zs left behind) ∙ take-append k zs (left ++ behind)
    ∙ ap (λ l. take k zs ++ l) (take-append-le (k - length zs) left behind enough ∙ between_is rest (length zs) k
    ∙ ap (drop (length zs)) (sym (take-take k k rest (omega arith))) ∙ sym (between_is (take k rest) (length zs) k))
    ∙ sym (take-append k zs (drop (length zs) (take k rest)))
    ∙ ap (λ i. take i (zs ++ drop (length zs) (take k rest))) (sym is_k)

-- what was left has the length of what was lent
pub rewritten-same : (lent left : List ℕ) → length left ≡ length lent → rewritten lent left ≡ left
rewritten-same lent left same = take_at left (drop (length left) lent) (length lent) same

-- bytes that were moved stand at their new place
pub slice_range-copy_within : (start end to : ℕ) (xs : List ℕ) → to ≤ length xs → start ≤ end → end ≤ length xs → slice_range (copy_within xs start end to) to (to + (end - start)) ≡ slice_range xs start end
slice_range-copy_within start end to xs here ordered fits =
    let k : ℕ = end - start in
    let moved : List ℕ = take k (drop start xs) in
    let behind : List ℕ = drop (to + k) xs in
    let sum : to + k - to ≡ k = omega arith in
    ap (λ i. take i (drop to ((take to xs ++ moved) ++ behind))) sum
    ∙ ap (take k) (ap (drop to) (assoc (take to xs) moved behind) ∙ drop_at (take to xs) (moved ++ behind) to (length-take-le to xs here))
    ∙ take_at moved behind k (length-take-le k (drop start xs) (omega (arith, length-drop start xs)))
