-- Lists that are cut and joined as a quote is rewritten where it lies.
use Rattle.std.proofs.Common.{◌≡◌, ℕ, ◌+◌, ◌-◌, ◌≤◌, List, ◌++◌, length, min, take, drop, ◌∙◌, ap, sym, arith, append_assoc, length-append}
use Rattle.std.proofs.lemmas.List.{take_at, drop_at, take-append-le, take_min}
use lib.Seq.{take-append-add}

-- A part of header, upper bytes and what is behind them, between others: it is cut behind `kept` of the upper bytes,
-- and gets another header.
pub rewritten-is : (front header upper behind rest written l1 l2 l3 : List ℕ) (at hl kept place n : ℕ)
    → at ≡ length front → hl ≡ length header → kept ≤ length upper → place ≡ at + hl + kept → place + n ≡ at + length ((header ++ upper) ++ behind)
    → l1 ≡ front ++ ((header ++ upper) ++ behind) ++ rest → l2 ≡ take place l1 ++ drop (place + n) l1 → l3 ≡ take at l2 ++ written ++ drop (at + hl) l2
    → l3 ≡ front ++ (written ++ take kept upper) ++ rest
rewritten-is front header upper behind rest written l1 l2 l3 at hl kept place n is_at is_hl inside is_place is_end is_l1 is_l2 is_l3 =
    let grouped : l1 ≡ (front ++ header) ++ (upper ++ (behind ++ rest)) = is_l1 ∙ simp append_assoc in
    let size : place ≡ length (front ++ header) + kept = omega (arith, length-append front header) in
    let first : take place l1 ≡ (front ++ header) ++ take kept upper =
    ap (λ k. take k l1) size ∙ ap (take (length (front ++ header) + kept)) grouped ∙ take-append-add (front ++ header) (upper ++ (behind ++ rest)) kept
    ∙ ap (λ l. (front ++ header) ++ l) (take-append-le kept upper (behind ++ rest) inside) in
    let last : drop (place + n) l1 ≡ rest =
    ap (drop (place + n)) is_l1 ∙ drop_at (front ++ ((header ++ upper) ++ behind)) rest (place + n) (omega (arith, length-append front ((header ++ upper) ++ behind))) in
    let cut : l2 ≡ ((front ++ header) ++ take kept upper) ++ rest = is_l2 ∙ ap (λ l. l ++ drop (place + n) l1) first ∙ ap (λ l. ((front ++ header) ++ take kept upper) ++ l) last in
    let one : take at l2 ≡ front =
    ap (take at) (cut ∙ append_assoc (front ++ header) (take kept upper) rest ∙ append_assoc front header (take kept upper ++ rest))
    ∙ take_at front (header ++ (take kept upper ++ rest)) at (sym is_at) in
    let other : drop (at + hl) l2 ≡ take kept upper ++ rest =
    ap (drop (at + hl)) (cut ∙ append_assoc (front ++ header) (take kept upper) rest)
    ∙ drop_at (front ++ header) (take kept upper ++ rest) (at + hl) (omega (arith, length-append front header)) in
    is_l3 ∙ ap (λ l. l ++ written ++ drop (at + hl) l2) one ∙ ap (λ l. front ++ written ++ l) other ∙ simp append_assoc

-- the front of a quote of two headers and upper bytes
pub quote-taken : (one two upper : List ℕ) (limit kept : ℕ) → length one + length two ≤ limit
    → kept ≡ min (length upper) (limit - (length one + length two))
    → take limit (one ++ (two ++ upper)) ≡ (one ++ two) ++ take kept upper
quote-taken one two upper limit kept fits is_kept =
    let k : ℕ = limit - (length one + length two) in
    let size : limit ≡ length (one ++ two) + k = omega (arith, length-append one two) in
    let flipped : kept ≡ min k (length upper) = omega arith in
    ap (take limit) (sym (append_assoc one two upper)) ∙ ap (λ n. take n ((one ++ two) ++ upper)) size ∙ take-append-add (one ++ two) upper k
    ∙ ap (λ l. (one ++ two) ++ l) (sym (ap (λ n. take n upper) flipped ∙ take_min k upper))
