-- A translated quote before an extension, or to the end.
use Rattle.std.proofs.Common.{◌≡◌, ℕ, ◌+◌, ◌-◌, ◌*◌, ◌/◌, ◌≤◌, List, ◌++◌, length, take, drop, replicate, ◌∙◌, ap, sym, subst, arith, append_assoc, length-append, length-drop}
use Rattle.std.proofs.lemmas.List.{append-nil, drop_all, drop_at, drop-drop, length-replicate, length-take, take_at, take_rest}
use Rattle.siit_model.specs.Bytes.{part}
use Rattle.siit_quoted.specs.Bodies.{joined, padded, padding, room6}
use Rattle.siit_quoted.specs.Laws.{IsCarriedIf6}
use Rattle.siit_quoted.specs.Rewriting.{new_body_to_6}
use Rattle.std.proofs.Common.{Bool, Option, None, Some}
use Rattle.siit_quoted.specs.Quoted.{quoted4_fields}
use Rattle.siit_quoted.specs.Quotes.{quote_to_6}

-- the part that ends with the packet, and the part before a place
pub part-rest : (seen old : List ℕ) (at : ℕ) → seen ≡ old → part old at (length seen - at) ≡ drop at old
part-rest seen old at same = ap (λ (b : List ℕ). take (length b - at) (drop at old)) same ∙ take_rest old at

pub part-front : (old : List ℕ) (at place : ℕ) → part old at (at + place - at) ≡ take place (drop at old)
part-front old at place = let size : at + place - at ≡ place = omega arith in ap (λ n. take n (drop at old)) size

pub fits-rest : (count : List ℕ → ℕ) (one other old : List ℕ) (at end : ℕ) → one ≡ other → length old ≤ end → at + count other ≤ 65575 → at + count one + (length old - end) ≤ 65575
fits-rest count one other old at end same past fits = let is : count one ≡ count other = ap count same in omega arith

pub rest-gone : (made : List ℕ → List ℕ) (new front one other old : List ℕ) (end : ℕ) → one ≡ other → length old ≤ end → new ≡ front ++ made one ++ drop end old → new ≡ front ++ made other
rest-gone made new front one other old end same past is =
    is ∙ ap (λ l. front ++ made one ++ l) (drop_all end old past) ∙ append-nil (front ++ made one) ∙ ap (λ q. front ++ made q) same

-- before an extension

pub room-is : (seen old : List ℕ) (end : ℕ) → seen ≡ old → (1232 - (length seen - end)) / 8 * 8 ≡ room6 (Some (drop end old))
room-is seen old end same = ap (λ (b : List ℕ). (1232 - (length b - end)) / 8 * 8) same ∙ ap (λ n. (1232 - n) / 8 * 8) (sym (length-drop end old))

pub padded-length : (unit : ℕ) (quote : List ℕ) → length (padded unit quote) ≡ length quote + padding unit (length quote)
padded-length unit quote =
    length-append quote (replicate (padding unit (length quote)) 0) ∙ ap (λ n. length quote + n) (length-replicate (padding unit (length quote)) 0)

pub joined-length : (unit : ℕ) (quote extension : List ℕ) → length (joined unit quote extension).bytes ≡ length quote + padding unit (length quote) + length extension
joined-length unit quote extension = length-append (padded unit quote) extension ∙ ap (λ n. n + length extension) (padded-length unit quote)

pub told : (len : ℕ) → len ≤ 1232 → (len + padding 8 len) / 8 ≤ 255
told len most = omega arith

-- the packet with a quote, zeros and an extension
pub extended-is : (front quote extension l1 l2 : List ℕ) (at len unit : ℕ) → at ≡ length front → len ≡ length quote
    → l1 ≡ front ++ quote ++ extension → l2 ≡ take (at + len) l1 ++ replicate (padding unit len) 0 ++ drop (at + len) l1
    → l2 ≡ front ++ (joined unit quote extension).bytes
extended-is front quote extension l1 l2 at len unit is_at is_len is_l1 is_l2 =
    let size : length (front ++ quote) ≡ at + len = omega (arith, length-append front quote) in
    is_l2
    ∙ ap (λ l. l ++ replicate (padding unit len) 0 ++ drop (at + len) l1) (ap (take (at + len)) is_l1 ∙ take_at (front ++ quote) extension (at + len) size)
    ∙ ap (λ l. front ++ quote ++ replicate (padding unit len) 0 ++ l) (ap (drop (at + len)) is_l1 ∙ drop_at (front ++ quote) extension (at + len) size)
    ∙ ap (λ n. front ++ quote ++ replicate (padding unit n) 0 ++ extension) is_len
    ∙ simp append_assoc

pub joined-inside : (front quote rest l1 : List ℕ) (at len : ℕ) → at ≡ length front → len ≡ length quote → l1 ≡ front ++ quote ++ rest → length l1 ≡ at + len + length rest
joined-inside front quote rest l1 at len is_at is_len is = omega (arith, ap length is, length-append (front ++ quote) rest, length-append front quote)

pub less-by : (at one quote filled extension rest : ℕ) → one ≡ quote → extension ≡ rest → at + (quote + filled + extension) ≤ 65575 → at + one + rest ≤ 65575
less-by at one quote filled extension rest is_one is_rest fits = omega arith

pub padded-fits : (at len quote extension whole : ℕ) → len ≡ quote → whole ≡ at + len + extension → at + (quote + padding 8 quote + extension) ≤ 65575 → padding 8 len + whole ≤ 65575
padded-fits at len quote extension whole same is fits = subst (λ n. padding 8 n + whole ≤ 65575) (sym same) (omega arith)

pub taken-most : (k : ℕ) (xs : List ℕ) → length (take k xs) ≤ k
taken-most k xs = omega (arith, length-take k xs)

-- the new body with an extension, by its place
pub body-extended : (source destination place from at : ℕ) (tos_zero : Bool) (ext : Option ℕ) (old : List ℕ) → ext ≡ Some place → from ≡ place →
    let extension = drop (at + from) old in
    new_body_to_6 source destination tos_zero ext (drop at old)
    ≡ joined 8 (take (room6 (Some extension)) (quote_to_6 source destination tos_zero (quoted4_fields (take from (drop at old))))) extension
body-extended source destination place from at tos_zero ext old some same =
    let made = λ (p : ℕ) (extension : List ℕ). joined 8 (take (room6 (Some extension)) (quote_to_6 source destination tos_zero (quoted4_fields (take p (drop at old))))) extension in
    ap (λ (e : Option ℕ). new_body_to_6 source destination tos_zero e (drop at old)) some
    ∙ ap (made place) (drop-drop place at old)
    ∙ ap (λ p. made p (drop (at + p) old)) (sym same)

joined-most : (len e : ℕ) → len ≤ (1232 - e) / 8 * 8 → e ≤ 1104 → len + padding 8 len + e ≤ 1232
joined-most len e most few = omega arith

pub body6-most : (source destination : ℕ) (tos_zero : Bool) (ext : Option ℕ) (body : List ℕ) → IsCarriedIf6 ext body
    → length (new_body_to_6 source destination tos_zero ext body).bytes ≤ 1232
body6-most source destination tos_zero None body carried = taken-most 1232 (quote_to_6 source destination tos_zero (quoted4_fields body))
body6-most source destination tos_zero (Some place) body carried =
    let extension : List ℕ = drop place body in
    let quote : List ℕ = take (room6 (Some extension)) (quote_to_6 source destination tos_zero (quoted4_fields (take place body))) in
    let few = carried.few in
    let e : length extension ≡ length body - place = length-drop place body in
    subst (λ n. n ≤ 1232) (sym (joined-length 8 quote extension))
    (joined-most (length quote) (length extension) (taken-most (room6 (Some extension)) (quote_to_6 source destination tos_zero (quoted4_fields (take place body)))) (omega (arith, e, few)))
