-- What follows the extension headers changes nothing of the walk over them.
use Rattle.std.proofs.Common.{◌≡◌, ℕ, zero, suc, ◌+◌, ◌*◌, ◌<◌, ◌≤◌, List, [], ◌∷◌, ◌++◌, length, take, drop, Bool, true, false, not, ◌&&◌, ◌||◌, ◌==◌, nat_lt, if◌then◌else◌, Option, Some, None, Result, Ok, Err, ◌∙◌, ap, sym, refl, arith, append_assoc, length-append, length-drop, le-ltb}
use Rattle.std.proofs.lemmas.Bool.{ltb-false}
use Rattle.std.proofs.lemmas.List.{drop_at, get_or-take, length-take-le}
use Rattle.std.proofs.Math.ListN.{get_or-append}
use Rattle.std.proofs.Math.Seq.{take-add}
use Rattle.siit_model.specs.Bytes.{field8}
use Rattle.siit_model.specs.Extensions.{FragmentFields, Walked, Trouble, behind_fragment, extension_length, fragment_fields, is_cut_short, is_extension, is_passed, out_of_order, runs_short, segments_with, walk_at_fragment, walk_from, walk_of}

-- a walk that isn't stopped
goes-on : (test : Bool) (trouble : Trouble) (later : Result Walked Trouble) (w : Walked) → (if test then Err trouble else later) ≡ Ok w → (test ≡ false) × (later ≡ Ok w)
goes-on true trouble later w is = (cc, cc)
goes-on false trouble later w is = (refl, is)

or-false : (a b : Bool) → (a || b) ≡ false → (a ≡ false) × (b ≡ false)
or-false true b is = (cc, cc)
or-false false b is = (refl, is)

false-or : (a b : Bool) → a ≡ false → b ≡ false → (a || b) ≡ false
false-or true b is is_b = cc
false-or false b is is_b = is_b

-- a walk that ends, by its parts
abbrev found : Walked → Result Walked Trouble
found w = Ok w

abbrev at-header : (at upper : ℕ) → Option ℕ → FragmentFields → Walked
at-header at upper segments fields = record { upper = upper; at = at + 8; fragment = Some fields; segments = segments }

abbrev at-upper : (at next : ℕ) → Option ℕ → Walked
at-upper at next segments = record { upper = next; at = at; fragment = None; segments = segments }

-- THE FIRST BYTES

field-kept : (n k : ℕ) (rest behind : List ℕ) → k < n → n ≤ length rest → field8 (take n rest ++ behind) k ≡ field8 rest k
field-kept n k rest behind within there =
    get_or-append (take n rest) behind 0 k (omega (arith, length-take-le n rest there)) ∙ get_or-take n rest k 0 within

fragment-kept : (rest behind : List ℕ) → 8 ≤ length rest → fragment_fields (take 8 rest ++ behind) ≡ fragment_fields rest
fragment-kept [] behind there = absurd (omega arith)
fragment-kept (a ∷ []) behind there = absurd (omega arith)
fragment-kept (a ∷ b ∷ []) behind there = absurd (omega arith)
fragment-kept (a ∷ b ∷ c ∷ []) behind there = absurd (omega arith)
fragment-kept (a ∷ b ∷ c ∷ d ∷ []) behind there = absurd (omega arith)
fragment-kept (a ∷ b ∷ c ∷ d ∷ e ∷ []) behind there = absurd (omega arith)
fragment-kept (a ∷ b ∷ c ∷ d ∷ e ∷ f ∷ []) behind there = absurd (omega arith)
fragment-kept (a ∷ b ∷ c ∷ d ∷ e ∷ f ∷ g ∷ []) behind there = absurd (omega arith)
fragment-kept (a ∷ b ∷ c ∷ d ∷ e ∷ f ∷ g ∷ h ∷ rest) behind there = refl

segments-kept : (at next : ℕ) (segments : Option ℕ) (one two : List ℕ) → field8 one 3 ≡ field8 two 3 → segments_with at next segments one ≡ segments_with at next segments two
segments-kept at next (Some place) one two same = refl
segments-kept at next None one two same = ap (λ (n : ℕ). if (next == 43) && not (n == 0) then Some (40 + at + 3) else None) same

-- THE WALK

-- a walk ends n bytes on, and any list that begins with these n bytes has it
record Front (at next : ℕ) (segments : Option ℕ) (rest behind : List ℕ) (w : Walked) : Type 0 where
  n : ℕ
  is : w.at ≡ at + n
  within : n ≤ length rest
  walk : (more : ℕ) → n < more → walk_from more at next segments (take n rest ++ behind) ≡ Ok w

-- a header that is passed over
passed-on : (at next size m : ℕ) (segments : Option ℕ) (rest l y : List ℕ) (w : Walked) → is_passed at next ≡ true → size ≡ extension_length rest → 8 ≤ size → size ≤ length rest
    → l ≡ take size rest ++ y → walk_from m (at + size) (field8 rest 0) (segments_with at next segments rest) y ≡ Ok w
    → walk_from (suc m) at next segments l ≡ Ok w
passed-on at next size m segments rest l y w passed is_size least there is_l later =
    let long : length (take size rest) ≡ size = length-take-le size rest there in
    let byte = λ (k : ℕ) (within : k < size). ap (λ (b : List ℕ). field8 b k) is_l ∙ field-kept size k rest y within there in
    let same_size : extension_length l ≡ size = ap (λ (n : ℕ). 8 * (n + 1)) (byte 1 (omega arith)) ∙ sym is_size in
    let enough : size ≤ length l = omega (arith, ap length is_l, length-append (take size rest) y) in
    let whole : is_cut_short l ≡ false =
    false-or (nat_lt (length l) 8) (nat_lt (length l) (extension_length l)) (le-ltb (length l) 8 (omega arith)) (le-ltb (length l) (extension_length l) (omega arith)) in
    let behind : drop (extension_length l) l ≡ y = ap (λ (n : ℕ). drop n l) same_size ∙ ap (drop size) is_l ∙ drop_at (take size rest) y size long in
    rw (passed, whole)
    (ap (λ (n : ℕ). walk_from m (at + n) (field8 l 0) (segments_with at next segments l) (drop (extension_length l) l)) same_size
    ∙ ap (λ (n : ℕ). walk_from m (at + size) n (segments_with at next segments l) (drop (extension_length l) l)) (byte 0 (omega arith))
    ∙ ap (λ (s : Option ℕ). walk_from m (at + size) (field8 rest 0) s (drop (extension_length l) l)) (segments-kept at next segments l rest (byte 3 (omega arith)))
    ∙ ap (walk_from m (at + size) (field8 rest 0) (segments_with at next segments rest)) behind
    ∙ later)

stops : (trouble : Trouble) (w : Walked) → Err trouble ≡ Ok w → ⊥
stops trouble w is = cc

front-turn : (at next size n more : ℕ) (segments : Option ℕ) (rest behind : List ℕ) (w : Walked) → is_passed at next ≡ true → extension_length rest ≤ length rest → size ≡ extension_length rest
    → ((turns : ℕ) → n < turns → walk_from turns (at + size) (field8 rest 0) (segments_with at next segments rest) (take n (drop size rest) ++ behind) ≡ Ok w)
    → size + n < more → walk_from more at next segments (take (size + n) rest ++ behind) ≡ Ok w
front-turn at next size n zero segments rest behind w passed there is_size later enough = absurd (omega arith)
front-turn at next size n (suc m) segments rest behind w passed there is_size later enough =
    let y : List ℕ = take n (drop size rest) ++ behind in
    let parts : take (size + n) rest ++ behind ≡ take size rest ++ y =
    ap (λ (l : List ℕ). l ++ behind) (take-add size n rest) ∙ append_assoc (take size rest) (take n (drop size rest)) behind in
    passed-on at next size m segments rest (take (size + n) rest ++ behind) y w passed is_size (omega arith) (omega arith) parts (later m (omega arith))

fragment-turn : (at next more : ℕ) (segments : Option ℕ) (l : List ℕ) (w : Walked) → is_passed at next ≡ false → (next == 0) ≡ false → (next == 44) ≡ true
    → walk_at_fragment at segments l ≡ Ok w → 0 < more → walk_from more at next segments l ≡ Ok w
fragment-turn at next zero segments l w passed ordered fragment same some = absurd (omega arith)
fragment-turn at next (suc m) segments l w passed ordered fragment same some = rw (passed, ordered, fragment) same

last-turn : (at next more : ℕ) (segments : Option ℕ) (l : List ℕ) (w : Walked) → is_passed at next ≡ false → (next == 0) ≡ false → (next == 44) ≡ false
    → found (at-upper at next segments) ≡ found w → 0 < more → walk_from more at next segments l ≡ Ok w
last-turn at next zero segments l w passed ordered fragment same some = absurd (omega arith)
last-turn at next (suc m) segments l w passed ordered fragment same some = rw (passed, ordered, fragment) same

-- the front of a walk that goes on behind a header
front-passed : (at next : ℕ) (segments : Option ℕ) (rest behind : List ℕ) (w : Walked) → is_passed at next ≡ true → is_cut_short rest ≡ false
    → Front (at + extension_length rest) (field8 rest 0) (segments_with at next segments rest) (drop (extension_length rest) rest) behind w
    → Front at next segments rest behind w
front-passed at next segments rest behind w passed whole later =
    let size : ℕ = extension_length rest in
    let tests = or-false (nat_lt (length rest) 8) (nat_lt (length rest) size) whole in
    let there : size ≤ length rest = ltb-false (length rest) size tests.1 in
    record {
      n = size + later.n;
      is = later.is ∙ omega arith;
      within = omega (arith, later.within, length-drop size rest, there);
      walk = λ more enough. front-turn at next size later.n more segments rest behind w passed there refl later.walk enough;
    }

at-ok : (v w : Walked) → found v ≡ found w → w.at ≡ v.at
at-ok v w is = cc

front-fragment : (at next : ℕ) (segments : Option ℕ) (rest behind : List ℕ) (w : Walked) → is_passed at next ≡ false → (next == 0) ≡ false → (next == 44) ≡ true
    → walk_at_fragment at segments rest ≡ Ok w → Front at next segments rest behind w
front-fragment at next segments rest behind w passed ordered fragment is =
    let made : ℕ → FragmentFields → Walked = λ upper fields. at-header at upper segments fields in
    let long = goes-on (nat_lt (length rest) 8) runs_short (if is_extension (field8 rest 0) then Err behind_fragment else Ok (made (field8 rest 0) (fragment_fields rest))) w is in
    let there : 8 ≤ length rest = ltb-false (length rest) 8 long.0 in
    let last = goes-on (is_extension (field8 rest 0)) behind_fragment (found (made (field8 rest 0) (fragment_fields rest))) w long.1 in
    let l : List ℕ = take 8 rest ++ behind in
    let upper : field8 l 0 ≡ field8 rest 0 = field-kept 8 0 rest behind (omega arith) there in
    let fields : fragment_fields l ≡ fragment_fields rest = fragment-kept rest behind there in
    let short : nat_lt (length l) 8 ≡ false = le-ltb (length l) 8 (omega (arith, length-append (take 8 rest) behind, length-take-le 8 rest there)) in
    let same : walk_at_fragment at segments l ≡ Ok w =
    ap (λ (t : Bool). if t then Err runs_short else if is_extension (field8 l 0) then Err behind_fragment else Ok (made (field8 l 0) (fragment_fields l))) short
    ∙ ap (λ (n : ℕ). if is_extension n then Err behind_fragment else Ok (made n (fragment_fields l))) upper
    ∙ ap (λ (f : FragmentFields). if is_extension (field8 rest 0) then Err behind_fragment else Ok (made (field8 rest 0) f)) fields
    ∙ ap (λ (t : Bool). if t then Err behind_fragment else Ok (made (field8 rest 0) (fragment_fields rest))) last.0
    ∙ last.1 in
    record {
      n = 8;
      is = at-ok (made (field8 rest 0) (fragment_fields rest)) w last.1;
      within = there;
      walk = λ more enough. fragment-turn at next more segments l w passed ordered fragment same (omega arith);
    }

front-last : (at next : ℕ) (segments : Option ℕ) (rest behind : List ℕ) (w : Walked) → is_passed at next ≡ false → (next == 0) ≡ false → (next == 44) ≡ false
    → found (at-upper at next segments) ≡ found w → Front at next segments rest behind w
front-last at next segments rest behind w passed ordered fragment is =
    record {
      n = 0;
      is = at-ok (at-upper at next segments) w is ∙ omega arith;
      within = omega arith;
      walk = λ more enough. last-turn at next more segments (take 0 rest ++ behind) w passed ordered fragment is (omega arith);
    }

front-by : (turns at next : ℕ) (segments : Option ℕ) (rest behind : List ℕ) (w : Walked) (passed ordered fragment : Bool)
    → is_passed at next ≡ passed → (next == 0) ≡ ordered → (next == 44) ≡ fragment
    → (if passed then (if is_cut_short rest then Err runs_short else walk_from turns (at + extension_length rest) (field8 rest 0) (segments_with at next segments rest) (drop (extension_length rest) rest))
    else if ordered then Err out_of_order
    else if fragment then walk_at_fragment at segments rest
    else found (at-upper at next segments)) ≡ Ok w
    → (walk_from turns (at + extension_length rest) (field8 rest 0) (segments_with at next segments rest) (drop (extension_length rest) rest) ≡ Ok w
    → Front (at + extension_length rest) (field8 rest 0) (segments_with at next segments rest) (drop (extension_length rest) rest) behind w)
    → Front at next segments rest behind w
front-by turns at next segments rest behind w true ordered fragment is_passed is_ordered is_fragment is again =
    let on = goes-on (is_cut_short rest) runs_short _ w is in front-passed at next segments rest behind w is_passed on.0 (again on.1)
front-by turns at next segments rest behind w false true fragment is_passed is_ordered is_fragment is again = absurd (stops out_of_order w is)
front-by turns at next segments rest behind w false false true is_passed is_ordered is_fragment is again =
    front-fragment at next segments rest behind w is_passed is_ordered is_fragment is
front-by turns at next segments rest behind w false false false is_passed is_ordered is_fragment is again =
    front-last at next segments rest behind w is_passed is_ordered is_fragment is

front : (turns at next : ℕ) (segments : Option ℕ) (rest behind : List ℕ) (w : Walked) → walk_from turns at next segments rest ≡ Ok w → Front at next segments rest behind w
front zero at next segments rest behind w is = absurd (stops runs_short w is)
front (suc turns) at next segments rest behind w is =
    front-by turns at next segments rest behind w (is_passed at next) (next == 0) (next == 44) refl refl refl is
    (front turns (at + extension_length rest) (field8 rest 0) (segments_with at next segments rest) (drop (extension_length rest) rest) behind w)

pub walk-within : (next : ℕ) (body : List ℕ) (w : Walked) → walk_of next body ≡ Ok w → w.at ≤ length body
walk-within next body w is = let f = front (suc (length body)) 0 next None body [] w is in omega (arith, f.is, f.within)

-- another upper part behind the same extension headers
pub walk-kept : (next : ℕ) (body behind : List ℕ) (w : Walked) → walk_of next body ≡ Ok w → walk_of next (take w.at body ++ behind) ≡ Ok w
walk-kept next body behind w is =
    let f = front (suc (length body)) 0 next None body behind w is in
    let at : w.at ≡ f.n = f.is ∙ omega arith in
    let l : List ℕ = take f.n body ++ behind in
    ap (λ (n : ℕ). walk_of next (take n body ++ behind)) at
    ∙ f.walk (suc (length l)) (omega (arith, length-append (take f.n body) behind, length-take-le f.n body f.within))
