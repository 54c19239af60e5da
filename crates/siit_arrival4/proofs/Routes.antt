-- A list of options asks for no more turns than it has bytes.
use Rattle.std.proofs.Common.{◌≡◌, ℕ, zero, suc, ◌<◌, ◌≤◌, List, [], ◌∷◌, length, drop, Bool, true, false, ◌||◌, ◌==◌, nat_lt, nat_le, if◌then◌else◌, refl, ap, ◌∙◌, arith, length-drop}
use Rattle.std.proofs.lemmas.Bool.{or_parts, ltb-false, lt-ltb, lt-leb, le-leb}
use Rattle.siit_model.specs.Bytes.{field8}
use Rattle.siit_device.specs.Options.{is_route, ends_options, has_route, has_route_from}

-- what one turn says, by the turns that follow one byte and a whole option
abbrev pub turn : (options : List ℕ) → (behind_byte behind_option : Bool) → Bool
turn options behind_byte behind_option =
    if field8 options 0 == 1 then behind_byte
    else if ends_options options then false
    else if is_route (field8 options 0) then
    (if nat_lt (field8 options 1) 3 then false else nat_le (field8 options 2) (field8 options 1) || behind_option)
    else behind_option

same_turn : (a b c d e : Bool) (x y z w : Bool) → (a ≡ true → x ≡ z) → (b ≡ false → y ≡ w)
    → (if a then x else if b then false else if c then (if d then false else e || y) else y)
    ≡ (if a then z else if b then false else if c then (if d then false else e || w) else w)
same_turn true b c d e x y z w h k = h refl
same_turn false true c d e x y z w h k = refl
same_turn false false true true e x y z w h k = refl
same_turn false false true false e x y z w h k = ap (λ v. e || v) (k refl)
same_turn false false false d e x y z w h k = k refl

-- an option that doesn't end the list has at least 2 bytes
long_option : (options : List ℕ) → ends_options options ≡ false → 2 ≤ field8 options 1
long_option options h =
    let first = or_parts ((length options == 0) || (field8 options 0 == 0)) (nat_lt (length options) 2 || nat_lt (field8 options 1) 2 || nat_lt (length options) (field8 options 1)) h in
    let second = or_parts (nat_lt (length options) 2 || nat_lt (field8 options 1) 2) (nat_lt (length options) (field8 options 1)) first.1 in
    let third = or_parts (nat_lt (length options) 2) (nat_lt (field8 options 1) 2) second.0 in
    ltb-false (field8 options 1) 2 third.1

shorter : (n : ℕ) (options : List ℕ) (t : ℕ) → 1 ≤ n → length options < suc t → 0 < length options → length (drop n options) < t
shorter n options t some short there = omega (arith, length-drop n options)

-- two numbers of turns that are both enough say the same
fuel : (t u : ℕ) (options : List ℕ) → length options < t → length options < u → has_route_from t options ≡ has_route_from u options
fuel zero u options h k = absurd (omega (arith, h))
fuel (suc t) zero options h k = absurd (omega (arith, k))
fuel (suc t) (suc u) [] h k = refl
fuel (suc t) (suc u) (x ∷ xs) h k =
    let options : List ℕ = x ∷ xs in
    same_turn (field8 options 0 == 1) (ends_options options) (is_route (field8 options 0)) (nat_lt (field8 options 1) 3)
    (nat_le (field8 options 2) (field8 options 1)) (has_route_from t (drop 1 options)) (has_route_from t (drop (field8 options 1) options))
    (has_route_from u (drop 1 options)) (has_route_from u (drop (field8 options 1) options))
    (λ is. fuel t u (drop 1 options) (shorter 1 options t (omega arith) h (omega arith)) (shorter 1 options u (omega arith) k (omega arith)))
    (λ no. let two : 2 ≤ field8 options 1 = long_option options no in
    fuel t u (drop (field8 options 1) options) (shorter (field8 options 1) options t (omega (arith, two)) h (omega arith))
    (shorter (field8 options 1) options u (omega (arith, two)) k (omega arith)))

-- One turn of the whole list.
pub route_turn : (options : List ℕ) → has_route options ≡ turn options (has_route (drop 1 options)) (has_route (drop (field8 options 1) options))
route_turn [] = refl
route_turn (x ∷ xs) =
    let options : List ℕ = x ∷ xs in
    same_turn (field8 options 0 == 1) (ends_options options) (is_route (field8 options 0)) (nat_lt (field8 options 1) 3)
    (nat_le (field8 options 2) (field8 options 1)) (has_route_from (length options) (drop 1 options)) (has_route_from (length options) (drop (field8 options 1) options))
    (has_route (drop 1 options)) (has_route (drop (field8 options 1) options))
    (λ is. fuel (length options) (suc (length (drop 1 options))) (drop 1 options) (shorter 1 options (length options) (omega arith) (omega arith) (omega arith)) (omega arith))
    (λ no. let two : 2 ≤ field8 options 1 = long_option options no in
    fuel (length options) (suc (length (drop (field8 options 1) options))) (drop (field8 options 1) options)
    (shorter (field8 options 1) options (length options) (omega (arith, two)) (omega arith) (omega arith)) (omega arith))

turn_by : (a b c d e : Bool) (x y : Bool) → a ≡ false → b ≡ false
    → (if a then x else if b then false else if c then (if d then false else e || y) else y) ≡ (if c then (if d then false else e || y) else y)
turn_by a b c d e x y p q = rw (p, q) refl

-- a byte that says nothing
pub byte_turn : (options : List ℕ) → (field8 options 0 == 1) ≡ true → has_route options ≡ has_route (drop 1 options)
byte_turn options p =
    route_turn options
    ∙ first (field8 options 0 == 1) (ends_options options) (is_route (field8 options 0)) (nat_lt (field8 options 1) 3)
    (nat_le (field8 options 2) (field8 options 1)) (has_route (drop 1 options)) (has_route (drop (field8 options 1) options)) p
  where
    first : (a b c d e : Bool) (x y : Bool) → a ≡ true
        → (if a then x else if b then false else if c then (if d then false else e || y) else y) ≡ x
    first a b c d e x y p = rw p refl

-- a whole option
whole_option : (options : List ℕ) → (field8 options 0 == 1) ≡ false → ends_options options ≡ false
    → has_route options ≡ (if is_route (field8 options 0) then (if nat_lt (field8 options 1) 3 then false else nat_le (field8 options 2) (field8 options 1) || has_route (drop (field8 options 1) options))
    else has_route (drop (field8 options 1) options))
whole_option options p q =
    route_turn options
    ∙ turn_by (field8 options 0 == 1) (ends_options options) (is_route (field8 options 0)) (nat_lt (field8 options 1) 3)
    (nat_le (field8 options 2) (field8 options 1)) (has_route (drop 1 options)) (has_route (drop (field8 options 1) options)) p q

pub option_turn : (options : List ℕ) → (field8 options 0 == 1) ≡ false → ends_options options ≡ false → is_route (field8 options 0) ≡ false
    → has_route options ≡ has_route (drop (field8 options 1) options)
option_turn options p q r = whole_option options p q ∙ other (is_route (field8 options 0)) (if nat_lt (field8 options 1) 3 then false else nat_le (field8 options 2) (field8 options 1) || has_route (drop (field8 options 1) options)) (has_route (drop (field8 options 1) options)) r
  where
    other : (c : Bool) (x y : Bool) → c ≡ false → (if c then x else y) ≡ y
    other c x y p = rw p refl

route_option : (options : List ℕ) → (field8 options 0 == 1) ≡ false → ends_options options ≡ false → is_route (field8 options 0) ≡ true
    → has_route options ≡ (if nat_lt (field8 options 1) 3 then false else nat_le (field8 options 2) (field8 options 1) || has_route (drop (field8 options 1) options))
route_option options p q r = whole_option options p q ∙ that (is_route (field8 options 0)) (if nat_lt (field8 options 1) 3 then false else nat_le (field8 options 2) (field8 options 1) || has_route (drop (field8 options 1) options)) (has_route (drop (field8 options 1) options)) r
  where
    that : (c : Bool) (x y : Bool) → c ≡ true → (if c then x else y) ≡ x
    that c x y p = rw p refl

-- a route without pointer, one that has not expired, and one that has
pub short_route : (options : List ℕ) → (field8 options 0 == 1) ≡ false → ends_options options ≡ false → is_route (field8 options 0) ≡ true
    → field8 options 1 < 3 → has_route options ≡ false
short_route options p q r s = route_option options p q r
    ∙ by (nat_lt (field8 options 1) 3) (nat_le (field8 options 2) (field8 options 1)) (has_route (drop (field8 options 1) options)) (lt-ltb (field8 options 1) 3 s)
  where
    by : (d e y : Bool) → d ≡ true → (if d then false else e || y) ≡ false
    by d e y p = rw p refl

pub live_route : (options : List ℕ) → (field8 options 0 == 1) ≡ false → ends_options options ≡ false → is_route (field8 options 0) ≡ true
    → 3 ≤ field8 options 1 → field8 options 2 ≤ field8 options 1 → has_route options ≡ true
live_route options p q r s t = route_option options p q r
    ∙ by (nat_lt (field8 options 1) 3) (nat_le (field8 options 2) (field8 options 1)) (has_route (drop (field8 options 1) options))
    (lt-leb (suc (field8 options 1)) 3 (omega (arith, s))) (le-leb (field8 options 2) (field8 options 1) t)
  where
    by : (d e y : Bool) → d ≡ false → e ≡ true → (if d then false else e || y) ≡ true
    by d e y p q = rw (p, q) refl

pub dead_route : (options : List ℕ) → (field8 options 0 == 1) ≡ false → ends_options options ≡ false → is_route (field8 options 0) ≡ true
    → 3 ≤ field8 options 1 → field8 options 1 < field8 options 2 → has_route options ≡ has_route (drop (field8 options 1) options)
dead_route options p q r s t = route_option options p q r
    ∙ by (nat_lt (field8 options 1) 3) (nat_le (field8 options 2) (field8 options 1)) (has_route (drop (field8 options 1) options))
    (lt-leb (suc (field8 options 1)) 3 (omega (arith, s))) (lt-leb (field8 options 2) (field8 options 1) t)
  where
    by : (d e y : Bool) → d ≡ false → e ≡ false → (if d then false else e || y) ≡ y
    by d e y p q = rw (p, q) refl
