-- The groups of an IPv6 text: read part by part, with a gap, and as a number.
use Rattle.std.proofs.Common.{◌≡◌, ◌≢◌, ℕ, suc, ◌+◌, ◌-◌, ◌*◌, ◌<◌, ◌≤◌, Bool, true, false, List, [], ◌∷◌, ◌++◌, length, get_or, replicate, Option, Some, None, refl, ap, sym, ◌∙◌, subst, arith, append_assoc, length-append}
use Rattle.std.proofs.lemmas.Bool.{ne_eqb}
use Rattle.std.proofs.lemmas.List.{replicate_more, length-replicate}
use Rattle.std.specs.Prelude.{option_map, option_and_then, IfSome}
use Rattle.siit_addr.specs.Texts.{colon, both_with, parts_at, group_of, last_groups_of, groups_of_parts, groups_of, around_gap, with_gap, ipv6_of_groups, ipv6_of_sides, ipv6_of_text}
use Rattle.siit_addr.proofs.Parts.{length_parts_at}

-- groups that are read, and those of the rest behind them
abbrev pub before : List ℕ → Option (List ℕ) → Option (List ℕ)
before front rest = option_map (λ groups. front ++ groups) rest

-- more than eight groups, if there are groups
abbrev pub TooMany : Option (List ℕ) → Type 0
TooMany groups = IfSome groups (λ groups. 8 < length groups)

-- a text that is not empty has the groups of its parts
before_nothing : (o : Option (List ℕ)) → o ≡ before [] o
before_nothing None = refl
before_nothing (Some groups) = refl

pub groups_of-parts : (at_end : Bool) (text : List ℕ) → length text ≢ 0 → groups_of at_end text ≡ before [] (groups_of_parts at_end (parts_at colon text))
groups_of-parts at_end [] h = absurd (h refl)
groups_of-parts at_end (byte ∷ text) h = before_nothing (groups_of_parts at_end (parts_at colon (byte ∷ text)))

before_one : (front : List ℕ) (group : ℕ) (o : Option (List ℕ)) → before front (option_map (λ groups. group ∷ groups) o) ≡ before (front ++ group ∷ []) o
before_one front group None = refl
before_one front group (Some groups) = ap Some (sym (append_assoc front (group ∷ []) groups))

pub first_part : (at_end : Bool) (part : List ℕ) (parts : List (List ℕ)) → 1 ≤ length parts → groups_of_parts at_end (part ∷ parts) ≡ both_with (λ group groups. group ∷ groups) (group_of part) (groups_of_parts at_end parts)
first_part at_end part [] h = absurd (omega arith)
first_part at_end part (next ∷ parts) h = refl

-- a part before a colon
part_is : (at_end : Bool) (text front part behind rest : List ℕ) (group : Option ℕ) → groups_of at_end text ≡ before front (groups_of_parts at_end (parts_at colon rest)) → parts_at colon rest ≡ part ∷ parts_at colon behind → group_of part ≡ group → groups_of at_end text ≡ before front (both_with (λ group groups. group ∷ groups) group (groups_of_parts at_end (parts_at colon behind)))
part_is at_end text front part behind rest group inv split is =
    inv ∙ ap (λ parts. before front (groups_of_parts at_end parts)) split
    ∙ ap (before front) (first_part at_end part (parts_at colon behind) (length_parts_at colon behind))
    ∙ ap (λ o. before front (both_with (λ group groups. group ∷ groups) o (groups_of_parts at_end (parts_at colon behind)))) is

pub part-some : (at_end : Bool) (text front part behind rest : List ℕ) (group : ℕ) → groups_of at_end text ≡ before front (groups_of_parts at_end (parts_at colon rest)) → parts_at colon rest ≡ part ∷ parts_at colon behind → group_of part ≡ Some group → groups_of at_end text ≡ before (front ++ group ∷ []) (groups_of_parts at_end (parts_at colon behind))
part-some at_end text front part behind rest group inv split is =
    part_is at_end text front part behind rest (Some group) inv split is
    ∙ before_one front group (groups_of_parts at_end (parts_at colon behind))

pub part-none : (at_end : Bool) (text front part behind rest : List ℕ) → groups_of at_end text ≡ before front (groups_of_parts at_end (parts_at colon rest)) → parts_at colon rest ≡ part ∷ parts_at colon behind → group_of part ≡ None → groups_of at_end text ≡ None
part-none at_end text front part behind rest inv split is = part_is at_end text front part behind rest None inv split is

pub too_many_from_none : (o : Option (List ℕ)) → o ≡ None → TooMany o
too_many_from_none o e = subst TooMany (sym e) tt

pub too_many_from_some : (o : Option (List ℕ)) (groups : List ℕ) → o ≡ Some groups → 8 < length groups → TooMany o
too_many_from_some o groups e h = subst TooMany (sym e) h

too_many_before : (front : List ℕ) (o : Option (List ℕ)) → 8 < length front → TooMany (before front o)
too_many_before front None h = tt
too_many_before front (Some groups) h = omega (arith, length-append front groups)

pub part-full : (at_end : Bool) (text front part behind rest : List ℕ) (group : ℕ) → groups_of at_end text ≡ before front (groups_of_parts at_end (parts_at colon rest)) → parts_at colon rest ≡ part ∷ parts_at colon behind → group_of part ≡ Some group → length front ≡ 8 → TooMany (groups_of at_end text)
part-full at_end text front part behind rest group inv split is full =
    subst TooMany (sym (part-some at_end text front part behind rest group inv split is))
    (too_many_before (front ++ group ∷ []) (groups_of_parts at_end (parts_at colon behind)) (omega (arith, length-append front (group ∷ []))))

-- the last part
last_is : (at_end : Bool) (text front rest : List ℕ) (last : Option (List ℕ)) → groups_of at_end text ≡ before front (groups_of_parts at_end (parts_at colon rest)) → parts_at colon rest ≡ rest ∷ [] → last_groups_of at_end rest ≡ last → groups_of at_end text ≡ before front last
last_is at_end text front rest last inv split is =
    inv ∙ ap (λ parts. before front (groups_of_parts at_end parts)) split ∙ ap (before front) is

pub last-some : (at_end : Bool) (text front rest last : List ℕ) → groups_of at_end text ≡ before front (groups_of_parts at_end (parts_at colon rest)) → parts_at colon rest ≡ rest ∷ [] → last_groups_of at_end rest ≡ Some last → groups_of at_end text ≡ Some (front ++ last)
last-some at_end text front rest last inv split is = last_is at_end text front rest (Some last) inv split is

pub last-none : (at_end : Bool) (text front rest : List ℕ) → groups_of at_end text ≡ before front (groups_of_parts at_end (parts_at colon rest)) → parts_at colon rest ≡ rest ∷ [] → last_groups_of at_end rest ≡ None → groups_of at_end text ≡ None
last-none at_end text front rest inv split is = last_is at_end text front rest None inv split is

pub last-full : (at_end : Bool) (text front rest last : List ℕ) → groups_of at_end text ≡ before front (groups_of_parts at_end (parts_at colon rest)) → parts_at colon rest ≡ rest ∷ [] → last_groups_of at_end rest ≡ Some last → 8 < length front + length last → TooMany (groups_of at_end text)
last-full at_end text front rest last inv split is full =
    too_many_from_some (groups_of at_end text) (front ++ last) (last-some at_end text front rest last inv split is)
    (omega (arith, length-append front last))

pub ruleset by_parts = (groups_of-parts, part-some, part-none, part-full, last-some, last-none, last-full, too_many_from_none)

-- zero groups in a gap
pub one_more_zero : (left groups : List ℕ) → groups ≡ left ++ replicate (length groups - length left) 0 → length left ≤ length groups → groups ++ 0 ∷ [] ≡ left ++ replicate (length groups + 1 - length left) 0
one_more_zero left groups e h =
    let zeros = length groups - length left in
    let count : length groups + 1 - length left ≡ zeros + 1 = omega arith in
    ap (λ front. front ++ 0 ∷ []) e
    ∙ append_assoc left (replicate zeros 0) (0 ∷ [])
    ∙ ap (λ more. left ++ more) (replicate_more zeros 0 ∙ ap (λ n. replicate n 0) (sym count))

pub gap_is_full : (left right groups : List ℕ) → groups ≡ left ++ replicate (length groups - length left) 0 → length left + length right ≤ 7 → length groups + length right ≡ 8 → groups ++ right ≡ with_gap left right
gap_is_full left right groups e h full =
    let count : length groups - length left ≡ suc (7 - (length left + length right)) = omega arith in
    ap (λ front. front ++ right) (e ∙ ap (λ n. left ++ replicate n 0) count)

pub ruleset by_gap = (one_more_zero, gap_is_full)

-- a text as a whole
not_eight : (groups : List ℕ) → length groups ≢ 8 → ipv6_of_groups groups ≡ None
not_eight groups h = rw (ne_eqb (length groups) 8 h) refl

none_of_too_many : (o : Option (List ℕ)) → TooMany o → option_and_then ipv6_of_groups o ≡ None
none_of_too_many None h = refl
none_of_too_many (Some groups) h = not_eight groups (omega arith)

pub alone-none : (text : List ℕ) → around_gap text ≡ None → TooMany (groups_of true text) → ipv6_of_text text ≡ None
alone-none text e h = ap (ipv6_of_sides text) e ∙ none_of_too_many (groups_of true text) h

pub alone-some : (text groups : List ℕ) → around_gap text ≡ None → groups_of true text ≡ Some groups → ipv6_of_text text ≡ ipv6_of_groups groups
alone-some text groups e is = ap (ipv6_of_sides text) e ∙ ap (option_and_then ipv6_of_groups) is

length-with_gap : (left right : List ℕ) → length (with_gap left right) ≡ length left + suc (7 - (length left + length right)) + length right
length-with_gap left right =
    length-append (left ++ (0 ∷ replicate (7 - (length left + length right)) 0)) right
    ∙ ap (λ n. n + length right) (length-append left (0 ∷ replicate (7 - (length left + length right)) 0)
    ∙ ap (λ n. length left + suc n) (length-replicate (7 - (length left + length right)) 0))

pub sides-some : (text left right lefts rights : List ℕ) → around_gap text ≡ Some (left, right) → groups_of false left ≡ Some lefts → groups_of true right ≡ Some rights → ipv6_of_text text ≡ ipv6_of_groups (with_gap lefts rights)
sides-some text left right lefts rights e l r =
    ap (ipv6_of_sides text) e
    ∙ ap (λ o. option_and_then ipv6_of_groups (both_with with_gap o (groups_of true right))) l
    ∙ ap (λ o. option_and_then ipv6_of_groups (both_with with_gap (Some lefts) o)) r

pub sides-full : (text left right lefts rights : List ℕ) → around_gap text ≡ Some (left, right) → groups_of false left ≡ Some lefts → groups_of true right ≡ Some rights → 7 < length lefts + length rights → ipv6_of_text text ≡ None
sides-full text left right lefts rights e l r full =
    sides-some text left right lefts rights e l r
    ∙ not_eight (with_gap lefts rights) (λ h. omega (arith, length-with_gap lefts rights))

left_too_many : (lefts rights : Option (List ℕ)) → TooMany lefts → option_and_then ipv6_of_groups (both_with with_gap lefts rights) ≡ None
left_too_many None rights h = refl
left_too_many (Some lefts) None h = refl
left_too_many (Some lefts) (Some rights) h = not_eight (with_gap lefts rights) (λ e. omega (arith, length-with_gap lefts rights))

right_too_many : (lefts rights : Option (List ℕ)) → TooMany rights → option_and_then ipv6_of_groups (both_with with_gap lefts rights) ≡ None
right_too_many None rights h = refl
right_too_many (Some lefts) None h = refl
right_too_many (Some lefts) (Some rights) h = not_eight (with_gap lefts rights) (λ e. omega (arith, length-with_gap lefts rights))

pub sides-left_none : (text left right : List ℕ) → around_gap text ≡ Some (left, right) → TooMany (groups_of false left) → ipv6_of_text text ≡ None
sides-left_none text left right e h = ap (ipv6_of_sides text) e ∙ left_too_many (groups_of false left) (groups_of true right) h

pub sides-right_none : (text left right : List ℕ) → around_gap text ≡ Some (left, right) → TooMany (groups_of true right) → ipv6_of_text text ≡ None
sides-right_none text left right e h = ap (ipv6_of_sides text) e ∙ right_too_many (groups_of false left) (groups_of true right) h

pub ruleset by_sides = (alone-none, alone-some, sides-some, sides-full, sides-left_none, sides-right_none)

-- the number of eight groups from its two halves
pub number-halves : (groups : List ℕ) (high low : ℕ) → length groups ≡ 8 → high ≡ ((get_or groups 0 0 * 65536 + get_or groups 1 0) * 65536 + get_or groups 2 0) * 65536 + get_or groups 3 0 → low ≡ ((get_or groups 4 0 * 65536 + get_or groups 5 0) * 65536 + get_or groups 6 0) * 65536 + get_or groups 7 0 → Some (high * 18446744073709551616 + low) ≡ ipv6_of_groups groups
number-halves (a ∷ b ∷ c ∷ d ∷ e ∷ f ∷ g ∷ h ∷ []) high low eight left right = ap Some (omega arith)
number-halves groups high low eight left right = absurd (omega arith)
