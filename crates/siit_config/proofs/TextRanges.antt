-- The addresses that texts write have no more bits than their family.
use Rattle.std.proofs.Common.{◌≡◌, ℕ, zero, suc, ◌+◌, ◌-◌, ◌*◌, ◌/◌, ◌%◌, ◌^◌, ◌<◌, ◌≤◌, List, [], ◌∷◌, ◌++◌, length, replicate, fold, Bool, true, false, ◌&&◌, ◌==◌, nat_le, Option, Some, None, ap, sym, refl, inl, inr, arith}
use Rattle.std.specs.Option.{option_map}
use Rattle.std.proofs.lemmas.Bool.{and_parts, eqb-true, leb-true}
use Rattle.std.proofs.Math.Nat.{mul-le-mul_right}
use Rattle.siit_addr.specs.Prefixes.{prefix4_of_text, prefix6_of_text, within4, within6}
use Rattle.siit_addr.specs.Texts.{around_gap, at_most, both_with, colon, decimal_of, group_of, groups_of, groups_of_parts, hex_digit_of, ipv4_of_parts, ipv4_of_text, ipv6_of_groups, ipv6_of_sides, ipv6_of_text, last_groups_of, number_of_groups, octet_of, parts_at, point, prefix_of_parts, slash, with_gap}
use Rattle.siit_addr.specs.declared.addr.Prefix4.{Prefix4}
use Rattle.siit_addr.specs.declared.addr.Prefix6.{Prefix6}
use Rattle.siit_addr.proofs.Ipv6ReadAgain.{AreGroups}
use Rattle.siit_config.proofs.Options.{bool_or, none_or_some, passed}

-- DIGITS

-- one digit more
abbrev pub step : {A : Type 0} → (base : ℕ) → (A → Option ℕ) → Option ℕ → A → Option ℕ
step base digit_of number digit = both_with (λ n d. n * base + d) number (digit_of digit)

-- as many numbers as there are with these digits behind
abbrev pub room : {A : Type 0} → (base limit : ℕ) → List A → ℕ
room base limit digits = fold (λ l x. l * base) limit digits

none_stays : {A : Type 0} (base : ℕ) (digit_of : A → Option ℕ) (digits : List A) → fold (step base digit_of) None digits ≡ None
none_stays base digit_of [] = refl
none_stays base digit_of (x ∷ xs) = none_stays base digit_of xs

one_more : (base m limit d : ℕ) → m < limit → d < base → m * base + d < limit * base
one_more base m limit d below small =
    let most = mul-le-mul_right {m = suc m} {n = limit} base (omega arith) in
    omega (arith, most)

numbered : {A : Type 0} (base : ℕ) (digit_of : A → Option ℕ) → ((x : A) (d : ℕ) → digit_of x ≡ Some d → d < base)
    → (digits : List A) (m limit n : ℕ) → m < limit → fold (step base digit_of) (Some m) digits ≡ Some n → n < room base limit digits
numbered base digit_of small [] m limit n below h = let same : m ≡ n = cc in omega arith
numbered base digit_of small (x ∷ xs) m limit n below h =
    elim (none_or_some (digit_of x)) [
      | inl none ↦
          let gone = rw none at h in
          let stays = none_stays base digit_of xs in
          absurd (cc)
      | inr digit ↦
          numbered base digit_of small xs (m * base + digit.0) (limit * base) n (one_more base m limit digit.0 below (small x digit.0 digit.1)) (rw digit.1 at h)
    ]

-- IPV4

octet_small : (part : List ℕ) (d : ℕ) → octet_of part ≡ Some d → d < 256
octet_small part d h =
    elim (none_or_some (decimal_of part)) [
      | inl none ↦ let gone = rw none at h in absurd (cc)
      | inr some ↦
          let both = passed (nat_le some.0 255) some.0 d (rw some.1 at h) in
          let most = leb-true some.0 255 both.0 in
          let same = both.1 in
          omega arith
    ]

four_parts : (parts : List (List ℕ)) → length parts ≡ 4 → room 256 1 parts ≡ 2 ^ 32
four_parts [] h = absurd (omega (arith, h))
four_parts (a ∷ []) h = absurd (omega (arith, h))
four_parts (a ∷ b ∷ []) h = absurd (omega (arith, h))
four_parts (a ∷ b ∷ c ∷ []) h = absurd (omega (arith, h))
four_parts (a ∷ b ∷ c ∷ d ∷ []) h = refl
four_parts (a ∷ b ∷ c ∷ d ∷ e ∷ rest) h = absurd (omega (arith, h))

parts_small : (parts : List (List ℕ)) (a : ℕ) → ipv4_of_parts parts ≡ Some a → a < 2 ^ 32
parts_small parts a h =
    elim (bool_or (length parts == 4)) [
      | inl four ↦
          let below = numbered 256 octet_of octet_small parts 0 1 a (omega arith) (rw four at h) in
          rw (four_parts parts (eqb-true (length parts) 4 four)) at below
      | inr other ↦ let gone = rw other at h in absurd (cc)
    ]

pub ipv4_small : (content : List ℕ) (a : ℕ) → ipv4_of_text content ≡ Some a → a < 2 ^ 32
ipv4_small content a h = parts_small (parts_at point content) a h

-- IPV6

digit_small : (byte d : ℕ) → hex_digit_of byte ≡ Some d → d < 16
digit_small byte d h =
    elim (bool_or (nat_le 48 byte && nat_le byte 57)) [
      | inl decimal ↦
          let both = and_parts (nat_le 48 byte) (nat_le byte 57) decimal in
          let most = leb-true byte 57 both.1 in
          let same = (passed true (byte - 48) d (rw decimal at h)).1 in
          omega arith
      | inr other ↦
          let h1 = rw other at h in
          elim (bool_or (nat_le 97 byte && nat_le byte 102)) [
            | inl lower ↦
                let both = and_parts (nat_le 97 byte) (nat_le byte 102) lower in
                let most = leb-true byte 102 both.1 in
                let same = (passed true (byte - 87) d (rw lower at h1)).1 in
                omega arith
            | inr upper_or_none ↦
                let h2 = rw upper_or_none at h1 in
                let both = passed (nat_le 65 byte && nat_le byte 70) (byte - 55) d h2 in
                let parts = and_parts (nat_le 65 byte) (nat_le byte 70) both.0 in
                let most = leb-true byte 70 parts.1 in
                let same = both.1 in
                omega arith
          ]
    ]

four_digits : (digits : List ℕ) → length digits ≤ 4 → room 16 1 digits ≤ 65536
four_digits [] h = omega arith
four_digits (a ∷ []) h = omega arith
four_digits (a ∷ b ∷ []) h = omega arith
four_digits (a ∷ b ∷ c ∷ []) h = omega arith
four_digits (a ∷ b ∷ c ∷ d ∷ []) h = omega arith
four_digits (a ∷ b ∷ c ∷ d ∷ e ∷ rest) h = absurd (omega (arith, h))

group_small : (part : List ℕ) (group : ℕ) → group_of part ≡ Some group → group < 65536
group_small part group h =
    elim (bool_or (nat_le 1 (length part) && nat_le (length part) 4)) [
      | inl few ↦
          let both = and_parts (nat_le 1 (length part)) (nat_le (length part) 4) few in
          let below = numbered 16 hex_digit_of digit_small part 0 1 group (omega arith) (rw few at h) in
          let most = four_digits part (leb-true (length part) 4 both.1) in
          omega arith
      | inr other ↦ let gone = rw other at h in absurd (cc)
    ]

one_group : (part groups : List ℕ) → option_map (λ group. group ∷ []) (group_of part) ≡ Some groups → AreGroups groups
one_group part groups h =
    elim (none_or_some (group_of part)) [
      | inl none ↦ let gone = rw none at h in absurd (cc)
      | inr some ↦
          let made = rw some.1 at h in
          let same : some.0 ∷ [] ≡ groups = cc in
          rw (← same) (group_small part some.0 some.1, tt)
    ]

two_groups : (part groups : List ℕ) → option_map (λ a. (a / 65536) ∷ (a % 65536) ∷ []) (ipv4_of_text part) ≡ Some groups → AreGroups groups
two_groups part groups h =
    elim (none_or_some (ipv4_of_text part)) [
      | inl none ↦ let gone = rw none at h in absurd (cc)
      | inr some ↦
          let made = rw some.1 at h in
          let same : (some.0 / 65536) ∷ (some.0 % 65536) ∷ [] ≡ groups = cc in
          let below = ipv4_small part some.0 some.1 in
          rw (← same) (omega arith, (omega arith, tt))
    ]

last_small : (at_end : Bool) (part groups : List ℕ) → last_groups_of at_end part ≡ Some groups → AreGroups groups
last_small false part groups h = one_group part groups h
last_small true part groups h =
    elim (none_or_some (option_map (λ group. group ∷ []) (group_of part))) [
      | inl none ↦ two_groups part groups (rw none at h)
      | inr some ↦
          let made = rw some.1 at h in
          let same : some.0 ≡ groups = cc in
          rw (← same) (one_group part some.0 some.1)
    ]

parts_are_groups : (at_end : Bool) (parts : List (List ℕ)) (groups : List ℕ) → groups_of_parts at_end parts ≡ Some groups → AreGroups groups
parts_are_groups at_end [] groups h = let same : [] ≡ groups = cc in rw (← same) tt
parts_are_groups at_end (part ∷ []) groups h = last_small at_end part groups h
parts_are_groups at_end (part ∷ next ∷ parts) groups h =
    elim (none_or_some (group_of part)) [
      | inl none ↦ let gone = rw none at h in absurd (cc)
      | inr group ↦
          let h1 = rw group.1 at h in
          elim (none_or_some (groups_of_parts at_end (next ∷ parts))) [
            | inl none ↦ let gone = rw none at h1 in absurd (cc)
            | inr rest ↦
                let made = rw rest.1 at h1 in
                let same : group.0 ∷ rest.0 ≡ groups = cc in
                rw (← same) (group_small part group.0 group.1, parts_are_groups at_end (next ∷ parts) rest.0 rest.1)
          ]
    ]

are_groups : (at_end : Bool) (content groups : List ℕ) → groups_of at_end content ≡ Some groups → AreGroups groups
are_groups at_end [] groups h = let same : [] ≡ groups = cc in rw (← same) tt
are_groups at_end (byte ∷ content) groups h = parts_are_groups at_end (parts_at colon (byte ∷ content)) groups h

AreGroups-append : (left right : List ℕ) → AreGroups left → AreGroups right → AreGroups (left ++ right)
AreGroups-append [] right h k = k
AreGroups-append (group ∷ left) right h k = (h.0, AreGroups-append left right h.1 k)

AreGroups-zeros : (n : ℕ) → AreGroups (replicate n 0)
AreGroups-zeros zero = tt
AreGroups-zeros (suc n) = (omega arith, AreGroups-zeros n)

summed : (groups : List ℕ) (m limit : ℕ) → AreGroups groups → m < limit → fold (λ number group. number * 65536 + group) m groups < room 65536 limit groups
summed [] m limit h below = below
summed (group ∷ groups) m limit h below = summed groups (m * 65536 + group) (limit * 65536) h.1 (one_more 65536 m limit group below h.0)

eight_groups : (groups : List ℕ) → length groups ≡ 8 → room 65536 1 groups ≡ 2 ^ 128
eight_groups [] h = absurd (omega (arith, h))
eight_groups (a ∷ []) h = absurd (omega (arith, h))
eight_groups (a ∷ b ∷ []) h = absurd (omega (arith, h))
eight_groups (a ∷ b ∷ c ∷ []) h = absurd (omega (arith, h))
eight_groups (a ∷ b ∷ c ∷ d ∷ []) h = absurd (omega (arith, h))
eight_groups (a ∷ b ∷ c ∷ d ∷ e ∷ []) h = absurd (omega (arith, h))
eight_groups (a ∷ b ∷ c ∷ d ∷ e ∷ f ∷ []) h = absurd (omega (arith, h))
eight_groups (a ∷ b ∷ c ∷ d ∷ e ∷ f ∷ g ∷ []) h = absurd (omega (arith, h))
eight_groups (a ∷ b ∷ c ∷ d ∷ e ∷ f ∷ g ∷ i ∷ []) h = refl
eight_groups (a ∷ b ∷ c ∷ d ∷ e ∷ f ∷ g ∷ i ∷ j ∷ rest) h = absurd (omega (arith, h))

number_small : (groups : List ℕ) (a : ℕ) → AreGroups groups → ipv6_of_groups groups ≡ Some a → a < 2 ^ 128
number_small groups a small h =
    let both = passed (length groups == 8) (number_of_groups groups) a h in
    let below = summed groups 0 1 small (omega arith) in
    rw (← both.1) (rw (eight_groups groups (eqb-true (length groups) 8 both.0)) at below)

sides_small : (content : List ℕ) (sides : Option (List ℕ × List ℕ)) (a : ℕ) → ipv6_of_sides content sides ≡ Some a → a < 2 ^ 128
sides_small content None a h =
    elim (none_or_some (groups_of true content)) [
      | inl none ↦ let gone = rw none at h in absurd (cc)
      | inr groups ↦ number_small groups.0 a (are_groups true content groups.0 groups.1) (rw groups.1 at h)
    ]
sides_small content (Some sides) a h =
    elim (none_or_some (groups_of false sides.0)) [
      | inl none ↦ let gone = rw none at h in absurd (cc)
      | inr left ↦
          let h1 = rw left.1 at h in
          elim (none_or_some (groups_of true sides.1)) [
            | inl none ↦ let gone = rw none at h1 in absurd (cc)
            | inr right ↦
                let gap = 0 ∷ replicate (7 - (length left.0 + length right.0)) 0 in
                let small = AreGroups-append (left.0 ++ gap) right.0
                (AreGroups-append left.0 gap (are_groups false sides.0 left.0 left.1) (omega arith, AreGroups-zeros (7 - (length left.0 + length right.0))))
                (are_groups true sides.1 right.0 right.1) in
                number_small (with_gap left.0 right.0) a small (rw right.1 at h1)
          ]
    ]

pub ipv6_small : (content : List ℕ) (a : ℕ) → ipv6_of_text content ≡ Some a → a < 2 ^ 128
ipv6_small content a h = sides_small content (around_gap content) a h

-- PREFIXES

parts_below : (address_of : List ℕ → Option ℕ) (limit bound : ℕ) → ((content : List ℕ) (a : ℕ) → address_of content ≡ Some a → a < bound)
    → (parts : List (List ℕ)) (found : ℕ × ℕ) → prefix_of_parts address_of limit parts ≡ Some found → found.0 < bound
parts_below address_of limit bound small [] found h = absurd (cc)
parts_below address_of limit bound small (a ∷ []) found h = absurd (cc)
parts_below address_of limit bound small (address ∷ len ∷ []) found h =
    elim (none_or_some (address_of address)) [
      | inl none ↦ let gone = rw none at h in absurd (cc)
      | inr a ↦
          let h1 = rw a.1 at h in
          elim (none_or_some (at_most limit (decimal_of len))) [
            | inl none ↦ let gone = rw none at h1 in absurd (cc)
            | inr l ↦
                let made = rw l.1 at h1 in
                let same : (a.0, l.0) ≡ found = cc in
                rw (← same) (small address a.0 a.1)
          ]
    ]
parts_below address_of limit bound small (a ∷ b ∷ c ∷ rest) found h = absurd (cc)

address4_is : (a len : ℕ) (fits : Bool) (h : nat_le len 32 ≡ fits) (p : Prefix4) → within4 a len fits h ≡ Some p → p.addr.0 ≡ a
address4_is a len true h p e = let same = ap (option_map (λ q. q.addr.0)) e in cc
address4_is a len false h p e = absurd (cc)

address6_is : (a len : ℕ) (fits : Bool) (h : nat_le len 128 ≡ fits) (p : Prefix6) → within6 a len fits h ≡ Some p → p.addr.0 ≡ a
address6_is a len true h p e = let same = ap (option_map (λ q. q.addr.0)) e in cc
address6_is a len false h p e = absurd (cc)

pub prefix4_small : (content : List ℕ) (p : Prefix4) → prefix4_of_text content ≡ Some p → p.addr.0 < 2 ^ 32
prefix4_small content p h =
    elim (none_or_some (prefix_of_parts ipv4_of_text 32 (parts_at slash content))) [
      | inl none ↦ let gone = rw none at h in absurd (cc)
      | inr found ↦
          let below = parts_below ipv4_of_text 32 (2 ^ 32) ipv4_small (parts_at slash content) found.0 found.1 in
          let same = address4_is found.0.0 found.0.1 (nat_le found.0.1 32) refl p (rw found.1 at h) in
          rw (← sym same) below
    ]

pub prefix6_small : (content : List ℕ) (p : Prefix6) → prefix6_of_text content ≡ Some p → p.addr.0 < 2 ^ 128
prefix6_small content p h =
    elim (none_or_some (prefix_of_parts ipv6_of_text 128 (parts_at slash content))) [
      | inl none ↦ let gone = rw none at h in absurd (cc)
      | inr found ↦
          let below = parts_below ipv6_of_text 128 (2 ^ 128) ipv6_small (parts_at slash content) found.0 found.1 in
          let same = address6_is found.0.0 found.0.1 (nat_le found.0.1 128) refl p (rw found.1 at h) in
          rw (← sym same) below
    ]
