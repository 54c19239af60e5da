-- A room that is filled with data byte by byte.
use Rattle.std.proofs.Common.{◌≡◌, ℕ, ◌+◌, ◌%◌, ◌<◌, ◌∙◌, ap, List, [], ◌∷◌, ◌++◌, length, take, slice_set, refl, sym, arith}
use Rattle.std.proofs.lemmas.Grind.{take-set_at}
use Rattle.std.proofs.lemmas.List.FromFn.{map-range_with_len_more}
use Rattle.siit_generator.specs.Generated.{data_of}

turned : (number place : ℕ) → (number % 256 + place) % 256 ≡ (number + place) % 256
turned number place = omega arith

-- one byte more
pub filled_on : (number place : ℕ) (room : List ℕ) → place < length room → take place room ≡ data_of number place
    → take (place + 1) (slice_set room place ((number % 256 + place) % 256)) ≡ data_of number (place + 1)
filled_on number place room below is =
    take-set_at room place (place + 1) ((number % 256 + place) % 256) refl below
    ∙ ap (λ front. front ++ (number % 256 + place) % 256 ∷ []) is
    ∙ ap (λ byte. data_of number place ++ byte ∷ []) (turned number place)
    ∙ sym (map-range_with_len_more (λ k. (number + k) % 256) 0 place place (omega arith))
