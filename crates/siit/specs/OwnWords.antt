-- The words that the program answers itself, each where it is the only one.
use Rattle.std.specs.Prelude.{ℕ, List, [], ◌∷◌, codes, if◌then◌else◌, Option, Some, None}
use Rattle.std.specs.Str.{bytes_eq}
use Rattle.siit.specs.declared.own_words.OwnWord.{OwnWord}
use Rattle.siit.specs.declared.own_words.OwnWord.TheVariants.{Help, Version}

abbrev pub own_word_of : List (List ℕ) → Option OwnWord
own_word_of (word ∷ []) =
    if bytes_eq word (codes "--help") then Some Help
    else if bytes_eq word (codes "--version") then Some Version
    else None
own_word_of words = None
