-- Which words after the program's name are names of files.
use Rattle.std.specs.Prelude.{ℕ, List, [], ◌∷◌, codes, drop, ◌||◌, if◌then◌else◌}
use Rattle.std.specs.Str.{bytes_eq}

-- of a command that writes files, all behind its other words: none before them, PREFIX, or N and SEED
abbrev pub file_words_of : List (List ℕ) → List (List ℕ)
file_words_of [] = []
file_words_of (command ∷ words) =
    if bytes_eq command (codes "run") || bytes_eq command (codes "wkp") then words
    else if bytes_eq command (codes "dns64") then drop 1 words
    else if bytes_eq command (codes "make") then drop 2 words
    else []
