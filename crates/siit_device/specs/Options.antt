-- Source routes among the options of an IPv4 header (RFC 791 section 3.1).
use Rattle.std.specs.Prelude.{ℕ, zero, suc, List, length, drop, Bool, false, ◌||◌, ◌==◌, nat_lt, nat_le, if◌then◌else◌}
use Rattle.siit_model.specs.Bytes.{field8}

-- Loose and Strict Source and Record Route
abbrev pub is_route : ℕ → Bool
is_route kind = (kind == 131) || (kind == 137)

-- No option stands here: the end of the list, or a length that is missing, below 2, or past the header.
abbrev pub ends_options : List ℕ → Bool
ends_options options =
    (length options == 0) || (field8 options 0 == 0)
    || (nat_lt (length options) 2 || nat_lt (field8 options 1) 2 || nat_lt (length options) (field8 options 1))

-- A route that has not expired: its pointer isn't behind its last byte. A route too short to have a pointer ends the
-- list. Each option has a byte at least, so that as many turns as there are bytes, and one more, are enough.
abbrev pub has_route_from : (turns : ℕ) → List ℕ → Bool
has_route_from zero options = false
has_route_from (suc turns) options =
    if field8 options 0 == 1 then has_route_from turns (drop 1 options)
    else if ends_options options then false
    else if is_route (field8 options 0) then
    (if nat_lt (field8 options 1) 3 then false
    else nat_le (field8 options 2) (field8 options 1) || has_route_from turns (drop (field8 options 1) options))
    else has_route_from turns (drop (field8 options 1) options)

abbrev pub has_route : List ℕ → Bool
has_route options = has_route_from (suc (length options)) options
