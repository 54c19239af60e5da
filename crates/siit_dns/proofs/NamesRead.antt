-- Names, read a run at a time.
use Rattle.std.proofs.Common.{◌≡◌, ◌∙◌, ℕ, zero, suc, ◌+◌, ◌<◌, ◌≤◌, List, [], ◌∷◌, ◌++◌, length, Bool, true, false, nat_lt, if◌then◌else◌, Option, Some, None, refl, sym, ap, subst, arith, append_assoc, length-append}
use Rattle.std.proofs.lemmas.Bool.Decides.{nat_tests}
use Rattle.siit_dns.specs.Names.{◌>>=◌, Run, run_at, run_length, pointed, name_below, name_at}
use Rattle.siit_dns.specs.Room.{LacksRoom}

-- what was read before, and what is still read
abbrev pub in_front : List ℕ → List ℕ → Option (List ℕ)
in_front front rest = Some (front ++ rest)

-- the name at a place that a pointer in a run from the limit on may name
abbrev pub lower : (limit : ℕ) → List ℕ → ℕ → Option (List ℕ)
lower limit bytes target = if nat_lt target limit then name_below limit bytes target else None

bind_same : {A B : Type 0} (read : Option A) (f g : A → Option B) → ((x : A) → f x ≡ g x) → (read >>= f) ≡ (read >>= g)
bind_same None f g same = refl
bind_same (Some x) f g same = same x

pointed_same : (target : Option ℕ) (f g : ℕ → Option (List ℕ)) → ((t : ℕ) → f t ≡ g t) → pointed target f ≡ pointed target g
pointed_same None f g same = refl
pointed_same (Some t) f g same = same t

same_where : {A : Type 0} (test : Bool) (x y z : A) → (test ≡ true → x ≡ y) → (if test then x else z) ≡ (if test then y else z)
same_where true x y z same = same refl
same_where false x y z same = refl

-- a limit above the place is as good as another
pub enough : (limit other place : ℕ) (bytes : List ℕ) → place < limit → place < other → name_below limit bytes place ≡ name_below other bytes place
enough zero other place bytes low high = absurd (omega arith)
enough (suc limit) zero place bytes low high = absurd (omega arith)
enough (suc limit) (suc other) place bytes low high =
    bind_same (run_at bytes place) _ _ (λ run.
    ap (λ (name : Option (List ℕ)). name >>= in_front run.labels)
    (pointed_same run.target _ _ (λ target.
    same_where (nat_lt target place) (name_below limit bytes target) (name_below other bytes target) None (λ test.
    let lt : target < place = grind (arith, nat_tests) in
    enough limit other target bytes (omega arith) (omega arith)))))

pub front-front : (front labels : List ℕ) (name : Option (List ℕ)) → (name >>= in_front labels >>= in_front front) ≡ (name >>= in_front (front ++ labels))
front-front front labels None = refl
front-front front labels (Some rest) = ap (λ (name : List ℕ). Some name) (sym (append_assoc front labels rest))

-- The name at a place is this front, and what its last run points at: a place below the limit.
pub record IsReadOn (bytes : List ℕ) (place limit : ℕ) (front : List ℕ) (target : Option ℕ) : Type 0 where
  pub same : name_below (suc place) bytes place ≡ (pointed target (lower limit bytes) >>= in_front front)

-- a name that begins with a run
run-first : (bytes : List ℕ) (place : ℕ) (run : Run) → run_at bytes place ≡ Some run
    → name_below (suc place) bytes place ≡ (pointed run.target (lower place bytes) >>= in_front run.labels)
run-first bytes place run is_run = rw is_run refl

pub begins : (bytes : List ℕ) (place : ℕ) (run : Run) → run_at bytes place ≡ Some run → IsReadOn bytes place place run.labels run.target
begins bytes place run is_run = record { same = run-first bytes place run is_run }

-- the next run, whose place is below the limit
pub below-limit : (bytes : List ℕ) (place limit next : ℕ) (front : List ℕ) → IsReadOn bytes place limit front (Some next) → next < limit
    → name_below (suc place) bytes place ≡ (name_below (suc next) bytes next >>= in_front front)
below-limit bytes place limit next front so_far lt =
    let test : nat_lt next limit ≡ true = grind (arith, nat_tests) in
    let here : lower limit bytes next ≡ name_below (suc next) bytes next = rw test (enough limit (suc next) next bytes lt (omega arith)) in
    so_far.same ∙ ap (λ (name : Option (List ℕ)). name >>= in_front front) here

pub goes_on : (bytes : List ℕ) (place limit next : ℕ) (front : List ℕ) (run : Run) → IsReadOn bytes place limit front (Some next) → next < limit → run_at bytes next ≡ Some run
    → IsReadOn bytes place next (front ++ run.labels) run.target
goes_on bytes place limit next front run so_far lt is_run = record {
  same =
      below-limit bytes place limit next front so_far lt ∙ ap (λ (name : Option (List ℕ)). name >>= in_front front) (run-first bytes next run is_run)
      ∙ front-front front run.labels (pointed run.target (lower next bytes));
}

-- there is no name, or it is too long
abbrev pub IsLong : Option (List ℕ) → Type 0
IsLong None = Unit {0}
IsLong (Some name) = 255 < length name

long-behind : (front labels : List ℕ) (rest : Option (List ℕ)) → 255 < length front + length labels → IsLong (rest >>= in_front labels >>= in_front front)
long-behind front labels None long = tt
long-behind front labels (Some rest) long = omega (arith, length-append front (labels ++ rest), length-append labels rest)

long-run : (bytes : List ℕ) (place : ℕ) (front : List ℕ) (read : Option Run) → run_at bytes place ≡ read → LacksRoom (length front) read
    → IsLong (name_below (suc place) bytes place >>= in_front front)
long-run bytes place front None is_run lacks = rw is_run tt
long-run bytes place front (Some run) is_run lacks = rw is_run (long-behind front run.labels (pointed run.target (lower place bytes)) lacks)

-- the name and the place behind its first run, where it isn't too long
abbrev short_name : ℕ → Run → List ℕ → Option (List ℕ × ℕ)
short_name place run name = if nat_lt 255 (length name) then None else Some (name, place + run_length run)

abbrev named : ℕ → Option Run → Option (List ℕ) → Option (List ℕ × ℕ)
named place read name = read >>= λ run. name >>= short_name place run

no_name_of : (place : ℕ) (read : Option Run) (name : Option (List ℕ)) → IsLong name → named place read name ≡ None
no_name_of place None name long = refl
no_name_of place (Some run) None long = refl
no_name_of place (Some run) (Some name) long = let test : nat_lt 255 (length name) ≡ true = grind (arith, nat_tests) in rw test refl

short_name_of : (place : ℕ) (run : Run) (name : List ℕ) → length name ≤ 255 → short_name place run name ≡ Some (name, place + run_length run)
short_name_of place run name short = let test : nat_lt 255 (length name) ≡ false = grind (arith, nat_tests) in rw test refl

pub no-name : (bytes : List ℕ) (place : ℕ) → IsLong (name_below (suc place) bytes place) → name_at bytes place ≡ None
no-name bytes place long = no_name_of place (run_at bytes place) (name_below (suc place) bytes place) long

without-front : (name : Option (List ℕ)) → (name >>= in_front []) ≡ name
without-front None = refl
without-front (Some name) = refl

-- the first run lacks room, or a later one
pub first-lacks : (bytes : List ℕ) (place : ℕ) → LacksRoom 0 (run_at bytes place) → name_at bytes place ≡ None
first-lacks bytes place lacks =
    no-name bytes place (subst IsLong (without-front (name_below (suc place) bytes place)) (long-run bytes place [] (run_at bytes place) refl lacks))

pub later-lacks : (bytes : List ℕ) (place limit next : ℕ) (front : List ℕ) → IsReadOn bytes place limit front (Some next) → next < limit
    → LacksRoom (length front) (run_at bytes next) → name_at bytes place ≡ None
later-lacks bytes place limit next front so_far lt lacks =
    no-name bytes place (subst IsLong (sym (below-limit bytes place limit next front so_far lt)) (long-run bytes next front (run_at bytes next) refl lacks))

-- a pointer that doesn't go down
pub not-below : (bytes : List ℕ) (place limit next : ℕ) (front : List ℕ) → IsReadOn bytes place limit front (Some next) → limit ≤ next → name_at bytes place ≡ None
not-below bytes place limit next front so_far le =
    let test : nat_lt next limit ≡ false = grind (arith, nat_tests) in
    let here : lower limit bytes next ≡ None = rw test refl in
    no-name bytes place (subst IsLong (sym (so_far.same ∙ ap (λ (name : Option (List ℕ)). name >>= in_front front) here)) tt)

-- the zero behind the last label
pub no-room_for_zero : (bytes : List ℕ) (place limit : ℕ) (front : List ℕ) → IsReadOn bytes place limit front None → 255 ≤ length front → name_at bytes place ≡ None
no-room_for_zero bytes place limit front so_far long =
    no-name bytes place (subst IsLong (sym so_far.same) (omega (arith, length-append front (0 ∷ []))))

pub whole-name : (bytes : List ℕ) (place limit : ℕ) (front : List ℕ) (run : Run) → run_at bytes place ≡ Some run → IsReadOn bytes place limit front None → length (front ++ 0 ∷ []) ≤ 255
    → name_at bytes place ≡ Some (front ++ 0 ∷ [], place + run_length run)
whole-name bytes place limit front run is_run so_far short =
    ap (λ (read : Option Run). named place read (name_below (suc place) bytes place)) is_run
    ∙ ap (λ (name : Option (List ℕ)). named place (Some run) name) so_far.same
    ∙ short_name_of place run (front ++ 0 ∷ []) short
