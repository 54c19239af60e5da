-- Files of captures, over calls that leave them as they are.
use Rattle.std.proofs.Common.{◌≡◌, ◌≢◌, ℕ, ◌+◌, ◌≤◌, List, [], Bool, Option, Some, None, is_some, IsTrue, refl, ap, sym, subst, ◌∙◌, arith}
use Rattle.siit_word.specs.Files.{FilesMeaning, Touches, held}
use Rattle.siit_word.proofs.Touched.{touches_among, touches_then}
use Rattle.siit_chain.specs.Outputs.{some_name}
use Rattle.siit_capture.specs.Captures.{Records, ended, faulty, one_more}
use Rattle.siit_run.specs.Ahead.{IsReadAhead, IsReadTo}
use Rattle.siit_running.specs.Answers.{IsNearIn}
use Rattle.siit_running.specs.Inputs.{IsApart, IsTold}
use Rattle.siit_running.specs.Sources.{IsFedNear, IsReadToIn, IsToldIn, file_named}

pub told_in : (files : FilesMeaning) (name : Option (List ℕ)) → IsTold files name → IsToldIn (file_named files name)
told_in files None told = tt
told_in files (Some name) told = told

-- A file that wasn't written is as before.
pub file_same : {a b : FilesMeaning} {reads writes : List (List ℕ)} → Touches a b reads writes → (name : Option (List ℕ)) → IsApart name writes → file_named b name ≡ file_named a name
file_same only None apart = refl
file_same {a} {b} only (Some name) apart =
    ap (λ (t : Bool). Some (record { told = t; there = is_some (b.contents name); bytes = held (b.contents name) })) (only.told name)
    ∙ ap (λ (f : Option (List ℕ)). Some (record { told = a.told name; there = is_some f; bytes = held f })) (only.contents name apart)

pub apart_none : (name : Option (List ℕ)) → IsApart name []
apart_none None = tt
apart_none (Some name) = tt

pub told_same : {a b : FilesMeaning} {reads writes : List (List ℕ)} → Touches a b reads writes → (name : Option (List ℕ)) → IsTold a name → IsTold b name
told_same only None told = tt
told_same only (Some name) told = subst (λ (x : Bool). IsTrue x) (sym (only.told name)) told

-- How far a file was read

pub read_less : (old new : Option ℕ) (a b : ℕ) → a ≤ b → IsReadTo old new a → IsReadTo old new b
read_less None None a b le h = tt
read_less None (Some n) a b le h = h
read_less (Some o) None a b le h = h
read_less (Some o) (Some n) a b le h = omega arith

pub read_then : (old mid new : Option ℕ) (a b : ℕ) → IsReadTo old mid a → IsReadTo mid new b → a ≤ b → IsReadTo old new b
read_then None None None a b h k le = tt
read_then None None (Some n) a b h k le = absurd k
read_then None (Some m) new a b h k le = absurd h
read_then (Some o) None new a b h k le = absurd h
read_then (Some o) (Some m) None a b h k le = absurd k
read_then (Some o) (Some m) (Some n) a b h k le = omega arith

pub in_then : (a b c : FilesMeaning) (name : Option (List ℕ)) (m n : ℕ) → IsReadToIn a b name m → IsReadToIn b c name n → m ≤ n → IsReadToIn a c name n
in_then a b c None m n h k le = tt
in_then a b c (Some name) m n h k le = read_then (a.given name) (b.given name) (c.given name) m n h k le

given_apart : {a b : FilesMeaning} {writes : List (List ℕ)} (name : List ℕ) (other : Option (List ℕ)) → other ≢ Some name → Touches a b (some_name other) writes → b.given name ≡ a.given name
given_apart name None differ only = only.given name tt
given_apart name (Some q) differ only = only.given name ((λ same. differ (ap Some (sym same))), tt)

-- Reading another file changes nothing of it.
pub in_kept : (a b c : FilesMeaning) (name other : Option (List ℕ)) (place : ℕ) → other ≢ name → IsReadToIn a b name place → Touches b c (some_name other) [] → IsReadToIn a c name place
in_kept a b c None other place differ h only = tt
in_kept a b c (Some name) other place differ h only = subst (λ (g : Option ℕ). IsReadTo (a.given name) g place) (sym (given_apart name other differ only)) h

pub in_after : (a b c : FilesMeaning) (name other : Option (List ℕ)) (place : ℕ) → other ≢ name → Touches a b (some_name other) [] → IsReadToIn b c name place → IsReadToIn a c name place
in_after a b c None other place differ only h = tt
in_after a b c (Some name) other place differ only h = subst (λ (g : Option ℕ). IsReadTo g (c.given name) place) (given_apart name other differ only) h

-- Nothing was read.
pub in_written : (a b c : FilesMeaning) (writes : List (List ℕ)) (name : Option (List ℕ)) (place : ℕ) → IsReadToIn a b name place → Touches b c [] writes → IsReadToIn a c name place
in_written a b c writes None place h only = tt
in_written a b c writes (Some name) place h only = subst (λ (g : Option ℕ). IsReadTo (a.given name) g place) (sym (only.given name tt)) h

ahead_at : (old new : Option ℕ) (rest : Records) (place : ℕ) → IsReadTo old new place → IsFedNear rest place → IsReadAhead old new rest
ahead_at old new ended place read near = tt
ahead_at old new (faulty fault_place fault) place read near = tt
ahead_at old new (one_more record_found ends later) place read near = read_less old new place (ends + 65536) (near record_found ends later refl) read

pub near_in : (a b : FilesMeaning) (name other : Option (List ℕ)) (rest : Records) (place : ℕ) → (other ≢ name → IsReadToIn a b name place) → IsFedNear rest place → IsNearIn a b name other rest
near_in a b None other rest place read near = tt
near_in a b (Some name) other rest place read near = λ differ. ahead_at (a.given name) (b.given name) rest place (read differ) near

pub only_read : {a b : FilesMeaning} {reads writes : List (List ℕ)} → Touches a b reads [] → Touches a b reads writes
only_read h = touches_among h (λ q none. none) (λ q none. tt)

pub only_written : {a b : FilesMeaning} {reads writes : List (List ℕ)} → Touches a b [] writes → Touches a b reads writes
only_written h = touches_among h (λ q none. tt) (λ q none. none)

pub in_since : (a b c : FilesMeaning) (writes : List (List ℕ)) (name : Option (List ℕ)) (place : ℕ) → Touches a b [] writes → IsReadToIn b c name place → IsReadToIn a c name place
in_since a b c writes None place only h = tt
in_since a b c writes (Some name) place only h = subst (λ (g : Option ℕ). IsReadTo g (c.given name) place) (only.given name tt) h

-- Captures were read on, and then something was written.
pub only_turn : {a b c d : FilesMeaning} {reads writes : List (List ℕ)} → Touches a b reads writes → Touches b c reads [] → Touches c d [] writes → Touches a d reads writes
only_turn before read wrote = touches_then (touches_then before (only_read read)) (only_written wrote)
