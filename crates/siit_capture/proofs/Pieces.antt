-- The records that come next, where a capture is fed in pieces.
use Rattle.std.proofs.Common.{◌≡◌, ◌≢◌, ◌⊎◌, inl, inr, is_some, ℕ, ◌+◌, ◌^◌, ◌≤◌, ◌<◌, List, [], ◌++◌, length, Bool, true, false, cond, nat_lt, Option, Some, None, refl, ap, sym, subst, ◌∙◌, arith, append_assoc, length-append, length-drop, drop}
use Rattle.std.proofs.lemmas.List.{append-nil}
use Rattle.siit_capture.specs.Captures.{Records, faulty, from_head, from_record, one_more, past, records_at, records_from}
use Rattle.siit_capture.specs.Fronts.{Front, NeedsMore, bad, cut, done, whole}
use Rattle.siit_capture.specs.Heads.{head_by_link, head_by_magic, head_front, is_version, link_of, magic_of, number32}
use Rattle.siit_capture.specs.Holding.{IsPastHead}
use Rattle.siit_capture.specs.Told.{HasNoHead}
use Rattle.siit_capture.specs.Readings.{Reading, WaitsForBytes, behind_head, fed, records_to_come, with_piece}
use Rattle.siit_capture.specs.Records.{Record, record_front}
use Rattle.siit_capture.specs.declared.form.CaptureFault.{CaptureFault}
use Rattle.siit_capture.specs.declared.form.CaptureFault.TheVariants.{BadVersion, CutRecord}
use Rattle.siit_capture.specs.declared.form.Form.{Form}
use Rattle.siit_capture.specs.declared.form.LinkType.{LinkType}
use Rattle.siit_capture.specs.declared.form.Magic.{Magic}
use Rattle.siit_capture.proofs.HeadFronts.{IsTold, at_least, head_more, not_below, with_more}
use Rattle.siit_capture.proofs.RecordFronts.{bad_more, bad_uncut, ends_behind, record_more, waiting_length}
use Rattle.siit_capture.proofs.Turns.{records_step}

told_whole : {Item : Type 0} (front : Front Item) (item : Item) (behind : List ℕ) → front ≡ whole item behind → IsTold front
told_whole front item behind h = subst IsTold (sym h) tt

told_bad : {Item : Type 0} (front : Front Item) (fault : CaptureFault) → front ≡ bad fault → IsTold front
told_bad front fault h = subst IsTold (sym h) tt

-- the records from a head on that is whole
pub head_whole : (place : ℕ) (rest more : List ℕ) (form : Form) (behind : List ℕ) → head_front rest ≡ whole form behind
    → records_at None place (rest ++ more) ≡ records_from form (place + 24) (behind ++ more)
head_whole place rest more form behind h =
    ap (from_head place) (head_more rest more (told_whole (head_front rest) form behind h)) ∙ ap (λ front. from_head place (with_more front more)) h

pub head_faulty : (place : ℕ) (rest more : List ℕ) (fault : CaptureFault) → head_front rest ≡ bad fault → records_at None place (rest ++ more) ≡ faulty place fault
head_faulty place rest more fault h =
    ap (from_head place) (head_more rest more (told_bad (head_front rest) fault h)) ∙ ap (λ front. from_head place (with_more front more)) h

-- the records where more of the head is missing
pub head_cut : (place : ℕ) (rest : List ℕ) → head_front rest ≡ cut → records_at None place (rest ++ []) ≡ faulty place CutRecord
head_cut place rest h = ap (λ xs. from_head place (head_front xs)) (append-nil rest) ∙ ap (from_head place) h

-- a head of 24 bytes is told, and its fault isn't that bytes are missing
told_by_link : (magic : Magic) (link : Option LinkType) (xs : List ℕ) → IsTold (head_by_link magic link xs)
told_by_link magic None xs = tt
told_by_link magic (Some link) xs = tt

told_by_version : (version : Bool) (magic : Magic) (link : Option LinkType) (xs : List ℕ) → IsTold (cond version (head_by_link magic link xs) (bad BadVersion))
told_by_version true magic link xs = told_by_link magic link xs
told_by_version false magic link xs = tt

told_by_magic : (magic : Option Magic) (xs : List ℕ) → 24 ≤ length xs → IsTold (head_by_magic magic xs)
told_by_magic None xs h = tt
told_by_magic (Some magic) xs h =
    let version : Bool = is_version magic.endian xs in
    let link : Option LinkType = link_of (number32 magic.endian xs 20) in
    subst (λ b. IsTold (cond b cut (cond version (head_by_link magic link xs) (bad BadVersion)))) (sym (not_below 24 (length xs) h)) (told_by_version version magic link xs)

head_told : (xs : List ℕ) → 24 ≤ length xs → IsTold (head_front xs)
head_told xs h =
    let four : nat_lt (length xs) 4 ≡ false = not_below 4 (length xs) (omega arith) in
    subst (λ b. IsTold (cond b cut (head_by_magic (magic_of xs) xs))) (sym four) (told_by_magic (magic_of xs) xs h)

uncut_by_link : (magic : Magic) (link : Option LinkType) (xs : List ℕ) (fault : CaptureFault) → head_by_link magic link xs ≡ bad fault → fault ≢ CutRecord
uncut_by_link magic None xs fault h = λ e. cc
uncut_by_link magic (Some link) xs fault h = cc

uncut_by_tests : (short version : Bool) (magic : Magic) (link : Option LinkType) (xs : List ℕ) (fault : CaptureFault)
    → cond short cut (cond version (head_by_link magic link xs) (bad BadVersion)) ≡ bad fault → fault ≢ CutRecord
uncut_by_tests true version magic link xs fault h = cc
uncut_by_tests false true magic link xs fault h = uncut_by_link magic link xs fault h
uncut_by_tests false false magic link xs fault h = λ e. cc

uncut_by_magic : (short : Bool) (magic : Option Magic) (xs : List ℕ) (fault : CaptureFault) → cond short cut (head_by_magic magic xs) ≡ bad fault → fault ≢ CutRecord
uncut_by_magic true magic xs fault h = cc
uncut_by_magic false None xs fault h = λ e. cc
uncut_by_magic false (Some magic) xs fault h =
    uncut_by_tests (nat_lt (length xs) 24) (is_version magic.endian xs) magic (link_of (number32 magic.endian xs 20)) xs fault h

pub head_uncut : (xs : List ℕ) (fault : CaptureFault) → head_front xs ≡ bad fault → fault ≢ CutRecord
head_uncut xs fault h = uncut_by_magic (nat_lt (length xs) 4) (magic_of xs) xs fault h

below_or : (n m : ℕ) → (n < m) ⊎ (m ≤ n)
below_or n m = grind arith

-- a head that is cut is short
pub cut_length : (xs : List ℕ) → head_front xs ≡ cut → length xs < 24
cut_length xs h =
    elim (below_or (length xs) 24) [
      | inl less ↦ less
      | inr more ↦ absurd (subst IsTold h (head_told xs more))
    ]

-- a whole head is 24 bytes
by_link_behind : (magic : Magic) (link : Option LinkType) (xs : List ℕ) (form : Form) (behind : List ℕ) → 24 ≤ length xs → head_by_link magic link xs ≡ whole form behind → length xs ≡ 24 + length behind
by_link_behind magic None xs form behind long h = cc
by_link_behind magic (Some link) xs form behind long h =
    let left : drop 24 xs ≡ behind = cc in
    omega (arith, ap length left, length-drop 24 xs)

by_tests_behind : (short version : Bool) (magic : Magic) (link : Option LinkType) (xs : List ℕ) (form : Form) (behind : List ℕ) → short ≡ nat_lt (length xs) 24
    → cond short cut (cond version (head_by_link magic link xs) (bad BadVersion)) ≡ whole form behind → length xs ≡ 24 + length behind
by_tests_behind true version magic link xs form behind s h = cc
by_tests_behind false true magic link xs form behind s h = by_link_behind magic link xs form behind (at_least 24 (length xs) (sym s)) h
by_tests_behind false false magic link xs form behind s h = cc

by_magic_behind : (short : Bool) (magic : Option Magic) (xs : List ℕ) (form : Form) (behind : List ℕ) → cond short cut (head_by_magic magic xs) ≡ whole form behind → length xs ≡ 24 + length behind
by_magic_behind true magic xs form behind h = cc
by_magic_behind false None xs form behind h = cc
by_magic_behind false (Some magic) xs form behind h =
    by_tests_behind (nat_lt (length xs) 24) (is_version magic.endian xs) magic (link_of (number32 magic.endian xs 20)) xs form behind refl h

pub head_length : (xs : List ℕ) (form : Form) (behind : List ℕ) → head_front xs ≡ whole form behind → length xs ≡ 24 + length behind
head_length xs form behind h = by_magic_behind (nat_lt (length xs) 4) (magic_of xs) xs form behind h

-- the first record ends behind its own head
from_record_ends : (f : ℕ → List ℕ → Records) (place : ℕ) (front : Front Record) (found : Record) (ends : ℕ) (left : Records)
    → from_record f place front ≡ one_more found ends left → (behind : List ℕ) × (front ≡ whole found behind) × (ends ≡ past place found)
from_record_ends f place done found ends left h = cc
from_record_ends f place cut found ends left h = cc
from_record_ends f place (bad fault) found ends left h = cc
from_record_ends f place (whole item behind) found ends left h =
    let same : item ≡ found = cc in
    let end_is : past place item ≡ ends = cc in
    (behind, ap (λ r. whole r behind) same, sym end_is ∙ ap (past place) same)

pub record_ends : (form : Form) (place : ℕ) (bytes : List ℕ) (found : Record) (ends : ℕ) (left : Records) → records_from form place bytes ≡ one_more found ends left
    → (behind : List ℕ) × (record_front form bytes ≡ whole found behind) × (ends ≡ past place found)
record_ends form place bytes found ends left h =
    from_record_ends (records_from form) place (record_front form bytes) found ends left (sym (records_step form place bytes) ∙ h)

from_head_ends : (place : ℕ) (front : Front Form) (found : Record) (ends : ℕ) (left : Records) → from_head place front ≡ one_more found ends left → place + 24 < ends
from_head_ends place done found ends left h = cc
from_head_ends place cut found ends left h = cc
from_head_ends place (bad fault) found ends left h = cc
from_head_ends place (whole form behind) found ends left h =
    let r = record_ends form (place + 24) behind found ends left h in
    omega (arith, r.2)

-- what was fed of a head that is cut ends before the first record does
pub head_ahead : (place : ℕ) (rest more : List ℕ) (found : Record) (ends : ℕ) (left : Records) → head_front rest ≡ cut → records_at None place (rest ++ more) ≡ one_more found ends left → place + length rest < ends
head_ahead place rest more found ends left is h =
    omega (arith, cut_length rest is, from_head_ends place (head_front (rest ++ more)) found ends left h)

-- the record at the front, and those behind it
pub record_given : (form : Form) (place : ℕ) (rest more : List ℕ) (found : Record) (behind : List ℕ) → record_front form rest ≡ whole found behind
    → records_from form place (rest ++ more) ≡ one_more found (past place found) (records_from form (past place found) (behind ++ more))
record_given form place rest more found behind h =
    records_step form place (rest ++ more) ∙ ap (from_record (records_from form) place) (record_more form rest more found behind h)

pub record_faulty : (form : Form) (place : ℕ) (rest more : List ℕ) (fault : CaptureFault) → record_front form rest ≡ bad fault → records_from form place (rest ++ more) ≡ faulty place fault
record_faulty form place rest more fault h =
    records_step form place (rest ++ more) ∙ ap (from_record (records_from form) place) (bad_more form rest more fault h)

waits_by : (f : ℕ → List ℕ → Records) (place : ℕ) (front : Front Record) → NeedsMore front → WaitsForBytes (from_record f place front)
waits_by f place done needs = tt
waits_by f place cut needs = refl
waits_by f place (bad fault) needs = absurd needs
waits_by f place (whole found behind) needs = absurd needs

-- what was fed, and nothing behind it
pub records_here : (form : Form) (place : ℕ) (rest : List ℕ) → records_from form place (rest ++ []) ≡ from_record (records_from form) place (record_front form rest)
records_here form place rest = ap (records_from form place) (append-nil rest) ∙ records_step form place rest

pub record_waits : (form : Form) (place : ℕ) (rest : List ℕ) → NeedsMore (record_front form rest) → WaitsForBytes (records_from form place (rest ++ []))
record_waits form place rest needs = subst WaitsForBytes (sym (records_here form place rest)) (waits_by (records_from form) place (record_front form rest) needs)

pub record_ahead : (form : Form) (place : ℕ) (rest more : List ℕ) (found : Record) (ends : ℕ) (left : Records) → NeedsMore (record_front form rest)
    → records_from form place (rest ++ more) ≡ one_more found ends left → place + length rest < ends
record_ahead form place rest more found ends left needs h =
    let r = record_ends form place (rest ++ more) found ends left h in
    omega (arith, r.2, ends_behind form rest more found r.0 needs r.1)

-- what waits for bytes needs more of its front
needs_by_waiting : (f : ℕ → List ℕ → Records) (place : ℕ) (front : Front Record) → ((fault : CaptureFault) → front ≡ bad fault → fault ≢ CutRecord)
    → WaitsForBytes (from_record f place front) → NeedsMore front
needs_by_waiting f place done uncut waits = tt
needs_by_waiting f place cut uncut waits = tt
needs_by_waiting f place (bad fault) uncut waits = uncut fault refl waits
needs_by_waiting f place (whole found behind) uncut waits = absurd waits

cut_by_waiting : (place : ℕ) (front : Front Form) → ((fault : CaptureFault) → front ≡ bad fault → fault ≢ CutRecord) → HasNoHead front → WaitsForBytes (from_head place front) → IsTold front → ⊥
cut_by_waiting place done uncut past_it waits told = told
cut_by_waiting place cut uncut past_it waits told = told
cut_by_waiting place (bad fault) uncut past_it waits told = uncut fault refl waits
cut_by_waiting place (whole form behind) uncut past_it waits told = past_it

head_waiting : (place : ℕ) (rest : List ℕ) → HasNoHead (head_front rest) → WaitsForBytes (records_at None place (rest ++ [])) → length rest < 24
head_waiting place rest past_it waits =
    elim (below_or (length rest) 24) [
      | inl less ↦ less
      | inr more ↦ absurd (cut_by_waiting place (head_front rest) (head_uncut rest) past_it (subst (λ xs. WaitsForBytes (from_head place (head_front xs))) (append-nil rest) waits) (head_told rest more))
    ]

-- a piece fits behind what waits for it
pub waiting_rest : (form : Option Form) (place : ℕ) (rest : List ℕ) → IsPastHead form rest → WaitsForBytes (records_at form place (rest ++ [])) → length rest < 262160
waiting_rest None place rest past_it waits = omega (arith, head_waiting place rest past_it waits)
waiting_rest (Some form) place rest past_it waits =
    waiting_length form rest (needs_by_waiting (records_from form) place (record_front form rest) (bad_uncut form rest) (subst WaitsForBytes (records_here form place rest) waits))

-- a piece that is fed, and what follows it
records_fed_more : (form : Option Form) (front : Front Form) (place count : ℕ) (found : Option Record) (rest piece more : List ℕ) → front ≡ head_front (rest ++ piece)
    → records_to_come (behind_head form front (record { form = form; place = place; count = count; found = found; rest = rest ++ piece })) more ≡ records_at form place (rest ++ (piece ++ more))
records_fed_more (Some form) front place count found rest piece more is = ap (records_from form place) (append_assoc rest piece more)
records_fed_more None done place count found rest piece more is = ap (records_at None place) (append_assoc rest piece more)
records_fed_more None cut place count found rest piece more is = ap (records_at None place) (append_assoc rest piece more)
records_fed_more None (bad fault) place count found rest piece more is = ap (records_at None place) (append_assoc rest piece more)
records_fed_more None (whole form behind) place count found rest piece more is =
    sym (head_whole place (rest ++ piece) more form behind (sym is)) ∙ ap (records_at None place) (append_assoc rest piece more)

pub records_with_piece : (reading : Reading) (piece more : List ℕ) → records_to_come (with_piece reading piece) more ≡ records_to_come reading (piece ++ more)
records_with_piece reading piece more =
    records_fed_more reading.form (head_front (reading.rest ++ piece)) reading.place reading.count None reading.rest piece more refl

fed_more : (form : Option Form) (front : Front Form) (place count : ℕ) (found : Option Record) (rest piece : List ℕ) → front ≡ head_front (rest ++ piece)
    → fed (behind_head form front (record { form = form; place = place; count = count; found = found; rest = rest ++ piece })) ≡ place + length rest + length piece
fed_more (Some form) front place count found rest piece is = omega (arith, length-append rest piece)
fed_more None done place count found rest piece is = omega (arith, length-append rest piece)
fed_more None cut place count found rest piece is = omega (arith, length-append rest piece)
fed_more None (bad fault) place count found rest piece is = omega (arith, length-append rest piece)
fed_more None (whole form behind) place count found rest piece is = omega (arith, length-append rest piece, head_length (rest ++ piece) form behind (sym is))

pub fed_with_piece : (reading : Reading) (piece : List ℕ) → fed (with_piece reading piece) ≡ fed reading + length piece
fed_with_piece reading piece = fed_more reading.form (head_front (reading.rest ++ piece)) reading.place reading.count None reading.rest piece refl

count_more : (form : Option Form) (front : Front Form) (reading : Reading) → (behind_head form front reading).count ≡ reading.count
count_more (Some form) front reading = refl
count_more None done reading = refl
count_more None cut reading = refl
count_more None (bad fault) reading = refl
count_more None (whole form behind) reading = refl

pub count_with_piece : (reading : Reading) (piece : List ℕ) → (with_piece reading piece).count ≡ reading.count
count_with_piece reading piece = count_more reading.form (head_front (reading.rest ++ piece)) (record reading { found = None; rest = reading.rest ++ piece })

no_record : (place : ℕ) (front : Front Form) (found : Record) (ends : ℕ) (left : Records) → HasNoHead front → from_head place front ≡ one_more found ends left → ⊥
no_record place done found ends left none h = cc
no_record place cut found ends left none h = cc
no_record place (bad fault) found ends left none h = cc
no_record place (whole form behind) found ends left none h = absurd none

-- a record is next only behind the head
pub past_head_by_record : (of : Option Form) (place : ℕ) (rest behind : List ℕ) (found : Record) (ends : ℕ) (left : Records) → IsPastHead of rest
    → records_at of place (rest ++ []) ≡ one_more found ends left → IsPastHead of behind
past_head_by_record (Some form) place rest behind found ends left past_it h = tt
past_head_by_record None place rest behind found ends left past_it h =
    absurd (no_record place (head_front rest) found ends left past_it (sym (ap (λ xs. from_head place (head_front xs)) (append-nil rest)) ∙ h))

-- a reading whose head is whole with a piece
pub whole_with_piece : (of : Option Form) (place count : ℕ) (last : Option Record) (rest piece left : List ℕ) (form : Form) → of ≡ None
    → head_front (rest ++ piece) ≡ whole form (drop 24 (rest ++ piece)) → left ≡ drop 24 (rest ++ piece)
    → record { form = Some form; place = place + 24; count = count; found = None; rest = left } ≡ with_piece (record { form = of; place = place; count = count; found = last; rest = rest }) piece
whole_with_piece (Some other) place count last rest piece left form none is left_is = cc
whole_with_piece None place count last rest piece left form none is left_is =
    let fed_reading : Reading = record { form = None; place = place; count = count; found = None; rest = rest ++ piece } in
    let made : (List ℕ → Reading) = λ xs. record { form = Some form; place = place + 24; count = count; found = None; rest = xs } in
    ap made left_is ∙ sym (ap (λ front. behind_head None front fed_reading) is)

pub none_by : (of : Option Form) → false ≡ is_some of → of ≡ None
none_by None h = refl
none_by (Some form) h = cc

-- the place behind a head that is whole with a piece
pub head_few : (place : ℕ) (rest piece : List ℕ) (form : Form) (behind : List ℕ) → place + length rest + length piece < 2 ^ 64 → head_front (rest ++ piece) ≡ whole form behind → place + 24 + length behind < 2 ^ 64
head_few place rest piece form behind few is = omega (arith, few, head_length (rest ++ piece) form behind is, length-append rest piece)
