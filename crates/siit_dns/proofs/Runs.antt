-- Runs of labels, read a label at a time.
use Rattle.std.proofs.Common.{subst, get_or, ◌≡◌, ℕ, zero, suc, ◌+◌, ◌-◌, ◌*◌, ◌%◌, ◌<◌, ◌≤◌, List, [], ◌∷◌, ◌++◌, length, take, drop, length-drop, Option, Some, None, refl, sym, ap, ◌∙◌, arith, append_assoc}
use Rattle.std.proofs.Math.Seq.{take-add}
use Rattle.std.proofs.lemmas.List.{drop-drop, append-nil}
use Rattle.std.proofs.lemmas.Bool.Decides.{nat_tests}
use Rattle.siit_dns.specs.Names.{◌>>=◌, Run, with_byte, run_from}

-- what was read before, and what is still read
abbrev pub with_front : List ℕ → Run → Option Run
with_front front run = Some (record { labels = front ++ run.labels; target = run.target })

front-none : (read : Option Run) → (read >>= with_front []) ≡ read
front-none None = refl
front-none (Some run) = refl

front-byte : (front : List ℕ) (byte : ℕ) (read : Option Run) → (read >>= with_front front >>= with_byte byte) ≡ (read >>= with_front (byte ∷ front))
front-byte front byte None = refl
front-byte front byte (Some run) = refl

pub front-front : (front label : List ℕ) (read : Option Run) → (read >>= with_front label >>= with_front front) ≡ (read >>= with_front (front ++ label))
front-front front label None = refl
front-front front label (Some run) = ap (λ (labels : List ℕ). Some (record { labels = labels; target = run.target })) (sym (append_assoc front label run.labels))

-- what is left of a label, and what follows it
pub label_left : (left : ℕ) (rest : List ℕ) → left ≤ length rest → run_from left rest ≡ (run_from 0 (drop left rest) >>= with_front (take left rest))
label_left zero rest le = sym (front-none (run_from 0 rest))
label_left (suc left) [] le = absurd (omega arith)
label_left (suc left) (byte ∷ rest) le =
    ap (λ read. read >>= with_byte byte) (label_left left rest (omega arith)) ∙ front-byte (take left rest) byte (run_from 0 (drop left rest))

-- a label that runs past the end
pub label_cut : (left : ℕ) (rest : List ℕ) → length rest < left → run_from left rest ≡ None
label_cut zero rest lt = absurd (omega arith)
label_cut (suc left) [] lt = refl
label_cut (suc left) (byte ∷ rest) lt = ap (λ read. read >>= with_byte byte) (label_cut left rest (omega arith))

-- an octet that counts a label's bytes
pub run-label : (octet : ℕ) (tail : List ℕ) → 1 ≤ octet → octet < 64 → run_from 0 (octet ∷ tail) ≡ (run_from octet tail >>= with_byte octet)
run-label octet tail le lt = grind (arith, nat_tests)

-- the bytes from a place on, of which all labels in front of `rest` were read
pub record AreRead (whole rest : List ℕ) : Type 0 where
  pub fits : length rest ≤ length whole
  pub suffix : rest ≡ drop (length whole - length rest) whole
  pub same : run_from 0 whole ≡ (run_from 0 rest >>= with_front (take (length whole - length rest) whole))

pub none-read : (whole : List ℕ) → AreRead whole whole
none-read whole =
    let none : length whole - length whole ≡ 0 = omega arith in
    record { fits = omega arith; suffix = rw none refl; same = rw none (sym (front-none (run_from 0 whole))) }

pub label-read : (whole tail : List ℕ) (octet : ℕ) → AreRead whole (octet ∷ tail) → 1 ≤ octet → octet < 64 → octet ≤ length tail → AreRead whole (drop octet tail)
label-read whole tail octet so_far le lt room =
    let before : ℕ = length whole - length (octet ∷ tail) in
    let size : length (drop octet tail) ≡ length tail - octet = length-drop octet tail in
    let fits : suc (length tail) ≤ length whole = so_far.fits in
    let now : length whole - length (drop octet tail) ≡ before + suc octet = omega arith in
    let label : List ℕ = octet ∷ take octet tail in
    let taken : take (before + suc octet) whole ≡ take before whole ++ label =
    take-add before (suc octet) whole ∙ ap (λ (rest : List ℕ). take before whole ++ take (suc octet) rest) (sym so_far.suffix) in
    record {
      fits = omega arith;
      suffix = rw now (ap (drop (suc octet)) so_far.suffix ∙ drop-drop (suc octet) before whole);
      same = rw (now, taken) (
          so_far.same
          ∙ ap (λ read. read >>= with_front (take before whole)) (
          run-label octet tail le lt ∙ ap (λ read. read >>= with_byte octet) (label_left octet tail room)
          ∙ front-byte (take octet tail) octet (run_from 0 (drop octet tail)))
          ∙ front-front (take before whole) label (run_from 0 (drop octet tail)));
    }

-- where no label follows, the run ends so, or there is none
pub ends-read : (whole rest : List ℕ) (read : Option Run) → AreRead whole rest → run_from 0 rest ≡ read
    → run_from 0 whole ≡ (read >>= with_front (take (length whole - length rest) whole))
ends-read whole rest read so_far ends = so_far.same ∙ ap (λ read. read >>= with_front (take (length whole - length rest) whole)) ends

pub label-cut_short : (whole tail : List ℕ) (octet : ℕ) → AreRead whole (octet ∷ tail) → 1 ≤ octet → octet < 64 → length tail < octet → run_from 0 whole ≡ None
label-cut_short whole tail octet so_far le lt short =
    ends-read whole (octet ∷ tail) None so_far (run-label octet tail le lt ∙ ap (λ read. read >>= with_byte octet) (label_cut octet tail short))

-- the same of a slice whose first byte is known by its place
pub goes_on : (whole rest tail later : List ℕ) (len : ℕ) → AreRead whole rest → 1 ≤ length rest → len ≡ get_or rest 0 0 → tail ≡ drop 1 rest → 1 ≤ len → len < 64
    → len ≤ length tail → later ≡ drop len tail → AreRead whole later
goes_on whole [] tail later len so_far some is_len is_tail least most room is_later = absurd (omega arith)
goes_on whole (octet ∷ others) tail later len so_far some is_len is_tail least most room is_later =
    let is_later_of : later ≡ drop octet others = is_later ∙ ap (λ n. drop n tail) is_len ∙ ap (drop octet) is_tail in
    subst (AreRead whole) (sym is_later_of) (label-read whole others octet so_far (omega arith) (omega arith) (omega (arith, ap length is_tail)))

pub is_cut : (whole rest tail : List ℕ) (len : ℕ) → AreRead whole rest → 1 ≤ length rest → len ≡ get_or rest 0 0 → tail ≡ drop 1 rest → 1 ≤ len → len < 64
    → length tail < len → run_from 0 whole ≡ None
is_cut whole [] tail len so_far some is_len is_tail least most short = absurd (omega arith)
is_cut whole (octet ∷ others) tail len so_far some is_len is_tail least most short =
    label-cut_short whole others octet so_far (omega arith) (omega arith) (omega (arith, ap length is_tail))

-- where a pointer ends the run
pub pointer-read : (whole rest : List ℕ) (octet low : ℕ) → AreRead whole rest → 2 ≤ length rest → octet ≡ get_or rest 0 0 → low ≡ get_or rest 1 0 → 192 ≤ octet → octet < 256
    → run_from 0 whole ≡ Some (record { labels = take (length whole - length rest) whole; target = Some (octet % 64 * 256 + low) })
pointer-read whole [] octet low so_far some is_octet is_low least most = absurd (omega arith)
pointer-read whole (first ∷ []) octet low so_far some is_octet is_low least most = absurd (omega arith)
pointer-read whole (first ∷ second ∷ others) octet low so_far some is_octet is_low least most =
    let front : List ℕ = take (length whole - length (first ∷ second ∷ others)) whole in
    let here : run_from 0 (first ∷ second ∷ others) ≡ Some (record { labels = []; target = Some (first % 64 * 256 + second) }) = grind (arith, nat_tests) in
    ends-read whole (first ∷ second ∷ others) _ so_far here ∙ rw (append-nil front, is_octet, is_low) refl
