-- The parts of a generated capture, one after another.
use Rattle.std.proofs.Common.{◌≡◌, ℕ, zero, suc, ◌+◌, ◌-◌, ◌*◌, ◌%◌, ◌<◌, ◌≤◌, List, [], ◌++◌, length, drop, None, refl, ap, sym, subst, ◌∙◌, arith, length-drop, length-append, nat_lt, true, false}
use Rattle.std.proofs.lemmas.Bool.Decides.{nat_tests}
use Rattle.std.specs.List.{All, flat_map}
use Rattle.std.proofs.lemmas.List.{drop_at, drop-drop}
use Rattle.std.proofs.lemmas.List.FromFn.{length-map-range_with_len}
use Rattle.siit_capture.specs.Captures.{list_of, records_of, trouble_of}
use Rattle.siit_capture.proofs.ReadAgain.{written_again}
use Rattle.siit_capture.specs.Written.{IsWritable, written_head, written_record}
use Rattle.siit_generator.specs.Generated.{data_length, drawn, generated, generated_from, generated_packet, generated_record, next_state}
use Rattle.siit_model.specs.Ipv4.{ipv4_bytes}
use Rattle.siit_making.specs.Captures.{generated_capture}
use Rattle.siit_making.specs.Parts.{AreParts, Parts, first_part, later, next_part, parts_at, stepped}

-- LENGTHS

packet_length : (number draw : ℕ) → length (ipv4_bytes (generated_packet number draw)) ≡ 28 + data_length draw
packet_length number draw = omega (arith, length-map-range_with_len (λ (place : ℕ). (number + place) % 256) 0 (data_length draw))

pub packet_short : (number draw : ℕ) → length (ipv4_bytes (generated_packet number draw)) ≤ 1500
packet_short number draw = omega (arith, packet_length number draw)

pub record_short : (number draw : ℕ) → length (written_record (generated_record number draw)) ≤ 1516
record_short number draw = omega (arith, packet_short number draw)

records_short : (count number state : ℕ) → length (flat_map written_record (generated_from count number state)) ≤ 1516 * count
records_short zero number state = omega arith
records_short (suc count) number state =
    let first = written_record (generated_record number (drawn (next_state state))) in
    let more = flat_map written_record (generated_from count (number + 1) (next_state state)) in
    omega (arith, length-append first more, record_short number (drawn (next_state state)), records_short count (number + 1) (next_state state))

pub capture_short : (count seed : ℕ) → length (generated_capture count seed) ≤ 24 + 1516 * count
unfolding generated_capture
capture_short count seed = omega (arith, records_short count 0 seed)

-- READ AGAIN

pub writable_from : (count number state : ℕ) → number + count ≤ 100000 → All IsWritable (generated_from count number state)
writable_from zero number state few k found below = absurd (omega arith)
writable_from (suc count) number state few zero found below = record {
  link = refl;
  seconds = omega arith;
  nanoseconds = omega arith;
  bytes = omega (arith, packet_short number (drawn (next_state state)));
}
writable_from (suc count) number state few (suc k) found below =
    writable_from count (number + 1) (next_state state) (omega arith) k found (omega arith)

-- ONE AFTER ANOTHER

pub later_next : (parts : Parts) → parts.made < parts.count → later parts ≡ (next_part parts).hand ++ later (next_part parts)
later_next parts below =
    let left : parts.count - parts.made ≡ suc (parts.count - (parts.made + 1)) = omega arith in
    ap (λ n. flat_map written_record (generated_from n parts.made parts.state)) left

pub later_none : (parts : Parts) → parts.count ≤ parts.made → later parts ≡ []
later_none parts all =
    let left : parts.count - parts.made ≡ 0 = omega arith in
    ap (λ n. flat_map written_record (generated_from n parts.made parts.state)) left

pub all_parts : (count seed : ℕ) → written_head ++ later (first_part count seed) ≡ generated_capture count seed
unfolding generated_capture
all_parts count seed =
    let whole : count - 0 ≡ count = omega arith in
    ap (λ n. written_head ++ flat_map written_record (generated_from n 0 seed)) whole

pub first_is : (count seed : ℕ) → count ≤ 100000 → AreParts (first_part count seed)
first_is count seed few = record {
  few = few;
  made = omega arith;
  within = omega arith;
  short = omega arith;
  rest = sym (all_parts count seed);
}

-- The part at hand lies in the capture, with all that follows it.
pub inside : (parts : Parts) → AreParts parts
    → length (generated_capture parts.count parts.seed) ≡ parts.place + length parts.hand + length (later parts)
inside parts is =
    omega (arith, is.within, ap length is.rest, length-drop parts.place (generated_capture parts.count parts.seed), length-append parts.hand (later parts))

pub next_is : (parts : Parts) → AreParts parts → parts.made < parts.count → AreParts (next_part parts)
next_is parts is below = record {
  few = is.few;
  made = omega arith;
  within = omega (arith, inside parts is);
  short = omega (arith, is.short, record_short parts.made (drawn (next_state parts.state)));
  rest =
      sym (drop-drop (length parts.hand) parts.place (generated_capture parts.count parts.seed))
      ∙ ap (drop (length parts.hand)) is.rest
      ∙ drop_at parts.hand (later parts) (length parts.hand) refl
      ∙ later_next parts below;
}

-- A STEP

pub next_same : (parts : Parts) (place : ℕ) (hand : List ℕ) (made state : ℕ) → place ≡ parts.place + length parts.hand
    → hand ≡ written_record (generated_record parts.made (drawn (next_state parts.state))) → made ≡ parts.made + 1 → state ≡ next_state parts.state
    → parts_at parts.count parts.seed place hand made state ≡ next_part parts
next_same parts place hand made state p h m s = λ i. parts_at parts.count parts.seed (p i) (h i) (m i) (s i)

pub stepped_on : (parts : Parts) → parts.made < parts.count → stepped parts ≡ next_part parts
stepped_on parts below =
    let more : nat_lt parts.made parts.count ≡ true = grind (arith, nat_tests) in
    rw more refl

pub stepped_none : (parts : Parts) → nat_lt parts.made parts.count ≡ false → stepped parts ≡ parts
stepped_none parts none = rw none refl

pub none_later : (old new : Parts) → nat_lt old.made old.count ≡ false → new ≡ stepped old → later new ≡ []
none_later old new none is =
    let all : old.count ≤ old.made = grind (arith, nat_tests) in
    ap later (is ∙ stepped_none old none) ∙ later_none old all

pub record HasStepped (old new : Parts) : Type 0 where
  pub more : old.made < old.count
  pub count : new.count ≡ old.count
  pub seed : new.seed ≡ old.seed
  pub place : new.place ≡ old.place + length old.hand
  pub made : new.made ≡ old.made + 1

pub has_stepped : (old new : Parts) → nat_lt old.made old.count ≡ true → new ≡ stepped old → HasStepped old new
has_stepped old new more is =
    let below : old.made < old.count = grind (arith, nat_tests) in
    let next : new ≡ next_part old = is ∙ stepped_on old below in
    record {
      more = below;
      count = ap (λ (p : Parts). p.count) next;
      seed = ap (λ (p : Parts). p.seed) next;
      place = ap (λ (p : Parts). p.place) next;
      made = ap (λ (p : Parts). p.made) next;
    }

-- The head is at hand, of a capture that begins.
pub first_at : (count seed : ℕ) (hand : List ℕ) (made state : ℕ) → count ≤ 100000 → hand ≡ written_head → made ≡ 0 → state ≡ seed
    → AreParts (parts_at count seed 0 hand made state)
first_at count seed hand made state few h m s =
    let same : parts_at count seed 0 hand made state ≡ first_part count seed = λ i. parts_at count seed 0 (h i) (m i) (s i) in
    subst (λ (p : Parts). AreParts p) (sym same) (first_is count seed few)

-- what was still to be made is the next part, and what follows it
pub later_steps : (old new : Parts) → nat_lt old.made old.count ≡ true → new ≡ stepped old → later old ≡ new.hand ++ later new
later_steps old new more is =
    let below : old.made < old.count = grind (arith, nat_tests) in
    later_next old below ∙ ap (λ (p : Parts). p.hand ++ later p) (sym (is ∙ stepped_on old below))

pub later_ends : (old : Parts) → nat_lt old.made old.count ≡ false → later old ≡ []
later_ends old none =
    let all : old.count ≤ old.made = grind (arith, nat_tests) in
    later_none old all

pub capture_read : (count seed : ℕ) → count ≤ 100000
    → (list_of (records_of (generated_capture count seed)) ≡ generated count seed) × (trouble_of (records_of (generated_capture count seed)) ≡ None)
unfolding generated_capture
capture_read count seed few = written_again (generated count seed) (writable_from count 0 seed (omega arith))
