-- What is appended in turn, and what is gathered before it is written.
use Rattle.std.proofs.Common.{◌≡◌, ℕ, ◌+◌, ◌-◌, ◌≤◌, List, [], ◌++◌, length, take, drop, refl, ap, sym, ◌∙◌, arith, append_assoc, append-nil, length-drop, Option, Some, None}
use Rattle.std.proofs.lemmas.Grind.{common_steps}
use Rattle.std.proofs.lemmas.List.{take_all, take_rest}
use Rattle.std.proofs.Math.Seq.{take-add}
use Rattle.std.specs.Io.KnownBytes.{Appends, Keeps}
use Rattle.siit.specs.Appending.{AppendsPart}

pub appends_none : (a : Option (List ℕ)) → Appends a a []
appends_none None = tt
appends_none (Some hs) = sym (append-nil hs)

pub appends_then : (a b c : Option (List ℕ)) (xs ys : List ℕ) → Appends a b xs → Appends b c ys → Appends a c (xs ++ ys)
appends_then None b c xs ys first then = tt
appends_then (Some hs) None c xs ys first then = elim first [ ]
appends_then (Some hs) (Some bs) None xs ys first then = elim then [ ]
appends_then (Some hs) (Some bs) (Some cs) xs ys first then = then ∙ ap (λ zs. zs ++ ys) first ∙ append_assoc hs xs ys

pub appends_kept : (a b c : Option (List ℕ)) (xs : List ℕ) → Appends a b xs → Keeps b c → Appends a c xs
appends_kept None b c xs first kept = tt
appends_kept (Some hs) None c xs first kept = elim first [ ]
appends_kept (Some hs) (Some bs) None xs first kept = elim kept [ ]
appends_kept (Some hs) (Some bs) (Some cs) xs first kept = kept ∙ first

-- how far a loop is that writes these bytes: the first ones were written, and these are left
pub record HasWritten (before now : Option (List ℕ)) (bytes left : List ℕ) : Type 0 where
  pub count : ℕ
  pub within : count ≤ length bytes
  pub rest : left ≡ drop count bytes
  pub written : Appends before now (take count bytes)

pub begun : {file : Option (List ℕ)} {bytes : List ℕ} → HasWritten file file bytes bytes
begun {file} {bytes} = record { count = 0; within = omega arith; rest = refl; written = appends_none file }

pub more_written : {before mid : Option (List ℕ)} (now : Option (List ℕ)) {bytes left : List ℕ} (n : ℕ) → HasWritten before mid bytes left → n ≤ length left → Appends mid now (take n left) → HasWritten before now bytes (take (length left - n) (drop n left))
more_written {before} {mid} now {bytes} {left} n h fits more =
    record {
      count = h.count + n;
      within = omega (arith, fits, ap length h.rest, length-drop h.count bytes, h.within);
      rest = take_rest left n ∙ ap (drop n) h.rest ∙ grind (arith, common_steps);
      written = rw (take-add h.count n bytes) (rw (h.rest) at (appends_then before mid now (take h.count bytes) (take n left) h.written more));
    }

pub all_written : {before now : Option (List ℕ)} {bytes left : List ℕ} → HasWritten before now bytes left → length left ≡ 0 → Appends before now bytes
all_written {before} {now} {bytes} {left} h none =
    let all : take h.count bytes ≡ bytes = take_all h.count bytes (omega (arith, none, ap length h.rest, length-drop h.count bytes)) in
    rw all at h.written

pub cut_written : {before mid : Option (List ℕ)} (now : Option (List ℕ)) {bytes left : List ℕ} → HasWritten before mid bytes left → Keeps mid now → AppendsPart before now bytes
cut_written {before} {mid} now {bytes} {left} h kept = (h.count, h.within, appends_kept before mid now (take h.count bytes) h.written kept)
