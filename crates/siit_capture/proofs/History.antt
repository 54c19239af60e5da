-- What a reader has given, by what it has gone through.
use Rattle.std.proofs.Common.{◌≡◌, ℕ, List, [], ◌∷◌, ◌++◌, refl, ap, sym, ◌∙◌, append_assoc}
use Rattle.std.proofs.lemmas.List.{append-nil}
use Rattle.siit_capture.specs.Captures.{Records, ended, faulty, list_of, one_more, records_of, trouble_of}
use Rattle.siit_capture.specs.Histories.{HasRead, feed, new, next, none}
use Rattle.siit_capture.specs.Readings.{Reading, WaitsForBytes, records_fed, records_to_come, with_record}
use Rattle.siit_capture.specs.Records.{Record}
use Rattle.siit_capture.proofs.Pieces.{records_with_piece}

pub given_first : (bytes : List ℕ) (given : List Record) (reading : Reading) → HasRead bytes given reading → (more : List ℕ)
    → (list_of (records_of (bytes ++ more)) ≡ given ++ list_of (records_to_come reading more)) × (trouble_of (records_of (bytes ++ more)) ≡ trouble_of (records_to_come reading more))
given_first _ _ _ new more = (refl, refl)
given_first _ _ _ (feed bytes piece given reading before) more =
    let rest = given_first bytes given reading before (piece ++ more) in
    let here = records_with_piece reading piece more in
    let bytes_are = append_assoc bytes piece more in (
      ap (λ b. list_of (records_of b)) bytes_are ∙ rest.0 ∙ ap (λ r. given ++ list_of r) (sym here),
      ap (λ b. trouble_of (records_of b)) bytes_are ∙ rest.1 ∙ ap trouble_of (sym here),
    )
given_first _ _ _ (next bytes given reading found before is) more =
    let rest = given_first bytes given reading before more in (
      rest.0 ∙ ap (λ r. given ++ list_of r) (is more) ∙ sym (append_assoc given (found ∷ []) (list_of (records_to_come (with_record found reading) more))),
      rest.1 ∙ ap trouble_of (is more),
    )
given_first _ _ _ (none bytes given reading before) more = given_first bytes given reading before more

none_left : (records : Records) → WaitsForBytes records → list_of records ≡ []
none_left ended waits = refl
none_left (faulty place fault) waits = refl
none_left (one_more found ends rest) waits = absurd waits

pub given_all : (bytes : List ℕ) (given : List Record) (reading : Reading) → HasRead bytes given reading → WaitsForBytes (records_fed reading) → list_of (records_of bytes) ≡ given
given_all bytes given reading has waits =
    ap (λ b. list_of (records_of b)) (sym (append-nil bytes))
    ∙ (given_first bytes given reading has []).0
    ∙ ap (λ l. given ++ l) (none_left (records_fed reading) waits)
    ∙ append-nil given
