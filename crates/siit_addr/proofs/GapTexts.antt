-- Where the "::" of a canonical text is found.
use Rattle.std.proofs.Common.{◌≡◌, ◌≢◌, ℕ, ◌%◌, ◌≤◌, List, [], ◌∷◌, ◌++◌, length, Option, Some, None, refl, ap, sym, ◌∙◌, arith, append_assoc, append-nil, length-append}
use Rattle.std.specs.Prelude.{option_map}
use Rattle.siit_addr.specs.Texts.{colon, around_gap}
use Rattle.siit_addr.specs.Canonical.{digit_byte, digit_at, group_text, behind_colons, joined}
use Rattle.siit_addr.proofs.Parts.{around_gap-byte, around_gap-here}
use Rattle.siit_addr.proofs.Lacking.{Lacks, Lacks-group_text, colon_is_no_digit}

-- more text before a gap
abbrev pub behind : List ℕ → Option (List ℕ × List ℕ) → Option (List ℕ × List ℕ)
behind front gap = option_map (λ sides. (front ++ sides.0, sides.1)) gap

behind_nothing : (gap : Option (List ℕ × List ℕ)) → gap ≡ behind [] gap
behind_nothing None = refl
behind_nothing (Some sides) = refl

behind_both : (a b : List ℕ) (gap : Option (List ℕ × List ℕ)) → behind a (behind b gap) ≡ behind (a ++ b) gap
behind_both a b None = refl
behind_both a b (Some sides) = ap (λ front. Some (front, sides.1)) (sym (append_assoc a b sides.0))

skip_byte : (byte : ℕ) (rest : List ℕ) → byte ≢ colon → around_gap (byte ∷ rest) ≡ behind (byte ∷ []) (around_gap rest)
skip_byte byte [] ne = refl
skip_byte byte (next ∷ rest) ne = around_gap-byte byte next rest (λ e. absurd (ne e))

skip_text : (text rest : List ℕ) → Lacks colon text → around_gap (text ++ rest) ≡ behind text (around_gap rest)
skip_text [] rest h = behind_nothing (around_gap rest)
skip_text (byte ∷ text) rest h =
    skip_byte byte (text ++ rest) h.0 ∙ ap (behind (byte ∷ [])) (skip_text text rest h.1)
    ∙ behind_both (byte ∷ []) text (around_gap rest)

skip_colon : (text rest : List ℕ) → Lacks colon text → 1 ≤ length text → around_gap (colon ∷ (text ++ rest)) ≡ behind (colon ∷ []) (around_gap (text ++ rest))
skip_colon [] rest h some = absurd (omega arith)
skip_colon (byte ∷ text) rest h some = around_gap-byte colon byte (text ++ rest) (λ _. h.0)

pub length-group_text : (n : ℕ) → 1 ≤ length (group_text n)
length-group_text n =
    omega (arith, length-append (digit_at 16 4096 n ++ digit_at 16 256 n ++ digit_at 16 16 n) (digit_byte (n % 16) ∷ []))

skip_group : (group : ℕ) (groups rest : List ℕ) → around_gap (behind_colons groups ++ rest) ≡ behind (behind_colons groups) (around_gap rest) → around_gap (joined (group ∷ groups) ++ rest) ≡ behind (joined (group ∷ groups)) (around_gap rest)
skip_group group groups rest step =
    ap around_gap (append_assoc (group_text group) (behind_colons groups) rest)
    ∙ skip_text (group_text group) (behind_colons groups ++ rest) (Lacks-group_text colon group colon_is_no_digit)
    ∙ ap (behind (group_text group)) step
    ∙ behind_both (group_text group) (behind_colons groups) (around_gap rest)

skip_behind_colons : (groups rest : List ℕ) → around_gap (behind_colons groups ++ rest) ≡ behind (behind_colons groups) (around_gap rest)
skip_behind_colons [] rest = behind_nothing (around_gap rest)
skip_behind_colons (group ∷ groups) rest =
    ap (λ text. around_gap (colon ∷ text)) (append_assoc (group_text group) (behind_colons groups) rest)
    ∙ skip_colon (group_text group) (behind_colons groups ++ rest) (Lacks-group_text colon group colon_is_no_digit) (length-group_text group)
    ∙ ap (λ text. behind (colon ∷ []) (around_gap text)) (sym (append_assoc (group_text group) (behind_colons groups) rest))
    ∙ ap (behind (colon ∷ [])) (skip_group group groups rest (skip_behind_colons groups rest))
    ∙ behind_both (colon ∷ []) (joined (group ∷ groups)) (around_gap rest)

-- no "::" lies in or at the end of groups with a colon between them
skip_joined : (groups rest : List ℕ) → around_gap (joined groups ++ rest) ≡ behind (joined groups) (around_gap rest)
skip_joined [] rest = behind_nothing (around_gap rest)
skip_joined (group ∷ groups) rest = skip_group group groups rest (skip_behind_colons groups rest)

pub around_gap-joined : (groups : List ℕ) → around_gap (joined groups) ≡ None
around_gap-joined groups = ap around_gap (sym (append-nil (joined groups))) ∙ skip_joined groups []

pub around_gap-sides : (left right : List ℕ) → around_gap (joined left ++ colon ∷ colon ∷ [] ++ joined right) ≡ Some (joined left, joined right)
around_gap-sides left right =
    ap around_gap (append_assoc (joined left) (colon ∷ colon ∷ []) (joined right))
    ∙ skip_joined left (colon ∷ colon ∷ joined right)
    ∙ ap (behind (joined left)) (around_gap-here colon colon (joined right) refl refl)
    ∙ ap (λ front. Some (front, joined right)) (append-nil (joined left))
