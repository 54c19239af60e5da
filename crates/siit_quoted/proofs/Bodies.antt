-- The new body of an ICMP error that goes to IPv4 or is turned, by the walk over the quote and by the place of its
-- extension.
use Rattle.std.proofs.Common.{◌≡◌, ℕ, ◌+◌, ◌-◌, ◌*◌, ◌/◌, ◌%◌, ◌≤◌, List, take, drop, Bool, Option, Some, None, Result, Ok, ◌∙◌, ap, sym, subst, arith}
use Rattle.std.proofs.lemmas.List.{drop-drop}
use Rattle.siit_model.specs.Extensions.{Walked, Trouble}
use Rattle.siit_v6to4.specs.To4.{walk_in}
use Rattle.siit_quoted.specs.Bodies.{NewBody, joined_to_4, joined_turned, padding}
use Rattle.siit_quoted.specs.Errors.{quote_by_walk}
use Rattle.siit_quoted.specs.Quoted.{HasQuote6, quoted6_fields}
use Rattle.siit_quoted.specs.Quotes.{quote_to_4, quote_turned}
use Rattle.siit_quoted.specs.Refusals.{quote_refusal6}
use Rattle.siit_quoted.specs.Rewriting.{extension_behind, new_body_to_4, new_body_turned, part_before, walked_body_to_4, walked_body_turned}

pub by-walk : (translated : Walked → List ℕ) (r : Result Walked Trouble) (w : Walked) → r ≡ Ok w → quote_by_walk translated r ≡ translated w
by-walk translated r w is = ap (quote_by_walk translated) is

-- the new body by a walk is the new body
pub body4-walked : (source destination : ℕ) (tos_zero : Bool) (w : Walked) (ext : Option ℕ) (body : List ℕ) → walk_in (part_before ext body) ≡ Ok w
    → walked_body_to_4 source destination tos_zero w ext body ≡ new_body_to_4 source destination tos_zero ext body
body4-walked source destination tos_zero w ext body walk =
    sym (ap (joined_to_4 (extension_behind ext body))
    (by-walk (λ walked. quote_to_4 source destination tos_zero (quoted6_fields walked (part_before ext body))) (walk_in (part_before ext body)) w walk))

pub body-turned-walked : (source destination : ℕ) (w : Walked) (ext : Option ℕ) (body : List ℕ) → walk_in (part_before ext body) ≡ Ok w
    → walked_body_turned source destination w ext body ≡ new_body_turned source destination ext body
body-turned-walked source destination w ext body walk =
    sym (ap (joined_turned (extension_behind ext body))
    (by-walk (λ walked. quote_turned source destination (quoted6_fields walked (part_before ext body))) (walk_in (part_before ext body)) w walk))

-- a quote that was handed out in place
pub walk-handed : (w : Walked) (ext : Option ℕ) (at : ℕ) (quote seen old : List ℕ) → quote ≡ part_before ext (drop at seen) → seen ≡ old → walk_in quote ≡ Ok w
    → walk_in (part_before ext (drop at old)) ≡ Ok w
walk-handed w ext at quote seen old is_quote same walk = sym (ap walk_in (is_quote ∙ ap (λ (b : List ℕ). part_before ext (drop at b)) same)) ∙ walk

pub refusal-handed : (ext : Option ℕ) (at : ℕ) (quote seen old : List ℕ) → quote ≡ part_before ext (drop at seen) → seen ≡ old
    → quote_refusal6 (part_before ext (drop at old)) ≡ None → quote_refusal6 quote ≡ None
refusal-handed ext at quote seen old is_quote same accepted = ap quote_refusal6 (is_quote ∙ ap (λ (b : List ℕ). part_before ext (drop at b)) same) ∙ accepted

pub has-handed : (w : Walked) (ext : Option ℕ) (at : ℕ) (quote seen old : List ℕ) → quote ≡ part_before ext (drop at seen) → seen ≡ old → HasQuote6 w quote
    → HasQuote6 w (part_before ext (drop at old))
has-handed w ext at quote seen old is_quote same has = subst (HasQuote6 w) (is_quote ∙ ap (λ (b : List ℕ). part_before ext (drop at b)) same) has

-- what is known of the quote, by the case of its extension
pub has-alone : (w : Walked) (ext : Option ℕ) (body : List ℕ) → ext ≡ None → HasQuote6 w (part_before ext body) → HasQuote6 w body
has-alone w ext body none has = subst (λ (e : Option ℕ). HasQuote6 w (part_before e body)) none has

pub has-extended : (w : Walked) (ext : Option ℕ) (place from : ℕ) (body : List ℕ) → ext ≡ Some place → from ≡ place → HasQuote6 w (part_before ext body) → HasQuote6 w (take from body)
has-extended w ext place from body some is_from has =
    subst (λ n. HasQuote6 w (take n body)) (sym is_from) (subst (λ (e : Option ℕ). HasQuote6 w (part_before e body)) some has)

-- a body of which the extension is told by its place: made of the quote before it and of the extension
pub body-is : (made : Option (List ℕ) → List ℕ → NewBody) (translated : List ℕ → List ℕ) (ext : Option ℕ) (place from at : ℕ) (old : List ℕ) → ext ≡ Some place → from ≡ place
    → made (extension_behind ext (drop at old)) (translated (part_before ext (drop at old))) ≡ made (Some (drop (at + from) old)) (translated (take from (drop at old)))
body-is made translated ext place from at old some is_from =
    ap (λ (e : Option ℕ). made (extension_behind e (drop at old)) (translated (part_before e (drop at old)))) some
    ∙ ap (λ n. made (Some (drop n (drop at old))) (translated (take n (drop at old)))) (sym is_from)
    ∙ ap (λ (l : List ℕ). made (Some l) (translated (take from (drop at old)))) (drop-drop from at old)

pub body-none : (made : Option (List ℕ) → List ℕ → NewBody) (translated : List ℕ → List ℕ) (ext : Option ℕ) (body : List ℕ) → ext ≡ None
    → made (extension_behind ext body) (translated (part_before ext body)) ≡ made None (translated body)
body-none made translated ext body none = ap (λ (e : Option ℕ). made (extension_behind e body) (translated (part_before e body))) none

-- a quote that is shorter than its part has room for the zeros
pub padded-within : (len place : ℕ) → len + 20 ≤ place → 128 ≤ place → len + padding 4 len ≤ place
padded-within len place shorter least = omega arith

pub told : (len : ℕ) → len ≤ 1020 → (len + padding 4 len) / 4 ≤ 255
told len most = omega arith

pub fits-still : (len place at behind whole all : ℕ) → len + 20 ≤ place → 128 ≤ place → whole ≡ at + len + behind → behind ≡ all - (at + place)
    → at + place ≤ all → all ≤ 65575 → padding 4 len + whole ≤ 65575
fits-still len place at behind whole all shorter least is_whole is_behind inside most =
    let within = padded-within len place shorter least in omega (arith, within)

-- the same of a turned quote, which is no longer than its part of whole units
pub turned-within : (len place : ℕ) → len ≤ place → 128 ≤ place → place % 8 ≡ 0 → len + padding 8 len ≤ place
turned-within len place shorter least units = omega arith

pub turned-told : (len place : ℕ) → len + padding 8 len ≤ place → place ≤ 255 * 8 → (len + padding 8 len) / 8 ≤ 255
turned-told len place within most = omega arith

pub turned-fits : (filled len place at behind whole all : ℕ) → len + filled ≤ place → whole ≡ at + len + behind → behind ≡ all - (at + place)
    → at + place ≤ all → all ≤ 65575 → filled + whole ≤ 65575
turned-fits filled len place at behind whole all within is_whole is_behind inside most = omega arith
