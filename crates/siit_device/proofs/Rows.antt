-- Where no rule of a list holds, none of its conditions does.
use Rattle.std.proofs.Common.{◌≡◌, ℕ, zero, suc, List, [], ◌∷◌, Bool, true, false, if◌then◌else◌, Option, Some, None, refl}
use Rattle.siit_rules.specs.declared.rule.Rule.{Rule}
use Rattle.siit_device.specs.Rows.{Row, first_of, or_rule}

pub neither : (a b : Option Rule) → or_rule a b ≡ None → (a ≡ None) × (b ≡ None)
neither None b e = (refl, e)
neither (Some rule) b e = (cc, cc)

-- the condition of the row at a place
abbrev pub holds-at : {P : Type 0} → ℕ → List (Row P) → P → Bool
holds-at n [] packet = false
holds-at zero (r ∷ rows) packet = r.holds packet
holds-at (suc n) (r ∷ rows) packet = holds-at n rows packet

not-this : (test : Bool) (rule : Rule) (later : Option Rule) → (if test then Some rule else later) ≡ None → (test ≡ false) × (later ≡ None)
not-this true rule later e = (cc, cc)
not-this false rule later e = (refl, e)

pub none-at : {P : Type 0} (n : ℕ) (rows : List (Row P)) (packet : P) → first_of rows packet ≡ None → holds-at n rows packet ≡ false
none-at n [] packet e = refl
none-at zero (r ∷ rows) packet e = (not-this (r.holds packet) r.rule (first_of rows packet) e).0
none-at (suc n) (r ∷ rows) packet e = none-at n rows packet (not-this (r.holds packet) r.rule (first_of rows packet) e).1
