-- Arrays of another length than two.
use Rattle.std.proofs.Common.{◌≡◌, ◌≢◌, List, [], ◌∷◌, length, None, refl}
use Rattle.toml.specs.declared.value.Value.{Value}
use Rattle.toml.specs.View.{items_view}
use Rattle.siit_config.specs.Keys.{texts_in}

pub texts_in-other : (vs : List Value) → length vs ≢ 2 → texts_in (items_view vs) ≡ None
texts_in-other [] h = refl
texts_in-other (v ∷ []) h = refl
texts_in-other (v ∷ w ∷ []) h = absurd (h refl)
texts_in-other (v ∷ w ∷ x ∷ vs) h = refl
