use Rattle.std.proofs.Common.{[], ◌∷◌, ◌*◌, ◌<◌, length, sym, subst, ap, refl, inr, append-nil}
use Rattle.std.proofs.lemmas.List.Elements.{All-cons, All-nil}
use Rattle.siit_fragments.specs.Pieces.{pieces_of}
use Rattle.siit_fragments.specs.Covers.{Covers}
use Rattle.siit_fragments.specs.Laws.{IsCut}
use Rattle.siit_fragments.proofs.Cutting.{cut-covers}
use Rattle.siit_fragments.proofs.Wholes.{whole-covers}
use Rattle.siit_fragments.proofs.laws.pieces_cover.Goals as goal

pub returns : goal.returns
returns c = λ d f blocks whole shares bytes big long.
    subst (λ l. Covers d l) (append-nil (pieces_of blocks f))
    (cut-covers (λ g. g) (λ g. pieces_of blocks f) d (f ∷ [])
    (All-cons (λ g. IsCut g (pieces_of blocks f)) f [] (inr (blocks, big, subst (λ n. 8 * blocks < n) (sym (ap length bytes)) long, refl)) (All-nil (λ g. IsCut g (pieces_of blocks f))))
    (whole-covers d f whole shares bytes))
