-- What bytes end as, from what their parts end as.
use Rattle.std.proofs.Common.{ℕ, List, [], ◌∷◌, ◌+◌, ◌++◌, drop as drop_l, MutBor}
use seplogic.Ra.Ura.{Ura}
use base.Logic.{ent, sep, wand}
use base.Fml.{GName, fsep}
use types.Logic.{Logic, sem}
use types.Kit.{‵, ◌⊛◌, split, ◌$◌, ◌∵◌, !, qed, by, move, use2, join, fsplit, fsplit3, each, assume}
use types.Follow.{followed₂}
use denote.Memory.{mem}
use denote.Array.{Array}
use denote.Builtin.{u8}
use denote.Follow.{both_by}
use Rattle.siit_model.specs.Ipv4.{total_length_in}
use Rattle.siit_model.specs.Ipv6.{payload_length_in}
use Rattle.siit_views.specs.declared.ipv4.Ipv4View.{Ipv4View}
use Rattle.siit_views.specs.declared.ipv6.Ipv6View.{Ipv6View}
use Rattle.siit_views.specs.Parts.{ends_as, lends_both, lends_packet4, lends_packet6}

module _ {M : Type 1} {𝓤 : Ura M} (𝓛 : Logic 𝓤) where
  -- both parts' last bytes are joined the whole's
  pub joined : (whole front rest : GName) (xs ys : List ℕ)
      → ent 𝓤 (sep 𝓤 (sep 𝓤 (sem 𝓛 (ends_as front xs)) (sem 𝓛 (ends_as rest ys))) (sem 𝓛 (lends_both whole front rest))) (sem 𝓛 (ends_as whole (xs ++ ys)))
  unfolding both_by
  joined whole front rest xs ys = followed₂ 𝓛 (mem (Array u8 0)) (mem (Array u8 0)) (mem (Array u8 0)) ◌++◌ whole front rest xs ys

  -- a packet with its link's padding, lent as header and payload
  pub packet6 : (bytes : MutBor (List ℕ)) (front rest : GName) (view : Ipv6View)
      → ent 𝓤 (sep 𝓤 (sem 𝓛 (lends_both bytes.ghost_name front rest)) (sep 𝓤 (sem 𝓛 (ends_as rest (drop_l (40 + payload_length_in bytes.now) bytes.now))) (sem 𝓛 (lends_both front view.head.ghost_name view.payload.ghost_name))))
      (sem 𝓛 (lends_packet6 bytes view))
  packet6 bytes front rest view =
      let head = view.head.ghost_name in let payload = view.payload.ghost_name in let behind = drop_l (40 + payload_length_in bytes.now) bytes.now in
      qed 𝓛 (‵ (lends_both bytes.ghost_name front rest) ∷ ‵ (ends_as rest behind) ∷ ‵ (lends_both front head payload) ∷ []) ∵
      each ! (λ (left : List ℕ × List ℕ). wand 𝓤 (sem 𝓛 (fsep (ends_as head left.0) (ends_as payload left.1))) (sem 𝓛 (ends_as bytes.ghost_name (left.0 ++ left.1 ++ behind)))) (λ left.
      assume ! (‵ (fsep (ends_as head left.0) (ends_as payload left.1))) $ fsplit ! $
      -- [the head; the payload; the whole's loan; what is behind; the packet's loan]
      join ! $ move ! (0 ∷ 3 ∷ []) $ use2 𝓛 (‵ (ends_as front (left.0 ++ left.1))) (joined front head payload left.0 left.1) $
      move ! (0 ∷ 2 ∷ []) $ join ! $ by ! (joined bytes.ghost_name front rest (left.0 ++ left.1) behind))

  -- the same, lent as the head, the options and the payload
  pub packet4 : (bytes : MutBor (List ℕ)) (front rest header : GName) (view : Ipv4View)
      → ent 𝓤 (sep 𝓤 (sep 𝓤 (sem 𝓛 (lends_both bytes.ghost_name front rest)) (sem 𝓛 (ends_as rest (drop_l (total_length_in bytes.now) bytes.now)))) (sep 𝓤 (sem 𝓛 (lends_both front header view.payload.ghost_name)) (sem 𝓛 (lends_both header view.head.ghost_name view.options.ghost_name))))
      (sem 𝓛 (lends_packet4 bytes view))
  packet4 bytes front rest header view =
      let head = view.head.ghost_name in let options = view.options.ghost_name in let payload = view.payload.ghost_name in let behind = drop_l (total_length_in bytes.now) bytes.now in
      qed 𝓛 ((‵ (lends_both bytes.ghost_name front rest) ⊛ ‵ (ends_as rest behind)) ∷ ‵ (lends_both front header payload) ∷ ‵ (lends_both header head options) ∷ []) ∵ split ! $
      each ! (λ (left : List ℕ × List ℕ × List ℕ). wand 𝓤 (sem 𝓛 (fsep (ends_as head left.0) (fsep (ends_as options left.1) (ends_as payload left.2)))) (sem 𝓛 (ends_as bytes.ghost_name (left.0 ++ left.1 ++ left.2 ++ behind)))) (λ left.
      assume ! (‵ (fsep (ends_as head left.0) (fsep (ends_as options left.1) (ends_as payload left.2)))) $ fsplit3 ! $
      -- [the head; the options; the payload; the whole's loan; what is behind; the packet's loan; the header's loan]
      join ! $ move ! (0 ∷ 5 ∷ []) $ use2 𝓛 (‵ (ends_as header (left.0 ++ left.1))) (joined header head options left.0 left.1) $
      -- [the header; the payload; the whole's loan; what is behind; the packet's loan]
      join ! $ move ! (0 ∷ 3 ∷ []) $ use2 𝓛 (‵ (ends_as front (left.0 ++ left.1 ++ left.2))) (joined front header payload (left.0 ++ left.1) left.2) $
      move ! (0 ∷ 2 ∷ []) $ join ! $ by ! (joined bytes.ghost_name front rest (left.0 ++ left.1 ++ left.2) behind))
