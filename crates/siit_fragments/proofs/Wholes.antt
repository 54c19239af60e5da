-- A whole packet, the one fragment of its datagram.
use Rattle.std.proofs.Common.{◌≡◌, ◌*◌, [], ◌∷◌, length, true, false, not, ◌==◌, ◌∙◌, ap, sym, refl, inl, arith, take_all}
use Rattle.std.proofs.lemmas.Bool.{and_parts, eqb-true, le-ltb, not-true}
use Rattle.std.proofs.lemmas.List.Elements.{All-cons, All-nil}
use Rattle.siit_model.specs.Bytes.{part}
use Rattle.siit_model.specs.Fragments.{Datagram, Fragment, is_whole}
use Rattle.siit_fragments.specs.Covers.{end_of, IsFragmentOf, Covers}

pub record WholeFields (f : Fragment) : Type 0 where
  pub offset : f.offset ≡ 0
  pub more : f.more ≡ false

pub whole-fields : (f : Fragment) → is_whole f ≡ true → WholeFields f
whole-fields f whole =
    let both = and_parts (f.offset == 0) (not f.more) whole in
    record { offset = eqb-true f.offset 0 both.0; more = not-true f.more both.1 }

-- a whole packet covers itself
pub whole-covers : (d : Datagram) (f : Fragment) → is_whole f ≡ true → f.common ≡ d.common → f.bytes ≡ d.payload → Covers d (f ∷ [])
whole-covers d f whole common is_bytes =
    let fields = whole-fields f whole in
    let offset = fields.offset in
    let size : length f.bytes ≡ length d.payload = ap length is_bytes in
    record {
      id = f.id;
      some = omega arith;
      parts = All-cons (IsFragmentOf d f.id) f [] (record {
        shares = common;
        identified = refl;
        slice = record {
          inside = omega arith;
          bytes =
              is_bytes ∙ sym (take_all (length f.bytes) d.payload (omega arith))
              ∙ ap (λ o. part d.payload (8 * o) (length f.bytes)) (sym offset);
          more = fields.more ∙ sym (le-ltb (end_of f) (length d.payload) (omega arith));
        };
      }) (All-nil (IsFragmentOf d f.id));
      every = λ k below. (0, f, omega arith, refl, (omega arith, omega arith));
      form = inl whole;
    }
