-- What `piece` leaves is the written piece.
use Rattle.std.proofs.Common.{◌≡◌, ◌⊎◌, ℕ, ◌+◌, ◌-◌, ◌*◌, ◌/◌, ◌%◌, ◌<◌, ◌≤◌, min, List, length, take, drop, not, ◌||◌, ◌==◌, nat_lt, ◌∙◌, ap, sym, subst, refl, arith, eq-eqb, length-drop, length-take, ⊎_elim}
use Rattle.siit_model.specs.Bytes.{part, field16}
use Rattle.siit_model.specs.Ipv4.{ipv4_bytes}
use Rattle.siit_model.specs.Ipv6.{ipv6_bytes}
use Rattle.siit_checksum.proofs.Digits.{two-read}
use Rattle.siit_model.specs.Fragments.{Fragment}
use Rattle.siit_fragments.specs.Pieces.{piece_of}
use Rattle.siit_model.specs.Fragments.{fragment_packet6, packet4}
use Rattle.siit_model.specs.Bytes.{flag_bit}
use Rattle.siit_fragments.proofs.Parts.{length-part, field16-take}
use Rattle.std.proofs.lemmas.Bool.{cond-false, cond-true, ne_eqb}
use Rattle.siit_fragments.specs.declared.cut.CutPlan.{CutPlan}
use Rattle.siit_fragments.specs.declared.cut.Place.{Place}
use Rattle.siit_fragments.specs.Fronts.{word_on, fragment_word_on, fronted4, fronted6, IsPlaceOf}
use Rattle.siit_fragments.specs.Plans.{offset_in, piece_bytes, piece_payload, IsPiece, IsPlanFor}
use Rattle.siit_fragments.proofs.PlanFacts.{last-is}
use Rattle.siit_fragments.proofs.Written.{flag-small, word4, word6, not-last, loaded-behind, made4, made6}

module _ (plan : CutPlan) (place : Place) (k : ℕ) (payload : List ℕ) where
  -- the parts of a piece, behind so many bytes of header
  same-bytes : (header : ℕ) (whole loaded : List ℕ) → IsPlaceOf (length whole) plan k place → plan.header ≡ header → drop header whole ≡ payload
      → length whole ≡ header + length payload → loaded ≡ take (place.end - place.from) (drop place.from whole)
      → drop header loaded ≡ part payload (8 * (k * (plan.unit / 8))) (8 * (plan.unit / 8))
  same-bytes header whole loaded placed is_header is_bytes size is_loaded =
      let from : place.from ≡ 8 * (k * (plan.unit / 8)) = placed.from ∙ ap (λ n. 8 * n) placed.blocks in
      let begins = placed.begins in
      let end : place.end ≡ min (header + length payload) (place.from + header + plan.unit) =
      placed.end ∙ ap (λ n. min n (place.from + plan.header + plan.unit)) size ∙ ap (λ h. min (header + length payload) (place.from + h + plan.unit)) is_header in
      ap (λ l. drop header l) is_loaded
      ∙ ap (λ e. drop header (take (e - place.from) (drop place.from whole))) end
      ∙ loaded-behind header whole payload place.from plan.unit is_bytes size (omega arith)
      ∙ ap (λ a. part payload a plan.unit) from
      ∙ ap (λ u. part payload (8 * (k * (plan.unit / 8))) u) placed.unit

  same-length : (header : ℕ) (whole loaded : List ℕ) → IsPlaceOf (length whole) plan k place → plan.header ≡ header
      → length whole ≡ header + length payload → loaded ≡ take (place.end - place.from) (drop place.from whole)
      → length loaded ≡ header + length (part payload (8 * (k * (plan.unit / 8))) (8 * (plan.unit / 8)))
  same-length header whole loaded placed is_header size is_loaded =
      let blocks = placed.blocks in
      let from : place.from ≡ 8 * (k * (plan.unit / 8)) = placed.from ∙ ap (λ n. 8 * n) placed.blocks in
      let unit = placed.unit in
      let end = placed.end in
      let begins = placed.begins in
      let one : length loaded ≡ min (place.end - place.from) (length whole - place.from) =
      ap length is_loaded ∙ length-take (place.end - place.from) (drop place.from whole) ∙ ap (λ n. min (place.end - place.from) n) (length-drop place.from whole) in
      let two = length-part payload (8 * (k * (plan.unit / 8))) (8 * (plan.unit / 8)) in
      one ∙ lengths header (length whole) (length payload) place.from place.end plan.unit size (end ∙ ap (λ h. min (length whole) (place.from + h + plan.unit)) is_header) (omega arith)
      ∙ ap (λ n. header + n) (ap (λ a. min plan.unit (length payload - a)) from ∙ ap (λ u. min u (length payload - 8 * (k * (plan.unit / 8)))) unit ∙ sym two)
    where
      lengths : (h total len a e u : ℕ) → total ≡ h + len → e ≡ min total (a + h + u) → a < len → min (e - a) (total - a) ≡ h + min u (len - a)
      lengths h total len a e u is_total is_end inside = omega arith

module _ (plan : CutPlan) (place : Place) (k : ℕ) (f : Fragment) where
  same-more : (header : ℕ) (whole : List ℕ) → IsPlaceOf (length whole) plan k place → plan.header ≡ header → length whole ≡ header + length f.bytes
      → (f.more || not place.last) ≡ (piece_of (plan.unit / 8) f k).more
  same-more header whole placed is_header size =
      let from : place.from ≡ 8 * (k * (plan.unit / 8)) = placed.from ∙ ap (λ n. 8 * n) placed.blocks in
      let begins = placed.begins in
      let last : not place.last ≡ nat_lt (place.from + plan.unit) (length f.bytes) =
      ap not placed.last ∙ ap (λ e. not (e == length whole)) placed.end
      ∙ ap (λ n. not (min n (place.from + plan.header + plan.unit) == n)) size
      ∙ ap (λ h. not (min (header + length f.bytes) (place.from + h + plan.unit) == (header + length f.bytes))) is_header
      ∙ not-last (length f.bytes) place.from plan.unit header (omega arith) in
      ap (λ b. f.more || b)
      (last ∙ ap (λ a. nat_lt (a + plan.unit) (length f.bytes)) from ∙ ap (λ u. nat_lt (8 * (k * (plan.unit / 8)) + u) (length f.bytes)) placed.unit)

  written4 : (df : ℕ) (loaded : List ℕ) → IsPlaceOf (length (ipv4_bytes (packet4 df f))) plan k place → plan.header ≡ 20 → df < 2 → f.offset < 8192
      → loaded ≡ take (place.end - place.from) (drop place.from (ipv4_bytes (packet4 df f)))
      → fronted4 (take 20 (ipv4_bytes (packet4 df f))) (length loaded) (word_on (field16 (take 20 (ipv4_bytes (packet4 df f))) 6) place.blocks place.last) (drop 20 loaded)
      ≡ ipv4_bytes (packet4 df (piece_of (plan.unit / 8) f k))
  written4 df loaded placed is_header small_df small_offset is_loaded =
      let whole : List ℕ = ipv4_bytes (packet4 df f) in
      let size : length whole ≡ 20 + length f.bytes = omega arith in
      let flag = flag-small f.more in
      let word : field16 (take 20 whole) 6 ≡ df * 16384 + flag_bit f.more * 8192 + f.offset = two-read (df * 16384 + flag_bit f.more * 8192 + f.offset) (omega arith) in
      made4 df f (piece_of (plan.unit / 8) f k) (length loaded) (word_on (field16 (take 20 whole) 6) place.blocks place.last) (drop 20 loaded) refl refl
      (same-bytes plan place k f.bytes 20 whole loaded placed is_header refl size is_loaded)
      (same-length plan place k f.bytes 20 whole loaded placed is_header size is_loaded)
      (ap (λ w. word_on w place.blocks place.last) word
      ∙ word4 df f.offset place.blocks f.more place.last small_df small_offset
      ∙ ap (λ b. df * 16384 + flag_bit b * 8192 + (f.offset + place.blocks)) (same-more 20 whole placed is_header size)
      ∙ ap (λ n. df * 16384 + flag_bit (piece_of (plan.unit / 8) f k).more * 8192 + (f.offset + n)) placed.blocks)

  written6 : (loaded : List ℕ) → IsPlaceOf (length (ipv6_bytes (fragment_packet6 f))) plan k place → plan.header ≡ 48 → f.offset < 8192
      → loaded ≡ take (place.end - place.from) (drop place.from (ipv6_bytes (fragment_packet6 f)))
      → fronted6 (take 48 (ipv6_bytes (fragment_packet6 f))) (length loaded - 40) (fragment_word_on (field16 (take 48 (ipv6_bytes (fragment_packet6 f))) 42) place.blocks place.last) (drop 48 loaded)
      ≡ ipv6_bytes (fragment_packet6 (piece_of (plan.unit / 8) f k))
  written6 loaded placed is_header small_offset is_loaded =
      let whole : List ℕ = ipv6_bytes (fragment_packet6 f) in
      let size : length whole ≡ 48 + length f.bytes = omega arith in
      let flag = flag-small f.more in
      let word : field16 (take 48 whole) 42 ≡ 8 * f.offset + flag_bit f.more = two-read (8 * f.offset + flag_bit f.more) (omega arith) in
      let len = same-length plan place k f.bytes 48 whole loaded placed is_header size is_loaded in
      made6 f (piece_of (plan.unit / 8) f k) (length loaded - 40) (fragment_word_on (field16 (take 48 whole) 42) place.blocks place.last) (drop 48 loaded) refl refl
      (same-bytes plan place k f.bytes 48 whole loaded placed is_header refl size is_loaded)
      (shorter (length loaded) (piece_of (plan.unit / 8) f k) len)
      (ap (λ w. fragment_word_on w place.blocks place.last) word
      ∙ word6 f.offset place.blocks f.more place.last
      ∙ ap (λ b. 8 * (f.offset + place.blocks) + flag_bit b) (same-more 48 whole placed is_header size)
      ∙ ap (λ n. 8 * (f.offset + n) + flag_bit (piece_of (plan.unit / 8) f k).more) placed.blocks)
    where
      shorter : (n : ℕ) (g : Fragment) → n ≡ 48 + length g.bytes → n - 40 ≡ length (fragment_packet6 g).body
      shorter n g e = omega arith

-- what is copied, as the plan says it
module _ (plan : CutPlan) (place : Place) (k : ℕ) (whole : List ℕ) (placed : IsPlaceOf (length whole) plan k place) (loaded : List ℕ)
    (is_loaded : loaded ≡ take (place.end - place.from) (drop place.from whole)) where
  data-is : drop plan.header loaded ≡ piece_payload plan whole k
  data-is =
      let unit : 8 * (plan.unit / 8) ≡ plan.unit = sym placed.unit in
      let from : 8 * (k * (plan.unit / 8)) ≡ k * plan.unit = moved_out (plan.unit / 8) ∙ ap (λ u. k * u) unit in
      same-bytes plan place k (drop plan.header whole) plan.header whole loaded placed refl refl size is_loaded
      ∙ ap (λ a. part (drop plan.header whole) a (8 * (plan.unit / 8))) from ∙ ap (λ u. part (drop plan.header whole) (k * plan.unit) u) unit
    where
      moved_out : (b : ℕ) → 8 * (k * b) ≡ k * (8 * b)
      moved_out b = omega arith

      size : length whole ≡ plan.header + length (drop plan.header whole)
      size = let begins = placed.begins in omega (arith, length-drop plan.header whole)

  length-is : length loaded ≡ plan.header + length (piece_payload plan whole k)
  length-is =
      let begins = placed.begins in
      let end = placed.end in
      let here : length loaded ≡ min (place.end - place.from) (length whole - place.from) =
      ap length is_loaded ∙ length-take (place.end - place.from) (drop place.from whole) ∙ ap (λ n. min (place.end - place.from) n) (length-drop place.from whole) in
      omega (arith, here, length-drop plan.header loaded, ap length data-is)

pub bytes4-is : (plan : CutPlan) (place : Place) (k : ℕ) (whole loaded new : List ℕ) → IsPlanFor (length whole) plan → k < plan.count → IsPlaceOf (length whole) plan k place
    → plan.header ≡ 20 → loaded ≡ take (place.end - place.from) (drop place.from whole)
    → new ≡ fronted4 (take 20 whole) (length loaded) (word_on (field16 (take 20 whole) 6) place.blocks place.last) (drop 20 loaded)
    → new ≡ piece_bytes plan whole k
bytes4-is plan place k whole loaded new planned below placed is_header is_loaded is_new =
    let payload : List ℕ = piece_payload plan whole k in
    let size : length loaded ≡ 20 + length payload = length-is plan place k whole placed loaded is_loaded ∙ ap (λ h. h + length payload) is_header in
    let same : drop 20 loaded ≡ payload = ap (λ h. drop h loaded) (sym is_header) ∙ data-is plan place k whole placed loaded is_loaded in
    is_new
    ∙ ap (λ n. fronted4 (take 20 whole) n (word_on (field16 (take 20 whole) 6) place.blocks place.last) (drop 20 loaded)) size
    ∙ ap (λ n. fronted4 (take 20 whole) (20 + length payload) (word_on n place.blocks place.last) (drop 20 loaded)) (field16-take whole 6 20 (omega arith))
    ∙ ap (λ n. fronted4 (take 20 whole) (20 + length payload) (word_on (field16 whole 6) n place.last) (drop 20 loaded)) placed.blocks
    ∙ ap (λ b. fronted4 (take 20 whole) (20 + length payload) (word_on (field16 whole 6) (k * (plan.unit / 8)) b) (drop 20 loaded)) (last-is (length whole) plan k place planned below placed)
    ∙ ap (λ l. fronted4 (take 20 whole) (20 + length payload) (word_on (field16 whole 6) (k * (plan.unit / 8)) (k + 1 == plan.count)) l) same
    ∙ sym (cond-true (plan.header == 20) _ _ (eq-eqb plan.header 20 is_header))

pub bytes6-is : (plan : CutPlan) (place : Place) (k : ℕ) (whole loaded new : List ℕ) → IsPlanFor (length whole) plan → k < plan.count → IsPlaceOf (length whole) plan k place
    → plan.header ≡ 48 → loaded ≡ take (place.end - place.from) (drop place.from whole)
    → new ≡ fronted6 (take 48 whole) (length loaded - 40) (fragment_word_on (field16 (take 48 whole) 42) place.blocks place.last) (drop 48 loaded)
    → new ≡ piece_bytes plan whole k
bytes6-is plan place k whole loaded new planned below placed is_header is_loaded is_new =
    let payload : List ℕ = piece_payload plan whole k in
    let all = length-is plan place k whole placed loaded is_loaded in
    let size : length loaded - 40 ≡ 8 + length payload = omega (arith, all, is_header) in
    let same : drop 48 loaded ≡ payload = ap (λ h. drop h loaded) (sym is_header) ∙ data-is plan place k whole placed loaded is_loaded in
    is_new
    ∙ ap (λ n. fronted6 (take 48 whole) n (fragment_word_on (field16 (take 48 whole) 42) place.blocks place.last) (drop 48 loaded)) size
    ∙ ap (λ n. fronted6 (take 48 whole) (8 + length payload) (fragment_word_on n place.blocks place.last) (drop 48 loaded)) (field16-take whole 42 48 (omega arith))
    ∙ ap (λ n. fronted6 (take 48 whole) (8 + length payload) (fragment_word_on (field16 whole 42) n place.last) (drop 48 loaded)) placed.blocks
    ∙ ap (λ b. fronted6 (take 48 whole) (8 + length payload) (fragment_word_on (field16 whole 42) (k * (plan.unit / 8)) b) (drop 48 loaded)) (last-is (length whole) plan k place planned below placed)
    ∙ ap (λ l. fronted6 (take 48 whole) (8 + length payload) (fragment_word_on (field16 whole 42) (k * (plan.unit / 8)) (k + 1 == plan.count)) l) same
    ∙ sym (cond-false (plan.header == 20) _ _ (ne_eqb plan.header 20 (λ (e : plan.header ≡ 20). omega arith)))

pub piece4-is : (plan : CutPlan) (place : Place) (k : ℕ) (whole loaded new : List ℕ) → IsPlanFor (length whole) plan → k < plan.count → IsPlaceOf (length whole) plan k place
    → plan.header ≡ 20 → loaded ≡ take (place.end - place.from) (drop place.from whole)
    → new ≡ fronted4 (take 20 whole) (length loaded) (word_on (field16 (take 20 whole) 6) place.blocks place.last) (drop 20 loaded)
    → IsPiece plan whole k new
piece4-is plan place k whole loaded new planned below placed is_header is_loaded is_new = record {
  bytes = bytes4-is plan place k whole loaded new planned below placed is_header is_loaded is_new;
  four = λ df f header small_df small_offset is_whole.
      is_new
      ∙ ap (λ w. fronted4 (take 20 w) (length loaded) (word_on (field16 (take 20 w) 6) place.blocks place.last) (drop 20 loaded)) is_whole
      ∙ written4 plan place k f df loaded (subst (λ w. IsPlaceOf (length w) plan k place) is_whole placed) is_header small_df small_offset
      (is_loaded ∙ ap (λ w. take (place.end - place.from) (drop place.from w)) is_whole);
  six = λ f header. absurd (omega arith);
}

pub piece6-is : (plan : CutPlan) (place : Place) (k : ℕ) (whole loaded new : List ℕ) → IsPlanFor (length whole) plan → k < plan.count → IsPlaceOf (length whole) plan k place
    → plan.header ≡ 48 → loaded ≡ take (place.end - place.from) (drop place.from whole)
    → new ≡ fronted6 (take 48 whole) (length loaded - 40) (fragment_word_on (field16 (take 48 whole) 42) place.blocks place.last) (drop 48 loaded)
    → IsPiece plan whole k new
piece6-is plan place k whole loaded new planned below placed is_header is_loaded is_new = record {
  bytes = bytes6-is plan place k whole loaded new planned below placed is_header is_loaded is_new;
  four = λ df f header. absurd (omega arith);
  six = λ f header small_offset is_whole.
      is_new
      ∙ ap (λ w. fronted6 (take 48 w) (length loaded - 40) (fragment_word_on (field16 (take 48 w) 42) place.blocks place.last) (drop 48 loaded)) is_whole
      ∙ written6 plan place k f loaded (subst (λ w. IsPlaceOf (length w) plan k place) is_whole placed) is_header small_offset
      (is_loaded ∙ ap (λ w. take (place.end - place.from) (drop place.from w)) is_whole);
}

pub header-six : (header : ℕ) → (header ≡ 20) ⊎ (header ≡ 48) → (header ≡ 20 → ⊥) → header ≡ 48
header-six header one not_four = ⊎_elim (λ (four : header ≡ 20). absurd (not_four four)) (λ six. six) one

pub offset6 : (plan : CutPlan) (place : Place) (k : ℕ) (whole : List ℕ) → IsPlaceOf (length whole) plan k place → plan.header ≡ 48
    → 8 * offset_in plan.header whole + (length whole - plan.header) ≤ 65535 → field16 (take 48 whole) 42 / 8 + place.blocks < 8192
offset6 plan place k whole placed is_header fits =
    let from = placed.from in
    let begins = placed.begins in
    let there : offset_in plan.header whole ≡ field16 whole 42 / 8 =
    cond-false (plan.header == 20) (field16 whole 6 % 8192) (field16 whole 42 / 8) (ne_eqb plan.header 20 (λ (e : plan.header ≡ 20). omega arith)) in
    let same : field16 (take 48 whole) 42 / 8 ≡ field16 whole 42 / 8 = ap (λ n. n / 8) (field16-take whole 42 48 (omega arith)) in
    omega (arith, there, same, fits, from, begins)
