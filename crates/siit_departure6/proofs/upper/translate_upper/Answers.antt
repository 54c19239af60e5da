use Rattle.std.proofs.Common.{◌≡◌, ◌++◌, List, ℕ, true, false, take, drop, ap, sym, ◌∙◌, arith, length-drop}
use Rattle.std.proofs.lemmas.List.{take-append-drop, take_rest}
use Rattle.siit_model.specs.Bytes.{with_field16}
use Rattle.siit_v4to6.specs.To6.{ends_4_to_6, udp_checksum6, upper_to_6}
use Rattle.siit_v4to6.proofs.Packets.{put-behind}
use Rattle.siit_departure6.specs.Parts.{is_bare}
use Rattle.siit_departure6.proofs.Uppers.{is-bare, is-later, is-moved}
use Rattle.siit_departure6.proofs.upper.translate_upper.Goals as goal

pub returns-then-is_bare : goal.returns-then-is_bare
returns-then-is_bare c =
    let bytes : List ℕ = c.args.bytes.now in
    let new = c.args.arrived.now.new in
    let bare : is_bare c.args.arrived.now.upper ≡ true = sym c.is_bare.ensures ∙ c.if-is_bare.true in
    put-behind c.args.at bytes c.put_checksum.new.datagram
    ∙ ap (λ l. take c.args.at bytes ++ l)
    (c.put_checksum.ensures ∙ ap (λ l. with_field16 l 6 (udp_checksum6 new.src.0 new.dst.0 l)) (take_rest bytes c.args.at) ∙ sym (is-bare _ _ _ bare))

pub returns-then-not-first : goal.returns-then-not-first
returns-then-not-first c =
    let bytes : List ℕ = c.args.bytes.now in
    let bare : is_bare c.args.arrived.now.upper ≡ false = sym c.is_bare.ensures ∙ c.if-is_bare.false in
    let later : c.args.first ≡ false = grind (arith, c.if-not-first.true) in
    sym (take-append-drop c.args.at bytes) ∙ ap (λ l. take c.args.at bytes ++ l) (sym (is-later _ _ _ _ _ bare later))

pub returns : goal.returns
returns c =
    let bytes : List ℕ = c.args.bytes.now in
    let arrived = c.args.arrived.now in
    let bare : is_bare arrived.upper ≡ false = sym c.is_bare.ensures ∙ c.if-is_bare.false in
    let begins : c.args.first ≡ true = grind (arith, c.if-not-first.false) in
    c.upper46_behind.ensures
    ∙ ap (λ n. take c.args.at bytes ++ upper_to_6 arrived.protocol (ends_4_to_6 arrived.old arrived.new) n (drop c.args.at bytes)) (sym (length-drop c.args.at bytes))
    ∙ ap (λ l. take c.args.at bytes ++ l) (sym (is-moved _ _ _ _ _ bare begins))
