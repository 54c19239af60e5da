use Rattle.std.proofs.Common.{◌≡◌, ◌≤◌, ◌+◌, ◌++◌, ◌∷◌, [], ℕ, length, ap, ◌∙◌}
use Rattle.std.specs.List.{position}
use Rattle.siit_eamt.specs.declared.entry.Eam.{Eam}
use Rattle.siit_eamt.specs.Faults.{has_prefix6}
use Rattle.siit_eamt.specs.Standing.{has_bits6, IsTrieOf}
use Rattle.siit_eamt.specs.Trie.{IsTrie, first_bits, place_under, with_place}
use Rattle.siit_eamt.proofs.Results.{if_ok-map, if_ok-map3}
use Rattle.siit_eamt.proofs.Standing.{first_is, trie_of_push, clean6_before, clear6}
use Rattle.siit_eamt.proofs.tries.insert6.Goals as goal

pub returns : goal.returns
returns c =
    let before = c.args.before.now in
    let entry = c.args.entry.now in
    let bits : first_bits c.of6.result.width c.of6.result.address c.args.entry.now.p6.len ≡ first_bits 128 c.args.entry.now.p6.addr.0 c.args.entry.now.p6.len =
    ap (λ w. first_bits w c.of6.result.address c.args.entry.now.p6.len) c.of6.ensures.width
    ∙ ap (λ a. first_bits 128 a c.args.entry.now.p6.len) c.of6.ensures.address in
    let first = first_is 128 (λ (e : Eam). e.p6.len) (λ e. e.p6.addr.0) c.args.before.now c.args.entry.now c.args.trie6.now.nodes.items c.insert.new.self.nodes.items
    c.requires.trie (clean6_before c.args.before.now c.requires.clean_before) (clear6 c.args.entry.now c.requires.clean) in
    let pushed = trie_of_push 128 (λ (e : Eam). e.p6.len) (λ e. e.p6.addr.0) c.args.before.now c.args.entry.now c.args.trie6.now.nodes.items c.insert.new.self.nodes.items
    c.requires.trie (clean6_before c.args.before.now c.requires.clean_before) (clear6 c.args.entry.now c.requires.clean) in
    record {
      first = if_ok-map (λ first. first ≡ place_under c.args.trie6.now.nodes.items c.args.entry.now.p6.len (first_bits c.of6.result.width c.of6.result.address c.args.entry.now.p6.len))
          (λ first. first ≡ position (has_prefix6 c.args.entry.now.p6) c.args.before.now) c.insert.result
          (λ found h. h ∙ ap (place_under c.args.trie6.now.nodes.items c.args.entry.now.p6.len) bits ∙ first) c.insert.ensures.before;
      trie = if_ok-map3 (λ _. IsTrie c.insert.new.self.nodes.items)
          (λ _. length c.insert.new.self.nodes.items ≤ length c.args.trie6.now.nodes.items + c.args.entry.now.p6.len)
          (λ _. (l v : ℕ) → place_under c.insert.new.self.nodes.items l v
          ≡ with_place (place_under c.args.trie6.now.nodes.items) c.args.entry.now.p6.len
          (first_bits c.of6.result.width c.of6.result.address c.args.entry.now.p6.len) (length c.args.before.now) l v)
          (λ _. IsTrieOf has_bits6 128 (c.args.before.now ++ c.args.entry.now ∷ []) c.insert.new.self.nodes.items) c.insert.result
          (λ _ shape growth put. pushed shape growth c.args.entry.now.p6.in_range
          (λ l v. put l v ∙ ap (λ b. with_place (place_under c.args.trie6.now.nodes.items) c.args.entry.now.p6.len b (length c.args.before.now) l v) bits))
          c.insert.ensures.shape c.insert.ensures.growth c.insert.ensures.inserted;
    }
