use Rattle.std.proofs.Common.{◌≡◌, ◌≤◌, ◌+◌, ◌++◌, ◌∷◌, [], ℕ, length, ap, ◌∙◌}
use Rattle.std.specs.List.{position}
use Rattle.siit_eamt.specs.declared.entry.Eam.{Eam}
use Rattle.siit_eamt.specs.Faults.{has_prefix4}
use Rattle.siit_eamt.specs.Standing.{has_bits4, IsTrieOf}
use Rattle.siit_eamt.specs.Trie.{IsTrie, first_bits, place_under, with_place}
use Rattle.siit_eamt.proofs.Results.{if_ok-map, if_ok-map3}
use Rattle.siit_eamt.proofs.Standing.{first_is, trie_of_push, clean4_before, clear4}
use Rattle.siit_eamt.proofs.tries.insert4.Goals as goal

pub returns : goal.returns
returns c =
    let before = c.args.before.now in
    let entry = c.args.entry.now in
    let bits : first_bits c.of4.result.width c.of4.result.address c.args.entry.now.p4.len ≡ first_bits 32 c.args.entry.now.p4.addr.0 c.args.entry.now.p4.len =
    ap (λ w. first_bits w c.of4.result.address c.args.entry.now.p4.len) c.of4.ensures.width
    ∙ ap (λ a. first_bits 32 a c.args.entry.now.p4.len) c.of4.ensures.address in
    let first = first_is 32 (λ (e : Eam). e.p4.len) (λ e. e.p4.addr.0) c.args.before.now c.args.entry.now c.args.trie4.now.nodes.items c.insert.new.self.nodes.items
    c.requires.trie (clean4_before c.args.before.now c.requires.clean_before) (clear4 c.args.entry.now c.requires.clean) in
    let pushed = trie_of_push 32 (λ (e : Eam). e.p4.len) (λ e. e.p4.addr.0) c.args.before.now c.args.entry.now c.args.trie4.now.nodes.items c.insert.new.self.nodes.items
    c.requires.trie (clean4_before c.args.before.now c.requires.clean_before) (clear4 c.args.entry.now c.requires.clean) in
    record {
      first = if_ok-map (λ first. first ≡ place_under c.args.trie4.now.nodes.items c.args.entry.now.p4.len (first_bits c.of4.result.width c.of4.result.address c.args.entry.now.p4.len))
          (λ first. first ≡ position (has_prefix4 c.args.entry.now.p4) c.args.before.now) c.insert.result
          (λ found h. h ∙ ap (place_under c.args.trie4.now.nodes.items c.args.entry.now.p4.len) bits ∙ first) c.insert.ensures.before;
      trie = if_ok-map3 (λ _. IsTrie c.insert.new.self.nodes.items)
          (λ _. length c.insert.new.self.nodes.items ≤ length c.args.trie4.now.nodes.items + c.args.entry.now.p4.len)
          (λ _. (l v : ℕ) → place_under c.insert.new.self.nodes.items l v
          ≡ with_place (place_under c.args.trie4.now.nodes.items) c.args.entry.now.p4.len
          (first_bits c.of4.result.width c.of4.result.address c.args.entry.now.p4.len) (length c.args.before.now) l v)
          (λ _. IsTrieOf has_bits4 32 (c.args.before.now ++ c.args.entry.now ∷ []) c.insert.new.self.nodes.items) c.insert.result
          (λ _ shape growth put. pushed shape growth c.args.entry.now.p4.in_range
          (λ l v. put l v ∙ ap (λ b. with_place (place_under c.args.trie4.now.nodes.items) c.args.entry.now.p4.len b (length c.args.before.now) l v) bits))
          c.insert.ensures.shape c.insert.ensures.growth c.insert.ensures.inserted;
    }
