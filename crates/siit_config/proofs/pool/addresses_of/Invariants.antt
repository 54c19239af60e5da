use Rattle.std.proofs.Common.{◌≡◌, ◌++◌, drop, map, option_map, vec_len}
use Rattle.siit_config.specs.Texts.{addresses4_of}
use Rattle.siit_config.proofs.pool.addresses_of.Given as goal

abbrev pub invariant-loop-text : goal.invariant-loop-text
invariant-loop-text l = record {
  told : option_map (λ rest. l.addresses.items ++ rest) (addresses4_of (map (λ t. t.now) (drop l.text-index l.texts)))
      ≡ addresses4_of (map (λ t. t.now) l.texts);
  count : vec_len l.addresses ≡ l.text-index;
}
