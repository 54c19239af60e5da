-- Words and lines of `discover`, as worked by hand.
use Rattle.std.specs.Prelude.{◌≡◌, ◌*◌, ◌^◌, [], ◌∷◌, codes, Some, None}
use Rattle.siit_top.specs.DiscoverRun.{prefix_lines}
use Rattle.siit_top.specs.Words.{command_of, discover}

pub record DiscoverExamples : Type 0 where
  pub good : command_of (codes "discover" ∷ codes "answer" ∷ []) ≡ Some (discover (codes "answer"))
  pub dash : command_of (codes "discover" ∷ codes "-" ∷ []) ≡ Some (discover (codes "-"))
  pub few : command_of (codes "discover" ∷ []) ≡ None
  pub many : command_of (codes "discover" ∷ codes "answer" ∷ codes "out" ∷ []) ≡ None
  -- 2001:db8:64:64::/64 and the well-known prefix
  pub lines : prefix_lines ((0x20010db800640064 * 2 ^ 64, 64) ∷ (0x0064ff9b * 2 ^ 96, 96) ∷ [])
      ≡ codes "2001:db8:64:64::/64\n64:ff9b::/96\n"
  pub none : prefix_lines [] ≡ codes "none\n"
