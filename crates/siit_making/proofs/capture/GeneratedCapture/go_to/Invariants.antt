use Rattle.std.proofs.Common.{◌≡◌, ◌-◌, ◌≤◌}
use Rattle.siit_making.proofs.capture.GeneratedCapture.go_to.Given as goal

abbrev pub invariant-loop-self : goal.invariant-loop-self
invariant-loop-self l = record {
  before : l.self.place ≤ l.at;
  count : l.self.count ≡ l.fn.self.count;
  seed : l.self.seed ≡ l.fn.self.seed;
}

abbrev pub decreases-loop-self : goal.decreases-loop-self
decreases-loop-self l = l.self.count - l.self.made
