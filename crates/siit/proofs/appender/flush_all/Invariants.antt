use Rattle.std.proofs.Common.{◌≡◌, [], All, None, take, true}
use Rattle.siit.proofs.appender.flush_all.Given as goal

abbrev pub invariant-loop-appender : goal.invariant-loop-appender
invariant-loop-appender g l =
    record {
      none : All (λ a. a.gathered.items ≡ []) (take l.appender-index l.appender-items);
      whole : l.is_written ≡ true → All (λ a. a.lost ≡ None) (take l.appender-index l.appender-items);
    }
