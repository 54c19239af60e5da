use Rattle.std.proofs.Common.{◌≡◌, drop}
use Rattle.siit_dns.proofs.messages.Message.record.Given as goal

abbrev pub invariant-loop : goal.invariant-loop
invariant-loop l = l.records ≡ drop l.counter l.self.records
