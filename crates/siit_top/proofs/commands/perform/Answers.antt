use Rattle.std.proofs.Common.{◌≡◌, ℕ, List, Option, rules, subst}
use Rattle.siit_addr.specs.declared.addr.Prefix6.{Prefix6}
use Rattle.siit_top.specs.Promises.{Promise}
use Rattle.siit_top.specs.Runs.{Run}
use Rattle.siit_top.specs.Words.{synthesis, messages_of}
use Rattle.siit_top.proofs.commands.perform.Goals as goal

-- the promise of a run, where the name of A is told in another way
given_run : {prefix : Prefix6} {query aaaa output : List ℕ} {told given : Option (List ℕ)} {run : Run} → told ≡ given
    → Promise (synthesis prefix (messages_of query aaaa told) output) run → Promise (synthesis prefix (messages_of query aaaa given) output) run
given_run {prefix} {query} {aaaa} {output} {told} {given} {run} same promise =
    subst (λ (a : Option (List ℕ)). Promise (synthesis prefix (messages_of query aaaa a) output) run) same promise

pub returns-in-Map : goal.returns-in-Map
returns-in-Map g c = search (rules, c.map.ensures (g.I.Idents.coming c.args.idents.now))

pub returns-in-Discover : goal.returns-in-Discover
returns-in-Discover g c = search (rules, c.discover.ensures (g.I.Idents.coming c.args.idents.now))

pub returns-in-Dns64 : goal.returns-in-Dns64
returns-in-Dns64 g c = search (rules, given_run c.given_name.ensures (c.dns64.ensures (g.I.Idents.coming c.args.idents.now)))
