use Rattle.std.proofs.Common.{subst}
use Rattle.siit_arrival6.specs.Kinds.{HasKind6}
use Rattle.siit_arrival6.specs.Parts.{found_in}
use Rattle.siit_arrival6.proofs.Joined.{no_quote}
use Rattle.siit_arrival6.proofs.arrival.message_on.Goals as goal

pub returns-in-None-clause-accepted : goal.returns-in-None-clause-accepted
returns-in-None-clause-accepted g c =
    let found = found_in c.args.header.now c.args.walk in
    no_quote c.args.settings.now found (subst (HasKind6 found) c.in-None.is c.requires.kind)

pub returns-in-None-clause-message : goal.returns-in-None-clause-message
returns-in-None-clause-message g c = subst (HasKind6 (found_in c.args.header.now c.args.walk)) c.in-None.is c.requires.kind

pub returns-in-Ok-clause-message : goal.returns-in-Ok-clause-message
returns-in-Ok-clause-message g c =
    let kind = subst (HasKind6 (found_in c.args.header.now c.args.walk)) c.in-Some.is c.requires.kind in (
      kind.is_error,
      record {
        header = kind.header;
        kind = kind.kind;
        pointer = kind.pointer;
        accepted = c.in-Ok.ensures.quote;
        quote = c.in-Ok.ensures.mapped;
      },
    )

pub returns-in-Ok-clause-plain : goal.returns-in-Ok-clause-plain
returns-in-Ok-clause-plain g c = λ e.
    let kind = subst (HasKind6 (found_in c.args.header.now c.args.walk)) c.in-Some.is c.requires.kind in
    let yes = kind.is_error in absurd (cc)
