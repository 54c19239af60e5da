use Rattle.std.proofs.Common.{◌≡◌, ◌∙◌, ℕ, slice_get, ap, arith, sym, refl}
use Rattle.siit_dns.specs.Seen.{record_seen}
use Rattle.siit_dns.proofs.Items.{drop-next, get-none, next-is}
use Rattle.siit_dns.proofs.messages.Message.record.Goals as goal

pub returns-in_default : goal.returns-in_default
returns-in_default c = sym (get-none c.loop.counter c.args.k c.args.self.now.records (sym c.loop.invariant ∙ c.in_default.ensures.none refl) (omega arith))

pub loop-preserved : goal.loop-preserved
loop-preserved c = sym (drop-next c.loop.counter c.args.self.now.records (record_seen c.in-Some.field-0) c.next.new.self (sym c.loop.invariant ∙ c.in-Some.ensures.next))

pub returns : goal.returns
returns c =
    let k : c.loop.counter ≡ c.args.k = omega arith in
    let here = sym c.loop.invariant in
    next-is record_seen c.loop.counter c.args.self.now.records c.next-2.new.self c.next-2.result (here ∙ c.next-2.ensures.next) (λ none. here ∙ c.next-2.ensures.none none)
    ∙ ap (λ (n : ℕ). slice_get c.args.self.now.records n) k
