use Rattle.std.proofs.Common.{◌≡◌, take, false, refl, sym, ◌∙◌, subst, arith}
use Rattle.std.proofs.lemmas.List.{take_all}
use Rattle.std.proofs.lemmas.List.Elements.{All-more, All-same}
use Rattle.siit_eamt.specs.declared.entry.Eam.{Eam}
use Rattle.siit_addr.specs.Addresses.{overlap}
use Rattle.siit_eamt.proofs.apart.are_clear_of.Goals as goal

pub loop-entry-preserved : goal.loop-entry-preserved
loop-entry-preserved c =
    let p = c.args.prefix in
    let entry = c.entry-item.result in
    let clear : overlap 128 entry.p6.len entry.p6.addr.0 p.len p.addr.0 ≡ false = sym c.overlaps.ensures ∙ c.if-overlaps.false in
    All-more (λ (e : Eam). overlap 128 e.p6.len e.p6.addr.0 p.len p.addr.0 ≡ false) c.args.entries.now c.loop-entry.entry-index entry
    (omega arith) c.loop-entry.invariant
    (subst (λ (e : Eam). overlap 128 e.p6.len e.p6.addr.0 p.len p.addr.0 ≡ false) c.entry-item.is clear)

pub returns : goal.returns
returns c =
    let p = c.args.prefix in
    let entries = c.args.entries.now in
    let whole : take c.loop-entry.entry-index entries ≡ entries = take_all c.loop-entry.entry-index entries (omega arith) in
    (λ _. All-same (λ (e : Eam). overlap 128 e.p6.len e.p6.addr.0 p.len p.addr.0 ≡ false) entries (take c.loop-entry.entry-index entries) (sym whole) c.loop-entry.invariant, λ _. refl)
