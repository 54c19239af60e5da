use Rattle.std.proofs.Common.{◌≡◌, false, All, take}
use Rattle.siit_addr.specs.Addresses.{overlap}
use Rattle.siit_eamt.proofs.apart.are_clear_of.Given as goal

abbrev pub invariant-loop-entry : goal.invariant-loop-entry
invariant-loop-entry l =
    All (λ e. overlap 128 e.p6.len e.p6.addr.0 l.prefix.len l.prefix.addr.0 ≡ false) (take l.entry-index l.entries)
