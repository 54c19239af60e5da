use Rattle.std.proofs.Common.{◌≡◌, ℕ, ◌+◌, ◌%◌, ◌∙◌, sym, arith}
use Rattle.siit_checksum.proofs.Numbers.{pseudo6-is}
use Rattle.siit_checksum.proofs.pseudo.pseudo_sum6.Goals as goal

-- the remainders of both addresses in place of the addresses
remainders : (a b l p x y : ℕ) → x ≡ p → y ≡ l → (a % 65535 + b % 65535 + x + y) % 65535 ≡ (a + b + l + p) % 65535
remainders a b l p x y is_p is_l = omega arith

pub returns-clause-value : goal.returns-clause-value
returns-clause-value c =
    remainders c.args.src c.args.dst c.args.len c.args.protocol c.from.result c.from-2.result c.from.ensures c.from-2.ensures
    ∙ sym (pseudo6-is c.args.src c.args.dst c.args.protocol c.args.len (omega arith) (omega arith) (omega arith))
