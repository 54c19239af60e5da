-- The addresses that an entry gives lie in its prefixes.
use Rattle.std.proofs.Common.{◌≡◌, ℕ, ◌+◌, ◌-◌, ◌*◌, ◌/◌, ◌%◌, ◌^◌, ◌<◌, ◌≤◌, true, arith}
use Rattle.std.proofs.lemmas.Bool.Decides.{nat_tests}
use Rattle.std.proofs.lemmas.Nat.{pow_pos}
use Rattle.siit_eamt.specs.declared.entry.Eam.{Eam}
use Rattle.siit_eamt.specs.Entries.{is_good, holds4, holds6, weight}
use Rattle.siit_eamt.proofs.Powers.{above_multiple, suffix_up, suffix_down, room_above}

-- what is asked of an entry
pub record IsGoodEntry (e : Eam) : Type 0 where
  pub clean4 : e.p4.addr.0 % 2 ^ (32 - e.p4.len) ≡ 0
  pub clean6 : e.p6.addr.0 % 2 ^ (128 - e.p6.len) ≡ 0
  pub room : e.p6.len ≤ 96 + e.p4.len
  pub len4 : e.p4.len ≤ 32
  pub len6 : e.p6.len ≤ 128

pub IsGoodEntry-from_test : (e : Eam) → is_good e ≡ true → IsGoodEntry e
IsGoodEntry-from_test e h = record {
  clean4 = grind (arith, nat_tests, h);
  clean6 = grind (arith, nat_tests, h);
  room = grind (arith, nat_tests, h);
  len4 = omega arith;
  len6 = omega arith;
}

-- an IPv4 address that an entry holds
pub record IsSuffix4 (e : Eam) (a : ℕ) : Type 0 where
  pub above : e.p4.addr.0 ≤ a
  pub small : a - e.p4.addr.0 < 2 ^ (32 - e.p4.len)
  pub moved : (a - e.p4.addr.0) * weight e < 2 ^ (128 - e.p6.len)

pub IsSuffix4-from_held : (e : Eam) (a : ℕ) → is_good e ≡ true → holds4 a e ≡ true → IsSuffix4 e a
IsSuffix4-from_held e a good held =
    let g = IsGoodEntry-from_test e good in
    let same : a / 2 ^ (32 - e.p4.len) ≡ e.p4.addr.0 / 2 ^ (32 - e.p4.len) = grind (arith, nat_tests, held) in
    let above = above_multiple a e.p4.addr.0 (2 ^ (32 - e.p4.len)) (pow_pos (32 - e.p4.len)) same g.clean4 in
    record {
      above = above.0;
      small = above.1;
      moved = suffix_up e.p4.len e.p6.len (a - e.p4.addr.0) g.len4 g.room above.1;
    }

-- an IPv6 address that an entry holds
pub record IsSuffix6 (e : Eam) (x : ℕ) : Type 0 where
  pub above : e.p6.addr.0 ≤ x
  pub small : x - e.p6.addr.0 < 2 ^ (128 - e.p6.len)
  pub moved : (x - e.p6.addr.0) / weight e < 2 ^ (32 - e.p4.len)

pub IsSuffix6-from_held : (e : Eam) (x : ℕ) → is_good e ≡ true → holds6 x e ≡ true → IsSuffix6 e x
IsSuffix6-from_held e x good held =
    let g = IsGoodEntry-from_test e good in
    let same : x / 2 ^ (128 - e.p6.len) ≡ e.p6.addr.0 / 2 ^ (128 - e.p6.len) = grind (arith, nat_tests, held) in
    let above = above_multiple x e.p6.addr.0 (2 ^ (128 - e.p6.len)) (pow_pos (128 - e.p6.len)) same g.clean6 in
    record {
      above = above.0;
      small = above.1;
      moved = suffix_down e.p4.len e.p6.len (x - e.p6.addr.0) g.len4 g.room above.1;
    }

-- both stay inside their families
pub room6 : (e : Eam) → is_good e ≡ true → e.p6.addr.0 < 2 ^ 128 → e.p6.addr.0 + 2 ^ (128 - e.p6.len) ≤ 2 ^ 128
room6 e good below =
    let g = IsGoodEntry-from_test e good in
    room_above e.p6.addr.0 (128 - e.p6.len) 128 (omega arith) below g.clean6

pub room4 : (e : Eam) → is_good e ≡ true → e.p4.addr.0 < 2 ^ 32 → e.p4.addr.0 + 2 ^ (32 - e.p4.len) ≤ 2 ^ 32
room4 e good below =
    let g = IsGoodEntry-from_test e good in
    room_above e.p4.addr.0 (32 - e.p4.len) 32 (omega arith) below g.clean4

pub ruleset ranges = (IsSuffix4-from_held, IsSuffix6-from_held, room4, room6)
