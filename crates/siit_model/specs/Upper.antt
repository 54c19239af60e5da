-- What both directions say of an upper part: TCP, UDP or ICMP behind an IP header, perhaps cut.
use Rattle.std.specs.Prelude.{ℕ, ◌+◌, List, length, Bool, nat_lt}

-- the addresses of one packet on both sides
pub record Ends : Type 0 where
  pub source4 : ℕ
  pub destination4 : ℕ
  pub source6 : ℕ
  pub destination6 : ℕ

-- a field of 16 bits is in a part that may be cut only where both of its bytes are
abbrev pub has_field16 : List ℕ → ℕ → Bool
has_field16 part place = nat_lt (place + 1) (length part)
