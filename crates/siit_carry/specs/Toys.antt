-- A toy of a device, for the tests. A packet's first byte says how long it may live.
use Rattle.std.specs.Prelude.{ℕ, ◌-◌, List, [], ◌∷◌, map, replicate, Bool, true, false, Some, None, ◌==◌, nat_lt}
use Rattle.std.specs.List.{range_with_len}
use Rattle.siit_model.specs.Fragments.{Fragment, fragment_packet6, packet4}
use Rattle.siit_model.specs.Ipv4.{ipv4_bytes}
use Rattle.siit_model.specs.Ipv6.{ipv6_bytes}
use Rattle.siit_fragments.specs.Pieces.{piece_of}
use Rattle.siit_rules.specs.declared.rule.Rule.TheVariants.{Expired4, NotIp}
use Rattle.siit_chain.specs.Outcome.{Outcome, dropped, pieces, through}

-- 24 bytes of one datagram
abbrev pub burst : Fragment
burst = record {
  common = record { class = 0; hop = 1; protocol = 6; source = 1; destination = 2 };
  id = 7;
  offset = 0;
  more = false;
  bytes = replicate 24 5;
}

abbrev pub whole6 : List ℕ
whole6 = ipv6_bytes (fragment_packet6 burst)

abbrev pub whole4 : List ℕ
whole4 = ipv4_bytes (packet4 0 burst)

-- these packets cut for 16 bytes behind the header
abbrev pub pieces6 : List (List ℕ)
pieces6 = map (λ k. ipv6_bytes (fragment_packet6 (piece_of 2 burst k))) (range_with_len 0 2)

abbrev pub pieces4 : List (List ℕ)
pieces4 = map (λ k. ipv4_bytes (packet4 0 (piece_of 2 burst k))) (range_with_len 0 2)

abbrev pub by_life : (above_96 is_96 above_1 is_1 : Bool) → ℕ → List ℕ → Outcome
by_life true is_96 above_1 is_1 life rest = pieces false pieces6
by_life false true above_1 is_1 life rest = pieces false pieces4
by_life false false true is_1 life rest = through true ((life - 1) ∷ rest)
by_life false false false true life rest = dropped Expired4 (Some (0 ∷ []))
by_life false false false false life rest = dropped Expired4 None

abbrev pub toy_outcome : List ℕ → Outcome
toy_outcome [] = dropped NotIp None
toy_outcome (life ∷ rest) = by_life (nat_lt 96 life) (life == 96) (nat_lt 1 life) (life == 1) life rest

abbrev pub toy_measure : List ℕ → ℕ
toy_measure [] = 0
toy_measure (life ∷ rest) = life
