-- MTUs, pointers and kinds, as worked by hand.
use Rattle.std.specs.Prelude.{◌≡◌, Some, None, Ok, Err}
use Rattle.siit_rules.specs.declared.rule.Rule.TheVariants.{IcmpType4, IcmpCode4, IcmpType6, IcmpCode6}
use Rattle.siit_icmp.specs.declared.kinds.Rest.TheVariants.{Zero, Mtu, PointerSix, Length}
use Rattle.siit_icmp.specs.Icmp.{icmp_to_6, icmp_to_4, pointer_to_6, pointer_to_4, mtu_to_6, mtu_to_4}

pub record IcmpExamples : Type 0 where
  -- links of 1500 bytes: without an MTU, a packet of 1500 bytes has the plateau 1492, and one of 1492 has none
  pub mtu_missing : mtu_to_6 0 1500 1500 1500 ≡ 1500
  pub mtu_missing_below : mtu_to_6 0 1492 1500 1500 ≡ 1280
  pub mtu_told : mtu_to_6 1400 1500 1500 1500 ≡ 1420
  pub mtu_told_low : mtu_to_6 576 1500 1500 1500 ≡ 1280
  pub mtu_back : mtu_to_4 1500 1500 1500 ≡ 1480
  pub mtu_back_least : mtu_to_4 1280 1500 1500 ≡ 1260
  pub mtu_back_low : mtu_to_4 10 1500 1500 ≡ 68
  -- the last bytes of the addresses, and the checksum, which IPv6 doesn't have
  pub source : pointer_to_6 15 ≡ Some 8
  pub destination : pointer_to_6 19 ≡ Some 24
  pub no_checksum : pointer_to_6 10 ≡ None
  pub past : pointer_to_4 40 ≡ None
  pub hop_limit : pointer_to_4 7 ≡ Some 8
  -- a port, a protocol, a precedence and a redirect
  pub port : icmp_to_6 3 3 ≡ Ok (record { kind = 1; code = 4; rest = Length })
  pub protocol : icmp_to_6 3 2 ≡ Ok (record { kind = 4; code = 1; rest = PointerSix })
  pub precedence : icmp_to_6 3 14 ≡ Err IcmpCode4
  pub redirect : icmp_to_6 5 0 ≡ Err IcmpType4
  pub next_header : icmp_to_4 4 1 ≡ Ok (record { kind = 3; code = 2; rest = Zero })
  pub too_big : icmp_to_4 2 0 ≡ Ok (record { kind = 3; code = 4; rest = Mtu })
  pub beyond_scope : icmp_to_4 1 2 ≡ Ok (record { kind = 3; code = 1; rest = Length })
  pub policy : icmp_to_4 1 5 ≡ Err IcmpCode6
  pub neighbour : icmp_to_4 135 0 ≡ Err IcmpType6
