-- What an upper part ends as that was lent as its first bytes and the rest.
use Rattle.std.specs.Prelude.{ℕ, List, ◌++◌, Option, Some, None}
use Rattle.std.specs.Borrow.{follows_both_if, MutBor, Fml, GName, Array, u8}
use mathlib.Core.Option as maybe
use Rattle.siit_upper.specs.declared.view.TcpView.{TcpView}
use Rattle.siit_upper.specs.declared.view.UdpView.{UdpView}
use Rattle.siit_upper.specs.declared.view.IcmpView.{IcmpView}

-- the names of the two parts, where there are any
abbrev pub tcp_names : Option TcpView → maybe.Option (GName × GName)
tcp_names None = maybe.none
tcp_names (Some view) = maybe.some (view.head.ghost_name, view.rest.ghost_name)

abbrev pub udp_names : Option UdpView → maybe.Option (GName × GName)
udp_names None = maybe.none
udp_names (Some view) = maybe.some (view.head.ghost_name, view.rest.ghost_name)

abbrev pub icmp_names : Option IcmpView → maybe.Option (GName × GName)
icmp_names None = maybe.none
icmp_names (Some view) = maybe.some (view.head.ghost_name, view.rest.ghost_name)

-- the part ends as the two joined, or stays as it was
abbrev pub LendsTcp : MutBor (List ℕ) → Option TcpView → Fml
LendsTcp part view = follows_both_if (Array u8 0) (Array u8 0) (Array u8 0) part.ghost_name (tcp_names view) ◌++◌ part.now

abbrev pub LendsUdp : MutBor (List ℕ) → Option UdpView → Fml
LendsUdp part view = follows_both_if (Array u8 0) (Array u8 0) (Array u8 0) part.ghost_name (udp_names view) ◌++◌ part.now

abbrev pub LendsIcmp : MutBor (List ℕ) → Option IcmpView → Fml
LendsIcmp part view = follows_both_if (Array u8 0) (Array u8 0) (Array u8 0) part.ghost_name (icmp_names view) ◌++◌ part.now
