-- What is known of a packet on its way to the IPv4 side, gathered.
use Rattle.std.proofs.Common.{◌≡◌, ℕ, List, Option, sym, subst}
use Rattle.siit_addr.specs.declared.addr.Addr4.{Addr4}
use Rattle.siit_roles.specs.declared.settings.Settings.{Settings}
use Rattle.siit_upper.specs.declared.walk.Walk.{Walk}
use Rattle.siit_arrival6.specs.Arrived.{HasArrived6}
use Rattle.siit_arrival6.specs.declared.arrived.Arrived6.{Arrived6}
use Rattle.siit_arrival6.specs.declared.arrived.Error6.{Error6}
use Rattle.siit_arrival6.specs.declared.arrived.Way6.TheVariants.{On}

abbrev pub on_way : Arrived6 → Walk → Option Addr4 → Addr4 → Option Error6 → Arrived6
on_way arrived walk src dst error = record { walk = walk; len = arrived.len; old = arrived.old; way = On src dst error }

pub as_found : (settings : Settings) (bytes : List ℕ) (arrived : Arrived6) (walk : Walk) (src : Option Addr4) (dst : Addr4) (error : Option Error6)
    → arrived.walk ≡ walk → arrived.way ≡ On src dst error
    → HasArrived6 settings bytes (on_way arrived walk src dst error) → HasArrived6 settings bytes arrived
as_found settings bytes arrived walk src dst error is_walk is_way has =
    let same : on_way arrived walk src dst error ≡ arrived = λ i. record { walk = sym is_walk i; len = arrived.len; old = arrived.old; way = sym is_way i } in
    subst (HasArrived6 settings bytes) same has
