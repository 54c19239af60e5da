-- A whole datagram on its way through two devices, from IPv4 over IPv6 to IPv4, whatever its size.
use Rattle.std.specs.Prelude.{ℕ}
use Rattle.siit_model.specs.Fragments.{Datagram, datagram4}
use Rattle.siit_model.specs.Ipv4.{Ipv4Packet}
use Rattle.siit_roles.specs.declared.settings.Settings.{Settings}
use Rattle.siit_device.specs.Backward.{image4}
use Rattle.siit_device.specs.Forward.{image6}

-- between both devices; the first is the one that the datagram meets first
abbrev pub between : (first : Settings) → Ipv4Packet → Datagram
between first d = image6 first (datagram4 d)

-- behind both, with the identification of the first packet that comes out
abbrev pub across : (first second : Settings) → Ipv4Packet → (id : ℕ) → Ipv4Packet
across first second d id = image4 second (between first d) id
