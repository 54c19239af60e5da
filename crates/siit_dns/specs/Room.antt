-- What doesn't fit into a name, which has at most 255 bytes (RFC 1035 section 2.3.4).
use Rattle.std.specs.Prelude.{ℕ, ◌+◌, ◌<◌, length, Option, Some, None}
use Rattle.siit_dns.specs.Names.{Run}

-- behind so many bytes of a name there is no run, or its labels make the name too long
abbrev pub LacksRoom : ℕ → Option Run → Type 0
LacksRoom before None = Unit {0}
LacksRoom before (Some run) = 255 < before + length run.labels
