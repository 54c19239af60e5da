-- Laws of what comes of a packet.
use Rattle.std.specs.Prelude.{ℕ, ◌+◌, ◌≤◌, List, Bool, ◌==◌, if◌then◌else◌, max}
use Rattle.siit_model.specs.Bytes.{AreBytes}
use Rattle.siit_model.specs.Ipv4.{ipv4_fields, version_in}
use Rattle.siit_model.specs.Ipv6.{ipv6_fields}
use Rattle.siit_rules.specs.declared.rule.Family.{Family}
use Rattle.siit_roles.specs.Limits.{IsWithinLimits}
use Rattle.siit_roles.specs.declared.settings.Settings.{Settings}
use Rattle.siit_chain.specs.Outcome.{Falls}
use Rattle.siit_errors.specs.Answers.{may_answer4, may_answer6}
use Rattle.siit_device.specs.Outcome.{outcome_of}

-- the TTL or hop limit, by the version
abbrev pub hops_in : List ℕ → ℕ
hops_in bytes = if version_in bytes == 4 then (ipv4_fields bytes).ttl else (ipv6_fields bytes).hop

-- whether an ICMP error may answer the packet
abbrev pub may_answer : List ℕ → Bool
may_answer bytes = if version_in bytes == 4 then may_answer4 bytes else may_answer6 bytes

-- The hops that are left, and 64 more where an error may answer the packet: it has 64 hops, and none answers it.
abbrev pub life : (answered : Bool) → (hops : ℕ) → ℕ
life answered hops = if answered then 64 + max 1 hops else hops

-- how long a packet may live: no fewer devices than can meet what comes of it, one after another
unfoldable pub measure : List ℕ → ℕ
measure bytes = life (may_answer bytes) (hops_in bytes)

-- Whatever comes of a packet may live less long, so that all that comes of it ends.
abbrev pub WhatComesLivesLess : Type 0
WhatComesLivesLess = (settings : Settings) (side : Family) (bytes : List ℕ) (number : ℕ) → IsWithinLimits settings → AreBytes bytes
    → Falls measure bytes (outcome_of settings side bytes number)

-- A packet has at most 255 hops, and an error about it 64.
abbrev pub LivesAreBounded : Type 0
LivesAreBounded = (bytes : List ℕ) → AreBytes bytes → measure bytes ≤ 255 + 64
