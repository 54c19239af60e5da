-- What the first bytes of a packet must be before it is read as IPv4 or IPv6.
use Rattle.std.specs.Prelude.{ℕ, ◌+◌, ◌≤◌, List, length, if◌then◌else◌, Option, Some, None}
use Rattle.siit_model.specs.Ipv4.{header_length_in, total_length_in, is_short4, is_bad_header4}
use Rattle.siit_model.specs.Ipv6.{payload_length_in, is_short6, is_bad_header6}
use Rattle.siit_rules.specs.declared.rule.Rule.{Rule}
use Rattle.siit_rules.specs.declared.rule.Rule.TheVariants.{Short4, BadHeader4, Short6, BadHeader6}

-- The rule by which bytes are no IPv4 packet (RFC 791 section 3.1): shortness is looked for first.
abbrev pub refusal4 : List ℕ → Option Rule
refusal4 bytes = if is_short4 bytes then Some Short4 else if is_bad_header4 bytes then Some BadHeader4 else None

-- The rule by which bytes are no IPv6 packet (RFC 8200 section 3).
abbrev pub refusal6 : List ℕ → Option Rule
refusal6 bytes = if is_short6 bytes then Some Short6 else if is_bad_header6 bytes then Some BadHeader6 else None

-- the lengths that an IPv4 header tells lie within the bytes, and its own within the packet's
pub record HasLengths4 (bytes : List ℕ) : Type 0 where
  pub header : 20 ≤ header_length_in bytes
  pub total : header_length_in bytes ≤ total_length_in bytes
  pub fits : total_length_in bytes ≤ length bytes

-- the length that an IPv6 header tells lies within the bytes
pub record HasLength6 (bytes : List ℕ) : Type 0 where
  pub fits : 40 + payload_length_in bytes ≤ length bytes
