-- Which packets are answered by an ICMP error (RFC 1122 section 3.2.2, RFC 4443 section 2.4). That a message without a
-- type isn't answered is this project's own.
use Rattle.std.specs.Prelude.{ℕ, List, [], ◌∷◌, Bool, true, false, not, ◌&&◌, ◌==◌}
use Rattle.std.specs.Option.{option_map_or}
use Rattle.siit_model.specs.Fragments.{Fragment, fragment4, fragment6}
use Rattle.siit_model.specs.Ipv4.{ipv4_fields}
use Rattle.siit_model.specs.Ipv6.{ipv6_fields}
use Rattle.siit_icmp.specs.Errors.{is_error_kind4, is_error_kind6}

-- an ICMP message that is an error, or whose type isn't there
abbrev pub is_perhaps_error : (is_error_kind : ℕ → Bool) → List ℕ → Bool
is_perhaps_error is_error_kind [] = true
is_perhaps_error is_error_kind (kind ∷ rest) = is_error_kind kind

-- no later fragment, and no ICMP error; `icmp` is the protocol of ICMP in the packet's family
abbrev pub is_answerable : (icmp : ℕ) → (is_error_kind : ℕ → Bool) → Fragment → Bool
is_answerable icmp is_error_kind f = (f.offset == 0) && not ((f.common.protocol == icmp) && is_perhaps_error is_error_kind f.bytes)

abbrev pub may_answer4 : List ℕ → Bool
may_answer4 bytes = is_answerable 1 is_error_kind4 (fragment4 (ipv4_fields bytes))

-- a packet whose extension headers aren't accepted isn't answered
abbrev pub may_answer6 : List ℕ → Bool
may_answer6 bytes = option_map_or (is_answerable 58 is_error_kind6) (fragment6 (ipv6_fields bytes)) false
