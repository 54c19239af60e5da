-- Addresses under a prefix (RFC 6052), and at a customer's device (RFC 6877). What is refused is this project's own
-- choice; RFC 6052 section 3.1 forbids addresses that aren't global under the well-known prefix.
use Rattle.std.specs.Prelude.{ℕ, Bool, ◌&&◌, if◌then◌else◌, Option, Some, None, Result, Ok, Err, is_some}
use Rattle.siit_addr.specs.Addresses.{agree, dotted, is_non_global_number}
use Rattle.siit_addr.specs.declared.addr.Prefix4.{Prefix4}
use Rattle.siit_addr.specs.declared.addr.Prefix6.{Prefix6}
use Rattle.siit_rfc6052.specs.Embedding.{embedded, extracted, is_well_known}
use Rattle.siit_map.specs.declared.mapping.Means.{Means}
use Rattle.siit_map.specs.declared.mapping.Means.TheVariants.{Prefix, Local}
use Rattle.siit_map.specs.declared.mapping.MapRefusal.{MapRefusal}
use Rattle.siit_map.specs.declared.mapping.MapRefusal.TheVariants.{NoMapping, WkpNonGlobal, LocalMismatch}

-- 224.0.0.0/4 (RFC 5771)
abbrev pub is_multicast : ℕ → Bool
is_multicast a = agree 32 4 a (dotted 224 0 0 0)

abbrev pub embedded_in : Prefix6 → ℕ → ℕ
embedded_in prefix a = embedded prefix.len prefix.addr.0 a

abbrev pub extracted_from : Prefix6 → ℕ → Option ℕ
extracted_from prefix x = extracted prefix.len prefix.addr.0 x

-- why an IPv4 address doesn't stand under a prefix
abbrev pub prefix_refusal : Prefix6 → ℕ → Option MapRefusal
prefix_refusal prefix a =
    if is_multicast a then Some NoMapping
    else if is_well_known prefix && is_non_global_number a then Some WkpNonGlobal
    else None

-- the address under the prefix, whatever entries there are
abbrev pub prefix_form : Prefix6 → ℕ → Option ℕ
prefix_form prefix a = if is_some (prefix_refusal prefix a) then None else Some (embedded_in prefix a)

-- an answer, unless there is a refusal
abbrev pub unless_refused : Option MapRefusal → ℕ × Means → Result (ℕ × Means) MapRefusal
unless_refused None answer = Ok answer
unless_refused (Some refusal) answer = Err refusal

-- forth by the prefix
abbrev pub under_prefix : Prefix6 → ℕ → Result (ℕ × Means) MapRefusal
under_prefix prefix a = unless_refused (prefix_refusal prefix a) (embedded_in prefix a, Prefix)

-- and back
abbrev pub back_under : Prefix6 → Option ℕ → Result (ℕ × Means) MapRefusal
back_under prefix None = Err NoMapping
back_under prefix (Some a) = unless_refused (prefix_refusal prefix a) (a, Prefix)

abbrev pub extracted_under : Prefix6 → ℕ → Result (ℕ × Means) MapRefusal
extracted_under prefix x = back_under prefix (extracted_from prefix x)

abbrev pub is_local : Prefix4 → ℕ → Bool
is_local local4 a = agree 32 local4.len a local4.addr.0

-- An address under the provider's prefix must not be one of the customer's own.
abbrev pub back_by_provider : Prefix4 → Prefix6 → Option ℕ → Result (ℕ × Means) MapRefusal
back_by_provider local4 provider None = Err NoMapping
back_by_provider local4 provider (Some a) = if is_local local4 a then Err LocalMismatch else back_under provider (Some a)

-- an address under the local prefix must be, and any other goes by the provider's
abbrev pub back_by_local : Prefix4 → Option ℕ → Result (ℕ × Means) MapRefusal → Result (ℕ × Means) MapRefusal
back_by_local local4 None other = other
back_by_local local4 (Some a) other = if is_local local4 a then Ok (a, Local) else Err LocalMismatch

abbrev pub customer_back : (local4 : Prefix4) (local6 provider : Prefix6) → ℕ → Result (ℕ × Means) MapRefusal
customer_back local4 local6 provider x =
    back_by_local local4 (extracted_from local6 x) (back_by_provider local4 provider (extracted_from provider x))
