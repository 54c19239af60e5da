-- What `map CONFIG DEVICE ADDRESS` prints.
use Rattle.std.specs.Prelude.{ℕ, ◌+◌, List, [], ◌∷◌, ◌++◌, codes, Result, Ok, Err}
use Rattle.std.specs.Fmt.{decimal}
use Rattle.siit_addr.specs.Canonical.{ipv4_text, ipv6_text}
use Rattle.siit_map.specs.Mapping.{Mapping, ipv4_for, ipv6_for}
use Rattle.siit_map.specs.declared.mapping.Means.{Means}
use Rattle.siit_map.specs.declared.mapping.Means.TheVariants.{Eam, Prefix, Local}
use Rattle.siit_map.specs.declared.mapping.MapRefusal.{MapRefusal}
use Rattle.siit_map.specs.declared.mapping.MapRefusal.TheVariants.{NoMapping, WkpNonGlobal, LocalMismatch}
use Rattle.siit_command.specs.Words.{Address, four, six}

-- how an address is mapped, entries being counted from 1
abbrev pub means_text : Means → List ℕ
means_text (Eam entry) = codes "eam " ++ decimal (entry + 1)
means_text Prefix = codes "prefix"
means_text Local = codes "local"

abbrev pub refusal_name : MapRefusal → List ℕ
refusal_name NoMapping = codes "NoMapping"
refusal_name WkpNonGlobal = codes "WkpNonGlobal"
refusal_name LocalMismatch = codes "LocalMismatch"

-- the mapped address in its canonical text and how it is mapped, or why it isn't
abbrev pub mapped_text : (ℕ → List ℕ) → Result (ℕ × Means) MapRefusal → List ℕ
mapped_text text (Ok mapped) = text mapped.0 ++ codes " " ++ means_text mapped.1
mapped_text text (Err refusal) = codes "refused " ++ refusal_name refusal

-- the line of an address: its own canonical text, and what it is mapped to
abbrev pub map_line : Mapping → Address → List ℕ
map_line mapping (four a) = ipv4_text a ++ codes " " ++ mapped_text ipv6_text (ipv6_for mapping a) ++ 10 ∷ []
map_line mapping (six x) = ipv6_text x ++ codes " " ++ mapped_text ipv4_text (ipv4_for mapping x) ++ 10 ∷ []
