-- The document that bytes are.
use Rattle.std.proofs.Common.{◌≡◌, ℕ, List, Some, None, Ok, Err, IsUtf8, refl, inl, inr}
use Rattle.std.proofs.lemmas.Bool.{cases_Bool}
use Rattle.std.proofs.lemmas.Str.{IsUtf8-from_is_utf8, is_utf8-from_IsUtf8}
use Rattle.std.specs.Str.{is_utf8}
use Rattle.toml.specs.Data.{Members}
use Rattle.toml.specs.Parse.{parse_document}
use Rattle.siit_config.specs.Config.{document_of}
use Rattle.siit_config.specs.Faults.{not_toml, or_fault}

pub document_found : (bytes : List ℕ) (found : Members) → IsUtf8 bytes → parse_document bytes ≡ Some found → or_fault not_toml (document_of bytes) ≡ Ok found
document_found bytes found text parsed = rw (is_utf8-from_IsUtf8 bytes text, parsed) refl

pub document_refused : (bytes : List ℕ) → (IsUtf8 bytes → parse_document bytes ≡ None) → or_fault not_toml (document_of bytes) ≡ Err not_toml
document_refused bytes refused = elim (cases_Bool (is_utf8 bytes)) [
  | inl text ↦ rw (text, refused (IsUtf8-from_is_utf8 bytes text)) refl
  | inr other ↦ rw other refl
]
