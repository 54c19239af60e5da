-- The payload of a packet that is read.
use Rattle.std.proofs.Common.{◌≡◌, ℕ, ◌-◌, ◌≤◌, List, length, drop, min, ap, arith}
use Rattle.std.proofs.lemmas.List.{length-take}
use Rattle.siit_model.specs.Ipv4.{header_length_in, ipv4_fields, total_length_in}

pub payload-short : (bytes payload : List ℕ) → payload ≡ (ipv4_fields bytes).payload → total_length_in bytes ≤ 65535 → length payload ≤ 65535
payload-short bytes payload is most =
    let taken = length-take (total_length_in bytes - header_length_in bytes) (drop (header_length_in bytes) bytes) in
    short (length payload) (total_length_in bytes) (header_length_in bytes) (length (drop (header_length_in bytes) bytes)) _ (ap length is) taken most
  where
    short : (n total header behind kept : ℕ) → n ≡ kept → kept ≡ min (total - header) behind → total ≤ 65535 → n ≤ 65535
    short n total header behind kept is is_kept most = omega arith
