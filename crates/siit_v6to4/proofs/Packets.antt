-- A packet whose upper part is changed where it lies, behind its header.
use Rattle.std.proofs.Common.{◌≡◌, ℕ, ◌+◌, ◌-◌, List, [], ◌++◌, length, take, drop, Bool, true, false, ◌==◌, ◌∙◌, ap, sym, refl, arith, length-drop}
use Rattle.std.proofs.lemmas.List.{drop_all, append-nil}
use borrow.Rule.Slice.PartMut.{put_mid}
use Rattle.siit_model.specs.Checksum.{checksum_of, residue}
use Rattle.siit_model.specs.Fragments.{Fragment, fragment4, packet4}
use Rattle.siit_model.specs.Bytes.{flag_bit}
use Rattle.siit_model.specs.Ipv4.{ipv4_bytes, ipv4_header}

-- bytes that are written behind the first `at` of some others
pub put-behind : (at : ℕ) (bytes new : List ℕ) → put_mid at (length bytes - at) bytes new ≡ take at bytes ++ new
put-behind at bytes new =
    let none : drop (length bytes - at) (drop at bytes) ≡ [] = drop_all (length bytes - at) (drop at bytes) (omega (arith, length-drop at bytes)) in
    ap (λ l. take at bytes ++ (new ++ l)) none ∙ ap (λ l. take at bytes ++ l) (append-nil new)

-- what stands behind the header
pub behind-is : (df : ℕ) (f : Fragment) → drop 20 (ipv4_bytes (packet4 df f)) ≡ f.bytes
behind-is df f = refl

-- other bytes there, as many
pub joined-is : (df : ℕ) (f : Fragment) (upper : List ℕ) → length upper ≡ length f.bytes
    → take 20 (ipv4_bytes (packet4 df f)) ++ upper ≡ ipv4_bytes (packet4 df (record f { bytes = upper }))
joined-is df f upper same =
    ap (λ n. let p = packet4 df f in ipv4_header (20 + n) p (checksum_of (residue (ipv4_header (20 + n) p 0))) ++ upper) (sym same)

flag-read : (flag : Bool) → (flag_bit flag == 1) ≡ flag
flag-read true = refl
flag-read false = refl

pub fragment_is_read4 : (df : ℕ) (f : Fragment) → fragment4 (packet4 df f) ≡ f
fragment_is_read4 df f = ap (λ (more : Bool). record f { more = more }) (flag-read f.more)
