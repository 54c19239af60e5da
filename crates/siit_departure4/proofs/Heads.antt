-- The new header that is decided before anything is rewritten.
use Rattle.std.proofs.Common.{◌≡◌, ℕ, ◌-◌, Bool, true, false, ◌&&◌, if◌then◌else◌, Option, Some, None, IfSome, Result, Ok, Err, IsOk, IsErr, is_err, ◌∙◌, ap, sym, refl}
use Rattle.siit_model.specs.Extensions.{FragmentFields}
use Rattle.siit_model.specs.Fragments.{Fragment}
use Rattle.siit_addr.specs.declared.addr.Addr4.{Addr4}
use Rattle.siit_map.specs.Mapping.{ipv4_for}
use Rattle.siit_quoted.specs.Quotes.{written_class}
use Rattle.siit_roles.specs.Pool.{pool_source}
use Rattle.siit_roles.specs.declared.settings.Settings.{Settings}
use Rattle.siit_v6to4.specs.Heads as heads
use Rattle.siit_v6to4.specs.To4.{Head4, identification}
use Rattle.siit_v6to4.specs.declared.fields.Head64.{Head64}
use Rattle.siit_device.specs.Addresses.{to4}
use Rattle.siit_device.specs.Arrival6.{is_error6}
use Rattle.siit_device.specs.Backward.{address_in, head4_for, source_to_4}
use Rattle.siit_arrival6.specs.Arrived.{HasSource4}

mapped : {T E : Type 0} (error : Bool) (r : Result T E) (pooled found : ℕ) → IsOk r → (if error && is_err r then pooled else found) ≡ found
mapped true (Ok x) pooled found is = refl
mapped false (Ok x) pooled found is = refl
mapped error (Err e) pooled found is = cc

pooled-by : {T E : Type 0} (error : Bool) (r : Result T E) (pooled found : ℕ) → error ≡ true → IsErr r → (if error && is_err r then pooled else found) ≡ pooled
pooled-by true (Err e) pooled found is none = refl
pooled-by error (Ok x) pooled found is none = cc
pooled-by false (Err e) pooled found is none = cc

source-is : (settings : Settings) (id : ℕ) (f : Fragment) (src : Option Addr4) (chosen : Addr4) → HasSource4 settings f.common.source src
    → (src ≡ None → is_error6 f ≡ true) → IfSome src (λ address. chosen ≡ address) → (src ≡ None → pool_source settings.pool4 id ≡ Some chosen)
    → chosen.0 ≡ source_to_4 settings id f
source-is settings id f None chosen none error found pooled =
    let r = ipv4_for settings.mapping f.common.source in
    let is : pool_source settings.pool4 id ≡ Some chosen = pooled refl in
    sym (pooled-by (is_error6 f) r (address_in (pool_source settings.pool4 id)) (to4 settings f.common.source) (error refl) none ∙ ap address_in is)
source-is settings id f (Some address) chosen has error found pooled =
    ap (λ (a : Addr4). a.0) found
    ∙ sym (mapped (is_error6 f) (ipv4_for settings.mapping f.common.source) (address_in (pool_source settings.pool4 id)) (to4 settings f.common.source) has.0 ∙ has.1)

made : (s1 s2 d1 d2 t1 t2 ttl id : ℕ) → s1 ≡ s2 → d1 ≡ d2 → t1 ≡ t2 →
    let one : Head4 = record { source = s1; destination = d1; tos = t1; ttl = ttl; id = id } in
    let other : Head4 = record { source = s2; destination = d2; tos = t2; ttl = ttl; id = id } in
    one ≡ other
made s1 s2 d1 d2 t1 t2 ttl id s d t = rw (s, d, t) refl

pub head-is : (settings : Settings) (f : Fragment) (frag : Option FragmentFields) (number id : ℕ) (to : Head64) (src : Option Addr4)
    → id ≡ identification frag number → to.ident ≡ number
    → HasSource4 settings f.common.source src → (src ≡ None → is_error6 f ≡ true)
    → IfSome src (λ address. to.src ≡ address) → (src ≡ None → pool_source settings.pool4 id ≡ Some to.src)
    → to4 settings f.common.destination ≡ to.dst.0 → to.tos ≡ written_class settings.tos_zero f.common.class
    → heads.head4_for to frag f ≡ head4_for settings (identification frag number) f
head-is settings f frag number id to src is_id is_number has error found pooled is_destination is_tos =
    ap (λ n. let h : Head4 = record { source = to.src.0; destination = to.dst.0; tos = to.tos; ttl = f.common.hop - 1; id = identification frag n } in h) is_number
    ∙ made to.src.0 _ to.dst.0 _ to.tos _ (f.common.hop - 1) (identification frag number)
    (source-is settings id f src to.src has error found pooled ∙ ap (λ i. source_to_4 settings i f) is_id) (sym is_destination) is_tos
