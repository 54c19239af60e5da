-- A key's value, judged in two steps.
use Rattle.std.proofs.Common.{◌≡◌, ℕ, List, Option, Some, None, Result, Ok}
use Rattle.toml.specs.Data.{Data, Members, get_member, as_str}
use Rattle.siit_config.specs.declared.fault.ConfigFault.{ConfigFault}
use Rattle.siit_config.specs.Faults.{Fault, Gives, or_fault, bad_value, ◌>>=◌}
use Rattle.siit_config.specs.Keys.{key, text, value_of}

kind_accepted : {K X : Type 0} (wrong bad : Fault) (k : Option K) (t : K) (accepts : K → Option X) (r : Result X ConfigFault)
    → (or_fault wrong k >>= λ t. Ok t) ≡ Ok t → Gives (or_fault bad (accepts t)) r → Gives (or_fault wrong k >>= λ t. or_fault bad (accepts t)) r
kind_accepted wrong bad None t accepts r e h = cc
kind_accepted wrong bad (Some k) t accepts r e h = let same : k ≡ t = cc in rw same h

value_accepted : {X : Type 0} (device : ℕ) (name : List ℕ) (found : Option Data) (t : List ℕ) (accepts : List ℕ → Option X) (r : Result X ConfigFault)
    → value_of as_str (λ t. Some t) None device name found ≡ Ok t → Gives (or_fault (bad_value device name) (accepts t)) r
    → Gives (value_of as_str accepts None device name found) r
value_accepted device name None t accepts r e h = cc
value_accepted device name (Some v) t accepts r e h = kind_accepted _ _ (as_str v) t accepts r e h

-- a text that must be there, and is then accepted or not
pub text_accepted : {X : Type 0} (device : ℕ) (members : Members) (accepts : List ℕ → Option X) (name t : List ℕ) (v : Option X) (r : Result X ConfigFault)
    → key device members as_str (λ t. Some t) None name ≡ Ok t → v ≡ accepts t → Gives (or_fault (bad_value device name) v) r
    → Gives (text device members accepts name) r
text_accepted device members accepts name t v r e same h =
    value_accepted device name (get_member name members) t accepts r e (rw (← same) h)
