-- What holds of a value that is there.
use Rattle.std.proofs.Common.{Result, Ok, Err, IfOk}

pub if_ok-map : {X E : Type 0} (P Q : X → Type 0) (r : Result X E) → ((x : X) → P x → Q x) → IfOk r P → IfOk r Q
if_ok-map P Q (Ok x) f h = f x h
if_ok-map P Q (Err e) f h = h

pub if_ok-map3 : {X E : Type 0} (P Q R S : X → Type 0) (r : Result X E) → ((x : X) → P x → Q x → R x → S x) → IfOk r P → IfOk r Q → IfOk r R → IfOk r S
if_ok-map3 P Q R S (Ok x) f h h' h'' = f x h h' h''
if_ok-map3 P Q R S (Err e) f h h' h'' = h
