-- Small facts for the calls of the code that may want memory.
use Rattle.std.proofs.Common.{Result, Ok, Err}
use Rattle.std.specs.Prelude.{IfOk, OnOk}

-- what follows where a call did not want memory
pub on_ok : {A E : Type 0} {T U : Type 0} (r : Result A E) → (T → U) → OnOk r T → OnOk r U
on_ok (Ok x) h t = h t
on_ok (Err e) h t = tt

-- the same, of two
pub both_ok : {A E : Type 0} {T U V : Type 0} (r : Result A E) → (T → U → V) → OnOk r T → OnOk r U → OnOk r V
both_ok (Ok x) f t u = f t u
both_ok (Err e) f t u = tt

pub if_ok : {A E : Type 0} {F G : A → Type 0} (r : Result A E) → ((x : A) → F x → G x) → IfOk r F → IfOk r G
if_ok (Ok x) h p = h x p
if_ok (Err e) h p = tt
