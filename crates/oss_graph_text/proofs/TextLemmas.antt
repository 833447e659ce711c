-- Texts that grow, call by call.
use Rattle.std.proofs.Common.{◌≡◌, ◌∙◌, ap, ℕ, zero, suc, ◌-◌, ◌<◌, List, ◌++◌, append_assoc, arith, Result, Ok, Err, OnOk}
use Rattle.std.specs.Prelude.{codes}
use Rattle.oss_graph_text.specs.Points.{indent}

-- what follows from what holds of an Ok holds of it
pub on_ok : {T E : Type 0} {A B : Type 0} (r : Result T E) → (A → B) → OnOk r A → OnOk r B
on_ok (Ok v) f a = f a
on_ok (Err e) f a = a

-- one part behind another
pub then : (t0 t1 t2 a b : List ℕ) → t1 ≡ t0 ++ a → t2 ≡ t1 ++ b → t2 ≡ t0 ++ (a ++ b)
then t0 t1 t2 a b p q = q ∙ ap (λ (t : List ℕ). t ++ b) p ∙ append_assoc t0 a b

-- the blanks of one level stand in front of those of the others
pub indent_more : (n : ℕ) → 0 < n → indent n ≡ codes "  " ++ indent (n - 1)
indent_more zero some = absurd (omega (arith, some))
indent_more (suc n) some = let e : n ≡ suc n - 1 = omega arith in ap (λ (k : ℕ). codes "  " ++ indent k) e
