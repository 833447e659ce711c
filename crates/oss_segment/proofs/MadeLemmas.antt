-- What an act adds to the children and the prints of a part.
use Rattle.std.proofs.Common.{◌≡◌, ℕ, refl, sym, subst, ap, ◌∙◌, List, [], ◌∷◌, ◌++◌, Bool, true, false}
use Rattle.oss_model.specs.Bodies.{Order, Start, child_start, stack_from, stage_act}
use Rattle.oss_model.specs.Bodies.Act.{Created}
use Rattle.oss_wave_laws.specs.Parts.{made_by}
use Rattle.oss_code.specs.declared.code.CodeParts.{CodeParts}
use Rattle.oss_machine.specs.Asks.{meant_order}
use Rattle.oss_machine.specs.Frames.{CodeScript}
use Rattle.oss_machine.specs.Machines.{asks}
use Rattle.oss_body.specs.declared.act.Act.{Act}
use Rattle.oss_body.specs.declared.act.Act.TheVariants as acts
use Rattle.oss_body.specs.declared.body.Body.{Body}
use Rattle.oss_body.specs.Acts.{act_seen, answer_to, creates}
use Rattle.oss_body.specs.Relation.{IsBody, pending_of}
use Rattle.oss_tree.specs.declared.output.Print.{Print}
use Rattle.oss_segment.specs.Made.{AddsWhen, AreNew, printed_by}
use Rattle.oss_segment.specs.Segments.{IsKeyed, with_print}

none_more : {A : Type 0} (xs : List A) → xs ++ [] ≡ xs
none_more [] = refl
none_more (x ∷ xs) = ap (λ (ys : List _). x ∷ ys) (none_more xs)

-- one more body that has done nothing
new_more : (code : CodeParts) (starts : List (Start CodeScript)) (bodies : List Body) (start : Start CodeScript) (b : Body) → AreNew code starts bodies → IsBody code start [] b → AreNew code (starts ++ (start ∷ [])) (bodies ++ (b ∷ []))
new_more code [] [] start b h k = (k, tt)
new_more code [] (c ∷ bodies) start b h k = absurd h
new_more code (s ∷ starts) [] start b h k = absurd h
new_more code (s ∷ starts) (c ∷ bodies) start b h k = (h.0, new_more code starts bodies start b h.1 k)

-- an act that creates a task
a_creation : (a : Act) → creates a ≡ true → (order : Order CodeScript) × (act_seen a ≡ Created order false)
a_creation (acts.Create creation false) e = (meant_order creation.order, refl)
a_creation _ e = absurd cc

-- and one that creates none
no_creation : (code : CodeParts) (start : Start CodeScript) (found : List ℕ) (a : Act) → creates a ≡ false → made_by (asks code) start found (act_seen a) ≡ []
no_creation code start found (acts.Create creation false) e = absurd cc
no_creation code start found _ e = refl

-- the bodies of the tasks that were made, with that of the next act
pub children_more : (code : CodeParts) (start : Start CodeScript) (found : List ℕ) (b : Body) (starts : List (Start CodeScript)) (old new : List Body) → IsBody code start found b
    → act_seen (pending_of b) ≡ stage_act (asks code) start found → AreNew code starts old → AddsWhen (creates (pending_of b)) code b old new → AreNew code (starts ++ made_by (asks code) start found (stage_act (asks code) start found)) new
children_more code start found b starts old new is seen h adds = go (creates (pending_of b)) refl adds
  where
    go : (t : Bool) → creates (pending_of b) ≡ t → AddsWhen t code b old new → AreNew code (starts ++ made_by (asks code) start found (stage_act (asks code) start found)) new
    go true e (child, is_more, is_child) =
        let o = a_creation (pending_of b) e in
        let k : stage_act (asks code) start found ≡ Created o.0 false = sym seen ∙ o.1 in
        rw (k, is_more) (new_more code starts old (child_start (stack_from (asks code) start found).base o.0) child h (is_child start found o.0 is k))
    go false e same =
        let k = no_creation code start found (pending_of b) e in
        rw (← seen, k, same) (subst (λ (xs : List (Start CodeScript)). AreNew code xs old) (sym (none_more starts)) h)

-- a creation finds nothing and prints nothing
pub finds_nothing : (a : Act) (v : ℕ) → creates a ≡ true → answer_to (act_seen a) v ≡ answer_to (act_seen a) 0
finds_nothing (acts.Create creation false) v e = refl
finds_nothing _ v e = absurd cc

pub prints_nothing : (a : Act) (prints : List Print) → creates a ≡ true → with_print a prints ≡ prints
prints_nothing (acts.Create creation false) prints e = refl
prints_nothing _ prints e = absurd cc

-- what an act prints stands behind the other prints
pub prints_more : (a : Act) (prints : List Print) → IsKeyed a → with_print a prints ≡ prints ++ printed_by (act_seen a)
prints_more (acts.Print key text) prints k = ap (λ (at_ : List ℕ). let p : Print = record { at = at_; text = text } in prints ++ p ∷ []) (sym (k key text refl))
prints_more _ prints k = sym (none_more prints)
