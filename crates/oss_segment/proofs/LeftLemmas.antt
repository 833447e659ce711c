-- Behind each act of its part less is left to do for a body.
use Rattle.std.proofs.Common.{◌≡◌, ◌≢◌, ℕ, ◌<◌, ◌⊎◌, inl, inr, refl, List, [], ◌∷◌, arith, false}
use Rattle.oss_model.specs.Bodies.{Act, IsHalt, Order, Start, stage_act}
use Rattle.oss_model.specs.Bodies.Act.{Created}
use Rattle.oss_model.specs.Machine.{Task}
use Rattle.oss_model.proofs.PotentialLemmas.{creation_falls}
use Rattle.oss_code.specs.declared.code.CodeParts.{CodeParts}
use Rattle.oss_machine.specs.Frames.{CodeScript}
use Rattle.oss_machine.specs.Machines.{asks}
use Rattle.oss_machine.proofs.LiveTheorem.{lively}
use Rattle.oss_body.specs.declared.body.Body.{Body as Kept}
use Rattle.oss_body.specs.Left.{body_left}
use Rattle.oss_body.specs.Relation.{IsBody}
use Rattle.oss_body.proofs.LeftLemmas as bodies
use Rattle.oss_body.proofs.LeftLemmas.{left_is}

-- a task with this body
abbrev task_of : Start CodeScript → List ℕ → Task CodeScript
task_of start found = record { body = record { start = start; found = found }; given = [] }

-- an act is the creation of a task that is not included, or none
is_creation : (a : Act CodeScript) → ((o : Order CodeScript) × (a ≡ Created o false)) ⊎ ((o : Order CodeScript) → a ≢ Created o false)
is_creation (Created o false) = inl (o, refl)
is_creation _ = inr (λ o e. cc)

-- behind an act that is no halt there is less left
pub left_falls : (code : CodeParts) (start : Start CodeScript) (found : List ℕ) (v : ℕ) (old new : Kept) → IsBody code start found old → IsBody code start (v ∷ found) new
    → (IsHalt (stage_act (asks code) start found) → ⊥) → body_left code new < body_left code old
left_falls code start found v old new i j alive = go (is_creation (stage_act (asks code) start found))
  where
    go : ((o : Order CodeScript) × (stage_act (asks code) start found ≡ Created o false)) ⊎ ((o : Order CodeScript) → stage_act (asks code) start found ≢ Created o false) → body_left code new < body_left code old
    go (inl c) =
        let x = left_is code (task_of start found).body old i in
        let y = left_is code (record { start = start; found = v ∷ found }) new j in
        let l = creation_falls (asks code) (lively code) (task_of start found) v c.0 c.1 in
        omega (arith, x, y, l)
    go (inr n) = bodies.left_falls code (task_of start found) v old new i j alive n
