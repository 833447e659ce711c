-- What the acts of a part make: the bodies of new tasks, and output.
-- Read against: a main that creates two tasks, prints `x` between the two, and waits: its part makes two bodies, which have done nothing, the first
-- task's first, and one print, `x` at 0.1. A task that is included is in neither: it runs in the body that includes it, and prints for it.
use Rattle.std.specs.Prelude.{◌≡◌, ℕ, zero, suc, Bool, true, false, List, [], ◌∷◌, ◌++◌}
use Rattle.oss_model.specs.Order.{written}
use Rattle.oss_model.specs.Bodies.{Act as Meant, Order, Program, Start, child_start, stack_from, stage_act}
use Rattle.oss_model.specs.Bodies.Act.{Created, Printed}
use Rattle.oss_wave_laws.specs.Parts.{Stage, act_after}
use Rattle.oss_code.specs.declared.code.CodeParts.{CodeParts}
use Rattle.oss_machine.specs.Frames.{CodeScript}
use Rattle.oss_machine.specs.Machines.{asks}
use Rattle.oss_body.specs.declared.body.Body.{Body}
use Rattle.oss_body.specs.Relation.{IsBody}
use Rattle.oss_tree.specs.declared.output.Print.{Print}

-- The bodies are those of tasks with these starts, one by one, and have done nothing: as many as there are starts.
abbrev pub AreNew : CodeParts → List (Start CodeScript) → List Body → Type 0
AreNew code [] [] = Unit {0}
AreNew code (start ∷ starts) (b ∷ bodies) = IsBody code start [] b × AreNew code starts bodies
AreNew code [] (b ∷ bodies) = ⊥
AreNew code (start ∷ starts) [] = ⊥

-- The body is that of the task which the other's next act creates, and has done nothing.
abbrev pub IsChildOf : CodeParts → Body → Body → Type 0
IsChildOf code b child =
    (start : Start CodeScript) (found : List ℕ) (order : Order CodeScript) → IsBody code start found b → stage_act (asks code) start found ≡ Created order false
    → IsBody code (child_start (stack_from (asks code) start found).base order) [] child

-- Where the body's next act creates a task, as this test tells, the task's body stands behind those before; else there are no more.
abbrev pub AddsWhen : Bool → CodeParts → Body → List Body → List Body → Type 0
AddsWhen true code b old new = (child : Body) × (new ≡ old ++ child ∷ []) × IsChildOf code b child
AddsWhen false code b old new = new ≡ old

-- What an act prints, with its key: the print of `x` that main makes after one creation is `x` at 0.1. No other act prints.
abbrev pub printed_by : {S : Type 0} → Meant S → List Print
printed_by (Printed key text) = record { at = written key; text = text } ∷ []
printed_by _ = []

-- What so many acts print, in order.
unfoldable pub printed_after : {S : Type 0} → Program S → Start S → Stage → ℕ → List Print
printed_after P start s zero = []
printed_after P start s (suc n) = printed_after P start s n ++ printed_by (act_after P start s n)
