-- A core of which no task may do anything stands still.
use Rattle.std.proofs.Common.{◌≡◌, ℕ, Bool, List, Some, ◌↔◌}
use Rattle.std.specs.Prelude.{IsTrue, slice_get}
use Rattle.oss_model.specs.Answers.{IsStopped}
use Rattle.oss_model.specs.Bodies.{Start}
use Rattle.oss_model.specs.Machine.{State}
use Rattle.oss_model.specs.declared.moving.Move.TheVariants as moves
use Rattle.oss_code.specs.declared.code.CodeParts.{CodeParts}
use Rattle.oss_machine.specs.Frames.{CodeScript}
use Rattle.oss_machine.specs.Machines.{asks}
use Rattle.oss_kept_tasks.specs.declared.held.Held.{Held}
use Rattle.oss_enabled_moves.specs.Enabled.{MayAnything, folds, gives, goes}
use Rattle.oss_core.specs.Kept.{IsCore, Kept}
use Rattle.oss_core.specs.Stops.{IsStill}
use Rattle.oss_core.proofs.StopLemmas.{still_each, still_stopped, stopped_still}

-- each way
pub still_is : (k : Kept) → ((v : ℕ) (held : Held) → slice_get k.tasks v ≡ Some held → MayAnything held k.tree.tasks k.seen v → ⊥) → IsStill k
still_is k f = still_each k (λ v held is h. f v held is (goes h)) (λ v c held is h. f v held is (gives c h)) (λ v c op held is h. f v held is (folds c op h))

pub still_all : (k : Kept) → IsStill k → (v : ℕ) (held : Held) → slice_get k.tasks v ≡ Some held → MayAnything held k.tree.tasks k.seen v → ⊥
still_all k still v held is (goes h) = still (moves.Step (record { 0 = v })) (record { held = held; is = is; goes = h })
still_all k still v held is (gives c h) = still (moves.Let (record { 0 = v }) c) (record { held = held; is = is; gives = h })
still_all k still v held is (folds c op h) = still (moves.Join (record { 0 = v }) c) (op, record { held = held; is = is; folds = h })

pub stopped_is : {code : CodeParts} {main : Start CodeScript} {first : List ℕ} {k : Kept} {s : State CodeScript} → IsCore code main first k s → {b : Bool} → (IsTrue b ↔ IsStill k) → (IsTrue b ↔ IsStopped (asks code) s)
stopped_is core h = (λ t. still_stopped core (h.0 t), λ f. h.1 (stopped_still core f))
