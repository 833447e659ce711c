-- For which other task a task waits: what the calls find of a body is so of the task.
use Rattle.std.proofs.Common.{◌≡◌, ℕ, Option, Some, None}
use Rattle.std.specs.Prelude.{MatchOption, slice_get}
use Rattle.oss_model.specs.declared.task_no.TaskNo.{TaskNo}
use Rattle.oss_kept_tasks.specs.declared.held.Held.{Held}
use Rattle.oss_enabled_moves.specs.Hindering as hindering
use Rattle.oss_enabled_moves.specs.Hindering.{GoesFree, IsHeldBack}
use Rattle.oss_core.specs.Hindered as hindered
use Rattle.oss_core.specs.Hindered.{IsFree, IsHindered}
use Rattle.oss_core.specs.Kept.{Kept}

-- a task with this body
pub hindrance_told : (k : Kept) (v : ℕ) (held : Held) → slice_get k.tasks v ≡ Some held → (r : Option TaskNo) → MatchOption r (GoesFree held.body k.tree.tasks k.seen v) (λ u. IsHeldBack held.body k.tree.tasks k.seen v u.0)
    → MatchOption r (IsFree k v) (λ u. IsHindered k v u.0)
hindrance_told k v held is None (hindering.steps may) = hindered.steps (record { held = held; is = is; goes = may })
hindrance_told k v held is None (hindering.over e) = hindered.over held is e
hindrance_told k v held is None (hindering.fails e) = hindered.fails held is e
hindrance_told k v held is (Some u) h = record { held = held; is = is; running = h.running; goes = h.goes; reason = h.reason }
