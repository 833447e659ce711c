-- What the calls ask that find out for which other task a task waits.
-- Read against: main has created a, with out(x), and b, with in(x), and waits; a runs. Main's act, a wait for its children, waits for a; b, which has not begun, is barred by a, whose access
-- to x is not done, and its act, a load of x, waits for nothing. So a task with the body of b is not free, and one with that of a is.
use Rattle.std.specs.Prelude.{◌≡◌, ℕ, true, false, List}
use Rattle.oss_syntax.specs.declared.access.Range.{Range}
use Rattle.oss_model.specs.Order.{IsIn}
use Rattle.oss_body.specs.declared.act.Act.{Act}
use Rattle.oss_body.specs.declared.act.Act.TheVariants as acts
use Rattle.oss_body.specs.declared.body.Body.{Body}
use Rattle.oss_body.specs.Acts.{goes_on}
use Rattle.oss_body.specs.Relation.{has_begun, is_over, pending_of}
use Rattle.oss_tree.specs.declared.task.Task.{Task as TreeTask}
use Rattle.oss_tree.specs.Tasks.{IsComplete}
use Rattle.oss_deps.specs.Hindrances.{HasUndoneChild, Hinders}
use Rattle.oss_deps.specs.Seen.{Seen}
use Rattle.oss_enabled_moves.specs.Enabled.{MayGoOn}
use Rattle.oss_enabled_moves.specs.Reasons.{IsChildIn, IsNewestIn, IsReason}

-- The second task is the newest child of the first, and is not complete.
pub record IsNewestOpen (tree : List TreeTask) (v u : ℕ) : Type 0 where
  pub newest : IsNewestIn tree v u
  pub left : IsComplete tree u → ⊥

-- It is a child of the first with an access to a cell of these ranges that is not done.
pub record HasUndoneIn (seen : Seen) (v : ℕ) (ranges : List Range) (u : ℕ) : Type 0 where
  pub one : Range
  pub listed : IsIn one ranges
  pub child : HasUndoneChild seen.opens seen.given v one.lo one.hi u

-- An act of the first task waits for the second.
pub data IsAwaited (tree : List TreeTask) (seen : Seen) (v : ℕ) (act : Act) (u : ℕ) : Type 0 where
  newest : act ≡ acts.Await → IsNewestOpen tree v u → IsAwaited tree seen v act u
  child : act ≡ acts.Wait → IsChildIn tree v u → (IsComplete tree u → ⊥) → IsAwaited tree seen v act u
  use_ : (ranges : List Range) → act ≡ acts.WaitOn ranges → HasUndoneIn seen v ranges u → IsAwaited tree seen v act u

-- An access of the second task stands in the way of the first, which has this body, before its first act.
pub record IsBarred (b : Body) (seen : Seen) (v u : ℕ) : Type 0 where
  pub begun : has_begun b ≡ false
  pub not_main : v ≡ 0 → ⊥
  pub hinders : Hinders seen.opens seen.given v u

-- A task with this body may make its next act, or has none.
pub data GoesFree (b : Body) (tree : List TreeTask) (seen : Seen) (v : ℕ) : Type 0 where
  steps : MayGoOn b tree seen v → GoesFree b tree seen v
  over : is_over b ≡ true → GoesFree b tree seen v
  fails : goes_on (pending_of b) ≡ false → GoesFree b tree seen v

-- A task with this body has not ended, stands before no fault, and because of the second its next act may not be made as yet.
pub record IsHeldBack (b : Body) (tree : List TreeTask) (seen : Seen) (v u : ℕ) : Type 0 where
  pub running : is_over b ≡ false
  pub goes : goes_on (pending_of b) ≡ true
  pub reason : IsReason tree seen v b u
