-- What a core can tell of the moves of a task by numbers, entries and flags alone.
-- Read against: tasks 1 and 2 of main, in this order. A taskwait of main is told where both are complete, a wait for the newest child where 2 is, and
-- taskwait on(x) where no access of one of them to x is left undone. A task with out(x) reduction(+: y), without the clause wait, whose body has ended, may give
-- up x and may not give up y; it may join y once no earlier access to y stands in its way, and then not again.
use Rattle.std.specs.Prelude.{◌≡◌, ℕ, ◌+◌, ◌⊎◌, Bool, true, false, List, [], slice_get, Some}
use Rattle.oss_syntax.specs.declared.access.Access.{Access}
use Rattle.oss_syntax.specs.declared.access.Op.{Op}
use Rattle.oss_syntax.specs.declared.access.Mode.TheVariants.{Fold}
use Rattle.oss_model.specs.Order.{IsIn}
use Rattle.oss_model.specs.Forest.{IsJoinSatisfied}
use Rattle.oss_model.specs.Rights.{Released}
use Rattle.oss_model.specs.Context.{right_of, in_clauses}
use Rattle.oss_model.specs.Bodies.{Program, Act, Body, stack_from, IsHalt}
use Rattle.oss_model.specs.Bodies.Act.{Awaited, Waited, WaitedOn}
use Rattle.oss_model.specs.Moves.{act_now, created_now, is_ended}
use Rattle.oss_deps.specs.declared.opened.Open.{Open}
use Rattle.oss_deps.specs.Opens.{access_at, opened_forest, IsMet, AreChildrenDone}
use Rattle.oss_core.specs.Standing.{IsLinked}

module _ {S B : Type 0} (P : Program S) (body : B → Body S) (bodies : List B) (opens : List Open) (given : ℕ → ℕ → Bool) (Complete : ℕ → Type 0) where
  -- Each child of the task is complete.
  abbrev pub ChildrenComplete : ℕ → Type 0
  ChildrenComplete v = (o : Open) → IsIn o opens → o.parent ≡ v → Complete o.task

  -- What the act waits for has happened.
  abbrev pub IsWaitTold : ℕ → B → Act S → Type 0
  IsWaitTold v one Waited = ChildrenComplete v
  IsWaitTold v one Awaited = (o : Open) → IsIn o opens → o.parent ≡ v → (l : IsLinked body bodies o) → l.child + 1 ≡ created_now P (body one) → Complete o.task
  IsWaitTold v one (WaitedOn named) = (c : ℕ) → in_clauses named c ≡ true → AreChildrenDone opens given v c
  IsWaitTold v one _ = Unit {0}

  -- The task may act.
  pub record IsEnabled (v : ℕ) : Type 0 where
    pub one : B
    pub is : slice_get bodies v ≡ Some one
    pub goes : IsHalt (act_now P (body one)) → ⊥
    pub met : (body one).found ≡ [] → (v ≡ 0) ⊎ IsMet opens given v
    pub waits : IsWaitTold v one (act_now P (body one))

  -- The task has an entry with this access to the cell.
  pub record HasEntry (v c : ℕ) (a : Access) : Type 0 where
    pub entry : Open
    pub listed : IsIn entry opens
    pub number : entry.task ≡ v
    pub at_ : access_at entry.accesses c ≡ Some a

  -- The clause wait of the task is met.
  abbrev pub IsClauseTold : ℕ → B → Type 0
  IsClauseTold v one = (body one).start.order.wait ≡ true → ChildrenComplete v

  -- The task may give up the cell.
  pub record MayLet (v c : ℕ) : Type 0 where
    pub one : B
    pub is : slice_get bodies v ≡ Some one
    pub access : Access
    pub has : HasEntry v c access
    pub no_fold : (op : Op) → access.mode ≡ Fold op → access.strong ≡ true → ⊥
    pub kept : given v c ≡ false
    pub gone : (right_of (stack_from P (body one).start (body one).found).base.context c ≡ Released) ⊎ ((is_ended P (body one) ≡ true) × IsClauseTold v one)

  -- The slot of the task may be joined into the cell.
  pub record MayJoin (v c : ℕ) (op : Op) : Type 0 where
    pub one : B
    pub is : slice_get bodies v ≡ Some one
    pub access : Access
    pub has : HasEntry v c access
    pub fold : access.mode ≡ Fold op
    pub strong : access.strong ≡ true
    pub kept : given v c ≡ false
    pub ended : is_ended P (body one) ≡ true
    pub wait : IsClauseTold v one
    pub satisfied : IsJoinSatisfied (opened_forest opens given c) op v
