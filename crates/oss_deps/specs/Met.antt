-- What the accesses of a task wait for, by the ranges of its list.
-- Read against: weakinout(a) as task 1 of main, its child out(a[0;2]) as task 2, and in(a[0]) as task 4 of main. While nothing is given up, the access of task 4 is
-- barred at cell 0 by that of task 1, which stands before it; that of task 2 stands below another access, and bars nothing. The access of task 2 is met.
use Rattle.std.specs.Prelude.{◌≡◌, ℕ, ◌≤◌, ◌<◌, Bool, false, true, List}
use Rattle.oss_syntax.specs.declared.access.Access.{Access}
use Rattle.oss_syntax.specs.declared.access.Mode.TheVariants.{Read, Write}
use Rattle.oss_model.specs.Order.{IsIn}
use Rattle.oss_model.specs.Forest.{IsDone}
use Rattle.oss_deps.specs.declared.opened.Open.{Open}
use Rattle.oss_deps.specs.declared.want.Want.{Want}
use Rattle.oss_deps.specs.declared.want.Want.TheVariants.{ToWrite, ToRead}
use Rattle.oss_deps.specs.Opens.{AreOpens, HasOpened, IsChild, IsEarlier, mode_at, opened_forest}
use Rattle.oss_deps.specs.Columns.{AreColumns}
use Rattle.oss_deps.specs.Wants.{IsSatisfied, may_pass}
use Rattle.oss_deps.specs.Kept.{Kept, given_at}

-- What is wanted has come at each cell of a range.
abbrev pub AreClear : Kept → Want → Open → ℕ → ℕ → Type 0
AreClear kept want o lo hi = (c : ℕ) → lo ≤ c → c < hi → IsSatisfied (opened_forest kept.opens (given_at kept.pieces kept.columns) c) want o.task

-- What a strong read or write waits for has come.
pub record IsAccessMet (kept : Kept) (o : Open) (a : Access) : Type 0 where
  pub reads : a.strong ≡ true → a.mode ≡ Read → AreClear kept ToRead o a.range.lo a.range.hi
  pub writes : a.strong ≡ true → a.mode ≡ Write → AreClear kept ToWrite o a.range.lo a.range.hi

-- The same of each access of an entry.
abbrev pub AreAccessesMet : Kept → Open → Type 0
AreAccessesMet kept o = (a : Access) → IsIn a o.accesses → IsAccessMet kept o a

-- The lists stand for what was opened.
pub record IsStanding (kept : Kept) : Type 0 where
  pub opens_are : AreOpens kept.opens
  pub columns_are : AreColumns kept.opens kept.pieces kept.columns

-- The access of the task u to the cell stands before that of v, on its level or on one above, in a mode that may not be passed.
pub data IsBefore (opens : List Open) (c : ℕ) (want : Want) (u : ℕ) : ℕ → Type 0 where
  stands_here : {v : ℕ} (e : IsEarlier opens c u v) → may_pass want (mode_at c e.before) false ≡ false → IsBefore opens c want u v
  stands_above : {p v : ℕ} → IsChild opens c p v → IsBefore opens c want u p → IsBefore opens c want u v

-- It does, and is not done.
pub record IsBarred (opens : List Open) (given : ℕ → ℕ → Bool) (c : ℕ) (want : Want) (u v : ℕ) : Type 0 where
  pub opened : HasOpened opens c u
  pub undone : IsDone (opened_forest opens given c) u → ⊥
  pub before : IsBefore opens c want u v

-- The same at a cell of a range.
pub record IsBarredOver (kept : Kept) (want : Want) (o : Open) (lo hi u : ℕ) : Type 0 where
  pub cell : ℕ
  pub from : lo ≤ cell
  pub within : cell < hi
  pub barred : IsBarred kept.opens (given_at kept.pieces kept.columns) cell want u o.task
