-- What is noted on the way of a run, and what an act makes of it.
-- Read against: behind the creation of a task with `out(x)` by main that task is noted, with the line, the instruction with which its body begins and the access, and main above it; of main it is noted that cells are lent to child 0. Behind
-- the end of the task main alone is there, with this note, and behind a taskwait without it. A child of a false `if`, and one that is included, leave no note.
use Rattle.std.specs.Prelude.{◌≡◌, ◌<◌, ◌⊎◌, ℕ, ◌&&◌, Bool, true, false, not, List, [], ◌∷◌, ◌++◌, length}
use Rattle.oss_syntax.specs.declared.access.Access.{Access}
use Rattle.oss_syntax.specs.declared.access.Range.{Range}
use Rattle.oss_judge.specs.Joined.{IsRising, held_mark, held_right}
use Rattle.oss_model.specs.Context.{Context, mark_of, right_of}
use Rattle.oss_model.specs.Rights.{mark_from, right_from}
use Rattle.oss_body.specs.declared.act.Act.{Act}
use Rattle.oss_body.specs.declared.act.Act.TheVariants as acts
use Rattle.oss_body.specs.declared.act.Creation.{Creation}
use Rattle.oss_body.specs.Acts.{context_of}
use Rattle.oss_explain.specs.declared.begun.Begun.{Begun}
use Rattle.oss_explain.specs.declared.begun.Child.{Child}
use Rattle.oss_explain.specs.declared.begun.Noted.{Noted}
use Rattle.oss_explain.specs.declared.begun.Noted.TheVariants as noted
use Rattle.oss_explain.specs.declared.ledger.Ledger.{Ledger}

-- The accesses are those with which a task starts that has this context then.
pub record AreAccesses (accesses : List Access) (x : Context) : Type 0 where
  pub rights : (c : ℕ) → right_from false accesses c ≡ held_right (right_of x c)
  pub marks : (c : ℕ) → mark_from false accesses c ≡ held_mark (right_of x c) (mark_of x c)
  pub rising : IsRising accesses

-- Main at the beginning.
pub record IsFirst (main : Begun) : Type 0 where
  pub point : main.point ≡ 0 ∷ []
  pub accesses : main.accesses ≡ []
  pub released : main.released ≡ []
  pub noted : main.noted ≡ []

-- The new task of a creation on this line by a task that has created so many before.
pub record IsChild (creation : Creation) (included : Bool) (line number : ℕ) (creator child : Begun) : Type 0 where
  pub point : child.point ≡ creator.point ++ number ∷ []
  pub on_line : child.line ≡ line
  pub entry : child.entry ≡ creation.order.entry
  pub is_included : child.included ≡ included
  pub accesses : AreAccesses child.accesses (context_of creation)
  pub released : child.released ≡ []
  pub noted : child.noted ≡ []

-- The note that cells are lent to the child of a creation.
pub record IsChildNoted (creation : Creation) (line number : ℕ) (child : Child) : Type 0 where
  pub number_is : child.number ≡ number
  pub on_line : child.line ≡ line
  pub entry : child.entry ≡ creation.order.entry
  pub accesses : AreAccesses child.accesses (context_of creation)

-- The ledger with these notes of the task that acts.
abbrev pub with_noted : List Noted → Ledger → Ledger
with_noted ns l = record l { top = record l.top { noted = ns } }

-- Of the task that acts it is noted that cells are lent to the child of a creation.
pub record IsLent (creation : Creation) (line number : ℕ) (old new : Ledger) : Type 0 where
  pub child : Child
  pub is : IsChildNoted creation line number child
  pub added : new ≡ with_noted (old.top.noted ++ noted.Lent child ∷ []) old

-- The same where cells are lent, and no note where none are.
abbrev pub IsLentWhen : Bool → Creation → ℕ → ℕ → Ledger → Ledger → Type 0
IsLentWhen true creation line number old new = IsLent creation line number old new
IsLentWhen false creation line number old new = new ≡ old

-- whether cells are lent to the child of a creation
abbrev pub lends : Creation → Bool → Bool
lends creation included = not included && creation.order.when

-- The task that acts has created one, which acts.
pub record IsBegun (creation : Creation) (included : Bool) (line number : ℕ) (old new : Ledger) : Type 0 where
  pub between : Ledger
  pub lent : IsLentWhen (lends creation included) creation line number old between
  pub child : IsChild creation included line number between.top new.top
  pub above : new.above ≡ between.above ++ between.top ∷ []

-- The task that acts has ended, and its creator acts; or it is main.
abbrev pub IsEnded : Ledger → Ledger → Type 0
IsEnded old new = (old.above ≡ new.above ++ new.top ∷ []) ⊎ ((old.above ≡ []) × (new ≡ old))

-- The task that acts waits for the cells of these ranges.
abbrev pub IsWaitingOn : List Range → Ledger → Ledger → Type 0
IsWaitingOn ranges old new = new ≡ with_noted (old.top.noted ++ noted.WaitedOn ranges ∷ []) old

-- The task that acts releases what these clauses name.
abbrev pub IsReleasing : List Access → ℕ → Ledger → Ledger → Type 0
IsReleasing clauses line old new = new ≡ record old { top = record old.top { released = old.top.released ++ record { line = line; clauses = clauses } ∷ [] } }

-- What an act makes of it.
abbrev pub IsNoted : Act → ℕ → ℕ → Ledger → Ledger → Type 0
IsNoted (acts.Create creation included) line created old new = IsBegun creation included line created old new
IsNoted acts.End line created old new = IsEnded old new
IsNoted acts.Wait line created old new = new ≡ with_noted [] old
IsNoted (acts.WaitOn ranges) line created old new = IsWaitingOn ranges old new
IsNoted (acts.Release clauses included) line created old new = IsReleasing clauses line old new
IsNoted _ line created old new = new ≡ old

-- The point of a task that creates is short enough to be one of a task.
abbrev pub HasRoom : Act → Begun → Type 0
HasRoom (acts.Create creation included) b = length b.point < 66
HasRoom _ b = Unit {0}
