-- What is found at a fault of a task, told by its context and by what is noted of it.
-- Read against: a task whose read of a cell is Lent has lent the cell for writing, and a child is noted that hinders the read; one that touches a cell which it has released has a note of the release.
use Rattle.std.specs.Prelude.{◌≡◌, ◌≤◌, ◌<◌, ◌⊎◌, ◌||◌, ℕ, ◌++◌, Bool, true, List, [], ◌∷◌, length, Some, map}
use Rattle.oss_syntax.specs.declared.fault.FaultKind.{FaultKind}
use Rattle.oss_syntax.specs.declared.fault.FaultKind.TheVariants as fault
use Rattle.oss_syntax.specs.declared.tree.program.Item.{Item}
use Rattle.oss_model.specs.Bodies.{Ask, Await, Begin, Create, End, Fails, Fold, Frame, Print, Program, Read, Release, Tick, Wait, WaitOn, Write}
use Rattle.oss_model.specs.Context.{Context, create_fault, creation_fault, in_clauses, lent_of, mark_of, release_fault, right_of, tick_fault, wait_on_fault}
use Rattle.oss_model.specs.Machine.{State}
use Rattle.oss_model.specs.Order.{IsIn, written}
use Rattle.oss_model.specs.Rights.{Folds, Reads, Touch, Writes, is_released, touch_fault}
use Rattle.oss_machine.specs.Frames.{CodeScript}
use Rattle.oss_explain.specs.declared.begun.Begun.{Begun}
use Rattle.oss_explain.specs.declared.begun.Child.{Child}
use Rattle.oss_explain.specs.declared.begun.ReleasedAt.{ReleasedAt}
use Rattle.oss_explanation.specs.declared.explained.Failing.{Failing}
use Rattle.oss_explanation.specs.declared.explained.Later.{Later}
use Rattle.oss_explanation.specs.declared.explained.Reason.{Reason}
use Rattle.oss_explanation.specs.declared.explained.Reason.TheVariants as reasons
use Rattle.oss_explanation.specs.declared.explained.Touching.{Touching}
use Rattle.oss_explanation.specs.declared.explained.Touching.TheVariants as touching
use Rattle.oss_explanation.specs.declared.explained.Word.{Word}
use Rattle.oss_explanation.specs.Explanations.{IsReason}
use Rattle.oss_explanation.specs.Held.{AreFailing}
use Rattle.oss_explanation.specs.Lives.{told_later}
use Rattle.oss_explain.specs.Noting.{IsRight, hindering}
use Rattle.oss_explain.specs.Owned.{own_of}
use Rattle.oss_explain.specs.Ways.{entry_of}

-- the touch that is told so
abbrev pub touch_seen : Touching → Touch
touch_seen touching.Reading = Reads
touch_seen touching.Writing = Writes
touch_seen (touching.Folding o) = Folds o

-- An ask of a task with this context comes to a fault of this kind. (A silent ask that is left counts as a creation too many.)
abbrev pub IsFaultOf : {S : Type 0} → Context → Ask S → FaultKind → Type 0
IsFaultOf x Tick kind = tick_fault x ≡ Some kind
IsFaultOf x Begin kind = (create_fault x ≡ Some kind) ⊎ (kind ≡ fault.TooManyTasks)
IsFaultOf x Await kind = kind ≡ fault.TooManyTasks
IsFaultOf x (Read c) kind = touch_fault (right_of x c) (lent_of x c) (mark_of x c) Reads ≡ Some kind
IsFaultOf x (Write c v) kind = touch_fault (right_of x c) (lent_of x c) (mark_of x c) Writes ≡ Some kind
IsFaultOf x (Fold c o v) kind = touch_fault (right_of x c) (lent_of x c) (mark_of x c) (Folds o) ≡ Some kind
IsFaultOf x (Create o) kind = creation_fault x o.clauses (x.final || o.last) ≡ Some kind
IsFaultOf x (WaitOn named) kind = wait_on_fault x named ≡ Some kind
IsFaultOf x (Release clauses) kind = release_fault x clauses ≡ Some kind
IsFaultOf x (Fails k) kind = k ≡ kind
IsFaultOf x _ kind = ⊥

-- A release of the cell is noted.
abbrev pub IsNotedReleased : List ReleasedAt → ℕ → Type 0
IsNotedReleased rs c = (r : ReleasedAt) × (IsIn r rs × (in_clauses r.clauses c ≡ true))

-- What a task with this context has released is noted, and who has what it has lent. No more children hinder a touch than a task may create, and the point of the task is one of a task.
pub record IsAccounted (x : Context) (b : Begun) : Type 0 where
  pub released : (c : ℕ) → is_released (right_of x c) ≡ true → IsNotedReleased b.released c
  pub lent : (c : ℕ) (touch : Touch) → touch_fault (right_of x c) (lent_of x c) (mark_of x c) touch ≡ Some fault.Lent → hindering c touch b.noted ≡ [] → ⊥
  pub few : (c : ℕ) (touch : Touch) → length (hindering c touch b.noted) ≤ 65535
  pub short : length b.point < 66

-- This is the reason of each task with this context that asks this, if what is noted of the task is right.
abbrev pub IsReasonOf : List Item → Context → Begun → FaultKind → Ask CodeScript → Reason → Type 0
IsReasonOf all x b kind ask reason =
    (P : Program CodeScript) (s : State CodeScript) (f : Frame CodeScript) (count : ℕ) → f.context ≡ x → IsRight P s f.path count b → IsReason P entry_of s all f (own_of b.accesses) kind ask reason

-- The cell was released on this line.
abbrev pub IsReleasedOn : List ReleasedAt → ℕ → ℕ → Type 0
IsReleasedOn rs c line = (r : ReleasedAt) × (IsIn r rs × (in_clauses r.clauses c ≡ true) × (r.line ≡ line))

-- The reason is that these cells have been released, the first of them so.
pub record IsReleasedOf (all : List Item) (test : ℕ → Bool) (rs : List ReleasedAt) (reason : Reason) : Type 0 where
  pub line : ℕ
  pub cells : Failing
  pub is : reason ≡ reasons.Released line cells
  pub failing : AreFailing all test cells
  pub on_line : IsReleasedOn rs cells.first line

-- the number of a child
abbrev pub number_of : Child → ℕ
number_of k = k.number

-- The reason is that the first of these children has the cell, and those after it, of a task at this point.
pub record IsLentTo (cell : ℕ) (point : List ℕ) (ks : List Child) (reason : Reason) : Type 0 where
  pub first : Child
  pub others : List Child
  pub are : ks ≡ first ∷ others
  pub word : Word
  pub word_is : own_of first.accesses cell ≡ Some word
  pub later : Later
  pub later_is : (path : List ℕ) → point ≡ written path → later ≡ told_later path (map number_of others)
  pub is : reason ≡ reasons.Lent cell (point ++ first.number ∷ []) first.line first.entry word later

-- An ask that may come to a fault: each but a taskwait, a print and the end.
abbrev pub MayFail : {S : Type 0} → Ask S → Type 0
MayFail Wait = ⊥
MayFail (Print text) = ⊥
MayFail End = ⊥
MayFail _ = Unit {0}
