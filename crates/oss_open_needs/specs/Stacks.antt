-- The open tasks of a run: the one that acts, and its creators, the nearest first.
-- Read against: main creates a task with `weakinout(x)`, which creates one with `in(x)`. That one acts, and two are above it: the first task, and main. It stores into x and ends: it lacks `out(x)`, and is mended with `inout(x)`. The first task acts then, and has asked of x the creation of a task
-- with `inout(x)`, for which its own clause will do. When it ends, main acts, and has asked the creation of one with a weak `inout(x)`. Main's own end closes nothing.
use Rattle.std.specs.Prelude.{Bool, List, [], ◌∷◌, Option, Some, None, reverse}
use Rattle.oss_needs.specs.declared.clause.Given.TheVariants as given
use Rattle.oss_task_needs.specs.Asking.{Asked, asks_for, nothing_asked}
use Rattle.oss_task_needs.specs.Mends.{IsMending}
use Rattle.oss_task_needs.specs.declared.mending.Mending.{Mending}
use Rattle.oss_open_needs.specs.declared.open_needs.OpenNeeds.{OpenNeeds}
use Rattle.oss_open_needs.specs.declared.open_task.OpenTask.{OpenTask}
use Rattle.oss_open_needs.specs.Opening.{IsOpen, Open, asking, mended_of, opened}
use Rattle.oss_syntax.specs.declared.access.Access.{Access}

-- These are kept of these tasks, one by one.
abbrev pub AreOpen : List Open → List OpenTask → Type 0
AreOpen [] [] = Unit {0}
AreOpen (t ∷ ts) (k ∷ ks) = IsOpen t k × AreOpen ts ks
AreOpen _ _ = ⊥

-- The task acts, and below these it was created.
pub record AreTasks (acting : Open) (above : List Open) (n : OpenNeeds) : Type 0 where
  pub current : IsOpen acting n.current
  pub older : AreOpen above (reverse n.above)

-- No clause says anything of main, and nothing is ever lacking of it.
abbrev pub main : Open
main = record { given = λ c. given.Nothing; asked = nothing_asked }

-- What the task that acts asks has become this.
abbrev pub Goes : (Asked → Asked) → OpenNeeds → OpenNeeds → Type 0
Goes up old new = (acting : Open) (above : List Open) → AreTasks acting above old → AreTasks (asking up acting) above new

-- It creates a task with these clauses, which acts from then on.
abbrev pub Opens : Bool → List Access → OpenNeeds → OpenNeeds → Type 0
Opens final clauses old new = (acting : Open) (above : List Open) → AreTasks acting above old → AreTasks (opened final clauses) (acting ∷ above) new

-- The task that acts has ended, and its creator acts, which asks for it what its clauses say once they are mended. Of main nothing is closed.
abbrev pub IsClosedTo : Open → List Open → OpenNeeds → Option Mending → Type 0
IsClosedTo acting [] new None = AreTasks acting [] new
IsClosedTo acting (creator ∷ above) new (Some m) = IsMending acting.given acting.asked m × AreTasks (asking (asks_for (mended_of acting)) creator) above new
IsClosedTo _ _ new _ = ⊥

abbrev pub Closes : OpenNeeds → OpenNeeds → Option Mending → Type 0
Closes old new closed = (acting : Open) (above : List Open) → AreTasks acting above old → IsClosedTo acting above new closed
