-- A pass: each task in point order, and of each task its cells in rising order, gives up or joins what it may at its turn. A cell is given up at
-- the end of its task or by its early release, and a slot is joined when its turn has come (OmpSs-2, release and reduction clauses; Perez,
-- Beltran, Labarta and Ayguadé, IPDPS 2017); the order of a pass is this language's own.
-- Read against: a task 0.0 with weakinout(a) wait over four cells that has ended, and its children 0.0.0 with out(a[0;2]) and 0.0.1 with
-- out(a[2;2]), which have ended too. The first pass comes to 0.0 first, whose children are not complete, and then gives up the cells 0 and 1 of
-- 0.0.0 and 2 and 3 of 0.0.1; the second gives up the four cells of 0.0, and the third does nothing. Without the clause wait the cells of 0.0
-- were given up in the pass in which its body had ended. Four tasks of one reduction(+: s) that have ended join their slots in one pass, one
-- after the other. And a task with out(a) over four cells that has released a[0:1] gives up the cells 0 and 1 in the first pass behind, and 2
-- and 3 in one behind its end.
use Rattle.std.specs.Prelude.{◌≡◌, ℕ, ◌<◌, Bool, true, false, List, [], ◌∷◌, ◌⊎◌}
use Rattle.oss_syntax.specs.declared.access.Op.{Op}
use Rattle.oss_model.specs.Order.{IsIn, IsEarlierKey}
use Rattle.oss_model.specs.Bodies.{Program}
use Rattle.oss_model.specs.Machine.{Task, State, At, Owes}
use Rattle.oss_model.specs.Moves.{CanLet, LetGo, CanJoin, Joined}

-- A cell of a task.
pub record Place : Type 0 where
  pub path : List ℕ
  pub cell : ℕ

-- A pass comes to the first place before the second: its task stands before in point order, or it is an earlier cell of the same task.
abbrev pub IsEarlierPlace : Place → Place → Type 0
IsEarlierPlace a b = IsEarlierKey a.path b.path ⊎ ((a.path ≡ b.path) × (a.cell < b.cell))

-- There is such a task, and it has such a cell. Main has none.
pub record IsPlace {S : Type 0} (s : State S) (place : Place) : Type 0 where
  pub task : Task S
  pub at_ : At s place.path task
  pub owes : Owes place.path task.body.start.context place.cell

-- The places stand in the order of a pass.
abbrev pub AreSorted : List Place → Type 0
AreSorted [] = Unit {0}
AreSorted (a ∷ rest) = ((b : Place) → IsIn b rest → IsEarlierPlace a b) × AreSorted rest

-- These are the places to which a pass comes.
pub record ArePlaces {S : Type 0} (s : State S) (places : List Place) : Type 0 where
  pub sorted : AreSorted places
  pub only : (a : Place) → IsIn a places → IsPlace s a
  pub all : (a : Place) → IsPlace s a → IsIn a places

-- A cell that a task has given up, and whether its slot was joined into it.
pub record GivenUp : Type 0 where
  pub path : List ℕ
  pub cell : ℕ
  pub joined : Bool

-- The cell can be neither given up nor joined now.
pub record IsKept {S : Type 0} (P : Program S) (s : State S) (place : Place) : Type 0 where
  pub no_let : (t : Task S) → CanLet P s place.path place.cell t → ⊥
  pub no_join : (op : Op) (t : Task S) → CanJoin P s place.path place.cell op t → ⊥

-- One place after the other: what may be given up or joined at its turn is.
pub data Visits {S : Type 0} (P : Program S) : State S → List Place → List GivenUp → State S → Type 0 where
  visits_none : {s : State S} → Visits P s [] [] s
  keeps : {s n : State S} {place : Place} {rest : List Place} {done : List GivenUp} → IsKept P s place → Visits P s rest done n → Visits P s (place ∷ rest) done n
  gives : {s m n : State S} {place : Place} {t : Task S} {rest : List Place} {done : List GivenUp} → CanLet P s place.path place.cell t → LetGo s place.path place.cell t m → Visits P m rest done n
      → Visits P s (place ∷ rest) (record { path = place.path; cell = place.cell; joined = false } ∷ done) n
  merges : {s m n : State S} {place : Place} {op : Op} {t : Task S} {rest : List Place} {done : List GivenUp} → CanJoin P s place.path place.cell op t → Joined P s place.path place.cell op t m
      → Visits P m rest done n → Visits P s (place ∷ rest) (record { path = place.path; cell = place.cell; joined = true } ∷ done) n

-- The pass from one state to the other gives up these cells.
pub record IsPass {S : Type 0} (P : Program S) (s : State S) (done : List GivenUp) (n : State S) : Type 0 where
  pub places : List Place
  pub places_are : ArePlaces s places
  pub visits : Visits P s places done n

-- Passes, until one does nothing.
pub data Passes {S : Type 0} (P : Program S) : State S → List (List GivenUp) → State S → Type 0 where
  idles : {s n : State S} → IsPass P s [] n → Passes P s [] n
  passes : {s m n : State S} {first : GivenUp} {more : List GivenUp} {rest : List (List GivenUp)} → IsPass P s (first ∷ more) m → Passes P m rest n → Passes P s ((first ∷ more) ∷ rest) n
