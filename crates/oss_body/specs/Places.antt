-- What the judge knows of a task that runs in a body, and where the task stands among all tasks.
-- Read against: main has its context and the point 0, and what it prints after one creation has the key 0.1.
use Rattle.std.specs.Prelude.{◌≡◌, ℕ, Bool, List, [], ◌∷◌, ◌++◌, reverse, Option, Some}
use Rattle.oss_machine.specs.Machines.{Standing}
use Rattle.oss_model.specs.Bodies.{Frame as Meant}
use Rattle.oss_model.specs.Context.{Context}
use Rattle.oss_model.specs.Order.{written}

-- A task as the judge knows it: its context, and its point as it is written. Of main: its context, and 0.
pub record Placed : Type 0 where
  pub context : Context
  pub path : List ℕ

-- The same of a task of the definitions: at the path `1 ∷ []` its point is 0, 1.
abbrev pub place_of : {S : Type 0} → Meant S → Placed
place_of f = record { context = f.context; path = written f.path }

-- The path or the key that is written so: of 0, 2, 7 it is `7 ∷ 2 ∷ []`.
abbrev pub unwritten : List ℕ → List ℕ
unwritten [] = []
unwritten (n ∷ rest) = reverse rest

-- The key at which a task acts there: behind two creations of main it is 0, 2.
abbrev pub key_at : Placed → List ℕ
key_at p = p.path ++ p.context.created ∷ []

-- Where a key is kept, it is that at which the task acts.
abbrev pub IsKey : Option (List ℕ) → Placed → Type 0
IsKey key p = (k : List ℕ) → key ≡ Some k → k ≡ key_at p

-- One task of a body: its machine as it stands, what the judge knows of the task, and whether an await stands before its next ask.
pub record Framed : Type 0 where
  pub machine : Standing
  pub place : Placed
  pub awaits : Bool
