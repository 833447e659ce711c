-- What contracts see of a held state, and of which states it is one.
-- Read against: a held state at the beginning of a code of 2 cells has main alone, and a table over it needs one entry. It is held of the state with
-- main at its start and the first cells of the code, for this code and this fuel.
use Rattle.std.specs.Prelude.{◌≡◌, ℕ, List}
use Rattle.oss_body.specs.Mains.{code_main}
use Rattle.oss_code.specs.declared.code.CodeParts.{CodeParts}
use Rattle.oss_core.specs.declared.parts.CoreParts.{CoreParts}
use Rattle.oss_core.specs.Kept.{IsCore, Kept}
use Rattle.oss_core.specs.Parts.{AreParts}
use Rattle.oss_deps.specs.Kept as deps
use Rattle.oss_deps.specs.Kept.{seen_of}
use Rattle.oss_kept_tasks.specs.declared.held.Held.{Held}
use Rattle.oss_machine.specs.Frames.{CodeScript}
use Rattle.oss_model.specs.Machine.{State}
use Rattle.oss_tree.specs.Tasks as tree
use Rattle.oss_held.specs.Needs.{IsNeeded}

-- What its core keeps, its dependency system being the plain lists, and how many entries a table over it needs.
pub record Contents : Type 0 where
  pub tasks : List Held
  pub tree : tree.Kept
  pub deps : deps.Kept
  pub cells : List ℕ
  pub entries : ℕ

-- What its core keeps, as it is seen.
abbrev pub kept_in : Contents → Kept
kept_in h = record { tasks = h.tasks; tree = h.tree; seen = seen_of h.deps; cells = h.cells }

-- It is a held state of this one, which a run of the code can reach, with so much fuel for each task.
pub record IsHeldState (code : CodeParts) (fuel : ℕ) (h : Contents) (s : State CodeScript) : Type 0 where
  pub core : IsCore code (code_main code fuel) code.first (kept_in h) s
  pub needed : IsNeeded s h.entries

-- It is a held state of some run.
pub record IsOfRun (h : Contents) : Type 0 where
  pub code : CodeParts
  pub fuel : ℕ
  pub state : State CodeScript
  pub is : IsHeldState code fuel h state

-- The parts are those of a core of some run, and a table over its state needs so many entries.
pub record ArePartsOfRun (parts : CoreParts) (entries : ℕ) : Type 0 where
  pub code : CodeParts
  pub fuel : ℕ
  pub state : State CodeScript
  pub are : AreParts code (code_main code fuel) code.first parts state
  pub needed : IsNeeded state entries

-- The second is as the first: its core keeps the same, and a table over it needs as many entries. So both are held states of the same states.
pub record IsSame (h now : Contents) : Type 0 where
  pub kept : kept_in now ≡ kept_in h
  pub entries : now.entries ≡ h.entries
