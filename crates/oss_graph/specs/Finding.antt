-- What is found on the way of a run, and what an act makes of it.
-- Read against: behind the creation of a task by main there is one node more, with its point, its line and the edges that main's children give it; main's children have one more, and those of the new task are none. Behind the end of the
-- task main's children stand on top again.
use Rattle.std.specs.Prelude.{◌≡◌, ◌≤◌, ◌<◌, ℕ, ◌+◌, ◌⊎◌, List, [], ◌∷◌, ◌++◌, length, Option, Some, None}
use Rattle.oss_syntax.specs.declared.tree.program.Item.{Item}
use Rattle.oss_judge.specs.Joined.{held_right}
use Rattle.oss_model.specs.Bodies.{Start}
use Rattle.oss_model.specs.Context.{right_of}
use Rattle.oss_model.specs.Order.{written}
use Rattle.oss_code.specs.declared.code.CodeParts.{CodeParts}
use Rattle.oss_machine.specs.Frames.{CodeScript}
use Rattle.oss_body.specs.declared.body.Body.{Body as Kept}
use Rattle.oss_body.specs.Relation.{IsBody}
use Rattle.oss_pieces.specs.Layouts.{grids_from}
use Rattle.oss_task_graph.specs.declared.graph.Node.{Node}
use Rattle.oss_task_graph.specs.Edges.{Accesses, AreEdges}
use Rattle.oss_task_edges.specs.declared.siblings.Siblings.{Siblings}
use Rattle.oss_task_edges.specs.Kept.{Keeps}
use Rattle.oss_graph.specs.declared.coming.Coming.{Coming}
use Rattle.oss_graph.specs.declared.found.Found.{Found}

-- No child is kept.
abbrev pub IsEmpty : Siblings → Type 0
IsEmpty s = (accesses : Accesses) → Keeps accesses 0 s

-- Nothing is found yet, of a program with these globals.
pub record IsNewIn (all : List Item) (f : Found) : Type 0 where
  pub layout : f.layout ≡ grids_from all 0
  pub nodes : f.nodes ≡ []
  pub top : IsEmpty f.top
  pub above : f.above ≡ []

-- The task that ran has created that of this body.
pub record IsDown (body : Kept) (coming : Coming) (old new : Found) : Type 0 where
  pub layout : new.layout ≡ old.layout
  pub node : Node
  pub nodes : new.nodes ≡ old.nodes ++ node ∷ []
  pub point : (code : CodeParts) (start : Start CodeScript) (found : List ℕ) → IsBody code start found body → node.task ≡ written start.path
  pub line : node.line ≡ coming.line
  pub entry : node.entry ≡ coming.entry
  pub creator : Siblings
  pub above : new.above ≡ old.above ++ creator ∷ []
  pub top : IsEmpty new.top
  pub keeps : (accesses : Accesses) → Keeps accesses coming.number old.top → (code : CodeParts) (start : Start CodeScript) (found : List ℕ) → IsBody code start found body
      → ((c : ℕ) → held_right (accesses coming.number c) ≡ held_right (right_of start.context c)) → Keeps accesses (coming.number + 1) creator
  pub edges : (all : List Item) → old.layout ≡ grids_from all 0 → (accesses : Accesses) → Keeps accesses coming.number old.top → (code : CodeParts) (start : Start CodeScript) (found : List ℕ) → IsBody code start found body
      → ((c : ℕ) → held_right (accesses coming.number c) ≡ held_right (right_of start.context c)) → AreEdges all accesses coming.number node.edges

-- No task was created, and so many wait now: the creator of the one that ran runs, or the same one.
pub record IsBack (waiting : ℕ) (old new : Found) : Type 0 where
  pub layout : new.layout ≡ old.layout
  pub nodes : new.nodes ≡ old.nodes
  pub way : ((waiting < length old.above) × (old.above ≡ new.above ++ new.top ∷ [])) ⊎ ((length old.above ≤ waiting) × (new.top ≡ old.top) × (new.above ≡ old.above))

-- What an act makes of it.
abbrev pub IsFollowed : Kept → ℕ → Option Coming → Found → Found → Type 0
IsFollowed body waiting (Some coming) old new = IsDown body coming old new
IsFollowed body waiting None old new = IsBack waiting old new
