-- What is found on the way of a run is right at its stage.
-- Read against: while the second child of main runs, two nodes are found; the children of main are both of these, and those of the second child are none so far.
use Rattle.std.specs.Prelude.{◌≡◌, ◌≤◌, ℕ, true, List, [], ◌∷◌, reverse}
use Rattle.oss_syntax.specs.declared.tree.program.Item.{Item}
use Rattle.oss_model.specs.Agreement.{Setting}
use Rattle.oss_model.specs.Machine.{State}
use Rattle.oss_code.specs.declared.code.CodeParts.{CodeParts}
use Rattle.oss_machine.specs.Machines.{asks}
use Rattle.oss_body.specs.Mains.{code_main}
use Rattle.oss_serial.specs.declared.stage.Stage.{Stage}
use Rattle.oss_serial.specs.Stages.{IsStage}
use Rattle.oss_pieces.specs.Layouts.{grids_from}
use Rattle.oss_task_graph.specs.Edges.{Accesses}
use Rattle.oss_task_graph.specs.Graphs.{AreNodes, accesses_below, entry_of}
use Rattle.oss_task_graph.specs.Groups.{is_held}
use Rattle.oss_task_edges.specs.declared.siblings.Siblings.{Siblings}
use Rattle.oss_task_edges.specs.Kept.{Keeps}
use Rattle.oss_graph.specs.declared.found.Found.{Found}

-- No child from this number on has a cell.
abbrev pub AreBelow : Accesses → ℕ → Type 0
AreBelow accesses n = (i c : ℕ) → n ≤ i → is_held (accesses i c) ≡ true → ⊥

-- All children are kept.
abbrev pub KeepsAll : Accesses → Siblings → Type 0
KeepsAll accesses b = (n : ℕ) → AreBelow accesses n → Keeps accesses n b

-- What is kept of the children of the task at this path and of those above it, the innermost first.
pub data AreOnWay {S : Type 0} (s : State S) : List ℕ → List Siblings → Type 0 where
  at_main : {b : Siblings} → KeepsAll (accesses_below s []) b → AreOnWay s [] (b ∷ [])
  at_child : {k : ℕ} {q : List ℕ} {b : Siblings} {rest : List Siblings} → KeepsAll (accesses_below s (k ∷ q)) b → AreOnWay s q rest → AreOnWay s (k ∷ q) (b ∷ rest)

-- The kept stage is one of the run, and what is found on the way there is right.
pub record IsFollowing (code : CodeParts) (fuel : ℕ) (all : List Item) (s : Stage) (f : Found) : Type 0 where
  pub setting : Setting (code_main code fuel) code.first
  pub is_stage : IsStage code (code_main code fuel) code.first s
  pub layout : f.layout ≡ grids_from all 0
  pub way : AreOnWay is_stage.stands.stage.state is_stage.stands.stage.active (f.top ∷ reverse f.above)
  pub nodes : AreNodes (asks code) entry_of is_stage.stands.stage.state all f.nodes
