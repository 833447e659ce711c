-- The graph of a program's run is that of its code's run: a code asks as its program does, and the orders of its tasks differ in what runs alone. And there is one.
-- Read against: `task out(x) x = 5; task in(x) out(y) y = x + 1;` in main has the nodes 0.0 and 0.1 with the edge for x; so has each code of it, and no other graph is one of this run. In the program the body of 0.1 is named by its number, and in the code by the instruction with
-- which it begins.
use Rattle.std.specs.Prelude.{◌≡◌, ◌↔◌, ℕ, List}
use Rattle.oss_syntax.specs.declared.tree.program.Item.{Item}
use Rattle.oss_model.specs.Agreement.{AreWords, MainStarts}
use Rattle.oss_model.specs.Bodies.{Program, Start}
use Rattle.oss_meaning.specs.Expressions.{TreeScript}
use Rattle.oss_meaning.specs.Meaning.{asks_of}
use Rattle.oss_meaning.specs.Results.{first_cells, main_of}
use Rattle.oss_code.specs.declared.code.CodeParts.{CodeParts}
use Rattle.oss_lower_laws.specs.Programs.{IsCodeOf}
use Rattle.oss_task_graph.specs.declared.graph.Graph.{Graph}
use Rattle.oss_task_graph.specs.Graphs.{IsGraph, IsGraphOf}

-- The graph of a program is that of its code, and the other way round, where bodies are named by their places and the cells begin with numbers of 64 bits.
abbrev pub GraphsAlike : Type 0
GraphsAlike = (all : List Item) (code : CodeParts) (of : IsCodeOf all code) → AreWords code.first → (fuel : ℕ) (g : Graph)
    → IsGraph (asks_of all) (λ (s : TreeScript). of.places s.body) (main_of all fuel) (first_cells all) all g ↔ IsGraphOf code fuel all g

-- The run of a program has at most one graph, however bodies are named, and whatever the cells and the globals are.
abbrev pub GraphsAreOne : Type 0 → Type 0
GraphsAreOne S = (P : Program S) (place : S → ℕ) (main : Start S) → MainStarts main → (first : List ℕ) (all : List Item) (a b : Graph) → IsGraph P place main first all a → IsGraph P place main first all b → a ≡ b
