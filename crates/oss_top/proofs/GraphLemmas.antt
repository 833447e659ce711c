-- The graph of a code is that of its program.
use Rattle.std.proofs.Common.{◌≡◌, ap, subst, ℕ, List}
use Rattle.oss_syntax.specs.declared.tree.program.Program.{Program}
use Rattle.oss_model.specs.Agreement.{AreWords}
use Rattle.oss_meaning.specs.Expressions.{TaskBody, TreeScript}
use Rattle.oss_meaning.specs.Meaning.{asks_of}
use Rattle.oss_meaning.specs.Results.{first_cells, main_of}
use Rattle.oss_code.specs.declared.code.CodeParts.{CodeParts}
use Rattle.oss_lower_laws.specs.Lowered.{place_of}
use Rattle.oss_labels.specs.Claims.{StandsAtPlaces}
use Rattle.oss_task_graph.specs.declared.graph.Graph.{Graph}
use Rattle.oss_task_graph.specs.Graphs.{IsGraph, IsGraphOf}
use Rattle.oss_graph_laws.specs.Claims.{GraphsAlike}
use Rattle.oss_top.specs.Drawn.{IsGraphOfProgram}

-- bodies are named by the places that lowering gives them
pub drawn_by_code : GraphsAlike → (p : Program) (code : CodeParts) → StandsAtPlaces p.items code → AreWords code.first → (fuel : ℕ) (g : Graph) → IsGraphOf code fuel p.items g → IsGraphOfProgram fuel p g
drawn_by_code alike p code stands words fuel g is =
    subst (λ (places : TaskBody → ℕ). IsGraph (asks_of p.items) (λ (s : TreeScript). places s.body) (main_of p.items fuel) (first_cells p.items) p.items g) stands.places_are
    ((alike p.items code stands.of words fuel g).1 is)
