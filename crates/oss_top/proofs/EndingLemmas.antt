-- The end of a code's run, with the explanation of its fault, is that of its program's run.
use Rattle.std.proofs.Common.{subst, ℕ}
use Rattle.oss_syntax.specs.declared.tree.program.Program.{Program}
use Rattle.oss_model.specs.Agreement.{AreWords}
use Rattle.oss_meaning.specs.Expressions.{TaskBody, TreeScript}
use Rattle.oss_meaning.specs.Meaning.{asks_of}
use Rattle.oss_meaning.specs.Results.{first_cells, main_of}
use Rattle.oss_code.specs.declared.code.CodeParts.{CodeParts}
use Rattle.oss_labels.specs.Claims.{StandsAtPlaces}
use Rattle.oss_explain.specs.declared.ending.Ending.{Ending}
use Rattle.oss_explain.specs.Endings.{IsEnding, IsEndingOf}
use Rattle.oss_explain_laws.specs.Claims.{EndingsAlike}
use Rattle.oss_top.specs.Explained.{IsEndingOfProgram}

-- bodies are named by the places that lowering gives them
pub ended_by_code : EndingsAlike → (p : Program) (code : CodeParts) → StandsAtPlaces p.items code → AreWords code.first → (fuel : ℕ) (e : Ending) → IsEndingOf code fuel p.items e → IsEndingOfProgram fuel p e
ended_by_code alike p code stands words fuel e is =
    subst (λ (places : TaskBody → ℕ). IsEnding (asks_of p.items) (λ (s : TreeScript). places s.body) (main_of p.items fuel) (first_cells p.items) p.items e) stands.places_are
    ((alike p.items code stands.of words fuel e).1 is)
