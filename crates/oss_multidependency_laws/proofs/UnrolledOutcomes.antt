-- A program and the program with its multidependencies unrolled have one outcome.
use Rattle.std.proofs.Common.{◌≡◌, ℕ, ◌+◌, suc, Bool, List, [], ◌∷◌, length, map, reverse, refl, sym, ap, subst}
use Rattle.std.specs.Prelude.{codes}
use Rattle.oss_syntax.specs.declared.tree.pragma.Section.{Section}
use Rattle.oss_syntax.specs.declared.tree.program.Item.{Item}
use Rattle.oss_syntax.specs.declared.tree.program.Item.TheVariants as items
use Rattle.oss_grammar.specs.Layout.{cells_of}
use Rattle.oss_grammar.specs.TaskLoops.{program_written}
use Rattle.oss_model.specs.Agreement.{main_start}
use Rattle.oss_model.specs.Bodies.{Program, Start}
use Rattle.oss_meaning.specs.Expressions.{TreeScript}
use Rattle.oss_meaning.specs.Meaning.{asks_of}
use Rattle.oss_meaning.specs.Names.{functions_of, item_found}
use Rattle.oss_meaning.specs.Results.{IsOutcome, IsOutcomeOf, first_cells, main_of, main_order}
use Rattle.oss_lower_laws.specs.Programs.{HavePlaces}
use Rattle.oss_lower_laws.proofs.OutcomeLaws.{a_program_has_one_outcome}
use Rattle.oss_lower_laws.proofs.OutcomeLemmas.{one_outcome}
use Rattle.oss_lower_laws.proofs.TextPlaces.{accepted_places}
use Rattle.oss_multidependency_laws.specs.Claims.{UnrolledProgramsHaveOneOutcome, UnrolledTextsHaveOneOutcome}
use Rattle.oss_multidependency_laws.specs.Fitting.{functions_fit, takes}
use Rattle.oss_multidependency_laws.specs.Grouping.{plain_asked}
use Rattle.oss_multidependency_laws.specs.Unrolling.{item_unrolled, items_unrolled}
use Rattle.oss_multidependency_laws.proofs.AcceptedPrograms.{accepted_fits}
use Rattle.oss_multidependency_laws.proofs.AlikeExpressions.{and_left}
use Rattle.oss_multidependency_laws.proofs.AlikeMeanings.{IsScript}
use Rattle.oss_multidependency_laws.proofs.AlikePrograms.{main_script, run_like, total}
use Rattle.oss_multidependency_laws.proofs.GroupingLemmas.{any_ask}
use Rattle.oss_multidependency_laws.proofs.PlainBodies.{AskAlike}
use Rattle.oss_multidependency_laws.proofs.PlainRuns.{outcome_alike}
use Rattle.oss_multidependency_laws.proofs.SameNames.{cells_same, first_cells_same}
use Rattle.oss_multidependency_laws.proofs.UnrolledLoops.{items_same}

pub unrolled_programs_have_one_outcome : UnrolledProgramsHaveOneOutcome
unrolled_programs_have_one_outcome chosen all fit fuel o p left right =
    let P : Program TreeScript = asks_of all in
    let Q : Program TreeScript = asks_of (items_unrolled chosen all) in
    let N : Program TreeScript = λ s answers. plain_asked (Q s answers) in
    let fits = and_left (functions_fit all (functions_of all)) (takes all (item_found all (codes "main")) 0) fit in
    let from_left : AskAlike P N = record {
      Good = IsScript all (total chosen all fits);
      alike = λ s good answers. (run_like chosen all fits (suc (length answers)) s good (reverse answers)).same;
      stays = λ s good answers. (run_like chosen all fits (suc (length answers)) s good (reverse answers)).good;
    } in
    let from_right : AskAlike Q N = record { Good = λ s. Unit {0}; alike = λ s good answers. refl; stays = λ s good answers. any_ask (Q s answers).ask } in
    let start : main_of (items_unrolled chosen all) fuel ≡ main_of all fuel = ap {B = Start TreeScript} (λ n. main_start main_order n fuel) (cells_same chosen all) in
    let moved : IsOutcome Q (main_of all fuel) (first_cells all) p =
    subst (λ cells. IsOutcome Q (main_of all fuel) cells p) (first_cells_same chosen all) (subst (λ main. IsOutcome Q main (first_cells (items_unrolled chosen all)) p) start right) in
    one_outcome N o p (outcome_alike P N from_left o (main_script chosen all fit) left) (outcome_alike Q N from_right p tt moved)

-- Texts

places_unrolled : (chosen : Section → Bool) (start : ℕ) (all : List Item) → HavePlaces start all → HavePlaces start (map (item_unrolled chosen) all)
places_unrolled chosen start [] h = tt
places_unrolled chosen start (items.Global d ∷ rest) h = (h.0, places_unrolled chosen (start + cells_of d.cells) rest h.1)
places_unrolled chosen start (items.Function f ∷ rest) h = places_unrolled chosen start rest h

pub unrolled_texts_have_one_outcome : UnrolledTextsHaveOneOutcome
unrolled_texts_have_one_outcome chosen text p is obeys fuel o =
    let all = (program_written p).items in
    let flat = items_unrolled chosen all in
    let fit = accepted_fits text p is obeys in
    let places = accepted_places text p is obeys in
    let own = a_program_has_one_outcome all places fuel in
    let other = a_program_has_one_outcome flat (places_unrolled chosen 0 all places) fuel in
    let loops = items_same chosen p.items in (
      λ left. subst (λ xs. IsOutcomeOf xs fuel o) (sym loops)
          (subst (λ q. IsOutcomeOf flat fuel q) (sym (unrolled_programs_have_one_outcome chosen all fit fuel o other.some.0 left other.some.1)) other.some.1),
      λ right. subst (λ q. IsOutcomeOf all fuel q) (unrolled_programs_have_one_outcome chosen all fit fuel own.some.0 o own.some.1 (subst (λ xs. IsOutcomeOf xs fuel o) loops right)) own.some.1,
    )
