-- From a code to its program: both ask alike, so the program touches and names its own cells alone.
use Rattle.std.proofs.Common.{◌≡◌, ◌∙◌, ℕ, ◌+◌, ◌≤◌, List, [], ◌∷◌, length, sym, ap, subst, arith}
use Rattle.std.proofs.lemmas.List.{length-append, length-replicate}
use Rattle.std.specs.Prelude.{◌<◌, replicate}
use Rattle.oss_syntax.specs.declared.tree.program.Item.{Item}
use Rattle.oss_syntax.specs.declared.tree.program.Item.TheVariants as items
use Rattle.oss_grammar.specs.Layout.{cells_of}
use Rattle.oss_grammar.specs.Values.{kept}
use Rattle.oss_model.specs.Bodies.{Ask}
use Rattle.oss_model.specs.Marks.{AsksFor}
use Rattle.oss_meaning.specs.Expressions.{TaskBody, TreeScript}
use Rattle.oss_meaning.specs.Meaning.{asks_of}
use Rattle.oss_meaning.specs.Pointers.{extents_from}
use Rattle.oss_meaning.specs.Results.{first_cells}
use Rattle.oss_code.specs.Globals.{extents_in}
use Rattle.oss_code.specs.declared.code.CodeParts.{CodeParts}
use Rattle.oss_machine.specs.Frames.{CodeScript}
use Rattle.oss_machine.specs.Machines.{asks}
use Rattle.oss_lower_laws.specs.Lowered.{IsLowered}
use Rattle.oss_lower_laws.specs.Programs.{IsCodeOf, moved_ask, moved_script}
use Rattle.oss_lower_laws.proofs.OutcomeLaws.{programs_have_codes}
use Rattle.oss_lower_laws.proofs.ProgramLemmas.{codes_ask_alike}
use Rattle.oss_freed.specs.Freed.{TouchesItsCells}
use Rattle.oss_free_run.proofs.MachineFaults.{codes_leave_clauses}
use Rattle.oss_missing_laws.specs.Programs.{IsNaming, NamesItsCells}
use Rattle.oss_missing_program_laws.specs.Cells.{CodesNameTheirCells, CodesTouchTheirCells, ProgramsLeaveClauses, ProgramsNameTheirCells, ProgramsTouchTheirCells}
use Rattle.oss_missing_program_laws.proofs.MachineCells.{AskFits, LieWithin, asks_fit}
use Rattle.oss_missing_program_laws.proofs.WithinLemmas.{cell_within}

-- Globals

-- each global of a program lies within its cells
lies : (n start : ℕ) (all : List Item) → start + length (first_cells all) ≤ n → LieWithin n (extents_from start all)
lies n start [] h = tt
lies n start (items.Global d ∷ rest) h =
    let size : length (first_cells (items.Global d ∷ rest)) ≡ cells_of d.cells + length (first_cells rest) =
    length-append (replicate (cells_of d.cells) (kept d.kind d.first)) (first_cells rest) ∙ ap (λ k. k + length (first_cells rest)) (length-replicate (cells_of d.cells) (kept d.kind d.first)) in
    (omega (arith, size, h), lies n (start + cells_of d.cells) rest (omega (arith, size, h)))
lies n start (items.Function f ∷ rest) h = lies n start rest h

code_lies : (all : List Item) (code : CodeParts) → IsLowered all code → LieWithin (length code.first) (extents_in code.globals)
code_lies all code l =
    let size : length code.first ≡ length (first_cells all) = ap length l.first in
    subst (LieWithin (length code.first)) (sym l.globals) (lies (length code.first) 0 all (omega (arith, size)))

-- Codes

touched_below : (n : ℕ) (a : Ask CodeScript) (c : ℕ) → AskFits n a → AsksFor a c → c < n
touched_below n (Ask.Read d) c h e = subst (λ k. k < n) e h
touched_below n (Ask.Write d v) c h e = subst (λ k. k < n) e h
touched_below n (Ask.Fold d o v) c h e = subst (λ k. k < n) e h
touched_below n _ c h e = absurd e

clauses_name : (n : ℕ) (a : Ask CodeScript) → AskFits n a → IsNaming n a
clauses_name n (Ask.Create o) h = λ c e. cell_within n o.clauses c h e
clauses_name n (Ask.WaitOn named) h = λ c e. cell_within n named c h e
clauses_name n (Ask.Release clauses) h = λ c e. cell_within n clauses c h e
clauses_name n _ h = tt

pub codes_touch_their_cells : CodesTouchTheirCells
codes_touch_their_cells all code l s answers c e =
    touched_below (length code.first) (asks code s answers).ask c (asks_fit code (length code.first) (code_lies all code l) s answers) e

pub codes_name_their_cells : CodesNameTheirCells
codes_name_their_cells all code l s answers = clauses_name (length code.first) (asks code s answers).ask (asks_fit code (length code.first) (code_lies all code l) s answers)

-- Programs

module _ (places : TaskBody → ℕ) where
  -- an ask of the tree touches what that of the code does
  moved_touch : (a : Ask TreeScript) (c : ℕ) → AsksFor a c → AsksFor (moved_ask places a) c
  moved_touch (Ask.Read d) c e = e
  moved_touch (Ask.Write d v) c e = e
  moved_touch (Ask.Fold d o v) c e = e
  moved_touch _ c e = absurd e

  -- and its clauses name what those do
  moved_naming : (n : ℕ) (a : Ask TreeScript) → IsNaming n (moved_ask places a) → IsNaming n a
  moved_naming n (Ask.Create o) h = h
  moved_naming n (Ask.WaitOn named) h = h
  moved_naming n (Ask.Release clauses) h = h
  moved_naming n _ h = tt

-- what both ask
ask_alike : (all : List Item) (code : CodeParts) (of : IsCodeOf all code) (s : TreeScript) (answers : List ℕ) → moved_ask of.places (asks_of all s answers).ask ≡ (asks code (moved_script of.places s) answers).ask
ask_alike all code of s answers = ap (λ a. a.ask) (of.alike s answers)

touches_alike : (all : List Item) (code : CodeParts) → IsCodeOf all code → (n : ℕ) → TouchesItsCells n (asks code) → TouchesItsCells n (asks_of all)
touches_alike all code of n touches s answers c e =
    touches (moved_script of.places s) answers c (subst (λ (a : Ask CodeScript). AsksFor a c) (ask_alike all code of s answers) (moved_touch of.places (asks_of all s answers).ask c e))

names_alike : (all : List Item) (code : CodeParts) → IsCodeOf all code → (n : ℕ) → NamesItsCells n (asks code) → NamesItsCells n (asks_of all)
names_alike all code of n names s answers =
    moved_naming of.places n (asks_of all s answers).ask (subst (λ (a : Ask CodeScript). IsNaming n a) (sym (ask_alike all code of s answers)) (names (moved_script of.places s) answers))

pub programs_leave_clauses : ProgramsLeaveClauses
programs_leave_clauses all code of s answers kind e wrong =
    codes_leave_clauses code (moved_script of.places s) answers kind (sym (ask_alike all code of s answers) ∙ ap (moved_ask of.places) e) wrong

pub programs_touch_their_cells : ProgramsTouchTheirCells
programs_touch_their_cells all h =
    let coded = programs_have_codes all h in
    touches_alike all coded.0 (codes_ask_alike all coded.0 coded.1) (length (first_cells all))
    (subst (λ n. TouchesItsCells n (asks coded.0)) (ap length coded.1.first) (codes_touch_their_cells all coded.0 coded.1))

pub programs_name_their_cells : ProgramsNameTheirCells
programs_name_their_cells all h =
    let coded = programs_have_codes all h in
    names_alike all coded.0 (codes_ask_alike all coded.0 coded.1) (length (first_cells all))
    (subst (λ n. NamesItsCells n (asks coded.0)) (ap length coded.1.first) (codes_name_their_cells all coded.0 coded.1))
