-- What is missing of the code of a program is missing of the program itself.
use Rattle.std.proofs.Common.{◌≡◌, ◌∙◌, ℕ, ◌+◌, ◌-◌, ◌<◌, ◌≤◌, true, false, List, [], ◌∷◌, length, refl, sym, ap, subst, arith}
use Rattle.std.specs.Prelude.{pos, replicate}
use Rattle.std.proofs.lemmas.List.{length-append, length-replicate}
use Rattle.oss_syntax.specs.declared.tree.program.Item.{Item}
use Rattle.oss_syntax.specs.declared.tree.program.Item.TheVariants as items
use Rattle.oss_grammar.specs.Layout.{cells_of}
use Rattle.oss_grammar.specs.Values.{kept}
use Rattle.oss_model.specs.Agreement.{main_start}
use Rattle.oss_model.specs.Bodies.{Ask, Asked, Start}
use Rattle.oss_model.specs.Bodies.Ask.{Await, Begin, Create, End, Fails, Fold, Print, Read, Release, Tick, Wait, WaitOn, Write}
use Rattle.oss_model.specs.Marks.{AsksFor}
use Rattle.oss_meaning.specs.Expressions.{TaskBody, TreeScript}
use Rattle.oss_meaning.specs.Meaning.{asks_of}
use Rattle.oss_meaning.specs.Pointers.{Extent, extents_from}
use Rattle.oss_meaning.specs.Results.{first_cells, main_of, main_order}
use Rattle.oss_code.specs.Globals.{extents_in}
use Rattle.oss_code.specs.declared.code.CodeParts.{CodeParts}
use Rattle.oss_code.specs.declared.global.GlobalPlace.{GlobalPlace}
use Rattle.oss_machine.specs.Frames.{CodeScript}
use Rattle.oss_machine.specs.Machines.{asks}
use Rattle.oss_lower_laws.specs.Lowered.{IsLowered}
use Rattle.oss_lower_laws.specs.Programs.{IsCodeOf, code_start, moved_ask as code_ask, moved_script}
use Rattle.oss_lower_laws.proofs.OutcomeLaws.{cells_are, start_is}
use Rattle.oss_freed.specs.Freed.{TouchesItsCells}
use Rattle.oss_missing_lines.specs.declared.missing.Missing.{Missing}
use Rattle.oss_missing_laws.specs.Missing.{EndsWell}
use Rattle.oss_missing_laws.specs.Programs.{IsNaming, NamesItsCells}
use Rattle.oss_missing.specs.Missing.{IsMissing}
use Rattle.oss_missing_program_laws.specs.Exact.{CodesEndWellAlike}
use Rattle.oss_missing_program_laws.proofs.EmptyPieces.{cells_from}
use Rattle.oss_missing_program_laws.proofs.ExactTheorem.{IsMissingOf, missing_back, missing_of}
use Rattle.oss_missing_program_laws.proofs.MovedBodies.{AskAlike, moved_ask, moved_start}
use Rattle.oss_missing_program_laws.proofs.MovedWalks.{well_back, well_forth}

-- How many cells a program has

pub cells_from_is : (all : List Item) → length (first_cells all) ≡ cells_from all
cells_from_is [] = refl
cells_from_is (items.Global d ∷ rest) =
    length-append (replicate (cells_of d.cells) (kept d.kind d.first)) (first_cells rest)
    ∙ ap (λ (n : ℕ). n + length (first_cells rest)) (length-replicate (cells_of d.cells) (kept d.kind d.first))
    ∙ ap (λ (n : ℕ). cells_of d.cells + n) (cells_from_is rest)
cells_from_is (items.Function f ∷ rest) = cells_from_is rest

-- the cell after the last one of the first of these
abbrev end_of : List Extent → ℕ → ℕ
end_of [] other = other
end_of (e ∷ es) other = e.start + e.count

abbrev rest_of : List Extent → List Extent
rest_of [] = []
rest_of (e ∷ es) = es

-- The globals of a code end at the greatest number of cells at most.
few_from : (start : ℕ) (all : List Item) (globals : List GlobalPlace) → start ≤ 1048576 → extents_in globals ≡ extents_from start all → start + cells_from all ≤ 1048576
few_from start [] globals l e = omega (arith, l)
few_from start (items.Global d ∷ rest) [] l e = let k : [] ≡ record { start = start; count = cells_of d.cells; columns = d.columns } ∷ extents_from (start + cells_of d.cells) rest = e in absurd cc
few_from start (items.Global d ∷ rest) (g ∷ globals) l e =
    let k : g.range.lo + (g.range.hi - g.range.lo) ≡ start + cells_of d.cells = ap (λ (es : List Extent). end_of es 0) e in
    let o : g.range.lo < g.range.hi = g.range.ordered in
    let w : g.range.hi ≤ 1048576 = g.range.within in
    let m : start + cells_of d.cells + cells_from rest ≤ 1048576 = few_from (start + cells_of d.cells) rest globals (omega (arith, k, o, w)) (ap rest_of e) in
    omega (arith, m)
few_from start (items.Function f ∷ rest) globals l e = few_from start rest globals l e

pub lowered_few : (all : List Item) (code : CodeParts) → IsLowered all code → length (first_cells all) ≤ 1048576
lowered_few all code h =
    let k : 0 + cells_from all ≤ 1048576 = few_from 0 all code.globals (omega arith) h.globals in
    let e : length (first_cells all) ≡ cells_from all = cells_from_is all in
    omega (arith, k, e)

-- Scripts

ask_same : (places : TaskBody → ℕ) (q : Ask TreeScript) → moved_ask (moved_script places) q ≡ code_ask places q
ask_same places Begin = refl
ask_same places Tick = refl
ask_same places (Read c) = refl
ask_same places (Write c v) = refl
ask_same places (Fold c op v) = refl
ask_same places (Create o) = refl
ask_same places Await = refl
ask_same places Wait = refl
ask_same places (WaitOn named) = refl
ask_same places (Release clauses) = refl
ask_same places (Print text) = refl
ask_same places End = refl
ask_same places (Fails kind) = refl

module _ (all : List Item) (code : CodeParts) (of : IsCodeOf all code) where
  abbrev move : TreeScript → CodeScript
  move = moved_script of.places

  -- A program and its code ask alike.
  pub code_alike : AskAlike (moved_script of.places) (asks_of all) (asks code)
  code_alike s answers =
      ap {B = Asked CodeScript} (λ (q : Ask CodeScript). record { ask = q; line = (asks_of all s answers).line }) (ask_same of.places (asks_of all s answers).ask)
      ∙ of.alike s answers

  -- main of a code, of which the body begins here
  abbrev main_at : ℕ → ℕ → ℕ → Start CodeScript
  main_at entry n fuel = main_start (record { script = record { entry = entry; copies = [] }; clauses = []; when = true; last = false; wait = false; priority = pos 0 }) n fuel

  pub missing_own : (fuel : ℕ) (m : Missing) → IsMissing code fuel all m → IsMissingOf (asks_of all) (main_start main_order (length (first_cells all)) fuel) (first_cells all) all m
  missing_own fuel m h =
      let own : IsMissingOf (asks code) (main_at 0 (length code.first) fuel) code.first all m = missing_of code fuel all m h in
      let cells : IsMissingOf (asks code) (main_at 0 (length (first_cells all)) fuel) (first_cells all) all m =
      subst (λ (first : List ℕ). IsMissingOf (asks code) (main_at 0 (length first) fuel) first all m) of.first own in
      let moved : IsMissingOf (asks code) (moved_start (moved_script of.places) (main_start main_order (length (first_cells all)) fuel)) (first_cells all) all m =
      subst (λ (entry : ℕ). IsMissingOf (asks code) (main_at entry (length (first_cells all)) fuel) (first_cells all) all m) (sym of.main_first) cells in
      missing_back (moved_script of.places) (asks_of all) (asks code) code_alike (main_start main_order (length (first_cells all)) fuel) (first_cells all) all m moved

  -- main of the program, by how many cells it begins with
  pub main_is : (fuel : ℕ) → main_start main_order (length (first_cells all)) fuel ≡ main_of all fuel
  main_is fuel = ap (λ (n : ℕ). main_start main_order n fuel) (cells_are all)

-- Cells

asks_moved : {S T : Type 0} (move : S → T) (q : Ask S) (c : ℕ) → AsksFor q c → AsksFor (moved_ask move q) c
asks_moved move (Read d) c h = h
asks_moved move (Write d v) c h = h
asks_moved move (Fold d op v) c h = h
asks_moved move Begin c h = absurd h
asks_moved move Tick c h = absurd h
asks_moved move (Create o) c h = absurd h
asks_moved move Await c h = absurd h
asks_moved move Wait c h = absurd h
asks_moved move (WaitOn named) c h = absurd h
asks_moved move (Release clauses) c h = absurd h
asks_moved move (Print text) c h = absurd h
asks_moved move End c h = absurd h
asks_moved move (Fails kind) c h = absurd h

names_back : {S T : Type 0} (move : S → T) (n : ℕ) (q : Ask S) → IsNaming n (moved_ask move q) → IsNaming n q
names_back move n (Create o) h = h
names_back move n (WaitOn named) h = h
names_back move n (Release clauses) h = h
names_back move n Begin h = h
names_back move n Tick h = h
names_back move n (Read d) h = h
names_back move n (Write d v) h = h
names_back move n (Fold d op v) h = h
names_back move n Await h = h
names_back move n Wait h = h
names_back move n (Print text) h = h
names_back move n End h = h
names_back move n (Fails kind) h = h

-- A program touches the cells alone that its code touches, and names those alone that its code names.
module _ (all : List Item) (code : CodeParts) (of : IsCodeOf all code) where
  pub touches_own : TouchesItsCells (length code.first) (asks code) → TouchesItsCells (length (first_cells all)) (asks_of all)
  touches_own h s answers c a =
      let there : AsksFor (asks code (moved_script of.places s) answers).ask c = subst (λ (x : Asked CodeScript). AsksFor x.ask c) (code_alike all code of s answers) (asks_moved (moved_script of.places) (asks_of all s answers).ask c a) in
      subst (λ (first : List ℕ). c < length first) of.first (h (moved_script of.places s) answers c there)

  pub names_own : NamesItsCells (length code.first) (asks code) → NamesItsCells (length (first_cells all)) (asks_of all)
  names_own h s answers =
      let there : IsNaming (length (first_cells all)) (asks code (moved_script of.places s) answers).ask =
      subst (λ (first : List ℕ). IsNaming (length first) (asks code (moved_script of.places s) answers).ask) of.first (h (moved_script of.places s) answers) in
      names_back (moved_script of.places) (length (first_cells all)) (asks_of all s answers).ask (subst (λ (x : Asked CodeScript). IsNaming (length (first_cells all)) x.ask) (sym (code_alike all code of s answers)) there)

pub codes_end_well_alike : CodesEndWellAlike
codes_end_well_alike all code of fuel = (forth, back)
  where
    there : Start CodeScript → List ℕ → Type 0
    there main first = EndsWell (asks code) main first

    forth : EndsWell (asks_of all) (main_of all fuel) (first_cells all) → EndsWell (asks code) (code_start code fuel) code.first
    forth h =
        subst (λ (first : List ℕ). EndsWell (asks code) (code_start code fuel) first) (sym of.first)
        (subst (λ (main : Start CodeScript). EndsWell (asks code) main (first_cells all)) (start_is all code of fuel)
        (well_forth (moved_script of.places) (asks_of all) (asks code) (code_alike all code of) (main_of all fuel) (first_cells all) h))

    back : EndsWell (asks code) (code_start code fuel) code.first → EndsWell (asks_of all) (main_of all fuel) (first_cells all)
    back h =
        well_back (moved_script of.places) (asks_of all) (asks code) (code_alike all code of) (main_of all fuel) (first_cells all)
        (subst (λ (main : Start CodeScript). EndsWell (asks code) main (first_cells all)) (sym (start_is all code of fuel))
        (subst (λ (first : List ℕ). EndsWell (asks code) (code_start code fuel) first) of.first h))
