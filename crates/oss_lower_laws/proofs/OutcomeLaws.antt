-- The outcome of a program: the globals have their places, so there is a code; so the program is lively, and its sequential run has one outcome.
use Rattle.std.proofs.Common.{◌≡◌, ◌∙◌, ◌<◌, ℕ, zero, suc, ◌+◌, Bool, true, false, List, [], ◌∷◌, ◌++◌, length, map, get_or, refl, sym, ap, subst, arith}
use Rattle.std.proofs.lemmas.List.{length-append, length-replicate}
use Rattle.std.proofs.Math.Nat.{add-sub_cancel_left, mod-lt}
use Rattle.std.specs.List.{fold, sum}
use Rattle.std.specs.Prelude.{◌-◌, ◌%◌, ◌^◌, if◌then◌else◌, nat_lt, replicate}
use Rattle.oss_syntax.specs.declared.tree.program.GlobalDef.{GlobalDef}
use Rattle.oss_syntax.specs.declared.tree.program.Item.{Item}
use Rattle.oss_syntax.specs.declared.tree.program.Item.TheVariants as items
use Rattle.oss_syntax.specs.declared.tree.program.NumKind.{NumKind}
use Rattle.oss_syntax.specs.declared.tree.program.NumKind.TheVariants as num
use Rattle.oss_grammar.specs.Layout.{cells_in, cells_of, sizes_of}
use Rattle.oss_grammar.specs.Values.{kept}
use Rattle.oss_model.specs.Agreement.{AreWords, Setting, main_start}
use Rattle.oss_model.specs.Bodies.{Start}
use Rattle.oss_model.proofs.Exclusive.{every_main_is_a_setting}
use Rattle.oss_meaning.specs.Expressions.{TreeScript}
use Rattle.oss_meaning.specs.Meaning.{asks_of}
use Rattle.oss_meaning.specs.Names.{functions_of}
use Rattle.oss_meaning.specs.Pointers.{Extent, extents_from}
use Rattle.oss_meaning.specs.Results.{IsOutcome, first_cells, main_of, main_order}
use Rattle.oss_code.specs.Globals.{extents_in}
use Rattle.oss_code.specs.declared.code.CodeParts.{CodeParts}
use Rattle.oss_code.specs.declared.global.GlobalPlace.{GlobalPlace}
use Rattle.oss_machine.specs.Frames.{CodeScript}
use Rattle.oss_machine.specs.Machines.{asks}
use Rattle.oss_lower_laws.specs.Lowered.{entries_from, first_entry, program_code}
use Rattle.oss_lower_laws.specs.Programs.{AProgramHasOneOutcome, HasPlace, HavePlaces, IsCodeOf, MainOutcomesAlike, OutcomesAreOne, ProgramsHaveCodes, ProgramsHaveOneOutcome, code_order, code_start, moved_start}
use Rattle.oss_lower_laws.proofs.LiveLemmas.{programs_are_lively}
use Rattle.oss_lower_laws.proofs.MovedRuns.{outcomes_alike}
use Rattle.oss_lower_laws.proofs.OutcomeLemmas.{one_outcome, run_has_one}
use Rattle.oss_lower_laws.proofs.ProgramLemmas.{codes_ask_alike}

pub outcomes_are_one : OutcomesAreOne
outcomes_are_one all main cells a b left right = one_outcome (asks_of all) a b left right

pub programs_have_one_outcome : ProgramsHaveOneOutcome
programs_have_one_outcome all code of main cells setting = run_has_one (asks_of all) main cells setting (programs_are_lively all code of)

-- Codes

place_from : (start : ℕ) (d : GlobalDef) → HasPlace start d → GlobalPlace
place_from start d h = record { range = record { lo = start; hi = start + cells_of d.cells; ordered = omega (arith, h.some); within = h.few }; columns = d.columns; wide = h.wide }

places_from : (start : ℕ) (all : List Item) → HavePlaces start all → List GlobalPlace
places_from start [] h = []
places_from start (items.Global d ∷ rest) h = place_from start d h.0 ∷ places_from (start + cells_of d.cells) rest h.1
places_from start (items.Function f ∷ rest) h = places_from start rest h

extents_are : (start : ℕ) (all : List Item) (h : HavePlaces start all) → extents_in (places_from start all h) ≡ extents_from start all
unfolding places_from place_from
extents_are start [] h = refl
extents_are start (items.Global d ∷ rest) h =
    let here : Extent → List Extent = λ e. e ∷ extents_in (places_from (start + cells_of d.cells) rest h.1) in
    ap (λ n. here (record { start = start; count = n; columns = d.columns })) (add-sub_cancel_left start (cells_of d.cells))
    ∙ ap (λ es. record { start = start; count = cells_of d.cells; columns = d.columns } ∷ es) (extents_are (start + cells_of d.cells) rest h.1)
extents_are start (items.Function f ∷ rest) h = extents_are start rest h

pub programs_have_codes : ProgramsHaveCodes
programs_have_codes all h =
    let code : CodeParts = record {
      instrs = map (λ l. l.what) (program_code all);
      lines = map (λ l. l.line) (program_code all);
      depths = map (λ l. l.depth) (program_code all);
      first = first_cells all;
      globals = places_from 0 all h;
      functions = entries_from all first_entry (functions_of all);
    } in
    (code, record { instrs = refl; lines = refl; depths = refl; first = refl; globals = extents_are 0 all h; functions = refl })

-- Cells at the start

widened_by : (test : Bool) (w : ℕ) → w < 2 ^ 32 → (if test then w else w + (2 ^ 64 - 2 ^ 32)) < 2 ^ 64
widened_by true w h = omega arith
widened_by false w h = omega arith

kept_word : (k : NumKind) (v : ℕ) → v < 2 ^ 64 → kept k v < 2 ^ 64
kept_word num.Int v h = widened_by (nat_lt (v % 2 ^ 32) (2 ^ 31)) (v % 2 ^ 32) (mod-lt v {m = 2 ^ 32} (omega arith))
kept_word num.Long v h = h
kept_word num.Ulong v h = h

no_word : (c : ℕ) → get_or [] c 0 < 2 ^ 64
no_word zero = omega arith
no_word (suc c) = omega arith

words_more : (v n : ℕ) (cells : List ℕ) → v < 2 ^ 64 → AreWords cells → AreWords (replicate n v ++ cells)
words_more v zero cells h words c = words c
words_more v (suc n) cells h words zero = h
words_more v (suc n) cells h words (suc c) = words_more v n cells h words c

pub words_from : (start : ℕ) (all : List Item) → HavePlaces start all → AreWords (first_cells all)
words_from start [] h c = no_word c
words_from start (items.Global d ∷ rest) h c =
    words_more (kept d.kind d.first) (cells_of d.cells) (first_cells rest) (kept_word d.kind d.first h.0.word) (words_from (start + cells_of d.cells) rest h.1) c
words_from start (items.Function f ∷ rest) h c = words_from start rest h c

-- a sum that begins at a number
sum_from : (a : ℕ) (xs : List ℕ) → fold (λ m n. m + n) a xs ≡ a + sum xs
sum_from a [] = omega arith
sum_from a (x ∷ xs) =
    let more : fold (λ m n. m + n) (a + x) xs ≡ (a + x) + sum xs = sum_from (a + x) xs in
    let less : fold (λ m n. m + n) (0 + x) xs ≡ (0 + x) + sum xs = sum_from (0 + x) xs in
    let whole : sum (x ∷ xs) ≡ (0 + x) + sum xs = less in
    let there : fold (λ m n. m + n) a (x ∷ xs) ≡ (a + x) + sum xs = more in
    omega (arith, whole, there)

sum_first : (x : ℕ) (xs : List ℕ) → sum (x ∷ xs) ≡ x + sum xs
sum_first x xs =
    let from : fold (λ m n. m + n) (0 + x) xs ≡ (0 + x) + sum xs = sum_from (0 + x) xs in
    let whole : sum (x ∷ xs) ≡ (0 + x) + sum xs = from in
    omega (arith, whole)

pub cells_are : (all : List Item) → length (first_cells all) ≡ cells_in all
cells_are [] = refl
cells_are (items.Global d ∷ rest) =
    length-append (replicate (cells_of d.cells) (kept d.kind d.first)) (first_cells rest)
    ∙ ap (λ n. n + length (first_cells rest)) (length-replicate (cells_of d.cells) (kept d.kind d.first))
    ∙ ap (λ n. cells_of d.cells + n) (cells_are rest)
    ∙ sym (sum_first (cells_of d.cells) (sizes_of rest))
cells_are (items.Function f ∷ rest) = cells_are rest

pub main_setting : (all : List Item) (fuel : ℕ) → AreWords (first_cells all) → Setting (main_of all fuel) (first_cells all)
main_setting all fuel words =
    subst (λ n. Setting (main_start main_order n fuel) (first_cells all)) (cells_are all) (every_main_is_a_setting TreeScript main_order (first_cells all) fuel words)

-- Outcomes

pub a_program_has_one_outcome : AProgramHasOneOutcome
a_program_has_one_outcome all h fuel =
    let lowered = programs_have_codes all h in
    programs_have_one_outcome all lowered.0 (codes_ask_alike all lowered.0 lowered.1) (main_of all fuel) (first_cells all) (main_setting all fuel (words_from 0 all h))

-- main of the code begins as that of the program
pub start_is : (all : List Item) (code : CodeParts) (of : IsCodeOf all code) (fuel : ℕ) → moved_start of.places (main_of all fuel) ≡ code_start code fuel
start_is all code of fuel =
    ap {B = Start CodeScript} (λ n. main_start (record { script = record { entry = n; copies = [] }; clauses = []; when = true; last = false; wait = false; priority = main_order.priority }) (cells_in all) fuel) of.main_first
    ∙ ap {B = Start CodeScript} (λ n. main_start code_order n fuel) (sym (ap length of.first ∙ cells_are all))

pub main_outcomes_alike : MainOutcomesAlike
main_outcomes_alike all code of words fuel o =
    let both = outcomes_alike all code of (main_of all fuel) (first_cells all) (main_setting all fuel (subst AreWords of.first words)) o in
    let from = start_is all code of fuel in
    let there : Start CodeScript → List ℕ → Type 0 = λ main cells. IsOutcome (asks code) main cells o in (
      λ outcome. subst (λ cells. there (code_start code fuel) cells) (sym of.first) (subst (λ main. there main (first_cells all)) from (both.0 outcome)),
      λ outcome. both.1 (subst (λ main. there main (first_cells all)) (sym from) (subst (λ cells. there (code_start code fuel) cells) of.first outcome)),
    )
