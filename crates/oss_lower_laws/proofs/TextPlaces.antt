-- The globals of an accepted program have their places: the numbers of its tokens have 64 bits, and the rules ask for the rest.
use Rattle.std.proofs.Common.{◌≡◌, ◌<◌, ◌≤◌, ℕ, zero, suc, ◌+◌, ◌*◌, Bool, true, false, List, [], ◌∷◌, ◌++◌, map, Option, Some, None, sym, ap, subst, arith}
use Rattle.std.proofs.Math.Nat.{mod-lt, suc-mul}
use Rattle.std.specs.Option.{ForSome}
use Rattle.std.specs.Prelude.{◌-◌, ◌^◌, if◌then◌else◌, nat_lt}
use Rattle.oss_syntax.specs.declared.token.Token.{Token}
use Rattle.oss_syntax.specs.declared.token.TokenKind.{TokenKind}
use Rattle.oss_syntax.specs.declared.token.TokenKind.TheVariants as kinds
use Rattle.oss_syntax.specs.declared.tree.program.GlobalDef.{GlobalDef}
use Rattle.oss_syntax.specs.declared.tree.program.Item.{Item}
use Rattle.oss_syntax.specs.declared.tree.program.Item.TheVariants as items
use Rattle.oss_syntax.specs.declared.tree.program.NumKind.{NumKind}
use Rattle.oss_syntax.specs.declared.tree.program.Program.{Program}
use Rattle.oss_grammar.specs.declared.line_part.LinePart.{LinePart}
use Rattle.oss_grammar.specs.Broken.{first}
use Rattle.oss_grammar.specs.Layout.{cells_of}
use Rattle.oss_grammar.specs.Parsing.{IsProgramText}
use Rattle.oss_grammar.specs.ProgramRules.{function_rules, global_rules, items_rules, program_rules}
use Rattle.oss_grammar.specs.Programs.{IsFirstValue, IsGlobal, IsGlobals, IsItem, IsProgram, IsProgramItems, cells_of_rows}
use Rattle.oss_grammar.specs.Programs.IsFirstValue.{negative_value, plain_value}
use Rattle.oss_grammar.specs.Programs.IsGlobal.{array_global, first_global, grid_global, scalar_global}
use Rattle.oss_grammar.specs.Programs.IsGlobals.{last_global, next_global}
use Rattle.oss_grammar.specs.Programs.IsItem.{globals, one_function}
use Rattle.oss_grammar.specs.Programs.IsProgram.{program}
use Rattle.oss_grammar.specs.Programs.IsProgramItems.{more_items, no_items}
use Rattle.oss_grammar.specs.TaskLoops.{item_written, program_written}
use Rattle.oss_grammar.specs.Tokens.{Front, IsFront, Tokens, found_before}
use Rattle.oss_grammar.specs.Tokens.IsFront.{directive, gap, include, newline, other_pragma, pragma_end, pragma_oss, token}
use Rattle.oss_grammar.specs.Tokens.Tokens.{done, step}
use Rattle.oss_grammar.specs.Words.{IsWord}
use Rattle.oss_model.specs.Agreement.{Setting}
use Rattle.oss_meaning.specs.Results.{first_cells, main_of}
use Rattle.oss_names.proofs.Parts.{append-left, append-right}
use Rattle.oss_names.proofs.ProgramLemmas.{global-cells}
use Rattle.oss_lower_laws.specs.Programs.{AcceptedPlacesAreTold, AcceptedProgramsHaveOneOutcome, AreTold, HavePlaces}
use Rattle.oss_lower_laws.proofs.OneResult.{IsSomething, value_or}
use Rattle.oss_lower_laws.proofs.OutcomeLaws.{a_program_has_one_outcome, main_setting, words_from}

-- Tokens

abbrev Fits : TokenKind → Type 0
Fits (kinds.Number value unsigned) = value < 2 ^ 64
Fits _ = Unit {0}

abbrev FoundFits : Option TokenKind → Type 0
FoundFits None = Unit {0}
FoundFits (Some what) = Fits what

abbrev AllFit : List Token → Type 0
AllFit [] = Unit {0}
AllFit (t ∷ ts) = Fits t.what × AllFit ts

word_fits : (what : TokenKind) (word : List ℕ) → IsWord what word → Fits what
word_fits (kinds.Name name) word h = tt
word_fits (kinds.Keyword name) word h = tt
word_fits (kinds.Number value unsigned) word h = h.fits
word_fits (kinds.Text bytes) word h = tt
word_fits (kinds.Symbol symbol) word h = tt
word_fits kinds.PragmaOss word h = tt
word_fits kinds.PragmaEnd word h = tt
word_fits kinds.Directive word h = tt

front_fits : {part : LinePart} {text : List ℕ} (front : Front) → IsFront part text front → FoundFits front.what
front_fits front (newline rest other split) = tt
front_fits front (pragma_end rest split) = tt
front_fits front (gap word rest split is_gap) = tt
front_fits front (token what rest begins) = word_fits what begins.word begins.is_word
front_fits front (include line rest has is_line) = tt
front_fits front (pragma_oss gaps next rest has are_gaps oss) = tt
front_fits front (other_pragma gaps line rest has are_gaps no_comment no_oss is_line) = tt
front_fits front (directive line rest split no_include no_pragma is_line) = tt

before_fit : (found : Option TokenKind) (line : ℕ) (ts : List Token) → FoundFits found → AllFit ts → AllFit (found_before found line ts)
before_fit None line ts here rest = rest
before_fit (Some what) line ts here rest = (here, rest)

all_fit : {part : LinePart} {line : ℕ} {text : List ℕ} (ts : List Token) → Tokens part line text ts → AllFit ts
all_fit ts (done over) = tt
all_fit {line = line} ts (step front more is_front rest split) = subst AllFit (sym split) (before_fit front.what line more (front_fits front is_front) (all_fit more rest))

fit_left : (xs ys : List Token) → AllFit (xs ++ ys) → AllFit xs
fit_left [] ys h = tt
fit_left (x ∷ xs) ys h = (h.0, fit_left xs ys h.1)

fit_right : (xs ys : List Token) → AllFit (xs ++ ys) → AllFit ys
fit_right [] ys h = h
fit_right (x ∷ xs) ys h = fit_right xs ys h.1

-- Globals

-- it begins with a number of 64 bits, and where it has a cell, a row of it has one and no more than it
record IsWellSized (d : GlobalDef) : Type 0 where
  word : d.first < 2 ^ 64
  wide : 0 < cells_of d.cells → ForSome d.columns (λ columns. 0 < columns)
  narrow : 0 < cells_of d.cells → ForSome d.columns (λ columns. columns ≤ cells_of d.cells)

abbrev AreWellSized : List Item → Type 0
AreWellSized [] = Unit {0}
AreWellSized (items.Global d ∷ rest) = IsWellSized d × AreWellSized rest
AreWellSized (items.Function f ∷ rest) = AreWellSized rest

no_columns : (P : ℕ → Type 0) → ForSome None P
no_columns P columns e = absurd (subst IsSomething (sym e) tt)

value_fits : (ts : List Token) (value : ℕ) → IsFirstValue ts value → AllFit ts → value < 2 ^ 64
value_fits ts value (plain_value t v unsigned split is) h = subst Fits is (subst AllFit split h).0
value_fits ts value (negative_value mark t v unsigned split minus is) h = mod-lt (2 ^ 64 - v) {m = 2 ^ 64} (omega arith)

no_row : (rows : ℕ) → cells_of_rows rows 0 ≡ 0
unfolding cells_of_rows
no_row rows = let none : rows * 0 ≡ 0 = omega arith in ap (λ n. if nat_lt n (2 ^ 64) then n else 2 ^ 64 - 1) none

wide_row : (rows columns : ℕ) → 0 < cells_of_rows rows columns → 0 < columns
wide_row rows zero h = absurd (omega (arith, h, no_row rows))
wide_row rows (suc columns) h = omega arith

at_most : (fits : Bool) (cells columns : ℕ) → columns ≤ cells → columns < 2 ^ 64 → columns ≤ (if fits then cells else 2 ^ 64 - 1)
at_most true cells columns few word = few
at_most false cells columns few word = omega arith

narrow_row : (rows columns : ℕ) → columns < 2 ^ 64 → 0 < cells_of_rows rows columns → columns ≤ cells_of_rows rows columns
unfolding cells_of_rows
narrow_row zero columns word some =
    let none : 0 * columns ≡ 0 = omega arith in
    let least : (if nat_lt (0 * columns) (2 ^ 64) then 0 * columns else 2 ^ 64 - 1) ≡ 0 = ap (λ n. if nat_lt n (2 ^ 64) then n else 2 ^ 64 - 1) none in
    absurd (omega (arith, some, least))
narrow_row (suc rows) columns word some =
    let more : suc rows * columns ≡ rows * columns + columns = suc-mul rows columns in
    at_most (nat_lt (suc rows * columns) (2 ^ 64)) (suc rows * columns) columns (omega (arith, more)) word

global_sized : {numbers : NumKind} (ts : List Token) (d : GlobalDef) → IsGlobal numbers ts d → AllFit ts → IsWellSized d
global_sized ts d (scalar_global t word split named) h = record { word = omega arith; wide = λ some. no_columns _; narrow = λ some. no_columns _ }
global_sized ts d (first_global {value = value} t word mark back split named equals is_value) h =
    record { word = value_fits back value is_value (subst AllFit split h).1.1; wide = λ some. no_columns _; narrow = λ some. no_columns _ }
global_sized ts d (array_global t word opened number cells unsigned closed split named opens is_number closes) h = record { word = omega arith; wide = λ some. no_columns _; narrow = λ some. no_columns _ }
global_sized ts d (grid_global t word opened number rows unsigned closed again second columns second_unsigned ended split named opens is_rows closes reopens is_columns ends) h =
    let fits : columns < 2 ^ 64 = subst Fits is_columns (subst AllFit split h).1.1.1.1.1.0 in
    record {
      word = omega arith;
      wide = λ some n e. subst (λ k. 0 < k) (ap (λ o. value_or o n) e) (wide_row rows columns some);
      narrow = λ some n e. subst (λ k. k ≤ cells_of_rows rows columns) (ap (λ o. value_or o n) e) (narrow_row rows columns fits some);
    }

globals_sized : {numbers : NumKind} (ts : List Token) (gs : List GlobalDef) → IsGlobals numbers ts gs → AllFit ts → AreWellSized (map items.Global gs)
globals_sized ts gs (last_global {g = g} is) h = (global_sized ts g is h, tt)
globals_sized ts gs (next_global {g = g} {more = more} front comma back split is_comma is rest) h =
    let parts = subst AllFit split h in
    (global_sized front g is (fit_left front (comma ∷ back) parts), globals_sized back more rest (fit_right front (comma ∷ back) parts).1)

item_sized : (ts : List Token) (found : List Item) → IsItem ts found → AllFit ts → AreWellSized found
item_sized ts found (globals {gs = gs} front middle mark split is_kind are ends) h =
    globals_sized middle gs are (fit_left middle (mark ∷ []) (fit_right front (middle ++ (mark ∷ [])) (subst AllFit split h)))
item_sized ts found (one_function is) h = tt

sized_append : (xs ys : List Item) → AreWellSized xs → AreWellSized ys → AreWellSized (xs ++ ys)
sized_append [] ys h k = k
sized_append (items.Global d ∷ xs) ys h k = (h.0, sized_append xs ys h.1 k)
sized_append (items.Function f ∷ xs) ys h k = sized_append xs ys h k

items_sized : (ts : List Token) (found : List Item) → IsProgramItems ts found → AllFit ts → AreWellSized found
items_sized ts found (no_items none) h = tt
items_sized ts found (more_items {first = one} {more = more} front back split is rest) h =
    let parts = subst AllFit split h in
    sized_append one more (item_sized front one is (fit_left front back parts)) (items_sized back more rest (fit_right front back parts))

program_sized : (ts : List Token) (p : Program) → IsProgram ts p → AllFit ts → AreWellSized p.items
program_sized ts p (program {found = found} are) h = items_sized ts found are h

-- Places

places_by : (all : List Item) (at start : ℕ) (xs : List Item) → first (items_rules all at start xs) ≡ None → AreWellSized xs → HavePlaces start xs
places_by all at start [] none h = tt
places_by all at start (items.Global d ∷ rest) none h =
    let here = global-cells all at start d (append-left (global_rules all at start d) (items_rules all (at + 1) (start + cells_of d.cells) rest) none) in
    let there = append-right (global_rules all at start d) (items_rules all (at + 1) (start + cells_of d.cells) rest) none in
    (record { some = here.0; few = here.1; wide = h.0.wide here.0; word = h.0.word }, places_by all (at + 1) (start + cells_of d.cells) rest there h.1)
places_by all at start (items.Function f ∷ rest) none h =
    places_by all (at + 1) start rest (append-right (function_rules all at f) (items_rules all (at + 1) start rest) none) h

told_by : (all : List Item) (at start : ℕ) (xs : List Item) → first (items_rules all at start xs) ≡ None → AreWellSized xs → HavePlaces start xs → AreTold start xs
told_by all at start [] none h places = tt
told_by all at start (items.Global d ∷ rest) none h places =
    let there = append-right (global_rules all at start d) (items_rules all (at + 1) (start + cells_of d.cells) rest) none in
    (record { place = places.0; narrow = h.0.narrow places.0.some }, told_by all (at + 1) (start + cells_of d.cells) rest there h.1 places.1)
told_by all at start (items.Function f ∷ rest) none h places =
    told_by all (at + 1) start rest (append-right (function_rules all at f) (items_rules all (at + 1) start rest) none) h places

told_written : (start : ℕ) (xs : List Item) → AreTold start xs → AreTold start (map item_written xs)
told_written start [] h = tt
told_written start (items.Global d ∷ rest) h = (h.0, told_written (start + cells_of d.cells) rest h.1)
told_written start (items.Function f ∷ rest) h = told_written start rest h

places_written : (start : ℕ) (xs : List Item) → HavePlaces start xs → HavePlaces start (map item_written xs)
places_written start [] h = tt
places_written start (items.Global d ∷ rest) h = (h.0, places_written (start + cells_of d.cells) rest h.1)
places_written start (items.Function f ∷ rest) h = places_written start rest h

pub accepted_places : (text : List ℕ) (p : Program) → IsProgramText text p → program_rules p ≡ [] → HavePlaces 0 (program_written p).items
accepted_places text p is obeys =
    let none = append-left (items_rules p.items 0 0 p.items) _ (ap first obeys) in
    places_written 0 p.items (places_by p.items 0 0 p.items none (program_sized is.tokens p is.is_program (all_fit is.tokens is.are_tokens)))

-- main and the cells at the start of such a program
pub accepted_setting : (text : List ℕ) (p : Program) → IsProgramText text p → program_rules p ≡ [] → (fuel : ℕ)
    → Setting (main_of (program_written p).items fuel) (first_cells (program_written p).items)
accepted_setting text p is obeys fuel =
    main_setting (program_written p).items fuel (words_from 0 (program_written p).items (accepted_places text p is obeys))

pub accepted_programs_have_one_outcome : AcceptedProgramsHaveOneOutcome
accepted_programs_have_one_outcome text p is obeys fuel = a_program_has_one_outcome (program_written p).items (accepted_places text p is obeys) fuel

pub accepted_places_are_told : AcceptedPlacesAreTold
accepted_places_are_told text p is obeys =
    let none = append-left (items_rules p.items 0 0 p.items) _ (ap first obeys) in
    let sized = program_sized is.tokens p is.is_program (all_fit is.tokens is.are_tokens) in
    told_written 0 p.items (told_by p.items 0 0 p.items none sized (places_by p.items 0 0 p.items none sized))
