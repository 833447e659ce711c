-- A program of a text has no more than four times as much size as the text has bytes.
use Rattle.std.proofs.Common.{◌≡◌, ◌+◌, ◌*◌, ◌≤◌, List, [], ◌∷◌, ◌++◌, length, map, Option, arith, length-append}
use Rattle.oss_syntax.specs.declared.token.Token.{Token}
use Rattle.oss_syntax.specs.declared.tree.pragma.TaskMark.{TaskMark}
use Rattle.oss_syntax.specs.declared.tree.program.Function.{Function}
use Rattle.oss_syntax.specs.declared.tree.program.GlobalDef.{GlobalDef}
use Rattle.oss_syntax.specs.declared.tree.program.Item.{Item}
use Rattle.oss_syntax.specs.declared.tree.program.Item.TheVariants as items
use Rattle.oss_syntax.specs.declared.tree.program.Local.{Local}
use Rattle.oss_syntax.specs.declared.tree.program.NumKind.{NumKind}
use Rattle.oss_syntax.specs.declared.tree.program.Program.{Program}
use Rattle.oss_grammar.specs.Programs.{IsFunction, IsGlobal, IsGlobals, IsItem, IsMark, IsParameter, IsParameterList, IsParameters, IsProgram, IsProgramItems}
use Rattle.oss_grammar.specs.Programs.IsFunction.{function}
use Rattle.oss_grammar.specs.Programs.IsGlobal.{array_global, first_global, grid_global, scalar_global}
use Rattle.oss_grammar.specs.Programs.IsGlobals.{last_global, next_global}
use Rattle.oss_grammar.specs.Programs.IsItem.{globals, one_function}
use Rattle.oss_grammar.specs.Programs.IsMark.{no_mark, some_mark}
use Rattle.oss_grammar.specs.Programs.IsParameter.{parameter}
use Rattle.oss_grammar.specs.Programs.IsParameterList.{last_parameter, next_parameter}
use Rattle.oss_grammar.specs.Programs.IsParameters.{no_parameters, some_parameters, void_parameters}
use Rattle.oss_grammar.specs.Programs.IsProgram.{program}
use Rattle.oss_grammar.specs.Programs.IsProgramItems.{more_items, no_items}
use Rattle.oss_lower_bounds.specs.Bounds.{TextsAreSmall}
use Rattle.oss_lower_bounds.specs.Sizes.{item_size, items_size, locals_size, mark_size}
use Rattle.oss_lower_bounds.proofs.TextExpressions.{closed_by, pragma_few, tokens}
use Rattle.oss_lower_bounds.proofs.TextStatements.{declared_some, items_few}
use Rattle.oss_lower_bounds.proofs.TokenCounts.{tokens_few}
use Rattle.oss_lower_bounds.proofs.WrittenSizes.{items_written}

global_some : {numbers : NumKind} {ts : List Token} {g : GlobalDef} → IsGlobal numbers ts g → 1 ≤ length ts
global_some (scalar_global t word split is) = omega (arith, tokens split)
global_some (first_global t word mark back split is1 is2 d) = omega (arith, tokens split)
global_some (array_global t word opened number cells unsigned closed split is1 is2 is3 is4) = omega (arith, tokens split)
global_some (grid_global t word opened number rows unsigned closed again second columns second_unsigned ended split is1 is2 is3 is4 is5 is6 is7) = omega (arith, tokens split)

globals_few : {numbers : NumKind} {ts : List Token} {gs : List GlobalDef} → IsGlobals numbers ts gs → items_size (map items.Global gs) ≤ length ts
globals_few (last_global d) = omega (arith, global_some d)
globals_few (next_global front comma back split is d rest) = omega (arith, tokens split, length-append front (comma ∷ back), globals_few rest)

parameter_few : {ts : List Token} {l : Local} → IsParameter ts l → locals_size (l ∷ []) ≤ length ts
parameter_few (parameter front back split d f) = omega (arith, tokens split, length-append front back, declared_some f)

list_few : {ts : List Token} {ls : List Local} → IsParameterList ts ls → locals_size ls ≤ length ts
list_few (last_parameter d) = parameter_few d
list_few (next_parameter front comma back split is d rest) = omega (arith, tokens split, length-append front (comma ∷ back), parameter_few d, list_few rest)

parameters_few : {ts : List Token} {ls : List Local} → IsParameters ts ls → locals_size ls ≤ length ts
parameters_few (no_parameters split) = omega arith
parameters_few (void_parameters t split is) = omega arith
parameters_few (some_parameters d) = list_few d

mark_few : {ts : List Token} {o : Option TaskMark} → IsMark ts o → mark_size o ≤ length ts
mark_few (no_mark split) = omega arith
mark_few (some_mark d) = omega (arith, pragma_few d)

function_few : {ts : List Token} {f : Function} → IsFunction ts f → item_size (items.Function f) ≤ 4 * length ts
function_few (function marked front t word opened inner closed begins within ends split d is1 is2 is3 f is4 is5 g is6) =
    omega (
      arith,
      tokens split,
      length-append marked (front ++ (t ∷ opened ∷ (inner ++ (closed ∷ begins ∷ (within ++ (ends ∷ [])))))),
      length-append front (t ∷ opened ∷ (inner ++ (closed ∷ begins ∷ (within ++ (ends ∷ []))))),
      length-append inner (closed ∷ begins ∷ (within ++ (ends ∷ []))),
      closed_by within ends,
      mark_few d,
      parameters_few f,
      items_few g,
    )

item_few : {ts : List Token} {xs : List Item} → IsItem ts xs → items_size xs ≤ 4 * length ts
item_few (globals front middle mark split is1 d is2) = omega (arith, tokens split, length-append front (middle ++ (mark ∷ [])), closed_by middle mark, globals_few d)
item_few (one_function d) = omega (arith, function_few d)

pub size_append : (xs ys : List Item) → items_size (xs ++ ys) ≡ items_size xs + items_size ys
size_append [] ys = omega arith
size_append (x ∷ xs) ys = omega (arith, size_append xs ys)

all_few : {ts : List Token} {xs : List Item} → IsProgramItems ts xs → items_size xs ≤ 4 * length ts
all_few (no_items split) = omega arith
all_few (more_items {first = xs} {more = ys} front back split d rest) = omega (arith, tokens split, length-append front back, size_append xs ys, item_few d, all_few rest)

program_few : {ts : List Token} {p : Program} → IsProgram ts p → items_size p.items ≤ 4 * length ts
program_few (program d) = all_few d

pub texts_are_small : TextsAreSmall
texts_are_small text p is = omega (arith, items_written p.items, program_few is.is_program, tokens_few is.tokens is.are_tokens)
