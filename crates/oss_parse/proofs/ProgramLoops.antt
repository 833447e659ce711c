-- Readers of the items of a program take a token at least, and how their loops go on.
use Rattle.std.proofs.Common.{◌≡◌, ℕ, List, [], ◌∷◌, ◌++◌, ◌∙◌, ap, codes, refl, Option, None, Ok, Err}
use Rattle.oss_syntax.specs.declared.token.Token.{Token}
use Rattle.oss_syntax.specs.declared.tree.pragma.TaskMark.{TaskMark}
use Rattle.oss_syntax.specs.declared.tree.program.GlobalDef.{GlobalDef}
use Rattle.oss_syntax.specs.declared.tree.program.Item.{Item}
use Rattle.oss_syntax.specs.declared.tree.program.Kind.{Kind}
use Rattle.oss_syntax.specs.declared.tree.program.Kind.TheVariants as kind
use Rattle.oss_syntax.specs.declared.tree.program.Local.{Local}
use Rattle.oss_syntax.specs.declared.tree.program.NumKind.{NumKind}
use Rattle.oss_grammar.specs.Reading.{Reader, Stop, has, go_on, read_one, read_then, read_mapped, read_steps}
use Rattle.oss_grammar.specs.Values.{negated}
use Rattle.oss_expressions.specs.TokenValues.{symbol_at, keyword_at, start_at, name_at}
use Rattle.oss_expressions.specs.ExpressionReading.{latter, former, middle, and_then, read_next, read_more, read_expression}
use Rattle.oss_expressions.specs.declared.cursor.Named.{Named}
use Rattle.oss_expressions.proofs.StepLoops.{Takes, Keeps, keeps, takes_one, keeps_nothing, takes_mapped, keeps_mapped, takes_then, takes_both, takes_either, keeps_either, Repeats, repeats}
use Rattle.oss_expressions.proofs.ExpressionLoops.{takes_list, keeps_more, repeats_more}
use Rattle.oss_pragma.specs.PragmaReading.{read_task}
use Rattle.oss_parse.specs.Inner.{read_body}
use Rattle.oss_parse.specs.SimpleReading.{read_declared}
use Rattle.oss_parse.specs.ProgramReading.{value_at, read_first_value, scalar_of, array_of, grid_of, read_size, read_array_from, read_global_from, read_global, globals_of, read_globals_from, parameter_of, read_parameter, read_parameters, function_of, just, read_function_from, read_typed_from, read_typed, read_result, read_void, mark_in, read_mark, read_marked, read_program_item, begins_program_item, read_program_items, program_of, read_program}
use Rattle.oss_parse.proofs.SimpleLoops.{keeps_then, keeps_both, takes_num_kind, takes_declared}
use Rattle.oss_parse.proofs.StatementLoops.{keeps_parts, keeps_task}

takes_symbol : (s : List ℕ) → Takes (read_one (symbol_at s))
takes_symbol s = takes_one (symbol_at s)

takes_first_value : Takes read_first_value
unfolding read_first_value
takes_first_value = takes_either (has (symbol_at (codes "-"))) (takes_mapped negated (takes_mapped latter (takes_both (takes_symbol (codes "-")) (keeps (takes_one value_at))))) (takes_one value_at)

takes_size : Takes read_size
unfolding read_size
takes_size = takes_mapped middle (takes_both (takes_symbol (codes "[")) (keeps (takes_both (takes_one value_at) (keeps (takes_symbol (codes "]"))))))

keeps_array_from : (numbers : NumKind) (name : Named) (rows : ℕ) → Keeps (read_array_from numbers name rows)
unfolding read_array_from
keeps_array_from numbers name rows = keeps_either (has (symbol_at (codes "["))) (keeps (takes_mapped (grid_of numbers name rows) takes_size)) (keeps_nothing (array_of numbers name rows))

keeps_global_from : (numbers : NumKind) (name : Named) → Keeps (read_global_from numbers name)
unfolding read_global_from
keeps_global_from numbers name =
    keeps_either (has (symbol_at (codes "="))) (keeps (takes_mapped (scalar_of numbers name) (takes_mapped latter (takes_both (takes_symbol (codes "=")) (keeps takes_first_value)))))
    (keeps_either (has (symbol_at (codes "["))) (keeps (takes_then (read_array_from numbers name) takes_size (keeps_array_from numbers name))) (keeps_nothing (scalar_of numbers name 0)))

takes_global : (numbers : NumKind) → Takes (read_global numbers)
unfolding read_global
takes_global numbers = takes_then (read_global_from numbers) (takes_one name_at) (keeps_global_from numbers)

pub repeats_globals : (numbers : NumKind) → Repeats {S = List GlobalDef} (λ found. has (symbol_at (codes ","))) and_then (λ found. read_next (read_global numbers))
repeats_globals numbers = repeats_more (takes_global numbers)

keeps_globals_from : (numbers : NumKind) (name : Named) → Keeps (read_globals_from numbers name)
unfolding read_globals_from
keeps_globals_from numbers name = keeps_mapped globals_of (keeps_both
    (keeps_then (λ first. read_more (read_global numbers) (first ∷ [])) (keeps_global_from numbers name) (λ first. keeps_more (takes_global numbers) (first ∷ [])))
    (keeps (takes_symbol (codes ";"))))

takes_parameter : Takes read_parameter
unfolding read_parameter
takes_parameter = takes_then (λ k. read_mapped parameter_of (read_declared k.0)) takes_num_kind (λ k. keeps (takes_mapped parameter_of (takes_declared k.0)))

pub repeats_parameters : Repeats {S = List Local} (λ found. has (symbol_at (codes ","))) and_then (λ found. read_next read_parameter)
repeats_parameters = repeats_more takes_parameter

takes_parameters : Takes read_parameters
unfolding read_parameters
takes_parameters =
    takes_either (has (symbol_at (codes ")"))) (takes_mapped (λ line. []) (takes_symbol (codes ")")))
    (takes_either (has (keyword_at (codes "void"))) (takes_mapped (λ lines. []) (takes_both (takes_one (keyword_at (codes "void"))) (keeps (takes_symbol (codes ")")))))
    (takes_mapped former (takes_both (takes_list takes_parameter) (keeps (takes_symbol (codes ")"))))))

keeps_body : Keeps read_body
unfolding read_body
keeps_body = keeps_parts 64

takes_function_from : (mark : Option TaskMark) (result : Kind) (name : Named) → Takes (read_function_from read_body mark result name)
unfolding read_function_from
takes_function_from mark result name =
    takes_mapped (λ p. just (function_of mark result name p)) (takes_mapped latter (takes_both (takes_symbol (codes "(")) (keeps (takes_both takes_parameters
    (keeps (takes_mapped middle (takes_both (takes_symbol (codes "{")) (keeps_both keeps_body (keeps (takes_symbol (codes "}")))))))))))

keeps_typed_from : (numbers : NumKind) (name : Named) → Keeps (read_typed_from read_body numbers name)
unfolding read_typed_from
keeps_typed_from numbers name = keeps_either (has (symbol_at (codes "("))) (keeps (takes_function_from None (kind.Num numbers) name)) (keeps_globals_from numbers name)

takes_typed : Takes (read_typed read_body)
unfolding read_typed
takes_typed = takes_then (λ k. read_then (read_one name_at) (read_typed_from read_body k.0)) takes_num_kind
    (λ k. keeps (takes_then (read_typed_from read_body k.0) (takes_one name_at) (keeps_typed_from k.0)))

takes_result : Takes read_result
unfolding read_result
takes_result = takes_either (has (keyword_at (codes "void"))) (takes_mapped (λ line. kind.Nothing) (takes_one (keyword_at (codes "void")))) (takes_mapped (λ k. kind.Num (former k)) takes_num_kind)

-- a name and the function behind it
takes_named : (mark : Option TaskMark) (result : Kind) → Takes (read_then (read_one name_at) (read_function_from read_body mark result))
takes_named mark result = takes_then (read_function_from read_body mark result) (takes_one name_at) (λ name. keeps (takes_function_from mark result name))

takes_void : Takes (read_void read_body)
unfolding read_void
takes_void = takes_then (λ line. read_then (read_one name_at) (read_function_from read_body None kind.Nothing)) (takes_one (keyword_at (codes "void"))) (λ line. keeps (takes_named None kind.Nothing))

takes_mark : Takes (read_mark read_expression)
unfolding read_mark
takes_mark = takes_mapped mark_in (takes_then (read_task read_expression) (takes_one start_at) keeps_task)

takes_marked : Takes (read_marked read_expression read_body)
unfolding read_marked
takes_marked = takes_then (λ mark. read_then read_result (λ result. read_then (read_one name_at) (read_function_from read_body mark result))) takes_mark
    (λ mark. keeps (takes_then (λ result. read_then (read_one name_at) (read_function_from read_body mark result)) takes_result (λ result. keeps (takes_named mark result))))

takes_program_item : Takes (read_program_item read_expression read_body)
unfolding read_program_item
takes_program_item = takes_either (has start_at) takes_marked (takes_either (has (keyword_at (codes "void"))) takes_void takes_typed)

-- one more item, or globals, behind those that were found
abbrev pub and_more : List Item → List Item → List Item
and_more found more = found ++ more

pub repeats_items : Repeats {S = List Item} (λ found. begins_program_item) and_more (λ found. read_program_item read_expression read_body)
repeats_items = repeats (λ found. begins_program_item) and_more (λ found. read_program_item read_expression read_body) (λ found. takes_program_item)

-- what is read of the items of a program behind those that were found
unfoldable pub read_items_behind : List Item → Reader (List Item)
read_items_behind found = read_steps (λ found. begins_program_item) (λ found. read_mapped (and_more found) (read_program_item read_expression read_body)) found

-- a program is its items
program_is : (ts : List Token) → read_program ts ≡ read_mapped program_of (read_program_items read_expression read_body) ts
unfolding read_program read_body
program_is ts = refl

pub program_ok : (ts rest : List Token) (found : List Item) → read_program_items read_expression read_body ts ≡ Ok (found, rest) → read_program ts ≡ Ok (program_of found, rest)
program_ok ts rest found e = program_is ts ∙ ap (λ o. go_on o (λ a left. Ok (program_of a, left))) e

pub program_fail : (ts : List Token) (why : Stop) → read_program_items read_expression read_body ts ≡ Err why → read_program ts ≡ Err why
program_fail ts why e = program_is ts ∙ ap (λ o. go_on o (λ a left. Ok (program_of a, left))) e
