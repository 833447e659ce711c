-- How a program is read from its tokens, from left to right. Each reader stands for the part of the grammar of the same name. Read
-- against: of `int x, y[2][3]; }` a program of two globals is read and `}` is left; a whole text stops there.
use Rattle.std.specs.Prelude.{ℕ, Bool, ◌||◌, List, [], ◌∷◌, ◌++◌, map, codes, Option, Some, None, Result, Ok, Err}
use Rattle.oss_syntax.specs.declared.token.Token.{Token}
use Rattle.oss_syntax.specs.declared.token.TokenKind.{TokenKind}
use Rattle.oss_syntax.specs.declared.token.TokenKind.TheVariants as kinds
use Rattle.oss_syntax.specs.declared.tree.expr.Expr.{Expr}
use Rattle.oss_syntax.specs.declared.tree.pragma.Directive.{Directive}
use Rattle.oss_syntax.specs.declared.tree.pragma.Directive.TheVariants as directive
use Rattle.oss_syntax.specs.declared.tree.pragma.TaskMark.{TaskMark}
use Rattle.oss_syntax.specs.declared.tree.program.GlobalDef.{GlobalDef}
use Rattle.oss_syntax.specs.declared.tree.program.Item.{Item}
use Rattle.oss_syntax.specs.declared.tree.program.Item.TheVariants as items
use Rattle.oss_syntax.specs.declared.tree.program.Kind.{Kind}
use Rattle.oss_syntax.specs.declared.tree.program.Kind.TheVariants as kind
use Rattle.oss_syntax.specs.declared.tree.program.Local.{Local}
use Rattle.oss_syntax.specs.declared.tree.program.NumKind.{NumKind}
use Rattle.oss_syntax.specs.declared.tree.program.Program.{Program}
use Rattle.oss_syntax.specs.declared.tree.stmt.Stmt.{Stmt}
use Rattle.oss_grammar.specs.Programs.{cells_of_rows}
use Rattle.oss_grammar.specs.Reading.{Reader, Stop, has, read_one, read_then, read_nothing, read_mapped, read_both, read_either, read_steps}
use Rattle.oss_grammar.specs.Reading.Stop.{Syntax}
use Rattle.oss_grammar.specs.Values.{negated}
use Rattle.oss_expressions.specs.declared.cursor.Named.{Named}
use Rattle.oss_expressions.specs.ExpressionReading.{latter, former, middle, read_list, read_more, read_expression}
use Rattle.oss_expressions.specs.TokenValues.{symbol_at, keyword_at, start_at, name_at}
use Rattle.oss_pragma.specs.PragmaReading.{read_task, read_pragma}
use Rattle.oss_parse.specs.SimpleReading.{read_num_kind, begins_kind, read_declared, local_of}
use Rattle.oss_parse.specs.StatementReading.{read_items}

-- The value of a number.
abbrev pub value_in : TokenKind → Option ℕ
value_in (kinds.Number value unsigned) = Some value
value_in _ = None

abbrev pub value_at : Token → Option ℕ
value_at t = value_in t.what

-- [ "-" ] number
unfoldable pub read_first_value : Reader ℕ
read_first_value = read_either (has (symbol_at (codes "-"))) (read_mapped negated (read_mapped latter (read_both (read_one (symbol_at (codes "-"))) (read_one value_at)))) (read_one value_at)

-- The trees of globals.
abbrev pub scalar_of : NumKind → Named → ℕ → GlobalDef
scalar_of numbers name first = record { name = name.name; kind = numbers; cells = None; columns = None; first = first; line = name.line }

abbrev pub array_of : NumKind → Named → ℕ → GlobalDef
array_of numbers name cells = record { name = name.name; kind = numbers; cells = Some cells; columns = None; first = 0; line = name.line }

abbrev pub grid_of : NumKind → Named → ℕ → ℕ → GlobalDef
grid_of numbers name rows columns = record { name = name.name; kind = numbers; cells = Some (cells_of_rows rows columns); columns = Some columns; first = 0; line = name.line }

-- "[" number "]"
unfoldable pub read_size : Reader ℕ
read_size = read_mapped middle (read_both (read_one (symbol_at (codes "["))) (read_both (read_one value_at) (read_one (symbol_at (codes "]")))))

-- [ "[" number "]" ], behind so many cells or rows of an array
unfoldable pub read_array_from : NumKind → Named → ℕ → Reader GlobalDef
read_array_from numbers name rows = read_either (has (symbol_at (codes "["))) (read_mapped (grid_of numbers name rows) read_size) (read_nothing (array_of numbers name rows))

-- "[" number "]" [ "[" number "]" ] | "=" [ "-" ] number | nothing, behind the name of a global
unfoldable pub read_global_from : NumKind → Named → Reader GlobalDef
read_global_from numbers name =
    read_either (has (symbol_at (codes "="))) (read_mapped (scalar_of numbers name) (read_mapped latter (read_both (read_one (symbol_at (codes "="))) read_first_value)))
    (read_either (has (symbol_at (codes "["))) (read_then read_size (read_array_from numbers name)) (read_nothing (scalar_of numbers name 0)))

-- name | name "[" number "]" [ "[" number "]" ] | name "=" [ "-" ] number
unfoldable pub read_global : NumKind → Reader GlobalDef
read_global numbers = read_then (read_one name_at) (read_global_from numbers)

abbrev pub globals_of : List GlobalDef × ℕ → List Item
globals_of p = map items.Global p.0

-- { "," gdecl } ";", behind the name of the first global
unfoldable pub read_globals_from : NumKind → Named → Reader (List Item)
read_globals_from numbers name =
    read_mapped globals_of (read_both (read_then (read_global_from numbers name) (λ first. read_more (read_global numbers) (first ∷ []))) (read_one (symbol_at (codes ";"))))

abbrev pub parameter_of : Kind × Named → Local
parameter_of d = local_of d None

-- type [ "*" ] name
unfoldable pub read_parameter : Reader Local
read_parameter = read_then read_num_kind (λ k. read_mapped parameter_of (read_declared k.0))

-- [ "void" | param { "," param } ] ")"
unfoldable pub read_parameters : Reader (List Local)
read_parameters =
    read_either (has (symbol_at (codes ")"))) (read_mapped (λ line. []) (read_one (symbol_at (codes ")"))))
    (read_either (has (keyword_at (codes "void"))) (read_mapped (λ lines. []) (read_both (read_one (keyword_at (codes "void"))) (read_one (symbol_at (codes ")")))))
    (read_mapped former (read_both (read_list read_parameter) (read_one (symbol_at (codes ")"))))))

-- The tree of a function.
abbrev pub function_of : Option TaskMark → Kind → Named → List Local × List Stmt → Item
function_of mark result name p = items.Function (record { name = name.name; result = result; params = p.0; mark = mark; body = p.1; line = name.line })

abbrev pub just : Item → List Item
just item = item ∷ []

-- "(" [ params ] ")" "{" items "}"
abbrev pub read_function_parts : Reader (List Stmt) → Reader (List Local × List Stmt)
read_function_parts body =
    read_mapped latter (read_both (read_one (symbol_at (codes "("))) (read_both read_parameters
    (read_mapped middle (read_both (read_one (symbol_at (codes "{"))) (read_both body (read_one (symbol_at (codes "}"))))))))

-- The same behind the name of a function, as the function that it makes.
unfoldable pub read_function_from : Reader (List Stmt) → Option TaskMark → Kind → Named → Reader (List Item)
read_function_from body mark result name = read_mapped (λ p. just (function_of mark result name p)) (read_function_parts body)

-- Globals or a function, behind their type and the first name.
unfoldable pub read_typed_from : Reader (List Stmt) → NumKind → Named → Reader (List Item)
read_typed_from body numbers name =
    read_either (has (symbol_at (codes "("))) (read_function_from body None (kind.Num numbers) name) (read_globals_from numbers name)

-- Globals or a function that begin with the type of numbers.
unfoldable pub read_typed : Reader (List Stmt) → Reader (List Item)
read_typed body = read_then read_num_kind (λ k. read_then (read_one name_at) (read_typed_from body k.0))

-- type | "void"
unfoldable pub read_result : Reader Kind
read_result = read_either (has (keyword_at (codes "void"))) (read_mapped (λ line. kind.Nothing) (read_one (keyword_at (codes "void")))) (read_mapped (λ k. kind.Num (former k)) read_num_kind)

-- A function that begins with `void`.
unfoldable pub read_void : Reader (List Stmt) → Reader (List Item)
read_void body = read_then (read_one (keyword_at (codes "void"))) (λ line. read_then (read_one name_at) (read_function_from body None kind.Nothing))

-- The mark in the pragma of a task.
abbrev pub mark_in : Directive → Option TaskMark
mark_in (directive.Task mark) = Some mark
mark_in _ = None

-- start "task" { [ "," ] clause } end
unfoldable pub read_mark : Reader Expr → Reader (Option TaskMark)
read_mark expression = read_mapped mark_in (read_then (read_one start_at) (read_task expression))

-- A function with a pragma before it.
unfoldable pub read_marked : Reader Expr → Reader (List Stmt) → Reader (List Item)
read_marked expression body =
    read_then (read_mark expression) (λ mark. read_then read_result (λ result. read_then (read_one name_at) (read_function_from body mark result)))

-- type gdecl { "," gdecl } ";" | [ task ] ( type | "void" ) name "(" [ params ] ")" block
unfoldable pub read_program_item : Reader Expr → Reader (List Stmt) → Reader (List Item)
read_program_item expression body =
    read_either (has start_at) (read_marked expression body) (read_either (has (keyword_at (codes "void"))) (read_void body) (read_typed body))

-- Whether a token begins an item of a program.
abbrev pub begins_program_item : Token → Bool
begins_program_item t = has start_at t || (has (keyword_at (codes "void")) t || begins_kind t)

-- { item }
unfoldable pub read_program_items : Reader Expr → Reader (List Stmt) → Reader (List Item)
read_program_items expression body = read_steps (λ found. begins_program_item) (λ found. read_mapped (λ more. found ++ more) (read_program_item expression body)) []

abbrev pub program_of : List Item → Program
program_of found = record { items = found }

-- A program, with at most 64 levels of statements.
unfoldable pub read_program : Reader Program
read_program = read_mapped program_of (read_program_items read_expression (read_items read_expression (read_pragma read_expression) 64))

-- Nothing is left over: reading stops at the first token behind the program.
abbrev pub whole_told : Result (Program × List Token) Stop → Result (Program × List Token) Stop
whole_told (Ok (found, [])) = Ok (found, [])
whole_told (Ok (found, t ∷ rest)) = Err (Syntax (t ∷ rest))
whole_told (Err stop) = Err stop

-- A whole text.
unfoldable pub read_text : Reader Program
read_text ts = whole_told (read_program ts)
