-- How a simple statement and a declaration are read from their tokens, from left to right, by a reader of expressions. Each reader
-- stands for the part of the grammar of the same name. Read against: `m[i][j] += 1 ;` is read as an assignment with the operator `+`, and
-- `;` is left; of `x ;` reading stops at `;`, and of `m[i][j][k] = 1 ;` at the third `[`.
use Rattle.std.specs.Prelude.{ℕ, Bool, ◌||◌, if◌then◌else◌, List, codes, Option, Some, None}
use Rattle.oss_syntax.specs.declared.token.Token.{Token}
use Rattle.oss_syntax.specs.declared.tree.expr.BinOp.{BinOp}
use Rattle.oss_syntax.specs.declared.tree.expr.Expr.{Expr}
use Rattle.oss_syntax.specs.declared.tree.expr.ExprKind.TheVariants as exprs
use Rattle.oss_syntax.specs.declared.tree.expr.UnOp.TheVariants as prefix
use Rattle.oss_syntax.specs.declared.tree.program.Kind.{Kind}
use Rattle.oss_syntax.specs.declared.tree.program.Kind.TheVariants as kind
use Rattle.oss_syntax.specs.declared.tree.program.Local.{Local}
use Rattle.oss_syntax.specs.declared.tree.program.NumKind.{NumKind}
use Rattle.oss_syntax.specs.declared.tree.program.NumKind.TheVariants as num
use Rattle.oss_syntax.specs.declared.tree.stmt.Stmt.{Stmt}
use Rattle.oss_syntax.specs.declared.tree.stmt.StmtKind.TheVariants as stmts
use Rattle.oss_grammar.specs.OneToken.{is_keyword}
use Rattle.oss_grammar.specs.Reading.{Reader, has, read_one, read_then, read_nothing, read_mapped, read_both, read_either}
use Rattle.oss_grammar.specs.SimpleStatements.{assignment_of, step_of, one_at}
use Rattle.oss_expressions.specs.declared.cursor.Named.{Named}
use Rattle.oss_expressions.specs.ExpressionReading.{latter, middle, named_expression, indexed, read_list, read_arguments}
use Rattle.oss_expressions.specs.TokenValues.{symbol_at, keyword_at, name_at}

-- An assignment's operator, and a step with its line.
abbrev pub assignment_at : Token → Option (Option BinOp)
assignment_at t = assignment_of t.what

abbrev pub stepped_in : ℕ → Option BinOp → Option (BinOp × ℕ)
stepped_in line None = None
stepped_in line (Some operator) = Some (operator, line)

abbrev pub step_at : Token → Option (BinOp × ℕ)
step_at t = stepped_in t.line (step_of t.what)

abbrev pub star : Token → Bool
star = has (symbol_at (codes "*"))

-- The trees of targets and of simple statements.
abbrev pub deref_at : ℕ → Expr → Expr
deref_at line e = record { what = exprs.Unary prefix.Deref e; line = line }

abbrev pub assigned_to : Expr → Option BinOp × Expr → Stmt
assigned_to target p = record { what = stmts.Assign target p.0 p.1; line = target.line }

abbrev pub stepped_by : Expr → BinOp × ℕ → Stmt
stepped_by target p = record { what = stmts.Assign target (Some p.0) (one_at p.1); line = target.line }

abbrev pub step_before : (BinOp × ℕ) × Expr → Stmt
step_before p = record { what = stmts.Assign p.1 (Some p.0.0) (one_at p.0.1); line = p.0.1 }

abbrev pub call_statement : Named → List Expr → Stmt
call_statement name values = record { what = stmts.Call name.name values; line = name.line }

-- "[" expr "]" behind this expression
abbrev pub read_element : Reader Expr → Expr → Reader Expr
read_element expression base = read_mapped (indexed base) (read_mapped middle (read_both (read_one (symbol_at (codes "["))) (read_both expression (read_one (symbol_at (codes "]"))))))

-- [ "[" expr "]" ] behind an element of an array
unfoldable pub read_target_again : Reader Expr → Expr → Reader Expr
read_target_again expression base = read_either (has (symbol_at (codes "["))) (read_element expression base) (read_nothing base)

-- [ "[" expr "]" [ "[" expr "]" ] ] behind the name of a target
unfoldable pub read_target_from : Reader Expr → Named → Reader Expr
read_target_from expression name =
    read_either (has (symbol_at (codes "["))) (read_then (read_element expression (named_expression name)) (read_target_again expression)) (read_nothing (named_expression name))

-- name | "(" expr ")", behind the `*` of a target with this line
unfoldable pub read_pointed_at : Reader Expr → ℕ → Reader Expr
read_pointed_at expression line =
    read_either (has name_at) (read_mapped (λ name. deref_at line (named_expression name)) (read_one name_at))
    (read_mapped (deref_at line) (read_mapped middle (read_both (read_one (symbol_at (codes "("))) (read_both expression (read_one (symbol_at (codes ")")))))))

-- "*" ( name | "(" expr ")" )
unfoldable pub read_starred : Reader Expr → Reader Expr
read_starred expression = read_then (read_one (symbol_at (codes "*"))) (read_pointed_at expression)

-- name [ "[" expr "]" [ "[" expr "]" ] ] | "*" ( name | "(" expr ")" )
unfoldable pub read_target : Reader Expr → Reader Expr
read_target expression = read_either star (read_starred expression) (read_then (read_one name_at) (read_target_from expression))

-- assign expr | "++" | "--", behind a target
unfoldable pub read_assigned : Reader Expr → Expr → Reader Stmt
read_assigned expression target =
    read_either (has step_at) (read_mapped (stepped_by target) (read_one step_at)) (read_mapped (assigned_to target) (read_both (read_one assignment_at) expression))

-- ( "++" | "--" ) lvalue
unfoldable pub read_step_first : Reader Expr → Reader Stmt
read_step_first expression = read_mapped step_before (read_both (read_one step_at) (read_target expression))

-- "(" arguments ")", behind the name of a function
unfoldable pub read_called : Reader Expr → Named → Reader Stmt
read_called expression name = read_mapped (call_statement name) (read_mapped latter (read_both (read_one (symbol_at (codes "("))) (read_arguments expression)))

-- A call or an assignment, behind the name with which it begins.
unfoldable pub read_simple_from : Reader Expr → Named → Reader Stmt
read_simple_from expression name =
    read_either (has (symbol_at (codes "("))) (read_called expression name) (read_then (read_target_from expression name) (read_assigned expression))

-- lvalue assign expr | lvalue ( "++" | "--" ) | ( "++" | "--" ) lvalue | name "(" arguments ")"
unfoldable pub read_simple : Reader Expr → Reader Stmt
read_simple expression =
    read_either (has step_at) (read_step_first expression)
    (read_either star (read_then (read_starred expression) (read_assigned expression)) (read_then (read_one name_at) (read_simple_from expression)))

-- Whether a token begins a simple statement.
abbrev pub begins_simple : Token → Bool
begins_simple t = has step_at t || (star t || has name_at t)

-- A type of one word, with its line.
abbrev pub single_kind_at : Token → Option (NumKind × ℕ)
single_kind_at t = if is_keyword (codes "int") t.what then Some (num.Int, t.line) else (if is_keyword (codes "long") t.what then Some (num.Long, t.line) else None)

abbrev pub ulong_of : ℕ × ℕ → NumKind × ℕ
ulong_of lines = (num.Ulong, lines.0)

-- "int" | "long" | "unsigned" "long", with its line
unfoldable pub read_num_kind : Reader (NumKind × ℕ)
read_num_kind = read_either (has single_kind_at) (read_one single_kind_at) (read_mapped ulong_of (read_both (read_one (keyword_at (codes "unsigned"))) (read_one (keyword_at (codes "long")))))

-- Whether a token begins the type of numbers.
abbrev pub begins_kind : Token → Bool
begins_kind t = has single_kind_at t || has (keyword_at (codes "unsigned")) t

abbrev pub pointer_to : NumKind → ℕ × Named → Kind × Named
pointer_to numbers p = (kind.Pointer numbers, p.1)

abbrev pub number_of : NumKind → Named → Kind × Named
number_of numbers name = (kind.Num numbers, name)

-- [ "*" ] name
unfoldable pub read_declared : NumKind → Reader (Kind × Named)
read_declared numbers =
    read_either star (read_mapped (pointer_to numbers) (read_both (read_one (symbol_at (codes "*"))) (read_one name_at))) (read_mapped (number_of numbers) (read_one name_at))

abbrev pub local_of : Kind × Named → Option Expr → Local
local_of d first = record { name = d.1.name; kind = d.0; first = first; line = d.1.line }

-- [ "*" ] name [ "=" expr ]
unfoldable pub read_local : Reader Expr → NumKind → Reader Local
read_local expression numbers =
    read_then (read_declared numbers) (λ d.
    read_either (has (symbol_at (codes "="))) (read_mapped (λ value. local_of d (Some value)) (read_mapped latter (read_both (read_one (symbol_at (codes "="))) expression))) (read_nothing (local_of d None)))

abbrev pub declared_at : ℕ → List Local → Stmt
declared_at line locals = record { what = stmts.Declare locals; line = line }

-- type ldecl { "," ldecl }
unfoldable pub read_declaration : Reader Expr → Reader Stmt
read_declaration expression = read_then read_num_kind (λ k. read_mapped (declared_at k.1) (read_list (read_local expression k.0)))
