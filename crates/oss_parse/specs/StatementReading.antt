-- How a statement is read from its tokens, from left to right, by readers of expressions and of pragmas. Each reader stands for the
-- part of the grammar of the same name. Read against: of `if (a) ; else ; }` a statement is read that has both branches, and `}` is
-- left; of `if a ;` reading stops at `a`; behind the pragma of a task loop, of `for (int i = 0; i < 8; i++) ;` it stops at `int`.
use Rattle.std.specs.Prelude.{ℕ, zero, suc, Bool, ◌||◌, List, [], codes, Option, Some, None, Ok}
use Rattle.oss_syntax.specs.declared.token.Token.{Token}
use Rattle.oss_syntax.specs.declared.token.TokenKind.{TokenKind}
use Rattle.oss_syntax.specs.declared.token.TokenKind.TheVariants as kinds
use Rattle.oss_syntax.specs.declared.tree.expr.Expr.{Expr}
use Rattle.oss_syntax.specs.declared.tree.pragma.Directive.{Directive}
use Rattle.oss_syntax.specs.declared.tree.pragma.Directive.TheVariants as directive
use Rattle.oss_syntax.specs.declared.tree.pragma.TaskMark.{TaskMark}
use Rattle.oss_syntax.specs.declared.tree.stmt.LoopHead.{LoopHead}
use Rattle.oss_syntax.specs.declared.tree.stmt.NameUse.{NameUse}
use Rattle.oss_syntax.specs.declared.tree.stmt.Stmt.{Stmt}
use Rattle.oss_syntax.specs.declared.tree.stmt.StmtKind.TheVariants as stmts
use Rattle.oss_grammar.specs.Pragmas.{counter}
use Rattle.oss_grammar.specs.Reading.{Reader, has, go_on, read_one, read_then, read_nothing, read_mapped, read_both, read_either, read_steps, read_too_deep}
use Rattle.oss_grammar.specs.SimpleStatements.{first_line}
use Rattle.oss_expressions.specs.ExpressionReading.{latter, former, middle, and_then, read_more}
use Rattle.oss_expressions.specs.TokenValues.{symbol_at, keyword_at, name_at, start_at, begins_expression}
use Rattle.oss_expressions.specs.declared.cursor.Named.{Named}
use Rattle.oss_parse.specs.SimpleReading.{read_simple, begins_simple, read_declaration, begins_kind}
use Rattle.oss_parse.specs.declared.forms.ForParts.{ForParts}

-- The bytes of a string.
abbrev pub text_in : TokenKind → Option (List ℕ)
text_in (kinds.Text bytes) = Some bytes
text_in _ = None

abbrev pub text_at : Token → Option (List ℕ)
text_at t = text_in t.what

-- [ expr ]
unfoldable pub read_maybe_expression : Reader Expr → Reader (Option Expr)
read_maybe_expression expression = read_either begins_expression (read_mapped Some expression) (read_nothing None)

-- [ simple ]
unfoldable pub read_maybe_simple : Reader Expr → Reader (Option Stmt)
read_maybe_simple expression = read_either begins_simple (read_mapped Some (read_simple expression)) (read_nothing None)

-- [ type ldecl { "," ldecl } | simple ]
unfoldable pub read_for_first : Reader Expr → Reader (Option Stmt)
read_for_first expression = read_either begins_kind (read_mapped Some (read_declaration expression)) (read_maybe_simple expression)

-- The trees of the forms of statements.
abbrev pub block_of : ℕ × (List Stmt × ℕ) → Stmt
block_of p = record { what = stmts.Block p.1.0; line = p.0 }

abbrev pub empty_at : ℕ → Stmt
empty_at line = record { what = stmts.Empty; line = line }

abbrev pub if_of : ℕ × Expr → Stmt → Stmt
if_of head s = record { what = stmts.If head.1 s None; line = head.0 }

abbrev pub if_else_of : ℕ × Expr → Stmt → Stmt → Stmt
if_else_of head s other = record { what = stmts.If head.1 s (Some other); line = head.0 }

abbrev pub while_of : ℕ × Expr → Stmt → Stmt
while_of head s = record { what = stmts.While head.1 s; line = head.0 }

abbrev pub for_of : ℕ × ForParts → Stmt → Stmt
for_of head s = record { what = stmts.For head.1.first head.1.test head.1.last s; line = head.0 }

abbrev pub return_of : ℕ × (Option Expr × ℕ) → Stmt
return_of p = record { what = stmts.Return p.1.0; line = p.0 }

abbrev pub break_at : ℕ × ℕ → Stmt
break_at p = record { what = stmts.Break; line = p.0 }

abbrev pub continue_at : ℕ × ℕ → Stmt
continue_at p = record { what = stmts.Continue; line = p.0 }

abbrev pub print_of : ℕ × (List ℕ × List Expr) → Stmt
print_of p = record { what = stmts.Print p.1.0 p.1.1; line = p.0 }

abbrev pub task_of : TaskMark → Stmt → Stmt
task_of mark s = record { what = stmts.Task mark s; line = mark.line }

abbrev pub task_loop_of : TaskMark → LoopHead → Stmt → Stmt
task_loop_of mark head s = record { what = stmts.TaskLoop head s; line = mark.line }

-- "{" items "}"
unfoldable pub read_block : Reader (List Stmt) → Reader Stmt
read_block items = read_mapped block_of (read_both (read_one (symbol_at (codes "{"))) (read_both items (read_one (symbol_at (codes "}")))))

-- ";"
unfoldable pub read_empty : Reader Stmt
read_empty = read_mapped empty_at (read_one (symbol_at (codes ";")))

-- simple ";"
unfoldable pub read_simple_statement : Reader Expr → Reader Stmt
read_simple_statement expression = read_mapped former (read_both (read_simple expression) (read_one (symbol_at (codes ";"))))

-- A keyword with its line, and the test in brackets behind it: "if" "(" expr ")", "while" "(" expr ")"
unfoldable pub read_head : List ℕ → Reader Expr → Reader (ℕ × Expr)
read_head word expression =
    read_both (read_one (keyword_at word)) (read_mapped middle (read_both (read_one (symbol_at (codes "("))) (read_both expression (read_one (symbol_at (codes ")"))))))

-- stmt [ "else" stmt ], behind the head of an `if`
unfoldable pub read_branches : Reader Stmt → ℕ × Expr → Reader Stmt
read_branches sub head =
    read_then sub (λ s. read_either (has (keyword_at (codes "else"))) (read_mapped (if_else_of head s) (read_mapped latter (read_both (read_one (keyword_at (codes "else"))) sub))) (read_nothing (if_of head s)))

-- "if" "(" expr ")" stmt [ "else" stmt ]
unfoldable pub read_if : Reader Expr → Reader Stmt → Reader Stmt
read_if expression sub = read_then (read_head (codes "if") expression) (read_branches sub)

-- "while" "(" expr ")" stmt
unfoldable pub read_while : Reader Expr → Reader Stmt → Reader Stmt
read_while expression sub = read_then (read_head (codes "while") expression) (λ head. read_mapped (while_of head) sub)

-- The parts of a `for` without the lines of the marks between them.
abbrev pub for_parts : Option Stmt × (ℕ × (Option Expr × (ℕ × (Option Stmt × ℕ)))) → ForParts
for_parts p = record { first = p.0; test = p.1.1.0; last = p.1.1.1.1.0 }

-- [ type ldecl { "," ldecl } | simple ] ";" [ expr ] ";" [ simple ] ")"
unfoldable pub read_for_parts : Reader Expr → Reader ForParts
read_for_parts expression =
    read_mapped for_parts (read_both (read_for_first expression) (read_both (read_one (symbol_at (codes ";"))) (read_both (read_maybe_expression expression)
    (read_both (read_one (symbol_at (codes ";"))) (read_both (read_maybe_simple expression) (read_one (symbol_at (codes ")"))))))))

-- "for" "(" parts ")"
unfoldable pub read_for_head : Reader Expr → Reader (ℕ × ForParts)
read_for_head expression = read_both (read_one (keyword_at (codes "for"))) (read_mapped latter (read_both (read_one (symbol_at (codes "("))) (read_for_parts expression)))

-- "for" "(" parts ")" stmt
unfoldable pub read_for : Reader Expr → Reader Stmt → Reader Stmt
read_for expression sub = read_then (read_for_head expression) (λ head. read_mapped (for_of head) sub)

-- "return" [ expr ] ";"
unfoldable pub read_return : Reader Expr → Reader Stmt
read_return expression = read_mapped return_of (read_both (read_one (keyword_at (codes "return"))) (read_both (read_maybe_expression expression) (read_one (symbol_at (codes ";")))))

-- "break" ";"
unfoldable pub read_break : Reader Stmt
read_break = read_mapped break_at (read_both (read_one (keyword_at (codes "break"))) (read_one (symbol_at (codes ";"))))

-- "continue" ";"
unfoldable pub read_continue : Reader Stmt
read_continue = read_mapped continue_at (read_both (read_one (keyword_at (codes "continue"))) (read_one (symbol_at (codes ";"))))

-- { "," expr } ")" ";"
unfoldable pub read_printed : Reader Expr → Reader (List Expr)
read_printed expression = read_mapped former (read_both (read_more expression []) (read_both (read_one (symbol_at (codes ")"))) (read_one (symbol_at (codes ";")))))

-- "printf" "(" string { "," expr } ")" ";"
unfoldable pub read_print : Reader Expr → Reader Stmt
read_print expression =
    read_mapped print_of (read_both (read_one (keyword_at (codes "printf"))) (read_mapped latter (read_both (read_one (symbol_at (codes "("))) (read_both (read_one text_at) (read_printed expression)))))

-- A name where it is repeated: `i` of `i <`, with its line.
abbrev pub use_of : Named × ℕ → NameUse
use_of p = record { name = p.0.name; line = p.0.line }

-- A name, and this symbol behind it.
unfoldable pub read_name_use : List ℕ → Reader NameUse
read_name_use symbol = read_mapped use_of (read_both (read_one name_at) (read_one (symbol_at symbol)))

-- name "++" ")"
unfoldable pub read_loop_step : Reader NameUse
read_loop_step = read_mapped former (read_both (read_name_use (codes "++")) (read_one (symbol_at (codes ")"))))

-- ";" name "++" ")"
unfoldable pub read_loop_last : Reader NameUse
read_loop_last = read_mapped latter (read_both (read_one (symbol_at (codes ";"))) read_loop_step)

-- name "<" expr ";" name "++" ")"
unfoldable pub read_loop_test : Reader Expr → Reader (NameUse × (Expr × NameUse))
read_loop_test expression = read_both (read_name_use (codes "<")) (read_both expression read_loop_last)

-- ";" name "<" expr ";" name "++" ")"
unfoldable pub read_loop_tested : Reader Expr → Reader (NameUse × (Expr × NameUse))
read_loop_tested expression = read_mapped latter (read_both (read_one (symbol_at (codes ";"))) (read_loop_test expression))

-- "=" expr ";" name "<" expr ";" name "++" ")"
unfoldable pub read_loop_bounds : Reader Expr → Reader (Expr × (NameUse × (Expr × NameUse)))
read_loop_bounds expression = read_mapped latter (read_both (read_one (symbol_at (codes "="))) (read_both expression (read_loop_tested expression)))

-- "for" "(" "long" name, with the line of the first token
unfoldable pub read_loop_variable : Reader (ℕ × Named)
read_loop_variable =
    read_both (read_one (keyword_at (codes "for"))) (read_mapped latter (read_both (read_one (symbol_at (codes "("))) (read_mapped latter (read_both (read_one (keyword_at (codes "long"))) (read_one name_at)))))

-- The head of a task loop, of its parts. Of `for (long i = 1; i < 8; i++)` the variable is `i` with the first value 1, and the end is 8.
abbrev pub loop_head_of : TaskMark → (ℕ × Named) × (Expr × (NameUse × (Expr × NameUse))) → LoopHead
loop_head_of mark p = record { mark = mark; variable = counter p.0.1.name p.1.0 p.0.1.line; tested = p.1.1.0; end = p.1.1.1.0; stepped = p.1.1.1.1; for_line = p.0.0 }

-- "for" "(" "long" name "=" expr ";" name "<" expr ";" name "++" ")", behind the pragma of a task loop
unfoldable pub read_loop_head : Reader Expr → TaskMark → Reader LoopHead
read_loop_head expression mark = read_mapped (loop_head_of mark) (read_both read_loop_variable (read_loop_bounds expression))

-- head stmt, behind the pragma of a task loop
unfoldable pub read_task_loop_statement : Reader Expr → Reader Stmt → TaskMark → Reader Stmt
read_task_loop_statement expression sub mark = read_then (read_loop_head expression mark) (λ head. read_mapped (task_loop_of mark head) sub)

-- A part, with the line of its first token.
abbrev pub read_lined : {A : Type 0} → Reader A → Reader (A × ℕ)
read_lined f ts = go_on (f ts) (λ a rest. Ok ((a, first_line ts), rest))

-- What follows a pragma: a statement behind the pragma of a task, and a loop behind that of a task loop.
unfoldable pub read_directed : Reader Expr → Reader Stmt → Directive × ℕ → Reader Stmt
read_directed expression sub (directive.Task mark, line) = read_mapped (task_of mark) sub
read_directed expression sub (directive.TaskLoop mark, line) = read_task_loop_statement expression sub mark
read_directed expression sub (directive.TaskWait sections, line) = read_nothing (record { what = stmts.TaskWait sections; line = line })
read_directed expression sub (directive.Release clauses, line) = read_nothing (record { what = stmts.Release clauses; line = line })

-- task stmt | taskloop head stmt | taskwait | release
unfoldable pub read_pragma_statement : Reader Expr → Reader Directive → Reader Stmt → Reader Stmt
read_pragma_statement expression pragma sub = read_then (read_lined pragma) (read_directed expression sub)

-- Statements that begin with a keyword, and then those that begin with a pragma.
unfoldable pub read_keyword_statement : Reader Expr → Reader Directive → Reader Stmt → Reader Stmt
read_keyword_statement expression pragma sub =
    read_either (has (keyword_at (codes "if"))) (read_if expression sub)
    (read_either (has (keyword_at (codes "while"))) (read_while expression sub)
    (read_either (has (keyword_at (codes "for"))) (read_for expression sub)
    (read_either (has (keyword_at (codes "return"))) (read_return expression)
    (read_either (has (keyword_at (codes "break"))) read_break
    (read_either (has (keyword_at (codes "continue"))) read_continue
    (read_either (has (keyword_at (codes "printf"))) (read_print expression) (read_pragma_statement expression pragma sub)))))))

-- A statement, where `items` reads what stands in a block, and `sub` the statements inside it.
unfoldable pub read_statement : Reader Expr → Reader Directive → Reader (List Stmt) → Reader Stmt → Reader Stmt
read_statement expression pragma items sub =
    read_either (has (symbol_at (codes "{"))) (read_block items)
    (read_either (has (symbol_at (codes ";"))) read_empty
    (read_either begins_simple (read_simple_statement expression) (read_keyword_statement expression pragma sub)))

-- decl ";" | stmt
unfoldable pub read_item : Reader Expr → Reader Directive → Reader (List Stmt) → Reader Stmt → Reader Stmt
read_item expression pragma items sub =
    read_either begins_kind (read_mapped former (read_both (read_declaration expression) (read_one (symbol_at (codes ";"))))) (read_statement expression pragma items sub)

-- Whether a token begins a statement, and whether it begins a statement or a declaration.
abbrev pub begins_keyword_statement : Token → Bool
begins_keyword_statement t =
    has (keyword_at (codes "if")) t || (has (keyword_at (codes "while")) t || (has (keyword_at (codes "for")) t || (has (keyword_at (codes "return")) t
    || (has (keyword_at (codes "break")) t || (has (keyword_at (codes "continue")) t || (has (keyword_at (codes "printf")) t || has start_at t))))))

abbrev pub begins_statement : Token → Bool
begins_statement t = has (symbol_at (codes "{")) t || (has (symbol_at (codes ";")) t || (begins_simple t || begins_keyword_statement t))

abbrev pub begins_item : Token → Bool
begins_item t = begins_kind t || begins_statement t

-- { decl ";" | stmt }, by a reader of one
unfoldable pub read_items_by : Reader Stmt → Reader (List Stmt)
read_items_by item = read_steps (λ found. begins_item) (λ found. read_mapped (and_then found) item) []

-- A statement inside another, and what stands in a block, with so many levels.
abbrev mutual
  pub read_inner_statement : Reader Expr → Reader Directive → ℕ → Reader Stmt
  read_inner_statement expression pragma zero ts = read_too_deep begins_statement ts
  read_inner_statement expression pragma (suc n) ts = read_statement expression pragma (read_items_by (read_inner_item expression pragma n)) (read_inner_statement expression pragma n) ts

  pub read_inner_item : Reader Expr → Reader Directive → ℕ → Reader Stmt
  read_inner_item expression pragma zero ts = read_too_deep begins_item ts
  read_inner_item expression pragma (suc n) ts = read_item expression pragma (read_items_by (read_inner_item expression pragma n)) (read_inner_statement expression pragma n) ts

-- What stands in a block, with so many levels.
abbrev pub read_items : Reader Expr → Reader Directive → ℕ → Reader (List Stmt)
read_items expression pragma n = read_items_by (read_inner_item expression pragma n)
