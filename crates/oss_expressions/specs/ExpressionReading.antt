-- How an expression is read from its tokens, from left to right, where so many levels may still begin in it. Each reader stands
-- for the part of the grammar of the same name. Read against: of `a - b - 1 ;` a whole expression is `(a - b) - 1`, and `;` is left;
-- of `a + )` reading stops at `)`, which fits nowhere; of `a[1][2][3]` the tree of `(a[1])[2]` is read, and `[3]` is left.
use Rattle.std.specs.Prelude.{ℕ, zero, suc, List, [], ◌∷◌, ◌++◌, codes}
use Rattle.oss_syntax.specs.declared.tree.expr.BinOp.{BinOp}
use Rattle.oss_syntax.specs.declared.tree.expr.Expr.{Expr}
use Rattle.oss_syntax.specs.declared.tree.expr.ExprKind.TheVariants as exprs
use Rattle.oss_syntax.specs.declared.tree.expr.UnOp.{UnOp}
use Rattle.oss_grammar.specs.Levels.{is_operator}
use Rattle.oss_grammar.specs.Reading.{Reader, has, read_one, read_then, read_nothing, read_mapped, read_both, read_either, read_steps, read_too_deep, read_counted}
use Rattle.oss_expressions.specs.TokenValues.{symbol_at, name_at, number_at, prefix_at, operator_at, begins_expression}
use Rattle.oss_expressions.specs.declared.cursor.Named.{Named}

-- The second of two, the first of two, and the middle of three.
abbrev pub latter : {A B : Type 0} → A × B → B
latter p = p.1

abbrev pub former : {A B : Type 0} → A × B → A
former p = p.0

abbrev pub middle : {A : Type 0} → ℕ × (A × ℕ) → A
middle p = p.1.0

-- One more behind those that were found.
abbrev pub and_then : {A : Type 0} → List A → A → List A
and_then found next = found ++ next ∷ []

-- A part behind a comma.
abbrev pub read_next : {A : Type 0} → Reader A → Reader A
read_next f = read_mapped latter (read_both (read_one (symbol_at (codes ","))) f)

-- Any number of parts, each behind a comma, behind those that were found.
unfoldable pub read_more : {A : Type 0} → Reader A → List A → Reader (List A)
read_more f = read_steps (λ found. has (symbol_at (codes ","))) (λ found. read_mapped (and_then found) (read_next f))

-- Parts with a comma between each two, one at least.
abbrev pub read_list : {A : Type 0} → Reader A → Reader (List A)
read_list f = read_then f (λ first. read_more f (first ∷ []))

-- The trees of the forms of expressions.
abbrev pub named_expression : Named → Expr
named_expression name = record { what = exprs.Name name.name; line = name.line }

abbrev pub call_of : Named → List Expr → Expr
call_of name values = record { what = exprs.Call name.name values; line = name.line }

abbrev pub indexed : Expr → Expr → Expr
indexed base at = record { what = exprs.Index base at; line = base.line }

abbrev pub prefixed_by : (UnOp × ℕ) × Expr → Expr
prefixed_by p = record { what = exprs.Unary p.0.0 p.1; line = p.0.1 }

abbrev pub joined_to : Expr → BinOp × Expr → Expr
joined_to left right = record { what = exprs.Binary right.0 left right.1; line = left.line }

-- [ expr { "," expr } ] ")", where `inner` reads the expressions
unfoldable pub read_arguments : Reader Expr → Reader (List Expr)
read_arguments inner =
    read_either (has (symbol_at (codes ")"))) (read_mapped (λ line. []) (read_one (symbol_at (codes ")"))))
    (read_mapped former (read_both (read_list inner) (read_one (symbol_at (codes ")")))))

-- "(" arguments ")"
unfoldable pub read_call : Reader Expr → Named → Reader Expr
read_call inner name = read_mapped (call_of name) (read_mapped latter (read_both (read_one (symbol_at (codes "("))) (read_arguments inner)))

-- name [ call ]
unfoldable pub read_named : Reader Expr → Reader Expr
read_named inner = read_then (read_one name_at) (λ name. read_either (has (symbol_at (codes "("))) (read_call inner name) (read_nothing (named_expression name)))

-- "(" expr ")"
unfoldable pub read_brackets : Reader Expr → Reader Expr
read_brackets inner = read_mapped middle (read_both (read_one (symbol_at (codes "("))) (read_both inner (read_one (symbol_at (codes ")")))))

-- number | name [ call ] | "(" expr ")"
unfoldable pub read_primary : Reader Expr → Reader Expr
read_primary inner = read_either (has number_at) (read_one number_at) (read_either (has name_at) (read_named inner) (read_brackets inner))

-- "[" expr "]"
unfoldable pub read_index : Reader Expr → Reader Expr
read_index inner = read_mapped middle (read_both (read_one (symbol_at (codes "["))) (read_both inner (read_one (symbol_at (codes "]")))))

-- [ "[" expr "]" ], behind an index: of `[2] [3]` behind `a[1]` the first is read, and `[3]` is left
unfoldable pub read_second_index : Reader Expr → Expr → Reader Expr
read_second_index inner row = read_either (has (symbol_at (codes "["))) (read_mapped (indexed row) (read_index inner)) (read_nothing row)

-- primary [ "[" expr "]" [ "[" expr "]" ] ]
unfoldable pub read_postfix : Reader Expr → Reader Expr
read_postfix inner =
    read_then (read_primary inner) (λ base. read_either (has (symbol_at (codes "["))) (read_then (read_mapped (indexed base) (read_index inner)) (read_second_index inner)) (read_nothing base))

-- prefix unary | postfix, where `operand` reads what stands behind a prefix
unfoldable pub read_prefixed : Reader Expr → Reader Expr → Reader Expr
read_prefixed operand inner = read_either (has prefix_at) (read_mapped prefixed_by (read_both (read_one prefix_at) operand)) (read_postfix inner)

-- An operator of this level, and its right side.
unfoldable pub read_operation : ℕ → Reader Expr → Reader (BinOp × Expr)
read_operation level f = read_both (read_one (operator_at level)) f

-- Operations of this level behind a left side, from left to right.
unfoldable pub read_operations : ℕ → Reader Expr → Expr → Reader Expr
read_operations level f = read_steps (λ left. has (operator_at level)) (λ left. read_mapped (joined_to left) (read_operation level f))

-- The binary operators of so many levels, from the tightest on, which is level 3 of an expression.
unfoldable pub read_levels : ℕ → Reader Expr → Reader Expr
read_levels zero f ts = f ts
read_levels (suc more) f ts = read_then (read_levels more f) (read_operations (suc (suc (suc more))) (read_levels more f)) ts

-- How many levels of binary operators there are.
abbrev pub binary_levels : ℕ
binary_levels = 10

-- What stands behind a prefix, and a whole expression, with so many levels.
abbrev mutual
  pub read_unary : ℕ → Reader Expr
  read_unary zero ts = read_too_deep begins_expression ts
  read_unary (suc n) ts = read_prefixed (read_unary n) (read_whole n) ts

  pub read_whole : ℕ → Reader Expr
  read_whole zero ts = read_too_deep begins_expression ts
  read_whole (suc n) ts = read_levels binary_levels (read_prefixed (read_unary n) (read_whole n)) ts

-- expr, with at most 64 levels and 256 operators
unfoldable pub read_expression : Reader Expr
read_expression = read_counted is_operator 256 (read_whole 64)
