-- The parts of an `if` that the code reads one by one. Read against: behind `if (a) b = 1;` the tokens `else c = 2;` are read as the second
-- branch; where `}` stands there instead, no token is taken, and the `if` has no second branch.
use Rattle.std.specs.Prelude.{ℕ, codes}
use Rattle.oss_syntax.specs.declared.tree.expr.Expr.{Expr}
use Rattle.oss_syntax.specs.declared.tree.stmt.Stmt.{Stmt}
use Rattle.oss_grammar.specs.Reading.{Reader, has, read_one, read_nothing, read_mapped, read_both, read_either}
use Rattle.oss_expressions.specs.ExpressionReading.{latter}
use Rattle.oss_expressions.specs.TokenValues.{keyword_at}
use Rattle.oss_parse.specs.StatementReading.{if_of, if_else_of}

-- "else" stmt
abbrev pub read_else : Reader Stmt → Reader Stmt
read_else sub = read_mapped latter (read_both (read_one (keyword_at (codes "else"))) sub)

-- [ "else" stmt ] behind the head of an `if` and its first statement
abbrev pub read_maybe_else : Reader Stmt → ℕ × Expr → Stmt → Reader Stmt
read_maybe_else sub head s = read_either (has (keyword_at (codes "else"))) (read_mapped (if_else_of head s) (read_else sub)) (read_nothing (if_of head s))
