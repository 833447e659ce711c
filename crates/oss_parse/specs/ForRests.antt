-- The parts of a `for` that the code reads one by one. Read against: of `; i < 8 ; i++ ) b = 1;` the test and the last part are read, and `b = 1;` is
-- left; of `; ; )` neither is there, and of `; i < 8 )` reading stops at `)`.
use Rattle.std.specs.Prelude.{codes, Option}
use Rattle.oss_syntax.specs.declared.tree.expr.Expr.{Expr}
use Rattle.oss_syntax.specs.declared.tree.stmt.Stmt.{Stmt}
use Rattle.oss_grammar.specs.Reading.{Reader, read_one, read_mapped, read_both}
use Rattle.oss_expressions.specs.ExpressionReading.{latter, middle}
use Rattle.oss_expressions.specs.TokenValues.{symbol_at}
use Rattle.oss_parse.specs.StatementReading.{read_maybe_expression, read_maybe_simple}

-- ";" [ simple ] ")" behind the test
abbrev pub read_for_last : Reader Expr → Reader (Option Stmt)
read_for_last expression = read_mapped middle (read_both (read_one (symbol_at (codes ";"))) (read_both (read_maybe_simple expression) (read_one (symbol_at (codes ")")))))

-- ";" [ expr ] ";" [ simple ] ")" behind the first part
abbrev pub read_for_rest : Reader Expr → Reader (Option Expr × Option Stmt)
read_for_rest expression = read_mapped latter (read_both (read_one (symbol_at (codes ";"))) (read_both (read_maybe_expression expression) (read_for_last expression)))
