-- What is read inside a statement with the readers of expressions and of pragmas, where so many levels of statements may still begin.
-- Read against: with no level left reading stops at `;` since it is too deep, and at `}` since it fits nowhere.
use Rattle.std.specs.Prelude.{ℕ, List}
use Rattle.oss_syntax.specs.declared.tree.stmt.Stmt.{Stmt}
use Rattle.oss_grammar.specs.Reading.{Reader, read_mapped, read_steps}
use Rattle.oss_expressions.specs.ExpressionReading.{and_then, read_expression}
use Rattle.oss_pragma.specs.PragmaReading.{read_pragma}
use Rattle.oss_parse.specs.StatementReading.{begins_item, read_inner_statement, read_inner_item, read_items}

-- A statement inside another.
abbrev pub read_within : ℕ → Reader Stmt
read_within levels = read_inner_statement read_expression (read_pragma read_expression) levels

-- One of what stands in a block, and all of it.
abbrev pub read_part : ℕ → Reader Stmt
read_part levels = read_inner_item read_expression (read_pragma read_expression) levels

abbrev pub read_parts : ℕ → Reader (List Stmt)
read_parts levels = read_items read_expression (read_pragma read_expression) levels

-- What stands in a block behind the statements that were found.
unfoldable pub read_parts_behind : ℕ → List Stmt → Reader (List Stmt)
read_parts_behind levels found = read_steps (λ found. begins_item) (λ found. read_mapped (and_then found) (read_part levels)) found

-- The body of a function, with at most 64 levels of statements.
unfoldable pub read_body : Reader (List Stmt)
read_body = read_parts 64
