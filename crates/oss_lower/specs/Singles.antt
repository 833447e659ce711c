-- The statements for which no other one is written.
-- Read against: `break;` is one of these, and `while (x) break;` is none, since its body is written as a statement of its own.
use Rattle.std.specs.Prelude.{Bool, true, false}
use Rattle.oss_syntax.specs.declared.tree.stmt.Stmt.{Stmt}
use Rattle.oss_syntax.specs.declared.tree.stmt.StmtKind.TheOpen.{StmtKind-F}
use Rattle.oss_syntax.specs.declared.tree.stmt.StmtKind.TheOpen as open_stmt
use Rattle.oss_syntax.specs.declared.tree.stmt.StmtKind.TheFolds.{fold-Stmt}

-- for a statement of this kind
abbrev pub is_single_kind : StmtKind-F Bool Bool → Bool
is_single_kind (open_stmt.Block inner) = false
is_single_kind (open_stmt.If e side other) = false
is_single_kind (open_stmt.While e body) = false
is_single_kind (open_stmt.For first test last body) = false
is_single_kind (open_stmt.Task mark body) = false
is_single_kind _ = true

-- for this statement
abbrev pub is_single : Stmt → Bool
is_single = fold-Stmt Bool Bool is_single_kind (λ s. s.what)
