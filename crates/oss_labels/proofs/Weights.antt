-- How much of a statement there is: each statement in it has less.
use Rattle.std.proofs.Common.{ℕ, zero, suc, ◌+◌, ◌<◌, ◌≤◌, List, [], ◌∷◌, map, length, get_or, Option, Some, None, arith, option_map}
use Rattle.oss_syntax.specs.declared.tree.stmt.Stmt.{Stmt}
use Rattle.oss_syntax.specs.declared.tree.stmt.StmtKind.TheOpen.{StmtKind-F, Stmt-F}
use Rattle.oss_syntax.specs.declared.tree.stmt.StmtKind.TheOpen as open_stmt
use Rattle.oss_syntax.specs.declared.tree.stmt.StmtKind.TheFolds.{fold-Stmt}

abbrev total : List ℕ → ℕ
total [] = 0
total (w ∷ ws) = w + total ws

abbrev if_any : Option ℕ → ℕ
if_any None = 0
if_any (Some w) = w

abbrev weigh : StmtKind-F ℕ ℕ → ℕ
weigh (open_stmt.Block ws) = total ws
weigh (open_stmt.If e t o) = t + if_any o
weigh (open_stmt.While e b) = b
weigh (open_stmt.For s e t b) = if_any s + (if_any t + b)
weigh (open_stmt.Task m b) = b
weigh _ = 0

abbrev pub weight : Stmt → ℕ
weight = fold-Stmt ℕ ℕ weigh (λ s. suc s.what)

abbrev pub weights : List Stmt → ℕ
weights ss = total (map weight ss)

abbrev pub part_weight : Option Stmt → ℕ
part_weight o = if_any (option_map weight o)

-- each statement of a list has no more than all
pub weight-one : (ss : List Stmt) (i : ℕ) (d : Stmt) → i < length ss → weight (get_or ss i d) ≤ weights ss
weight-one [] i d h = absurd (omega arith)
weight-one (s ∷ ss) zero d h = omega arith
weight-one (s ∷ ss) (suc i) d h = omega (arith, weight-one ss i d (omega arith))
