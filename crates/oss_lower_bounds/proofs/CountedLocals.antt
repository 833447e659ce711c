-- A function has no more locals than its size, and one less.
use Rattle.std.proofs.Common.{ℕ, zero, suc, ◌+◌, ◌≤◌, List, [], ◌∷◌, length, map, Some, None, arith, length-append}
use Rattle.std.specs.Prelude.{All}
use Rattle.oss_syntax.specs.declared.tree.program.Function.{Function}
use Rattle.oss_syntax.specs.declared.tree.program.Item.{Item}
use Rattle.oss_syntax.specs.declared.tree.program.Item.TheVariants as items
use Rattle.oss_syntax.specs.declared.tree.program.Local.{Local}
use Rattle.oss_syntax.specs.declared.tree.stmt.Stmt.{Stmt}
use Rattle.oss_syntax.specs.declared.tree.stmt.StmtKind.TheOpen.{StmtKind-F}
use Rattle.oss_syntax.specs.declared.tree.stmt.StmtKind.TheOpen as open_stmt
use Rattle.oss_meaning.specs.Names.{functions_of}
use Rattle.oss_lower_laws.proofs.ExpressionFolds.{Pair}
use Rattle.oss_lower_laws.proofs.StatementFolds as folds
use Rattle.oss_lower_laws.proofs.StatementFolds.{AtLines, Keeps}
use Rattle.oss_lower_laws.specs.StatementCode.{StmtCode, stmt_code_step}
use Rattle.oss_lower_bounds.specs.Bounds.{ScopesAreCounted}
use Rattle.oss_lower_bounds.specs.Sizes.{body_size, declared_counts, function_locals, function_size, items_size, locals_size, stmt_counts, stmt_locals, stmt_size, total}

abbrev IsAtMost : ℕ → ℕ → Type 0
IsAtMost m n = m ≤ n

abbrev Counted : Type 0
Counted = Pair IsAtMost

abbrev locals_in : Counted → ℕ
locals_in p = p.left

abbrev size_in : Counted → ℕ
size_in p = p.right

totals : (ps : List Counted) → total (map locals_in ps) ≤ total (map size_in ps)
totals [] = omega arith
totals (p ∷ ps) = omega (arith, p.related, totals ps)

locals_few : (ls : List Local) → length ls ≤ locals_size ls
locals_few [] = omega arith
locals_few (l ∷ ls) = omega (arith, locals_few ls)

-- each kind of statement declares no more locals than its size
keeps : (z : StmtKind-F (Pair (AtLines IsAtMost)) Counted) → Keeps IsAtMost declared_counts stmt_counts z
keeps (open_stmt.Block ps) line = omega (arith, totals ps)
keeps open_stmt.Empty line = omega arith
keeps (open_stmt.Declare ls) line = omega (arith, locals_few ls)
keeps (open_stmt.Assign t o e) line = omega arith
keeps (open_stmt.Call name es) line = omega arith
keeps (open_stmt.Print format es) line = omega arith
keeps (open_stmt.If e side None) line = omega (arith, side.related)
keeps (open_stmt.If e side (Some other)) line = omega (arith, side.related, other.related)
keeps (open_stmt.While e body) line = omega (arith, body.related)
keeps (open_stmt.For None test None body) line = omega (arith, body.related)
keeps (open_stmt.For None test (Some last) body) line = omega (arith, last.related, body.related)
keeps (open_stmt.For (Some first) test None body) line = omega (arith, first.related, body.related)
keeps (open_stmt.For (Some first) test (Some last) body) line = omega (arith, first.related, last.related, body.related)
keeps (open_stmt.Return e) line = omega arith
keeps open_stmt.Break line = omega arith
keeps open_stmt.Continue line = omega arith
keeps (open_stmt.Task mark body) line = omega (arith, body.related)
keeps (open_stmt.TaskLoop head body) line = omega arith
keeps (open_stmt.TaskWait sections) line = omega arith
keeps (open_stmt.Release clauses) line = omega arith

stmt_few : (s : Stmt) → stmt_locals s ≤ stmt_size s
stmt_few = folds.both IsAtMost declared_counts stmt_counts keeps

body_few : (ss : List Stmt) → total (map stmt_locals ss) ≤ body_size ss
body_few [] = omega arith
body_few (s ∷ ss) = omega (arith, stmt_few s, body_few ss)

function_few : (f : Function) → function_locals f + 1 ≤ function_size f
function_few f = omega (arith, locals_few f.params, body_few f.body)

pub locals_within : (xs : List Item) → All (λ f. function_locals f + 1 ≤ items_size xs) (functions_of xs)
locals_within [] k d less = absurd (omega (arith, less))
locals_within (items.Global g ∷ xs) k d less = omega (arith, locals_within xs k d less)
locals_within (items.Function f ∷ xs) zero d less = omega (arith, function_few f)
locals_within (items.Function f ∷ xs) (suc k) d less = omega (arith, locals_within xs k d (omega (arith, less)))

pub items_few : (xs : List Item) → length xs ≤ items_size xs
items_few [] = omega arith
items_few (items.Global g ∷ xs) = omega (arith, items_few xs)
items_few (items.Function f ∷ xs) = omega (arith, items_few xs)

-- The locals in scope behind a statement

abbrev Leaves : StmtCode → ℕ → Type 0
Leaves c n = (scope : List Local) → length (c.scope scope) ≤ length scope + n

-- each kind of statement leaves no more than it declares
leaves : (all : List Item) (z : StmtKind-F (Pair (AtLines Leaves)) (Pair Leaves)) → Keeps Leaves (stmt_code_step all) declared_counts z
leaves all (open_stmt.Block ps) line scope = omega arith
leaves all open_stmt.Empty line scope = omega arith
leaves all (open_stmt.Declare ls) line scope = omega (arith, length-append scope ls)
leaves all (open_stmt.Assign t o e) line scope = omega arith
leaves all (open_stmt.Call name es) line scope = omega arith
leaves all (open_stmt.Print format es) line scope = omega arith
leaves all (open_stmt.If e side None) line scope = omega arith
leaves all (open_stmt.If e side (Some other)) line scope = omega arith
leaves all (open_stmt.While e body) line scope = omega arith
leaves all (open_stmt.For None test None body) line scope = omega arith
leaves all (open_stmt.For None test (Some last) body) line scope = omega arith
leaves all (open_stmt.For (Some first) test None body) line scope = omega arith
leaves all (open_stmt.For (Some first) test (Some last) body) line scope = omega arith
leaves all (open_stmt.Return e) line scope = omega arith
leaves all open_stmt.Break line scope = omega arith
leaves all open_stmt.Continue line scope = omega arith
leaves all (open_stmt.Task mark body) line scope = omega arith
leaves all (open_stmt.TaskLoop head body) line scope = omega arith
leaves all (open_stmt.TaskWait sections) line scope = omega arith
leaves all (open_stmt.Release clauses) line scope = omega arith

pub scopes_are_counted : ScopesAreCounted
scopes_are_counted all = folds.both Leaves (stmt_code_step all) declared_counts (leaves all)
