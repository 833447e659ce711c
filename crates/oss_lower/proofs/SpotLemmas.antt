-- Spots further on, and the locals in scope behind statements.
use Rattle.std.proofs.Common.{◌≡◌, ◌≤◌, ℕ, ◌+◌, ◌-◌, List, [], ◌∷◌, ◌++◌, length, take, refl, ap, ◌∙◌, arith}
use Rattle.oss_syntax.specs.declared.tree.program.Item.{Item}
use Rattle.oss_syntax.specs.declared.tree.program.Local.{Local}
use Rattle.oss_syntax.specs.declared.tree.stmt.Stmt.{Stmt}
use Rattle.oss_syntax.specs.declared.tree.stmt.StmtKind.TheOpen as open_stmt
use Rattle.oss_lower.specs.declared.around.Around.{Around}
use Rattle.oss_lower_laws.specs.StatementCode.{StmtCode, behind, stmt_code, stmt_code_step}
use Rattle.oss_lower.specs.Spots.{IsBehind, spot_at}
use Rattle.oss_lower_laws.proofs.StatementFolds as folds

further : (s n k : ℕ) → s ≤ k → k - s + n ≡ k + n - s
further s n k h = omega arith

-- so many instructions further on
pub behind-at : (a : Around) (scope : List Local) (k n : ℕ) → IsBehind a k → behind n (spot_at a scope k) ≡ spot_at a scope (k + n)
behind-at a scope k n is =
    ap (λ x. record { scope = scope; result = a.result; pads = record { stop = x; again = k - a.again + n } }) (further a.stop n k is.stop)
    ∙ ap (λ x. record { scope = scope; result = a.result; pads = record { stop = k + n - a.stop; again = x } }) (further a.again n k is.again)

pub still-behind : (a : Around) (k m : ℕ) → IsBehind a k → k ≤ m → IsBehind a m
still-behind a k m is h = let x = is.stop in let y = is.again in record { stop = omega arith; again = omega arith }

-- the locals before a statement stay in scope behind it, below those that it declares
pub take-same : (xs : List Local) → take (length xs) xs ≡ xs
take-same [] = refl
take-same (x ∷ xs) = ap (λ ys. x ∷ ys) (take-same xs)

take-front : (xs ys : List Local) → take (length xs) (xs ++ ys) ≡ xs
take-front [] ys = refl
take-front (x ∷ xs) ys = ap (λ zs. x ∷ zs) (take-front xs ys)

-- old locals that stand in front of those in the middle stand in front of the new ones
pub prefix-trans : (old mid now : List Local) → take (length old) mid ≡ old → take (length mid) now ≡ mid → take (length old) now ≡ old
prefix-trans [] mid now a b = refl
prefix-trans (o ∷ old) [] now a b = absurd (cc)
prefix-trans (o ∷ old) (m ∷ mid) [] a b = absurd (cc)
prefix-trans (o ∷ old) (m ∷ mid) (n ∷ now) a b =
    let here : n ≡ m = cc in
    let there : m ≡ o = cc in
    let rest : take (length old) now ≡ old = prefix-trans old mid now (cc) (cc) in
    cc

abbrev Stays : StmtCode → StmtCode → Type 0
Stays c d = (scope : List Local) → take (length scope) (c.scope scope) ≡ scope

module _ (all : List Item) where
  keeps : (z : _) → folds.Keeps Stays (stmt_code_step all) (stmt_code_step all) z
  keeps (open_stmt.Block es) line = take-same
  keeps open_stmt.Empty line = take-same
  keeps (open_stmt.Declare ls) line = λ scope. take-front scope ls
  keeps (open_stmt.Assign t o e) line = take-same
  keeps (open_stmt.Call n es) line = take-same
  keeps (open_stmt.Print f es) line = take-same
  keeps (open_stmt.If e s o) line = take-same
  keeps (open_stmt.While e s) line = take-same
  keeps (open_stmt.For i e t s) line = take-same
  keeps (open_stmt.Return e) line = take-same
  keeps open_stmt.Break line = take-same
  keeps open_stmt.Continue line = take-same
  keeps (open_stmt.Task m s) line = take-same
  keeps (open_stmt.TaskLoop h s) line = take-same
  keeps (open_stmt.TaskWait l) line = take-same
  keeps (open_stmt.Release l) line = take-same

  pub stays : (s : Stmt) (scope : List Local) → take (length scope) ((stmt_code all s).scope scope) ≡ scope
  stays s = folds.both Stays (stmt_code_step all) (stmt_code_step all) keeps s

pub ruleset scopes = (stays)
