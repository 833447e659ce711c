-- What an expression that designates a cell is: the number in that cell.
use Rattle.std.proofs.Common.{◌≡◌, true, false, List}
use Rattle.oss_syntax.specs.declared.tree.expr.Expr.{Expr}
use Rattle.oss_syntax.specs.declared.tree.expr.ExprKind.TheOpen as open_expr
use Rattle.oss_syntax.specs.declared.tree.expr.UnOp.{UnOp}
use Rattle.oss_syntax.specs.declared.tree.expr.UnOp.TheVariants as prefix
use Rattle.oss_syntax.specs.declared.tree.program.Item.{Item}
use Rattle.oss_syntax.specs.declared.tree.program.Local.{Local}
use Rattle.oss_syntax.specs.declared.tree.program.NumKind.{NumKind}
use Rattle.oss_grammar.specs.declared.kinds.ValueKind.{ValueKind}
use Rattle.oss_grammar.specs.declared.kinds.ValueKind.TheVariants as value_kinds
use Rattle.oss_grammar.specs.Kinds.{number_kind}
use Rattle.oss_meaning.specs.declared.names.Found.{Found}
use Rattle.oss_meaning.specs.declared.names.Found.TheVariants as names
use Rattle.oss_meaning.specs.declared.names.Target.{Target}
use Rattle.oss_meaning.specs.declared.names.Target.TheVariants as target
use Rattle.oss_meaning.specs.declared.names.Typed.{Typed}
use Rattle.oss_meaning.specs.Expressions.{typed_address, typed_index, typed_name, typed_pointed, typed_prefix}
use Rattle.oss_meaning.specs.Names.{found}
use Rattle.oss_lower_laws.specs.ExpressionCode.{ExprCode, expr_code, expr_code_step}
use Rattle.oss_lower_laws.proofs.ExpressionFolds as folds

abbrev IsKinded : Typed → Type 0
IsKinded t = (n : NumKind) → t.target ≡ target.Cell n → t.kind ≡ number_kind n

of_name : (f : Found) → IsKinded (typed_name f)
of_name (names.Variable slot k) n e = absurd (cc)
of_name (names.Scalar g m) n e = cc
of_name (names.Array g m) n e = absurd (cc)
of_name (names.Grid g m) n e = absurd (cc)
of_name (names.Function f) n e = absurd (cc)
of_name names.Unknown n e = absurd (cc)

of_pointed : (k : ValueKind) → IsKinded (typed_pointed k)
of_pointed (value_kinds.Pointer m) n e = cc
of_pointed (value_kinds.Rows m) n e = absurd (cc)
of_pointed value_kinds.Signed n e = absurd (cc)
of_pointed value_kinds.Unsigned n e = absurd (cc)
of_pointed value_kinds.Nothing n e = absurd (cc)
of_pointed value_kinds.Unknown n e = absurd (cc)

of_index : (t : Target) (k : ValueKind) → IsKinded (typed_index (record { kind = k; target = t }))
of_index (target.Grid g m) k n e = absurd (cc)
of_index (target.Row g m) k n e = cc
of_index target.Nothing k n e = of_pointed k n e
of_index (target.Local slot l) k n e = of_pointed k n e
of_index (target.Cell m) k n e = of_pointed k n e

of_address : (t : Target) → IsKinded (typed_address t)
of_address (target.Grid g m) n e = absurd (cc)
of_address (target.Row g m) n e = absurd (cc)
of_address target.Nothing n e = absurd (cc)
of_address (target.Local slot l) n e = absurd (cc)
of_address (target.Cell m) n e = absurd (cc)

of_prefix : (o : UnOp) (t : Typed) → IsKinded (typed_prefix o t)
of_prefix prefix.Not t n e = absurd (cc)
of_prefix prefix.Deref t n e = of_pointed t.kind n e
of_prefix prefix.Address t n e = of_address t.target n e
of_prefix prefix.Minus t n e = absurd (cc)
of_prefix prefix.Plus t n e = absurd (cc)
of_prefix prefix.Invert t n e = absurd (cc)

abbrev Kinded : ExprCode → ExprCode → Type 0
Kinded a b = IsKinded a.typed

module _ (all : List Item) (scope : List Local) where
  keeps : (z : _) → folds.Keeps Kinded (expr_code_step all scope) (expr_code_step all scope) z
  keeps (open_expr.Number v true) n e = absurd (cc)
  keeps (open_expr.Number v false) n e = absurd (cc)
  keeps (open_expr.Name name) n e = of_name (found all scope name) n e
  keeps (open_expr.Index a j) n e = of_index a.left.typed.target a.left.typed.kind n e
  keeps (open_expr.Unary o x) n e = of_prefix o x.left.typed n e
  keeps (open_expr.Binary o a b) n e = absurd (cc)
  keeps (open_expr.Call name es) n e = absurd (cc)

  pub kinded : (e : Expr) → IsKinded (expr_code all scope e).typed
  kinded = folds.both Kinded (expr_code_step all scope) (expr_code_step all scope) keeps
