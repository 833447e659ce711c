-- The instructions of an expression are at most sixteen for each of its parts, and none of them stands behind more values than it has parts.
use Rattle.std.proofs.Common.{ℕ, ◌+◌, ◌*◌, ◌≤◌, List, [], ◌∷◌, length, map, arith}
use Rattle.std.specs.Prelude.{slice_get}
use Rattle.oss_syntax.specs.declared.tree.expr.BinOp.{BinOp}
use Rattle.oss_syntax.specs.declared.tree.expr.BinOp.TheVariants as op
use Rattle.oss_syntax.specs.declared.tree.expr.UnOp.{UnOp}
use Rattle.oss_syntax.specs.declared.tree.expr.UnOp.TheVariants as prefix
use Rattle.oss_syntax.specs.declared.tree.expr.Expr.{Expr}
use Rattle.oss_syntax.specs.declared.tree.expr.ExprKind.TheOpen.{ExprKind-F}
use Rattle.oss_syntax.specs.declared.tree.expr.ExprKind.TheOpen as open_expr
use Rattle.oss_syntax.specs.declared.tree.program.Item.{Item}
use Rattle.oss_syntax.specs.declared.tree.program.Local.{Local}
use Rattle.oss_meaning.specs.declared.names.Found.{Found}
use Rattle.oss_meaning.specs.declared.names.Found.TheVariants as names
use Rattle.oss_meaning.specs.declared.names.Target.{Target}
use Rattle.oss_meaning.specs.declared.names.Target.TheVariants as target
use Rattle.oss_meaning.specs.Expressions.{is_task_function}
use Rattle.oss_meaning.specs.Names.{found, functions_of, item_found}
use Rattle.oss_code.specs.declared.instr.Direction.TheVariants as direction
use Rattle.oss_code.specs.declared.instr.Instr.TheVariants as i
use Rattle.oss_lower_laws.specs.ExpressionCode.{ExprCode, Pushes, and_code, arguments_code, binary_code, call_code, call_instr, expr_code, expr_code_step, index_indexed_code, index_place_code, index_value_code, name_place_code, name_value_code, no_place_code, operator_by, or_code, prefix_place_code, prefix_value_code, then_one, then_two}
use Rattle.oss_lower_laws.proofs.ExpressionFolds as folds
use Rattle.oss_lower_laws.proofs.ExpressionFolds.{Keeps, Pair}
use Rattle.oss_lower_bounds.specs.Sizes.{expr_counts, expr_size, total}
use Rattle.oss_lower_bounds.proofs.ShortCode.{ArePushes, IsShortList, deeper, one_more, pushed, pushes_as, short_as, short_none, short_one, short_then, two_more}

-- The instructions of an expression of this size.
pub record IsShortExpr (c : ExprCode) (n : ℕ) : Type 0 where
  pub some : 1 ≤ n
  pub value : ArePushes (16 * n) n c.value
  pub place : ArePushes (16 * n) n c.place
  pub indexed : ArePushes (16 * n) n c.indexed

-- one instruction
alone : (p : Pushes) (n : ℕ) → 1 ≤ n → ArePushes 1 0 p → ArePushes (16 * n) n p
alone p n some h = pushes_as p 1 (16 * n) 0 n h (omega (arith, some)) (omega arith)

nowhere : (n : ℕ) → 1 ≤ n → ArePushes (16 * n) n no_place_code
nowhere n some = alone no_place_code n some (pushed i.Nothing)

name_value : (f : Found) → ArePushes 2 1 (name_value_code f)
name_value (names.Variable slot k) = pushes_as _ 1 2 0 1 (pushed (i.Local slot)) (omega arith) (omega arith)
name_value (names.Scalar g k) = λ line depth. short_then (short_one line depth (depth + 1) (i.Address g) (omega arith)) (short_one line (depth + 1) (depth + 1) i.Load (omega arith))
name_value (names.Array g k) = pushes_as _ 1 2 0 1 (pushed (i.Address g)) (omega arith) (omega arith)
name_value (names.Grid g k) = pushes_as _ 1 2 0 1 (pushed (i.Address g)) (omega arith) (omega arith)
name_value _ = pushes_as _ 1 2 0 1 (pushed i.Nothing) (omega arith) (omega arith)

name_place : (f : Found) → ArePushes 1 0 (name_place_code f)
name_place (names.Scalar g k) = pushed (i.Address g)
name_place _ = pushed i.Nothing

module _ (a e : ExprCode) (m n : ℕ) (ok : IsShortExpr a m) (oke : IsShortExpr e n) where
  moved : ArePushes (16 * m + (16 * n + 1)) (1 + (m + n)) (then_two a.value e.value (i.Move direction.Forth))
  moved = two_more a.value e.value (i.Move direction.Forth) (16 * m) (16 * n) m n ok.value oke.value ok.some oke.some

  index_place : (t : Target) → ArePushes (16 * m + (16 * n + 1)) (1 + (m + n)) (index_place_code t a e)
  index_place (target.Grid g k) = pushes_as (then_one e.value (i.Row g)) (16 * n + 1) _ n _ (one_more e.value (i.Row g) (16 * n) n oke.value oke.some) (omega arith) (omega arith)
  index_place (target.Row g k) = two_more a.indexed e.value (i.Element g) (16 * m) (16 * n) m n ok.indexed oke.value ok.some oke.some
  index_place target.Nothing = moved
  index_place (target.Local slot k) = moved
  index_place (target.Cell k) = moved

  -- the same with room for a load
  placed : (p : Pushes) → ArePushes (16 * m + (16 * n + 1)) (1 + (m + n)) p → ArePushes (16 * (1 + (m + n))) (1 + (m + n)) p
  placed p h = pushes_as p (16 * m + (16 * n + 1)) (16 * (1 + (m + n))) (1 + (m + n)) (1 + (m + n)) h (omega arith) (omega arith)

  loaded : (p : Pushes) → ArePushes (16 * m + (16 * n + 1)) (1 + (m + n)) p → ArePushes (16 * (1 + (m + n))) (1 + (m + n)) (then_one p i.Load)
  loaded p h =
      pushes_as (then_one p i.Load) (16 * m + (16 * n + 1) + 1) (16 * (1 + (m + n))) (1 + (m + n)) (1 + (m + n))
      (one_more p i.Load (16 * m + (16 * n + 1)) (1 + (m + n)) h (omega arith)) (omega arith) (omega arith)

  index_value : (t : Target) → ArePushes (16 * (1 + (m + n))) (1 + (m + n)) (index_value_code t a e)
  index_value (target.Grid g k) = placed (index_place_code (target.Grid g k) a e) (index_place (target.Grid g k))
  index_value (target.Row g k) = loaded (index_place_code (target.Row g k) a e) (index_place (target.Row g k))
  index_value target.Nothing = loaded (index_place_code target.Nothing a e) (index_place target.Nothing)
  index_value (target.Local slot k) = loaded (index_place_code (target.Local slot k) a e) (index_place (target.Local slot k))
  index_value (target.Cell k) = loaded (index_place_code (target.Cell k) a e) (index_place (target.Cell k))

  index_indexed : (t : Target) → ArePushes (16 * (1 + (m + n))) (1 + (m + n)) (index_indexed_code t a e)
  index_indexed (target.Grid g k) = pushes_as e.value (16 * n) (16 * (1 + (m + n))) n (1 + (m + n)) oke.value (omega arith) (omega arith)
  index_indexed (target.Row g k) = index_value (target.Row g k)
  index_indexed target.Nothing = index_value target.Nothing
  index_indexed (target.Local slot k) = index_value (target.Local slot k)
  index_indexed (target.Cell k) = index_value (target.Cell k)

  -- the two sides of `&&` and `||`, at the depth of the whole
  left_side : (line depth : ℕ) → IsShortList (16 * m) (depth + (1 + (m + n))) (a.value line depth)
  left_side line depth = deeper (16 * m) (depth + m) (depth + (1 + (m + n))) (ok.value line depth) (omega arith)

  right_side : (line depth : ℕ) → IsShortList (16 * n) (depth + (1 + (m + n))) (e.value line depth)
  right_side line depth = deeper (16 * n) (depth + n) (depth + (1 + (m + n))) (oke.value line depth) (omega arith)

  and_short : ArePushes (16 * (1 + (m + n))) (1 + (m + n)) (and_code a.value e.value)
  and_short line depth =
      short_as (16 * m + (1 + (16 * n + (1 + (1 + 1))))) (16 * (1 + (m + n))) (depth + (1 + (m + n))) (depth + (1 + (m + n)))
      (short_then (left_side line depth) (short_then (short_one line (depth + 1) (depth + (1 + (m + n))) _ (omega arith))
      (short_then (right_side line depth) (short_then (short_one line (depth + 1) (depth + (1 + (m + n))) i.Truth (omega arith))
      (short_then (short_one line (depth + 1) (depth + (1 + (m + n))) (i.Skip 1) (omega arith)) (short_one line depth (depth + (1 + (m + n))) (i.Push 0) (omega arith)))))))
      (omega arith) (omega arith)

  or_short : ArePushes (16 * (1 + (m + n))) (1 + (m + n)) (or_code a.value e.value)
  or_short line depth =
      short_as (16 * m + (1 + (1 + (1 + (16 * n + 1))))) (16 * (1 + (m + n))) (depth + (1 + (m + n))) (depth + (1 + (m + n)))
      (short_then (left_side line depth) (short_then (short_one line (depth + 1) (depth + (1 + (m + n))) (i.SkipUnless 2) (omega arith))
      (short_then (short_one line depth (depth + (1 + (m + n))) (i.Push 1) (omega arith)) (short_then (short_one line (depth + 1) (depth + (1 + (m + n))) _ (omega arith))
      (short_then (right_side line depth) (short_one line (depth + 1) (depth + (1 + (m + n))) i.Truth (omega arith)))))))
      (omega arith) (omega arith)

  binary_short : (o : BinOp) → ArePushes (16 * (1 + (m + n))) (1 + (m + n)) (binary_code o a e)
  binary_short op.AndAlso = and_short
  binary_short op.OrElse = or_short
  binary_short o =
      placed (then_two a.value e.value (operator_by o a.typed.kind e.typed.kind))
      (two_more a.value e.value (operator_by o a.typed.kind e.typed.kind) (16 * m) (16 * n) m n ok.value oke.value ok.some oke.some)

module _ (e : ExprCode) (n : ℕ) (ok : IsShortExpr e n) where
  wider : (p : Pushes) → ArePushes (16 * n) n p → ArePushes (16 * (1 + n)) (1 + n) p
  wider p h = pushes_as p (16 * n) (16 * (1 + n)) n (1 + n) h (omega arith) (omega arith)

  one_wider : (p : Pushes) → ArePushes (16 * n + 1) n p → ArePushes (16 * (1 + n)) (1 + n) p
  one_wider p h = pushes_as p (16 * n + 1) (16 * (1 + n)) n (1 + n) h (omega arith) (omega arith)

  prefix_value : (o : UnOp) → ArePushes (16 * (1 + n)) (1 + n) (prefix_value_code o e)
  prefix_value prefix.Deref = one_wider (then_one e.value i.Load) (one_more e.value i.Load (16 * n) n ok.value ok.some)
  prefix_value prefix.Address = wider e.place ok.place
  prefix_value o = one_wider (then_one e.value (i.Prefix o)) (one_more e.value (i.Prefix o) (16 * n) n ok.value ok.some)

  prefix_place : (o : UnOp) → ArePushes (16 * (1 + n)) (1 + n) (prefix_place_code o e)
  prefix_place prefix.Deref = wider e.value ok.value
  prefix_place _ = nowhere (1 + n) (omega arith)

-- Calls

-- Arguments of this size: at most as many as that.
pub record AreShortArguments (es : List ExprCode) (n : ℕ) : Type 0 where
  pub count : length es ≤ n
  pub code : ArePushes (16 * n) n (arguments_code es)

pub no_argument : AreShortArguments [] 0
no_argument = record { count = omega arith; code = λ line depth. short_none (depth + 0) }

pub next_argument : (e : ExprCode) (es : List ExprCode) (m n : ℕ) → IsShortExpr e m → AreShortArguments es n → AreShortArguments (e ∷ es) (m + n)
next_argument e es m n ok oks = record {
  count = omega (arith, ok.some, oks.count);
  code = λ line depth.
      short_as (16 * m + 16 * n) (16 * (m + n)) (depth + (m + n)) (depth + (m + n))
      (short_then (deeper (16 * m) (depth + m) (depth + (m + n)) (ok.value line depth) (omega arith))
      (deeper (16 * n) (depth + 1 + n) (depth + (m + n)) (oks.code line (depth + 1)) (omega (arith, ok.some))))
      (omega arith) (omega arith);
}

pub call_short : (all : List Item) (f : Found) (es : List ExprCode) (n : ℕ) → AreShortArguments es n → ArePushes (16 * n + 1) (1 + n) (call_code all f es)
call_short all (names.Function f) es n oks = λ line depth.
    short_then (deeper (16 * n) (depth + n) (depth + (1 + n)) (oks.code line depth) (omega arith))
    (short_one line (depth + length es) (depth + (1 + n)) (call_instr (is_task_function (slice_get (functions_of all) f)) f (length es)) (omega (arith, oks.count)))
call_short all _ es n oks = pushes_as _ 1 (16 * n + 1) 0 (1 + n) (pushed (i.Push 0)) (omega arith) (omega arith)

-- the same as an expression
applied_short : (all : List Item) (f : Found) (es : List ExprCode) (n : ℕ) → AreShortArguments es n → ArePushes (16 * (1 + n)) (1 + n) (call_code all f es)
applied_short all f es n oks = pushes_as (call_code all f es) (16 * n + 1) (16 * (1 + n)) (1 + n) (1 + n) (call_short all f es n oks) (omega arith) (omega arith)

abbrev Sized : Type 0
Sized = Pair IsShortExpr

abbrev code_in : Sized → ExprCode
code_in p = p.left

abbrev size_in : Sized → ℕ
size_in p = p.right

pairs_short : (ps : List Sized) → AreShortArguments (map code_in ps) (total (map size_in ps))
pairs_short [] = no_argument
pairs_short (p ∷ ps) = next_argument p.left (map code_in ps) p.right (total (map size_in ps)) p.related (pairs_short ps)

module _ (all : List Item) where
  -- each kind of expression is short, if its parts are
  keeps : (scope : List Local) (z : ExprKind-F Sized Sized) → Keeps IsShortExpr (expr_code_step all scope) expr_counts z
  keeps scope (open_expr.Number k unsigned) = record {
    some = omega arith;
    value = alone _ 1 (omega arith) (pushed (i.Push k));
    place = nowhere 1 (omega arith);
    indexed = alone _ 1 (omega arith) (pushed (i.Push k));
  }
  keeps scope (open_expr.Name name) = record {
    some = omega arith;
    value = pushes_as (name_value_code (found all scope name)) 2 (16 * 1) 1 1 (name_value (found all scope name)) (omega arith) (omega arith);
    place = alone (name_place_code (found all scope name)) 1 (omega arith) (name_place (found all scope name));
    indexed = pushes_as (name_value_code (found all scope name)) 2 (16 * 1) 1 1 (name_value (found all scope name)) (omega arith) (omega arith);
  }
  keeps scope (open_expr.Index a e) = record {
    some = omega arith;
    value = index_value a.left e.left a.right e.right a.related e.related a.left.typed.target;
    place = placed a.left e.left a.right e.right a.related e.related (index_place_code a.left.typed.target a.left e.left) (index_place a.left e.left a.right e.right a.related e.related a.left.typed.target);
    indexed = index_indexed a.left e.left a.right e.right a.related e.related a.left.typed.target;
  }
  keeps scope (open_expr.Unary o e) = record {
    some = omega arith;
    value = prefix_value e.left e.right e.related o;
    place = prefix_place e.left e.right e.related o;
    indexed = prefix_value e.left e.right e.related o;
  }
  keeps scope (open_expr.Binary o a b) = record {
    some = omega arith;
    value = binary_short a.left b.left a.right b.right a.related b.related o;
    place = nowhere (1 + (a.right + b.right)) (omega arith);
    indexed = binary_short a.left b.left a.right b.right a.related b.related o;
  }
  keeps scope (open_expr.Call name es) = record {
    some = omega arith;
    value = applied_short all (item_found all name) (map code_in es) (total (map size_in es)) (pairs_short es);
    place = nowhere (1 + total (map size_in es)) (omega arith);
    indexed = applied_short all (item_found all name) (map code_in es) (total (map size_in es)) (pairs_short es);
  }

  pub expr_short : (scope : List Local) (e : Expr) → IsShortExpr (expr_code all scope e) (expr_size e)
  expr_short scope = folds.both IsShortExpr (expr_code_step all scope) expr_counts (keeps scope)

  pub value_short : (scope : List Local) (e : Expr) → ArePushes (16 * expr_size e) (expr_size e) (expr_code all scope e).value
  value_short scope e = (expr_short scope e).value

  pub values_short : (scope : List Local) (es : List Expr) → AreShortArguments (map (expr_code all scope) es) (total (map expr_size es))
  values_short scope [] = no_argument
  values_short scope (e ∷ es) = next_argument (expr_code all scope e) (map (expr_code all scope) es) (expr_size e) (total (map expr_size es)) (expr_short scope e) (values_short scope es)

-- an expression has a size
pub expr_some : (e : Expr) → 1 ≤ expr_size e
expr_some e = (expr_short [] [] e).some
