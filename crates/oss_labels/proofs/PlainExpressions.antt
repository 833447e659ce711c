-- No instruction of an expression creates a task: at the call of a task function the creation stands in the function.
use Rattle.std.proofs.Common.{ℕ, ◌+◌, Bool, true, false, List, [], ◌∷◌, length, map, refl}
use Rattle.std.specs.Prelude.{slice_get}
use Rattle.oss_syntax.specs.declared.tree.expr.BinOp.{BinOp}
use Rattle.oss_syntax.specs.declared.tree.expr.BinOp.TheVariants as op
use Rattle.oss_syntax.specs.declared.tree.expr.Expr.{Expr}
use Rattle.oss_syntax.specs.declared.tree.expr.ExprKind.TheOpen.{ExprKind-F}
use Rattle.oss_syntax.specs.declared.tree.expr.ExprKind.TheOpen as open_expr
use Rattle.oss_syntax.specs.declared.tree.expr.UnOp.{UnOp}
use Rattle.oss_syntax.specs.declared.tree.expr.UnOp.TheVariants as prefix
use Rattle.oss_syntax.specs.declared.tree.program.Item.{Item}
use Rattle.oss_syntax.specs.declared.tree.program.Local.{Local}
use Rattle.oss_grammar.specs.declared.kinds.ValueKind.{ValueKind}
use Rattle.oss_meaning.specs.declared.names.Found.{Found}
use Rattle.oss_meaning.specs.declared.names.Found.TheVariants as names
use Rattle.oss_meaning.specs.declared.names.Target.{Target}
use Rattle.oss_meaning.specs.declared.names.Target.TheVariants as target
use Rattle.oss_meaning.specs.Expressions.{is_task_function}
use Rattle.oss_meaning.specs.Names.{found, functions_of, item_found}
use Rattle.oss_meaning.specs.Operators.{is_pointer, is_unsigned_kind}
use Rattle.oss_code.specs.declared.instr.Direction.TheVariants as direction
use Rattle.oss_code.specs.declared.instr.Instr.{Instr}
use Rattle.oss_code.specs.declared.instr.Instr.TheVariants as i
use Rattle.oss_lower_laws.specs.ExpressionCode.{ExprCode, Pushes, and_code, arguments_code, binary_code, call_code, call_instr, expr_code, expr_code_step, index_indexed_code, index_place_code, index_value_code, name_place_code, name_value_code, no_place_code, one, operator, operator_by, or_code, prefix_place_code, prefix_value_code, then_one, then_two}
use Rattle.oss_lower_laws.proofs.ExpressionFolds as folds
use Rattle.oss_lower_laws.proofs.ExpressionFolds.{Keeps, Pair}
use Rattle.oss_labels.proofs.CreatedLists.{IsPlain, IsQuiet, plain_none, plain_one, plain_then}

-- Instructions that create nothing, on each line and behind so many values.
abbrev pub ArePlain : Pushes → Type 0
ArePlain p = (line depth : ℕ) → IsPlain (p line depth)

-- Those of an expression.
pub record IsPlainExpr (c : ExprCode) : Type 0 where
  pub value : ArePlain c.value
  pub place : ArePlain c.place
  pub indexed : ArePlain c.indexed

-- what two folds of one kind are related by
abbrev Plain : ExprCode → ExprCode → Type 0
Plain c d = IsPlainExpr c

single : (what : Instr) → IsQuiet what → ArePlain (λ line depth. one line depth what)
single what quiet line depth = plain_one line depth what quiet

nowhere : ArePlain no_place_code
nowhere line depth = plain_one line depth i.Nothing (λ at. refl)

one_more : (p : Pushes) (what : Instr) → ArePlain p → IsQuiet what → ArePlain (then_one p what)
one_more p what h quiet line depth = plain_then (h line depth) (plain_one line (depth + 1) what quiet)

two_more : (p q : Pushes) (what : Instr) → ArePlain p → ArePlain q → IsQuiet what → ArePlain (then_two p q what)
two_more p q what h k quiet line depth = plain_then (h line depth) (plain_then (k line (depth + 1)) (plain_one line (depth + 2) what quiet))

name_value : (f : Found) → ArePlain (name_value_code f)
name_value (names.Scalar g k) line depth = plain_then (plain_one line depth (i.Address g) (λ at. refl)) (plain_one line (depth + 1) i.Load (λ at. refl))
name_value (names.Variable slot k) line depth = plain_one line depth (i.Local slot) (λ at. refl)
name_value (names.Array g k) line depth = plain_one line depth (i.Address g) (λ at. refl)
name_value (names.Grid g k) line depth = plain_one line depth (i.Address g) (λ at. refl)
name_value (names.Function f) line depth = plain_one line depth i.Nothing (λ at. refl)
name_value names.Unknown line depth = plain_one line depth i.Nothing (λ at. refl)

name_place : (f : Found) → ArePlain (name_place_code f)
name_place (names.Scalar g k) line depth = plain_one line depth (i.Address g) (λ at. refl)
name_place (names.Variable slot k) line depth = plain_one line depth i.Nothing (λ at. refl)
name_place (names.Array g k) line depth = plain_one line depth i.Nothing (λ at. refl)
name_place (names.Grid g k) line depth = plain_one line depth i.Nothing (λ at. refl)
name_place (names.Function f) line depth = plain_one line depth i.Nothing (λ at. refl)
name_place names.Unknown line depth = plain_one line depth i.Nothing (λ at. refl)

operator_quiet : (pointer : Bool) (o : BinOp) (left right : Bool) → IsQuiet (operator pointer o left right)
operator_quiet true o left right at = refl
operator_quiet false o left right at = refl

pub operated_quiet : (o : BinOp) (a b : ValueKind) → IsQuiet (operator_by o a b)
operated_quiet o a b = operator_quiet (is_pointer a) o (is_unsigned_kind a) (is_unsigned_kind b)

call_quiet : (task : Bool) (f count : ℕ) → IsQuiet (call_instr task f count)
call_quiet true f count at = refl
call_quiet false f count at = refl

module _ (a e : ExprCode) (ok : IsPlainExpr a) (oke : IsPlainExpr e) where
  moved : ArePlain (then_two a.value e.value (i.Move direction.Forth))
  moved = two_more a.value e.value (i.Move direction.Forth) ok.value oke.value (λ at. refl)

  index_place : (t : Target) → ArePlain (index_place_code t a e)
  index_place (target.Grid g k) = one_more e.value (i.Row g) oke.value (λ at. refl)
  index_place (target.Row g k) = two_more a.indexed e.value (i.Element g) ok.indexed oke.value (λ at. refl)
  index_place target.Nothing = moved
  index_place (target.Local slot k) = moved
  index_place (target.Cell k) = moved

  loaded : (p : Pushes) → ArePlain p → ArePlain (then_one p i.Load)
  loaded p h = one_more p i.Load h (λ at. refl)

  index_value : (t : Target) → ArePlain (index_value_code t a e)
  index_value (target.Grid g k) = index_place (target.Grid g k)
  index_value (target.Row g k) = loaded (index_place_code (target.Row g k) a e) (index_place (target.Row g k))
  index_value target.Nothing = loaded (index_place_code target.Nothing a e) (index_place target.Nothing)
  index_value (target.Local slot k) = loaded (index_place_code (target.Local slot k) a e) (index_place (target.Local slot k))
  index_value (target.Cell k) = loaded (index_place_code (target.Cell k) a e) (index_place (target.Cell k))

  index_indexed : (t : Target) → ArePlain (index_indexed_code t a e)
  index_indexed (target.Grid g k) = oke.value
  index_indexed (target.Row g k) = index_value (target.Row g k)
  index_indexed target.Nothing = index_value target.Nothing
  index_indexed (target.Local slot k) = index_value (target.Local slot k)
  index_indexed (target.Cell k) = index_value (target.Cell k)

  and_plain : ArePlain (and_code a.value e.value)
  and_plain line depth =
      plain_then (ok.value line depth) (plain_then (plain_one line (depth + 1) _ (λ at. refl))
      (plain_then (oke.value line depth) (plain_then (plain_one line (depth + 1) i.Truth (λ at. refl))
      (plain_then (plain_one line (depth + 1) (i.Skip 1) (λ at. refl)) (plain_one line depth (i.Push 0) (λ at. refl))))))

  or_plain : ArePlain (or_code a.value e.value)
  or_plain line depth =
      plain_then (ok.value line depth) (plain_then (plain_one line (depth + 1) (i.SkipUnless 2) (λ at. refl))
      (plain_then (plain_one line depth (i.Push 1) (λ at. refl)) (plain_then (plain_one line (depth + 1) _ (λ at. refl))
      (plain_then (oke.value line depth) (plain_one line (depth + 1) i.Truth (λ at. refl))))))

  binary_plain : (o : BinOp) → ArePlain (binary_code o a e)
  binary_plain op.AndAlso = and_plain
  binary_plain op.OrElse = or_plain
  binary_plain o = two_more a.value e.value (operator_by o a.typed.kind e.typed.kind) ok.value oke.value (operated_quiet o a.typed.kind e.typed.kind)

module _ (e : ExprCode) (ok : IsPlainExpr e) where
  prefix_value : (o : UnOp) → ArePlain (prefix_value_code o e)
  prefix_value prefix.Deref = one_more e.value i.Load ok.value (λ at. refl)
  prefix_value prefix.Address = ok.place
  prefix_value o = one_more e.value (i.Prefix o) ok.value (λ at. refl)

  prefix_place : (o : UnOp) → ArePlain (prefix_place_code o e)
  prefix_place prefix.Deref = ok.value
  prefix_place _ = nowhere

-- Calls

abbrev Coded : Type 0
Coded = Pair Plain

abbrev code_in : Coded → ExprCode
code_in p = p.left

pairs_plain : (ps : List Coded) → ArePlain (arguments_code (map code_in ps))
pairs_plain [] line depth = plain_none
pairs_plain (p ∷ ps) line depth = plain_then (p.related.value line depth) (pairs_plain ps line (depth + 1))

pub call_plain : (all : List Item) (f : Found) (es : List ExprCode) → ArePlain (arguments_code es) → ArePlain (call_code all f es)
call_plain all (names.Function f) es h line depth =
    plain_then (h line depth) (plain_one line (depth + length es) _ (call_quiet (is_task_function (slice_get (functions_of all) f)) f (length es)))
call_plain all (names.Variable slot k) es h line depth = plain_one line depth (i.Push 0) (λ at. refl)
call_plain all (names.Scalar g k) es h line depth = plain_one line depth (i.Push 0) (λ at. refl)
call_plain all (names.Array g k) es h line depth = plain_one line depth (i.Push 0) (λ at. refl)
call_plain all (names.Grid g k) es h line depth = plain_one line depth (i.Push 0) (λ at. refl)
call_plain all names.Unknown es h line depth = plain_one line depth (i.Push 0) (λ at. refl)

module _ (all : List Item) (scope : List Local) where
  keeps : (z : ExprKind-F Coded Coded) → Keeps Plain (expr_code_step all scope) (expr_code_step all scope) z
  keeps (open_expr.Number k unsigned) = record { value = single (i.Push k) (λ at. refl); place = nowhere; indexed = single (i.Push k) (λ at. refl) }
  keeps (open_expr.Name name) = record { value = name_value (found all scope name); place = name_place (found all scope name); indexed = name_value (found all scope name) }
  keeps (open_expr.Index a e) = record {
    value = index_value a.left e.left a.related e.related a.left.typed.target;
    place = index_place a.left e.left a.related e.related a.left.typed.target;
    indexed = index_indexed a.left e.left a.related e.related a.left.typed.target;
  }
  keeps (open_expr.Unary o e) = record { value = prefix_value e.left e.related o; place = prefix_place e.left e.related o; indexed = prefix_value e.left e.related o }
  keeps (open_expr.Binary o a b) = record { value = binary_plain a.left b.left a.related b.related o; place = nowhere; indexed = binary_plain a.left b.left a.related b.related o }
  keeps (open_expr.Call name es) = record {
    value = call_plain all (item_found all name) (map code_in es) (pairs_plain es);
    place = nowhere;
    indexed = call_plain all (item_found all name) (map code_in es) (pairs_plain es);
  }

  pub expr_plain : (e : Expr) → IsPlainExpr (expr_code all scope e)
  expr_plain = folds.both Plain (expr_code_step all scope) (expr_code_step all scope) keeps

  pub value_plain : (e : Expr) → ArePlain (expr_code all scope e).value
  value_plain e = (expr_plain e).value

  pub values_plain : (es : List Expr) → ArePlain (arguments_code (map (expr_code all scope) es))
  values_plain [] line depth = plain_none
  values_plain (e ∷ es) line depth = plain_then (value_plain e line depth) (values_plain es line (depth + 1))
