-- The instructions of an expression: those of its parts from left to right, and then its own; `&&` and `||` jump over their right side where
-- it does not decide. Each instruction has the line of the statement, and its depth.
-- Read against: with `long x, m[3][4];` the expression `x + 1` is `Address 0, Load, Push 1, Apply +` with the depths 0, 1, 1, 2; `m[1][2]` is
-- `Push 1, Push 2, Element 1, Load`; `f(2)` is `Push 2, Call 0 with 1`, and where `f` is a task function `Push 2, Spawn 0 with 1`.
use Rattle.std.specs.Prelude.{ℕ, ◌+◌, Bool, true, false, List, [], ◌∷◌, ◌++◌, length, slice_get}
use Rattle.oss_syntax.specs.declared.tree.expr.BinOp.{BinOp}
use Rattle.oss_syntax.specs.declared.tree.expr.BinOp.TheVariants as op
use Rattle.oss_syntax.specs.declared.tree.expr.Expr.{Expr}
use Rattle.oss_syntax.specs.declared.tree.expr.ExprKind.TheOpen.{ExprKind-F, Expr-F}
use Rattle.oss_syntax.specs.declared.tree.expr.ExprKind.TheOpen as open_expr
use Rattle.oss_syntax.specs.declared.tree.expr.ExprKind.TheFolds.{fold-Expr}
use Rattle.oss_syntax.specs.declared.tree.expr.UnOp.{UnOp}
use Rattle.oss_syntax.specs.declared.tree.expr.UnOp.TheVariants as prefix
use Rattle.oss_syntax.specs.declared.tree.program.Item.{Item}
use Rattle.oss_syntax.specs.declared.tree.program.Local.{Local}
use Rattle.oss_grammar.specs.Kinds.{binary_kind}
use Rattle.oss_grammar.specs.declared.kinds.ValueKind.{ValueKind}
use Rattle.oss_meaning.specs.declared.names.Found.{Found}
use Rattle.oss_meaning.specs.declared.names.Found.TheVariants as names
use Rattle.oss_meaning.specs.declared.names.Target.{Target}
use Rattle.oss_meaning.specs.declared.names.Target.TheVariants as target
use Rattle.oss_meaning.specs.declared.names.Typed.{Typed}
use Rattle.oss_meaning.specs.Expressions.{called_kind, is_task_function, typed_index, typed_name, typed_number, typed_prefix, typed_value}
use Rattle.oss_meaning.specs.Names.{found, functions_of, item_found}
use Rattle.oss_meaning.specs.Operators.{is_back, is_pointer, is_unsigned_kind}
use Rattle.oss_code.specs.declared.instr.Direction.{Direction}
use Rattle.oss_code.specs.declared.instr.Direction.TheVariants as direction
use Rattle.oss_code.specs.declared.instr.Instr.{Instr}
use Rattle.oss_code.specs.declared.instr.Instr.TheVariants as i
use Rattle.oss_lower_laws.specs.declared.lined.Lined.{Lined}

-- The instructions of an expression on a line, behind so many values: they leave one value more.
abbrev pub Pushes : Type 0
Pushes = ℕ → ℕ → List Lined

-- What an expression becomes: what the text tells of it, and its instructions, for its value, for the place that it designates, and for
-- what an index behind it takes of it.
pub record ExprCode : Type 0 where
  pub typed : Typed
  pub value : Pushes
  pub place : Pushes
  pub indexed : Pushes

-- one instruction
abbrev pub one : ℕ → ℕ → Instr → List Lined
one line depth what = record { what = what; line = line; depth = depth } ∷ []

-- Names

-- the value of a name: that of a local, the number in the cell of a scalar, or a pointer to the first cell of an array
abbrev pub name_value_code : Found → Pushes
name_value_code (names.Variable slot k) line depth = one line depth (i.Local slot)
name_value_code (names.Scalar g n) line depth = one line depth (i.Address g) ++ one line (depth + 1) i.Load
name_value_code (names.Array g n) line depth = one line depth (i.Address g)
name_value_code (names.Grid g n) line depth = one line depth (i.Address g)
name_value_code _ line depth = one line depth i.Nothing

-- the place of a name: that of a scalar's cell
abbrev pub name_place_code : Found → Pushes
name_place_code (names.Scalar g n) line depth = one line depth (i.Address g)
name_place_code _ line depth = one line depth i.Nothing

-- an expression that designates no place
abbrev pub no_place_code : Pushes
no_place_code line depth = one line depth i.Nothing

-- Loads and indices

-- one part, and an instruction on its value
abbrev pub then_one : Pushes → Instr → Pushes
then_one part what line depth = part line depth ++ one line (depth + 1) what

-- two parts, and an instruction on their values
abbrev pub then_two : Pushes → Pushes → Instr → Pushes
then_two a b what line depth = a line depth ++ (b line (depth + 1) ++ one line (depth + 2) what)

-- the number in a place
abbrev pub load_code : Pushes → Pushes
load_code place = then_one place i.Load

-- the place of `a[e]`: of an array of two dimensions the first cell of a row, with a second index the cell of both; else a pointer that is moved
abbrev pub index_place_code : Target → ExprCode → ExprCode → Pushes
index_place_code (target.Grid g n) a e = then_one e.value (i.Row g)
index_place_code (target.Row g n) a e = then_two a.indexed e.value (i.Element g)
index_place_code _ a e = then_two a.value e.value (i.Move direction.Forth)

-- the value of `a[e]`: a row is the pointer to its first cell, and all else is loaded
abbrev pub index_value_code : Target → ExprCode → ExprCode → Pushes
index_value_code (target.Grid g n) a e = index_place_code (target.Grid g n) a e
index_value_code t a e = load_code (index_place_code t a e)

-- what a second index takes of `a[e]`: of a row the index `e`
abbrev pub index_indexed_code : Target → ExprCode → ExprCode → Pushes
index_indexed_code (target.Grid g n) a e = e.value
index_indexed_code t a e = index_value_code t a e

-- what `a[e]` becomes
abbrev pub index_code : ExprCode → ExprCode → ExprCode
index_code a e = record {
  typed = typed_index a.typed;
  value = index_value_code a.typed.target a e;
  place = index_place_code a.typed.target a e;
  indexed = index_indexed_code a.typed.target a e;
}

-- Operators

-- a value alone, of this kind
abbrev pub value_code : Typed → Pushes → ExprCode
value_code typed value = record { typed = typed; value = value; place = no_place_code; indexed = value }

-- the value of a prefix operator: `*` loads, and `&` is the place of its operand
abbrev pub prefix_value_code : UnOp → ExprCode → Pushes
prefix_value_code prefix.Deref e = load_code e.value
prefix_value_code prefix.Address e = e.place
prefix_value_code o e = then_one e.value (i.Prefix o)

-- the place that `*p` designates: where `p` points
abbrev pub prefix_place_code : UnOp → ExprCode → Pushes
prefix_place_code prefix.Deref e = e.value
prefix_place_code _ e = no_place_code

-- what a prefix operator and its operand become
abbrev pub prefix_code : UnOp → ExprCode → ExprCode
prefix_code o e = record {
  typed = typed_prefix o e.typed;
  value = prefix_value_code o e;
  place = prefix_place_code o e;
  indexed = prefix_value_code o e;
}

-- which way a pointer moves: back or forth
abbrev pub direction_of : Bool → Direction
direction_of true = direction.Back
direction_of false = direction.Forth

-- the instruction of an operator: the text tells whether its left operand is a pointer, and which are unsigned
abbrev pub operator : Bool → BinOp → Bool → Bool → Instr
operator true o left right = i.Move (direction_of (is_back o))
operator false o left right = i.Apply (record { op = o; left_unsigned = left; right_unsigned = right })

-- the same by the kinds of its operands
abbrev pub operator_by : BinOp → ValueKind → ValueKind → Instr
operator_by o a b = operator (is_pointer a) o (is_unsigned_kind a) (is_unsigned_kind b)

-- `a && b`: where `a` is 0 the right side is passed, and 0 is left
abbrev pub and_code : Pushes → Pushes → Pushes
and_code a b line depth =
    a line depth ++ (one line (depth + 1) (i.SkipUnless (length (b line depth) + 2))
    ++ (b line depth ++ (one line (depth + 1) i.Truth ++ (one line (depth + 1) (i.Skip 1) ++ one line depth (i.Push 0)))))

-- `a || b`: where `a` is not 0 the right side is passed, and 1 is left
abbrev pub or_code : Pushes → Pushes → Pushes
or_code a b line depth =
    a line depth ++ (one line (depth + 1) (i.SkipUnless 2) ++ (one line depth (i.Push 1)
    ++ (one line (depth + 1) (i.Skip (length (b line depth) + 1)) ++ (b line depth ++ one line (depth + 1) i.Truth))))

-- both sides, and then the operator; `&&` and `||` jump
abbrev pub binary_code : BinOp → ExprCode → ExprCode → Pushes
binary_code op.AndAlso a b = and_code a.value b.value
binary_code op.OrElse a b = or_code a.value b.value
binary_code o a b = then_two a.value b.value (operator_by o a.typed.kind b.typed.kind)

-- Calls

-- expressions from left to right, each of which leaves its value
abbrev pub arguments_code : List ExprCode → Pushes
arguments_code [] line depth = []
arguments_code (e ∷ rest) line depth = e.value line depth ++ arguments_code rest line (depth + 1)

-- the instruction of a call: at that of a task function a task is created
abbrev pub call_instr : Bool → ℕ → ℕ → Instr
call_instr false f count = i.Call f count
call_instr true f count = i.Spawn f count

-- a call by what its name stands for: its arguments, and then the call; what is no function evaluates nothing, and leaves 0
abbrev pub call_code : List Item → Found → List ExprCode → Pushes
call_code all (names.Function f) es line depth =
    arguments_code es line depth ++ one line (depth + length es) (call_instr (is_task_function (slice_get (functions_of all) f)) f (length es))
call_code all _ es line depth = one line depth (i.Push 0)

-- What an expression becomes, from what its parts become.
abbrev pub expr_code_step : List Item → List Local → ExprKind-F ExprCode ExprCode → ExprCode
expr_code_step all scope (open_expr.Number n unsigned) = value_code (typed_number unsigned) (λ line depth. one line depth (i.Push n))
expr_code_step all scope (open_expr.Name name) = record {
  typed = typed_name (found all scope name);
  value = name_value_code (found all scope name);
  place = name_place_code (found all scope name);
  indexed = name_value_code (found all scope name);
}
expr_code_step all scope (open_expr.Index a e) = index_code a e
expr_code_step all scope (open_expr.Unary o e) = prefix_code o e
expr_code_step all scope (open_expr.Binary o a b) = value_code (typed_value (binary_kind o a.typed.kind b.typed.kind)) (binary_code o a b)
expr_code_step all scope (open_expr.Call name es) = value_code (typed_value (called_kind all (item_found all name))) (call_code all (item_found all name) es)

-- What a whole expression becomes where these items and locals are in scope.
abbrev pub expr_code : List Item → List Local → Expr → ExprCode
expr_code all scope = fold-Expr ExprCode ExprCode (expr_code_step all scope) (λ e. e.what)
