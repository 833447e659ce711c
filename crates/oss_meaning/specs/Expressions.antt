-- What an expression means (C11 6.5): operands are evaluated from left to right, and each load is an ask; `&&` and `||` evaluate their
-- right side only where it decides; a call evaluates its arguments, does one tick, and runs the body of its function.
-- Everything is said with what goes on behind: an expression hands its value to the rest of the run.
-- Read against: `a[0] && 1 / x` with 0 in `a[0]` loads `a[0]` alone and is 0; with 1 there and 0 in `x` it loads both and fails. With
-- `long m[3][4];` the value of `m[1]` is a pointer, with no load; `m[i][j]` evaluates `i` and then `j`, and loads one cell.
use Rattle.std.specs.Prelude.{ℕ, suc, pos, Bool, true, false, nat_le, if◌then◌else◌, List, [], ◌∷◌, reverse, Option, Some, None, is_some, slice_get, slice_index_or, Result, Ok, Err}
use Rattle.oss_syntax.specs.declared.fault.FaultKind.{FaultKind}
use Rattle.oss_syntax.specs.declared.fault.FaultKind.TheVariants as fault
use Rattle.oss_syntax.specs.declared.tree.expr.BinOp.{BinOp}
use Rattle.oss_syntax.specs.declared.tree.expr.BinOp.TheVariants as op
use Rattle.oss_syntax.specs.declared.tree.expr.Expr.{Expr}
use Rattle.oss_syntax.specs.declared.tree.expr.ExprKind.TheOpen.{ExprKind-F, Expr-F}
use Rattle.oss_syntax.specs.declared.tree.expr.ExprKind.TheOpen as open_expr
use Rattle.oss_syntax.specs.declared.tree.expr.ExprKind.TheFolds.{fold-Expr}
use Rattle.oss_syntax.specs.declared.tree.expr.UnOp.{UnOp}
use Rattle.oss_syntax.specs.declared.tree.expr.UnOp.TheVariants as prefix
use Rattle.oss_syntax.specs.declared.tree.program.Function.{Function}
use Rattle.oss_syntax.specs.declared.tree.program.Item.{Item}
use Rattle.oss_syntax.specs.declared.tree.program.Local.{Local}
use Rattle.oss_syntax.specs.declared.tree.program.NumKind.{NumKind}
use Rattle.oss_grammar.specs.Kinds.{binary_kind, element_kind, number_kind, value_kind}
use Rattle.oss_grammar.specs.declared.kinds.ValueKind.{ValueKind}
use Rattle.oss_grammar.specs.declared.kinds.ValueKind.TheVariants as value_kinds
use Rattle.oss_model.specs.Bodies.Ask.{Tick, Read, Fails}
use Rattle.oss_meaning.specs.declared.names.Found.{Found}
use Rattle.oss_meaning.specs.declared.names.Found.TheVariants as names
use Rattle.oss_meaning.specs.declared.names.Target.{Target}
use Rattle.oss_meaning.specs.declared.names.Target.TheVariants as target
use Rattle.oss_meaning.specs.declared.names.Typed.{Typed}
use Rattle.oss_meaning.specs.declared.value.Value.{Value}
use Rattle.oss_meaning.specs.declared.value.Value.TheVariants as value
use Rattle.oss_meaning.specs.Names.{found, functions_of, item_found}
use Rattle.oss_meaning.specs.Operators.{is_zero, operated_by, prefixed, truth_of}
use Rattle.oss_meaning.specs.Pointers.{Extent, cell_of, element_of, extents_of, moved, number_in, row_of}
use Rattle.oss_meaning.specs.Runs.{Run, asking, ending}

-- A body of the tree: the function `main`, the body of a task function, or the statement behind a pragma, by their numbers in text order.
pub data TaskBody : Type 0 where
  main : TaskBody
  function : (number : ℕ) → TaskBody
  statement : (number : ℕ) → TaskBody

-- What a body is to run, and the values of the locals with which it begins.
pub record TreeScript : Type 0 where
  pub body : TaskBody
  pub copies : List Value

-- a run of the tree
abbrev pub TreeRun : Type 0
TreeRun = Run TreeScript

-- What goes on with a value.
abbrev pub Going : Type 0
Going = (Value → TreeRun) → TreeRun

-- The bodies of functions: the number of one, its arguments, and how many frames are open then.
abbrev pub Calls : Type 0
Calls = ℕ → List Value → ℕ → Going

-- Where an expression is evaluated.
pub record Here : Type 0 where
  -- the frames that the task has open, the one of this function with them
  pub frames : ℕ
  pub call : Calls
  -- how a task is created at the call of a task function: its number, its arguments, and the line of the call
  pub create : ℕ → List Value → ℕ → Going
  -- how many turns each loop may make
  pub turns : ℕ

-- How an expression is evaluated on a line, with these values of the locals.
abbrev pub Evaluation : Type 0
Evaluation = ℕ → Here → List Value → Going

-- What an expression means: what the text tells of it, and how it is evaluated to its value, to the place that it designates, and to what an
-- index behind it takes of it.
pub record Sense : Type 0 where
  pub typed : Typed
  pub value : Evaluation
  pub place : Evaluation
  -- of a row of an array of two dimensions its index, else the value
  pub indexed : Evaluation

-- What the text tells

-- a value of this kind, which designates nothing
abbrev pub typed_value : ValueKind → Typed
typed_value k = record { kind = k; target = target.Nothing }

-- a number, unsigned or not
abbrev pub typed_number : Bool → Typed
typed_number unsigned = typed_value (if unsigned then value_kinds.Unsigned else value_kinds.Signed)

-- a cell of this type, and the number in it
abbrev pub typed_cell : NumKind → Typed
typed_cell n = record { kind = number_kind n; target = target.Cell n }

-- a name: a local, the cell of a scalar, a pointer to the first cell of an array, an array of two dimensions; a function's name is no value
abbrev pub typed_name : Found → Typed
typed_name (names.Variable slot k) = record { kind = value_kind k; target = target.Local slot k }
typed_name (names.Scalar g n) = typed_cell n
typed_name (names.Array g n) = typed_value (value_kinds.Pointer n)
typed_name (names.Grid g n) = record { kind = value_kinds.Rows n; target = target.Grid g n }
typed_name (names.Function f) = typed_value value_kinds.Unknown
typed_name names.Unknown = typed_value value_kinds.Unknown

-- what a pointer of this kind points to
abbrev pub pointed_target : ValueKind → Target
pointed_target (value_kinds.Pointer n) = target.Cell n
pointed_target _ = target.Nothing

-- what stands behind a pointer of this kind
abbrev pub typed_pointed : ValueKind → Typed
typed_pointed k = record { kind = element_kind k; target = pointed_target k }

-- an index behind an array of two dimensions is one of its rows
abbrev pub typed_index : Typed → Typed
typed_index a = elim a.target [
  | target.Grid g n ↦ record { kind = value_kinds.Pointer n; target = target.Row g n }
  | target.Row g n ↦ typed_cell n
  | target.Nothing ↦ typed_pointed a.kind
  | target.Local slot k ↦ typed_pointed a.kind
  | target.Cell n ↦ typed_pointed a.kind
]

-- the address of a cell
abbrev pub typed_address : Target → Typed
typed_address (target.Cell n) = typed_value (value_kinds.Pointer n)
typed_address _ = typed_value value_kinds.Unknown

-- a prefix operator: `!` gives a signed number, `*` and `&` go along pointers, and the others keep the kind
abbrev pub typed_prefix : UnOp → Typed → Typed
typed_prefix prefix.Not e = typed_value value_kinds.Signed
typed_prefix prefix.Deref e = typed_pointed e.kind
typed_prefix prefix.Address e = typed_address e.target
typed_prefix _ e = typed_value e.kind

-- the kind of what a function gives; what is none gives nothing
abbrev pub given_kind : Option Function → ValueKind
given_kind None = value_kinds.Unknown
given_kind (Some f) = value_kind f.result

-- the kind of a call of what a name stands for
abbrev pub called_kind : List Item → Found → ValueKind
called_kind all (names.Function f) = given_kind (slice_get (functions_of all) f)
called_kind all _ = value_kinds.Unknown

-- Loads, and values that fail

-- what goes on at a cell; where there is none it is the fault OutOfRange
abbrev pub at_cell : Option ℕ → ℕ → (ℕ → TreeRun) → TreeRun
at_cell None line go = ending (Fails fault.OutOfRange) line
at_cell (Some c) line go = go c

-- a load of the cell to which a value points
abbrev pub loaded : List Extent → ℕ → Value → Going
loaded globals line p go = at_cell (cell_of globals p) line (λ c. asking (Read c) line (λ v. go (value.Num v)))

-- what goes on, or a fault
abbrev pub unless_fault : {A : Type 0} → Result A FaultKind → ℕ → (A → TreeRun) → TreeRun
unless_fault (Ok v) line go = go v
unless_fault (Err kind) line go = ending (Fails kind) line

-- Names

-- the value of a local; where there is none, it points nowhere
abbrev pub value_at : List Value → ℕ → Value
value_at locals slot = slice_index_or locals slot value.Nowhere

-- the value of a name: a scalar is loaded, and an array of one dimension is a pointer to its first cell
abbrev pub name_value : List Extent → Found → Evaluation
name_value globals (names.Variable slot k) line here locals go = go (value_at locals slot)
name_value globals (names.Scalar g n) line here locals go = loaded globals line (value.Place g (pos 0)) go
name_value globals (names.Array g n) line here locals go = go (value.Place g (pos 0))
name_value globals (names.Grid g n) line here locals go = go (value.Place g (pos 0))
name_value globals _ line here locals go = go value.Nowhere

-- the place of a name: that of a scalar's cell
abbrev pub name_place : Found → Evaluation
name_place (names.Scalar g n) line here locals go = go (value.Place g (pos 0))
name_place _ line here locals go = go value.Nowhere

-- An expression that designates no place.
abbrev pub no_place : Evaluation
no_place line here locals go = go value.Nowhere

-- one expression, and then the other
abbrev pub both : Evaluation → Evaluation → ℕ → Here → List Value → (Value → Value → TreeRun) → TreeRun
both a b line here locals go = a line here locals (λ v. b line here locals (λ w. go v w))

-- The place of `a[e]`: of an array of two dimensions the first cell of a row, both indices tested where a second one stands; else a pointer
-- that is moved.
abbrev pub index_place : List Extent → Target → Sense → Sense → Evaluation
index_place globals (target.Grid g n) a e line here locals go = e.value line here locals (λ v. go (row_of globals g (number_in v)))
index_place globals (target.Row g n) a e line here locals go = both a.indexed e.value line here locals (λ v w. go (element_of globals g (number_in v) (number_in w)))
index_place globals _ a e line here locals go = both a.value e.value line here locals (λ p v. go (moved false p v))

-- the number in a place
abbrev pub then_load : List Extent → Evaluation → Evaluation
then_load globals place line here locals go = place line here locals (λ p. loaded globals line p go)

-- the value of `a[e]`: a row is the pointer to its first cell, and all else is loaded
abbrev pub index_value : List Extent → Target → Sense → Sense → Evaluation
index_value globals (target.Grid g n) a e = index_place globals (target.Grid g n) a e
index_value globals t a e = then_load globals (index_place globals t a e)

-- what a second index takes of `a[e]`: of a row of an array of two dimensions the index `e`
abbrev pub index_indexed : List Extent → Target → Sense → Sense → Evaluation
index_indexed globals (target.Grid g n) a e = e.value
index_indexed globals t a e = index_value globals t a e

-- what `a[e]` means
abbrev pub index_sense : List Extent → Sense → Sense → Sense
index_sense globals a e = record {
  typed = typed_index a.typed;
  value = index_value globals a.typed.target a e;
  place = index_place globals a.typed.target a e;
  indexed = index_indexed globals a.typed.target a e;
}

-- Operators

-- a value alone, of this kind
abbrev pub value_sense : Typed → Evaluation → Sense
value_sense typed value = record { typed = typed; value = value; place = no_place; indexed = value }

-- the value of a prefix operator: `*` loads, `&` is the place of its operand, and the others make a number of its value
abbrev pub prefix_value : List Extent → UnOp → Sense → Evaluation
prefix_value globals prefix.Deref e = then_load globals e.value
prefix_value globals prefix.Address e = e.place
prefix_value globals o e = λ line here locals go. e.value line here locals (λ v. go (prefixed o v))

-- the place that `*p` designates: where `p` points
abbrev pub prefix_place : UnOp → Sense → Evaluation
prefix_place prefix.Deref e = e.value
prefix_place _ e = no_place

-- what a prefix operator and its operand mean
abbrev pub prefix_sense : List Extent → UnOp → Sense → Sense
prefix_sense globals o e = record {
  typed = typed_prefix o e.typed;
  value = prefix_value globals o e;
  place = prefix_place o e;
  indexed = prefix_value globals o e;
}

-- both operands, and then the operator
abbrev pub both_then : BinOp → Sense → Sense → Evaluation
both_then o a b line here locals go =
    both a.value b.value line here locals (λ v w. unless_fault (operated_by o a.typed.kind b.typed.kind v w) line go)

-- the value of a binary operator: `&&` and `||` give 0 or 1, and evaluate their right side only where it decides
abbrev pub binary_value : BinOp → Sense → Sense → Evaluation
binary_value op.AndAlso a b line here locals go =
    a.value line here locals (λ v. if is_zero v then go (value.Num 0) else b.value line here locals (λ w. go (truth_of w)))
binary_value op.OrElse a b line here locals go =
    a.value line here locals (λ v. if is_zero v then b.value line here locals (λ w. go (truth_of w)) else go (value.Num 1))
binary_value o a b line here locals go = both_then o a b line here locals go

-- Calls

-- expressions from left to right, the value of the last one first in the list that they make
abbrev pub arguments : List Sense → ℕ → Here → List Value → List Value → (List Value → TreeRun) → TreeRun
arguments [] line here locals made go = go made
arguments (s ∷ rest) line here locals made go = s.value line here locals (λ v. arguments rest line here locals (v ∷ made) go)

-- a call: one tick, then TooDeep where the task has 256 frames already, and then the body of the function
abbrev pub called : ℕ → ℕ → Here → List Value → Going
called f line here vs go =
    asking Tick line (λ t. if nat_le 256 here.frames then ending (Fails fault.TooDeep) line else here.call f vs (suc here.frames) go)

-- at the call of a task function a task is created
abbrev pub called_or_created : Bool → ℕ → ℕ → Here → List Value → Going
called_or_created false f line here vs go = called f line here vs go
called_or_created true f line here vs go = here.create f vs line go

-- a function with a pragma: each call of it creates a task
abbrev pub is_task_function : Option Function → Bool
is_task_function None = false
is_task_function (Some f) = is_some f.mark

-- a call by what its name stands for: what is no function is not called, evaluates nothing, and gives 0
abbrev pub call_value : List Item → Found → List Sense → Evaluation
call_value all (names.Function f) es line here locals go =
    arguments es line here locals [] (λ made. called_or_created (is_task_function (slice_get (functions_of all) f)) f line here (reverse made) go)
call_value all _ es line here locals go = go (value.Num 0)

-- What an expression means, from what its parts mean.
abbrev pub expr_step : List Item → List Local → ExprKind-F Sense Sense → Sense
expr_step all scope (open_expr.Number n unsigned) = value_sense (typed_number unsigned) (λ line here locals go. go (value.Num n))
expr_step all scope (open_expr.Name name) = record {
  typed = typed_name (found all scope name);
  value = name_value (extents_of all) (found all scope name);
  place = name_place (found all scope name);
  indexed = name_value (extents_of all) (found all scope name);
}
expr_step all scope (open_expr.Index a e) = index_sense (extents_of all) a e
expr_step all scope (open_expr.Unary o e) = prefix_sense (extents_of all) o e
expr_step all scope (open_expr.Binary o a b) = value_sense (typed_value (binary_kind o a.typed.kind b.typed.kind)) (binary_value o a b)
expr_step all scope (open_expr.Call name es) = value_sense (typed_value (called_kind all (item_found all name))) (call_value all (item_found all name) es)

-- What a whole expression means where these items and locals are in scope.
abbrev pub sense_of : List Item → List Local → Expr → Sense
sense_of all scope = fold-Expr Sense Sense (expr_step all scope) (λ e. e.what)
