-- What operators make of values (C11 6.5.3, 6.5.5 to 6.5.12), and what a variable keeps of one (C11 6.5.16.1): numbers by their kinds;
-- a pointer on the left of `+` and `-` moves.
-- Read against: `3 / 2` is 1; `1 / 0` is DivideByZero; the pointer to `a[1]` plus 2 is that to `a[3]`; an `int` keeps -2147483648 of
-- 2147483648; a pointer that is given no value points nowhere.
use Rattle.std.specs.Prelude.{◌-◌, ◌^◌, ◌==◌, Bool, true, false, if◌then◌else◌, Result, Ok, Err}
use Rattle.oss_syntax.specs.declared.fault.FaultKind.{FaultKind}
use Rattle.oss_syntax.specs.declared.tree.expr.BinOp.{BinOp}
use Rattle.oss_syntax.specs.declared.tree.expr.BinOp.TheVariants as op
use Rattle.oss_syntax.specs.declared.tree.expr.UnOp.{UnOp}
use Rattle.oss_syntax.specs.declared.tree.expr.UnOp.TheVariants as prefix
use Rattle.oss_syntax.specs.declared.tree.program.Kind.{Kind}
use Rattle.oss_syntax.specs.declared.tree.program.Kind.TheVariants as kind
use Rattle.oss_grammar.specs.declared.kinds.ValueKind.{ValueKind}
use Rattle.oss_grammar.specs.declared.kinds.ValueKind.TheVariants as value_kind
use Rattle.oss_grammar.specs.Values.{Number, applied, kept, negated}
use Rattle.oss_meaning.specs.declared.value.Value.{Value}
use Rattle.oss_meaning.specs.declared.value.Value.TheVariants as value
use Rattle.oss_meaning.specs.Pointers.{moved, number_in}

-- a test fails where its value is 0 (C11 6.8.4.1)
abbrev pub is_zero : Value → Bool
is_zero v = number_in v == 0

-- 1 for a value that is not 0
abbrev pub truth_of : Value → Value
truth_of v = value.Num (if is_zero v then 0 else 1)

-- values of this kind are pointers
abbrev pub is_pointer : ValueKind → Bool
is_pointer (value_kind.Pointer n) = true
is_pointer _ = false

-- values of this kind are unsigned
abbrev pub is_unsigned_kind : ValueKind → Bool
is_unsigned_kind value_kind.Unsigned = true
is_unsigned_kind _ = false

-- `-` moves a pointer back
abbrev pub is_back : BinOp → Bool
is_back op.Sub = true
is_back _ = false

-- a number as a value, or its fault
abbrev pub as_value : Result Number FaultKind → Result Value FaultKind
as_value (Ok n) = Ok (value.Num n.value)
as_value (Err kind) = Err kind

-- the number that a value is, as the text tells its kind
abbrev pub number_of : Bool → Value → Number
number_of unsigned v = record { value = number_in v; unsigned = unsigned }

-- an operator on two numbers, of which the text tells whether they are unsigned
abbrev pub applied_to : BinOp → Bool → Bool → Value → Value → Result Value FaultKind
applied_to o left right v w = as_value (applied o (number_of left v) (number_of right w))

-- an operator on two values: the text tells whether the left one is a pointer, and which are unsigned
abbrev pub operated : Bool → BinOp → Bool → Bool → Value → Value → Result Value FaultKind
operated true o left right v w = Ok (moved (is_back o) v w)
operated false o left right v w = applied_to o left right v w

-- the same with what the text tells of the operands
abbrev pub operated_by : BinOp → ValueKind → ValueKind → Value → Value → Result Value FaultKind
operated_by o a b v w = operated (is_pointer a) o (is_unsigned_kind a) (is_unsigned_kind b) v w

-- a prefix operator on a number: `-`, `!` and `~`; `+` leaves it
abbrev pub prefixed : UnOp → Value → Value
prefixed prefix.Minus v = value.Num (negated (number_in v))
prefixed prefix.Not v = value.Num (if is_zero v then 1 else 0)
prefixed prefix.Invert v = value.Num (2 ^ 64 - 1 - number_in v)
prefixed _ v = v

-- what a variable of this type keeps of a value
abbrev pub kept_value : Kind → Value → Value
kept_value (kind.Num n) v = value.Num (kept n (number_in v))
kept_value _ v = v

-- what a variable of this type is before it is given a value
abbrev pub first_value : Kind → Value
first_value (kind.Pointer n) = value.Nowhere
first_value _ = value.Num 0
