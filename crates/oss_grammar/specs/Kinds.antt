-- The kinds of values (C11 6.5), which of them a place allows, and the kinds of names and operators. An expression whose kind its
-- place does not allow, or which takes its kind from one, has an unknown kind and breaks no further rule.
-- Read against: with `long x, a[2], m[3][4];` the expression `a * 2` breaks a rule at `a`, and `-(a * 2)` breaks no more than that; `a + x`
-- is a pointer; `&x` is a pointer to `long`, and `&(x + 1)` breaks a rule at `x`; `m[1]` is a pointer, `m[1][2]` a number, `&m[1]` and `m + 1`
-- break a rule at `m`.
use Rattle.std.specs.Prelude.{ℕ, Bool, true, false, if◌then◌else◌, List, [], ◌∷◌, ◌++◌}
use Rattle.oss_syntax.specs.declared.tree.expr.BinOp.{BinOp}
use Rattle.oss_syntax.specs.declared.tree.expr.BinOp.TheVariants as op
use Rattle.oss_syntax.specs.declared.tree.expr.UnOp.{UnOp}
use Rattle.oss_syntax.specs.declared.tree.expr.UnOp.TheVariants as prefix
use Rattle.oss_syntax.specs.declared.tree.program.Kind.{Kind}
use Rattle.oss_syntax.specs.declared.tree.program.Kind.TheVariants as kind
use Rattle.oss_syntax.specs.declared.tree.program.NumKind.{NumKind}
use Rattle.oss_syntax.specs.declared.tree.program.NumKind.TheVariants as num
use Rattle.oss_grammar.specs.declared.kinds.Named.{Named}
use Rattle.oss_grammar.specs.declared.kinds.Named.TheVariants as named
use Rattle.oss_grammar.specs.declared.kinds.Object.{Object}
use Rattle.oss_grammar.specs.declared.kinds.Object.TheVariants as object
use Rattle.oss_grammar.specs.declared.kinds.ValueKind.{ValueKind}
use Rattle.oss_grammar.specs.declared.kinds.ValueKind.TheVariants as value
use Rattle.oss_grammar.specs.declared.kinds.Wanted.{Wanted}
use Rattle.oss_grammar.specs.declared.kinds.Wanted.TheVariants as wanted
use Rattle.oss_syntax.specs.declared.refusal.Refused.{Refused}
use Rattle.oss_syntax.specs.declared.refusal.RefusedKind.TheVariants as refused
use Rattle.oss_grammar.specs.Broken.{broken, insert}

-- What is found of an expression: the line of its first token, the rules that are broken at that token, in the order of the table,
-- and behind it, in text order; its kind, and what it designates.
pub record Findings : Type 0 where
  pub line : ℕ
  pub at_first : List Refused
  pub behind : List Refused
  pub kind : ValueKind
  pub object : Object

-- all rules that it breaks
abbrev pub all_of : Findings → List Refused
all_of f = f.at_first ++ f.behind

abbrev pub number_kind : NumKind → ValueKind
number_kind num.Int = value.Signed
number_kind num.Long = value.Signed
number_kind num.Ulong = value.Unsigned

abbrev pub value_kind : Kind → ValueKind
value_kind (kind.Num n) = number_kind n
value_kind (kind.Pointer n) = value.Pointer n
value_kind kind.Nothing = value.Nothing

abbrev pub same_number : NumKind → NumKind → Bool
same_number num.Int num.Int = true
same_number num.Long num.Long = true
same_number num.Ulong num.Ulong = true
same_number _ _ = false

-- whether a value of this kind may stand at a place; one of unknown kind may stand everywhere
abbrev pub allows : Wanted → ValueKind → Bool
allows w value.Unknown = true
allows wanted.Number value.Signed = true
allows wanted.Number value.Unsigned = true
allows wanted.Pointer (value.Pointer n) = true
allows wanted.NumberOrPointer value.Signed = true
allows wanted.NumberOrPointer value.Unsigned = true
allows wanted.NumberOrPointer (value.Pointer n) = true
allows wanted.Indexed (value.Pointer n) = true
allows wanted.Indexed (value.Rows n) = true
allows (wanted.PointerTo m) (value.Pointer n) = same_number m n
allows wanted.Anything (value.Rows n) = false
allows wanted.Anything k = true
allows _ _ = false

-- an expression whose kind is not allowed at its place: its first token breaks a rule
abbrev pub refused_here : Findings → Findings
refused_here f = record { line = f.line; at_first = insert (broken refused.WrongKind f.line) f.at_first; behind = f.behind; kind = value.Unknown; object = f.object }

abbrev pub unless : Bool → Findings → Findings
unless true f = f
unless false f = refused_here f

-- an expression at a place
abbrev pub placed : Wanted → Findings → Findings
placed w f = unless (allows w f.kind) f

-- a variable of this type takes values of this kind
abbrev pub wanted_by : Kind → Wanted
wanted_by (kind.Num n) = wanted.Number
wanted_by (kind.Pointer n) = wanted.PointerTo n
wanted_by kind.Nothing = wanted.Anything

abbrev pub number_findings : Bool → ℕ → Findings
number_findings unsigned line = record { line = line; at_first = []; behind = []; kind = if unsigned then value.Unsigned else value.Signed; object = object.ValueOnly }

-- a name: a function's name is no value, an array's is a pointer to its first cell, and that of an array of two dimensions stands under
-- an index alone
abbrev pub name_rules : Named → ℕ → List Refused
name_rules named.Missing line = broken refused.UnknownName line ∷ []
name_rules named.Function line = broken refused.WrongKind line ∷ []
name_rules _ line = []

abbrev pub name_kind : Named → ValueKind
name_kind named.Missing = value.Unknown
name_kind (named.Local k) = value_kind k
name_kind (named.Scalar n) = number_kind n
name_kind (named.Array n) = value.Pointer n
name_kind (named.Grid n) = value.Rows n
name_kind named.Function = value.Unknown

abbrev pub name_object : Named → Object
name_object (named.Local k) = object.Variable k
name_object (named.Scalar n) = object.Cell n
name_object _ = object.ValueOnly

abbrev pub name_findings : Named → ℕ → Findings
name_findings m line = record { line = line; at_first = name_rules m line; behind = []; kind = name_kind m; object = name_object m }

-- what a pointer of this kind points to; a row of an array of two dimensions is a pointer to its first cell, and designates no cell
abbrev pub element_kind : ValueKind → ValueKind
element_kind (value.Pointer n) = number_kind n
element_kind (value.Rows n) = value.Pointer n
element_kind _ = value.Unknown

abbrev pub element_object : ValueKind → Object
element_object (value.Pointer n) = object.Cell n
element_object _ = object.ValueOnly

-- `a[e]`: a pointer or an array of two dimensions, and a number
abbrev pub index_of : ℕ → Findings → Findings → Findings
index_of line a e = record { line = line; at_first = a.at_first; behind = a.behind ++ all_of e; kind = element_kind a.kind; object = element_object a.kind }

abbrev pub index_findings : ℕ → Findings → Findings → Findings
index_findings line a e = index_of line (placed wanted.Indexed a) (placed wanted.Number e)

-- the operand of `&`: what it designates has to be a cell
abbrev pub address_kind : ValueKind → Object → ValueKind
address_kind value.Unknown o = value.Unknown
address_kind k (object.Cell n) = value.Pointer n
address_kind k _ = value.Unknown

abbrev pub has_address : ValueKind → Object → Bool
has_address value.Unknown o = true
has_address k (object.Cell n) = true
has_address k _ = false

-- a prefix operator and its operand: `-`, `+` and `~` keep the kind, `!` gives a signed number
abbrev pub prefixed : ℕ → Findings → ValueKind → Object → Findings
prefixed line e k o = record { line = line; at_first = []; behind = all_of e; kind = k; object = o }

abbrev pub unary_findings : ℕ → UnOp → Findings → Findings
unary_findings line prefix.Minus e = prefixed line (placed wanted.Number e) (placed wanted.Number e).kind object.ValueOnly
unary_findings line prefix.Plus e = prefixed line (placed wanted.Number e) (placed wanted.Number e).kind object.ValueOnly
unary_findings line prefix.Invert e = prefixed line (placed wanted.Number e) (placed wanted.Number e).kind object.ValueOnly
unary_findings line prefix.Not e = prefixed line (placed wanted.Number e) value.Signed object.ValueOnly
unary_findings line prefix.Deref e = prefixed line (placed wanted.Pointer e) (element_kind (placed wanted.Pointer e).kind) (element_object (placed wanted.Pointer e).kind)
unary_findings line prefix.Address e = prefixed line (unless (has_address e.kind e.object) e) (address_kind e.kind e.object) object.ValueOnly

-- a pointer may stand on the left of `+` and `-` alone
abbrev pub left_wanted : BinOp → Wanted
left_wanted op.Add = wanted.NumberOrPointer
left_wanted op.Sub = wanted.NumberOrPointer
left_wanted _ = wanted.Number

-- the kind of an operator that takes it from both operands: a pointer moves, and one unsigned operand makes it unsigned
abbrev pub unless_unknown : ValueKind → ValueKind → ValueKind
unless_unknown value.Unknown k = value.Unknown
unless_unknown _ k = k

abbrev pub joined_kind : ValueKind → ValueKind → ValueKind
joined_kind value.Signed right = right
joined_kind value.Unsigned right = unless_unknown right value.Unsigned
joined_kind (value.Pointer n) right = unless_unknown right (value.Pointer n)
joined_kind (value.Rows n) right = value.Unknown
joined_kind value.Nothing right = value.Unknown
joined_kind value.Unknown right = value.Unknown

-- the kind of a binary operator: a shift has that of its left operand, a comparison, `&&` and `||` give a signed number
abbrev pub binary_kind : BinOp → ValueKind → ValueKind → ValueKind
binary_kind op.OrElse left right = value.Signed
binary_kind op.AndAlso left right = value.Signed
binary_kind op.Equal left right = value.Signed
binary_kind op.Differ left right = value.Signed
binary_kind op.Less left right = value.Signed
binary_kind op.LessEqual left right = value.Signed
binary_kind op.More left right = value.Signed
binary_kind op.MoreEqual left right = value.Signed
binary_kind op.Left left right = left
binary_kind op.Right left right = left
binary_kind _ left right = joined_kind left right

abbrev pub binary_of : ℕ → BinOp → Findings → Findings → Findings
binary_of line o a b = record { line = line; at_first = a.at_first; behind = a.behind ++ all_of b; kind = binary_kind o a.kind b.kind; object = object.ValueOnly }

abbrev pub binary_findings : ℕ → BinOp → Findings → Findings → Findings
binary_findings line o a b = binary_of line o (placed (left_wanted o) a) (placed wanted.Number b)
