-- The parts of the assignments that the code tells one by one. Read against: of `&=` the assignments with an operator of bits make `&`, and of
-- `+=` nothing.
use Rattle.std.specs.Prelude.{if◌then◌else◌, codes, Option, Some, None}
use Rattle.oss_syntax.specs.declared.token.TokenKind.{TokenKind}
use Rattle.oss_syntax.specs.declared.tree.expr.BinOp.{BinOp}
use Rattle.oss_syntax.specs.declared.tree.expr.BinOp.TheVariants as op
use Rattle.oss_grammar.specs.OneToken.{is_symbol}

-- The assignments with an operator of bits; another symbol is none of them.
abbrev pub bit_assignment_of : TokenKind → Option (Option BinOp)
bit_assignment_of k =
    if is_symbol (codes "&=") k then Some (Some op.And)
    else (if is_symbol (codes "|=") k then Some (Some op.Or)
    else (if is_symbol (codes "^=") k then Some (Some op.Xor)
    else (if is_symbol (codes "<<=") k then Some (Some op.Left)
    else (if is_symbol (codes ">>=") k then Some (Some op.Right)
    else None))))
