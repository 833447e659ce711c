-- What single tokens stand for in an expression and in a pragma. Read against: in `in(x)` the first token is the word of an access
-- that reads, strongly; the second is a symbol, with its line.
use Rattle.std.specs.Prelude.{◌==◌, ℕ, Bool, ◌&&◌, ◌||◌, not, if◌then◌else◌, List, codes, Option, Some, None, is_some}
use Rattle.std.specs.List.{list_any}
use Rattle.oss_syntax.specs.declared.access.Mode.{Mode}
use Rattle.oss_syntax.specs.declared.access.Op.{Op}
use Rattle.oss_syntax.specs.declared.token.Token.{Token}
use Rattle.oss_syntax.specs.declared.token.TokenKind.{TokenKind}
use Rattle.oss_syntax.specs.declared.token.TokenKind.TheVariants as kinds
use Rattle.oss_syntax.specs.declared.tree.expr.BinOp.{BinOp}
use Rattle.oss_syntax.specs.declared.tree.expr.Expr.{Expr}
use Rattle.oss_syntax.specs.declared.tree.expr.ExprKind.TheVariants as exprs
use Rattle.oss_syntax.specs.declared.tree.expr.UnOp.{UnOp}
use Rattle.oss_syntax.specs.declared.tree.pragma.Clause.{Clause}
use Rattle.oss_grammar.specs.OneToken.{is_symbol, is_keyword, is_word}
use Rattle.oss_grammar.specs.Expressions.{prefix_of, operator_of}
use Rattle.oss_grammar.specs.Pragmas.{Single, is_single, access_of, reduction_of, fold_of}
use Rattle.oss_grammar.specs.Pragmas.Single.{once_if, once_final, once_wait, once_label, once_priority, once_grain}
use Rattle.oss_expressions.specs.declared.cursor.Named.{Named}

-- The line of a symbol, of a keyword and of a word with these bytes.
abbrev pub symbol_at : List ℕ → Token → Option ℕ
symbol_at s t = if is_symbol s t.what then Some t.line else None

abbrev pub keyword_at : List ℕ → Token → Option ℕ
keyword_at k t = if is_keyword k t.what then Some t.line else None

abbrev pub word_at : List ℕ → Token → Option ℕ
word_at w t = if is_word w t.what then Some t.line else None

-- The line of the first token of a pragma, and of its last one.
abbrev pub start_in : TokenKind → ℕ → Option ℕ
start_in kinds.PragmaOss line = Some line
start_in _ line = None

abbrev pub start_at : Token → Option ℕ
start_at t = start_in t.what t.line

abbrev pub end_in : TokenKind → ℕ → Option ℕ
end_in kinds.PragmaEnd line = Some line
end_in _ line = None

abbrev pub end_at : Token → Option ℕ
end_at t = end_in t.what t.line

-- A name, with its line.
abbrev pub named_in : TokenKind → ℕ → Option Named
named_in (kinds.Name name) line = Some (record { name = name; line = line })
named_in _ line = None

abbrev pub name_at : Token → Option Named
name_at t = named_in t.what t.line

-- A number, as an expression.
abbrev pub number_in : TokenKind → ℕ → Option Expr
number_in (kinds.Number value unsigned) line = Some (record { what = exprs.Number value unsigned; line = line })
number_in _ line = None

abbrev pub number_at : Token → Option Expr
number_at t = number_in t.what t.line

-- A prefix operator, with its line.
abbrev pub signed_in : ℕ → Option UnOp → Option (UnOp × ℕ)
signed_in line None = None
signed_in line (Some sign) = Some (sign, line)

abbrev pub prefix_at : Token → Option (UnOp × ℕ)
prefix_at t = signed_in t.line (prefix_of t.what)

-- A binary operator of this level.
abbrev pub of_level : ℕ → Option (ℕ × BinOp) → Option BinOp
of_level level None = None
of_level level (Some found) = if found.0 == level then Some found.1 else None

abbrev pub operator_at : ℕ → Token → Option BinOp
operator_at level t = of_level level (operator_of t.what)

-- Whether a token begins an expression: `a`, `1`, `(` and `-` do, `)` does not.
abbrev pub begins_expression : Token → Bool
begins_expression t = is_some (number_at t) || (is_some (name_at t) || (is_symbol (codes "(") t.what || is_some (prefix_at t)))

-- The word of an access, of a reduction, and the operator of a reduction.
abbrev pub access_at : Token → Option (Mode × Bool × Bool)
access_at t = access_of t.what

abbrev pub reduction_at : Token → Option Bool
reduction_at t = reduction_of t.what

abbrev pub fold_at : Token → Option Op
fold_at t = fold_of t.what

-- What a label is made of.
abbrev pub label_in : TokenKind → Option (List ℕ)
label_in (kinds.Name bytes) = Some bytes
label_in (kinds.Text bytes) = Some bytes
label_in _ = None

abbrev pub label_at : Token → Option (List ℕ)
label_at t = label_in t.what

-- Whether a clause that a task or a task loop has once at most stands among these.
abbrev pub stands : Single → List Clause → Bool
stands s found = list_any (is_single s) found

-- Whether a token is the word of such a clause: `if` is a keyword of C, the others are names.
abbrev pub is_single_word : Single → TokenKind → Bool
is_single_word once_if k = is_keyword (codes "if") k
is_single_word once_final k = is_word (codes "final") k
is_single_word once_wait k = is_word (codes "wait") k
is_single_word once_label k = is_word (codes "label") k
is_single_word once_priority k = is_word (codes "priority") k
is_single_word once_grain k = is_word (codes "grainsize") k

-- The line of such a word, where the clause does not stand among those before: a second `label` has none.
abbrev pub single_at : Single → List Clause → Token → Option ℕ
single_at s found t = if is_single_word s t.what && not (stands s found) then Some t.line else None
