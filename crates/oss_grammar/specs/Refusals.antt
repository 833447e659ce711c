-- What refuses a text that does not follow a grammar: how far its tokens can begin a text of the grammar at all, the token at
-- which they no longer can, why it is refused, and where a text passes a limit before that.
-- Read against the grammar of expressions: `1 + ;` is refused as Syntax at `;`, since `1 +` can go on and `1 + ;` cannot; `1 + 2 ;`
-- is read as `1 + 2`, and `;` is left.
use Rattle.std.specs.Prelude.{◌≡◌, ℕ, ◌+◌, ◌≤◌, Bool, true, false, ◌||◌, if◌then◌else◌, List, [], ◌∷◌, ◌++◌, length, take, drop, codes, Result, Ok, Err}
use Rattle.oss_syntax.specs.declared.token.Token.{Token}
use Rattle.oss_syntax.specs.declared.token.TokenKind.{TokenKind}
use Rattle.oss_syntax.specs.declared.token.TokenKind.TheVariants as kinds
use Rattle.oss_syntax.specs.declared.tree.expr.Expr.{Expr}
use Rattle.oss_syntax.specs.declared.tree.pragma.Directive.{Directive}
use Rattle.oss_syntax.specs.declared.refusal.Refusal.{Refusal}
use Rattle.oss_syntax.specs.declared.refusal.Refusal.TheVariants.{Refused, Memory}
use Rattle.oss_syntax.specs.declared.refusal.Refused.{Refused as RefusedData}
use Rattle.oss_syntax.specs.declared.refusal.RefusedKind.{RefusedKind}
use Rattle.oss_syntax.specs.declared.refusal.RefusedKind.TheVariants.{Syntax, BadPragma, Unsupported, TooLarge}
use Rattle.oss_grammar.specs.Expressions.{IsWhole}
use Rattle.oss_grammar.specs.Pragmas.{IsPragma}
use Rattle.oss_grammar.specs.Levels.{IsExpressionExcess, IsPragmaExcess}
use Rattle.oss_grammar.specs.Fronts.{Viable}
use Rattle.oss_grammar.specs.OneToken.{is_symbol, is_word}
use Rattle.oss_grammar.specs.Words.{is_left_out_keyword}

-- A grammar: which whole lists of tokens it has, what each stands for, and where a limit is passed: at which token behind which
-- beginning of a text.
pub record Language (A : Type 0) : Type 1 where
  pub Has : List Token → A → Type 0
  pub Exceeds : List Token → Token → Type 0

-- The expressions as such a grammar (C11 6.5): it has `1 + 2`; behind 64 times `-` each token passes a limit that goes on.
unfoldable pub expressions : Language Expr
expressions = record { Has = IsWhole; Exceeds = IsExpressionExcess }

-- The pragmas as such a grammar (OmpSs-2): it has `taskwait` between the first and the last token of a pragma.
unfoldable pub pragmas : Language Directive
pragmas = record { Has = IsPragma; Exceeds = IsPragmaExcess }

-- The front of the tokens reaches as far as a text of the grammar can be begun: it begins one, and with the token behind it, where
-- there is one, no longer does. So that token is the offending one, or the end of the tokens is. Checked on `1 + ;`: the front is
-- `1 +`, completed by `2`; no expression begins with `1 + ;`, since none has a `;`.
pub record Reaches {A : Type 0} (G : List Token → A → Type 0) (ts front rest : List Token) : Type 0 where
  pub split : ts ≡ front ++ rest
  pub begins : Viable G front
  pub ends : (t : Token) (more : List Token) → rest ≡ t ∷ more → Viable G (front ++ (t ∷ [])) → ⊥

-- A text of the grammar begins with the front and this token, and passes a limit at this token. Checked on 64 times `-` and then
-- `1`: `1` begins level 65, since the whole expression has 1 and each `-` adds one. And on `1` and 257 times `+ 1`, at the last `+`.
pub record IsExcess {A : Type 0} (L : Language A) (front : List Token) (t : Token) : Type 0 where
  pub begun : Viable L.Has (front ++ (t ∷ []))
  pub exceeds : L.Exceeds front t

-- No token of the front passes a limit: none of 64 times `-` does.
abbrev pub IsWithin : {A : Type 0} → Language A → List Token → Type 0
IsWithin L front = (before : List Token) (t : Token) (more : List Token) → front ≡ before ++ (t ∷ more) → IsExcess L before t → ⊥

-- The reading of the longest text of the grammar at the front of the tokens, and what is left: the front reaches as far as it
-- can, is a text of the grammar, and keeps the limits. `1 + 2 ;` is read as `1 + 2`; `1 + ;` is not read as `1`.
pub record IsRead {A : Type 0} (L : Language A) (ts : List Token) (value : A) (rest : List Token) : Type 0 where
  pub front : List Token
  pub reaches : Reaches L.Has ts front rest
  pub member : L.Has front value
  pub within : IsWithin L front

-- The tokens by themselves are no text of the grammar: `1 +` is no expression.
abbrev pub IsNone : {A : Type 0} → (List Token → A → Type 0) → List Token → Type 0
IsNone {A} G front = (value : A) → G front value → ⊥

-- Symbols and other tokens of C that the language leaves out (C11 6.4.6, 6.10): `?`, `.`, `->`, the keywords it does not use, and
-- lines that begin with `#` and are not skipped. `:` and `int` are used.
unfoldable pub is_left_out : TokenKind → Bool
is_left_out kinds.Directive = true
is_left_out (kinds.Keyword w) = is_left_out_keyword w
is_left_out (kinds.Symbol w) = is_symbol (codes "?") (kinds.Symbol w) || is_symbol (codes ".") (kinds.Symbol w) || is_symbol (codes "->") (kinds.Symbol w)
is_left_out _ = false

-- The words of OmpSs-2 that the language leaves out; they are left out in pragmas alone, and names elsewhere. `commutative` is one,
-- `on` is none.
unfoldable pub is_left_out_word : TokenKind → Bool
is_left_out_word k =
    is_word (codes "assert") k || is_word (codes "atomic") k || is_word (codes "commutative") k || is_word (codes "concurrent") k
    || is_word (codes "cost") k || is_word (codes "critical") k || is_word (codes "device") k || is_word (codes "firstprivate") k
    || is_word (codes "onready") k || is_word (codes "private") k || is_word (codes "shared") k || is_word (codes "taskfor") k
    || is_word (codes "taskiter") k || is_word (codes "weakcommutative") k

-- Whether a pragma is open behind these tokens, where one is open before them or not: its first token opens one, and its last
-- token closes it.
abbrev pub opened_by : TokenKind → Bool → Bool
opened_by kinds.PragmaOss open_before = true
opened_by kinds.PragmaEnd open_before = false
opened_by _ open_before = open_before

-- The same behind several tokens, from the first on: behind the first two tokens of a pragma it is open.
abbrev pub is_open_behind : Bool → List Token → Bool
is_open_behind open_before [] = open_before
is_open_behind open_before (t ∷ ts) = is_open_behind (opened_by t.what open_before) ts

-- Whether a token is the first or the last one of a pragma.
abbrev pub is_pragma_edge : TokenKind → Bool
is_pragma_edge kinds.PragmaOss = true
is_pragma_edge kinds.PragmaEnd = true
is_pragma_edge _ = false

-- Whether a token stands in a pragma, behind these tokens: it is the first or the last one of a pragma, or one is open.
unfoldable pub is_in_pragma : List Token → TokenKind → Bool
is_in_pragma before k = is_pragma_edge k || is_open_behind false before

-- Why a token is refused that fits nowhere: it is left out of the language, it stands in a pragma, or neither. `commutative` in a
-- pragma is Unsupported, `on` there is BadPragma, `)` outside is Syntax; `commutative` outside is a name, and Syntax too.
unfoldable pub kind_of : Bool → TokenKind → RefusedKind
kind_of in_pragma k =
    if is_left_out k then Unsupported
    else (if in_pragma then (if is_left_out_word k then Unsupported else BadPragma) else Syntax)

-- The tokens behind `before` are refused for this reason, with this line, and with so many tokens before the offending one. A limit
-- that is passed comes first where it is passed before the offending token; its refusal counts no tokens. The end of the tokens has
-- the line 0 and stands in no pragma.
-- Checked on `1 + ;` (Syntax at `;`, 2 tokens before it), on `( 1` (Syntax at the end, line 0), on 65 times `-` and `)` (TooLarge
-- with the line of the last `-`) and on 64 times `-` and `)` (Syntax at `)`, which begins nothing of level 65).
pub data Refuses {A : Type 0} (L : Language A) (before ts : List Token) : RefusedKind → ℕ → ℕ → Type 0 where
  too_large : (front : List Token) (t : Token) (more : List Token) → ts ≡ front ++ (t ∷ more)
      → IsExcess L front t → IsWithin L front
      → Refuses L before ts TooLarge t.line 0
  at_token : (front : List Token) (t : Token) (more : List Token)
      → Reaches L.Has ts front (t ∷ more) → IsNone L.Has front → IsWithin L front
      → Refuses L before ts (kind_of (is_in_pragma (before ++ front) t.what) t.what) t.line (length before + length front)
  at_end : Reaches L.Has ts ts [] → IsNone L.Has ts → IsWithin L ts
      → Refuses L before ts Syntax 0 (length before + length ts)

-- What a call answers that reads a text of the grammar from this place of the tokens: the value and the place behind it, or the
-- refusal. Checked on the tokens `x = 1 + 2 ;` from place 2: the value is `1 + 2` and the place 5.
abbrev pub IsAnswer : {A : Type 0} → Language A → List Token → ℕ → Result (A × ℕ) Refusal → Type 0
IsAnswer L tokens at (Ok read) = (at ≤ read.1) × (read.1 ≤ length tokens) × IsRead L (drop at tokens) read.0 (drop read.1 tokens)
IsAnswer L tokens at (Err (Refused refused)) = Refuses L (take at tokens) (drop at tokens) refused.kind refused.line refused.token
IsAnswer L tokens at (Err (Memory error)) = Unit {0}

-- A list of tokens stands for one value at most: `a - b - 1` for `(a - b) - 1` alone.
abbrev pub HasOneValue : {A : Type 0} → (List Token → A → Type 0) → Type 0
HasOneValue {A} G = (ts : List Token) (value other : A) → G ts value → G ts other → value ≡ other

-- The tokens have at most one answer from a place, memory aside: one tree and one place behind it, or one refusal.
pub record IsAnsweredOnce {A : Type 0} (L : Language A) (tokens : List Token) (at : ℕ) : Type 0 where
  pub one_value : (read other : A × ℕ) → IsAnswer L tokens at (Ok read) → IsAnswer L tokens at (Ok other) → read ≡ other
  pub no_both : (read : A × ℕ) (refused : RefusedData) → IsAnswer L tokens at (Ok read) → IsAnswer L tokens at (Err (Refused refused)) → ⊥
  pub one_refusal : (refused other : RefusedData) → IsAnswer L tokens at (Err (Refused refused)) → IsAnswer L tokens at (Err (Refused other)) → refused ≡ other
