-- Programs (C11 6.9): which list of tokens is a program text, and what its tree is.
-- Read against: `int a[4], b = -1; int main() { }` is a program of two globals and a function; `long m[3][4];` has 12 cells in rows of
-- 4; `int a = 1 + 1;` is none, and `long m[2][3] = 1;` neither.
use Rattle.std.specs.Prelude.{◌≡◌, ℕ, ◌*◌, ◌-◌, ◌^◌, nat_lt, Bool, if◌then◌else◌, List, [], ◌∷◌, ◌++◌, map, codes, Option, Some, None}
use Rattle.oss_syntax.specs.declared.token.Token.{Token}
use Rattle.oss_syntax.specs.declared.token.TokenKind.TheVariants as kinds
use Rattle.oss_syntax.specs.declared.tree.pragma.Directive.TheVariants as directive
use Rattle.oss_syntax.specs.declared.tree.pragma.TaskMark.{TaskMark}
use Rattle.oss_syntax.specs.declared.tree.program.Function.{Function}
use Rattle.oss_syntax.specs.declared.tree.program.GlobalDef.{GlobalDef}
use Rattle.oss_syntax.specs.declared.tree.program.Item.{Item}
use Rattle.oss_syntax.specs.declared.tree.program.Item.TheVariants as items
use Rattle.oss_syntax.specs.declared.tree.program.Kind.{Kind}
use Rattle.oss_syntax.specs.declared.tree.program.Kind.TheVariants as kind
use Rattle.oss_syntax.specs.declared.tree.program.Local.{Local}
use Rattle.oss_syntax.specs.declared.tree.program.NumKind.{NumKind}
use Rattle.oss_syntax.specs.declared.tree.program.Program.{Program}
use Rattle.oss_syntax.specs.declared.tree.stmt.Stmt.{Stmt}
use Rattle.oss_grammar.specs.OneToken.{IsSymbol, IsKeyword, IsOpen, IsClose, IsIndexOpen, IsIndexClose, IsComma}
use Rattle.oss_grammar.specs.Pragmas.{IsPragma}
use Rattle.oss_grammar.specs.SimpleStatements.{IsNumKind, IsDeclared}
use Rattle.oss_grammar.specs.Statements.{IsItems}
use Rattle.oss_grammar.specs.Values.{negated}

-- The tokens are the initial value of a global, a number with a `-` before it or without: `-1` is 2^64 - 1 (C11 6.7.9).
pub data IsFirstValue : List Token → ℕ → Type 0 where
  plain_value : {ts : List Token} (t : Token) (value : ℕ) (unsigned : Bool) → ts ≡ t ∷ [] → t.what ≡ kinds.Number value unsigned → IsFirstValue ts value
  negative_value : {ts : List Token} (mark t : Token) (value : ℕ) (unsigned : Bool) → ts ≡ mark ∷ t ∷ [] → IsSymbol (codes "-") mark → t.what ≡ kinds.Number value unsigned
      → IsFirstValue ts (negated value)

-- How many cells so many rows of so many columns have, which stays at the greatest number of 64 bits once it is there: 3 rows of 4
-- have 12.
unfoldable pub cells_of_rows : ℕ → ℕ → ℕ
cells_of_rows rows columns = if nat_lt (rows * columns) (2 ^ 64) then rows * columns else 2 ^ 64 - 1

-- The tokens are the declarator of a global (C11 6.7.6): a scalar, with an initial value or with 0, or an array of zeros, of one
-- dimension or of two. It has the line of its name.
pub data IsGlobal (numbers : NumKind) : List Token → GlobalDef → Type 0 where
  scalar_global : {ts : List Token} (t : Token) (word : List ℕ) → ts ≡ t ∷ [] → t.what ≡ kinds.Name word
      → IsGlobal numbers ts (record { name = word; kind = numbers; cells = None; columns = None; first = 0; line = t.line })
  first_global : {ts : List Token} {value : ℕ} (t : Token) (word : List ℕ) (mark : Token) (back : List Token) → ts ≡ t ∷ mark ∷ back → t.what ≡ kinds.Name word → IsSymbol (codes "=") mark
      → IsFirstValue back value
      → IsGlobal numbers ts (record { name = word; kind = numbers; cells = None; columns = None; first = value; line = t.line })
  array_global : {ts : List Token} (t : Token) (word : List ℕ) (opened number : Token) (cells : ℕ) (unsigned : Bool) (closed : Token) → ts ≡ t ∷ opened ∷ number ∷ closed ∷ []
      → t.what ≡ kinds.Name word → IsIndexOpen opened → number.what ≡ kinds.Number cells unsigned → IsIndexClose closed
      → IsGlobal numbers ts (record { name = word; kind = numbers; cells = Some cells; columns = None; first = 0; line = t.line })
  grid_global : {ts : List Token} (t : Token) (word : List ℕ) (opened number : Token) (rows : ℕ) (unsigned : Bool) (closed again second : Token) (columns : ℕ) (second_unsigned : Bool) (ended : Token)
      → ts ≡ t ∷ opened ∷ number ∷ closed ∷ again ∷ second ∷ ended ∷ []
      → t.what ≡ kinds.Name word → IsIndexOpen opened → number.what ≡ kinds.Number rows unsigned → IsIndexClose closed
      → IsIndexOpen again → second.what ≡ kinds.Number columns second_unsigned → IsIndexClose ended
      → IsGlobal numbers ts (record { name = word; kind = numbers; cells = Some (cells_of_rows rows columns); columns = Some columns; first = 0; line = t.line })

-- The tokens are such declarators with a comma between each two, one at least.
pub data IsGlobals (numbers : NumKind) : List Token → List GlobalDef → Type 0 where
  last_global : {ts : List Token} {g : GlobalDef} → IsGlobal numbers ts g → IsGlobals numbers ts (g ∷ [])
  next_global : {ts : List Token} {g : GlobalDef} {more : List GlobalDef} (front : List Token) (comma : Token) (back : List Token)
      → ts ≡ front ++ (comma ∷ back) → IsComma comma → IsGlobal numbers front g → IsGlobals numbers back more → IsGlobals numbers ts (g ∷ more)

-- The tokens are a parameter (C11 6.7.6.3): `long n`, `int *p`.
pub data IsParameter : List Token → Local → Type 0 where
  parameter : {ts : List Token} {numbers : NumKind} {k : Kind} {word : List ℕ} {line : ℕ} (front back : List Token)
      → ts ≡ front ++ back → IsNumKind front numbers → IsDeclared numbers back k word line
      → IsParameter ts (record { name = word; kind = k; first = None; line = line })

-- The tokens are parameters with a comma between each two, one at least.
pub data IsParameterList : List Token → List Local → Type 0 where
  last_parameter : {ts : List Token} {l : Local} → IsParameter ts l → IsParameterList ts (l ∷ [])
  next_parameter : {ts : List Token} {l : Local} {more : List Local} (front : List Token) (comma : Token) (back : List Token)
      → ts ≡ front ++ (comma ∷ back) → IsComma comma → IsParameter front l → IsParameterList back more → IsParameterList ts (l ∷ more)

-- The tokens are what stands between the brackets behind the name of a function: nothing, `void`, or parameters.
pub data IsParameters : List Token → List Local → Type 0 where
  no_parameters : {ts : List Token} → ts ≡ [] → IsParameters ts []
  void_parameters : {ts : List Token} (t : Token) → ts ≡ t ∷ [] → IsKeyword (codes "void") t → IsParameters ts []
  some_parameters : {ts : List Token} {params : List Local} → IsParameterList ts params → IsParameters ts params

-- The tokens are the type of a function's result: that of a number, or `void`.
pub data IsResult : List Token → Kind → Type 0 where
  number_result : {ts : List Token} {numbers : NumKind} → IsNumKind ts numbers → IsResult ts (kind.Num numbers)
  void_result : {ts : List Token} (t : Token) → ts ≡ t ∷ [] → IsKeyword (codes "void") t → IsResult ts kind.Nothing

-- The tokens are the pragma of a task before a function, or nothing.
pub data IsMark : List Token → Option TaskMark → Type 0 where
  no_mark : {ts : List Token} → ts ≡ [] → IsMark ts None
  some_mark : {ts : List Token} {mark : TaskMark} → IsPragma ts (directive.Task mark) → IsMark ts (Some mark)

-- The tokens are a function (C11 6.9.1), with a pragma before it where each call creates a task. It has the line of its name.
-- `#pragma oss task in(x)`, `void f(long x) { }` is one; `#pragma oss taskwait` before it is not.
pub data IsFunction : List Token → Function → Type 0 where
  function : {ts : List Token} {mark : Option TaskMark} {result : Kind} {params : List Local} {body : List Stmt}
      (marked front : List Token) (t : Token) (word : List ℕ) (opened : Token) (inner : List Token) (closed begins : Token) (within : List Token) (ends : Token)
      → ts ≡ marked ++ (front ++ (t ∷ opened ∷ (inner ++ (closed ∷ begins ∷ (within ++ (ends ∷ []))))))
      → IsMark marked mark → IsResult front result → t.what ≡ kinds.Name word → IsOpen opened → IsParameters inner params → IsClose closed
      → IsSymbol (codes "{") begins → IsItems within body → IsSymbol (codes "}") ends
      → IsFunction ts (record { name = word; result = result; params = params; mark = mark; body = body; line = t.line })

-- The tokens are an item of a program: globals of one type, or a function.
pub data IsItem : List Token → List Item → Type 0 where
  globals : {ts : List Token} {numbers : NumKind} {gs : List GlobalDef} (front middle : List Token) (mark : Token)
      → ts ≡ front ++ (middle ++ (mark ∷ [])) → IsNumKind front numbers → IsGlobals numbers middle gs → IsSymbol (codes ";") mark
      → IsItem ts (map items.Global gs)
  one_function : {ts : List Token} {f : Function} → IsFunction ts f → IsItem ts (items.Function f ∷ [])

-- The tokens are items, in any number.
pub data IsProgramItems : List Token → List Item → Type 0 where
  no_items : {ts : List Token} → ts ≡ [] → IsProgramItems ts []
  more_items : {ts : List Token} {first more : List Item} (front back : List Token)
      → ts ≡ front ++ back → IsItem front first → IsProgramItems back more → IsProgramItems ts (first ++ more)

-- The tokens are a program.
pub data IsProgram : List Token → Program → Type 0 where
  program : {ts : List Token} {found : List Item} → IsProgramItems ts found → IsProgram ts (record { items = found })
