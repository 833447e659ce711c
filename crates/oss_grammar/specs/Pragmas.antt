-- Pragmas (OmpSs-2, the directives task, taskloop, taskwait and release, array sections and multidependencies): which list of tokens is a pragma, and what
-- its tree is. A pragma begins with the token of `#pragma oss` and ends with that of its line's end. The relations speak of
-- whole lists: nothing is greedy, and nothing is left over.
-- Read against: `task in(x), inout(a[0;2])`, `task , wait` and `task` are tasks; `task in(x),` and `task if(1) if(1)` are none.
-- `taskloop grainsize(4) out(a[i;4])` is the pragma of a task loop, `task grainsize(4)` is none.
use Rattle.std.specs.Prelude.{◌≡◌, ℕ, ◌≤◌, Bool, true, false, if◌then◌else◌, List, [], ◌∷◌, ◌++◌, codes, Option, Some, None}
use Rattle.std.specs.List.{count_by}
use Rattle.oss_syntax.specs.declared.access.Mode.{Mode}
use Rattle.oss_syntax.specs.declared.access.Mode.TheVariants.{Read, Write, Fold}
use Rattle.oss_syntax.specs.declared.access.Op.{Op}
use Rattle.oss_syntax.specs.declared.access.Op.TheVariants as fold
use Rattle.oss_syntax.specs.declared.token.Token.{Token}
use Rattle.oss_syntax.specs.declared.token.TokenKind.{TokenKind}
use Rattle.oss_syntax.specs.declared.token.TokenKind.TheVariants as kinds
use Rattle.oss_syntax.specs.declared.tree.expr.Expr.{Expr}
use Rattle.oss_syntax.specs.declared.tree.pragma.Clause.{Clause}
use Rattle.oss_syntax.specs.declared.tree.pragma.Clause.TheVariants as clause
use Rattle.oss_syntax.specs.declared.tree.pragma.Directive.{Directive}
use Rattle.oss_syntax.specs.declared.tree.pragma.Directive.TheVariants as directive
use Rattle.oss_syntax.specs.declared.tree.pragma.Form.{Form}
use Rattle.oss_syntax.specs.declared.tree.pragma.Form.TheVariants as form
use Rattle.oss_syntax.specs.declared.tree.pragma.Inner.{Inner}
use Rattle.oss_syntax.specs.declared.tree.pragma.Inner.TheVariants as inner_forms
use Rattle.oss_syntax.specs.declared.tree.pragma.Section.{Section}
use Rattle.oss_syntax.specs.declared.tree.pragma.Turns.{Turns}
use Rattle.oss_syntax.specs.declared.tree.program.Local.{Local}
use Rattle.oss_syntax.specs.declared.tree.program.Kind.TheVariants as kind
use Rattle.oss_syntax.specs.declared.tree.program.NumKind.TheVariants as num
use Rattle.oss_grammar.specs.Expressions.{IsWhole}
use Rattle.oss_grammar.specs.OneToken.{is_symbol, is_word, IsSymbol, IsKeyword, IsWord, IsOpen, IsClose, IsIndexOpen, IsIndexClose, IsComma}

-- How a clause uses its sections, whether it is strong, and whether its word is `out` or `weakout` (OmpSs-2, data
-- dependencies): `in` reads, `out` and `inout` write, and the forms with `weak` say the same of descendants alone. `weakout` is a
-- weak write of cells that are written first, `weakinout` one of cells that have a value; `on` is no such word.
unfoldable pub access_of : TokenKind → Option (Mode × Bool × Bool)
access_of k =
    if is_word (codes "in") k then Some (Read, true, false)
    else (if is_word (codes "out") k then Some (Write, true, true)
    else (if is_word (codes "inout") k then Some (Write, true, false)
    else (if is_word (codes "weakin") k then Some (Read, false, false)
    else (if is_word (codes "weakout") k then Some (Write, false, true)
    else (if is_word (codes "weakinout") k then Some (Write, false, false)
    else None)))))

-- The words of a reduction, and whether it is strong (OmpSs-2, reductions): `weakreduction` is not.
unfoldable pub reduction_of : TokenKind → Option Bool
reduction_of k =
    if is_word (codes "reduction") k then Some true
    else (if is_word (codes "weakreduction") k then Some false
    else None)

-- The operators of a reduction: `+` is one, `*` and `&&` are none here.
unfoldable pub fold_of : TokenKind → Option Op
fold_of k =
    if is_symbol (codes "+") k then Some fold.Add
    else (if is_symbol (codes "&") k then Some fold.And
    else (if is_symbol (codes "|") k then Some fold.Or
    else (if is_symbol (codes "^") k then Some fold.Xor
    else None)))

-- The tokens are the expression that stands at an end of `l:u`, or none, where it is left out: in `:1` the first is left out.
pub data IsBound : List Token → Option Expr → Type 0 where
  left_out : {ts : List Token} → ts ≡ [] → IsBound ts None
  given : {ts : List Token} {e : Expr} → IsWhole ts e → IsBound ts (Some e)

-- The tokens are what stands between the brackets behind a base (OmpSs-2, array sections): `e` one element, `l;n` so many from
-- there, `l:u` up to and with the other end, each end of which may be left out. `2;0`, `:1`, `1:` and `:` are, `;1` is not.
pub data IsInner : List Token → Inner → Type 0 where
  element : {ts : List Token} {e : Expr} → IsWhole ts e → IsInner ts (inner_forms.Element e)
  counted : {ts : List Token} {first count : Expr} (front : List Token) (mark : Token) (back : List Token)
      → ts ≡ front ++ (mark ∷ back) → IsSymbol (codes ";") mark
      → IsWhole front first → IsWhole back count → IsInner ts (inner_forms.Length first count)
  ranged : {ts : List Token} {first last : Option Expr} (front : List Token) (mark : Token) (back : List Token)
      → ts ≡ front ++ (mark ∷ back) → IsSymbol (codes ":") mark
      → IsBound front first → IsBound back last → IsInner ts (inner_forms.Span first last)

-- The form of a section with one pair of brackets behind its base, by what stands between them.
abbrev pub form_of_inner : Inner → Form
form_of_inner (inner_forms.Element e) = form.Element e
form_of_inner (inner_forms.Length first count) = form.Length first count
form_of_inner (inner_forms.Span first last) = form.Span first last

-- The tokens are the indices of the base of a multidependency: one, or two. `[e]` and `[e][f]` are, `[e:f]` is not.
pub data IsIndices : List Token → Expr → Option Expr → Type 0 where
  one_index : {ts : List Token} {e : Expr} (opened : Token) (inner : List Token) (closed : Token)
      → ts ≡ opened ∷ (inner ++ closed ∷ []) → IsIndexOpen opened → IsIndexClose closed → IsWhole inner e → IsIndices ts e None
  two_indices : {ts : List Token} {e f : Expr} (opened : Token) (first : List Token) (closed again : Token) (second : List Token) (ended : Token)
      → ts ≡ opened ∷ (first ++ (closed ∷ again ∷ (second ++ ended ∷ []))) → IsIndexOpen opened → IsIndexClose closed → IsIndexOpen again → IsIndexClose ended
      → IsWhole first e → IsWhole second f → IsIndices ts e (Some f)

-- A local that is a signed number of 64 bits, with its first value: `long k = l`.
abbrev pub counter : List ℕ → Expr → ℕ → Local
counter word first line = record { name = word; kind = kind.Num num.Long; first = Some first; line = line }

-- The tokens are the turns of a multidependency: `k = 0; 4`, and not `k; 4`.
pub data IsTurns : List Token → Turns → Type 0 where
  turns : {ts : List Token} {first count : Expr} (t set : Token) (word : List ℕ) (front : List Token) (mark : Token) (back : List Token)
      → ts ≡ t ∷ set ∷ (front ++ (mark ∷ back)) → t.what ≡ kinds.Name word → IsSymbol (codes "=") set → IsSymbol (codes ";") mark
      → IsWhole front first → IsWhole back count
      → IsTurns ts (record { variable = counter word first t.line; count = count })

-- The tokens are a section (OmpSs-2, array sections), with the lines of its first token and of its base. `x`, `*q`, `[n]p`, `a[i]`, `a[2;0]` and
-- `b[:1]` are sections, and so is `m[0:1][1;2]` and the multidependency
-- `{ a[k * 2], k = 0; 4 }`; `**q`, `[n]p[0]` and `m[0][1][2]` are none. Checked on `[n]p`, which is `shape` of the
-- expression `n` and the base `p` alone, with the line of `[`.
pub data IsSection : List Token → Section → Type 0 where
  whole : {ts : List Token} (t : Token) (base : List ℕ) → ts ≡ t ∷ [] → t.what ≡ kinds.Name base
      → IsSection ts (record { base = base; form = form.Whole; line = t.line; base_line = t.line })
  pointed : {ts : List Token} (star t : Token) (base : List ℕ) → ts ≡ star ∷ t ∷ [] → IsSymbol (codes "*") star → t.what ≡ kinds.Name base
      → IsSection ts (record { base = base; form = form.Deref; line = star.line; base_line = t.line })
  shape : {ts : List Token} {count : Expr} (opened : Token) (inner : List Token) (closed t : Token) (base : List ℕ)
      → ts ≡ opened ∷ (inner ++ (closed ∷ t ∷ [])) → IsIndexOpen opened → IsIndexClose closed → t.what ≡ kinds.Name base
      → IsWhole inner count
      → IsSection ts (record { base = base; form = form.Shape count; line = opened.line; base_line = t.line })
  part : {ts : List Token} {cells : Inner} (t : Token) (base : List ℕ) (opened : Token) (inner : List Token) (closed : Token)
      → ts ≡ t ∷ opened ∷ (inner ++ closed ∷ []) → t.what ≡ kinds.Name base → IsIndexOpen opened → IsIndexClose closed
      → IsInner inner cells
      → IsSection ts (record { base = base; form = form_of_inner cells; line = t.line; base_line = t.line })
  grid : {ts : List Token} {rows columns : Inner} (t : Token) (base : List ℕ) (opened : Token) (first : List Token) (closed again : Token) (second : List Token) (ended : Token)
      → ts ≡ t ∷ opened ∷ (first ++ (closed ∷ again ∷ (second ++ ended ∷ []))) → t.what ≡ kinds.Name base → IsIndexOpen opened → IsIndexClose closed
      → IsIndexOpen again → IsIndexClose ended → IsInner first rows → IsInner second columns
      → IsSection ts (record { base = base; form = form.Grid rows columns; line = t.line; base_line = t.line })
  many : {ts : List Token} {e : Expr} {f : Option Expr} {several : Turns} (opened t : Token) (base : List ℕ) (indices : List Token) (comma : Token) (counted : List Token) (closed : Token)
      → ts ≡ opened ∷ t ∷ (indices ++ (comma ∷ (counted ++ closed ∷ []))) → IsSymbol (codes "{") opened → t.what ≡ kinds.Name base → IsIndices indices e f
      → IsComma comma → IsTurns counted several → IsSymbol (codes "}") closed
      → IsSection ts (record { base = base; form = form.Many e f several; line = opened.line; base_line = t.line })

-- The tokens are sections with a comma between each two, one at least: `x, a[0]`, and not `x,`.
pub data IsSections : List Token → List Section → Type 0 where
  last_section : {ts : List Token} {s : Section} → IsSection ts s → IsSections ts (s ∷ [])
  next_section : {ts : List Token} {s : Section} {more : List Section} (front : List Token) (comma : Token) (back : List Token)
      → ts ≡ front ++ (comma ∷ back) → IsComma comma
      → IsSection front s → IsSections back more → IsSections ts (s ∷ more)

-- The tokens are a dependency (OmpSs-2, data dependencies): its word, and its sections in brackets. `weakinout(x, a[0;2])`.
pub data IsDepend : List Token → Clause → Type 0 where
  depend : {ts : List Token} {sections : List Section} (t opened : Token) (inner : List Token) (closed : Token) (mode : Mode) (strong fresh : Bool)
      → ts ≡ t ∷ opened ∷ (inner ++ closed ∷ []) → access_of t.what ≡ Some (mode, strong, fresh) → IsOpen opened → IsClose closed
      → IsSections inner sections
      → IsDepend ts (clause.Depend mode strong fresh sections)

-- The token is what a label is made of, with its bytes: a name, which is looked up nowhere, or a string. `label(x)`, `label("x")`.
pub data IsLabel : Token → List ℕ → Type 0 where
  named : {t : Token} {bytes : List ℕ} → t.what ≡ kinds.Name bytes → IsLabel t bytes
  quoted : {t : Token} {bytes : List ℕ} → t.what ≡ kinds.Text bytes → IsLabel t bytes

-- The tokens are a clause of a task or of a task loop (OmpSs-2, the task and taskloop directives): a dependency, a reduction, `if(e)`,
-- `final(e)`, `wait`, `label(w)`, `priority(e)`, or `grainsize(e)`, which no task has. `reduction(+: x)` folds into `x`; `reduction(x)` and `wait()` are none.
pub data IsClause : List Token → Clause → Type 0 where
  dependency : {ts : List Token} {c : Clause} → IsDepend ts c → IsClause ts c
  reduction : {ts : List Token} {sections : List Section} (t opened o colon : Token) (inner : List Token) (closed : Token) (strong : Bool) (operator : Op)
      → ts ≡ t ∷ opened ∷ o ∷ colon ∷ (inner ++ closed ∷ [])
      → reduction_of t.what ≡ Some strong → IsOpen opened → fold_of o.what ≡ Some operator → IsSymbol (codes ":") colon → IsClose closed
      → IsSections inner sections
      → IsClause ts (clause.Depend (Fold operator) strong false sections)
  condition : {ts : List Token} {e : Expr} (t opened : Token) (inner : List Token) (closed : Token)
      → ts ≡ t ∷ opened ∷ (inner ++ closed ∷ []) → IsKeyword (codes "if") t → IsOpen opened → IsClose closed
      → IsWhole inner e → IsClause ts (clause.If e)
  final_task : {ts : List Token} {e : Expr} (t opened : Token) (inner : List Token) (closed : Token)
      → ts ≡ t ∷ opened ∷ (inner ++ closed ∷ []) → IsWord (codes "final") t → IsOpen opened → IsClose closed
      → IsWhole inner e → IsClause ts (clause.Final e)
  waiting : {ts : List Token} (t : Token) → ts ≡ t ∷ [] → IsWord (codes "wait") t → IsClause ts clause.Wait
  labelled : {ts : List Token} (t opened inner closed : Token) (bytes : List ℕ)
      → ts ≡ t ∷ opened ∷ inner ∷ closed ∷ [] → IsWord (codes "label") t → IsOpen opened → IsClose closed
      → IsLabel inner bytes → IsClause ts (clause.Label bytes)
  priority : {ts : List Token} {e : Expr} (t opened : Token) (inner : List Token) (closed : Token)
      → ts ≡ t ∷ opened ∷ (inner ++ closed ∷ []) → IsWord (codes "priority") t → IsOpen opened → IsClose closed
      → IsWhole inner e → IsClause ts (clause.Priority e)
  grain : {ts : List Token} {e : Expr} (t opened : Token) (inner : List Token) (closed : Token)
      → ts ≡ t ∷ opened ∷ (inner ++ closed ∷ []) → IsWord (codes "grainsize") t → IsOpen opened → IsClose closed
      → IsWhole inner e → IsClause ts (clause.Grain e)

-- The tokens are clauses, each with or without a comma before it: `in(x) out(y)`, `in(x), out(y)` and `, in(x)`, and not `in(x),`.
pub data IsClauses : List Token → List Clause → Type 0 where
  no_clause : {ts : List Token} → ts ≡ [] → IsClauses ts []
  plain_clause : {ts : List Token} {c : Clause} {more : List Clause} (front back : List Token)
      → ts ≡ front ++ back → IsClause front c → IsClauses back more → IsClauses ts (c ∷ more)
  comma_clause : {ts : List Token} {c : Clause} {more : List Clause} (comma : Token) (front back : List Token)
      → ts ≡ comma ∷ (front ++ back) → IsComma comma → IsClause front c → IsClauses back more → IsClauses ts (c ∷ more)

-- The clauses that a task or a task loop has once at most (OmpSs-2, the task and taskloop directives): `label` is one, `in` is none.
pub data Single : Type 0 where
  once_if : Single
  once_final : Single
  once_wait : Single
  once_label : Single
  once_priority : Single
  once_grain : Single

-- Whether a clause is of this kind: `label("x")` is of the kind of `label`; `in(x)` is of none.
abbrev pub is_single : Single → Clause → Bool
is_single once_if (clause.If e) = true
is_single once_final (clause.Final e) = true
is_single once_wait clause.Wait = true
is_single once_label (clause.Label bytes) = true
is_single once_priority (clause.Priority e) = true
is_single once_grain (clause.Grain e) = true
is_single s c = false

-- Each such clause stands once at most; dependencies and reductions stand as often as they like. `label("x") label(y)` fails,
-- and no clause behind a second `label` mends it; `in(x) in(x)` passes.
abbrev pub HasEachOnce : List Clause → Type 0
HasEachOnce cs = (s : Single) → count_by (is_single s) cs ≤ 1

-- None of them is the grainsize of a task loop.
abbrev pub HasNoGrain : List Clause → Type 0
HasNoGrain cs = count_by (is_single once_grain) cs ≡ 0

-- The tokens are the dependencies of a release: one at least, and each but the first with or without a comma before it.
-- `in(x), out(y)` and `in(x) out(y)`, and not `, in(x)`.
pub data IsMoreDepends : List Token → List Clause → Type 0 where
  no_depend : {ts : List Token} → ts ≡ [] → IsMoreDepends ts []
  plain_depend : {ts : List Token} {c : Clause} {more : List Clause} (front back : List Token)
      → ts ≡ front ++ back → IsDepend front c → IsMoreDepends back more → IsMoreDepends ts (c ∷ more)
  comma_depend : {ts : List Token} {c : Clause} {more : List Clause} (comma : Token) (front back : List Token)
      → ts ≡ comma ∷ (front ++ back) → IsComma comma → IsDepend front c → IsMoreDepends back more → IsMoreDepends ts (c ∷ more)

-- The tokens are a whole pragma (OmpSs-2, the directives task, taskloop, taskwait and release). A task has the line of its first token.
-- `taskwait on(x, a[0])` waits for two sections; `taskwait on()` and `release` alone are none.
pub data IsPragma : List Token → Directive → Type 0 where
  task : {ts : List Token} {clauses : List Clause} (start word : Token) (inner : List Token) (end : Token)
      → ts ≡ start ∷ word ∷ (inner ++ end ∷ []) → start.what ≡ kinds.PragmaOss → IsWord (codes "task") word → end.what ≡ kinds.PragmaEnd
      → IsClauses inner clauses → HasEachOnce clauses → HasNoGrain clauses
      → IsPragma ts (directive.Task (record { clauses = clauses; line = start.line }))
  task_loop : {ts : List Token} {clauses : List Clause} (start word : Token) (inner : List Token) (end : Token)
      → ts ≡ start ∷ word ∷ (inner ++ end ∷ []) → start.what ≡ kinds.PragmaOss → IsWord (codes "taskloop") word → end.what ≡ kinds.PragmaEnd
      → IsClauses inner clauses → HasEachOnce clauses
      → IsPragma ts (directive.TaskLoop (record { clauses = clauses; line = start.line }))
  wait_all : {ts : List Token} (start word end : Token)
      → ts ≡ start ∷ word ∷ end ∷ [] → start.what ≡ kinds.PragmaOss → IsWord (codes "taskwait") word → end.what ≡ kinds.PragmaEnd
      → IsPragma ts (directive.TaskWait None)
  wait_on : {ts : List Token} {sections : List Section} (start word on opened : Token) (inner : List Token) (closed end : Token)
      → ts ≡ start ∷ word ∷ on ∷ opened ∷ (inner ++ (closed ∷ end ∷ []))
      → start.what ≡ kinds.PragmaOss → IsWord (codes "taskwait") word → IsWord (codes "on") on → IsOpen opened → IsClose closed → end.what ≡ kinds.PragmaEnd
      → IsSections inner sections
      → IsPragma ts (directive.TaskWait (Some sections))
  release : {ts : List Token} {c : Clause} {more : List Clause} (start word : Token) (front back : List Token) (end : Token)
      → ts ≡ start ∷ word ∷ (front ++ (back ++ end ∷ []))
      → start.what ≡ kinds.PragmaOss → IsWord (codes "release") word → end.what ≡ kinds.PragmaEnd
      → IsDepend front c → IsMoreDepends back more
      → IsPragma ts (directive.Release (c ∷ more))
