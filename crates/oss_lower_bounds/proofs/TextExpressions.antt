-- Expressions, sections, clauses and pragmas of a text have no more size than tokens.
use Rattle.std.proofs.Common.{◌≡◌, ℕ, ◌+◌, ◌≤◌, List, [], ◌∷◌, ◌++◌, length, map, Option, refl, ap, arith, length-append}
use Rattle.oss_syntax.specs.declared.token.Token.{Token}
use Rattle.oss_syntax.specs.declared.tree.expr.Expr.{Expr}
use Rattle.oss_syntax.specs.declared.tree.pragma.Clause.{Clause}
use Rattle.oss_syntax.specs.declared.tree.pragma.Directive.{Directive}
use Rattle.oss_syntax.specs.declared.tree.pragma.Directive.TheVariants as directive
use Rattle.oss_syntax.specs.declared.tree.pragma.Inner.{Inner}
use Rattle.oss_syntax.specs.declared.tree.pragma.Inner.TheVariants as inner_forms
use Rattle.oss_syntax.specs.declared.tree.pragma.Section.{Section}
use Rattle.oss_syntax.specs.declared.tree.pragma.Turns.{Turns}
use Rattle.oss_grammar.specs.Expressions.{IsArgumentList, IsArguments, IsExpr, IsIndexed}
use Rattle.oss_grammar.specs.Expressions.IsArgumentList.{last_argument, next_argument}
use Rattle.oss_grammar.specs.Expressions.IsArguments.{arguments, no_arguments}
use Rattle.oss_grammar.specs.Expressions.IsExpr.{brackets, call, indexed, indexed_again, joined, name, number, prefixed, tighter}
use Rattle.oss_grammar.specs.Expressions.IsIndexed.{index}
use Rattle.oss_grammar.specs.Pragmas.{IsBound, IsClause, IsClauses, IsDepend, IsIndices, IsInner, IsMoreDepends, IsPragma, IsSection, IsSections, IsTurns, form_of_inner}
use Rattle.oss_grammar.specs.Pragmas.IsBound.{given, left_out}
use Rattle.oss_grammar.specs.Pragmas.IsClause.{condition, dependency, final_task, grain, labelled, priority, reduction, waiting}
use Rattle.oss_grammar.specs.Pragmas.IsClauses.{comma_clause, no_clause, plain_clause}
use Rattle.oss_grammar.specs.Pragmas.IsDepend.{depend}
use Rattle.oss_grammar.specs.Pragmas.IsIndices.{one_index, two_indices}
use Rattle.oss_grammar.specs.Pragmas.IsInner.{counted, element, ranged}
use Rattle.oss_grammar.specs.Pragmas.IsMoreDepends.{comma_depend, no_depend, plain_depend}
use Rattle.oss_grammar.specs.Pragmas.IsPragma.{release, task, task_loop, wait_all, wait_on}
use Rattle.oss_grammar.specs.Pragmas.IsSection.{grid, many, part, pointed, shape, whole}
use Rattle.oss_grammar.specs.Pragmas.IsSections.{last_section, next_section}
use Rattle.oss_grammar.specs.Pragmas.IsTurns.{turns}
use Rattle.oss_lower_bounds.specs.Sizes.{clause_size, clauses_size, expr_size, form_size, inner_size, optional_size, sections_size, total, waits_size}
use Rattle.oss_lower_bounds.proofs.SizeForms.{size-applied, size-binary, size-index, size-name, size-number, size-unary}

-- as many tokens
pub tokens : {xs ys : List Token} → xs ≡ ys → length xs ≡ length ys
tokens split = ap (λ l. length l) split

-- a list between two marks
pub closed_by : (inner : List Token) (closed : Token) → length (inner ++ closed ∷ []) ≡ length inner + 1
closed_by inner closed = omega (arith, length-append inner (closed ∷ []))

-- Expressions

mutual
  pub expr_few : {k : ℕ} {ts : List Token} {e : Expr} → IsExpr k ts e → expr_size e ≤ length ts
  expr_few (number t value unsigned split is) = omega (arith, tokens split, size-number t.line value unsigned)
  expr_few (name t word split is) = omega (arith, tokens split, size-name t.line word)
  expr_few (call {values = es} t opened closed word inner split is1 is2 is3 d) =
      omega (arith, tokens split, closed_by inner closed, size-applied t.line word es, arguments_few d)
  expr_few (brackets opened closed inner split is1 is2 d) = omega (arith, tokens split, closed_by inner closed, expr_few d)
  expr_few (indexed d) = indexed_few d
  expr_few (indexed_again {a = a} {e = e} front opened closed inner split is1 is2 d f) =
      omega (arith, tokens split, length-append front (opened ∷ (inner ++ closed ∷ [])), closed_by inner closed, size-index a.line a e, indexed_few d, expr_few f)
  expr_few (prefixed {e = e} t sign operand split is d) = omega (arith, tokens split, size-unary t.line sign e, expr_few d)
  expr_few (joined {a = a} {b = b} front t operator back split is d f) =
      omega (arith, tokens split, length-append front (t ∷ back), size-binary a.line operator a b, expr_few d, expr_few f)
  expr_few (tighter d) = expr_few d

  indexed_few : {ts : List Token} {e : Expr} → IsIndexed ts e → expr_size e ≤ length ts
  indexed_few (index {a = a} {e = e} front opened closed inner split is1 is2 d f) =
      omega (arith, tokens split, length-append front (opened ∷ (inner ++ closed ∷ [])), closed_by inner closed, size-index a.line a e, expr_few d, expr_few f)

  pub arguments_few : {ts : List Token} {es : List Expr} → IsArguments ts es → total (map expr_size es) ≤ length ts
  arguments_few (no_arguments split) = omega arith
  arguments_few (arguments d) = list_few d

  pub list_few : {ts : List Token} {es : List Expr} → IsArgumentList ts es → total (map expr_size es) ≤ length ts
  list_few (last_argument d) = omega (arith, expr_few d)
  list_few (next_argument front comma back split is d rest) = omega (arith, tokens split, length-append front (comma ∷ back), expr_few d, list_few rest)

-- Sections

bound_few : {ts : List Token} {o : Option Expr} → IsBound ts o → optional_size o ≤ length ts
bound_few (left_out split) = omega arith
bound_few (given d) = expr_few d

inner_few : {ts : List Token} {x : Inner} → IsInner ts x → inner_size x ≤ length ts
inner_few (element d) = expr_few d
inner_few (counted front mark back split is d f) = omega (arith, tokens split, length-append front (mark ∷ back), expr_few d, expr_few f)
inner_few (ranged front mark back split is d f) = omega (arith, tokens split, length-append front (mark ∷ back), bound_few d, bound_few f)

form_inner : (x : Inner) → form_size (form_of_inner x) ≡ inner_size x
form_inner (inner_forms.Element e) = refl
form_inner (inner_forms.Length e n) = refl
form_inner (inner_forms.Span l u) = refl

indices_few : {ts : List Token} {e : Expr} {f : Option Expr} → IsIndices ts e f → expr_size e + optional_size f ≤ length ts
indices_few (one_index opened inner closed split is1 is2 d) = omega (arith, tokens split, closed_by inner closed, expr_few d)
indices_few (two_indices opened first closed again second ended split is1 is2 is3 is4 d f) =
    omega (arith, tokens split, length-append first (closed ∷ again ∷ (second ++ ended ∷ [])), closed_by second ended, expr_few d, expr_few f)

turns_few : {ts : List Token} {several : Turns} → IsTurns ts several → optional_size several.variable.first + expr_size several.count ≤ length ts
turns_few (turns t set word front mark back split is1 is2 is3 d f) = omega (arith, tokens split, length-append front (mark ∷ back), expr_few d, expr_few f)

section_few : {ts : List Token} {s : Section} → IsSection ts s → 1 + form_size s.form ≤ length ts
section_few (whole t base split is) = omega (arith, tokens split)
section_few (pointed star t base split is1 is2) = omega (arith, tokens split)
section_few (shape opened inner closed t base split is1 is2 is3 d) = omega (arith, tokens split, length-append inner (closed ∷ t ∷ []), expr_few d)
section_few (part {cells = cells} t base opened inner closed split is1 is2 is3 d) = omega (arith, tokens split, closed_by inner closed, form_inner cells, inner_few d)
section_few (grid t base opened first closed again second ended split is1 is2 is3 is4 is5 d f) =
    omega (arith, tokens split, length-append first (closed ∷ again ∷ (second ++ ended ∷ [])), closed_by second ended, inner_few d, inner_few f)
section_few (many opened t base indices comma counted_by closed split is1 is2 d is3 f is4) =
    omega (arith, tokens split, length-append indices (comma ∷ (counted_by ++ closed ∷ [])), closed_by counted_by closed, indices_few d, turns_few f)

sections_few : {ts : List Token} {ss : List Section} → IsSections ts ss → sections_size ss ≤ length ts
sections_few (last_section d) = omega (arith, section_few d)
sections_few (next_section front comma back split is d rest) = omega (arith, tokens split, length-append front (comma ∷ back), section_few d, sections_few rest)

-- Clauses

depend_few : {ts : List Token} {c : Clause} → IsDepend ts c → clause_size c ≤ length ts
depend_few (depend t opened inner closed mode strong fresh split is1 is2 is3 d) = omega (arith, tokens split, closed_by inner closed, sections_few d)

clause_few : {ts : List Token} {c : Clause} → IsClause ts c → clause_size c ≤ length ts
clause_few (dependency d) = depend_few d
clause_few (reduction t opened o colon inner closed strong operator split is1 is2 is3 is4 is5 d) = omega (arith, tokens split, closed_by inner closed, sections_few d)
clause_few (condition t opened inner closed split is1 is2 is3 d) = omega (arith, tokens split, closed_by inner closed, expr_few d)
clause_few (final_task t opened inner closed split is1 is2 is3 d) = omega (arith, tokens split, closed_by inner closed, expr_few d)
clause_few (waiting t split is) = omega (arith, tokens split)
clause_few (labelled t opened inner closed bytes split is1 is2 is3 d) = omega (arith, tokens split)
clause_few (priority t opened inner closed split is1 is2 is3 d) = omega (arith, tokens split, closed_by inner closed, expr_few d)
clause_few (grain t opened inner closed split is1 is2 is3 d) = omega (arith, tokens split, closed_by inner closed, expr_few d)

clauses_few : {ts : List Token} {cs : List Clause} → IsClauses ts cs → clauses_size cs ≤ length ts
clauses_few (no_clause split) = omega arith
clauses_few (plain_clause front back split d rest) = omega (arith, tokens split, length-append front back, clause_few d, clauses_few rest)
clauses_few (comma_clause comma front back split is d rest) = omega (arith, tokens split, length-append front back, clause_few d, clauses_few rest)

depends_few : {ts : List Token} {cs : List Clause} → IsMoreDepends ts cs → clauses_size cs ≤ length ts
depends_few (no_depend split) = omega arith
depends_few (plain_depend front back split d rest) = omega (arith, tokens split, length-append front back, depend_few d, depends_few rest)
depends_few (comma_depend comma front back split is d rest) = omega (arith, tokens split, length-append front back, depend_few d, depends_few rest)

-- Pragmas

abbrev pub directive_size : Directive → ℕ
directive_size (directive.Task mark) = clauses_size mark.clauses
directive_size (directive.TaskLoop mark) = clauses_size mark.clauses
directive_size (directive.TaskWait sections) = waits_size sections
directive_size (directive.Release clauses) = clauses_size clauses

-- three of its tokens are none of a clause
pub pragma_few : {ts : List Token} {d : Directive} → IsPragma ts d → 3 + directive_size d ≤ length ts
pragma_few (task start word inner end split is1 is2 is3 d once no_grain) = omega (arith, tokens split, closed_by inner end, clauses_few d)
pragma_few (task_loop start word inner end split is1 is2 is3 d once) = omega (arith, tokens split, closed_by inner end, clauses_few d)
pragma_few (wait_all start word end split is1 is2 is3) = omega (arith, tokens split)
pragma_few (wait_on start word on opened inner closed end split is1 is2 is3 is4 is5 is6 d) = omega (arith, tokens split, length-append inner (closed ∷ end ∷ []), sections_few d)
pragma_few (release start word front back end split is1 is2 is3 d rest) = omega (arith, tokens split, length-append front (back ++ end ∷ []), closed_by back end, depend_few d, depends_few rest)
