-- The reader of pragmas is exact for each exact reader of expressions.
use Rattle.std.proofs.Common.{arith, ◌≡◌, ℕ, Bool, true, false, List, [], ◌∷◌, ◌++◌, refl, sym, ap, ◌∙◌, subst, append_assoc, Some, None, Result}
use Rattle.std.specs.Prelude.{codes}
use Rattle.std.proofs.lemmas.List.{append-nil}
use Rattle.oss_syntax.specs.declared.token.Token.{Token}
use Rattle.oss_syntax.specs.declared.token.TokenKind.TheVariants as kinds
use Rattle.oss_syntax.specs.declared.tree.expr.Expr.{Expr}
use Rattle.oss_syntax.specs.declared.tree.pragma.Clause.{Clause}
use Rattle.oss_syntax.specs.declared.tree.pragma.Directive.{Directive}
use Rattle.oss_syntax.specs.declared.tree.pragma.Directive.TheVariants as directive
use Rattle.oss_syntax.specs.declared.tree.pragma.Section.{Section}
use Rattle.oss_grammar.specs.Expressions.{IsWhole}
use Rattle.oss_grammar.specs.Fronts.{Viable}
use Rattle.oss_grammar.specs.Grammar.{One, Mapped, Either}
use Rattle.oss_grammar.specs.Grammar.Either.{one_way, other_way}
use Rattle.oss_grammar.specs.Levels.{IsExcessBehind, IsPragmaExcess, OpensSections, OpensDepend, OpensClause, OpensLoopClause, AfterComma, OpensPragma}
use Rattle.oss_grammar.specs.Levels.AfterComma.{with_comma, without_comma}
use Rattle.oss_grammar.specs.Levels.OpensClause.{clause_dependency, clause_reduction, clause_condition, clause_final, clause_priority}
use Rattle.oss_grammar.specs.Levels.OpensLoopClause.{task_clause, clause_grain}
use Rattle.oss_grammar.specs.Levels.OpensPragma.{in_task, in_task_loop, in_wait, in_release, in_more_release}
use Rattle.oss_grammar.specs.OneToken.{IsWord}
use Rattle.oss_grammar.specs.Pragmas.{IsSections, IsDepend, IsClauses, HasEachOnce, HasNoGrain, IsMoreDepends, is_single, IsPragma, access_of, reduction_of}
use Rattle.oss_grammar.specs.Pragmas.IsClauses.{no_clause, plain_clause, comma_clause}
use Rattle.oss_grammar.specs.Pragmas.IsMoreDepends.{no_depend, plain_depend, comma_depend}
use Rattle.oss_grammar.specs.Pragmas.IsPragma.{task, task_loop, wait_all, wait_on, release}
use Rattle.oss_grammar.specs.Pragmas.Single.{once_if, once_final, once_priority, once_grain}
use Rattle.oss_grammar.specs.Reading.{Stop, Reader, has, one_of, never, read_one, read_mapped, read_either}
use Rattle.oss_grammar.proofs.Parts.{Exact, Begun, exact_as}
use Rattle.oss_grammar.proofs.PartLemmas.{Nowhere, nowhere, exact_one, begun_one, exact_mapped, begun_mapped, Then, ThenDeep, exact_then, begun_then, EitherDeep, begun_either}
use Rattle.oss_grammar.proofs.PartLemmas.EitherDeep.{one_deep, other_deep}
use Rattle.oss_expressions.specs.ExpressionReading.{read_expression, middle, and_then}
use Rattle.oss_expressions.specs.TokenValues.{symbol_at, word_at, start_at, end_at, access_at, begins_expression}
use Rattle.oss_expressions.specs.declared.kinds.TaskKind.{TaskKind}
use Rattle.oss_expressions.specs.declared.kinds.TaskKind.TheVariants as task_kind
use Rattle.oss_expressions.proofs.ExactPairs.{HeadedDeep, Enclosed, exact_enclosed, begun_enclosed, Bracketed, BracketedDeep, bracketed_viable, Behind, exact_behind, begun_behind, exact_or, or_apart}
use Rattle.oss_expressions.proofs.ExactExpressions.{exact_expression, begun_expression}
use Rattle.oss_expressions.proofs.TokenLemmas.{begins_never, goes_on, on_word, not_symbol, has_word}
use Rattle.oss_pragma.specs.PragmaReading.{read_clause, read_after_comma, goes_on_with_clause, read_clauses, no_grain, counted_with, found_of, read_all_clauses, goes_on_with_depend, read_depend, read_more_depends, read_depends, task_of, read_task, task_loop_of, read_task_loop, read_on, read_taskwait, read_release, read_pragma}
use Rattle.oss_pragma.proofs.ExactRows.{Rows, RowsEnd, RowsDeep, exact_rows}
use Rattle.oss_pragma.proofs.ExactRows.Rows.{no_row, next_row}
use Rattle.oss_pragma.proofs.ExactSections.{sections_viable}
use Rattle.oss_pragma.proofs.OnceLemmas.{IsNew, once_with, new_behind, once_none, count_yes, count_no, once_counted, once_found, none_found_of, counted_all, found_counted, none_counted}
use Rattle.oss_pragma.proofs.ExactClauses.{NewClause, clause_starts, exact_bracketed_sections, exact_depend, begun_depend, exact_clause, begun_clause, depend_viable, clause_viable}
use Rattle.oss_pragma.proofs.PragmaTokens.{word_told, tells_word, start_what, start_line, tells_start, end_told, tells_end, not_end, ends, on_end}

-- a part, or a comma and then the part
module _ {A : Type 0} (starts : Token → Bool) {f : List Token → Result (A × List Token) Stop} {U : List Token → A → Type 0} {D : List Token → Token → Type 0} {goes : Token → Bool} (part : Exact f U D goes) (first : Begun f starts)
    (viable : Viable U []) (apart : (t : Token) → starts t ≡ true → has (symbol_at (codes ",")) t ≡ false) where
  exact_after_comma : Exact (read_after_comma f) (Either (Behind (codes ",") U) U) (EitherDeep (BracketedDeep (codes ",") D) D) goes
  exact_after_comma = exact_or (has (symbol_at (codes ","))) starts (exact_behind (codes ",") part viable refl) (begun_behind (codes ",") part viable refl) part first apart

  begun_after_comma : Begun (read_after_comma f) (one_of (has (symbol_at (codes ","))) starts)
  begun_after_comma = begun_either (has (symbol_at (codes ","))) (begun_behind (codes ",") part viable refl) first

after_deeper : {Opens : List Token → Type 0} {X : List Token → Token → Type 0} (xs : List Token) (t : Token) → EitherDeep (BracketedDeep (codes ",") (IsExcessBehind Opens X)) (IsExcessBehind Opens X) xs t
    → IsExcessBehind (AfterComma Opens) X xs t
after_deeper xs t (one_deep d) = let x = d.deep in record { front = d.opened ∷ x.front; inner = x.inner; split = d.split ∙ ap (λ ys. d.opened ∷ ys) x.split; opens = with_comma d.opened x.front refl d.opens x.opens; excess = x.excess }
after_deeper xs t (other_deep x) = record { front = x.front; inner = x.inner; split = x.split; opens = without_comma x.opens; excess = x.excess }

after_upper : {Opens : List Token → Type 0} {X : List Token → Token → Type 0} (before inner : List Token) (t : Token) → X inner t → AfterComma Opens before
    → EitherDeep (BracketedDeep (codes ",") (IsExcessBehind Opens X)) (IsExcessBehind Opens X) (before ++ inner) t
after_upper before inner t x (with_comma comma back e c o) =
    one_deep (record { opened = comma; inner = back ++ inner; split = ap (λ ys. ys ++ inner) e; opens = c; deep = record { front = back; inner = inner; split = refl; opens = o; excess = x } })
after_upper before inner t x (without_comma o) = other_deep (record { front = before; inner = inner; split = refl; opens = o; excess = x })

-- the clauses of a task: each that a task has once at most stands once at most, and none is a grainsize
pub record IsTaskClauses (xs : List Token) (cs : List Clause) : Type 0 where
  pub clauses : IsClauses xs cs
  pub once : HasEachOnce cs
  pub bare : HasNoGrain cs

-- behind these tokens a whole expression begins in a clause of a task
pub data OpensClauses (xs : List Token) : Type 0 where
  behind_clauses : {found : List Clause} (front back : List Token) → xs ≡ front ++ back → IsClauses front found → HasEachOnce found → HasNoGrain found → AfterComma (OpensClause found) back → OpensClauses xs

-- the same of a task or of a task loop, with what stands before the clauses
pub record IsCountedClauses (kind : TaskKind) (xs : List Token) (cs : List Clause) : Type 0 where
  pub clauses : IsClauses xs cs
  pub once : HasEachOnce (counted_with kind cs)

pub data OpensCounted (kind : TaskKind) (xs : List Token) : Type 0 where
  behind_counted : {found : List Clause} (front back : List Token) → xs ≡ front ++ back → IsClauses front found → HasEachOnce (counted_with kind found)
      → AfterComma (OpensLoopClause (counted_with kind found)) back → OpensCounted kind xs

after_as : {O P : List Token → Type 0} → ((ys : List Token) → O ys → P ys) → (xs : List Token) → AfterComma O xs → AfterComma P xs
after_as into xs (with_comma comma back e c o) = with_comma comma back e c (into back o)
after_as into xs (without_comma o) = without_comma (into xs o)

-- no grainsize of a task is opened, and the other clauses are the same behind what stands before them
opens_found : (found : List Clause) (xs : List Token) → OpensLoopClause (no_grain ∷ found) xs → OpensClause found xs
opens_found found xs (task_clause (clause_dependency o)) = clause_dependency o
opens_found found xs (task_clause (clause_reduction t opened o colon strong operator front e r q f k i)) = clause_reduction t opened o colon strong operator front e r q f k i
opens_found found xs (task_clause (clause_condition t opened e k o none)) = clause_condition t opened e k o (sym (count_no (is_single once_if) no_grain found refl) ∙ none)
opens_found found xs (task_clause (clause_final t opened e k o none)) = clause_final t opened e k o (sym (count_no (is_single once_final) no_grain found refl) ∙ none)
opens_found found xs (task_clause (clause_priority t opened e k o none)) = clause_priority t opened e k o (sym (count_no (is_single once_priority) no_grain found refl) ∙ none)
opens_found found xs (clause_grain t opened e k o none) = let one = count_yes (is_single once_grain) no_grain found refl in absurd (omega arith)

opens_counted : (found : List Clause) (xs : List Token) → OpensClause found xs → OpensLoopClause (no_grain ∷ found) xs
opens_counted found xs (clause_dependency o) = task_clause (clause_dependency o)
opens_counted found xs (clause_reduction t opened o colon strong operator front e r q f k i) = task_clause (clause_reduction t opened o colon strong operator front e r q f k i)
opens_counted found xs (clause_condition t opened e k o none) = task_clause (clause_condition t opened e k o (count_no (is_single once_if) no_grain found refl ∙ none))
opens_counted found xs (clause_final t opened e k o none) = task_clause (clause_final t opened e k o (count_no (is_single once_final) no_grain found refl ∙ none))
opens_counted found xs (clause_priority t opened e k o none) = task_clause (clause_priority t opened e k o (count_no (is_single once_priority) no_grain found refl ∙ none))

abbrev NewOrComma : List Clause → List Token → Clause → Type 0
NewOrComma found = Either (Behind (codes ",") (NewClause found)) (NewClause found)

rows_clauses : (found : List Clause) (xs : List Token) (more : List Clause) → Rows NewOrComma found xs more → IsClauses xs more
rows_clauses found xs more (no_row e) = no_clause e
rows_clauses found xs more (next_row {more = rest} {v = v} front back e (one_way w) r) =
    comma_clause w.mark w.back back (e ∙ ap (λ ys. ys ++ back) w.split) w.marks w.behind.is (rows_clauses (and_then found v) back rest r)
rows_clauses found xs more (next_row {more = rest} {v = v} front back e (other_way w) r) = plain_clause front back e w.is (rows_clauses (and_then found v) back rest r)

new_in : (found : List Clause) (xs : List Token) (c : Clause) → NewOrComma found xs c → IsNew found c
new_in found xs c (one_way w) = w.behind.new
new_in found xs c (other_way w) = w.new

rows_once : (found : List Clause) (xs : List Token) (more : List Clause) → HasEachOnce found → Rows NewOrComma found xs more → HasEachOnce (found ++ more)
rows_once found xs more once (no_row e) = subst HasEachOnce (sym (append-nil found)) once
rows_once found xs more once (next_row {more = rest} {v = v} front back e w r) =
    subst HasEachOnce (append_assoc found (v ∷ []) rest) (rows_once (and_then found v) back rest (once_with found v once (new_in found front v w)) r)

clauses_rows : (found : List Clause) (xs : List Token) (more : List Clause) → HasEachOnce (found ++ more) → IsClauses xs more → Rows NewOrComma found xs more
clauses_rows found xs more once (no_clause e) = no_row e
clauses_rows found xs more once (plain_clause {c = c} {more = rest} front back e w r) =
    next_row front back e (other_way (record { is = w; new = new_behind found c rest once })) (clauses_rows (and_then found c) back rest (subst HasEachOnce (sym (append_assoc found (c ∷ []) rest)) once) r)
clauses_rows found xs more once (comma_clause {c = c} {more = rest} comma front back e m w r) =
    next_row (comma ∷ front) back e (one_way (record { mark = comma; back = front; split = refl; marks = m; behind = record { is = w; new = new_behind found c rest once } }))
    (clauses_rows (and_then found c) back rest (subst HasEachOnce (sym (append_assoc found (c ∷ []) rest)) once) r)

module _ {expression : Reader Expr} {X : List Token → Token → Type 0} (part_of : Exact expression IsWhole X goes_on) (first : Begun expression begins_expression) where
  abbrev ClauseDeep : List Clause → List Token → Token → Type 0
  ClauseDeep found = EitherDeep (BracketedDeep (codes ",") (IsExcessBehind (OpensLoopClause found) X)) (IsExcessBehind (OpensLoopClause found) X)

  clause_no_comma : (found : List Clause) (t : Token) → clause_starts found t ≡ true → has (symbol_at (codes ",")) t ≡ false
  unfolding access_of reduction_of
  clause_no_comma found t e = not_symbol (clause_starts found) (codes ",") (λ line. refl) t e

  exact_next_clause : (found : List Clause) → Exact (read_after_comma (read_clause expression found)) (NewOrComma found) (ClauseDeep found) never
  exact_next_clause found = exact_after_comma (clause_starts found) (exact_clause part_of first found) (begun_clause part_of first found) (clause_viable found) (clause_no_comma found)

  begun_next_clause : (found : List Clause) → Begun (read_after_comma (read_clause expression found)) (goes_on_with_clause found)
  begun_next_clause found = begun_after_comma (clause_starts found) (exact_clause part_of first found) (begun_clause part_of first found) (clause_viable found) (clause_no_comma found)

  end_no_clause : (found : List Clause) (t : Token) → not_end t ≡ false → goes_on_with_clause found t ≡ false
  unfolding access_of reduction_of
  end_no_clause found t e = on_end (goes_on_with_clause found) (λ line. refl) t e

  abbrev Counted : TaskKind → List Token → List Clause → Type 0
  Counted kind = Mapped (found_of kind) (RowsEnd NewOrComma (counted_with kind []))

  abbrev CountedDeep : TaskKind → List Token → Token → Type 0
  CountedDeep kind = RowsDeep NewOrComma ClauseDeep (counted_with kind [])

  once_all : (kind : TaskKind) (xs : List Token) (more : List Clause) → Rows NewOrComma (counted_with kind []) xs more → HasEachOnce (counted_with kind more)
  once_all kind xs more rows = subst HasEachOnce (counted_all kind more) (rows_once (counted_with kind []) xs more (none_counted kind) rows)

  counted_into : (kind : TaskKind) (xs : List Token) (cs : List Clause) → Counted kind xs cs → IsCountedClauses kind xs cs
  counted_into kind xs cs w =
      let same : w.whole.more ≡ cs = sym (found_counted kind w.whole.more) ∙ (ap (found_of kind) (sym (counted_all kind w.whole.more) ∙ w.whole.ends) ∙ w.made) in
      subst (λ cs. IsCountedClauses kind xs cs) same (record { clauses = rows_clauses (counted_with kind []) xs w.whole.more w.whole.rows; once = once_all kind xs w.whole.more w.whole.rows })

  counted_back : (kind : TaskKind) (xs : List Token) (cs : List Clause) → IsCountedClauses kind xs cs → Counted kind xs cs
  counted_back kind xs cs w = record {
    part = counted_with kind cs;
    made = found_counted kind cs;
    whole = record { more = cs; ends = counted_all kind cs; rows = clauses_rows (counted_with kind []) xs cs (subst HasEachOnce (sym (counted_all kind cs)) w.once) w.clauses };
  }

  counted_deeper : (kind : TaskKind) (xs : List Token) (t : Token) → CountedDeep kind xs t → IsExcessBehind (OpensCounted kind) X xs t
  counted_deeper kind xs t w = let x = after_deeper w.back t w.deep in record {
    front = w.front ++ x.front;
    inner = x.inner;
    split = w.split ∙ (ap (λ ys. w.front ++ ys) x.split ∙ sym (append_assoc w.front x.front x.inner));
    opens = behind_counted w.front x.front refl (rows_clauses (counted_with kind []) w.front w.more w.rows) (once_all kind w.front w.more w.rows)
        (subst (λ found. AfterComma (OpensLoopClause found) x.front) (counted_all kind w.more) x.opens);
    excess = x.excess;
  }

  counted_upper_by : (kind : TaskKind) (xs before inner : List Token) (t : Token) → xs ≡ before ++ inner → X inner t → OpensCounted kind before → CountedDeep kind xs t
  counted_upper_by kind xs before inner t e x (behind_counted {found = found} front back s w once o) = record {
    front = front;
    back = back ++ inner;
    more = found;
    split = e ∙ (ap (λ ys. ys ++ inner) s ∙ append_assoc front back inner);
    rows = clauses_rows (counted_with kind []) front found (subst HasEachOnce (sym (counted_all kind found)) once) w;
    deep = after_upper back inner t x (subst (λ found. AfterComma (OpensLoopClause found) back) (sym (counted_all kind found)) o);
  }

  counted_upper : (kind : TaskKind) (xs : List Token) (t : Token) → IsExcessBehind (OpensCounted kind) X xs t → CountedDeep kind xs t
  counted_upper kind xs t w = counted_upper_by kind xs w.front w.inner t w.split w.excess w.opens

  -- the clauses of a task and of a task loop are read where the end of the pragma follows
  pub exact_counted : (kind : TaskKind) → Exact (read_all_clauses kind expression) (IsCountedClauses kind) (IsExcessBehind (OpensCounted kind) X) not_end
  unfolding read_all_clauses read_clauses
  exact_counted kind = exact_as (counted_into kind) (counted_back kind) (counted_deeper kind) (counted_upper kind)
      (exact_mapped (found_of kind) (exact_rows exact_next_clause begun_next_clause (λ found t e. refl) end_no_clause (λ t e. refl) (counted_with kind [])))

  clauses_into : (xs : List Token) (cs : List Clause) → IsCountedClauses task_kind.Task xs cs → IsTaskClauses xs cs
  clauses_into xs cs w = record { clauses = w.clauses; once = once_found cs w.once; bare = none_found_of cs w.once }

  clauses_back : (xs : List Token) (cs : List Clause) → IsTaskClauses xs cs → IsCountedClauses task_kind.Task xs cs
  clauses_back xs cs w = record { clauses = w.clauses; once = once_counted cs w.once w.bare }

  clauses_deeper_by : (xs before inner : List Token) (t : Token) → xs ≡ before ++ inner → X inner t → OpensCounted task_kind.Task before → IsExcessBehind OpensClauses X xs t
  clauses_deeper_by xs before inner t e x (behind_counted {found = found} front back s w once o) =
      record { front = before; inner = inner; split = e; opens = behind_clauses front back s w (once_found found once) (none_found_of found once) (after_as (opens_found found) back o); excess = x }

  clauses_deeper : (xs : List Token) (t : Token) → IsExcessBehind (OpensCounted task_kind.Task) X xs t → IsExcessBehind OpensClauses X xs t
  clauses_deeper xs t w = clauses_deeper_by xs w.front w.inner t w.split w.excess w.opens

  clauses_upper_by : (xs before inner : List Token) (t : Token) → xs ≡ before ++ inner → X inner t → OpensClauses before → IsExcessBehind (OpensCounted task_kind.Task) X xs t
  clauses_upper_by xs before inner t e x (behind_clauses {found = found} front back s w once bare o) =
      record { front = before; inner = inner; split = e; opens = behind_counted front back s w (once_counted found once bare) (after_as (opens_counted found) back o); excess = x }

  clauses_upper : (xs : List Token) (t : Token) → IsExcessBehind OpensClauses X xs t → IsExcessBehind (OpensCounted task_kind.Task) X xs t
  clauses_upper xs t w = clauses_upper_by xs w.front w.inner t w.split w.excess w.opens

  pub exact_clauses : Exact (read_all_clauses task_kind.Task expression) IsTaskClauses (IsExcessBehind OpensClauses X) not_end
  exact_clauses = exact_as clauses_into clauses_back clauses_deeper clauses_upper (exact_counted task_kind.Task)

-- the dependencies of a release
pub record IsDepends (xs : List Token) (cs : List Clause) : Type 0 where
  pub front : List Token
  pub back : List Token
  pub one : Clause
  pub more : List Clause
  pub split : xs ≡ front ++ back
  pub all : one ∷ more ≡ cs
  pub before : IsDepend front one
  pub behind : IsMoreDepends back more

-- behind these tokens a whole expression begins in a dependency of a release
pub data OpensDepends (xs : List Token) : Type 0 where
  in_one_depend : OpensDepend xs → OpensDepends xs
  in_more_depends : {c : Clause} {more : List Clause} (front between back : List Token) → xs ≡ front ++ (between ++ back) → IsDepend front c → IsMoreDepends between more → AfterComma OpensDepend back → OpensDepends xs

abbrev DependOrComma : List Clause → List Token → Clause → Type 0
DependOrComma found = Either (Behind (codes ",") IsDepend) IsDepend

rows_depends : (found : List Clause) (xs : List Token) (more : List Clause) → Rows DependOrComma found xs more → IsMoreDepends xs more
rows_depends found xs more (no_row e) = no_depend e
rows_depends found xs more (next_row {more = rest} {v = v} front back e (one_way w) r) =
    comma_depend w.mark w.back back (e ∙ ap (λ ys. ys ++ back) w.split) w.marks w.behind (rows_depends (and_then found v) back rest r)
rows_depends found xs more (next_row {more = rest} {v = v} front back e (other_way w) r) = plain_depend front back e w (rows_depends (and_then found v) back rest r)

depends_rows : (found : List Clause) (xs : List Token) (more : List Clause) → IsMoreDepends xs more → Rows DependOrComma found xs more
depends_rows found xs more (no_depend e) = no_row e
depends_rows found xs more (plain_depend {c = c} {more = rest} front back e w r) = next_row front back e (other_way w) (depends_rows (and_then found c) back rest r)
depends_rows found xs more (comma_depend {c = c} {more = rest} comma front back e m w r) =
    next_row (comma ∷ front) back e (one_way (record { mark = comma; back = front; split = refl; marks = m; behind = w })) (depends_rows (and_then found c) back rest r)

module _ {expression : Reader Expr} {X : List Token → Token → Type 0} (part_of : Exact expression IsWhole X goes_on) (first : Begun expression begins_expression) where
  abbrev DependDeep : List Clause → List Token → Token → Type 0
  DependDeep found = EitherDeep (BracketedDeep (codes ",") (IsExcessBehind OpensDepend X)) (IsExcessBehind OpensDepend X)

  access_no_comma : (t : Token) → has access_at t ≡ true → has (symbol_at (codes ",")) t ≡ false
  unfolding access_of
  access_no_comma t e = not_symbol (has access_at) (codes ",") (λ line. refl) t e

  exact_next_depend : (found : List Clause) → Exact (read_after_comma (read_depend expression)) (DependOrComma found) (DependDeep found) never
  exact_next_depend found = exact_after_comma (has access_at) (exact_depend part_of first) (begun_depend part_of first) depend_viable access_no_comma

  begun_next_depend : (found : List Clause) → Begun (read_after_comma (read_depend expression)) (goes_on_with_depend found)
  begun_next_depend found = begun_after_comma (has access_at) (exact_depend part_of first) (begun_depend part_of first) depend_viable access_no_comma

  end_no_depend : (found : List Clause) (t : Token) → not_end t ≡ false → goes_on_with_depend found t ≡ false
  unfolding access_of
  end_no_depend found t e = on_end (goes_on_with_depend found) (λ line. refl) t e

  exact_more_depends : (found : List Clause) → Exact (read_more_depends expression found) (RowsEnd DependOrComma found) (RowsDeep DependOrComma DependDeep found) not_end
  unfolding read_more_depends
  exact_more_depends found = exact_rows exact_next_depend begun_next_depend (λ found t e. refl) end_no_depend (λ t e. refl) found

  more_viable : (c : Clause) → Viable (RowsEnd DependOrComma (c ∷ [])) []
  more_viable c = record { more = []; value = c ∷ []; member = record { more = []; ends = refl; rows = no_row refl } }

  abbrev Depends : List Token → List Clause → Type 0
  Depends = Then IsDepend (λ c. RowsEnd DependOrComma (c ∷ []))

  abbrev DependsDeep : List Token → Token → Type 0
  DependsDeep = ThenDeep (IsExcessBehind OpensDepend X) IsDepend (λ c. RowsDeep DependOrComma DependDeep (c ∷ []))

  depends_into : (xs : List Token) (cs : List Clause) → Depends xs cs → IsDepends xs cs
  depends_into xs cs w = record {
    front = w.front;
    back = w.back;
    one = w.value;
    more = w.behind.more;
    split = w.split;
    all = w.behind.ends;
    before = w.before;
    behind = rows_depends (w.value ∷ []) w.back w.behind.more w.behind.rows;
  }

  depends_back : (xs : List Token) (cs : List Clause) → IsDepends xs cs → Depends xs cs
  depends_back xs cs w = record {
    front = w.front;
    back = w.back;
    value = w.one;
    split = w.split;
    before = w.before;
    behind = record { more = w.more; ends = w.all; rows = depends_rows (w.one ∷ []) w.back w.more w.behind };
  }

  depends_deeper : (xs : List Token) (t : Token) → DependsDeep xs t → IsExcessBehind OpensDepends X xs t
  depends_deeper xs t (ThenDeep.in_first x) = record { front = x.front; inner = x.inner; split = x.split; opens = in_one_depend x.opens; excess = x.excess }
  depends_deeper xs t (ThenDeep.in_second front back c e w d) = let x = after_deeper d.back t d.deep in record {
    front = front ++ (d.front ++ x.front);
    inner = x.inner;
    split = e ∙ (ap (λ ys. front ++ ys) (d.split ∙ (ap (λ ys. d.front ++ ys) x.split ∙ sym (append_assoc d.front x.front x.inner))) ∙ sym (append_assoc front (d.front ++ x.front) x.inner));
    opens = in_more_depends front d.front x.front refl w (rows_depends (c ∷ []) d.front d.more d.rows) x.opens;
    excess = x.excess;
  }

  depends_upper_by : (xs before inner : List Token) (t : Token) → xs ≡ before ++ inner → X inner t → OpensDepends before → DependsDeep xs t
  depends_upper_by xs before inner t e x (in_one_depend o) = ThenDeep.in_first (record { front = before; inner = inner; split = e; opens = o; excess = x })
  depends_upper_by xs before inner t e x (in_more_depends {c = c} {more = more} front between back s w m o) =
      ThenDeep.in_second front (between ++ (back ++ inner)) c (e ∙ (ap (λ ys. ys ++ inner) s ∙ (append_assoc front (between ++ back) inner ∙ ap (λ ys. front ++ ys) (append_assoc between back inner)))) w
      (record { front = between; back = back ++ inner; more = more; split = refl; rows = depends_rows (c ∷ []) between more m; deep = after_upper back inner t x o })

  depends_upper : (xs : List Token) (t : Token) → IsExcessBehind OpensDepends X xs t → DependsDeep xs t
  depends_upper xs t w = depends_upper_by xs w.front w.inner t w.split w.excess w.opens

  -- the dependencies of a release are read where the end of the pragma follows
  pub exact_depends : Exact (read_depends expression) IsDepends (IsExcessBehind OpensDepends X) not_end
  unfolding read_depends
  exact_depends = exact_as depends_into depends_back depends_deeper depends_upper
      (exact_then (exact_depend part_of first) (λ c. exact_more_depends (c ∷ [])) (λ c ys b rest w free. begins_never (ys ++ rest)) (λ c ys t rest d. begins_never (ys ++ (t ∷ rest))) more_viable)

  depends_viable : Viable IsDepends []
  depends_viable = let v = depend_viable in record {
    more = v.more;
    value = v.value ∷ [];
    member = record { front = v.more; back = []; one = v.value; more = []; split = sym (append-nil v.more); all = refl; before = v.member; behind = no_depend refl };
  }

  -- a task
  abbrev Tasked : ℕ → List Token → Directive → Type 0
  Tasked line = Mapped (task_of line) (Enclosed (word_at (codes "task")) end_at IsTaskClauses)

  abbrev TaskedDeep : List Token → Token → Type 0
  TaskedDeep = HeadedDeep (word_at (codes "task")) (IsExcessBehind OpensClauses X)

  clauses_viable : Viable IsTaskClauses []
  clauses_viable = record { more = []; value = []; member = record { clauses = no_clause refl; once = once_none; bare = refl } }

  pub exact_task : (line : ℕ) → Exact (read_task expression line) (Tasked line) TaskedDeep never
  unfolding read_task
  exact_task line = exact_mapped (task_of line) (exact_enclosed (word_at (codes "task")) end_at (exact_clauses part_of first) clauses_viable ends (record { what = kinds.PragmaEnd; line = 0 }) 0 refl
      (record { what = kinds.Name (codes "task"); line = 0 }) 0 refl)

  begun_task : (line : ℕ) → Begun (read_task expression line) (has (word_at (codes "task")))
  unfolding read_task
  begun_task line = begun_mapped (task_of line) (begun_enclosed (word_at (codes "task")) end_at (exact_clauses part_of first) clauses_viable ends (record { what = kinds.PragmaEnd; line = 0 }) 0 refl)

  task_viable : (line : ℕ) → Viable (Tasked line) []
  task_viable line = record {
    more = record { what = kinds.Name (codes "task"); line = 0 } ∷ record { what = kinds.PragmaEnd; line = 0 } ∷ [];
    value = task_of line (0, ([], 0));
    member = record {
      part = (0, ([], 0));
      made = refl;
      whole = record { opened = record { what = kinds.Name (codes "task"); line = 0 }; inner = []; closed = record { what = kinds.PragmaEnd; line = 0 }; split = refl; opens = refl; closes = refl; inside = record { clauses = no_clause refl; once = once_none; bare = refl } };
    };
  }

  -- a task loop
  abbrev Looped : ℕ → List Token → Directive → Type 0
  Looped line = Mapped (task_loop_of line) (Enclosed (word_at (codes "taskloop")) end_at (IsCountedClauses task_kind.Loop))

  abbrev LoopedDeep : List Token → Token → Type 0
  LoopedDeep = HeadedDeep (word_at (codes "taskloop")) (IsExcessBehind (OpensCounted task_kind.Loop) X)

  loop_clauses_viable : Viable (IsCountedClauses task_kind.Loop) []
  loop_clauses_viable = record { more = []; value = []; member = record { clauses = no_clause refl; once = once_none } }

  pub exact_task_loop : (line : ℕ) → Exact (read_task_loop expression line) (Looped line) LoopedDeep never
  unfolding read_task_loop
  exact_task_loop line = exact_mapped (task_loop_of line) (exact_enclosed (word_at (codes "taskloop")) end_at (exact_counted part_of first task_kind.Loop) loop_clauses_viable ends (record { what = kinds.PragmaEnd; line = 0 }) 0 refl
      (record { what = kinds.Name (codes "taskloop"); line = 0 }) 0 refl)

  begun_task_loop : (line : ℕ) → Begun (read_task_loop expression line) (has (word_at (codes "taskloop")))
  unfolding read_task_loop
  begun_task_loop line =
      begun_mapped (task_loop_of line) (begun_enclosed (word_at (codes "taskloop")) end_at (exact_counted part_of first task_kind.Loop) loop_clauses_viable ends (record { what = kinds.PragmaEnd; line = 0 }) 0 refl)

  -- `taskwait`
  abbrev On : List Token → List Section → Type 0
  On = Mapped middle (Enclosed (word_at (codes "on")) end_at (Bracketed (codes "(") (codes ")") IsSections))

  abbrev OnDeep : List Token → Token → Type 0
  OnDeep = HeadedDeep (word_at (codes "on")) (BracketedDeep (codes "(") (IsExcessBehind OpensSections X))

  exact_on : Exact (read_on expression) On OnDeep never
  unfolding read_on
  exact_on = exact_mapped middle (exact_enclosed (word_at (codes "on")) end_at (exact_bracketed_sections part_of first) (bracketed_viable (codes "(") (codes ")") refl refl sections_viable) (λ t e. refl)
      (record { what = kinds.PragmaEnd; line = 0 }) 0 refl (record { what = kinds.Name (codes "on"); line = 0 }) 0 refl)

  begun_on : Begun (read_on expression) (has (word_at (codes "on")))
  unfolding read_on
  begun_on = begun_mapped middle (begun_enclosed (word_at (codes "on")) end_at (exact_bracketed_sections part_of first) (bracketed_viable (codes "(") (codes ")") refl refl sections_viable) (λ t e. refl)
      (record { what = kinds.PragmaEnd; line = 0 }) 0 refl)

  abbrev WaitingFor : ℕ → List Token → Directive → Type 0
  WaitingFor line = Either (Mapped (λ sections. directive.TaskWait (Some sections)) On) (Mapped (λ line. directive.TaskWait None) (One end_at))

  abbrev WaitingDeep : ℕ → List Token → Token → Type 0
  WaitingDeep line = EitherDeep OnDeep Nowhere

  end_no_on : (t : Token) → has end_at t ≡ true → has (word_at (codes "on")) t ≡ false
  end_no_on t e = on_end (has (word_at (codes "on"))) (λ line. refl) t (ends t e)

  exact_waiting_for : (line : ℕ)
      → Exact (read_either (has (word_at (codes "on"))) (read_mapped (λ sections. directive.TaskWait (Some sections)) (read_on expression)) (read_mapped (λ line. directive.TaskWait None) (read_one end_at))) (WaitingFor line) (WaitingDeep line) never
  exact_waiting_for line = exact_or (has (word_at (codes "on"))) (has end_at) (exact_mapped (λ sections. directive.TaskWait (Some sections)) exact_on) (begun_mapped (λ sections. directive.TaskWait (Some sections)) begun_on)
      (exact_mapped (λ line. directive.TaskWait None) (exact_one end_at (record { what = kinds.PragmaEnd; line = 0 }) 0 refl never)) (begun_mapped (λ line. directive.TaskWait None) (begun_one end_at)) end_no_on

  waiting_viable : (line : ℕ) → Viable (WaitingFor line) []
  waiting_viable line = record {
    more = record { what = kinds.PragmaEnd; line = 0 } ∷ [];
    value = directive.TaskWait None;
    member = other_way (record { part = 0; made = refl; whole = record { token = record { what = kinds.PragmaEnd; line = 0 }; only = refl; passes = refl } });
  }

  exact_wait_word : Exact (read_one (word_at (codes "taskwait"))) (One (word_at (codes "taskwait"))) Nowhere never
  exact_wait_word = exact_one (word_at (codes "taskwait")) (record { what = kinds.Name (codes "taskwait"); line = 0 }) 0 refl never

  abbrev Waited : List Token → Directive → Type 0
  Waited = Then (One (word_at (codes "taskwait"))) WaitingFor

  abbrev WaitedDeep : List Token → Token → Type 0
  WaitedDeep = ThenDeep Nowhere (One (word_at (codes "taskwait"))) WaitingDeep

  pub exact_taskwait : Exact (read_taskwait expression) Waited WaitedDeep never
  unfolding read_taskwait
  exact_taskwait = exact_then exact_wait_word exact_waiting_for (λ line ys b rest w free. begins_never (ys ++ rest)) (λ line ys t rest d. begins_never (ys ++ (t ∷ rest))) waiting_viable

  begun_taskwait : Begun (read_taskwait expression) (has (word_at (codes "taskwait")))
  unfolding read_taskwait
  begun_taskwait = begun_then exact_wait_word exact_waiting_for (λ line ys b rest w free. begins_never (ys ++ rest)) (λ line ys t rest d. begins_never (ys ++ (t ∷ rest))) waiting_viable (begun_one (word_at (codes "taskwait")))

  -- `release`
  abbrev Released : List Token → Directive → Type 0
  Released = Mapped (λ p. directive.Release (middle p)) (Enclosed (word_at (codes "release")) end_at IsDepends)

  abbrev ReleasedDeep : List Token → Token → Type 0
  ReleasedDeep = HeadedDeep (word_at (codes "release")) (IsExcessBehind OpensDepends X)

  pub exact_release : Exact (read_release expression) Released ReleasedDeep never
  unfolding read_release
  exact_release = exact_mapped (λ p. directive.Release (middle p)) (exact_enclosed (word_at (codes "release")) end_at exact_depends depends_viable ends (record { what = kinds.PragmaEnd; line = 0 }) 0 refl
      (record { what = kinds.Name (codes "release"); line = 0 }) 0 refl)

  begun_release : Begun (read_release expression) (has (word_at (codes "release")))
  unfolding read_release
  begun_release = begun_mapped (λ p. directive.Release (middle p)) (begun_enclosed (word_at (codes "release")) end_at exact_depends depends_viable ends (record { what = kinds.PragmaEnd; line = 0 }) 0 refl)

  -- what stands behind the first token of a pragma
  abbrev Directed : ℕ → List Token → Directive → Type 0
  Directed line = Either (Tasked line) (Either (Looped line) (Either Waited Released))

  abbrev DirectedDeep : ℕ → List Token → Token → Type 0
  DirectedDeep line = EitherDeep TaskedDeep (EitherDeep LoopedDeep (EitherDeep WaitedDeep ReleasedDeep))

  abbrev wait_starts : Token → Bool
  wait_starts = one_of (has (word_at (codes "taskwait"))) (has (word_at (codes "release")))

  abbrev loop_starts : Token → Bool
  loop_starts = one_of (has (word_at (codes "taskloop"))) wait_starts

  release_no_wait : (t : Token) → has (word_at (codes "release")) t ≡ true → has (word_at (codes "taskwait")) t ≡ false
  release_no_wait t e = on_word (has (word_at (codes "taskwait"))) (codes "release") false (λ line. refl) t (has_word (codes "release") t e)

  waits_no_loop : (t : Token) → wait_starts t ≡ true → has (word_at (codes "taskloop")) t ≡ false
  waits_no_loop = or_apart (has (word_at (codes "taskwait"))) (has (word_at (codes "release"))) (has (word_at (codes "taskloop")))
      (λ t e. on_word (has (word_at (codes "taskloop"))) (codes "taskwait") false (λ line. refl) t (has_word (codes "taskwait") t e))
      (λ t e. on_word (has (word_at (codes "taskloop"))) (codes "release") false (λ line. refl) t (has_word (codes "release") t e))

  waits_no_task : (t : Token) → wait_starts t ≡ true → has (word_at (codes "task")) t ≡ false
  waits_no_task = or_apart (has (word_at (codes "taskwait"))) (has (word_at (codes "release"))) (has (word_at (codes "task")))
      (λ t e. on_word (has (word_at (codes "task"))) (codes "taskwait") false (λ line. refl) t (has_word (codes "taskwait") t e))
      (λ t e. on_word (has (word_at (codes "task"))) (codes "release") false (λ line. refl) t (has_word (codes "release") t e))

  others_no_task : (t : Token) → loop_starts t ≡ true → has (word_at (codes "task")) t ≡ false
  others_no_task = or_apart (has (word_at (codes "taskloop"))) wait_starts (has (word_at (codes "task")))
      (λ t e. on_word (has (word_at (codes "task"))) (codes "taskloop") false (λ line. refl) t (has_word (codes "taskloop") t e)) waits_no_task

  abbrev read_unlooped : Reader Directive
  read_unlooped = read_either (has (word_at (codes "taskwait"))) (read_taskwait expression) (read_release expression)

  exact_unlooped : Exact read_unlooped (Either Waited Released) (EitherDeep WaitedDeep ReleasedDeep) never
  exact_unlooped = exact_or (has (word_at (codes "taskwait"))) (has (word_at (codes "release"))) exact_taskwait begun_taskwait exact_release begun_release release_no_wait

  begun_unlooped : Begun read_unlooped wait_starts
  begun_unlooped = begun_either (has (word_at (codes "taskwait"))) begun_taskwait begun_release

  exact_directed : (line : ℕ) → Exact (read_either (has (word_at (codes "task"))) (read_task expression line) (read_either (has (word_at (codes "taskloop"))) (read_task_loop expression line) read_unlooped)) (Directed line) (DirectedDeep line) never
  exact_directed line = exact_or (has (word_at (codes "task"))) loop_starts (exact_task line) (begun_task line)
      (exact_or (has (word_at (codes "taskloop"))) wait_starts (exact_task_loop line) (begun_task_loop line) exact_unlooped begun_unlooped waits_no_loop)
      (begun_either (has (word_at (codes "taskloop"))) (begun_task_loop line) begun_unlooped) others_no_task

  directed_viable : (line : ℕ) → Viable (Directed line) []
  directed_viable line = let v = task_viable line in record { more = v.more; value = v.value; member = one_way v.member }

  task_into : (xs front back : List Token) (line : ℕ) (d : Directive) → xs ≡ front ++ back → One start_at front line → Tasked line back d → IsPragma xs d
  task_into xs front back line d e s w = let c = w.whole in
      subst (λ d. IsPragma xs d) (ap (λ n. directive.Task (record { clauses = w.part.1.0; line = n })) (start_line s.token.what s.token.line line s.passes) ∙ w.made)
      (task s.token c.opened c.inner c.closed (e ∙ (ap (λ ys. ys ++ back) s.only ∙ ap (λ ys. s.token ∷ ys) c.split)) (start_what s.token.what s.token.line line s.passes)
      (word_told (codes "task") c.opened w.part.0 c.opens) (end_told c.closed w.part.1.1 c.closes) c.inside.clauses c.inside.once c.inside.bare)

  loop_into : (xs front back : List Token) (line : ℕ) (d : Directive) → xs ≡ front ++ back → One start_at front line → Looped line back d → IsPragma xs d
  loop_into xs front back line d e s w = let c = w.whole in
      subst (λ d. IsPragma xs d) (ap (λ n. directive.TaskLoop (record { clauses = w.part.1.0; line = n })) (start_line s.token.what s.token.line line s.passes) ∙ w.made)
      (task_loop s.token c.opened c.inner c.closed (e ∙ (ap (λ ys. ys ++ back) s.only ∙ ap (λ ys. s.token ∷ ys) c.split)) (start_what s.token.what s.token.line line s.passes)
      (word_told (codes "taskloop") c.opened w.part.0 c.opens) (end_told c.closed w.part.1.1 c.closes) c.inside.clauses c.inside.once)

  wait_into : (xs front back : List Token) (line : ℕ) (d : Directive) → xs ≡ front ++ back → One start_at front line → (w : Waited back d) → WaitingFor w.value w.back d → IsPragma xs d
  wait_into xs front back line d e s w (other_way m) =
      subst (λ d. IsPragma xs d) m.made
      (wait_all s.token w.before.token m.whole.token (e ∙ (ap (λ ys. ys ++ back) s.only ∙ ap (λ ys. s.token ∷ ys) (w.split ∙ (ap (λ ys. ys ++ w.back) w.before.only ∙ ap (λ ys. w.before.token ∷ ys) m.whole.only))))
      (start_what s.token.what s.token.line line s.passes) (word_told (codes "taskwait") w.before.token w.value w.before.passes) (end_told m.whole.token m.part m.whole.passes))
  wait_into xs front back line d e s w (one_way m) = let c = m.whole.whole in let b = c.inside in
      subst (λ d. IsPragma xs d) (ap (λ v. directive.TaskWait (Some v)) m.whole.made ∙ m.made)
      (wait_on s.token w.before.token c.opened b.opened b.inner b.closed c.closed
      (e ∙ (ap (λ ys. ys ++ back) s.only ∙ ap (λ ys. s.token ∷ ys) (w.split ∙ (ap (λ ys. ys ++ w.back) w.before.only
      ∙ ap (λ ys. w.before.token ∷ ys) (c.split ∙ ap (λ ys. c.opened ∷ ys) (ap (λ ys. ys ++ (c.closed ∷ [])) b.split ∙ ap (λ ys. b.opened ∷ ys) (append_assoc b.inner (b.closed ∷ []) (c.closed ∷ []))))))))
      (start_what s.token.what s.token.line line s.passes) (word_told (codes "taskwait") w.before.token w.value w.before.passes) (word_told (codes "on") c.opened m.whole.part.0 c.opens)
      b.opens b.closes (end_told c.closed m.whole.part.1.1 c.closes) b.inside)

  release_into : (xs front back : List Token) (line : ℕ) (d : Directive) → xs ≡ front ++ back → One start_at front line → Released back d → IsPragma xs d
  release_into xs front back line d e s w = let c = w.whole in let r = c.inside in
      subst (λ d. IsPragma xs d) (ap directive.Release r.all ∙ w.made)
      (release s.token c.opened r.front r.back c.closed
      (e ∙ (ap (λ ys. ys ++ back) s.only ∙ ap (λ ys. s.token ∷ ys) (c.split ∙ ap (λ ys. c.opened ∷ ys) (ap (λ ys. ys ++ (c.closed ∷ [])) r.split ∙ append_assoc r.front r.back (c.closed ∷ [])))))
      (start_what s.token.what s.token.line line s.passes) (word_told (codes "release") c.opened w.part.0 c.opens) (end_told c.closed w.part.1.1 c.closes) r.before r.behind)

  abbrev Started : List Token → Directive → Type 0
  Started = Then (One start_at) Directed

  abbrev StartedDeep : List Token → Token → Type 0
  StartedDeep = ThenDeep Nowhere (One start_at) DirectedDeep

  directed_into : (xs front back : List Token) (line : ℕ) (d : Directive) → xs ≡ front ++ back → One start_at front line → Directed line back d → IsPragma xs d
  directed_into xs front back line d e s (one_way w) = task_into xs front back line d e s w
  directed_into xs front back line d e s (other_way (one_way w)) = loop_into xs front back line d e s w
  directed_into xs front back line d e s (other_way (other_way (one_way w))) = wait_into xs front back line d e s w w.behind
  directed_into xs front back line d e s (other_way (other_way (other_way w))) = release_into xs front back line d e s w

  pragma_into : (xs : List Token) (d : Directive) → Started xs d → IsPragma xs d
  pragma_into xs d w = directed_into xs w.front w.back w.value d w.split w.before w.behind

  one_start : (t : Token) → t.what ≡ kinds.PragmaOss → One start_at (t ∷ []) t.line
  one_start t e = record { token = t; only = refl; passes = tells_start t e }

  one_wait : (t : Token) → IsWord (codes "taskwait") t → One (word_at (codes "taskwait")) (t ∷ []) t.line
  one_wait t e = record { token = t; only = refl; passes = tells_word (codes "taskwait") t e }

  pragma_back : (xs : List Token) (d : Directive) → IsPragma xs d → Started xs d
  pragma_back xs d (task {clauses = cs} start word inner end e s k n w once bare) = record {
    front = start ∷ [];
    back = word ∷ (inner ++ (end ∷ []));
    value = start.line;
    split = e;
    before = one_start start s;
    behind = one_way (record {
      part = (word.line, (cs, end.line));
      made = refl;
      whole = record { opened = word; inner = inner; closed = end; split = refl; opens = tells_word (codes "task") word k; closes = tells_end end n; inside = record { clauses = w; once = once; bare = bare } };
    });
  }
  pragma_back xs d (task_loop {clauses = cs} start word inner end e s k n w once) = record {
    front = start ∷ [];
    back = word ∷ (inner ++ (end ∷ []));
    value = start.line;
    split = e;
    before = one_start start s;
    behind = other_way (one_way (record {
      part = (word.line, (cs, end.line));
      made = refl;
      whole = record { opened = word; inner = inner; closed = end; split = refl; opens = tells_word (codes "taskloop") word k; closes = tells_end end n; inside = record { clauses = w; once = once } };
    }));
  }
  pragma_back xs d (wait_all start word end e s k n) = record {
    front = start ∷ [];
    back = word ∷ end ∷ [];
    value = start.line;
    split = e;
    before = one_start start s;
    behind = other_way (other_way (one_way (record {
      front = word ∷ [];
      back = end ∷ [];
      value = word.line;
      split = refl;
      before = one_wait word k;
      behind = other_way (record { part = end.line; made = refl; whole = record { token = end; only = refl; passes = tells_end end n } });
    })));
  }
  pragma_back xs d (wait_on {sections = sections} start word on opened inner closed end e s k o p q n w) = record {
    front = start ∷ [];
    back = word ∷ on ∷ opened ∷ (inner ++ (closed ∷ end ∷ []));
    value = start.line;
    split = e;
    before = one_start start s;
    behind = other_way (other_way (one_way (record {
      front = word ∷ [];
      back = on ∷ opened ∷ (inner ++ (closed ∷ end ∷ []));
      value = word.line;
      split = refl;
      before = one_wait word k;
      behind = one_way (record {
        part = sections;
        made = refl;
        whole = record {
          part = (on.line, (sections, end.line));
          made = refl;
          whole = record {
            opened = on;
            inner = opened ∷ (inner ++ (closed ∷ []));
            closed = end;
            split = ap (λ ys. on ∷ opened ∷ ys) (sym (append_assoc inner (closed ∷ []) (end ∷ [])));
            opens = tells_word (codes "on") on o;
            closes = tells_end end n;
            inside = record { opened = opened; inner = inner; closed = closed; split = refl; opens = p; closes = q; inside = w };
          };
        };
      });
    })));
  }
  pragma_back xs d (release {c = c} {more = more} start word front back end e s k n w r) = record {
    front = start ∷ [];
    back = word ∷ (front ++ (back ++ (end ∷ [])));
    value = start.line;
    split = e;
    before = one_start start s;
    behind = other_way (other_way (other_way (record {
      part = (word.line, (c ∷ more, end.line));
      made = refl;
      whole = record {
        opened = word;
        inner = front ++ back;
        closed = end;
        split = ap (λ ys. word ∷ ys) (sym (append_assoc front back (end ∷ [])));
        opens = tells_word (codes "release") word k;
        closes = tells_end end n;
        inside = record { front = front; back = back; one = c; more = more; split = refl; all = refl; before = w; behind = r };
      };
    })));
  }

  task_place : (xs back : List Token) (start word : Token) (t : Token) → xs ≡ start ∷ word ∷ back → start.what ≡ kinds.PragmaOss → IsWord (codes "task") word → (x : IsExcessBehind OpensClauses X back t) → OpensClauses x.front
      → IsExcessBehind OpensPragma X xs t
  task_place xs back start word t e s k x (behind_clauses front left b w once bare o) = record {
    front = start ∷ word ∷ x.front;
    inner = x.inner;
    split = e ∙ ap (λ ys. start ∷ word ∷ ys) x.split;
    opens = in_task start word front left (ap (λ ys. start ∷ word ∷ ys) b) s k w once bare o;
    excess = x.excess;
  }

  loop_place : (xs back : List Token) (start word : Token) (t : Token) → xs ≡ start ∷ word ∷ back → start.what ≡ kinds.PragmaOss → IsWord (codes "taskloop") word → (x : IsExcessBehind (OpensCounted task_kind.Loop) X back t)
      → OpensCounted task_kind.Loop x.front → IsExcessBehind OpensPragma X xs t
  loop_place xs back start word t e s k x (behind_counted front left b w once o) = record {
    front = start ∷ word ∷ x.front;
    inner = x.inner;
    split = e ∙ ap (λ ys. start ∷ word ∷ ys) x.split;
    opens = in_task_loop start word front left (ap (λ ys. start ∷ word ∷ ys) b) s k w once o;
    excess = x.excess;
  }

  release_place : (xs back : List Token) (start word : Token) (t : Token) → xs ≡ start ∷ word ∷ back → start.what ≡ kinds.PragmaOss → IsWord (codes "release") word → (x : IsExcessBehind OpensDepends X back t) → OpensDepends x.front
      → IsExcessBehind OpensPragma X xs t
  release_place xs back start word t e s k x (in_one_depend o) = record {
    front = start ∷ word ∷ x.front;
    inner = x.inner;
    split = e ∙ ap (λ ys. start ∷ word ∷ ys) x.split;
    opens = in_release start word x.front refl s k o;
    excess = x.excess;
  }
  release_place xs back start word t e s k x (in_more_depends front between left b w m o) = record {
    front = start ∷ word ∷ x.front;
    inner = x.inner;
    split = e ∙ ap (λ ys. start ∷ word ∷ ys) x.split;
    opens = in_more_release start word front between left (ap (λ ys. start ∷ word ∷ ys) b) s k w m o;
    excess = x.excess;
  }

  directed_deeper : (xs front back : List Token) (line : ℕ) (t : Token) → xs ≡ front ++ back → One start_at front line → DirectedDeep line back t → IsExcessBehind OpensPragma X xs t
  directed_deeper xs front back line t e s (one_deep d) =
      task_place xs d.back s.token d.token t (e ∙ (ap (λ ys. ys ++ back) s.only ∙ ap (λ ys. s.token ∷ ys) d.split)) (start_what s.token.what s.token.line line s.passes) (word_told (codes "task") d.token d.value d.passes) d.deep d.deep.opens
  directed_deeper xs front back line t e s (other_deep (one_deep d)) =
      loop_place xs d.back s.token d.token t (e ∙ (ap (λ ys. ys ++ back) s.only ∙ ap (λ ys. s.token ∷ ys) d.split)) (start_what s.token.what s.token.line line s.passes) (word_told (codes "taskloop") d.token d.value d.passes) d.deep d.deep.opens
  directed_deeper xs front back line t e s (other_deep (other_deep (one_deep (ThenDeep.in_first d)))) = nowhere back t d
  directed_deeper xs front back line t e s (other_deep (other_deep (one_deep (ThenDeep.in_second one left n b w (one_deep d))))) = let k = d.deep in let x = k.deep in record {
    front = s.token ∷ w.token ∷ d.token ∷ k.opened ∷ x.front;
    inner = x.inner;
    split = e ∙ (ap (λ ys. ys ++ back) s.only ∙ ap (λ ys. s.token ∷ ys) (b ∙ (ap (λ ys. ys ++ left) w.only ∙ ap (λ ys. w.token ∷ ys) (d.split ∙ ap (λ ys. d.token ∷ ys) (k.split ∙ ap (λ ys. k.opened ∷ ys) x.split)))));
    opens = in_wait s.token w.token d.token k.opened x.front refl (start_what s.token.what s.token.line line s.passes) (word_told (codes "taskwait") w.token n w.passes) (word_told (codes "on") d.token d.value d.passes) k.opens x.opens;
    excess = x.excess;
  }
  directed_deeper xs front back line t e s (other_deep (other_deep (one_deep (ThenDeep.in_second one left n b w (other_deep d))))) = nowhere left t d
  directed_deeper xs front back line t e s (other_deep (other_deep (other_deep d))) =
      release_place xs d.back s.token d.token t (e ∙ (ap (λ ys. ys ++ back) s.only ∙ ap (λ ys. s.token ∷ ys) d.split)) (start_what s.token.what s.token.line line s.passes) (word_told (codes "release") d.token d.value d.passes) d.deep d.deep.opens

  pragma_deeper : (xs : List Token) (t : Token) → StartedDeep xs t → IsExcessBehind OpensPragma X xs t
  pragma_deeper xs t (ThenDeep.in_first d) = nowhere xs t d
  pragma_deeper xs t (ThenDeep.in_second front back line e s d) = directed_deeper xs front back line t e s d

  started : (xs before inner back : List Token) (start : Token) (t : Token) → xs ≡ before ++ inner → before ++ inner ≡ start ∷ back → start.what ≡ kinds.PragmaOss → DirectedDeep start.line back t → StartedDeep xs t
  started xs before inner back start t e b s d = ThenDeep.in_second (start ∷ []) back start.line (e ∙ b) (one_start start s) d

  pragma_upper_by : (xs before inner : List Token) (t : Token) → xs ≡ before ++ inner → X inner t → OpensPragma before → StartedDeep xs t
  pragma_upper_by xs before inner t e x (in_task start word front back b s k w once bare o) =
      started xs before inner (word ∷ ((front ++ back) ++ inner)) start t e (ap (λ ys. ys ++ inner) b) s (one_deep (record {
        token = word;
        back = (front ++ back) ++ inner;
        value = word.line;
        split = refl;
        passes = tells_word (codes "task") word k;
        deep = record { front = front ++ back; inner = inner; split = refl; opens = behind_clauses front back refl w once bare o; excess = x };
      }))
  pragma_upper_by xs before inner t e x (in_task_loop start word front back b s k w once o) =
      started xs before inner (word ∷ ((front ++ back) ++ inner)) start t e (ap (λ ys. ys ++ inner) b) s (other_deep (one_deep (record {
        token = word;
        back = (front ++ back) ++ inner;
        value = word.line;
        split = refl;
        passes = tells_word (codes "taskloop") word k;
        deep = record { front = front ++ back; inner = inner; split = refl; opens = behind_counted front back refl w once o; excess = x };
      })))
  pragma_upper_by xs before inner t e x (in_wait start word on opened front b s k o p i) =
      started xs before inner (word ∷ on ∷ opened ∷ (front ++ inner)) start t e (ap (λ ys. ys ++ inner) b) s (other_deep (other_deep (one_deep (ThenDeep.in_second (word ∷ []) (on ∷ opened ∷ (front ++ inner)) word.line refl (one_wait word k)
      (one_deep (record {
        token = on;
        back = opened ∷ (front ++ inner);
        value = on.line;
        split = refl;
        passes = tells_word (codes "on") on o;
        deep = record { opened = opened; inner = front ++ inner; split = refl; opens = p; deep = record { front = front; inner = inner; split = refl; opens = i; excess = x } };
      }))))))
  pragma_upper_by xs before inner t e x (in_release start word front b s k o) =
      started xs before inner (word ∷ (front ++ inner)) start t e (ap (λ ys. ys ++ inner) b) s (other_deep (other_deep (other_deep (record {
        token = word;
        back = front ++ inner;
        value = word.line;
        split = refl;
        passes = tells_word (codes "release") word k;
        deep = record { front = front; inner = inner; split = refl; opens = in_one_depend o; excess = x };
      }))))
  pragma_upper_by xs before inner t e x (in_more_release start word front between back b s k w m o) =
      started xs before inner (word ∷ ((front ++ (between ++ back)) ++ inner)) start t e (ap (λ ys. ys ++ inner) b) s (other_deep (other_deep (other_deep (record {
        token = word;
        back = (front ++ (between ++ back)) ++ inner;
        value = word.line;
        split = refl;
        passes = tells_word (codes "release") word k;
        deep = record { front = front ++ (between ++ back); inner = inner; split = refl; opens = in_more_depends front between back refl w m o; excess = x };
      }))))

  pragma_upper : (xs : List Token) (t : Token) → IsExcessBehind OpensPragma X xs t → StartedDeep xs t
  pragma_upper xs t w = pragma_upper_by xs w.front w.inner t w.split w.excess w.opens

  -- a pragma is read exactly, whatever follows it
  pub exact_pragma : Exact (read_pragma expression) IsPragma (IsExcessBehind OpensPragma X) never
  unfolding read_pragma
  exact_pragma = exact_as pragma_into pragma_back pragma_deeper pragma_upper
      (exact_then (exact_one start_at (record { what = kinds.PragmaOss; line = 0 }) 0 refl never) exact_directed (λ line ys b rest w free. begins_never (ys ++ rest)) (λ line ys t rest d. begins_never (ys ++ (t ∷ rest))) directed_viable)

  pub begun_pragma : Begun (read_pragma expression) (has start_at)
  unfolding read_pragma
  begun_pragma =
      begun_then (exact_one start_at (record { what = kinds.PragmaOss; line = 0 }) 0 refl never) exact_directed (λ line ys b rest w free. begins_never (ys ++ rest)) (λ line ys t rest d. begins_never (ys ++ (t ∷ rest))) directed_viable (begun_one start_at)

-- pragmas with the limits of the language are read exactly
pub exact_limited_pragma : Exact (read_pragma read_expression) IsPragma IsPragmaExcess never
exact_limited_pragma = exact_pragma exact_expression begun_expression
