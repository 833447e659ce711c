-- Clauses with their multidependencies unrolled evaluate the same and declare the same cells.
use Rattle.std.proofs.Common.{◌≡◌, ◌∙◌, ℕ, ◌+◌, ◌<◌, ◌≤◌, Bool, true, false, List, [], ◌∷◌, ◌++◌, length, Option, Some, None, refl, sym, ap, subst, arith, rules}
use Rattle.std.specs.Prelude.{◌^◌, ◌&&◌, if◌then◌else◌, nat_le, Err}
use Rattle.std.proofs.lemmas.Bool.Decides.{nat_tests}
use Rattle.std.proofs.lemmas.List.{append-nil}
use Rattle.oss_syntax.specs.declared.access.Access.{Access}
use Rattle.oss_syntax.specs.declared.fault.FaultKind.TheVariants as fault
use Rattle.oss_syntax.specs.declared.tree.expr.BinOp.{BinOp}
use Rattle.oss_syntax.specs.declared.tree.expr.Expr.{Expr}
use Rattle.oss_syntax.specs.declared.tree.expr.ExprKind.TheFolds.{the_lemmas as expr_folds}
use Rattle.oss_syntax.specs.declared.tree.expr.ExprKind.TheVariants as exprs
use Rattle.oss_syntax.specs.declared.tree.expr.UnOp.{UnOp}
use Rattle.oss_syntax.specs.declared.tree.pragma.Clause.{Clause}
use Rattle.oss_syntax.specs.declared.tree.pragma.Clause.TheVariants as clause
use Rattle.oss_syntax.specs.declared.tree.pragma.Form.{Form}
use Rattle.oss_syntax.specs.declared.tree.pragma.Form.TheVariants as form
use Rattle.oss_syntax.specs.declared.tree.pragma.Section.{Section}
use Rattle.oss_syntax.specs.declared.tree.pragma.Turns.{Turns}
use Rattle.oss_syntax.specs.declared.tree.program.Item.{Item}
use Rattle.oss_syntax.specs.declared.tree.program.Local.{Local}
use Rattle.oss_grammar.specs.SectionCells.{most_turns, signed}
use Rattle.oss_grammar.proofs.TreeInduction.{ExprParts, expr_induction}
use Rattle.oss_grammar.proofs.TreeInduction.ExprParts.{is_number, is_name, is_index, is_unary, is_binary, is_applied}
use Rattle.oss_meaning.specs.declared.clauses.Declared.{Declared}
use Rattle.oss_meaning.specs.declared.value.Value.{Value}
use Rattle.oss_meaning.specs.declared.value.Value.TheVariants as value
use Rattle.oss_meaning.specs.Clauses.{Made, clause_run, clause_value, clauses_run, holds}
use Rattle.oss_meaning.specs.Expressions.{Here, Sense, TreeRun, sense_of, unless_fault}
use Rattle.oss_meaning.specs.Names.{found}
use Rattle.oss_meaning.specs.Pointers.{extents_of, number_in}
use Rattle.oss_meaning.specs.Sections.{base_of, declared_on, optional_value, ranges_of, section_run, sections_run, turns_run}
use Rattle.oss_meaning.proofs.FormLemmas.{sense-number}
use Rattle.oss_multidependency_laws.specs.Claims.{SpelledMeansTheSame, UnrolledClausesMeanTheSame, UnrolledSectionsMeanTheSame}
use Rattle.oss_multidependency_laws.specs.Grouping.{IsSteady, IsSteadyMade, singles}
use Rattle.oss_multidependency_laws.specs.Unrolling.{are_few, both_literals, few_turns, first_literal, is_signed, literal, literal_turns, turn_sections, unrolled_clause, unrolled_clauses, unrolled_form, unrolled_sections, written_turns}
use Rattle.oss_multidependency_laws.proofs.SpelledValues.{spells}
use Rattle.oss_multidependency_laws.proofs.TurnCells.{steady_behind, turns_are}

abbrev IsSomething : {A : Type 0} → Option A → Type 0
IsSomething None = ⊥
IsSomething (Some a) = Unit {0}

abbrev value_or : {A : Type 0} → Option A → A → A
value_or None d = d
value_or (Some a) d = a

pub spelled_means_the_same : SpelledMeansTheSame
spelled_means_the_same all scope v k e signed line here locals size go = (spells all scope v k signed e).value line here locals size go

-- Literals

module _ (line : ℕ) where
  literal-number : (n : ℕ) → literal (record { what = exprs.Number n false; line = line }) ≡ Some n
  literal-number n = search (rules, expr_folds)

  literal-unsigned : (n : ℕ) → literal (record { what = exprs.Number n true; line = line }) ≡ None
  literal-unsigned n = search (rules, expr_folds)

  literal-name : (text : List ℕ) → literal (record { what = exprs.Name text; line = line }) ≡ None
  literal-name text = search (rules, expr_folds)

  literal-index : (a e : Expr) → literal (record { what = exprs.Index a e; line = line }) ≡ None
  literal-index a e = search (rules, expr_folds)

  literal-unary : (o : UnOp) (e : Expr) → literal (record { what = exprs.Unary o e; line = line }) ≡ None
  literal-unary o e = search (rules, expr_folds)

  literal-binary : (o : BinOp) (a b : Expr) → literal (record { what = exprs.Binary o a b; line = line }) ≡ None
  literal-binary o a b = search (rules, expr_folds)

  literal-call : (text : List ℕ) (es : List Expr) → literal (record { what = exprs.Call text es; line = line }) ≡ None
  literal-call text es = search (rules, expr_folds)

module _ (all : List Item) (scope : List Local) where
  -- a literal gives its number, and asks for nothing
  abbrev IsNumber : Expr → Type 0
  IsNumber e = (n : ℕ) → literal e ≡ Some n → (line : ℕ) (here : Here) (locals : List Value) (go : Value → TreeRun) → (sense_of all scope e).value line here locals go ≡ go (value.Num n)

  no_literal : (e : Expr) → literal e ≡ None → IsNumber e
  no_literal e none n h = absurd (subst IsSomething (sym h ∙ none) tt)

  is_literal : (e : Expr) (n : ℕ) → e.what ≡ exprs.Number n false → IsNumber e
  is_literal e n is m h line here locals go =
      let same : e ≡ record { what = exprs.Number n false; line = e.line } = ap {B = Expr} (λ w. record { what = w; line = e.line }) is in
      let equal : n ≡ m = ap (λ o. value_or o n) (sym (ap literal same ∙ literal-number e.line n) ∙ h) in
      ap (λ (s : Sense). s.value line here locals go) (ap (sense_of all scope) same ∙ sense-number all scope e.line n false) ∙ ap (λ k. go (value.Num k)) equal

  numbers : (e : Expr) → ExprParts IsNumber e.what → IsNumber e
  numbers e (is_number n false is) = is_literal e n is
  numbers e (is_number n true is) = no_literal e (ap (λ w. literal (record { what = w; line = e.line })) is ∙ literal-unsigned e.line n)
  numbers e (is_name text is) = no_literal e (ap (λ w. literal (record { what = w; line = e.line })) is ∙ literal-name e.line text)
  numbers e (is_index a b is oka okb) = no_literal e (ap (λ w. literal (record { what = w; line = e.line })) is ∙ literal-index e.line a b)
  numbers e (is_unary o a is oka) = no_literal e (ap (λ w. literal (record { what = w; line = e.line })) is ∙ literal-unary e.line o a)
  numbers e (is_binary o a b is oka okb) = no_literal e (ap (λ w. literal (record { what = w; line = e.line })) is ∙ literal-binary e.line o a b)
  numbers e (is_applied text es is oks) = no_literal e (ap (λ w. literal (record { what = w; line = e.line })) is ∙ literal-call e.line text es)

  pub literal_value : (e : Expr) → IsNumber e
  literal_value = expr_induction IsNumber numbers

-- what the turns of a multidependency that is unrolled are
pub record Literals (t : Turns) (p : ℕ × ℕ) : Type 0 where
  pub signed : is_signed t.variable.kind ≡ true
  pub first : Expr
  pub first_is : t.variable.first ≡ Some first
  pub low : literal first ≡ Some p.0
  pub count : literal t.count ≡ Some p.1
  pub few : are_few p.0 p.1 ≡ true

pub literals : (t : Turns) (p : ℕ × ℕ) → literal_turns t ≡ Some p → Literals t p
literals t p h = by_kind (is_signed t.variable.kind) refl h
  where
    by_few : (l n : ℕ) (first : Expr) → is_signed t.variable.kind ≡ true → t.variable.first ≡ Some first → literal first ≡ Some l → literal t.count ≡ Some n
        → (b : Bool) → are_few l n ≡ b → few_turns b l n ≡ Some p → Literals t p
    by_few l n first s f low count true few e =
        let same : (l, n) ≡ p = ap (λ o. value_or o (l, n)) e in record {
          signed = s;
          first = first;
          first_is = f;
          low = low ∙ ap (λ q. Some q.0) same;
          count = count ∙ ap (λ q. Some q.1) same;
          few = subst (λ q. are_few q.0 q.1 ≡ true) same few;
        }
    by_few l n first s f low count false few e = absurd (subst IsSomething (sym e) tt)

    by_numbers : (first : Expr) → is_signed t.variable.kind ≡ true → t.variable.first ≡ Some first → (a b : Option ℕ) → literal first ≡ a → literal t.count ≡ b → both_literals a b ≡ Some p → Literals t p
    by_numbers first s f (Some l) (Some n) low count e = by_few l n first s f low count (are_few l n) refl e
    by_numbers first s f (Some l) None low count e = absurd (subst IsSomething (sym e) tt)
    by_numbers first s f None (Some n) low count e = absurd (subst IsSomething (sym e) tt)
    by_numbers first s f None None low count e = absurd (subst IsSomething (sym e) tt)

    by_count : (b : Option ℕ) → literal t.count ≡ b → both_literals None b ≡ Some p → Literals t p
    by_count (Some n) count e = absurd (subst IsSomething (sym e) tt)
    by_count None count e = absurd (subst IsSomething (sym e) tt)

    by_first : is_signed t.variable.kind ≡ true → (x : Option Expr) → t.variable.first ≡ x → both_literals (first_literal x) (literal t.count) ≡ Some p → Literals t p
    by_first s None f e = by_count (literal t.count) refl e
    by_first s (Some first) f e = by_numbers first s f (literal first) (literal t.count) refl refl e

    by_kind : (b : Bool) → is_signed t.variable.kind ≡ b → (if b then both_literals (first_literal t.variable.first) (literal t.count) else None) ≡ Some p → Literals t p
    by_kind true s e = by_first s t.variable.first refl e
    by_kind false s e = absurd (subst IsSomething (sym e) tt)

pub fits : (l n : ℕ) → are_few l n ≡ true → nat_le n most_turns ≡ true
fits l n e = by (nat_le 1 n) (nat_le n most_turns) (nat_le (l + n) 9223372036854775807) e
  where
    IsYes : Bool → Type 0
    IsYes true = Unit {0}
    IsYes false = ⊥

    by : (a b c : Bool) → (a && (b && c)) ≡ true → b ≡ true
    by true true c e = refl
    by true false c e = absurd (subst IsYes (sym e) tt)
    by false true c e = refl
    by false false c e = absurd (subst IsYes (sym e) tt)

pub stays : (l n : ℕ) → are_few l n ≡ true → l + n < 2 ^ 64
stays l n e =
    let third : nat_le (l + n) 9223372036854775807 ≡ true = by (nat_le 1 n) (nat_le n most_turns) (nat_le (l + n) 9223372036854775807) e in
    let few : l + n ≤ 9223372036854775807 = grind (arith, nat_tests) in
    omega (arith, few)
  where
    IsYes : Bool → Type 0
    IsYes true = Unit {0}
    IsYes false = ⊥

    by : (a b c : Bool) → (a && (b && c)) ≡ true → c ≡ true
    by a b true e = refl
    by true true false e = absurd (subst IsYes (sym e) tt)
    by true false false e = absurd (subst IsYes (sym e) tt)
    by false b false e = absurd (subst IsYes (sym e) tt)

-- Sections

abbrev pub with_form : Section → Form → Section
with_form s x = record { base = s.base; form = x; line = s.line; base_line = s.base_line }

module _ (chosen : Section → Bool) (all : List Item) (scope : List Local) (line : ℕ) (here : Here) (locals : List Value) (size : length locals ≡ length scope) where
  module _ (d : Declared) (s : Section) (rest : List Section) (made : List Access) (go : List Access → TreeRun) (steady : IsSteady go) where
    abbrev now : List Section → TreeRun
    now sections = sections_run all scope d sections line here locals made go

    abbrev onward : List ℕ → TreeRun
    onward cells = sections_run all scope d rest line here locals (made ++ declared_on d (ranges_of cells)) go

    many_is : (e : Expr) (f : Option Expr) (t : Turns) (p : ℕ × ℕ) → Literals t p → now (with_form s (form.Many e f t) ∷ rest) ≡ now (turn_sections s e f t.variable.name p.0 p.1 ++ rest)
    many_is e f t p is =
        let base = base_of (extents_of all) (found all scope s.base) locals in
        let turned : ℕ → ℕ → TreeRun = λ l n. if nat_le n most_turns then turns_run all scope base e f t.variable line here locals n l [] onward else unless_fault (Err fault.OutOfRange) line onward in
        let counted : Value → TreeRun = λ l. (sense_of all scope t.count).value line here locals (λ n. turned (number_in l) (number_in n)) in
        ap (λ (x : Option Expr). optional_value all scope x line here locals counted) is.first_is
        ∙ literal_value all scope is.first p.0 is.low line here locals counted
        ∙ literal_value all scope t.count p.1 is.count line here locals (λ n. turned p.0 (number_in n))
        ∙ ap (λ (b : Bool). if b then turns_run all scope base e f t.variable line here locals p.1 p.0 [] onward else unless_fault (Err fault.OutOfRange) line onward) (fits p.0 p.1 is.few)
        ∙ turns_are all scope t.variable is.signed s e line here locals size f d rest go steady p.1 p.0 made made [] (stays p.0 p.1 is.few) (ap singles (append-nil made))

    written_is : (e : Expr) (f : Option Expr) (t : Turns) → s.form ≡ form.Many e f t → (o : Option (ℕ × ℕ)) → literal_turns t ≡ o → now (s ∷ rest) ≡ now (written_turns s e f t.variable.name o ++ rest)
    written_is e f t is None h = refl
    written_is e f t is (Some p) h = ap (λ x. now (with_form s x ∷ rest)) is ∙ many_is e f t p (literals t p h)

    choice_is : (e : Expr) (f : Option Expr) (t : Turns) → s.form ≡ form.Many e f t → (b : Bool) → now (s ∷ rest) ≡ now ((if b then written_turns s e f t.variable.name (literal_turns t) else s ∷ []) ++ rest)
    choice_is e f t is true = written_is e f t is (literal_turns t) refl
    choice_is e f t is false = refl

    form_is : (x : Form) → s.form ≡ x → now (s ∷ rest) ≡ now (unrolled_form chosen s x ++ rest)
    form_is (form.Many e f t) is = choice_is e f t is (chosen s)
    form_is form.Whole is = refl
    form_is form.Deref is = refl
    form_is (form.Shape n) is = refl
    form_is (form.Element e) is = refl
    form_is (form.Length l n) is = refl
    form_is (form.Span l u) is = refl
    form_is (form.Grid rows columns) is = refl

  -- behind sections that stay
  behind_is : (d : Declared) (front xs ys : List Section) (go : List Access → TreeRun)
      → ((made : List Access) → sections_run all scope d xs line here locals made go ≡ sections_run all scope d ys line here locals made go)
      → (made : List Access) → sections_run all scope d (front ++ xs) line here locals made go ≡ sections_run all scope d (front ++ ys) line here locals made go
  behind_is d [] xs ys go same made = same made
  behind_is d (s ∷ front) xs ys go same made =
      ap (λ (g : List ℕ → TreeRun). section_run all scope s line here locals g) (λ i. λ cells. behind_is d front xs ys go same (made ++ declared_on d (ranges_of cells)) i)

  pub sections_are : (d : Declared) (sections : List Section) (go : List Access → TreeRun) → IsSteady go → (made : List Access)
      → sections_run all scope d sections line here locals made go ≡ sections_run all scope d (unrolled_sections chosen sections) line here locals made go
  sections_are d [] go steady made = refl
  sections_are d (s ∷ rest) go steady made =
      form_is d s rest made go steady s.form refl ∙ behind_is d (unrolled_form chosen s s.form) rest (unrolled_sections chosen rest) go (λ other. sections_are d rest go steady other) made

  -- Clauses

  clause_is : (c : Clause) (made : Made) (go : Made → TreeRun) → IsSteadyMade go → clause_run all scope c line here locals made go ≡ clause_run all scope (unrolled_clause chosen c) line here locals made go
  clause_is (clause.Depend mode strong fresh sections) made go steady =
      sections_are (record { mode = mode; strong = strong; fresh = fresh }) sections (λ accesses. go (record made { accesses = accesses })) (λ a b e. steady made a b e) made.accesses
  clause_is (clause.If e) made go steady = refl
  clause_is (clause.Final e) made go steady = refl
  clause_is clause.Wait made go steady = refl
  clause_is (clause.Label text) made go steady = refl
  clause_is (clause.Priority e) made go steady = refl
  clause_is (clause.Grain e) made go steady = refl

  abbrev with_accesses : Made → List Access → Made
  with_accesses m xs = record m { accesses = xs }

  clause_steady : (c : Clause) (go : Made → TreeRun) → IsSteadyMade go → IsSteadyMade (λ made. clause_run all scope c line here locals made go)
  clause_steady (clause.Depend mode strong fresh sections) go steady m a b e =
      steady_behind all scope (record { mode = mode; strong = strong; fresh = fresh }) sections line here locals (λ accesses. go (with_accesses m accesses)) (λ x y h. steady m x y h) a b e
  clause_steady (clause.If c) go steady m a b e = ap (λ (g : Value → TreeRun). clause_value all scope c line here locals g) (λ i. λ v. steady (record m { when = holds v }) a b e i)
  clause_steady (clause.Final c) go steady m a b e = ap (λ (g : Value → TreeRun). clause_value all scope c line here locals g) (λ i. λ v. steady (record m { last = holds v }) a b e i)
  clause_steady clause.Wait go steady m a b e = steady (record m { wait = true }) a b e
  clause_steady (clause.Label text) go steady m a b e = steady m a b e
  clause_steady (clause.Priority c) go steady m a b e = ap (λ (g : Value → TreeRun). clause_value all scope c line here locals g) (λ i. λ v. steady (record m { priority = signed (number_in v) }) a b e i)
  clause_steady (clause.Grain c) go steady m a b e = steady m a b e

  clauses_steady : (cs : List Clause) (go : Made → TreeRun) → IsSteadyMade go → IsSteadyMade (λ made. clauses_run all scope cs line here locals made go)
  clauses_steady [] go steady = steady
  clauses_steady (c ∷ rest) go steady = clause_steady c (λ more. clauses_run all scope rest line here locals more go) (clauses_steady rest go steady)

  clause_on : (c : Clause) (f g : Made → TreeRun) → ((m : Made) → f m ≡ g m) → (made : Made) → clause_run all scope c line here locals made f ≡ clause_run all scope c line here locals made g
  clause_on c f g same made = ap (λ (h : Made → TreeRun). clause_run all scope c line here locals made h) (λ i. λ m. same m i)

  pub clauses_are : (cs : List Clause) (made : Made) (go : Made → TreeRun) → IsSteadyMade go → clauses_run all scope cs line here locals made go ≡ clauses_run all scope (unrolled_clauses chosen cs) line here locals made go
  clauses_are [] made go steady = refl
  clauses_are (c ∷ rest) made go steady =
      clause_is c made (λ more. clauses_run all scope rest line here locals more go) (clauses_steady rest go steady)
      ∙ clause_on (unrolled_clause chosen c) (λ more. clauses_run all scope rest line here locals more go) (λ more. clauses_run all scope (unrolled_clauses chosen rest) line here locals more go) (λ more. clauses_are rest more go steady) made

pub unrolled_sections_mean_the_same : UnrolledSectionsMeanTheSame
unrolled_sections_mean_the_same chosen all scope d sections line here locals made go size steady = sections_are chosen all scope line here locals size d sections go steady made

pub unrolled_clauses_mean_the_same : UnrolledClausesMeanTheSame
unrolled_clauses_mean_the_same chosen all scope clauses line here locals made go size steady = clauses_are chosen all scope line here locals size clauses made go steady
