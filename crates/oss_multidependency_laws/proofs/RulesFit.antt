-- Expressions, sections and clauses that break no static rule fit: each call in them has as many arguments as its function has parameters.
use Rattle.std.proofs.Common.{◌≡◌, ◌∙◌, ℕ, ◌+◌, Bool, true, false, List, [], ◌∷◌, ◌++◌, length, map, Option, Some, None, refl, sym, ap, subst, rules}
use Rattle.std.specs.Prelude.{◌&&◌, ◌==◌, if◌then◌else◌, nat_lt, not}
use Rattle.std.proofs.lemmas.List.{length-map}
use Rattle.oss_syntax.specs.declared.refusal.Refused.{Refused}
use Rattle.oss_syntax.specs.declared.refusal.RefusedKind.{RefusedKind}
use Rattle.oss_syntax.specs.declared.refusal.RefusedKind.TheVariants as refused
use Rattle.oss_syntax.specs.declared.tree.expr.Expr.{Expr}
use Rattle.oss_syntax.specs.declared.tree.expr.ExprKind.TheFolds.{the_lemmas as expr_folds}
use Rattle.oss_syntax.specs.declared.tree.expr.ExprKind.TheVariants as exprs
use Rattle.oss_syntax.specs.declared.tree.expr.UnOp.{UnOp}
use Rattle.oss_syntax.specs.declared.tree.expr.UnOp.TheVariants as prefix
use Rattle.oss_syntax.specs.declared.tree.pragma.Clause.{Clause}
use Rattle.oss_syntax.specs.declared.tree.pragma.Clause.TheVariants as clause
use Rattle.oss_syntax.specs.declared.tree.pragma.Form.{Form}
use Rattle.oss_syntax.specs.declared.tree.pragma.Form.TheVariants as form
use Rattle.oss_syntax.specs.declared.tree.pragma.Inner.{Inner}
use Rattle.oss_syntax.specs.declared.tree.pragma.Inner.TheVariants as inner
use Rattle.oss_syntax.specs.declared.tree.pragma.Section.{Section}
use Rattle.oss_syntax.specs.declared.tree.program.Function.{Function}
use Rattle.oss_syntax.specs.declared.tree.program.Item.{Item}
use Rattle.oss_syntax.specs.declared.tree.program.Item.TheVariants as items
use Rattle.oss_syntax.specs.declared.tree.program.Kind.{Kind}
use Rattle.oss_syntax.specs.declared.tree.program.Local.{Local}
use Rattle.oss_syntax.specs.declared.tree.program.NumKind.{NumKind}
use Rattle.oss_grammar.specs.declared.kinds.Wanted.{Wanted}
use Rattle.oss_grammar.specs.declared.kinds.Wanted.TheVariants as wanted
use Rattle.oss_grammar.specs.Broken.{broken, insert, rank, where_so}
use Rattle.oss_grammar.specs.ExpressionRules.{argument_rules, argument_wanted, call_rules, findings, parameters_behind, parameters_of, value_rules}
use Rattle.oss_grammar.specs.Kinds.{Findings, all_of, allows, has_address, left_wanted, placed, unary_findings, unless}
use Rattle.oss_grammar.specs.Scopes.{as_function, function_named, global_meaning, hides, item_meaning, item_named, local_kind, meaning}
use Rattle.oss_grammar.specs.SectionRules.{clause_rules, clauses_rules, form_rules, inner_rules, is_fold, loop_clauses_rules, optional_rules, section_rules, sections_in, sections_rules}
use Rattle.oss_grammar.specs.TaskLoops.{grain_of, task_clauses}
use Rattle.oss_grammar.proofs.RuleEquations.{found-binary, found-call, found-index, found-unary}
use Rattle.oss_grammar.proofs.TreeInduction.{Each, ExprParts, expr_induction}
use Rattle.oss_grammar.proofs.TreeInduction.Each.{each_none, each_more}
use Rattle.oss_grammar.proofs.TreeInduction.ExprParts.{is_number, is_name, is_index, is_unary, is_binary, is_applied}
use Rattle.oss_meaning.specs.Names.{item_found}
use Rattle.oss_meaning.specs.Sections.{inner_operands, optional}
use Rattle.oss_multidependency_laws.specs.Fitting.{all_fit, all_hold, clause_fits, clauses_fit, fits, form_fits, optional_fits, sections_fit, takes}
use Rattle.oss_multidependency_laws.proofs.AlikeExpressions.{and_left, and_right, fits-binary, fits-call, fits-index, fits-unary}

-- Lists without rules

pub nil_left : (xs ys : List Refused) → xs ++ ys ≡ [] → xs ≡ []
nil_left [] ys e = refl
nil_left (x ∷ xs) ys e = absurd (cc)

pub nil_right : (xs ys : List Refused) → xs ++ ys ≡ [] → ys ≡ []
nil_right [] ys e = e
nil_right (x ∷ xs) ys e = absurd (cc)

pub not_so : (b : Bool) (kind : RefusedKind) (line : ℕ) → where_so b kind line ≡ [] → b ≡ false
not_so false kind line e = refl
not_so true kind line e = absurd (cc)

pub so_it_is : (b : Bool) → not b ≡ false → b ≡ true
so_it_is true e = refl
so_it_is false e = absurd (cc)

pub and_both : (a b : Bool) → a ≡ true → b ≡ true → (a && b) ≡ true
and_both true b e f = f
and_both false b e f = absurd (cc)

inserted : (b : Refused) (xs : List Refused) → insert b xs ≡ [] → ⊥
inserted b [] e = cc
inserted b (c ∷ rest) e = by (nat_lt (rank b.kind) (rank c.kind)) e
  where
    by : (t : Bool) → (if t then b ∷ c ∷ rest else c ∷ insert b rest) ≡ [] → ⊥
    by true e = cc
    by false e = cc

pub unless_none : (b : Bool) (f : Findings) → all_of (unless b f) ≡ [] → all_of f ≡ []
unless_none true f e = e
unless_none false f e = absurd (inserted (broken refused.WrongKind f.line) f.at_first (nil_left (insert (broken refused.WrongKind f.line) f.at_first) f.behind e))

pub placed_none : (w : Wanted) (f : Findings) → all_of (placed w f) ≡ [] → all_of f ≡ []
placed_none w f e = unless_none (allows w f.kind) f e

-- two parts of which the first rules of one stand in front
first_none : (a e : Findings) → a.at_first ++ (a.behind ++ all_of e) ≡ [] → all_of a ≡ []
first_none a e h =
    let one = nil_left a.at_first (a.behind ++ all_of e) h in
    let other = nil_left a.behind (all_of e) (nil_right a.at_first (a.behind ++ all_of e) h) in
    ap (λ xs. xs ++ a.behind) one ∙ other

second_none : (a e : Findings) → a.at_first ++ (a.behind ++ all_of e) ≡ [] → all_of e ≡ []
second_none a e h = nil_right a.behind (all_of e) (nil_right a.at_first (a.behind ++ all_of e) h)

unary_none : (line : ℕ) (o : UnOp) (e : Findings) → all_of (unary_findings line o e) ≡ [] → all_of e ≡ []
unary_none line prefix.Minus e h = placed_none wanted.Number e h
unary_none line prefix.Plus e h = placed_none wanted.Number e h
unary_none line prefix.Not e h = placed_none wanted.Number e h
unary_none line prefix.Invert e h = placed_none wanted.Number e h
unary_none line prefix.Deref e h = placed_none wanted.Pointer e h
unary_none line prefix.Address e h = unless_none (has_address e.kind e.object) e h

module _ (other : List Item) (line : ℕ) where
  pub fits-number : (n : ℕ) (u : Bool) → fits other (record { what = exprs.Number n u; line = line }) ≡ true
  fits-number n u = search (rules, expr_folds)

  pub fits-name : (text : List ℕ) → fits other (record { what = exprs.Name text; line = line }) ≡ true
  fits-name text = search (rules, expr_folds)

-- The rules are those of one program, and calls are to fit in one whose functions of these names have as many parameters.
module _ (all other : List Item)
    (same : (name : List ℕ) (f : Function) → item_named all name ≡ Some (items.Function f) → (n : ℕ) → (n == length f.params) ≡ true → takes other (item_found other name) n ≡ true) where
  -- a call has as many arguments as its function has parameters
  pub call_fits : (locals : List Local) (name : List ℕ) (line : ℕ) (alone : Bool) (n : ℕ) → call_rules (meaning all locals name) (function_named all name) line alone n ≡ [] → takes other (item_found other name) n ≡ true
  call_fits locals name line alone n e = by (local_kind locals name) (item_named all name) refl e
    where
      global_none : (cells columns : Option ℕ) (k : NumKind) (f : Option Function) → call_rules (global_meaning cells columns k) f line alone n ≡ [] → ⊥
      global_none None columns k f e = cc
      global_none (Some c) None k f e = cc
      global_none (Some c) (Some m) k f e = cc

      by : (k : Option Kind) (i : Option Item) → item_named all name ≡ i → call_rules (hides k (item_meaning i)) (as_function i) line alone n ≡ [] → takes other (item_found other name) n ≡ true
      by (Some k) i is e = absurd (cc)
      by None None is e = absurd (cc)
      by None (Some (items.Global g)) is e = absurd (global_none g.cells g.columns g.kind None e)
      by None (Some (items.Function f)) is e =
          same name f is n (so_it_is (n == length f.params) (not_so (not (n == length f.params)) refused.WrongCount line (nil_right _ (where_so (not (n == length f.params)) refused.WrongCount line) e)))

  -- Expressions

  abbrev IsFit : Expr → Type 0
  IsFit e = (locals : List Local) → all_of (findings all locals e) ≡ [] → fits other e ≡ true

  each_fits : {es : List Expr} → Each IsFit es → (locals params : List Local) → argument_rules params (map (findings all locals) es) ≡ [] → all_fit other es ≡ true
  each_fits each_none locals params e = refl
  each_fits (each_more {x} {xs} ok oks) locals params e =
      and_both (fits other x) (all_fit other xs)
      (ok locals (placed_none (argument_wanted params) (findings all locals x) (nil_left (all_of (placed (argument_wanted params) (findings all locals x))) (argument_rules (parameters_behind params) (map (findings all locals) xs)) e)))
      (each_fits oks locals (parameters_behind params) (nil_right (all_of (placed (argument_wanted params) (findings all locals x))) (argument_rules (parameters_behind params) (map (findings all locals) xs)) e))

  step : (e : Expr) → ExprParts IsFit e.what → IsFit e
  step e (is_number n u is) locals h = ap (λ w. fits other (record { what = w; line = e.line })) is ∙ fits-number other e.line n u
  step e (is_name text is) locals h = ap (λ w. fits other (record { what = w; line = e.line })) is ∙ fits-name other e.line text
  step e (is_index a b is oka okb) locals h =
      let none = sym (ap all_of (found-index all locals e a b is)) ∙ h in
      let left = placed_none wanted.Indexed (findings all locals a) (first_none (placed wanted.Indexed (findings all locals a)) (placed wanted.Number (findings all locals b)) none) in
      let right = placed_none wanted.Number (findings all locals b) (second_none (placed wanted.Indexed (findings all locals a)) (placed wanted.Number (findings all locals b)) none) in
      ap (λ w. fits other (record { what = w; line = e.line })) is ∙ fits-index other e.line a b ∙ and_both (fits other a) (fits other b) (oka locals left) (okb locals right)
  step e (is_unary o a is oka) locals h =
      ap (λ w. fits other (record { what = w; line = e.line })) is ∙ fits-unary other e.line o a
      ∙ oka locals (unary_none e.line o (findings all locals a) (sym (ap all_of (found-unary all locals e o a is)) ∙ h))
  step e (is_binary o a b is oka okb) locals h =
      let none = sym (ap all_of (found-binary all locals e o a b is)) ∙ h in
      let left = placed_none (left_wanted o) (findings all locals a) (first_none (placed (left_wanted o) (findings all locals a)) (placed wanted.Number (findings all locals b)) none) in
      let right = placed_none wanted.Number (findings all locals b) (second_none (placed (left_wanted o) (findings all locals a)) (placed wanted.Number (findings all locals b)) none) in
      ap (λ w. fits other (record { what = w; line = e.line })) is ∙ fits-binary other e.line o a b ∙ and_both (fits other a) (fits other b) (oka locals left) (okb locals right)
  step e (is_applied text es is oks) locals h =
      let none = sym (ap all_of (found-call all locals e text es is)) ∙ h in
      let front = call_rules (meaning all locals text) (function_named all text) e.line false (length (map (findings all locals) es)) in
      let back = argument_rules (parameters_of (meaning all locals text) (function_named all text)) (map (findings all locals) es) in
      let few : length (map (findings all locals) es) ≡ length (map (fits other) es) = length-map es (findings all locals) ∙ sym (length-map es (fits other)) in
      ap (λ w. fits other (record { what = w; line = e.line })) is ∙ fits-call other e.line text es
      ∙ and_both (all_hold (map (fits other) es)) (takes other (item_found other text) (length (map (fits other) es)))
      (each_fits oks locals (parameters_of (meaning all locals text) (function_named all text)) (nil_right front back none))
      (subst (λ n. takes other (item_found other text) n ≡ true) few (call_fits locals text e.line false (length (map (findings all locals) es)) (nil_left front back none)))

  pub expr_fits : (e : Expr) → IsFit e
  expr_fits = expr_induction IsFit step

  pub value_fits : (locals : List Local) (w : Wanted) (e : Expr) → value_rules all locals w e ≡ [] → fits other e ≡ true
  value_fits locals w e h = expr_fits e locals (placed_none w (findings all locals e) h)

  pub arguments_fit : (locals params : List Local) (es : List Expr) → argument_rules params (map (findings all locals) es) ≡ [] → all_fit other es ≡ true
  arguments_fit locals params [] h = refl
  arguments_fit locals params (x ∷ xs) h =
      and_both (fits other x) (all_fit other xs)
      (value_fits locals (argument_wanted params) x (nil_left (all_of (placed (argument_wanted params) (findings all locals x))) (argument_rules (parameters_behind params) (map (findings all locals) xs)) h))
      (arguments_fit locals (parameters_behind params) xs (nil_right (all_of (placed (argument_wanted params) (findings all locals x))) (argument_rules (parameters_behind params) (map (findings all locals) xs)) h))

  pub optional_fit : (locals : List Local) (o : Option Expr) → optional_rules all locals o ≡ [] → optional_fits other o ≡ true
  optional_fit locals None h = refl
  optional_fit locals (Some e) h = value_fits locals wanted.Number e h

  -- Sections

  append_fits : (xs ys : List Expr) → all_fit other xs ≡ true → all_fit other ys ≡ true → all_fit other (xs ++ ys) ≡ true
  append_fits [] ys e f = f
  append_fits (x ∷ xs) ys e f = and_both (fits other x) (all_fit other (xs ++ ys)) (and_left (fits other x) (all_fit other xs) e) (append_fits xs ys (and_right (fits other x) (all_fit other xs) e) f)

  one_fits : (e : Expr) → fits other e ≡ true → all_fit other (e ∷ []) ≡ true
  one_fits e h = and_both (fits other e) true h refl

  two_fit : (a b : Expr) → fits other a ≡ true → fits other b ≡ true → all_fit other (a ∷ b ∷ []) ≡ true
  two_fit a b h k = and_both (fits other a) (all_fit other (b ∷ [])) h (one_fits b k)

  optional_list : (o : Option Expr) → optional_fits other o ≡ true → all_fit other (optional o) ≡ true
  optional_list None h = refl
  optional_list (Some e) h = one_fits e h

  inner_fits : (locals : List Local) (x : Inner) → inner_rules all locals x ≡ [] → all_fit other (inner_operands x) ≡ true
  inner_fits locals (inner.Element e) h = one_fits e (value_fits locals wanted.Number e h)
  inner_fits locals (inner.Length e n) h =
      two_fit e n (value_fits locals wanted.Number e (nil_left (value_rules all locals wanted.Number e) (value_rules all locals wanted.Number n) h)) (value_fits locals wanted.Number n (nil_right (value_rules all locals wanted.Number e) (value_rules all locals wanted.Number n) h))
  inner_fits locals (inner.Span l u) h =
      append_fits (optional l) (optional u) (optional_list l (optional_fit locals l (nil_left (optional_rules all locals l) (optional_rules all locals u) h))) (optional_list u (optional_fit locals u (nil_right (optional_rules all locals l) (optional_rules all locals u) h)))

  form_fit : (locals : List Local) (x : Form) → form_rules all locals x ≡ [] → form_fits other x ≡ true
  form_fit locals form.Whole h = refl
  form_fit locals form.Deref h = refl
  form_fit locals (form.Shape n) h = one_fits n (value_fits locals wanted.Number n h)
  form_fit locals (form.Element e) h = one_fits e (value_fits locals wanted.Number e h)
  form_fit locals (form.Length e n) h = inner_fits locals (inner.Length e n) h
  form_fit locals (form.Span l u) h = inner_fits locals (inner.Span l u) h
  form_fit locals (form.Grid rows columns) h =
      append_fits (inner_operands rows) (inner_operands columns) (inner_fits locals rows (nil_left (inner_rules all locals rows) (inner_rules all locals columns) h)) (inner_fits locals columns (nil_right (inner_rules all locals rows) (inner_rules all locals columns) h))
  form_fit locals (form.Many e f t) h =
      let inside = locals ++ t.variable ∷ [] in
      let behind_e = nil_right (value_rules all inside wanted.Number e) _ h in
      let behind_f = nil_right (optional_rules all inside f) _ behind_e in
      let behind_limit = nil_right (where_so _ refused.TooLarge t.variable.line) _ behind_f in
      and_both (fits other e) _ (value_fits inside wanted.Number e (nil_left (value_rules all inside wanted.Number e) _ h))
      (and_both (optional_fits other f) _ (optional_fit inside f (nil_left (optional_rules all inside f) _ behind_e))
      (and_both (optional_fits other t.variable.first) (fits other t.count) (optional_fit locals t.variable.first (nil_left (optional_rules all locals t.variable.first) (value_rules all locals wanted.Number t.count) behind_limit))
      (value_fits locals wanted.Number t.count (nil_right (optional_rules all locals t.variable.first) (value_rules all locals wanted.Number t.count) behind_limit))))

  section_fits : (locals : List Local) (fold : Bool) (before : ℕ) (s : Section) → section_rules all locals fold before s ≡ [] → form_fits other s.form ≡ true
  section_fits locals fold before s h =
      form_fit locals s.form (nil_left (form_rules all locals s.form) _ (nil_right (where_so _ refused.UnknownName s.base_line) _ (nil_right (where_so _ refused.TooLarge s.line) _
      (nil_right (where_so _ refused.WrongKind s.line) _ (nil_right (where_so _ refused.UnknownName s.line) _ h)))))

  pub sections_fits : (locals : List Local) (fold : Bool) (before : ℕ) (ss : List Section) → sections_rules all locals fold before ss ≡ [] → sections_fit other ss ≡ true
  sections_fits locals fold before [] h = refl
  sections_fits locals fold before (s ∷ rest) h =
      and_both (form_fits other s.form) (sections_fit other rest) (section_fits locals fold before s (nil_left (section_rules all locals fold before s) (sections_rules all locals fold (before + 1) rest) h))
      (sections_fits locals fold (before + 1) rest (nil_right (section_rules all locals fold before s) (sections_rules all locals fold (before + 1) rest) h))

  -- Clauses

  clause_fit : (locals : List Local) (before : ℕ) (c : Clause) → clause_rules all locals before c ≡ [] → clause_fits other c ≡ true
  clause_fit locals before (clause.Depend m strong fresh sections) h = sections_fits locals (is_fold m) before sections h
  clause_fit locals before (clause.If e) h = value_fits locals wanted.Number e h
  clause_fit locals before (clause.Final e) h = value_fits locals wanted.Number e h
  clause_fit locals before clause.Wait h = refl
  clause_fit locals before (clause.Label name) h = refl
  clause_fit locals before (clause.Priority e) h = value_fits locals wanted.Number e h
  clause_fit locals before (clause.Grain e) h = refl

  pub clauses_fits : (locals : List Local) (before : ℕ) (cs : List Clause) → clauses_rules all locals before cs ≡ [] → clauses_fit other cs ≡ true
  clauses_fits locals before [] h = refl
  clauses_fits locals before (c ∷ rest) h =
      and_both (clause_fits other c) (clauses_fit other rest) (clause_fit locals before c (nil_left (clause_rules all locals before c) (clauses_rules all locals (before + length (sections_in c)) rest) h))
      (clauses_fits locals (before + length (sections_in c)) rest (nil_right (clause_rules all locals before c) (clauses_rules all locals (before + length (sections_in c)) rest) h))

  -- the clauses of each task of a task loop, and how many turns it makes
  pub loop_fits : (outer locals : List Local) (before : ℕ) (cs : List Clause) → loop_clauses_rules all outer locals before cs ≡ [] → clauses_fit other (task_clauses cs) ≡ true
  loop_fits outer locals before [] h = refl
  loop_fits outer locals before (clause.Grain e ∷ rest) h = loop_fits outer locals (before + 0) rest (nil_right (value_rules all outer wanted.Number e) _ h)
  loop_fits outer locals before (clause.Depend m strong fresh sections ∷ rest) h =
      and_both (sections_fit other sections) (clauses_fit other (task_clauses rest)) (sections_fits locals (is_fold m) before sections (nil_left (sections_rules all locals (is_fold m) before sections) _ h))
      (loop_fits outer locals (before + length sections) rest (nil_right (sections_rules all locals (is_fold m) before sections) _ h))
  loop_fits outer locals before (clause.If e ∷ rest) h =
      and_both (fits other e) (clauses_fit other (task_clauses rest)) (value_fits locals wanted.Number e (nil_left (value_rules all locals wanted.Number e) _ h)) (loop_fits outer locals (before + 0) rest (nil_right (value_rules all locals wanted.Number e) _ h))
  loop_fits outer locals before (clause.Final e ∷ rest) h =
      and_both (fits other e) (clauses_fit other (task_clauses rest)) (value_fits locals wanted.Number e (nil_left (value_rules all locals wanted.Number e) _ h)) (loop_fits outer locals (before + 0) rest (nil_right (value_rules all locals wanted.Number e) _ h))
  loop_fits outer locals before (clause.Wait ∷ rest) h = loop_fits outer locals (before + 0) rest h
  loop_fits outer locals before (clause.Label name ∷ rest) h = loop_fits outer locals (before + 0) rest h
  loop_fits outer locals before (clause.Priority e ∷ rest) h =
      and_both (fits other e) (clauses_fit other (task_clauses rest)) (value_fits locals wanted.Number e (nil_left (value_rules all locals wanted.Number e) _ h)) (loop_fits outer locals (before + 0) rest (nil_right (value_rules all locals wanted.Number e) _ h))

  pub grain_fits : (outer locals : List Local) (line before : ℕ) (cs : List Clause) → loop_clauses_rules all outer locals before cs ≡ [] → fits other (grain_of line cs) ≡ true
  grain_fits outer locals line before [] h = fits-number other line 1 false
  grain_fits outer locals line before (clause.Grain e ∷ rest) h = value_fits outer wanted.Number e (nil_left (value_rules all outer wanted.Number e) _ h)
  grain_fits outer locals line before (clause.Depend m strong fresh sections ∷ rest) h =
      grain_fits outer locals line (before + length sections) rest (nil_right (sections_rules all locals (is_fold m) before sections) _ h)
  grain_fits outer locals line before (clause.If e ∷ rest) h = grain_fits outer locals line (before + 0) rest (nil_right (value_rules all locals wanted.Number e) _ h)
  grain_fits outer locals line before (clause.Final e ∷ rest) h = grain_fits outer locals line (before + 0) rest (nil_right (value_rules all locals wanted.Number e) _ h)
  grain_fits outer locals line before (clause.Wait ∷ rest) h = grain_fits outer locals line (before + 0) rest h
  grain_fits outer locals line before (clause.Label name ∷ rest) h = grain_fits outer locals line (before + 0) rest h
  grain_fits outer locals line before (clause.Priority e ∷ rest) h = grain_fits outer locals line (before + 0) rest (nil_right (value_rules all locals wanted.Number e) _ h)
