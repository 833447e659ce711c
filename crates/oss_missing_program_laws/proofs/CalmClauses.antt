-- Sections, clauses and creations go on calmly; dependency clauses that are no reductions give accesses that are none.
use Rattle.std.proofs.Common.{◌≡◌, ℕ, zero, suc, Bool, true, false, List, [], ◌∷◌, ◌++◌, map, reverse, Option, Some, None, refl, sym, subst}
use Rattle.std.specs.Prelude.{◌&&◌, nat_le, Err}
use Rattle.oss_syntax.specs.declared.access.Access.{Access}
use Rattle.oss_syntax.specs.declared.access.Mode.{Mode}
use Rattle.oss_syntax.specs.declared.access.Mode.TheVariants as mode
use Rattle.oss_syntax.specs.declared.access.Range.{Range}
use Rattle.oss_syntax.specs.declared.fault.FaultKind.TheVariants as fault
use Rattle.oss_syntax.specs.declared.tree.expr.Expr.{Expr}
use Rattle.oss_syntax.specs.declared.tree.pragma.Clause.{Clause}
use Rattle.oss_syntax.specs.declared.tree.pragma.Clause.TheVariants as clause
use Rattle.oss_syntax.specs.declared.tree.pragma.Form.TheVariants as form
use Rattle.oss_syntax.specs.declared.tree.pragma.Form.{Form}
use Rattle.oss_syntax.specs.declared.tree.pragma.Section.{Section}
use Rattle.oss_syntax.specs.declared.tree.pragma.Turns.{Turns}
use Rattle.oss_syntax.specs.declared.tree.program.Item.{Item}
use Rattle.oss_syntax.specs.declared.tree.program.Local.{Local}
use Rattle.oss_grammar.specs.SectionCells.{Base, most_turns, place_cells, section_cells, signed}
use Rattle.oss_grammar.specs.Values.{sum_of}
use Rattle.oss_model.specs.Bodies.Ask.{Create}
use Rattle.oss_meaning.specs.declared.clauses.Declared.{Declared}
use Rattle.oss_meaning.specs.declared.value.Value.{Value}
use Rattle.oss_meaning.specs.declared.value.Value.TheVariants as value
use Rattle.oss_meaning.specs.Clauses.{Made, clause_run, clauses_run, created, holds, nothing_made, order_of}
use Rattle.oss_meaning.specs.Expressions.{Here, TaskBody, TreeRun, sense_of, unless_fault}
use Rattle.oss_meaning.specs.Names.{found}
use Rattle.oss_meaning.specs.Pointers.{extents_of, number_in}
use Rattle.oss_meaning.specs.Runs.{asking}
use Rattle.oss_meaning.specs.Sections.{base_of, declared_on, extent_at, many_section, operands_in, optional_value, plain_section, ranges_of, second_index, section_run, sections_run, turn_cells, turns_run}
use Rattle.oss_missing_program_laws.specs.Asks.{are_dependencies, is_dependency, is_unfolded}
use Rattle.oss_missing_laws.specs.Programs.{AllUnfolded, IsUnfolded}
use Rattle.oss_missing_program_laws.proofs.CalmRuns.{Calm, Level, asking_calm, function_begins, if_calm, statement_begins, unless_calm}
use Rattle.oss_missing_program_laws.proofs.CalmRuns.Level.{in_function, in_statement, outside}
use Rattle.oss_missing_program_laws.proofs.CalmExpressions.{HereCalm, all_steady, arguments_calm, steady_sense}

-- Accesses that are none of a reduction

abbrev IsYes : Bool → Type 0
IsYes true = Unit {0}
IsYes false = ⊥

pub and_left : (a b : Bool) → (a && b) ≡ true → a ≡ true
and_left true b e = refl
and_left false b e = absurd (subst IsYes (sym e) tt)

pub and_right : (a b : Bool) → (a && b) ≡ true → b ≡ true
and_right true b e = e
and_right false b e = absurd (subst IsYes (sym e) tt)

unfolded_mode : (m : Mode) → is_unfolded m ≡ true → IsUnfolded m
unfolded_mode mode.Read e = tt
unfolded_mode mode.Write e = tt
unfolded_mode (mode.Fold o) e = absurd (subst IsYes (sym e) tt)

unfolded_append : (a b : List Access) → AllUnfolded a → AllUnfolded b → AllUnfolded (a ++ b)
unfolded_append [] b one other = other
unfolded_append (x ∷ a) b one other = (one.0, unfolded_append a b one.1 other)

unfolded_declared : (d : Declared) → IsUnfolded d.mode → (rs : List Range) → AllUnfolded (declared_on d rs)
unfolded_declared d fine [] = tt
unfolded_declared d fine (r ∷ rs) = (fine, unfolded_declared d fine rs)

module _ (W : Type 0) (l : Level) (all : List Item) where
  -- Expressions

  pub value_calm : (scope : List Local) (e : Expr) (line : ℕ) (x y z : Here) → HereCalm W l x y z → (locals : List Value) (go on more : Value → TreeRun)
      → ((v : Value) → Calm W l (go v) (on v) (more v))
      → Calm W l ((sense_of all scope e).value line x locals go) ((sense_of all scope e).value line y locals on) ((sense_of all scope e).value line z locals more)
  value_calm scope e line x y z h locals go on more ok = (steady_sense W l all scope e).value line x y z h locals go on more ok

  module _ (line : ℕ) (x y z : Here) (h : HereCalm W l x y z) where
    optional_calm : (scope : List Local) (o : Option Expr) (locals : List Value) (go on more : Value → TreeRun) → ((v : Value) → Calm W l (go v) (on v) (more v))
        → Calm W l (optional_value all scope o line x locals go) (optional_value all scope o line y locals on) (optional_value all scope o line z locals more)
    optional_calm scope None locals go on more ok = ok (value.Num 0)
    optional_calm scope (Some e) locals go on more ok = value_calm scope e line x y z h locals go on more ok

    second_calm : (scope : List Local) (o : Option Expr) (locals : List Value) (go on more : Option ℕ → TreeRun) → ((w : Option ℕ) → Calm W l (go w) (on w) (more w))
        → Calm W l (second_index all scope o line x locals go) (second_index all scope o line y locals on) (second_index all scope o line z locals more)
    second_calm scope None locals go on more ok = ok None
    second_calm scope (Some e) locals go on more ok =
        value_calm scope e line x y z h locals (λ w. go (Some (number_in w))) (λ w. on (Some (number_in w))) (λ w. more (Some (number_in w))) (λ w. ok (Some (number_in w)))

    -- Sections

    turn_calm : (scope : List Local) (base : Base) (e : Expr) (f : Option Expr) (locals : List Value) (go on more : List ℕ → TreeRun) → ((cells : List ℕ) → Calm W l (go cells) (on cells) (more cells))
        → Calm W l (turn_cells all scope base e f line x locals go) (turn_cells all scope base e f line y locals on) (turn_cells all scope base e f line z locals more)
    turn_calm scope base e f locals go on more ok =
        value_calm scope e line x y z h locals
        (λ v. second_index all scope f line x locals (λ w. unless_fault (place_cells base base.columns (number_in v, w)) line go))
        (λ v. second_index all scope f line y locals (λ w. unless_fault (place_cells base base.columns (number_in v, w)) line on))
        (λ v. second_index all scope f line z locals (λ w. unless_fault (place_cells base base.columns (number_in v, w)) line more))
        (λ v. second_calm scope f locals
        (λ w. unless_fault (place_cells base base.columns (number_in v, w)) line go) (λ w. unless_fault (place_cells base base.columns (number_in v, w)) line on)
        (λ w. unless_fault (place_cells base base.columns (number_in v, w)) line more)
        (λ w. unless_calm W l (place_cells base base.columns (number_in v, w)) line go on more ok))

    turns_calm : (scope : List Local) (base : Base) (e : Expr) (f : Option Expr) (v : Local) (locals : List Value) (go on more : List ℕ → TreeRun)
        → ((cells : List ℕ) → Calm W l (go cells) (on cells) (more cells)) → (n from : ℕ) (cells : List ℕ)
        → Calm W l (turns_run all scope base e f v line x locals n from cells go) (turns_run all scope base e f v line y locals n from cells on) (turns_run all scope base e f v line z locals n from cells more)
    turns_calm scope base e f v locals go on more ok zero from cells = ok cells
    turns_calm scope base e f v locals go on more ok (suc n) from cells =
        turn_calm (scope ++ v ∷ []) base e f (locals ++ value.Num from ∷ [])
        (λ some. turns_run all scope base e f v line x locals n (sum_of from 1) (cells ++ some) go)
        (λ some. turns_run all scope base e f v line y locals n (sum_of from 1) (cells ++ some) on)
        (λ some. turns_run all scope base e f v line z locals n (sum_of from 1) (cells ++ some) more)
        (λ some. turns_calm scope base e f v locals go on more ok n (sum_of from 1) (cells ++ some))

    module _ (scope : List Local) (locals : List Value) where
      many_calm : (base : Base) (e : Expr) (f : Option Expr) (t : Turns) (go on more : List ℕ → TreeRun) → ((cells : List ℕ) → Calm W l (go cells) (on cells) (more cells))
          → Calm W l (many_section all scope base e f t line x locals go) (many_section all scope base e f t line y locals on) (many_section all scope base e f t line z locals more)
      many_calm base e f t go on more ok =
          optional_calm scope t.variable.first locals _ _ _ (λ v. value_calm scope t.count line x y z h locals _ _ _ (λ n.
          if_calm W l (nat_le (number_in n) most_turns) _ _ _ _ _ _
          (turns_calm scope base e f t.variable locals go on more ok (number_in n) (number_in v) []) (unless_calm W l (Err fault.OutOfRange) line go on more ok)))

      module _ (s : Section) (go on more : List ℕ → TreeRun) (ok : (cells : List ℕ) → Calm W l (go cells) (on cells) (more cells)) where
        plain_calm : Calm W l (plain_section all scope s line x locals go) (plain_section all scope s line y locals on) (plain_section all scope s line z locals more)
        plain_calm =
            arguments_calm W l (map (sense_of all scope) (operands_in s.form)) (all_steady W l all scope (operands_in s.form)) line x y z h locals []
            (λ made. unless_fault (section_cells (base_of (extents_of all) (found all scope s.base) locals) (extent_at s.form (map number_in (reverse made)))) line go)
            (λ made. unless_fault (section_cells (base_of (extents_of all) (found all scope s.base) locals) (extent_at s.form (map number_in (reverse made)))) line on)
            (λ made. unless_fault (section_cells (base_of (extents_of all) (found all scope s.base) locals) (extent_at s.form (map number_in (reverse made)))) line more)
            (λ made. unless_calm W l (section_cells (base_of (extents_of all) (found all scope s.base) locals) (extent_at s.form (map number_in (reverse made)))) line go on more ok)

      section_calm : (s : Section) (go on more : List ℕ → TreeRun) → ((cells : List ℕ) → Calm W l (go cells) (on cells) (more cells))
          → Calm W l (section_run all scope s line x locals go) (section_run all scope s line y locals on) (section_run all scope s line z locals more)
      section_calm s go on more ok = by s.form
        where
          by : (k : Form) → Calm W l (section_run all scope (record s { form = k }) line x locals go) (section_run all scope (record s { form = k }) line y locals on)
              (section_run all scope (record s { form = k }) line z locals more)
          by form.Whole = plain_calm (record s { form = form.Whole }) go on more ok
          by form.Deref = plain_calm (record s { form = form.Deref }) go on more ok
          by (form.Shape n) = plain_calm (record s { form = form.Shape n }) go on more ok
          by (form.Element e) = plain_calm (record s { form = form.Element e }) go on more ok
          by (form.Length a n) = plain_calm (record s { form = form.Length a n }) go on more ok
          by (form.Span a u) = plain_calm (record s { form = form.Span a u }) go on more ok
          by (form.Grid rows columns) = plain_calm (record s { form = form.Grid rows columns }) go on more ok
          by (form.Many e f t) = many_calm (base_of (extents_of all) (found all scope s.base) locals) e f t go on more ok

      pub sections_calm : (d : Declared) (ss : List Section) (made : List Access) (go on more : List Access → TreeRun)
          → ((some : List Access) → (is_unfolded d.mode ≡ true → AllUnfolded made → AllUnfolded some) → Calm W l (go some) (on some) (more some))
          → Calm W l (sections_run all scope d ss line x locals made go) (sections_run all scope d ss line y locals made on) (sections_run all scope d ss line z locals made more)
      sections_calm d [] made go on more ok = ok made (λ e fine. fine)
      sections_calm d (s ∷ rest) made go on more ok =
          section_calm s _ _ _ (λ cells. sections_calm d rest (made ++ declared_on d (ranges_of cells)) go on more
          (λ some grows. ok some (λ e fine. grows e (unfolded_append made (declared_on d (ranges_of cells)) fine (unfolded_declared d (unfolded_mode d.mode e) (ranges_of cells))))))

      -- Clauses

      clause_calm : (c : Clause) (made : Made) (go on more : Made → TreeRun)
          → ((some : Made) → (is_dependency c ≡ true → AllUnfolded made.accesses → AllUnfolded some.accesses) → Calm W l (go some) (on some) (more some))
          → Calm W l (clause_run all scope c line x locals made go) (clause_run all scope c line y locals made on) (clause_run all scope c line z locals made more)
      clause_calm (clause.Depend m strong fresh sections) made go on more ok =
          sections_calm (record { mode = m; strong = strong; fresh = fresh }) sections made.accesses _ _ _ (λ accesses grows. ok (record made { accesses = accesses }) grows)
      clause_calm (clause.If e) made go on more ok = value_calm scope e line x y z h locals _ _ _ (λ v. ok (record made { when = holds v }) (λ e fine. fine))
      clause_calm (clause.Final e) made go on more ok = value_calm scope e line x y z h locals _ _ _ (λ v. ok (record made { last = holds v }) (λ e fine. fine))
      clause_calm clause.Wait made go on more ok = ok (record made { wait = true }) (λ e fine. fine)
      clause_calm (clause.Label text) made go on more ok = ok made (λ e fine. fine)
      clause_calm (clause.Priority e) made go on more ok = value_calm scope e line x y z h locals _ _ _ (λ v. ok (record made { priority = signed (number_in v) }) (λ e fine. fine))
      clause_calm (clause.Grain e) made go on more ok = ok made (λ e fine. fine)

      pub clauses_calm : (cs : List Clause) (made : Made) (go on more : Made → TreeRun)
          → ((some : Made) → (are_dependencies cs ≡ true → AllUnfolded made.accesses → AllUnfolded some.accesses) → Calm W l (go some) (on some) (more some))
          → Calm W l (clauses_run all scope cs line x locals made go) (clauses_run all scope cs line y locals made on) (clauses_run all scope cs line z locals made more)
      clauses_calm [] made go on more ok = ok made (λ e fine. fine)
      clauses_calm (c ∷ rest) made go on more ok =
          clause_calm c made _ _ _ (λ some grows. clauses_calm rest some go on more
          (λ others later. ok others (λ e fine. later (and_right (is_dependency c) (are_dependencies rest) e) (grows (and_left (is_dependency c) (are_dependencies rest) e) fine))))

      -- what a creation does behind its tests: the clauses, and the task
      pub making_calm : (body : TaskBody) (cs : List Clause) (go on more : TreeRun) → Calm W outside go on more
          → Calm W l (clauses_run all scope cs line x locals nothing_made (λ made. asking (Create (order_of (record { body = body; copies = locals }) made)) line (λ c. go)))
          (clauses_run all scope cs line y locals nothing_made (λ made. asking (Create (order_of (record { body = body; copies = locals }) made)) line (λ c. on)))
          (clauses_run all scope cs line z locals nothing_made (λ made. asking (Create (order_of (record { body = body; copies = locals }) made)) line (λ c. more)))
      making_calm body cs go on more ok = clauses_calm cs nothing_made _ _ _ (λ made grows.
          asking_calm W l (Create (order_of (record { body = body; copies = locals }) made)) line (λ c. go) (λ c. on) (λ c. more) tt (λ c. ok))

-- Creations

module _ (W : Type 0) (all : List Item) (line : ℕ) (x y z : Here) (scope : List Local) (locals : List Value) (body : TaskBody) (cs : List Clause) (go on more : TreeRun) (ok : Calm W outside go on more) where
  -- of a task statement, whose clauses may create at calls
  pub task_statement_created : HereCalm W in_statement x y z → Calm W outside (created all scope body cs line x locals go) (created all scope body cs line y locals on) (created all scope body cs line z locals more)
  task_statement_created h = statement_begins W line _ _ _ (λ b. making_calm W in_statement all line x y z h scope locals body cs go on more ok)

  -- of a task function, whose clauses do not
  pub task_function_created : HereCalm W in_function x y z → Calm W in_statement (created all scope body cs line x locals go) (created all scope body cs line y locals on) (created all scope body cs line z locals more)
  task_function_created h = function_begins W line _ _ _ (λ b. making_calm W in_function all line x y z h scope locals body cs go on more ok)
