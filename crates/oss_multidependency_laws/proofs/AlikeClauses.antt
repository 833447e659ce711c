-- Sections and clauses go on alike with their multidependencies unrolled, at two places where calls and creations go on alike.
use Rattle.std.proofs.Common.{◌≡◌, ◌∙◌, ℕ, zero, suc, ◌+◌, ◌<◌, Bool, true, false, List, [], ◌∷◌, ◌++◌, length, map, reverse, Option, Some, None, refl, sym, ap, subst, arith}
use Rattle.std.specs.Prelude.{◌^◌, if◌then◌else◌, nat_le, Err}
use Rattle.std.proofs.lemmas.List.{append-nil}
use Rattle.oss_syntax.specs.declared.access.Access.{Access}
use Rattle.oss_syntax.specs.declared.fault.FaultKind.TheVariants as fault
use Rattle.oss_syntax.specs.declared.tree.expr.Expr.{Expr}
use Rattle.oss_syntax.specs.declared.tree.pragma.Clause.{Clause}
use Rattle.oss_syntax.specs.declared.tree.pragma.Clause.TheVariants as clause
use Rattle.oss_syntax.specs.declared.tree.pragma.Form.{Form}
use Rattle.oss_syntax.specs.declared.tree.pragma.Form.TheVariants as form
use Rattle.oss_syntax.specs.declared.tree.pragma.Section.{Section}
use Rattle.oss_syntax.specs.declared.tree.pragma.Turns.{Turns}
use Rattle.oss_syntax.specs.declared.tree.program.Item.{Item}
use Rattle.oss_syntax.specs.declared.tree.program.Local.{Local}
use Rattle.oss_grammar.specs.SectionCells.{Base, most_turns, place_cells, section_cells, signed}
use Rattle.oss_grammar.specs.Values.{sum_of}
use Rattle.oss_model.specs.Bodies.{Ask}
use Rattle.oss_model.specs.Bodies.Ask.{Begin, Create}
use Rattle.oss_meaning.specs.declared.clauses.Declared.{Declared}
use Rattle.oss_meaning.specs.declared.value.Value.{Value}
use Rattle.oss_meaning.specs.declared.value.Value.TheVariants as value
use Rattle.oss_meaning.specs.Clauses.{Made, clause_run, clauses_run, created, holds, nothing_made, order_of}
use Rattle.oss_meaning.specs.Expressions.{Here, Sense, TaskBody, TreeRun, TreeScript, arguments, sense_of, unless_fault}
use Rattle.oss_meaning.specs.Names.{found}
use Rattle.oss_meaning.specs.Pointers.{extents_of, number_in}
use Rattle.oss_meaning.specs.Sections.{base_of, declared_on, extent_at, many_section, operands_in, optional_value, plain_section, ranges_of, second_index, section_run, sections_run, turn_cells, turns_run}
use Rattle.oss_multidependency_laws.specs.Fitting.{all_fit, clause_fits, clauses_fit, fits, form_fits, optional_fits, sections_fit}
use Rattle.oss_multidependency_laws.specs.Grouping.{singles}
use Rattle.oss_multidependency_laws.specs.Unrolling.{is_signed, items_unrolled, literal_turns, turn_section, turn_sections, unrolled_clause, unrolled_clauses, unrolled_form, unrolled_sections, written_turns}
use Rattle.oss_multidependency_laws.proofs.AlikeRuns.{Like, asking_like, unless_like}
use Rattle.oss_multidependency_laws.proofs.AlikeExpressions.{HereLike, all_even, and_left, and_right, arguments_even, even_sense}
use Rattle.oss_multidependency_laws.proofs.SameNames.{extents_same, found_same, sense_same}
use Rattle.oss_multidependency_laws.proofs.TurnCells.{behind_same, grouped_same, turn_is, wraps_not}
use Rattle.oss_multidependency_laws.proofs.UnrolledClauses.{Literals, fits as few_enough, literal_value, literals, stays, with_form}

module _ (chosen : Section → Bool) (all : List Item) (Good : TreeScript → Type 0) where
  abbrev flat : List Item
  flat = items_unrolled chosen all

  -- two places that go on alike
  abbrev pub Places : Here → Here → Type 0
  Places x y = HereLike all Good x y

  -- Expressions

  pub value_like : (scope : List Local) (e : Expr) → fits all e ≡ true → (line : ℕ) (x y : Here) → Places x y → (locals : List Value) (go on : Value → TreeRun) → ((v : Value) → Like Good (go v) (on v))
      → Like Good ((sense_of all scope e).value line x locals go) ((sense_of flat scope e).value line y locals on)
  value_like scope e fit line x y h locals go on ok =
      subst (λ (s : Expr → Sense). Like Good ((sense_of all scope e).value line x locals go) ((s e).value line y locals on)) (sym (sense_same chosen all scope))
      ((even_sense all Good scope e fit).value line x y h locals go on ok)

  pub arguments_like : (scope : List Local) (es : List Expr) → all_fit all es ≡ true → (line : ℕ) (x y : Here) → Places x y → (locals : List Value) (go on : List Value → TreeRun)
      → ((vs : List Value) → Like Good (go vs) (on vs)) → Like Good (arguments (map (sense_of all scope) es) line x locals [] go) (arguments (map (sense_of flat scope) es) line y locals [] on)
  arguments_like scope es fit line x y h locals go on ok =
      subst (λ (s : Expr → Sense). Like Good (arguments (map (sense_of all scope) es) line x locals [] go) (arguments (map s es) line y locals [] on)) (sym (sense_same chosen all scope))
      (arguments_even all Good (map (sense_of all scope) es) (all_even all Good scope es fit) line x y h locals [] go on (λ vs e. ok vs))

  pub optional_like : (scope : List Local) (o : Option Expr) → optional_fits all o ≡ true → (line : ℕ) (x y : Here) → Places x y → (locals : List Value) (go on : Value → TreeRun)
      → ((v : Value) → Like Good (go v) (on v)) → Like Good (optional_value all scope o line x locals go) (optional_value flat scope o line y locals on)
  optional_like scope None fit line x y h locals go on ok = ok (value.Num 0)
  optional_like scope (Some e) fit line x y h locals go on ok = value_like scope e fit line x y h locals go on ok

  second_like : (scope : List Local) (o : Option Expr) → optional_fits all o ≡ true → (line : ℕ) (x y : Here) → Places x y → (locals : List Value) (go on : Option ℕ → TreeRun)
      → ((w : Option ℕ) → Like Good (go w) (on w)) → Like Good (second_index all scope o line x locals go) (second_index flat scope o line y locals on)
  second_like scope None fit line x y h locals go on ok = ok None
  second_like scope (Some e) fit line x y h locals go on ok = value_like scope e fit line x y h locals (λ w. go (Some (number_in w))) (λ w. on (Some (number_in w))) (λ w. ok (Some (number_in w)))

  -- Sections

  base_same : (scope : List Local) (name : List ℕ) (locals : List Value) → base_of (extents_of flat) (found flat scope name) locals ≡ base_of (extents_of all) (found all scope name) locals
  base_same scope name locals = λ i. base_of (extents_same chosen all i) (found_same chosen all scope name i) locals

  module _ (line : ℕ) (x y : Here) (h : Places x y) where
    turn_like : (scope : List Local) (base : Base) (e : Expr) (f : Option Expr) → fits all e ≡ true → optional_fits all f ≡ true → (locals : List Value) (go on : List ℕ → TreeRun)
        → ((cells : List ℕ) → Like Good (go cells) (on cells)) → Like Good (turn_cells all scope base e f line x locals go) (turn_cells flat scope base e f line y locals on)
    turn_like scope base e f one other locals go on ok =
        value_like scope e one line x y h locals
        (λ v. second_index all scope f line x locals (λ w. unless_fault (place_cells base base.columns (number_in v, w)) line go))
        (λ v. second_index flat scope f line y locals (λ w. unless_fault (place_cells base base.columns (number_in v, w)) line on))
        (λ v. second_like scope f other line x y h locals
        (λ w. unless_fault (place_cells base base.columns (number_in v, w)) line go) (λ w. unless_fault (place_cells base base.columns (number_in v, w)) line on)
        (λ w. unless_like Good (place_cells base base.columns (number_in v, w)) line go on ok))

    turns_like : (scope : List Local) (base : Base) (e : Expr) (f : Option Expr) (v : Local) → fits all e ≡ true → optional_fits all f ≡ true → (locals : List Value) (go on : List ℕ → TreeRun)
        → ((cells : List ℕ) → Like Good (go cells) (on cells)) → (n from : ℕ) (cells : List ℕ)
        → Like Good (turns_run all scope base e f v line x locals n from cells go) (turns_run flat scope base e f v line y locals n from cells on)
    turns_like scope base e f v one other locals go on ok zero from cells = ok cells
    turns_like scope base e f v one other locals go on ok (suc n) from cells =
        turn_like (scope ++ v ∷ []) base e f one other (locals ++ value.Num from ∷ [])
        (λ more. turns_run all scope base e f v line x locals n (sum_of from 1) (cells ++ more) go)
        (λ more. turns_run flat scope base e f v line y locals n (sum_of from 1) (cells ++ more) on)
        (λ more. turns_like scope base e f v one other locals go on ok n (sum_of from 1) (cells ++ more))

    module _ (scope : List Local) (locals : List Value) where
      many_like : (base : Base) (e : Expr) (f : Option Expr) (t : Turns) → form_fits all (form.Many e f t) ≡ true → (go on : List ℕ → TreeRun) → ((cells : List ℕ) → Like Good (go cells) (on cells))
          → Like Good (many_section all scope base e f t line x locals go) (many_section flat scope base e f t line y locals on)
      many_like base e f t fit go on ok =
          let one = and_left (fits all e) _ fit in
          let rest = and_right (fits all e) _ fit in
          let other = and_left (optional_fits all f) _ rest in
          let last = and_right (optional_fits all f) _ rest in
          optional_like scope t.variable.first (and_left (optional_fits all t.variable.first) _ last) line x y h locals _ _ (λ l.
          value_like scope t.count (and_right (optional_fits all t.variable.first) _ last) line x y h locals _ _ (λ n.
          few l n (nat_le (number_in n) most_turns) one other))
        where
          few : (l n : Value) (b : Bool) → fits all e ≡ true → optional_fits all f ≡ true
              → Like Good (if b then turns_run all scope base e f t.variable line x locals (number_in n) (number_in l) [] go else unless_fault (Err fault.OutOfRange) line go)
              (if b then turns_run flat scope base e f t.variable line y locals (number_in n) (number_in l) [] on else unless_fault (Err fault.OutOfRange) line on)
          few l n true one other = turns_like scope base e f t.variable one other locals go on ok (number_in n) (number_in l) []
          few l n false one other = unless_like Good (Err fault.OutOfRange) line go on ok

      module _ (s : Section) (go on : List ℕ → TreeRun) (ok : (cells : List ℕ) → Like Good (go cells) (on cells)) where
        plain_like : all_fit all (operands_in s.form) ≡ true → Like Good (plain_section all scope s line x locals go) (plain_section flat scope s line y locals on)
        plain_like fit =
            arguments_like scope (operands_in s.form) fit line x y h locals
            (λ made. unless_fault (section_cells (base_of (extents_of all) (found all scope s.base) locals) (extent_at s.form (map number_in (reverse made)))) line go)
            (λ made. unless_fault (section_cells (base_of (extents_of flat) (found flat scope s.base) locals) (extent_at s.form (map number_in (reverse made)))) line on)
            (λ made. subst (λ b. Like Good (unless_fault (section_cells (base_of (extents_of all) (found all scope s.base) locals) (extent_at s.form (map number_in (reverse made)))) line go)
            (unless_fault (section_cells b (extent_at s.form (map number_in (reverse made)))) line on)) (sym (base_same scope s.base locals))
            (unless_like Good (section_cells (base_of (extents_of all) (found all scope s.base) locals) (extent_at s.form (map number_in (reverse made)))) line go on ok))

      form_like : (s : Section) (go on : List ℕ → TreeRun) → ((cells : List ℕ) → Like Good (go cells) (on cells)) → (f : Form) → form_fits all f ≡ true
          → Like Good (section_run all scope (with_form s f) line x locals go) (section_run flat scope (with_form s f) line y locals on)
      form_like s go on ok (form.Many e f t) fit =
          subst (λ b. Like Good (many_section all scope (base_of (extents_of all) (found all scope s.base) locals) e f t line x locals go) (many_section flat scope b e f t line y locals on)) (sym (base_same scope s.base locals))
          (many_like (base_of (extents_of all) (found all scope s.base) locals) e f t fit go on ok)
      form_like s go on ok form.Whole fit = plain_like (with_form s form.Whole) go on ok fit
      form_like s go on ok form.Deref fit = plain_like (with_form s form.Deref) go on ok fit
      form_like s go on ok (form.Shape n) fit = plain_like (with_form s (form.Shape n)) go on ok fit
      form_like s go on ok (form.Element e) fit = plain_like (with_form s (form.Element e)) go on ok fit
      form_like s go on ok (form.Length l n) fit = plain_like (with_form s (form.Length l n)) go on ok fit
      form_like s go on ok (form.Span l u) fit = plain_like (with_form s (form.Span l u)) go on ok fit
      form_like s go on ok (form.Grid rows columns) fit = plain_like (with_form s (form.Grid rows columns)) go on ok fit

      section_like : (s : Section) → form_fits all s.form ≡ true → (go on : List ℕ → TreeRun) → ((cells : List ℕ) → Like Good (go cells) (on cells))
          → Like Good (section_run all scope s line x locals go) (section_run flat scope s line y locals on)
      section_like s fit go on ok = form_like s go on ok s.form fit

      module _ (size : length locals ≡ length scope) (d : Declared) where
        -- the rest of the sections goes on alike
        abbrev Goes_on : List Section → (List Access → TreeRun) → (List Access → TreeRun) → Type 0
        Goes_on rest go on = (a b : List Access) → singles a ≡ singles b → Like Good (sections_run all scope d rest line x locals a go) (sections_run flat scope d (unrolled_sections chosen rest) line y locals b on)

        module _ (s : Section) (rest : List Section) (go on : List Access → TreeRun) (next : Goes_on rest go on) where
          onward : List Access → List ℕ → TreeRun
          onward made cells = sections_run all scope d rest line x locals (made ++ declared_on d (ranges_of cells)) go

          kept : form_fits all s.form ≡ true → (a b : List Access) → singles a ≡ singles b
              → Like Good (sections_run all scope d (s ∷ rest) line x locals a go) (sections_run flat scope d (s ∷ unrolled_sections chosen rest) line y locals b on)
          kept fit a b same =
              section_like s fit (λ cells. sections_run all scope d rest line x locals (a ++ declared_on d (ranges_of cells)) go)
              (λ cells. sections_run flat scope d (unrolled_sections chosen rest) line y locals (b ++ declared_on d (ranges_of cells)) on)
              (λ cells. next (a ++ declared_on d (ranges_of cells)) (b ++ declared_on d (ranges_of cells)) (behind_same d a b cells same))

          -- the turns that are left, and the sections of these turns
          turned : (e : Expr) (f : Option Expr) (v : Local) → is_signed v.kind ≡ true → fits all e ≡ true → optional_fits all f ≡ true → (n k : ℕ) (made other : List Access) (cells : List ℕ) → k + n < 2 ^ 64
              → singles (made ++ declared_on d (ranges_of cells)) ≡ singles other
              → Like Good (turns_run all scope (base_of (extents_of all) (found all scope s.base) locals) e f v line x locals n k cells (onward made))
              (sections_run flat scope d (turn_sections s e f v.name k n ++ unrolled_sections chosen rest) line y locals other on)
          unfolding onward
          turned e f v is one two zero k made other cells few same = next (made ++ declared_on d (ranges_of cells)) other same
          turned e f v is one two (suc n) k made other cells few same =
              let base = base_of (extents_of all) (found all scope s.base) locals in
              let left : List ℕ → TreeRun = λ more. turns_run all scope base e f v line x locals n (sum_of k 1) (cells ++ more) (onward made) in
              let right : List ℕ → TreeRun = λ more. sections_run flat scope d (turn_sections s e f v.name (k + 1) n ++ unrolled_sections chosen rest) line y locals (other ++ declared_on d (ranges_of more)) on in
              let section : turn_cells flat (scope ++ v ∷ []) base e f line y (locals ++ value.Num k ∷ []) right ≡ section_run flat scope (turn_section s e f v.name k) line y locals right =
              ap (λ b. turn_cells flat (scope ++ v ∷ []) b e f line y (locals ++ value.Num k ∷ []) right) (sym (base_same scope s.base locals))
              ∙ turn_is flat scope v is s e line y locals size f k right in
              subst (λ r. Like Good (turn_cells all (scope ++ v ∷ []) base e f line x (locals ++ value.Num k ∷ []) left) r) section
              (turn_like (scope ++ v ∷ []) base e f one two (locals ++ value.Num k ∷ []) left right (λ more.
              subst (λ j. Like Good (turns_run all scope base e f v line x locals n j (cells ++ more) (onward made)) (right more)) (sym (wraps_not k (omega (arith, few))))
              (turned e f v is one two n (k + 1) made (other ++ declared_on d (ranges_of more)) (cells ++ more) (omega (arith, few)) (grouped_same d made other cells more same))))

          many_unrolled : (e : Expr) (f : Option Expr) (t : Turns) (p : ℕ × ℕ) → Literals t p → form_fits all (form.Many e f t) ≡ true → (a b : List Access) → singles a ≡ singles b
              → Like Good (sections_run all scope d (with_form s (form.Many e f t) ∷ rest) line x locals a go)
              (sections_run flat scope d (turn_sections s e f t.variable.name p.0 p.1 ++ unrolled_sections chosen rest) line y locals b on)
          unfolding onward
          many_unrolled e f t p is fit a b same =
              let base = base_of (extents_of all) (found all scope s.base) locals in
              let turned_on : ℕ → ℕ → TreeRun = λ l n. if nat_le n most_turns then turns_run all scope base e f t.variable line x locals n l [] (onward a) else unless_fault (Err fault.OutOfRange) line (onward a) in
              let counted : Value → TreeRun = λ l. (sense_of all scope t.count).value line x locals (λ n. turned_on (number_in l) (number_in n)) in
              let left : sections_run all scope d (with_form s (form.Many e f t) ∷ rest) line x locals a go ≡ turns_run all scope base e f t.variable line x locals p.1 p.0 [] (onward a) =
              ap (λ (z : Option Expr). optional_value all scope z line x locals counted) is.first_is
              ∙ literal_value all scope is.first p.0 is.low line x locals counted
              ∙ literal_value all scope t.count p.1 is.count line x locals (λ n. turned_on p.0 (number_in n))
              ∙ ap (λ (c : Bool). if c then turns_run all scope base e f t.variable line x locals p.1 p.0 [] (onward a) else unless_fault (Err fault.OutOfRange) line (onward a)) (few_enough p.0 p.1 is.few) in
              let rest_fits = and_right (fits all e) _ fit in
              subst (λ r. Like Good r (sections_run flat scope d (turn_sections s e f t.variable.name p.0 p.1 ++ unrolled_sections chosen rest) line y locals b on)) (sym left)
              (turned e f t.variable is.signed (and_left (fits all e) _ fit) (and_left (optional_fits all f) _ rest_fits) p.1 p.0 a b [] (stays p.0 p.1 is.few) (ap singles (append-nil a) ∙ same))

          written_like : (e : Expr) (f : Option Expr) (t : Turns) → s.form ≡ form.Many e f t → form_fits all s.form ≡ true → (o : Option (ℕ × ℕ)) → literal_turns t ≡ o → (a b : List Access) → singles a ≡ singles b
              → Like Good (sections_run all scope d (s ∷ rest) line x locals a go) (sections_run flat scope d (written_turns s e f t.variable.name o ++ unrolled_sections chosen rest) line y locals b on)
          written_like e f t is fit None turns a b same = kept fit a b same
          written_like e f t is fit (Some p) turns a b same =
              subst (λ z. Like Good (sections_run all scope d (with_form s z ∷ rest) line x locals a go) (sections_run flat scope d (turn_sections s e f t.variable.name p.0 p.1 ++ unrolled_sections chosen rest) line y locals b on)) (sym is)
              (many_unrolled e f t p (literals t p turns) (subst (λ z. form_fits all z ≡ true) is fit) a b same)

          choice_like : (e : Expr) (f : Option Expr) (t : Turns) → s.form ≡ form.Many e f t → form_fits all s.form ≡ true → (c : Bool) → (a b : List Access) → singles a ≡ singles b
              → Like Good (sections_run all scope d (s ∷ rest) line x locals a go)
              (sections_run flat scope d ((if c then written_turns s e f t.variable.name (literal_turns t) else s ∷ []) ++ unrolled_sections chosen rest) line y locals b on)
          choice_like e f t is fit true a b same = written_like e f t is fit (literal_turns t) refl a b same
          choice_like e f t is fit false a b same = kept fit a b same

          one_like : (z : Form) → s.form ≡ z → form_fits all s.form ≡ true → (a b : List Access) → singles a ≡ singles b
              → Like Good (sections_run all scope d (s ∷ rest) line x locals a go) (sections_run flat scope d (unrolled_form chosen s z ++ unrolled_sections chosen rest) line y locals b on)
          one_like (form.Many e f t) is fit a b same = choice_like e f t is fit (chosen s) a b same
          one_like form.Whole is fit a b same = kept fit a b same
          one_like form.Deref is fit a b same = kept fit a b same
          one_like (form.Shape n) is fit a b same = kept fit a b same
          one_like (form.Element e) is fit a b same = kept fit a b same
          one_like (form.Length l n) is fit a b same = kept fit a b same
          one_like (form.Span l u) is fit a b same = kept fit a b same
          one_like (form.Grid rows columns) is fit a b same = kept fit a b same

        -- what goes on with accesses goes on alike where these are the same with each cell alone
        abbrev pub Steady : (List Access → TreeRun) → (List Access → TreeRun) → Type 0
        Steady go on = (a b : List Access) → singles a ≡ singles b → Like Good (go a) (on b)

        pub sections_like : (sections : List Section) → sections_fit all sections ≡ true → (go on : List Access → TreeRun) → Steady go on → Goes_on sections go on
        sections_like [] fit go on steady a b same = steady a b same
        sections_like (s ∷ rest) fit go on steady a b same =
            one_like s rest go on (sections_like rest (and_right (form_fits all s.form) (sections_fit all rest) fit) go on steady) s.form refl
            (and_left (form_fits all s.form) (sections_fit all rest) fit) a b same

      -- Clauses

      abbrev with_accesses : Made → List Access → Made
      with_accesses m xs = record m { accesses = xs }

      -- the same of all that clauses have given
      abbrev pub SteadyMade : (Made → TreeRun) → (Made → TreeRun) → Type 0
      SteadyMade go on = (m : Made) (a b : List Access) → singles a ≡ singles b → Like Good (go (with_accesses m a)) (on (with_accesses m b))

      module _ (size : length locals ≡ length scope) where
        clause_like : (c : Clause) → clause_fits all c ≡ true → (m : Made) (go on : Made → TreeRun) → SteadyMade go on → (a b : List Access) → singles a ≡ singles b
            → Like Good (clause_run all scope c line x locals (with_accesses m a) go) (clause_run flat scope (unrolled_clause chosen c) line y locals (with_accesses m b) on)
        clause_like (clause.Depend mode strong fresh sections) fit m go on steady a b same =
            sections_like size (record { mode = mode; strong = strong; fresh = fresh }) sections fit (λ z. go (with_accesses m z)) (λ z. on (with_accesses m z)) (λ c e s. steady m c e s) a b same
        clause_like (clause.If e) fit m go on steady a b same =
            value_like scope e fit line x y h locals (λ v. go (with_accesses (record m { when = holds v }) a)) (λ v. on (with_accesses (record m { when = holds v }) b)) (λ v. steady (record m { when = holds v }) a b same)
        clause_like (clause.Final e) fit m go on steady a b same =
            value_like scope e fit line x y h locals (λ v. go (with_accesses (record m { last = holds v }) a)) (λ v. on (with_accesses (record m { last = holds v }) b)) (λ v. steady (record m { last = holds v }) a b same)
        clause_like clause.Wait fit m go on steady a b same = steady (record m { wait = true }) a b same
        clause_like (clause.Label text) fit m go on steady a b same = steady m a b same
        clause_like (clause.Priority e) fit m go on steady a b same =
            value_like scope e fit line x y h locals (λ v. go (with_accesses (record m { priority = signed (number_in v) }) a)) (λ v. on (with_accesses (record m { priority = signed (number_in v) }) b))
            (λ v. steady (record m { priority = signed (number_in v) }) a b same)
        clause_like (clause.Grain e) fit m go on steady a b same = steady m a b same

        pub clauses_like : (cs : List Clause) → clauses_fit all cs ≡ true → (m : Made) (go on : Made → TreeRun) → SteadyMade go on → (a b : List Access) → singles a ≡ singles b
            → Like Good (clauses_run all scope cs line x locals (with_accesses m a) go) (clauses_run flat scope (unrolled_clauses chosen cs) line y locals (with_accesses m b) on)
        clauses_like [] fit m go on steady a b same = steady m a b same
        clauses_like (c ∷ rest) fit m go on steady a b same =
            clause_like c (and_left (clause_fits all c) (clauses_fit all rest) fit) m (λ more. clauses_run all scope rest line x locals more go) (λ more. clauses_run flat scope (unrolled_clauses chosen rest) line y locals more on)
            (λ k d e s. clauses_like rest (and_right (clause_fits all c) (clauses_fit all rest) fit) k go on steady d e s) a b same

        -- a creation of a body that is good goes on alike
        pub created_like : (body : TaskBody) (cs : List Clause) → clauses_fit all cs ≡ true → Good (record { body = body; copies = locals }) → (go on : TreeRun) → Like Good go on
            → Like Good (created all scope body cs line x locals go) (created flat scope body (unrolled_clauses chosen cs) line y locals on)
        created_like body cs fit good go on ok =
            asking_like Good Begin Begin line _ _ refl tt (λ v. clauses_like cs fit nothing_made _ _ (λ m a b same.
            asking_like Good (Create (order_of (record { body = body; copies = locals }) (with_accesses m a))) (Create (order_of (record { body = body; copies = locals }) (with_accesses m b))) line (λ c. go) (λ c. on)
            (ap {B = Ask TreeScript} (λ z. Create (record { script = record { body = body; copies = locals }; clauses = z; when = m.when; last = m.last; wait = m.wait; priority = m.priority })) same) good (λ c. ok)) [] [] refl)
