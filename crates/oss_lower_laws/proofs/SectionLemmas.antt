-- The instructions of sections and clauses do what these mean, and those of a creation ask for the same new task.
use Rattle.std.proofs.Common.{◌≡◌, ◌∙◌, ℕ, zero, suc, ◌+◌, ◌-◌, ◌≤◌, List, [], ◌∷◌, ◌++◌, length, map, Option, Some, None, Bool, true, false, refl, sym, ap, subst, arith, length-append, append_assoc, drop, reverse, Err}
use Rattle.std.specs.Prelude.{◌==◌, nat_le, if◌then◌else◌, slice_get}
use Rattle.std.proofs.lemmas.Bool.Decides.{nat_tests}
use Rattle.std.proofs.lemmas.List.{append-nil, length-map, map-append}
use Rattle.oss_syntax.specs.declared.access.Access.{Access}
use Rattle.oss_syntax.specs.declared.access.Range.{Range}
use Rattle.oss_syntax.specs.declared.fault.FaultKind.TheVariants as fault
use Rattle.oss_syntax.specs.declared.tree.expr.Expr.{Expr}
use Rattle.oss_syntax.specs.declared.tree.pragma.Clause.{Clause}
use Rattle.oss_syntax.specs.declared.tree.pragma.Clause.TheVariants as clause
use Rattle.oss_syntax.specs.declared.tree.pragma.Form.{Form}
use Rattle.oss_syntax.specs.declared.tree.pragma.Form.TheVariants as form
use Rattle.oss_syntax.specs.declared.tree.pragma.Inner.{Inner}
use Rattle.oss_syntax.specs.declared.tree.pragma.Inner.TheVariants as inner
use Rattle.oss_syntax.specs.declared.tree.pragma.Section.{Section}
use Rattle.oss_syntax.specs.declared.tree.pragma.Turns.{Turns}
use Rattle.oss_syntax.specs.declared.tree.program.Item.{Item}
use Rattle.oss_syntax.specs.declared.tree.program.Local.{Local}
use Rattle.oss_grammar.specs.SectionCells.{Base, Extent, most_turns, place_cells, section_cells, signed}
use Rattle.oss_grammar.specs.Values.{sum_of}
use Rattle.oss_model.specs.Bodies.Ask.{Begin, Create}
use Rattle.oss_meaning.specs.declared.clauses.Declared.{Declared}
use Rattle.oss_meaning.specs.declared.names.Found.{Found}
use Rattle.oss_meaning.specs.declared.names.Found.TheVariants as names
use Rattle.oss_meaning.specs.declared.value.Value.{Value}
use Rattle.oss_meaning.specs.declared.value.Value.TheVariants as value
use Rattle.oss_meaning.specs.Clauses.{Made, clause_run, clauses_run, created, holds, nothing_made, order_of}
use Rattle.oss_meaning.specs.Expressions.{TaskBody, TreeRun, arguments, sense_of, unless_fault, value_at}
use Rattle.oss_meaning.specs.Names.{found}
use Rattle.oss_meaning.specs.Pointers.{extents_of, global_base, number_in, value_base}
use Rattle.oss_meaning.specs.Pointers as pointers
use Rattle.oss_meaning.specs.Sections.{base_of, declared_on, extent_at, inner_operands, many_section, operands_in, optional_value, part_at, plain_section, ranges_of, section_run, sections_run, turn_cells, turns_run}
use Rattle.oss_code.specs.Globals.{extents_in}
use Rattle.oss_code.specs.Shapes.{operands_of, part_operands}
use Rattle.oss_code.specs.declared.instr.Instr.TheVariants as i
use Rattle.oss_code.specs.declared.instr.SectionBase.{SectionBase}
use Rattle.oss_machine.specs.Frames.{Turning}
use Rattle.oss_machine.specs.Steps.{On, Stops, Asks, Effect, all_but_last, base_at, effect, extent_from, or_line, part_from, stepped, turns_begun, unless_failed, with_section, with_turn}
use Rattle.oss_lower_laws.specs.declared.lined.Lined.{Lined}
use Rattle.oss_lower_laws.specs.ExpressionCode.{arguments_code, expr_code, one}
use Rattle.oss_lower_laws.specs.SectionCode.{base_code, clause_code, clauses_code, created_code, form_code, indices_code, many_code, optional_code, inner_code, plain_code, section_code, sections_code, turn_code}
use Rattle.oss_lower_laws.proofs.ExpressionFolds.{map_twice}
use Rattle.oss_lower_laws.proofs.CodeLemmas.{Comes, HasAt, IsAt, Side, Standing, comes_asking, comes_at, comes_failing, comes_on, comes_result, comes_to, framed, has_back, has_front, kept, plain}
use Rattle.oss_lower_laws.proofs.ExpressionLemmas.{Agreeing, arguments_ok, code_in, expressions_agree, left_is, sense_in, taken_is}

-- Forms

inner_count : (p : Inner) → part_operands (inner_code p) ≡ length (inner_operands p)
inner_count (inner.Element e) = refl
inner_count (inner.Length l m) = refl
inner_count (inner.Span None None) = refl
inner_count (inner.Span None (Some u)) = refl
inner_count (inner.Span (Some l) None) = refl
inner_count (inner.Span (Some l) (Some u)) = refl

pub form_count : (f : Form) → operands_of (form_code f) ≡ length (operands_in f)
form_count form.Whole = refl
form_count form.Deref = refl
form_count (form.Shape m) = refl
form_count (form.Element e) = refl
form_count (form.Length l m) = refl
form_count (form.Span None None) = refl
form_count (form.Span None (Some u)) = refl
form_count (form.Span (Some l) None) = refl
form_count (form.Span (Some l) (Some u)) = refl
form_count (form.Grid rows columns) = omega (arith, inner_count rows, inner_count columns, length-append (inner_operands rows) (inner_operands columns))
form_count (form.Many e f turns) = refl

part_is : (p : Inner) (vs : List ℕ) → part_from (inner_code p) vs ≡ part_at p vs
part_is (inner.Element e) vs = refl
part_is (inner.Length l m) vs = refl
part_is (inner.Span None None) vs = refl
part_is (inner.Span None (Some u)) vs = refl
part_is (inner.Span (Some l) None) vs = refl
part_is (inner.Span (Some l) (Some u)) vs = refl

form_is : (f : Form) (vs : List ℕ) → extent_from (form_code f) vs ≡ extent_at f vs
form_is form.Whole vs = refl
form_is form.Deref vs = refl
form_is (form.Shape m) vs = refl
form_is (form.Element e) vs = refl
form_is (form.Length l m) vs = refl
form_is (form.Span None None) vs = refl
form_is (form.Span None (Some u)) vs = refl
form_is (form.Span (Some l) None) vs = refl
form_is (form.Span (Some l) (Some u)) vs = refl
form_is (form.Grid rows columns) vs =
    ap (λ p. Extent.grid p (part_from (inner_code columns) (drop (part_operands (inner_code rows)) vs))) (part_is rows vs)
    ∙ ap (λ k. Extent.grid (part_at rows vs) (part_from (inner_code columns) (drop k vs))) (inner_count rows)
    ∙ ap (λ p. Extent.grid (part_at rows vs) p) (part_is columns (drop (length (inner_operands rows)) vs))
form_is (form.Many e f turns) vs = refl

-- The variable of a multidependency

stepped_is : (ls : List Value) (k : ℕ) → stepped (ls ++ value.Num k ∷ []) ≡ ls ++ value.Num (sum_of k 1) ∷ []
stepped_is [] k = refl
stepped_is (v ∷ []) k = refl
stepped_is (v ∷ w ∷ ls) k = ap (λ l. v ∷ l) (stepped_is (w ∷ ls) k)

dropped_is : (ls : List Value) (k : ℕ) → all_but_last (ls ++ value.Num k ∷ []) ≡ ls
dropped_is [] k = refl
dropped_is (v ∷ []) k = refl
dropped_is (v ∷ w ∷ ls) k = ap (λ l. v ∷ l) (dropped_is (w ∷ ls) k)

-- it is no pointer, so that no section is over it
no_pointer : (globals : List pointers.Extent) (ls : List Value) (slot k : ℕ) → value_base globals (value_at (ls ++ value.Num k ∷ []) slot) ≡ value_base globals (value_at ls slot)
no_pointer globals [] zero k = refl
no_pointer globals [] (suc slot) k = refl
no_pointer globals (v ∷ ls) zero k = refl
no_pointer globals (v ∷ ls) (suc slot) k = no_pointer globals ls slot k

module _ (all : List Item) where
  -- expressions, with what they mean and their instructions
  pub pairs : List Local → List Expr → List (Agreeing all)
  pairs scope es = map (λ e. record { left = sense_of all scope e; right = expr_code all scope e; related = expressions_agree all scope e }) es

  pub senses_are : (scope : List Local) (es : List Expr) → map (sense_in all) (pairs scope es) ≡ map (sense_of all scope) es
  unfolding pairs
  senses_are scope es = map_twice _ _ es

  pub codes_are : (scope : List Local) (es : List Expr) → map (code_in all) (pairs scope es) ≡ map (expr_code all scope) es
  unfolding pairs
  codes_are scope es = map_twice _ _ es

  pub pairs_long : (scope : List Local) (es : List Expr) → length (pairs scope es) ≡ length es
  unfolding pairs
  pairs_long scope es = length-map es _

  -- arguments on an empty stack
  pub values_ok : (scope : List Local) (es : List Expr) (n : ℕ) (cl : Option ℕ) (S : Standing all n cl) (pc to line : ℕ) (b : Side) (go : List Value → TreeRun)
      → HasAt S.code pc (arguments_code (map (expr_code all scope) es) line 0) → to ≡ pc + length (arguments_code (map (expr_code all scope) es) line 0)
      → ((vs : List Value) → length vs ≡ length es → Comes S to (vs ++ []) b (go vs))
      → Comes S pc [] b (arguments (map (sense_of all scope) es) (or_line cl line) S.here b.locals [] go)
  values_ok scope es n cl S pc to line b go has t comes =
      subst (λ ss. Comes S pc [] b (arguments ss (or_line cl line) S.here b.locals [] go)) (senses_are scope es)
      (arguments_ok all (pairs scope es) n cl S pc to line 0 [] [] b go
      (subst (λ cs. HasAt S.code pc (arguments_code cs line 0)) (sym (codes_are scope es)) has)
      (t ∙ ap (λ cs. pc + length (arguments_code cs line 0)) (sym (codes_are scope es)))
      (λ vs h. comes vs (omega (arith, h, pairs_long scope es))))

  base_is : (f : Found) (n : ℕ) (cl : Option ℕ) (S : Standing all n cl) (locals : List Value) → base_at S.code (base_code f) locals ≡ base_of (extents_of all) f locals
  base_is (names.Scalar g k) n cl S locals = ap (λ e. global_base (slice_get e g)) S.globals
  base_is (names.Array g k) n cl S locals = ap (λ e. global_base (slice_get e g)) S.globals
  base_is (names.Grid g k) n cl S locals = ap (λ e. global_base (slice_get e g)) S.globals
  base_is (names.Variable slot k) n cl S locals = ap (λ e. value_base e (value_at locals slot)) S.globals
  base_is _ n cl S locals = refl

  -- the same inside a turn
  turn_base_is : (f : Found) (n : ℕ) (cl : Option ℕ) (S : Standing all n cl) (locals : List Value) (k : ℕ) → base_at S.code (base_code f) (locals ++ value.Num k ∷ []) ≡ base_of (extents_of all) f locals
  turn_base_is (names.Scalar g k) n cl S locals m = base_is (names.Scalar g k) n cl S locals
  turn_base_is (names.Array g k) n cl S locals m = base_is (names.Array g k) n cl S locals
  turn_base_is (names.Grid g k) n cl S locals m = base_is (names.Grid g k) n cl S locals
  turn_base_is (names.Variable slot k) n cl S locals m = no_pointer (extents_in S.code.globals) locals slot m ∙ base_is (names.Variable slot k) n cl S locals
  turn_base_is _ n cl S locals m = refl

  -- the cells of one more section
  abbrev with_cells : Declared → List ℕ → Side → Side
  with_cells d cells b = record { locals = b.locals; made = with_section d cells b.made; turning = b.turning }

  plain_ok : (scope : List Local) (d : Declared) (s : Section) (n : ℕ) (cl : Option ℕ) (S : Standing all n cl) (pc to line : ℕ) (b : Side) (go : List ℕ → TreeRun)
      → HasAt S.code pc (plain_code all scope d s line) → to ≡ pc + length (plain_code all scope d s line)
      → ((cells : List ℕ) → Comes S to [] (with_cells d cells b) (go cells)) → Comes S pc [] b (plain_section all scope s (or_line cl line) S.here b.locals go)
  plain_ok scope d s n cl S pc to line b go has t comes =
      values_ok scope (operands_in s.form) n cl S pc p1 line b _ (has_front S.code pc args last has) refl
      (λ vs h. comes_result S p1 to _ (section_cells base (extent_at s.form (map number_in (reverse vs)))) (vs ++ []) b (λ cells. []) (λ cells. with_cells d cells b) go
      (has_back S.code pc args last has).0 (effect_is vs (h ∙ sym (form_count s.form))) (omega (arith, t, length-append args last)) comes)
    where
      args : List Lined
      args = arguments_code (map (expr_code all scope) (operands_in s.form)) line 0

      last : List Lined
      last = one line (length (operands_in s.form)) (i.Section (base_code (found all scope s.base)) (form_code s.form) d)

      p1 : ℕ
      p1 = pc + length args

      base : Base
      base = base_of (extents_of all) (found all scope s.base) b.locals

      count : ℕ
      count = operands_of (form_code s.form)

      adds : List Value → Base → Extent → Effect
      adds rest over extent = unless_failed (section_cells over extent) (λ cells. On (framed cl (p1 + 1 + 0) rest (with_cells d cells b)))

      effect_is : (vs : List Value) → length vs ≡ count
          → effect S.code (framed cl p1 (vs ++ []) b) (i.Section (base_code (found all scope s.base)) (form_code s.form) d) ≡ adds [] base (extent_at s.form (map number_in (reverse vs)))
      effect_is vs h =
          ap (λ l. adds (drop count (vs ++ [])) (base_at S.code (base_code (found all scope s.base)) b.locals) (extent_from (form_code s.form) (map number_in (reverse l)))) (taken_is all vs [] count h)
          ∙ ap (λ l. adds l (base_at S.code (base_code (found all scope s.base)) b.locals) (extent_from (form_code s.form) (map number_in (reverse vs)))) (left_is all vs [] count h)
          ∙ ap (λ o. adds [] o (extent_from (form_code s.form) (map number_in (reverse vs)))) (base_is (found all scope s.base) n cl S b.locals)
          ∙ ap (λ x. adds [] base x) (form_is s.form (map number_in (reverse vs)))

  optional_ok : (scope : List Local) (o : Option Expr) (n : ℕ) (cl : Option ℕ) (S : Standing all n cl) (pc to line : ℕ) (b : Side) (go : Value → TreeRun)
      → HasAt S.code pc (optional_code all scope o line) → to ≡ pc + length (optional_code all scope o line)
      → ((v : Value) → Comes S to (v ∷ []) b (go v)) → Comes S pc [] b (optional_value all scope o (or_line cl line) S.here b.locals go)
  optional_ok scope None n cl S pc to line b go has t comes = comes_on S pc 0 to [] (value.Num 0 ∷ []) b b _ (go (value.Num 0)) has.0 refl (omega (arith, t)) (comes (value.Num 0))
  optional_ok scope (Some e) n cl S pc to line b go has t comes = (expressions_agree all scope e).value n cl S pc to line 0 [] b go has t comes

  -- inside a multidependency
  abbrev turning_side : List Value → Made → Turning → Side
  turning_side locals made t = record { locals = locals; made = made; turning = Some t }

  turn_ok : (scope : List Local) (over : SectionBase) (base : Base) (e : Expr) (f : Option Expr) (n : ℕ) (cl : Option ℕ) (S : Standing all n cl) (pc to line : ℕ) (locals : List Value) (made : Made) (t : Turning) (go : List ℕ → TreeRun)
      → base_at S.code over locals ≡ base → HasAt S.code pc (turn_code all scope over e f line) → to ≡ pc + length (turn_code all scope over e f line)
      → ((cells : List ℕ) → Comes S to [] (turning_side locals made (with_turn cells t)) (go cells))
      → Comes S pc [] (turning_side locals made t) (turn_cells all scope base e f (or_line cl line) S.here locals go)
  turn_ok scope over base e None n cl S pc to line locals made t go same has to_is comes =
      (expressions_agree all scope e).value n cl S pc p1 line 0 [] side _ (has_front S.code pc first last has) refl
      (λ v. comes_result S p1 to _ (place_cells base base.columns (number_in v, None)) (v ∷ []) side (λ cells. []) (λ cells. turning_side locals made (with_turn cells t)) go
      (has_back S.code pc first last has).0 (ap (λ o. unless_failed (place_cells o o.columns (number_in v, None)) (λ cells. On (framed cl (p1 + 1 + 0) [] (turning_side locals made (with_turn cells t))))) same)
      (omega (arith, to_is, length-append first last)) comes)
    where
      side : Side
      side = turning_side locals made t

      first : List Lined
      first = (expr_code all scope e).value line 0

      last : List Lined
      last = one line 1 (i.Turn over (indices_code None))

      p1 : ℕ
      p1 = pc + length first
  turn_ok scope over base e (Some f) n cl S pc to line locals made t go same has to_is comes =
      (expressions_agree all scope e).value n cl S pc p1 line 0 [] side _ (has_front S.code pc first (second ++ last) has) refl
      (λ v. (expressions_agree all scope f).value n cl S p1 p2 line 1 (v ∷ []) side _ (has_front S.code p1 second last back) refl
      (λ w. comes_result S p2 to _ (place_cells base base.columns (number_in v, Some (number_in w))) (w ∷ v ∷ []) side (λ cells. []) (λ cells. turning_side locals made (with_turn cells t)) go
      (has_back S.code p1 second last back).0 (ap (λ o. unless_failed (place_cells o o.columns (number_in v, Some (number_in w))) (λ cells. On (framed cl (p2 + 1 + 0) [] (turning_side locals made (with_turn cells t))))) same)
      (omega (arith, to_is, length-append first (second ++ last), length-append second last)) comes))
    where
      side : Side
      side = turning_side locals made t

      first : List Lined
      first = (expr_code all scope e).value line 0

      second : List Lined
      second = (expr_code all scope f).value line 1

      last : List Lined
      last = one line 2 (i.Turn over (indices_code (Some f)))

      p1 : ℕ
      p1 = pc + length first

      p2 : ℕ
      p2 = p1 + length second

      back : HasAt S.code p1 (second ++ last)
      back = has_back S.code pc first (second ++ last) has

  at_most : (a b : ℕ) → a ≤ b → nat_le a b ≡ true
  at_most a b h = grind (arith, nat_tests, h)

  not_last : (k : ℕ) → nat_le (suc (suc k)) 1 ≡ false
  not_last k = grind (arith, nat_tests)

  some_turn : (k : ℕ) → (suc k == 0) ≡ false
  some_turn k = grind (arith, nat_tests)

  module _ (scope : List Local) (d : Declared) (f : Found) (e : Expr) (o : Option Expr) (turns : Turns) (n : ℕ) (cl : Option ℕ) (S : Standing all n cl) (line : ℕ) (locals : List Value) (made : Made) where
    abbrev inside : List Local
    inside = scope ++ turns.variable ∷ []

    abbrev one_turn : List Lined
    one_turn = turn_code all inside (base_code f) e o line

    abbrev base : Base
    base = base_of (extents_of all) f locals

    -- what stands behind a turn
    abbrev behind_turn : List Lined
    behind_turn = one line 0 (i.NextTurn (length one_turn)) ++ one line 0 (i.EndTurns d)

    ends_ok : (start at to k left : ℕ) (cells : List ℕ) (go : List ℕ → TreeRun) → start ≤ at → IsAt S.code at (record { what = i.EndTurns d; line = line; depth = 0 }) → to ≡ at + 1
        → Comes S to [] (kept locals (with_section d cells made)) (go cells)
        → Comes S at [] (turning_side (locals ++ value.Num k ∷ []) made (record { left = left; start = start; cells = cells })) (go cells)
    ends_ok start at to k left cells go le is_at to_is comes =
        comes_on S at 0 to [] [] _ (kept locals (with_section d cells made)) _ (go cells) is_at
        (ap (λ y. if y then On (framed cl (at + 1 + 0) [] (kept (all_but_last (locals ++ value.Num k ∷ [])) (with_section d cells made))) else Stops fault.OutOfRange) (at_most start at le)
        ∙ ap (λ l. On (framed cl (at + 1 + 0) [] (kept l (with_section d cells made)))) (dropped_is locals k))
        (omega (arith, to_is)) comes

    turns_ok : (more start to from : ℕ) (cells : List ℕ) (go : List ℕ → TreeRun) → HasAt S.code start (one_turn ++ behind_turn) → to ≡ start + length one_turn + 1 + 1
        → ((found_cells : List ℕ) → Comes S to [] (kept locals (with_section d found_cells made)) (go found_cells))
        → Comes S start [] (turning_side (locals ++ value.Num from ∷ []) made (record { left = suc more; start = start; cells = cells }))
        (turns_run all scope base e o turns.variable (or_line cl line) S.here locals (suc more) from cells go)
    turns_ok zero start to from cells go has to_is comes =
        turn_ok inside (base_code f) base e o n cl S start p1 line (locals ++ value.Num from ∷ []) made (record { left = 1; start = start; cells = cells }) _ (turn_base_is f n cl S locals from) (has_front S.code start one_turn behind_turn has) refl
        (λ found_cells. comes_on S p1 0 (p1 + 1) [] [] _ (turning_side (locals ++ value.Num from ∷ []) made (record { left = 0; start = start; cells = cells ++ found_cells })) _ _ back.0 (ap (λ q. On (framed cl q [] (turning_side (locals ++ value.Num from ∷ []) made (record { left = 0; start = start; cells = cells ++ found_cells })))) (omega arith)) (omega arith)
        (ends_ok start (p1 + 1) to from 0 (cells ++ found_cells) go (omega arith) back.1.0 (omega (arith, to_is)) (comes (cells ++ found_cells))))
      where
        p1 : ℕ
        p1 = start + length one_turn

        back : HasAt S.code p1 behind_turn
        back = has_back S.code start one_turn behind_turn has
    turns_ok (suc more) start to from cells go has to_is comes =
        turn_ok inside (base_code f) base e o n cl S start p1 line (locals ++ value.Num from ∷ []) made (record { left = suc (suc more); start = start; cells = cells }) _ (turn_base_is f n cl S locals from) (has_front S.code start one_turn behind_turn has) refl
        (λ found_cells. comes_to S p1 start [] [] _ _ _ _ back.0 (goes_back found_cells) (turns_ok more start to (sum_of from 1) (cells ++ found_cells) go has to_is comes))
      where
        p1 : ℕ
        p1 = start + length one_turn

        back : HasAt S.code p1 behind_turn
        back = has_back S.code start one_turn behind_turn has

        turning : List ℕ → Turning
        turning found_cells = record { left = suc (suc more); start = start; cells = cells ++ found_cells }

        next : ℕ → List Value → ℕ → List ℕ → Effect
        next at ls left found_cells = On (framed cl at [] (turning_side ls made (record { left = left; start = start; cells = cells ++ found_cells })))

        goes_back : (found_cells : List ℕ) → effect S.code (framed cl p1 [] (turning_side (locals ++ value.Num from ∷ []) made (turning found_cells))) (i.NextTurn (length one_turn))
            ≡ next start (locals ++ value.Num (sum_of from 1) ∷ []) (suc more) found_cells
        goes_back found_cells =
            ap (λ y. On (if y then framed cl (p1 + 1) [] (turning_side (locals ++ value.Num from ∷ []) made (record { left = 0; start = start; cells = cells ++ found_cells }))
            else framed cl (p1 - length one_turn) [] (turning_side (stepped (locals ++ value.Num from ∷ [])) made (record { left = suc (suc more) - 1; start = start; cells = cells ++ found_cells })))) (not_last more)
            ∙ ap (λ q. next q (stepped (locals ++ value.Num from ∷ [])) (suc (suc more) - 1) found_cells) (omega arith)
            ∙ ap (λ l. next start l (suc (suc more) - 1) found_cells) (stepped_is locals from)
            ∙ ap (λ k. next start (locals ++ value.Num (sum_of from 1) ∷ []) k found_cells) (omega arith)

    many_ok : (pc to : ℕ) (go : List ℕ → TreeRun) → HasAt S.code pc (many_code all scope d (base_code f) e o turns line) → to ≡ pc + length (many_code all scope d (base_code f) e o turns line)
        → ((cells : List ℕ) → Comes S to [] (kept locals (with_section d cells made)) (go cells))
        → Comes S pc [] (kept locals made) (many_section all scope base e o turns (or_line cl line) S.here locals go)
    many_ok pc to go has to_is comes =
        optional_ok scope turns.variable.first n cl S pc p1 line (kept locals made) _ (has_front S.code pc first _ has) refl
        (λ l. (expressions_agree all scope turns.count).value n cl S p1 p2 line 1 (l ∷ []) (kept locals made) _ (has_front S.code p1 count _ back) refl
        (λ m. begun l m (number_in m) refl (nat_le (number_in m) most_turns) refl))
      where
        first : List Lined
        first = optional_code all scope turns.variable.first line

        count : List Lined
        count = (expr_code all scope turns.count).value line 1

        passed : ℕ
        passed = length one_turn + 1

        p1 : ℕ
        p1 = pc + length first

        p2 : ℕ
        p2 = p1 + length count

        back : HasAt S.code p1 (count ++ (one line 2 (i.Turns passed) ++ (one_turn ++ behind_turn)))
        back = has_back S.code pc first _ has

        at_turns : HasAt S.code p2 (one line 2 (i.Turns passed) ++ (one_turn ++ behind_turn))
        at_turns = has_back S.code p1 count _ back

        long : to ≡ p2 + 1 + length one_turn + 1 + 1
        long = omega (arith, to_is, length-append first (count ++ (one line 2 (i.Turns passed) ++ (one_turn ++ behind_turn))), length-append count (one line 2 (i.Turns passed) ++ (one_turn ++ behind_turn)), length-append one_turn behind_turn)

        begins : Value → ℕ → Effect
        begins l k = if nat_le k most_turns then On (turns_begun passed (number_in l) k [] (framed cl p2 [] (kept locals made))) else Stops fault.OutOfRange

        side : Value → ℕ → Side
        side l k = turning_side (locals ++ value.Num (number_in l) ∷ []) made (record { left = k; start = p2 + 1; cells = [] })

        begun : (l m : Value) (k : ℕ) → number_in m ≡ k → (few : Bool) → nat_le (number_in m) most_turns ≡ few
            → Comes S p2 (m ∷ l ∷ []) (kept locals made)
            (if few then turns_run all scope base e o turns.variable (or_line cl line) S.here locals (number_in m) (number_in l) [] go else unless_fault (Err fault.OutOfRange) (or_line cl line) go)
        begun l m k is false many =
            comes_failing S p2 (m ∷ l ∷ []) (kept locals made) _ fault.OutOfRange at_turns.0
            (ap (λ y. if y then On (turns_begun passed (number_in l) (number_in m) [] (framed cl p2 [] (kept locals made))) else Stops fault.OutOfRange) many)
        begun l m zero is true few =
            subst (λ x. Comes S p2 (m ∷ l ∷ []) (kept locals made) (turns_run all scope base e o turns.variable (or_line cl line) S.here locals x (number_in l) [] go)) (sym is)
            (comes_on S p2 passed (p2 + 1 + passed) (m ∷ l ∷ []) [] (kept locals made) (side l 0) _ _ at_turns.0 (ap (begins l) is) refl
            (ends_ok (p2 + 1) (p2 + 1 + passed) to (number_in l) 0 [] go (omega arith)
            (subst (λ q. IsAt S.code q (record { what = i.EndTurns d; line = line; depth = 0 })) (omega arith) (has_back S.code (p2 + 1) one_turn behind_turn at_turns.1).1.0) (omega (arith, long)) (comes [])))
        begun l m (suc k) is true few =
            subst (λ x. Comes S p2 (m ∷ l ∷ []) (kept locals made) (turns_run all scope base e o turns.variable (or_line cl line) S.here locals x (number_in l) [] go)) (sym is)
            (comes_to S p2 (p2 + 1) (m ∷ l ∷ []) [] (kept locals made) (side l (suc k)) _ _ at_turns.0
            (ap (begins l) is
            ∙ ap (λ y. if y then On (turns_begun passed (number_in l) (suc k) [] (framed cl p2 [] (kept locals made))) else Stops fault.OutOfRange) (ap (λ x. nat_le x most_turns) (sym is) ∙ few)
            ∙ ap (λ y. On (framed cl (if y then p2 + 1 + passed else p2 + 1) [] (side l (suc k)))) (some_turn k))
            (turns_ok k (p2 + 1) to (number_in l) [] go at_turns.1 (omega (arith, long)) comes))

  -- a section by its parts
  abbrev section_by : List ℕ → Form → ℕ → ℕ → Section
  section_by base f first name_line = record { base = base; form = f; line = first; base_line = name_line }

  section_by_ok : (scope : List Local) (d : Declared) (base : List ℕ) (f : Form) (first name_line : ℕ) (n : ℕ) (cl : Option ℕ) (S : Standing all n cl) (pc to line : ℕ) (locals : List Value) (made : Made) (go : List ℕ → TreeRun)
      → HasAt S.code pc (section_code all scope d (section_by base f first name_line) line)
      → to ≡ pc + length (section_code all scope d (section_by base f first name_line) line)
      → ((cells : List ℕ) → Comes S to [] (kept locals (with_section d cells made)) (go cells))
      → Comes S pc [] (kept locals made) (section_run all scope (section_by base f first name_line) (or_line cl line) S.here locals go)
  section_by_ok scope d base (form.Many e o turns) first name_line n cl S pc to line locals made go has t comes = many_ok scope d (found all scope base) e o turns n cl S line locals made pc to go has t comes
  section_by_ok scope d base form.Whole first name_line n cl S pc to line locals made go has t comes = plain_ok scope d (section_by base form.Whole first name_line) n cl S pc to line (kept locals made) go has t comes
  section_by_ok scope d base form.Deref first name_line n cl S pc to line locals made go has t comes = plain_ok scope d (section_by base form.Deref first name_line) n cl S pc to line (kept locals made) go has t comes
  section_by_ok scope d base (form.Shape m) first name_line n cl S pc to line locals made go has t comes = plain_ok scope d (section_by base (form.Shape m) first name_line) n cl S pc to line (kept locals made) go has t comes
  section_by_ok scope d base (form.Element e) first name_line n cl S pc to line locals made go has t comes = plain_ok scope d (section_by base (form.Element e) first name_line) n cl S pc to line (kept locals made) go has t comes
  section_by_ok scope d base (form.Length l m) first name_line n cl S pc to line locals made go has t comes = plain_ok scope d (section_by base (form.Length l m) first name_line) n cl S pc to line (kept locals made) go has t comes
  section_by_ok scope d base (form.Span l u) first name_line n cl S pc to line locals made go has t comes = plain_ok scope d (section_by base (form.Span l u) first name_line) n cl S pc to line (kept locals made) go has t comes
  section_by_ok scope d base (form.Grid rows columns) first name_line n cl S pc to line locals made go has t comes = plain_ok scope d (section_by base (form.Grid rows columns) first name_line) n cl S pc to line (kept locals made) go has t comes

  -- what the clauses have given, with these accesses
  abbrev pub with_accesses : List Access → Made → Made
  with_accesses accesses made = record made { accesses = accesses }

  -- the accesses of the clauses before, and those of more ranges
  abbrev pub with_ranges : Declared → List Range → List Access → List Access
  with_ranges d ranges accesses = accesses ++ declared_on d ranges

  pub sections_ok : (scope : List Local) (d : Declared) (ss : List Section) (n : ℕ) (cl : Option ℕ) (S : Standing all n cl) (pc to line : ℕ) (locals : List Value) (made : Made) (go : List Access → TreeRun)
      → HasAt S.code pc (sections_code all scope d ss line) → to ≡ pc + length (sections_code all scope d ss line)
      → ((ranges : List Range) → Comes S to [] (kept locals (with_accesses (with_ranges d ranges made.accesses) made)) (go (with_ranges d ranges made.accesses)))
      → Comes S pc [] (kept locals made) (sections_run all scope d ss (or_line cl line) S.here locals made.accesses go)
  sections_ok scope d [] n cl S pc to line locals made go has t comes =
      comes_at S pc to [] (kept locals made) (go made.accesses) (omega (arith, t))
      (subst (λ accesses. Comes S to [] (kept locals (with_accesses accesses made)) (go accesses)) (append-nil made.accesses) (comes []))
  sections_ok scope d (s ∷ ss) n cl S pc to line locals made go has t comes =
      let first = section_code all scope d s line in
      let later = sections_code all scope d ss line in
      section_by_ok scope d s.base s.form s.line s.base_line n cl S pc (pc + length first) line locals made _ (has_front S.code pc first later has) refl
      (λ cells. sections_ok scope d ss n cl S (pc + length first) to line locals (with_section d cells made) go (has_back S.code pc first later has) (omega (arith, t, length-append first later))
      (λ ranges. subst (λ accesses. Comes S to [] (kept locals (with_accesses accesses made)) (go accesses)) (joined cells ranges) (comes (ranges_of cells ++ ranges))))
    where
      joined : (cells : List ℕ) (ranges : List Range) → with_ranges d (ranges_of cells ++ ranges) made.accesses ≡ with_ranges d ranges (with_ranges d (ranges_of cells) made.accesses)
      joined cells ranges = ap (λ l. made.accesses ++ l) (map-append _ (ranges_of cells) ranges) ∙ sym (append_assoc made.accesses (declared_on d (ranges_of cells)) (declared_on d ranges))

  -- a clause with a value
  valued_ok : (scope : List Local) (e : Expr) (n : ℕ) (cl : Option ℕ) (S : Standing all n cl) (pc to line : ℕ) (locals : List Value) (made : Made) (x : Lined) (gives : Value → Made) (go : Made → TreeRun)
      → ((at : ℕ) (v : Value) → effect S.code (framed cl at (v ∷ []) (kept locals made)) x.what ≡ On (framed cl (at + 1 + 0) [] (kept locals (gives v))))
      → HasAt S.code pc ((expr_code all scope e).value line 0 ++ x ∷ []) → to ≡ pc + length ((expr_code all scope e).value line 0 ++ x ∷ [])
      → ((m : Made) → Comes S to [] (kept locals m) (go m))
      → Comes S pc [] (kept locals made) ((sense_of all scope e).value (or_line cl line) S.here locals (λ v. go (gives v)))
  valued_ok scope e n cl S pc to line locals made x gives go is has t comes =
      let code = (expr_code all scope e).value line 0 in
      (expressions_agree all scope e).value n cl S pc (pc + length code) line 0 [] (kept locals made) _ (has_front S.code pc code (x ∷ []) has) refl
      (λ v. comes_on S (pc + length code) 0 to (v ∷ []) [] (kept locals made) (kept locals (gives v)) x (go (gives v)) (has_back S.code pc code (x ∷ []) has).0 (is (pc + length code) v)
      (omega (arith, t, length-append code (x ∷ []))) (comes (gives v)))

  clause_ok : (scope : List Local) (c : Clause) (n : ℕ) (cl : Option ℕ) (S : Standing all n cl) (pc to line : ℕ) (locals : List Value) (made : Made) (go : Made → TreeRun)
      → HasAt S.code pc (clause_code all scope c line) → to ≡ pc + length (clause_code all scope c line)
      → ((m : Made) → Comes S to [] (kept locals m) (go m)) → Comes S pc [] (kept locals made) (clause_run all scope c (or_line cl line) S.here locals made go)
  clause_ok scope (clause.Depend mode strong fresh sections) n cl S pc to line locals made go has t comes =
      sections_ok scope (record { mode = mode; strong = strong; fresh = fresh }) sections n cl S pc to line locals made _ has t (λ ranges. comes (with_accesses (with_ranges (record { mode = mode; strong = strong; fresh = fresh }) ranges made.accesses) made))
  clause_ok scope (clause.If e) n cl S pc to line locals made go has t comes = valued_ok scope e n cl S pc to line locals made _ (λ v. record made { when = holds v }) go (λ at v. refl) has t comes
  clause_ok scope (clause.Final e) n cl S pc to line locals made go has t comes = valued_ok scope e n cl S pc to line locals made _ (λ v. record made { last = holds v }) go (λ at v. refl) has t comes
  clause_ok scope clause.Wait n cl S pc to line locals made go has t comes =
      comes_on S pc 0 to [] [] (kept locals made) (kept locals (record made { wait = true })) _ (go (record made { wait = true })) has.0 refl (omega (arith, t)) (comes (record made { wait = true }))
  clause_ok scope (clause.Label text) n cl S pc to line locals made go has t comes = comes_at S pc to [] (kept locals made) (go made) (omega (arith, t)) (comes made)
  clause_ok scope (clause.Priority e) n cl S pc to line locals made go has t comes =
      valued_ok scope e n cl S pc to line locals made _ (λ v. record made { priority = signed (number_in v) }) go (λ at v. refl) has t comes
  clause_ok scope (clause.Grain e) n cl S pc to line locals made go has t comes = comes_at S pc to [] (kept locals made) (go made) (omega (arith, t)) (comes made)

  pub clauses_ok : (scope : List Local) (cs : List Clause) (n : ℕ) (cl : Option ℕ) (S : Standing all n cl) (pc to line : ℕ) (locals : List Value) (made : Made) (go : Made → TreeRun)
      → HasAt S.code pc (clauses_code all scope cs line) → to ≡ pc + length (clauses_code all scope cs line)
      → ((m : Made) → Comes S to [] (kept locals m) (go m)) → Comes S pc [] (kept locals made) (clauses_run all scope cs (or_line cl line) S.here locals made go)
  clauses_ok scope [] n cl S pc to line locals made go has t comes = comes_at S pc to [] (kept locals made) (go made) (omega (arith, t)) (comes made)
  clauses_ok scope (c ∷ cs) n cl S pc to line locals made go has t comes =
      let first = clause_code all scope c line in
      let later = clauses_code all scope cs line in
      clause_ok scope c n cl S pc (pc + length first) line locals made _ (has_front S.code pc first later has) refl
      (λ m. clauses_ok scope cs n cl S (pc + length first) to line locals m go (has_back S.code pc first later has) (omega (arith, t, length-append first later)) comes)

  -- A creation asks for the same task, if its body begins so many instructions behind it.
  pub created_ok : (scope : List Local) (body : TaskBody) (passed : ℕ) (cs : List Clause) (n : ℕ) (cl : Option ℕ) (S : Standing all n cl) (pc to line : ℕ) (locals : List Value) (go : TreeRun)
      → HasAt S.code pc (created_code all scope passed cs line) → to ≡ pc + length (created_code all scope passed cs line) → S.places body ≡ to + passed
      → Comes S to [] (plain locals) go → Comes S pc [] (plain locals) (created all scope body cs (or_line cl line) S.here locals go)
  created_ok scope body passed cs n cl S pc to line locals go has t place comes =
      comes_asking S pc (pc + 1) [] (λ v. []) (plain locals) (plain locals) _ Begin _ has.0 refl refl
      (λ v. clauses_ok scope cs n cl S (pc + 1) p1 line locals nothing_made _ (has_front S.code (pc + 1) codes last has.1) refl
      (λ m. comes_asking S p1 to [] (λ v. []) (kept locals m) (plain locals) _ (Create (order_of (record { body = body; copies = locals }) m)) (λ c. go) here_is
      (ap (λ q. Asks (Create (order_of (record { entry = q; copies = locals }) m)) (λ v. framed cl (p1 + 1 + 0) [] (plain locals))) (omega (arith, place, to_is))) to_is (λ c. comes)))
    where
      codes : List Lined
      codes = clauses_code all scope cs line

      last : List Lined
      last = one line 0 (i.Create passed)

      p1 : ℕ
      p1 = pc + 1 + length codes

      here_is : IsAt S.code p1 (record { what = i.Create passed; line = line; depth = 0 })
      here_is = (has_back S.code (pc + 1) codes last has.1).0

      to_is : to ≡ p1 + 1
      to_is = omega (arith, t, length-append codes last)
