-- UnknownName is told of a section or a clause exactly where a name that means nothing is used in it.
use Rattle.std.proofs.Common.{◌≡◌, ℕ, ◌+◌, ◌&&◌, ◌||◌, Bool, true, false, not, List, [], ◌∷◌, ◌++◌, length, refl, sym, ap, ◌∙◌, subst, ◌⊎◌, inl, inr, Option, Some, None}
use Rattle.std.specs.Prelude.{◌==◌, nat_le}
use Rattle.oss_syntax.specs.declared.refusal.Refused.{Refused}
use Rattle.oss_syntax.specs.declared.refusal.RefusedKind.TheVariants as refused
use Rattle.oss_syntax.specs.declared.tree.expr.Expr.{Expr}
use Rattle.oss_syntax.specs.declared.tree.pragma.Clause.{Clause}
use Rattle.oss_syntax.specs.declared.tree.pragma.Clause.TheVariants as clause
use Rattle.oss_syntax.specs.declared.tree.pragma.Form.{Form}
use Rattle.oss_syntax.specs.declared.tree.pragma.Form.TheVariants as form
use Rattle.oss_syntax.specs.declared.tree.pragma.Inner.{Inner}
use Rattle.oss_syntax.specs.declared.tree.pragma.Inner.TheVariants as inner_forms
use Rattle.oss_syntax.specs.declared.tree.pragma.Section.{Section}
use Rattle.oss_syntax.specs.declared.tree.pragma.Turns.{Turns}
use Rattle.oss_syntax.specs.declared.tree.program.Item.{Item}
use Rattle.oss_syntax.specs.declared.tree.program.Local.{Local}
use Rattle.oss_grammar.specs.declared.kinds.Named.{Named}
use Rattle.oss_grammar.specs.declared.kinds.Named.TheVariants as named
use Rattle.oss_grammar.specs.declared.kinds.Wanted.TheVariants as wanted
use Rattle.oss_grammar.specs.Broken.{broken, where_so}
use Rattle.oss_grammar.specs.ExpressionRules.{value_rules}
use Rattle.oss_grammar.specs.Places.{IsOneOf}
use Rattle.oss_grammar.specs.Places.IsOneOf.{first_of_them, later_of_them}
use Rattle.oss_grammar.specs.Scopes.{meaning}
use Rattle.oss_grammar.specs.SectionRules.{begins_with_base, clauses_rules, ends_with_base, form_rules, inner_rules, is_fold, is_missing, is_wrong_section, loop_clause_rules, loop_clauses_rules, many_rules, optional_rules, section_rules, sections_in, sections_rules}
use Rattle.oss_grammar.specs.UnknownNames.{InForm, InInner, Uses, UsesInSection, UsesInClause}
use Rattle.oss_grammar.specs.UnknownNames.InForm.{of_shape, of_element, of_length_first, of_length_count, of_span_first, of_span_last, of_rows, of_columns, of_index, of_second_index, of_first_turn, of_turns}
use Rattle.oss_grammar.specs.UnknownNames.InInner.{of_one, of_first, of_count, of_lower, of_upper}
use Rattle.oss_grammar.specs.UnknownNames.UsesInSection.{as_first_base, as_later_base, in_form}
use Rattle.oss_grammar.specs.UnknownNames.UsesInClause.{in_section, in_if, in_final, in_priority, in_grain}
use Rattle.oss_grammar.proofs.ClauseScopes.{same_scope}
use Rattle.oss_grammar.proofs.KindLemmas.{where_told, where_tells, same_line}
use Rattle.oss_grammar.proofs.PlaceLemmas.{none_of, one_of_left, one_of_right, one_of_two}
use Rattle.oss_grammar.proofs.UnknownUses.{UnknownUse, other_kind, value_found, value_told}

missing_is : (m : Named) → is_missing m ≡ true → m ≡ named.Missing
missing_is named.Missing e = refl
missing_is named.Function e = absurd (cc)
missing_is (named.Local k) e = absurd (cc)
missing_is (named.Scalar k) e = absurd (cc)
missing_is (named.Array k) e = absurd (cc)
missing_is (named.Grid k) e = absurd (cc)

is_missing_at : {m : Named} → m ≡ named.Missing → is_missing m ≡ true
is_missing_at e = rw e refl

both_true : (a b : Bool) → a && b ≡ true → (a ≡ true) × (b ≡ true)
both_true true b e = (refl, e)
both_true false b e = absurd (cc)

true_both : {a b : Bool} → a ≡ true → b ≡ true → a && b ≡ true
true_both e f = rw (e, f) refl

not_true : (b : Bool) → not b ≡ true → b ≡ false
not_true true e = absurd (cc)
not_true false e = refl

true_not : {b : Bool} → b ≡ false → not b ≡ true
true_not e = rw e refl

other_size : {C : Type 0} {m n : ℕ} → broken refused.TooLarge m ≡ broken refused.UnknownName n → C
other_size e = let kinds : refused.TooLarge ≡ refused.UnknownName = ap (λ (b : Refused). b.kind) e in absurd (cc)

-- a base at the end of a section is not at its beginning
ends_later : (f : Form) → ends_with_base f ≡ true → begins_with_base f ≡ false
ends_later form.Whole e = absurd (cc)
ends_later form.Deref e = refl
ends_later (form.Shape n) e = refl
ends_later (form.Element n) e = absurd (cc)
ends_later (form.Length n m) e = absurd (cc)
ends_later (form.Span n m) e = absurd (cc)
ends_later (form.Grid n m) e = absurd (cc)
ends_later (form.Many n m turns) e = absurd (cc)

first_false : (a b : Bool) → a || b ≡ false → a ≡ false
first_false true b e = absurd (cc)
first_false false b e = refl

neither : {a b : Bool} → a ≡ false → b ≡ false → not (a || b) ≡ true
neither e f = rw (e, f) refl

module _ (line : ℕ) (all : List Item) (locals : List Local) where
  abbrev x : Refused
  x = broken refused.UnknownName line

  pub record InnerUse (d : Inner) : Type 0 where
    pub value : Expr
    pub is_in : InInner value d
    pub use_in : UnknownUse line all locals value

  pub record FormUse (f : Form) : Type 0 where
    pub scope : List Local
    pub value : Expr
    pub is_in : InForm locals value f scope
    pub use_in : UnknownUse line all scope value

  pub record SectionUse (s : Section) : Type 0 where
    pub scope : List Local
    pub name : List ℕ
    pub uses : UsesInSection locals name line s scope
    pub means : meaning all scope name ≡ named.Missing

  pub record SectionsUse (ss : List Section) : Type 0 where
    pub section : Section
    pub is_listed : IsOneOf section ss
    pub use_in : SectionUse section

  -- one dimension
  in_part : {d : Inner} (e : Expr) → InInner e d → IsOneOf x (value_rules all locals wanted.Number e) → InnerUse d
  in_part e is w = record { value = e; is_in = is; use_in = value_found line all locals wanted.Number e w }

  lower_found : (lower upper : Option Expr) → IsOneOf x (optional_rules all locals lower) → InnerUse (inner_forms.Span lower upper)
  lower_found None upper w = none_of w
  lower_found (Some e) upper w = in_part e (of_lower upper) w

  upper_found : (lower upper : Option Expr) → IsOneOf x (optional_rules all locals upper) → InnerUse (inner_forms.Span lower upper)
  upper_found lower None w = none_of w
  upper_found lower (Some e) w = in_part e (of_upper lower) w

  inner_found : (d : Inner) → IsOneOf x (inner_rules all locals d) → InnerUse d
  inner_found (inner_forms.Element e) w = in_part e of_one w
  inner_found (inner_forms.Length e n) w = elim (one_of_two (value_rules all locals wanted.Number e) (value_rules all locals wanted.Number n) w) [
    | inl u ↦ in_part e (of_first n) u
    | inr u ↦ in_part n (of_count e) u
  ]
  inner_found (inner_forms.Span lower upper) w = elim (one_of_two (optional_rules all locals lower) (optional_rules all locals upper) w) [
    | inl u ↦ lower_found lower upper u
    | inr u ↦ upper_found lower upper u
  ]

  inner_told : {name : List ℕ} {e : Expr} {d : Inner} → InInner e d → meaning all locals name ≡ named.Missing → Uses name line e → IsOneOf x (inner_rules all locals d)
  inner_told {e = e} of_one m u = value_told line all locals wanted.Number e m u
  inner_told {e = e} (of_first count) m u = one_of_left _ (value_told line all locals wanted.Number e m u)
  inner_told {e = e} (of_count first) m u = one_of_right (value_rules all locals wanted.Number first) (value_told line all locals wanted.Number e m u)
  inner_told {e = e} (of_lower last) m u = one_of_left _ (value_told line all locals wanted.Number e m u)
  inner_told {e = e} (of_upper first) m u = one_of_right (optional_rules all locals first) (value_told line all locals wanted.Number e m u)

  -- forms
  in_value : {f : Form} (e : Expr) → InForm locals e f locals → IsOneOf x (value_rules all locals wanted.Number e) → FormUse f
  in_value e is w = record { scope = locals; value = e; is_in = is; use_in = value_found line all locals wanted.Number e w }

  first_optional : (lower upper : Option Expr) → IsOneOf x (optional_rules all locals lower) → FormUse (form.Span lower upper)
  first_optional None upper w = none_of w
  first_optional (Some e) upper w = in_value e (of_span_first upper) w

  last_optional : (lower upper : Option Expr) → IsOneOf x (optional_rules all locals upper) → FormUse (form.Span lower upper)
  last_optional lower None w = none_of w
  last_optional lower (Some e) w = in_value e (of_span_last lower) w

  rows_use : {rows : Inner} (columns : Inner) → InnerUse rows → FormUse (form.Grid rows columns)
  rows_use columns u = record { scope = locals; value = u.value; is_in = of_rows columns u.is_in; use_in = u.use_in }

  columns_use : {columns : Inner} (rows : Inner) → InnerUse columns → FormUse (form.Grid rows columns)
  columns_use rows u = record { scope = locals; value = u.value; is_in = of_columns rows u.is_in; use_in = u.use_in }

  -- multidependencies: in the indices the variable is in scope
  module _ (e : Expr) (o : Option Expr) (turns : Turns) where
    abbrev inside : List Local
    inside = locals ++ (turns.variable ∷ [])

    abbrev large : List Refused
    large = where_so (nat_le 255 (length locals)) refused.TooLarge turns.variable.line

    abbrev counted : List Refused
    counted = value_rules all locals wanted.Number turns.count

    abbrev behind_large : List Refused
    behind_large = optional_rules all locals turns.variable.first ++ counted

    abbrev behind_first : List Refused
    behind_first = optional_rules all inside o ++ (large ++ behind_large)

    second_found : (p : Option Expr) → o ≡ p → IsOneOf x (optional_rules all inside p) → FormUse (form.Many e o turns)
    second_found None same w = none_of w
    second_found (Some f) same w = record {
      scope = inside;
      value = f;
      is_in = subst (λ (q : Option Expr). InForm locals f (form.Many e q turns) inside) (sym same) (of_second_index e turns);
      use_in = value_found line all inside wanted.Number f w;
    }

    turn_found : (p : Option Expr) → turns.variable.first ≡ p → IsOneOf x (optional_rules all locals p) → FormUse (form.Many e o turns)
    turn_found None same w = none_of w
    turn_found (Some l) same w = in_value l (of_first_turn e o turns same) w

    past_large : IsOneOf x (optional_rules all locals turns.variable.first) ⊎ IsOneOf x counted → FormUse (form.Many e o turns)
    past_large (inl w) = turn_found turns.variable.first refl w
    past_large (inr w) = in_value turns.count (of_turns e o turns refl) w

    past_second : IsOneOf x large ⊎ IsOneOf x behind_large → FormUse (form.Many e o turns)
    past_second (inl w) = other_size (where_told (nat_le 255 (length locals)) refused.TooLarge turns.variable.line w).1
    past_second (inr w) = past_large (one_of_two (optional_rules all locals turns.variable.first) counted w)

    past_first : IsOneOf x (optional_rules all inside o) ⊎ IsOneOf x (large ++ behind_large) → FormUse (form.Many e o turns)
    past_first (inl w) = second_found o refl w
    past_first (inr w) = past_second (one_of_two large behind_large w)

    many_by : IsOneOf x (value_rules all inside wanted.Number e) ⊎ IsOneOf x behind_first → FormUse (form.Many e o turns)
    many_by (inl w) = record { scope = inside; value = e; is_in = of_index o turns; use_in = value_found line all inside wanted.Number e w }
    many_by (inr w) = past_first (one_of_two (optional_rules all inside o) (large ++ behind_large) w)

    many_found : IsOneOf x (many_rules all locals e o turns) → FormUse (form.Many e o turns)
    many_found w = many_by (one_of_two (value_rules all inside wanted.Number e) behind_first w)

    first_told : {name : List ℕ} {l : Expr} → turns.variable.first ≡ Some l → meaning all locals name ≡ named.Missing → Uses name line l → IsOneOf x (optional_rules all locals turns.variable.first)
    first_told {l = l} is m u = rw is (value_told line all locals wanted.Number l m u)

  form_found : (f : Form) → IsOneOf x (form_rules all locals f) → FormUse f
  form_found form.Whole w = none_of w
  form_found form.Deref w = none_of w
  form_found (form.Shape e) w = in_value e of_shape w
  form_found (form.Element e) w = in_value e of_element w
  form_found (form.Length e n) w = elim (one_of_two (value_rules all locals wanted.Number e) (value_rules all locals wanted.Number n) w) [
    | inl u ↦ in_value e (of_length_first n) u
    | inr u ↦ in_value n (of_length_count e) u
  ]
  form_found (form.Span lower upper) w = elim (one_of_two (optional_rules all locals lower) (optional_rules all locals upper) w) [
    | inl u ↦ first_optional lower upper u
    | inr u ↦ last_optional lower upper u
  ]
  form_found (form.Grid rows columns) w = elim (one_of_two (inner_rules all locals rows) (inner_rules all locals columns) w) [
    | inl u ↦ rows_use columns (inner_found rows u)
    | inr u ↦ columns_use rows (inner_found columns u)
  ]
  form_found (form.Many e o turns) w = many_found e o turns w

  form_told : {name : List ℕ} {e : Expr} {f : Form} {scope : List Local} → InForm locals e f scope → meaning all scope name ≡ named.Missing → Uses name line e → IsOneOf x (form_rules all locals f)
  form_told {e = e} of_shape m u = value_told line all locals wanted.Number e m u
  form_told {e = e} of_element m u = value_told line all locals wanted.Number e m u
  form_told {e = e} (of_length_first count) m u = one_of_left _ (value_told line all locals wanted.Number e m u)
  form_told {e = e} (of_length_count first) m u = one_of_right (value_rules all locals wanted.Number first) (value_told line all locals wanted.Number e m u)
  form_told {e = e} (of_span_first last) m u = one_of_left _ (value_told line all locals wanted.Number e m u)
  form_told {e = e} (of_span_last first) m u = one_of_right (optional_rules all locals first) (value_told line all locals wanted.Number e m u)
  form_told (of_rows columns is) m u = one_of_left (inner_rules all locals columns) (inner_told is m u)
  form_told (of_columns rows is) m u = one_of_right (inner_rules all locals rows) (inner_told is m u)
  form_told {e = e} (of_index o turns) m u = one_of_left (behind_first e o turns) (value_told line all (inside e o turns) wanted.Number e m u)
  form_told {e = f} (of_second_index e turns) m u =
      one_of_right (value_rules all (inside e (Some f) turns) wanted.Number e) (one_of_left (large e (Some f) turns ++ behind_large e (Some f) turns) (value_told line all (inside e (Some f) turns) wanted.Number f m u))
  form_told (of_first_turn e o turns is) m u =
      one_of_right (value_rules all (inside e o turns) wanted.Number e) (one_of_right (optional_rules all (inside e o turns) o) (one_of_right (large e o turns) (one_of_left (counted e o turns) (first_told e o turns is m u))))
  form_told {name = name} (of_turns e o turns is) m u =
      one_of_right (value_rules all (inside e o turns) wanted.Number e)
      (one_of_right (optional_rules all (inside e o turns) o)
      (one_of_right (large e o turns)
      (one_of_right (optional_rules all locals turns.variable.first) (value_told line all locals wanted.Number turns.count m (subst (λ (i : Expr). Uses name line i) (sym is) u)))))

  -- sections
  module _ (fold : Bool) (before : ℕ) (s : Section) where
    abbrev misses : Bool
    misses = is_missing (meaning all locals s.base)

    abbrev at_end : List Refused
    at_end = where_so (ends_with_base s.form && misses) refused.UnknownName s.base_line

    abbrev behind_second : List Refused
    behind_second = form_rules all locals s.form ++ at_end

    abbrev at_second : List Refused
    at_second = where_so (not (begins_with_base s.form || ends_with_base s.form) && misses) refused.UnknownName s.base_line

    abbrev behind_size : List Refused
    behind_size = at_second ++ behind_second

    abbrev size : List Refused
    size = where_so (before == 64) refused.TooLarge s.line

    abbrev wrong : List Refused
    wrong = where_so (is_wrong_section fold s.form (meaning all locals s.base)) refused.WrongKind s.line

    abbrev at_start : List Refused
    at_start = where_so (begins_with_base s.form && misses) refused.UnknownName s.line

    later_base : begins_with_base s.form ≡ false → misses ≡ true → s.base_line ≡ line → SectionUse s
    later_base begins m at = record { scope = locals; name = s.base; uses = as_later_base refl begins at; means = missing_is (meaning all locals s.base) m }

    at_end_found : IsOneOf x at_end → SectionUse s
    at_end_found w = put (where_told (ends_with_base s.form && misses) refused.UnknownName s.base_line w) where
      put : (ends_with_base s.form && misses ≡ true) × (broken refused.UnknownName s.base_line ≡ x) → SectionUse s
      put e = (let both = both_true (ends_with_base s.form) misses e.0 in later_base (ends_later s.form both.0) both.1 (same_line e.1))

    at_second_found : IsOneOf x at_second → SectionUse s
    at_second_found w = put (where_told (not (begins_with_base s.form || ends_with_base s.form) && misses) refused.UnknownName s.base_line w) where
      put : (not (begins_with_base s.form || ends_with_base s.form) && misses ≡ true) × (broken refused.UnknownName s.base_line ≡ x) → SectionUse s
      put e = (let both = both_true (not (begins_with_base s.form || ends_with_base s.form)) misses e.0 in
          later_base (first_false (begins_with_base s.form) (ends_with_base s.form) (not_true (begins_with_base s.form || ends_with_base s.form) both.0)) both.1 (same_line e.1))

    at_start_found : IsOneOf x at_start → SectionUse s
    at_start_found w = put (where_told (begins_with_base s.form && misses) refused.UnknownName s.line w) where
      put : (begins_with_base s.form && misses ≡ true) × (broken refused.UnknownName s.line ≡ x) → SectionUse s
      put e = (let both = both_true (begins_with_base s.form) misses e.0 in
          record { scope = locals; name = s.base; uses = as_first_base refl both.0 (same_line e.1); means = missing_is (meaning all locals s.base) both.1 })

    by_form : FormUse s.form → SectionUse s
    by_form f = record { scope = f.scope; name = f.use_in.name; uses = in_form f.value f.is_in f.use_in.uses; means = f.use_in.means }

    past_second_base : IsOneOf x (form_rules all locals s.form) ⊎ IsOneOf x at_end → SectionUse s
    past_second_base (inl w) = by_form (form_found s.form w)
    past_second_base (inr w) = at_end_found w

    past_size : IsOneOf x at_second ⊎ IsOneOf x behind_second → SectionUse s
    past_size (inl w) = at_second_found w
    past_size (inr w) = past_second_base (one_of_two (form_rules all locals s.form) at_end w)

    past_wrong : IsOneOf x size ⊎ IsOneOf x behind_size → SectionUse s
    past_wrong (inl w) = other_size (where_told (before == 64) refused.TooLarge s.line w).1
    past_wrong (inr w) = past_size (one_of_two at_second behind_second w)

    past_start : IsOneOf x wrong ⊎ IsOneOf x (size ++ behind_size) → SectionUse s
    past_start (inl w) = other_kind (where_told (is_wrong_section fold s.form (meaning all locals s.base)) refused.WrongKind s.line w).1
    past_start (inr w) = past_wrong (one_of_two size behind_size w)

    either : IsOneOf x at_start ⊎ IsOneOf x (wrong ++ (size ++ behind_size)) → SectionUse s
    either (inl w) = at_start_found w
    either (inr w) = past_start (one_of_two wrong (size ++ behind_size) w)

    section_found : IsOneOf x (section_rules all locals fold before s) → SectionUse s
    section_found w = either (one_of_two at_start (wrong ++ (size ++ behind_size)) w)

    misses_at : {name : List ℕ} → s.base ≡ name → meaning all locals name ≡ named.Missing → misses ≡ true
    misses_at same m = is_missing_at (ap (λ (n : List ℕ). meaning all locals n) same ∙ m)

    past_three : IsOneOf x behind_size → IsOneOf x (section_rules all locals fold before s)
    past_three w = one_of_right at_start (one_of_right wrong (one_of_right size w))

    later_told : begins_with_base s.form ≡ false → misses ≡ true → s.base_line ≡ line → (b : Bool) → ends_with_base s.form ≡ b → IsOneOf x behind_size
    later_told begins m at true ends = one_of_right at_second (one_of_right (form_rules all locals s.form) (where_tells refused.UnknownName (true_both ends m) at))
    later_told begins m at false ends = one_of_left behind_second (where_tells refused.UnknownName (true_both (neither begins ends) m) at)

    section_told : {name : List ℕ} {scope : List Local} → meaning all scope name ≡ named.Missing → UsesInSection locals name line s scope → IsOneOf x (section_rules all locals fold before s)
    section_told m (as_first_base same begins at) = one_of_left (wrong ++ (size ++ behind_size)) (where_tells refused.UnknownName (true_both begins (misses_at same m)) at)
    section_told m (as_later_base same begins at) = past_three (later_told begins (misses_at same m) at (ends_with_base s.form) refl)
    section_told m (in_form e is u) = past_three (one_of_right at_second (one_of_left at_end (form_told is m u)))

  pub sections_found : (fold : Bool) (before : ℕ) (ss : List Section) → IsOneOf x (sections_rules all locals fold before ss) → SectionsUse ss
  sections_found fold before [] w = none_of w
  sections_found fold before (s ∷ rest) w = put (elim (one_of_two (section_rules all locals fold before s) (sections_rules all locals fold (before + 1) rest) w) [
    | inl u ↦ inl (section_found fold before s u)
    | inr u ↦ inr (sections_found fold (before + 1) rest u)
  ]) where
    put : SectionUse s ⊎ SectionsUse rest → SectionsUse (s ∷ rest)
    put (inl u) = record { section = s; is_listed = first_of_them refl; use_in = u }
    put (inr u) = record { section = u.section; is_listed = later_of_them u.is_listed; use_in = u.use_in }

  pub sections_told : {name : List ℕ} {scope : List Local} (fold : Bool) (before : ℕ) (ss : List Section) (s : Section) → IsOneOf s ss → meaning all scope name ≡ named.Missing → UsesInSection locals name line s scope
      → IsOneOf x (sections_rules all locals fold before ss)
  sections_told fold before [] s is m u = none_of is
  sections_told {name = name} {scope = scope} fold before (t ∷ rest) s (first_of_them same) m u =
      one_of_left _ (section_told fold before t m (subst (λ (i : Section). UsesInSection locals name line i scope) (sym same) u))
  sections_told fold before (t ∷ rest) s (later_of_them is) m u = one_of_right (section_rules all locals fold before t) (sections_told fold (before + 1) rest s is m u)

-- clauses, with these locals in scope in the grainsize of a task loop
module _ (line : ℕ) (all : List Item) (outer locals : List Local) where
  abbrev told : Refused
  told = broken refused.UnknownName line

  pub record ClauseUse (c : Clause) : Type 0 where
    pub scope : List Local
    pub name : List ℕ
    pub uses : UsesInClause outer locals name line c scope
    pub means : meaning all scope name ≡ named.Missing

  pub record ClausesUse (cs : List Clause) : Type 0 where
    pub clause : Clause
    pub is_listed : IsOneOf clause cs
    pub use_in : ClauseUse clause

  in_expression : {c : Clause} {scope : List Local} {e : Expr} → ((name : List ℕ) → Uses name line e → UsesInClause outer locals name line c scope) → UnknownUse line all scope e → ClauseUse c
  in_expression {scope = scope} put u = record { scope = scope; name = u.name; uses = put u.name u.uses; means = u.means }

  clause_found : (before : ℕ) (c : Clause) → IsOneOf told (loop_clause_rules all outer locals before c) → ClauseUse c
  clause_found before (clause.Depend mode strong fresh ss) w = put (sections_found line all locals (is_fold mode) before ss w) where
    put : SectionsUse line all locals ss → ClauseUse (clause.Depend mode strong fresh ss)
    put u = record { scope = u.use_in.scope; name = u.use_in.name; uses = in_section mode strong fresh ss u.section u.is_listed u.use_in.uses; means = u.use_in.means }
  clause_found before (clause.If e) w = in_expression (λ name u. in_if e u) (value_found line all locals wanted.Number e w)
  clause_found before (clause.Final e) w = in_expression (λ name u. in_final e u) (value_found line all locals wanted.Number e w)
  clause_found before clause.Wait w = none_of w
  clause_found before (clause.Label name) w = none_of w
  clause_found before (clause.Priority e) w = in_expression (λ name u. in_priority e u) (value_found line all locals wanted.Number e w)
  clause_found before (clause.Grain e) w = in_expression (λ name u. in_grain e u) (value_found line all outer wanted.Number e w)

  clause_told : {name : List ℕ} {c : Clause} {scope : List Local} (before : ℕ) → meaning all scope name ≡ named.Missing → UsesInClause outer locals name line c scope
      → IsOneOf told (loop_clause_rules all outer locals before c)
  clause_told before m (in_section mode strong fresh ss s is u) = sections_told line all locals (is_fold mode) before ss s is m u
  clause_told before m (in_if e u) = value_told line all locals wanted.Number e m u
  clause_told before m (in_final e u) = value_told line all locals wanted.Number e m u
  clause_told before m (in_priority e u) = value_told line all locals wanted.Number e m u
  clause_told before m (in_grain e u) = value_told line all outer wanted.Number e m u

  pub loop_clauses_found : (before : ℕ) (cs : List Clause) → IsOneOf told (loop_clauses_rules all outer locals before cs) → ClausesUse cs
  loop_clauses_found before [] w = none_of w
  loop_clauses_found before (c ∷ rest) w = put (elim (one_of_two (loop_clause_rules all outer locals before c) (loop_clauses_rules all outer locals (before + length (sections_in c)) rest) w) [
    | inl u ↦ inl (clause_found before c u)
    | inr u ↦ inr (loop_clauses_found (before + length (sections_in c)) rest u)
  ]) where
    put : ClauseUse c ⊎ ClausesUse rest → ClausesUse (c ∷ rest)
    put (inl u) = record { clause = c; is_listed = first_of_them refl; use_in = u }
    put (inr u) = record { clause = u.clause; is_listed = later_of_them u.is_listed; use_in = u.use_in }

  pub loop_clauses_told : {name : List ℕ} {scope : List Local} (before : ℕ) (cs : List Clause) (c : Clause) → IsOneOf c cs → meaning all scope name ≡ named.Missing → UsesInClause outer locals name line c scope
      → IsOneOf told (loop_clauses_rules all outer locals before cs)
  loop_clauses_told before [] c is m u = none_of is
  loop_clauses_told {name = name} {scope = scope} before (d ∷ rest) c (first_of_them same) m u =
      one_of_left _ (clause_told before m (subst (λ (i : Clause). UsesInClause outer locals name line i scope) (sym same) u))
  loop_clauses_told before (d ∷ rest) c (later_of_them is) m u = one_of_right (loop_clause_rules all outer locals before d) (loop_clauses_told (before + length (sections_in d)) rest c is m u)

-- the clauses of a task have one scope
module _ (line : ℕ) (all : List Item) (locals : List Local) where
  pub clauses_found : (before : ℕ) (cs : List Clause) → IsOneOf (broken refused.UnknownName line) (clauses_rules all locals before cs) → ClausesUse line all locals locals cs
  clauses_found before cs w = loop_clauses_found line all locals locals before cs (subst (λ (xs : List Refused). IsOneOf (broken refused.UnknownName line) xs) (sym (same_scope all locals before cs)) w)

  pub clauses_told : {name : List ℕ} {scope : List Local} (before : ℕ) (cs : List Clause) (c : Clause) → IsOneOf c cs → meaning all scope name ≡ named.Missing → UsesInClause locals locals name line c scope
      → IsOneOf (broken refused.UnknownName line) (clauses_rules all locals before cs)
  clauses_told before cs c is m u = subst (λ (xs : List Refused). IsOneOf (broken refused.UnknownName line) xs) (same_scope all locals before cs) (loop_clauses_told line all locals locals before cs c is m u)
