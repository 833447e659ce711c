-- Which kinds of rules sections, clauses and declarators break.
use Rattle.std.proofs.Common.{◌≡◌, ℕ, ◌+◌, ◌&&◌, ◌||◌, Bool, true, false, not, List, [], ◌∷◌, ◌++◌, length, subst, Option, Some, None}
use Rattle.std.specs.Prelude.{◌==◌, nat_le}
use Rattle.std.specs.Str.{bytes_eq}
use Rattle.oss_syntax.specs.declared.refusal.Refused.{Refused}
use Rattle.oss_syntax.specs.declared.refusal.RefusedKind.{RefusedKind}
use Rattle.oss_syntax.specs.declared.refusal.RefusedKind.TheVariants as refused
use Rattle.oss_syntax.specs.declared.tree.pragma.Clause.{Clause}
use Rattle.oss_syntax.specs.declared.tree.pragma.Clause.TheVariants as clause
use Rattle.oss_syntax.specs.declared.tree.pragma.Form.{Form}
use Rattle.oss_syntax.specs.declared.tree.pragma.Form.TheVariants as form
use Rattle.oss_syntax.specs.declared.tree.pragma.Inner.{Inner}
use Rattle.oss_syntax.specs.declared.tree.pragma.Inner.TheVariants as inner_forms
use Rattle.oss_syntax.specs.declared.tree.pragma.Section.{Section}
use Rattle.oss_syntax.specs.declared.tree.pragma.TaskMark.{TaskMark}
use Rattle.oss_syntax.specs.declared.tree.program.Item.{Item}
use Rattle.oss_syntax.specs.declared.tree.program.Local.{Local}
use Rattle.oss_syntax.specs.declared.tree.stmt.LoopHead.{LoopHead}
use Rattle.oss_grammar.specs.declared.kinds.Wanted.TheVariants as wanted
use Rattle.oss_grammar.specs.ProgramRules.{mark_rules}
use Rattle.oss_grammar.specs.Scopes.{is_local_again, loop_locals, meaning}
use Rattle.oss_grammar.specs.SectionRules.{begins_with_base, clauses_rules, ends_with_base, form_rules, inner_rules, is_fold, is_missing, is_wrong_section, loop_clause_rules, loop_clauses_rules, section_rules, sections_in, sections_rules}
use Rattle.oss_grammar.specs.StaticRules.{declare_all, head_rules, wait_rules, with_local}
use Rattle.oss_grammar.proofs.ClauseScopes.{same_scope}
use Rattle.oss_grammar.proofs.KindLemmas.{Only, only_none, only_two, only_where, only_optional, only_value, only_returned}

module _ (test : RefusedKind → Bool) (unknown : test refused.UnknownName ≡ true) (wrong : test refused.WrongKind ≡ true) (count : test refused.WrongCount ≡ true) (large : test refused.TooLarge ≡ true)
    (all : List Item) where
  module _ (locals : List Local) where
    only_inner : (d : Inner) → Only test (inner_rules all locals d)
    only_inner (inner_forms.Element e) = only_value test unknown wrong count all locals wanted.Number e
    only_inner (inner_forms.Length e n) = only_two (only_value test unknown wrong count all locals wanted.Number e) (only_value test unknown wrong count all locals wanted.Number n)
    only_inner (inner_forms.Span e u) = only_two (only_optional test unknown wrong count all locals e) (only_optional test unknown wrong count all locals u)

    only_form : (f : Form) → Only test (form_rules all locals f)
    only_form form.Whole = only_none test
    only_form form.Deref = only_none test
    only_form (form.Shape e) = only_value test unknown wrong count all locals wanted.Number e
    only_form (form.Element e) = only_value test unknown wrong count all locals wanted.Number e
    only_form (form.Length e n) = only_two (only_value test unknown wrong count all locals wanted.Number e) (only_value test unknown wrong count all locals wanted.Number n)
    only_form (form.Span e u) = only_two (only_optional test unknown wrong count all locals e) (only_optional test unknown wrong count all locals u)
    only_form (form.Grid rows columns) = only_two (only_inner rows) (only_inner columns)
    only_form (form.Many e f turns) =
        only_two (only_value test unknown wrong count all (locals ++ (turns.variable ∷ [])) wanted.Number e)
        (only_two (only_optional test unknown wrong count all (locals ++ (turns.variable ∷ [])) f)
        (only_two (only_where test (nat_le 255 (length locals)) refused.TooLarge turns.variable.line large)
        (only_two (only_optional test unknown wrong count all locals turns.variable.first)
        (only_value test unknown wrong count all locals wanted.Number turns.count))))

    only_section : (fold : Bool) (before : ℕ) (s : Section) → Only test (section_rules all locals fold before s)
    only_section fold before s =
        only_two (only_where test (begins_with_base s.form && is_missing (meaning all locals s.base)) refused.UnknownName s.line unknown)
        (only_two (only_where test (is_wrong_section fold s.form (meaning all locals s.base)) refused.WrongKind s.line wrong)
        (only_two (only_where test (before == 64) refused.TooLarge s.line large)
        (only_two (only_where test (not (begins_with_base s.form || ends_with_base s.form) && is_missing (meaning all locals s.base)) refused.UnknownName s.base_line unknown)
        (only_two (only_form s.form)
        (only_where test (ends_with_base s.form && is_missing (meaning all locals s.base)) refused.UnknownName s.base_line unknown)))))

    only_sections : (fold : Bool) (before : ℕ) (ss : List Section) → Only test (sections_rules all locals fold before ss)
    only_sections fold before [] = only_none test
    only_sections fold before (s ∷ rest) = only_two (only_section fold before s) (only_sections fold (before + 1) rest)

  -- clauses, with these locals in scope in the grainsize of a task loop
  module _ (outer inside : List Local) where
    only_loop_clause : (before : ℕ) (c : Clause) → Only test (loop_clause_rules all outer inside before c)
    only_loop_clause before (clause.Depend m strong fresh sections) = only_sections inside (is_fold m) before sections
    only_loop_clause before (clause.If e) = only_value test unknown wrong count all inside wanted.Number e
    only_loop_clause before (clause.Final e) = only_value test unknown wrong count all inside wanted.Number e
    only_loop_clause before clause.Wait = only_none test
    only_loop_clause before (clause.Label name) = only_none test
    only_loop_clause before (clause.Priority e) = only_value test unknown wrong count all inside wanted.Number e
    only_loop_clause before (clause.Grain e) = only_value test unknown wrong count all outer wanted.Number e

    only_loop_clauses : (before : ℕ) (cs : List Clause) → Only test (loop_clauses_rules all outer inside before cs)
    only_loop_clauses before [] = only_none test
    only_loop_clauses before (c ∷ rest) = only_two (only_loop_clause before c) (only_loop_clauses (before + length (sections_in c)) rest)

  module _ (locals : List Local) where
    pub only_clauses : (before : ℕ) (cs : List Clause) → Only test (clauses_rules all locals before cs)
    only_clauses before cs = subst (λ (xs : List Refused). Only test xs) (same_scope all locals before cs) (only_loop_clauses locals locals before cs)

    pub only_wait : (sections : Option (List Section)) → Only test (wait_rules all locals sections)
    only_wait None = only_none test
    only_wait (Some sections) = only_sections locals false 0 sections

    pub only_mark : (mark : Option TaskMark) → Only test (mark_rules all locals mark)
    only_mark None = only_none test
    only_mark (Some mark) = only_clauses 0 mark.clauses

  pub only_head : (locals : List Local) (head : LoopHead) → Only test (head_rules all locals head)
  only_head locals head =
      only_two (only_loop_clauses locals (loop_locals head locals) 0 head.mark.clauses)
      (only_two (only_where test (nat_le 251 (length locals)) refused.TooLarge head.variable.line large)
      (only_two (only_optional test unknown wrong count all locals head.variable.first)
      (only_two (only_where test (not (bytes_eq head.tested.name head.variable.name)) refused.WrongKind head.tested.line wrong)
      (only_two (only_value test unknown wrong count all locals wanted.Number head.end)
      (only_where test (bytes_eq head.tested.name head.variable.name && not (bytes_eq head.stepped.name head.variable.name)) refused.WrongKind head.stepped.line wrong)))))

  pub only_declared : (again : test refused.DuplicateName ≡ true) (start : ℕ) (ls locals : List Local) → Only test (declare_all all start ls locals).broken
  only_declared again start [] locals = only_none test
  only_declared again start (l ∷ rest) locals =
      only_two
      (only_two (only_where test (is_local_again start locals l.name) refused.DuplicateName l.line again)
      (only_two (only_where test (nat_le 255 (length locals)) refused.TooLarge l.line large)
      (only_returned test unknown wrong count all locals l.kind l.first)))
      (only_declared again start rest (with_local (is_local_again start locals l.name) l locals))
