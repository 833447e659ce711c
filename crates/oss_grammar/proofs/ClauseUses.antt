-- Uses of names in clauses, where other locals of the same names are in scope.
use Rattle.std.proofs.Common.{ℕ, List, [], ◌∷◌, ◌++◌}
use Rattle.oss_syntax.specs.declared.tree.expr.Expr.{Expr}
use Rattle.oss_syntax.specs.declared.tree.pragma.Clause.{Clause}
use Rattle.oss_syntax.specs.declared.tree.pragma.Form.{Form}
use Rattle.oss_syntax.specs.declared.tree.pragma.Section.{Section}
use Rattle.oss_syntax.specs.declared.tree.program.Local.{Local}
use Rattle.oss_syntax.specs.declared.tree.stmt.LoopHead.{LoopHead}
use Rattle.oss_grammar.specs.Scopes.{hidden_local, loop_locals}
use Rattle.oss_grammar.specs.UnknownNames.{InForm, UsesInClause, UsesInClauses, UsesInSection, UsesInSections}
use Rattle.oss_grammar.specs.UnknownNames.InForm.{of_shape, of_element, of_length_first, of_length_count, of_span_first, of_span_last, of_rows, of_columns, of_index, of_second_index, of_first_turn, of_turns}
use Rattle.oss_grammar.specs.UnknownNames.UsesInSection.{as_first_base, as_later_base, in_form}
use Rattle.oss_grammar.specs.UnknownNames.UsesInClause.{in_section, in_if, in_final, in_priority, in_grain}
use Rattle.oss_grammar.proofs.VisibleLemmas.{SameNames, same_both}

pub same_loop : (head : LoopHead) {xs ys : List Local} → SameNames xs ys → SameNames (loop_locals head xs) (loop_locals head ys)
same_loop head same = same_both (hidden_local ∷ hidden_local ∷ hidden_local ∷ hidden_local ∷ head.variable ∷ []) same

record MovedForm (ys : List Local) (e : Expr) (f : Form) (scope : List Local) : Type 0 where
  other : List Local
  is_in : InForm ys e f other
  same : SameNames scope other

form_moved : {xs ys scope : List Local} {e : Expr} {f : Form} → SameNames xs ys → InForm xs e f scope → MovedForm ys e f scope
form_moved {ys = ys} same of_shape = record { other = ys; is_in = of_shape; same = same }
form_moved {ys = ys} same of_element = record { other = ys; is_in = of_element; same = same }
form_moved {ys = ys} same (of_length_first count) = record { other = ys; is_in = of_length_first count; same = same }
form_moved {ys = ys} same (of_length_count first) = record { other = ys; is_in = of_length_count first; same = same }
form_moved {ys = ys} same (of_span_first last) = record { other = ys; is_in = of_span_first last; same = same }
form_moved {ys = ys} same (of_span_last first) = record { other = ys; is_in = of_span_last first; same = same }
form_moved {ys = ys} same (of_rows columns is) = record { other = ys; is_in = of_rows columns is; same = same }
form_moved {ys = ys} same (of_columns rows is) = record { other = ys; is_in = of_columns rows is; same = same }
form_moved {ys = ys} same (of_index second turns) = record { other = ys ++ (turns.variable ∷ []); is_in = of_index second turns; same = same_both (turns.variable ∷ []) same }
form_moved {ys = ys} same (of_second_index first turns) = record { other = ys ++ (turns.variable ∷ []); is_in = of_second_index first turns; same = same_both (turns.variable ∷ []) same }
form_moved {ys = ys} same (of_first_turn first second turns is) = record { other = ys; is_in = of_first_turn first second turns is; same = same }
form_moved {ys = ys} same (of_turns first second turns is) = record { other = ys; is_in = of_turns first second turns is; same = same }

module _ (name : List ℕ) (line : ℕ) where
  record MovedSection (ys : List Local) (s : Section) (scope : List Local) : Type 0 where
    other : List Local
    uses : UsesInSection ys name line s other
    same : SameNames scope other

  section_moved : {xs ys scope : List Local} {s : Section} → SameNames xs ys → UsesInSection xs name line s scope → MovedSection ys s scope
  section_moved {ys = ys} same (as_first_base is begins at) = record { other = ys; uses = as_first_base is begins at; same = same }
  section_moved {ys = ys} same (as_later_base is begins at) = record { other = ys; uses = as_later_base is begins at; same = same }
  section_moved same (in_form e is u) = (let m = form_moved same is in record { other = m.other; uses = in_form e m.is_in u; same = m.same })

  record MovedClause (outer ys : List Local) (c : Clause) (scope : List Local) : Type 0 where
    other : List Local
    uses : UsesInClause outer ys name line c other
    same : SameNames scope other

  clause_moved : {os ps xs ys scope : List Local} {c : Clause} → SameNames os ps → SameNames xs ys → UsesInClause os xs name line c scope → MovedClause ps ys c scope
  clause_moved outer same (in_section mode strong fresh ss s is u) = (let m = section_moved same u in record { other = m.other; uses = in_section mode strong fresh ss s is m.uses; same = m.same })
  clause_moved {ys = ys} outer same (in_if e u) = record { other = ys; uses = in_if e u; same = same }
  clause_moved {ys = ys} outer same (in_final e u) = record { other = ys; uses = in_final e u; same = same }
  clause_moved {ys = ys} outer same (in_priority e u) = record { other = ys; uses = in_priority e u; same = same }
  clause_moved {ps = ps} outer same (in_grain e u) = record { other = ps; uses = in_grain e u; same = outer }

  pub record MovedClauses (outer ys : List Local) (cs : List Clause) (scope : List Local) : Type 0 where
    pub other : List Local
    pub uses : UsesInClauses outer ys name line cs other
    pub same : SameNames scope other

  pub clauses_moved : {os ps xs ys scope : List Local} {cs : List Clause} → SameNames os ps → SameNames xs ys → UsesInClauses os xs name line cs scope → MovedClauses ps ys cs scope
  clauses_moved outer same u = (let m = clause_moved outer same u.uses in record { other = m.other; uses = record { clause = u.clause; is_listed = u.is_listed; uses = m.uses }; same = m.same })

  pub record MovedSections (ys : List Local) (ss : List Section) (scope : List Local) : Type 0 where
    pub other : List Local
    pub uses : UsesInSections ys name line ss other
    pub same : SameNames scope other

  pub sections_moved : {xs ys scope : List Local} {ss : List Section} → SameNames xs ys → UsesInSections xs name line ss scope → MovedSections ys ss scope
  sections_moved same u = (let m = section_moved same u.uses in record { other = m.other; uses = record { section = u.section; is_listed = u.is_listed; uses = m.uses }; same = m.same })
