-- Readers of the parts of pragmas take a token at least, and how their loops go on.
use Rattle.std.proofs.Common.{List, codes, Option, Some, None}
use Rattle.oss_syntax.specs.declared.tree.expr.Expr.{Expr}
use Rattle.oss_syntax.specs.declared.tree.pragma.Clause.{Clause}
use Rattle.oss_syntax.specs.declared.tree.pragma.Clause.TheVariants as clause
use Rattle.oss_syntax.specs.declared.tree.pragma.Form.TheVariants as form
use Rattle.oss_syntax.specs.declared.tree.pragma.Inner.{Inner}
use Rattle.oss_syntax.specs.declared.tree.pragma.Inner.TheVariants as inner_forms
use Rattle.oss_syntax.specs.declared.tree.pragma.Section.{Section}
use Rattle.oss_grammar.specs.Pragmas.{Single, form_of_inner}
use Rattle.oss_grammar.specs.Pragmas.Single.{once_if, once_final, once_wait, once_label, once_priority, once_grain}
use Rattle.oss_grammar.specs.Reading.{Reader, has, read_nothing, read_mapped, read_either}
use Rattle.oss_expressions.specs.TokenValues.{symbol_at, name_at, access_at, reduction_at, fold_at, label_at, single_at, begins_expression}
use Rattle.oss_grammar.specs.Levels.{is_operator}
use Rattle.oss_expressions.specs.ExpressionReading.{latter, middle, and_then, read_next, read_index, read_expression}
use Rattle.oss_expressions.specs.declared.cursor.Named.{Named}
use Rattle.oss_expressions.proofs.StepLoops.{Takes, Keeps, keeps, takes_one, keeps_nothing, takes_mapped, takes_then, takes_both, takes_either, keeps_either, Repeats, repeats}
use Rattle.oss_expressions.proofs.ExpressionLoops.{takes_brackets, takes_whole, takes_next, takes_list, repeats_more}
use Rattle.oss_expressions.proofs.SightLemmas.{takes_counted}
use Rattle.oss_pragma.specs.PragmaReading.{read_upper, read_span, read_length, read_inner_from, read_inner, read_dimension, read_columns, whole_section, pointed_section, shape_section, part_section, turns_of, many_section, with_second, read_indices, read_bounds, read_turns, read_closed_turns, read_many, read_pointed, read_shape, read_part, read_based, read_section, read_sections, read_bracketed_sections, dependency_of, read_depend, read_folded, reduction_of_parts, read_reduction, read_single, read_label, read_waiting, read_clause, read_after_comma, goes_on_with_clause, goes_on_with_depend}

takes_after_comma : {A : Type 0} {f : Reader A} → Takes f → Takes (read_after_comma f)
takes_after_comma part = takes_either (has (symbol_at (codes ","))) (takes_next part) part

module _ {expression : Reader Expr} (takes : Takes expression) where
  keeps_upper : Keeps (read_upper expression)
  unfolding read_upper
  keeps_upper = keeps_either begins_expression (keeps (takes_mapped Some takes)) (keeps_nothing None)

  takes_span : (first : Option Expr) → Takes (read_span expression first)
  unfolding read_span
  takes_span first = takes_mapped (inner_forms.Span first) (takes_mapped latter (takes_both (takes_one (symbol_at (codes ":"))) keeps_upper))

  takes_length : (first : Expr) → Takes (read_length expression first)
  unfolding read_length
  takes_length first = takes_mapped (inner_forms.Length first) (takes_mapped latter (takes_both (takes_one (symbol_at (codes ";"))) (keeps takes)))

  keeps_inner_from : (first : Expr) → Keeps (read_inner_from expression first)
  unfolding read_inner_from
  keeps_inner_from first = keeps_either (has (symbol_at (codes ";"))) (keeps (takes_length first)) (keeps_either (has (symbol_at (codes ":"))) (keeps (takes_span (Some first))) (keeps_nothing (inner_forms.Element first)))

  takes_inner : Takes (read_inner expression)
  unfolding read_inner
  takes_inner = takes_either (has (symbol_at (codes ":"))) (takes_span None) (takes_then (read_inner_from expression) takes keeps_inner_from)

  takes_pointed : Takes read_pointed
  unfolding read_pointed
  takes_pointed = takes_mapped pointed_section (takes_both (takes_one (symbol_at (codes "*"))) (keeps (takes_one name_at)))

  takes_shape : Takes (read_shape expression)
  unfolding read_shape
  takes_shape = takes_mapped shape_section (takes_both (takes_one (symbol_at (codes "["))) (keeps (takes_both takes (keeps (takes_both (takes_one (symbol_at (codes "]"))) (keeps (takes_one name_at)))))))

  takes_dimension : Takes (read_dimension expression)
  unfolding read_dimension
  takes_dimension = takes_mapped middle (takes_both (takes_one (symbol_at (codes "["))) (keeps (takes_both takes_inner (keeps (takes_one (symbol_at (codes "]")))))))

  keeps_columns : (rows : Inner) → Keeps (read_columns expression rows)
  unfolding read_columns
  keeps_columns rows = keeps_either (has (symbol_at (codes "["))) (keeps (takes_mapped (form.Grid rows) takes_dimension)) (keeps_nothing (form_of_inner rows))

  takes_part : (base : Named) → Takes (read_part expression base)
  unfolding read_part
  takes_part base = takes_mapped (part_section base) (takes_then (read_columns expression) takes_dimension keeps_columns)

  takes_based : Takes (read_based expression)
  unfolding read_based
  takes_based = takes_then (λ base. read_either (has (symbol_at (codes "["))) (read_part expression base) (read_nothing (whole_section base))) (takes_one name_at)
      (λ base. keeps_either (has (symbol_at (codes "["))) (keeps (takes_part base)) (keeps_nothing (whole_section base)))

  takes_index : Takes (read_index expression)
  unfolding read_index
  takes_index = takes_mapped middle (takes_both (takes_one (symbol_at (codes "["))) (keeps (takes_both takes (keeps (takes_one (symbol_at (codes "]")))))))

  takes_indices : Takes (read_indices expression)
  unfolding read_indices
  takes_indices = takes_then (λ first. read_either (has (symbol_at (codes "["))) (read_mapped (with_second first) (read_index expression)) (read_nothing (first, None))) takes_index
      (λ first. keeps_either (has (symbol_at (codes "["))) (keeps (takes_mapped (with_second first) takes_index)) (keeps_nothing {A = Expr × Option Expr} (first, None)))

  takes_bounds : Takes (read_bounds expression)
  unfolding read_bounds
  takes_bounds = takes_mapped latter (takes_both (takes_one (symbol_at (codes "="))) (keeps (takes_both takes (keeps (takes_mapped latter (takes_both (takes_one (symbol_at (codes ";"))) (keeps takes)))))))

  takes_turns : Takes (read_turns expression)
  unfolding read_turns
  takes_turns = takes_mapped turns_of (takes_both (takes_one name_at) (keeps takes_bounds))

  takes_closed_turns : Takes (read_closed_turns expression)
  unfolding read_closed_turns
  takes_closed_turns = takes_mapped middle (takes_both (takes_one (symbol_at (codes ","))) (keeps (takes_both takes_turns (keeps (takes_one (symbol_at (codes "}")))))))

  takes_many : Takes (read_many expression)
  unfolding read_many
  takes_many = takes_mapped many_section (takes_both (takes_one (symbol_at (codes "{"))) (keeps (takes_both (takes_one name_at) (keeps (takes_both takes_indices (keeps takes_closed_turns))))))

  takes_section : Takes (read_section expression)
  unfolding read_section
  takes_section = takes_either (has (symbol_at (codes "*"))) takes_pointed (takes_either (has (symbol_at (codes "["))) takes_shape (takes_either (has (symbol_at (codes "{"))) takes_many takes_based))

  repeats_sections_of : Repeats {S = List Section} (λ found. has (symbol_at (codes ","))) and_then (λ found. read_next (read_section expression))
  repeats_sections_of = repeats_more takes_section

  takes_sections : Takes (read_sections expression)
  unfolding read_sections
  takes_sections = takes_list takes_section

  takes_bracketed_sections : Takes (read_bracketed_sections expression)
  unfolding read_bracketed_sections
  takes_bracketed_sections = takes_mapped middle (takes_both (takes_one (symbol_at (codes "("))) (keeps (takes_both takes_sections (keeps (takes_one (symbol_at (codes ")")))))))

  takes_depend : Takes (read_depend expression)
  unfolding read_depend
  takes_depend = takes_mapped dependency_of (takes_both (takes_one access_at) (keeps takes_bracketed_sections))

  takes_folded : Takes (read_folded expression)
  unfolding read_folded
  takes_folded = takes_both (takes_one fold_at) (keeps (takes_mapped middle (takes_both (takes_one (symbol_at (codes ":"))) (keeps (takes_both takes_sections (keeps (takes_one (symbol_at (codes ")")))))))))

  takes_reduction : Takes (read_reduction expression)
  unfolding read_reduction
  takes_reduction = takes_mapped reduction_of_parts (takes_both (takes_one reduction_at) (keeps (takes_mapped latter (takes_both (takes_one (symbol_at (codes "("))) (keeps takes_folded)))))

  takes_single : (s : Single) (found : List Clause) (make : Expr → Clause) → Takes (read_single expression s found make)
  unfolding read_single
  takes_single s found make = takes_mapped make (takes_mapped latter (takes_both (takes_one (single_at s found)) (keeps (takes_brackets takes))))

  takes_label : (found : List Clause) → Takes (read_label found)
  unfolding read_label
  takes_label found = takes_mapped clause.Label (takes_mapped latter (takes_both (takes_one (single_at once_label found))
      (keeps (takes_mapped middle (takes_both (takes_one (symbol_at (codes "("))) (keeps (takes_both (takes_one label_at) (keeps (takes_one (symbol_at (codes ")")))))))))))

  takes_waiting : (found : List Clause) → Takes (read_waiting found)
  unfolding read_waiting
  takes_waiting found = takes_mapped (λ line. clause.Wait) (takes_one (single_at once_wait found))

  takes_clause : (found : List Clause) → Takes (read_clause expression found)
  unfolding read_clause
  takes_clause found =
      takes_either (has access_at) takes_depend
      (takes_either (has reduction_at) takes_reduction
      (takes_either (has (single_at once_if found)) (takes_single once_if found clause.If)
      (takes_either (has (single_at once_final found)) (takes_single once_final found clause.Final)
      (takes_either (has (single_at once_wait found)) (takes_waiting found)
      (takes_either (has (single_at once_label found)) (takes_label found)
      (takes_either (has (single_at once_priority found)) (takes_single once_priority found clause.Priority)
      (takes_single once_grain found clause.Grain)))))))

  repeats_clauses_of : Repeats {S = List Clause} goes_on_with_clause and_then (λ found. read_after_comma (read_clause expression found))
  repeats_clauses_of = repeats goes_on_with_clause and_then (λ found. read_after_comma (read_clause expression found)) (λ found. takes_after_comma (takes_clause found))

  repeats_depends_of : Repeats {S = List Clause} goes_on_with_depend and_then (λ found. read_after_comma (read_depend expression))
  repeats_depends_of = repeats goes_on_with_depend and_then (λ found. read_after_comma (read_depend expression)) (λ found. takes_after_comma takes_depend)

takes_expression : Takes read_expression
unfolding read_expression
takes_expression = takes_counted is_operator 256 (takes_whole 64)

pub repeats_sections : Repeats {S = List Section} (λ found. has (symbol_at (codes ","))) and_then (λ found. read_next (read_section read_expression))
repeats_sections = repeats_sections_of takes_expression

pub repeats_clauses : Repeats {S = List Clause} goes_on_with_clause and_then (λ found. read_after_comma (read_clause read_expression found))
repeats_clauses = repeats_clauses_of takes_expression

pub repeats_depends : Repeats {S = List Clause} goes_on_with_depend and_then (λ found. read_after_comma (read_depend read_expression))
repeats_depends = repeats_depends_of takes_expression
