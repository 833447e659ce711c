-- How a pragma is read from its tokens, from left to right, by a reader of expressions. Each reader stands
-- for the part of the grammar of the same name. Read against: the line `#pragma oss task in(x) wait` is read as a task with two
-- clauses; in `#pragma oss taskwait in(x)` reading stops at `in`, since a wait has no dependencies; in `in(m[0][1][2])` it stops at
-- the third `[`, in `in({ a[k], k = 0 })` at the `}`, and in `#pragma oss task grainsize(4)` at `grainsize`, which `taskloop` takes.
use Rattle.std.specs.Prelude.{ℕ, Bool, false, ◌||◌, List, [], ◌∷◌, codes, Option, Some, None}
use Rattle.oss_syntax.specs.declared.access.Mode.{Mode}
use Rattle.oss_syntax.specs.declared.access.Mode.TheVariants.{Fold}
use Rattle.oss_syntax.specs.declared.access.Op.{Op}
use Rattle.oss_syntax.specs.declared.token.Token.{Token}
use Rattle.oss_syntax.specs.declared.tree.expr.Expr.{Expr}
use Rattle.oss_syntax.specs.declared.tree.expr.ExprKind.TheVariants as exprs
use Rattle.oss_syntax.specs.declared.tree.pragma.Clause.{Clause}
use Rattle.oss_syntax.specs.declared.tree.pragma.Clause.TheVariants as clause
use Rattle.oss_syntax.specs.declared.tree.pragma.Directive.{Directive}
use Rattle.oss_syntax.specs.declared.tree.pragma.Directive.TheVariants as directive
use Rattle.oss_syntax.specs.declared.tree.pragma.Form.{Form}
use Rattle.oss_syntax.specs.declared.tree.pragma.Form.TheVariants as form
use Rattle.oss_syntax.specs.declared.tree.pragma.Inner.{Inner}
use Rattle.oss_syntax.specs.declared.tree.pragma.Inner.TheVariants as inner_forms
use Rattle.oss_syntax.specs.declared.tree.pragma.Section.{Section}
use Rattle.oss_syntax.specs.declared.tree.pragma.Turns.{Turns}
use Rattle.oss_grammar.specs.Pragmas.{Single, counter, form_of_inner}
use Rattle.oss_grammar.specs.Pragmas.Single.{once_if, once_final, once_wait, once_label, once_priority, once_grain}
use Rattle.oss_grammar.specs.Reading.{Reader, has, read_one, read_then, read_nothing, read_mapped, read_both, read_either, read_steps}
use Rattle.oss_expressions.specs.TokenValues.{symbol_at, word_at, start_at, end_at, name_at, access_at, reduction_at, fold_at, label_at, single_at, begins_expression}
use Rattle.oss_expressions.specs.ExpressionReading.{latter, middle, and_then, read_next, read_list, read_brackets, read_index}
use Rattle.oss_expressions.specs.declared.cursor.Named.{Named}
use Rattle.oss_expressions.specs.declared.kinds.TaskKind.{TaskKind}
use Rattle.oss_expressions.specs.declared.kinds.TaskKind.TheVariants as task_kind

-- [ expr ] behind `:`
unfoldable pub read_upper : Reader Expr → Reader (Option Expr)
read_upper expression = read_either begins_expression (read_mapped Some expression) (read_nothing None)

-- ":" [ expr ], behind a lower end
unfoldable pub read_span : Reader Expr → Option Expr → Reader Inner
read_span expression first = read_mapped (inner_forms.Span first) (read_mapped latter (read_both (read_one (symbol_at (codes ":"))) (read_upper expression)))

-- ";" expr, behind a first place
unfoldable pub read_length : Reader Expr → Expr → Reader Inner
read_length expression first = read_mapped (inner_forms.Length first) (read_mapped latter (read_both (read_one (symbol_at (codes ";"))) expression))

-- What stands behind the first expression between the brackets.
unfoldable pub read_inner_from : Reader Expr → Expr → Reader Inner
read_inner_from expression first =
    read_either (has (symbol_at (codes ";"))) (read_length expression first)
    (read_either (has (symbol_at (codes ":"))) (read_span expression (Some first)) (read_nothing (inner_forms.Element first)))

-- expr | expr ";" expr | [ expr ] ":" [ expr ]
unfoldable pub read_inner : Reader Expr → Reader Inner
read_inner expression = read_either (has (symbol_at (codes ":"))) (read_span expression None) (read_then expression (read_inner_from expression))

-- The trees of the forms of sections.
abbrev pub whole_section : Named → Section
whole_section base = record { base = base.name; form = form.Whole; line = base.line; base_line = base.line }

abbrev pub pointed_section : ℕ × Named → Section
pointed_section p = record { base = p.1.name; form = form.Deref; line = p.0; base_line = p.1.line }

abbrev pub shape_section : ℕ × (Expr × (ℕ × Named)) → Section
shape_section p = record { base = p.1.1.1.name; form = form.Shape p.1.0; line = p.0; base_line = p.1.1.1.line }

abbrev pub part_section : Named → Form → Section
part_section base cells = record { base = base.name; form = cells; line = base.line; base_line = base.line }

abbrev pub turns_of : Named × (Expr × Expr) → Turns
turns_of p = record { variable = counter p.0.name p.1.0 p.0.line; count = p.1.1 }

abbrev pub many_section : ℕ × (Named × ((Expr × Option Expr) × Turns)) → Section
many_section p = record { base = p.1.0.name; form = form.Many p.1.1.0.0 p.1.1.0.1 p.1.1.1; line = p.0; base_line = p.1.0.line }

abbrev pub with_second : Expr → Expr → Expr × Option Expr
with_second first second = (first, Some second)

-- "*" name
unfoldable pub read_pointed : Reader Section
read_pointed = read_mapped pointed_section (read_both (read_one (symbol_at (codes "*"))) (read_one name_at))

-- "[" expr "]" name
unfoldable pub read_shape : Reader Expr → Reader Section
read_shape expression =
    read_mapped shape_section (read_both (read_one (symbol_at (codes "["))) (read_both expression (read_both (read_one (symbol_at (codes "]"))) (read_one name_at))))

-- "[" inner "]"
unfoldable pub read_dimension : Reader Expr → Reader Inner
read_dimension expression = read_mapped middle (read_both (read_one (symbol_at (codes "["))) (read_both (read_inner expression) (read_one (symbol_at (codes "]")))))

-- [ "[" inner "]" ], behind such a part: behind `[0:1]` of `m[0:1][1;2]` it gives both, behind that of `a[0:1]` the one alone
unfoldable pub read_columns : Reader Expr → Inner → Reader Form
read_columns expression rows = read_either (has (symbol_at (codes "["))) (read_mapped (form.Grid rows) (read_dimension expression)) (read_nothing (form_of_inner rows))

-- "[" inner "]" [ "[" inner "]" ], behind a base
unfoldable pub read_part : Reader Expr → Named → Reader Section
read_part expression base = read_mapped (part_section base) (read_then (read_dimension expression) (read_columns expression))

-- name [ "[" inner "]" [ "[" inner "]" ] ]
unfoldable pub read_based : Reader Expr → Reader Section
read_based expression = read_then (read_one name_at) (λ base. read_either (has (symbol_at (codes "["))) (read_part expression base) (read_nothing (whole_section base)))

-- "[" expr "]" [ "[" expr "]" ]: of `[e][f]` it gives both, of `[e]` the first alone
unfoldable pub read_indices : Reader Expr → Reader (Expr × Option Expr)
read_indices expression = read_then (read_index expression) (λ first. read_either (has (symbol_at (codes "["))) (read_mapped (with_second first) (read_index expression)) (read_nothing (first, None)))

-- "=" expr ";" expr: the first value of the variable, and how many turns there are
unfoldable pub read_bounds : Reader Expr → Reader (Expr × Expr)
read_bounds expression = read_mapped latter (read_both (read_one (symbol_at (codes "="))) (read_both expression (read_mapped latter (read_both (read_one (symbol_at (codes ";"))) expression))))

-- name "=" expr ";" expr
unfoldable pub read_turns : Reader Expr → Reader Turns
read_turns expression = read_mapped turns_of (read_both (read_one name_at) (read_bounds expression))

-- "," turns "}"
unfoldable pub read_closed_turns : Reader Expr → Reader Turns
read_closed_turns expression = read_mapped middle (read_both (read_one (symbol_at (codes ","))) (read_both (read_turns expression) (read_one (symbol_at (codes "}")))))

-- "{" name indices "," turns "}"
unfoldable pub read_many : Reader Expr → Reader Section
read_many expression =
    read_mapped many_section (read_both (read_one (symbol_at (codes "{"))) (read_both (read_one name_at) (read_both (read_indices expression) (read_closed_turns expression))))

-- name | "*" name | "[" expr "]" name | name "[" inner "]" [ "[" inner "]" ] | "{" name indices "," turns "}"
unfoldable pub read_section : Reader Expr → Reader Section
read_section expression =
    read_either (has (symbol_at (codes "*"))) read_pointed
    (read_either (has (symbol_at (codes "["))) (read_shape expression)
    (read_either (has (symbol_at (codes "{"))) (read_many expression) (read_based expression)))

-- section { "," section }
unfoldable pub read_sections : Reader Expr → Reader (List Section)
read_sections expression = read_list (read_section expression)

-- "(" sections ")"
unfoldable pub read_bracketed_sections : Reader Expr → Reader (List Section)
read_bracketed_sections expression = read_mapped middle (read_both (read_one (symbol_at (codes "("))) (read_both (read_sections expression) (read_one (symbol_at (codes ")")))))

abbrev pub dependency_of : (Mode × Bool × Bool) × List Section → Clause
dependency_of p = clause.Depend p.0.0 p.0.1 p.0.2 p.1

-- The word of an access, and its sections.
unfoldable pub read_depend : Reader Expr → Reader Clause
read_depend expression = read_mapped dependency_of (read_both (read_one access_at) (read_bracketed_sections expression))

-- op ":" sections ")"
unfoldable pub read_folded : Reader Expr → Reader (Op × List Section)
read_folded expression =
    read_both (read_one fold_at) (read_mapped middle (read_both (read_one (symbol_at (codes ":"))) (read_both (read_sections expression) (read_one (symbol_at (codes ")"))))))

abbrev pub reduction_of_parts : Bool × (Op × List Section) → Clause
reduction_of_parts p = clause.Depend (Fold p.1.0) p.0 false p.1.1

-- The word of a reduction, its operator and its sections.
unfoldable pub read_reduction : Reader Expr → Reader Clause
read_reduction expression = read_mapped reduction_of_parts (read_both (read_one reduction_at) (read_mapped latter (read_both (read_one (symbol_at (codes "("))) (read_folded expression))))

-- The word of a clause that stands once at most, which stands in none of those that were found, and its expression.
unfoldable pub read_single : Reader Expr → Single → List Clause → (Expr → Clause) → Reader Clause
read_single expression s found make = read_mapped make (read_mapped latter (read_both (read_one (single_at s found)) (read_brackets expression)))

-- "label" "(" ( name | string ) ")"
unfoldable pub read_label : List Clause → Reader Clause
read_label found =
    read_mapped clause.Label (read_mapped latter (read_both (read_one (single_at once_label found))
    (read_mapped middle (read_both (read_one (symbol_at (codes "("))) (read_both (read_one label_at) (read_one (symbol_at (codes ")"))))))))

-- "wait"
unfoldable pub read_waiting : List Clause → Reader Clause
read_waiting found = read_mapped (λ line. clause.Wait) (read_one (single_at once_wait found))

-- A clause of a task loop, behind those that were found.
unfoldable pub read_clause : Reader Expr → List Clause → Reader Clause
read_clause expression found =
    read_either (has access_at) (read_depend expression)
    (read_either (has reduction_at) (read_reduction expression)
    (read_either (has (single_at once_if found)) (read_single expression once_if found clause.If)
    (read_either (has (single_at once_final found)) (read_single expression once_final found clause.Final)
    (read_either (has (single_at once_wait found)) (read_waiting found)
    (read_either (has (single_at once_label found)) (read_label found)
    (read_either (has (single_at once_priority found)) (read_single expression once_priority found clause.Priority)
    (read_single expression once_grain found clause.Grain)))))))

-- A part, or a comma and then the part.
abbrev pub read_after_comma : {A : Type 0} → Reader A → Reader A
read_after_comma f = read_either (has (symbol_at (codes ","))) (read_next f) f

-- Whether a token begins a clause that stands once at most, and stands in none of those that were found.
abbrev pub begins_single : List Clause → Token → Bool
begins_single found t =
    has (single_at once_if found) t || (has (single_at once_final found) t || (has (single_at once_wait found) t
    || (has (single_at once_label found) t || (has (single_at once_priority found) t || has (single_at once_grain found) t))))

-- Whether a token begins a clause behind those that were found, or is a comma.
abbrev pub goes_on_with_clause : List Clause → Token → Bool
goes_on_with_clause found t = has (symbol_at (codes ",")) t || (has access_at t || (has reduction_at t || begins_single found t))

-- { [ "," ] clause }, behind those that were found
unfoldable pub read_clauses : Reader Expr → List Clause → Reader (List Clause)
read_clauses expression = read_steps goes_on_with_clause (λ found. read_mapped (and_then found) (read_after_comma (read_clause expression found)))

-- A task is read as if a grainsize stood before its clauses: so none of them is one. A task loop has none before.
abbrev pub no_grain : Clause
no_grain = clause.Grain (record { what = exprs.Number 0 false; line = 0 })

-- The clauses that were found, with what stands before them: of a task `in(x)` counts as a grainsize and `in(x)`.
abbrev pub counted_with : TaskKind → List Clause → List Clause
counted_with task_kind.Task found = no_grain ∷ found
counted_with task_kind.Loop found = found

-- The clauses without what stands before them.
abbrev pub without_first : List Clause → List Clause
without_first [] = []
without_first (c ∷ found) = found

abbrev pub found_of : TaskKind → List Clause → List Clause
found_of task_kind.Task counted = without_first counted
found_of task_kind.Loop counted = counted

-- { [ "," ] clause } of a task or of a task loop
unfoldable pub read_all_clauses : TaskKind → Reader Expr → Reader (List Clause)
read_all_clauses kind expression = read_mapped (found_of kind) (read_clauses expression (counted_with kind []))

abbrev pub goes_on_with_depend : List Clause → Token → Bool
goes_on_with_depend found t = has (symbol_at (codes ",")) t || has access_at t

-- { [ "," ] depend }, behind those that were found
unfoldable pub read_more_depends : Reader Expr → List Clause → Reader (List Clause)
read_more_depends expression = read_steps goes_on_with_depend (λ found. read_mapped (and_then found) (read_after_comma (read_depend expression)))

abbrev pub task_of : ℕ → ℕ × (List Clause × ℕ) → Directive
task_of line p = directive.Task (record { clauses = p.1.0; line = line })

-- "task" { [ "," ] clause } end, behind the first token of a pragma with this line
unfoldable pub read_task : Reader Expr → ℕ → Reader Directive
read_task expression line = read_mapped (task_of line) (read_both (read_one (word_at (codes "task"))) (read_both (read_all_clauses task_kind.Task expression) (read_one end_at)))

abbrev pub task_loop_of : ℕ → ℕ × (List Clause × ℕ) → Directive
task_loop_of line p = directive.TaskLoop (record { clauses = p.1.0; line = line })

-- "taskloop" { [ "," ] clause } end, behind the first token of a pragma with this line
unfoldable pub read_task_loop : Reader Expr → ℕ → Reader Directive
read_task_loop expression line =
    read_mapped (task_loop_of line) (read_both (read_one (word_at (codes "taskloop"))) (read_both (read_all_clauses task_kind.Loop expression) (read_one end_at)))

-- "on" "(" sections ")" end
unfoldable pub read_on : Reader Expr → Reader (List Section)
read_on expression = read_mapped middle (read_both (read_one (word_at (codes "on"))) (read_both (read_bracketed_sections expression) (read_one end_at)))

-- "taskwait" [ "on" "(" sections ")" ] end
unfoldable pub read_taskwait : Reader Expr → Reader Directive
read_taskwait expression =
    read_then (read_one (word_at (codes "taskwait"))) (λ line.
    read_either (has (word_at (codes "on"))) (read_mapped (λ sections. directive.TaskWait (Some sections)) (read_on expression)) (read_mapped (λ line. directive.TaskWait None) (read_one end_at)))

-- depend { [ "," ] depend }
unfoldable pub read_depends : Reader Expr → Reader (List Clause)
read_depends expression = read_then (read_depend expression) (λ first. read_more_depends expression (first ∷ []))

-- "release" depend { [ "," ] depend } end
unfoldable pub read_release : Reader Expr → Reader Directive
read_release expression = read_mapped (λ p. directive.Release (middle p)) (read_both (read_one (word_at (codes "release"))) (read_both (read_depends expression) (read_one end_at)))

-- start ( task | taskloop | taskwait | release )
unfoldable pub read_pragma : Reader Expr → Reader Directive
read_pragma expression =
    read_then (read_one start_at) (λ line.
    read_either (has (word_at (codes "task"))) (read_task expression line)
    (read_either (has (word_at (codes "taskloop"))) (read_task_loop expression line)
    (read_either (has (word_at (codes "taskwait"))) (read_taskwait expression) (read_release expression))))
