-- Rows worked by hand: the labels of some programs, of which the pages of definitions speak.
use Rattle.std.proofs.Common.{◌≡◌, ℕ, List, [], ◌∷◌, Option, Some, None, option_map, refl, rules}
use Rattle.std.specs.Prelude.{codes}
use Rattle.oss_syntax.specs.declared.tree.expr.Expr.{Expr}
use Rattle.oss_syntax.specs.declared.tree.pragma.Clause.{Clause}
use Rattle.oss_syntax.specs.declared.tree.pragma.Clause.TheVariants as clause
use Rattle.oss_syntax.specs.declared.tree.program.Function.{Function}
use Rattle.oss_syntax.specs.declared.tree.program.Item.{Item}
use Rattle.oss_syntax.specs.declared.tree.program.Item.TheVariants as items
use Rattle.oss_syntax.specs.declared.tree.program.Kind.TheVariants as kind
use Rattle.oss_syntax.specs.declared.tree.stmt.Stmt.{Stmt}
use Rattle.oss_syntax.specs.declared.tree.stmt.StmtKind.TheFolds.{the_lemmas as stmt_folds}
use Rattle.oss_syntax.specs.declared.tree.stmt.StmtKind.TheVariants as stmts
use Rattle.oss_meaning.specs.Expressions.{TaskBody}
use Rattle.oss_meaning.proofs.RowTrees.{main_of, on, task}
use Rattle.oss_code.specs.declared.instr.Instr.TheVariants as i
use Rattle.oss_labels.specs.Creations.{creations, joined, labels_in_code}
use Rattle.oss_labels.specs.Labels.{both_labels, label_of, loop_labels, no_labels, part_labels, stmt_labels, task_labels}
use Rattle.oss_labels.specs.Lists.{label_at}
use Rattle.oss_labels.specs.declared.labels.Labelled.{Labelled}

-- what each form becomes
labels-empty : (line : ℕ) → stmt_labels (on line stmts.Empty) ≡ no_labels
labels-empty line = search (rules, stmt_folds)

labels-task : (line at : ℕ) (clauses : List Clause) (body : Stmt) → stmt_labels (on line (stmts.Task (record { clauses = clauses; line = at }) body)) ≡ task_labels clauses (stmt_labels body)
labels-task line at clauses body = search (rules, stmt_folds)

labels-for : (line : ℕ) (first : Option Stmt) (test : Option Expr) (last : Option Stmt) (body : Stmt)
    → stmt_labels (on line (stmts.For first test last body))
    ≡ both_labels (part_labels (option_map stmt_labels first)) (loop_labels (part_labels (option_map stmt_labels last)) (stmt_labels body))
labels-for line first test last body = search (rules, stmt_folds)

ruleset forms = (labels-empty, labels-task, labels-for)

-- `#pragma oss task label(f) void f() {}`
abbrev f : Function
f = record { name = codes "f"; result = kind.Nothing; params = []; mark = Some (record { clauses = clause.Wait ∷ clause.Label (codes "f") ∷ []; line = 1 }); body = []; line = 2 }

-- a task statement with the label `two`, and one without
abbrev two : Stmt
two = task 4 (clause.Label (codes "two") ∷ []) (on 5 stmts.Empty)

abbrev bare : Stmt
bare = task 6 (clause.Wait ∷ []) (on 7 stmts.Empty)

abbrev both : List Item
both = items.Function f ∷ main_of (two ∷ bare ∷ []) ∷ []

of_function : label_of both (TaskBody.function 0) ≡ Some (codes "f")
of_function = refl

of_main_function : label_of both (TaskBody.function 1) ≡ None
of_main_function = refl

of_main : label_of both TaskBody.main ≡ None
of_main = refl

of_two : label_of both (TaskBody.statement 0) ≡ Some (codes "two")
of_two = simp forms

of_bare : label_of both (TaskBody.statement 1) ≡ None
of_bare = simp forms

-- no third task statement
of_none : label_of both (TaskBody.statement 2) ≡ None
of_none = simp forms

-- in the order of the code the function comes first
in_order : labels_in_code (f ∷ []) ≡ Some (codes "f") ∷ []
in_order = refl

-- A `for` with a task as its last part and another one as its body: the body has the number 1, and is written first.
abbrev turned : Stmt
turned = on 3 (stmts.For None None (Some bare) two)

turned_in_text : (stmt_labels turned).in_text ≡ None ∷ Some (codes "two") ∷ []
turned_in_text = simp forms

turned_in_code : (stmt_labels turned).in_code ≡ Some (codes "two") ∷ None ∷ []
turned_in_code = simp forms

-- `Tick, Begin, Create 4, Skip 7` from place 10 on
led : creations 10 (i.Tick ∷ i.Begin ∷ i.Create 4 ∷ i.Skip 7 ∷ []) ≡ 17 ∷ []
led = refl

abbrev at_30 : List Labelled
at_30 = joined (17 ∷ 30 ∷ []) (None ∷ Some (codes "two") ∷ [])

-- `two` at 30
joined_two : at_30 ≡ record { entry = 30; label = codes "two" } ∷ []
joined_two = refl

found_at_30 : label_at at_30 30 ≡ Some (codes "two")
found_at_30 = refl

none_at_17 : label_at at_30 17 ≡ None
none_at_17 = refl
