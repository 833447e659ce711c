-- Rows worked by hand: what bodies that create tasks, wait and release ask for, and the cells that their sections name.
use Rattle.std.proofs.Common.{◌≡◌, ℕ, true, false, List, [], ◌∷◌, ◌++◌, map, Some, None, refl, sym, subst}
use Rattle.std.specs.Prelude.{codes, pos, neg_ℤ, slice_get}
use Rattle.oss_syntax.specs.declared.access.Mode.TheVariants as mode
use Rattle.oss_syntax.specs.declared.access.Op.TheVariants as fold_op
use Rattle.oss_syntax.specs.declared.fault.FaultKind.TheVariants as fault
use Rattle.oss_syntax.specs.declared.tree.expr.BinOp.TheVariants as op
use Rattle.oss_syntax.specs.declared.tree.expr.Expr.{Expr}
use Rattle.oss_syntax.specs.declared.tree.pragma.Clause.TheVariants as clause
use Rattle.oss_syntax.specs.declared.tree.pragma.Form.TheVariants as form
use Rattle.oss_syntax.specs.declared.tree.pragma.Inner.TheVariants as inner
use Rattle.oss_syntax.specs.declared.tree.pragma.Section.{Section}
use Rattle.oss_syntax.specs.declared.tree.program.Function.{Function}
use Rattle.oss_syntax.specs.declared.tree.program.Item.{Item}
use Rattle.oss_syntax.specs.declared.tree.program.Item.TheVariants as items
use Rattle.oss_syntax.specs.declared.tree.program.Kind.TheVariants as kind
use Rattle.oss_syntax.specs.declared.tree.program.Local.{Local}
use Rattle.oss_syntax.specs.declared.tree.program.NumKind.TheVariants as num
use Rattle.oss_syntax.specs.declared.tree.stmt.Stmt.{Stmt}
use Rattle.oss_syntax.specs.declared.tree.stmt.StmtKind.TheVariants as stmts
use Rattle.oss_model.specs.Bodies.{Asked}
use Rattle.oss_model.specs.Bodies.Ask.{Begin, Create, End, Fails, Read, Release, Tick, Wait, WaitOn, Write}
use Rattle.oss_meaning.specs.declared.value.Value.{Value}
use Rattle.oss_meaning.specs.declared.value.Value.TheVariants as value
use Rattle.oss_meaning.specs.Expressions.{Calls, TaskBody, TreeRun, TreeScript}
use Rattle.oss_meaning.specs.Meaning.{function_place, statement_run, within}
use Rattle.oss_meaning.specs.Sections.{declared_on, ranges_of, section_run}
use Rattle.oss_meaning.specs.Statements.{Meaning, Ways, bodies_of_all, meanings_of, nothing_done, simple}
use Rattle.oss_meaning.specs.Statements.{task as task_statement}
use Rattle.oss_meaning.proofs.FrontLemmas.{fronts_and_forms}
use Rattle.oss_meaning.proofs.RowTrees.{number, name, element, joined, call, on, set, local, long, pointer, section, reads, task, x, i, b, u, p, globals_before, function, main_of, program_with, program, asks_of_body, asks, asked, read_cells, creation, here_in, done, pointing_at}

-- Sections

-- the ranges of some cells, by their ends
abbrev bounds_of : List ℕ → List (ℕ × ℕ)
bounds_of cells = map (λ r. (r.lo, r.hi)) (ranges_of cells)

neighbours_joined : bounds_of (1 ∷ 2 ∷ 5 ∷ 6 ∷ []) ≡ (1, 3) ∷ (5, 7) ∷ []
neighbours_joined = refl

falling_apart : bounds_of (4 ∷ 3 ∷ []) ≡ (4, 5) ∷ (3, 4) ∷ []
falling_apart = refl

-- what a section evaluates with these locals, and how it goes on with its cells
abbrev section_here : Section → List Local → List Value → (List ℕ → TreeRun) → TreeRun
section_here s scope locals go = section_run (program []) scope s 3 (here_in (program [])) locals go

-- `x`, `a` and `m`
scalar_named : (go : List ℕ → TreeRun) → section_here (section (codes "x") form.Whole) ([]) ([]) go ([]) ≡ go (0 ∷ []) []
scalar_named go = refl

array_named : (go : List ℕ → TreeRun) → section_here (section (codes "a") form.Whole) ([]) ([]) go ([]) ≡ go (1 ∷ 2 ∷ 3 ∷ []) []
array_named go = refl

grid_named : (go : List ℕ → TreeRun) → section_here (section (codes "m") form.Whole) ([]) ([]) go ([]) ≡ go (8 ∷ 9 ∷ 10 ∷ 11 ∷ 12 ∷ 13 ∷ 14 ∷ 15 ∷ 16 ∷ 17 ∷ 18 ∷ 19 ∷ []) []
grid_named go = refl

-- `a[1;u]`: two elements, none of any place, and a negative number
length_named : (go : List ℕ → TreeRun) → section_here (section (codes "a") (form.Length (number 1) u)) ([]) ([]) go (2 ∷ []) ≡ go (2 ∷ 3 ∷ []) []
length_named go = simp fronts_and_forms

length_none : (go : List ℕ → TreeRun) → section_here (section (codes "a") (form.Length (number 9) u)) ([]) ([]) go (0 ∷ []) ≡ go [] []
length_none go = simp fronts_and_forms

length_negative : (go : List ℕ → TreeRun) → section_here (section (codes "a") (form.Length (number 1) u)) ([]) ([]) go (18446744073709551615 ∷ []) ≡ asked (Fails fault.OutOfRange) 3
length_negative go = simp fronts_and_forms

-- `a[1:]`, `a[:i]`, and `a[i:u]` in text order
span_named : (go : List ℕ → TreeRun) → section_here (section (codes "a") (form.Span (Some (number 1)) None)) ([]) ([]) go ([]) ≡ go (2 ∷ 3 ∷ []) []
span_named go = simp fronts_and_forms

span_from_first : (go : List ℕ → TreeRun) → section_here (section (codes "a") (form.Span None (Some i))) ([]) ([]) go (1 ∷ []) ≡ go (1 ∷ 2 ∷ []) []
span_from_first go = simp fronts_and_forms

span_of_both : (go : List ℕ → TreeRun) → section_here (section (codes "a") (form.Span (Some i) (Some u))) ([]) ([]) go (1 ∷ 2 ∷ []) ≡ go (2 ∷ 3 ∷ []) []
span_of_both go = simp fronts_and_forms

span_outside : (go : List ℕ → TreeRun) → section_here (section (codes "a") (form.Span (Some i) (Some u))) ([]) ([]) go (1 ∷ 3 ∷ []) ≡ asked (Fails fault.OutOfRange) 3
span_outside go = simp fronts_and_forms

-- `*p`, `[2]p`, `p[i]` and `p[0;0]` of a local pointer
pointed_named : (go : List ℕ → TreeRun) → section_here (section (codes "p") form.Deref) (pointer (codes "p") None ∷ []) (pointing_at 1 (pos 1) ∷ []) go ([]) ≡ go (2 ∷ []) []
pointed_named go = refl

shape_named : (go : List ℕ → TreeRun) → section_here (section (codes "p") (form.Shape (number 2))) (pointer (codes "p") None ∷ []) (pointing_at 1 (pos 1) ∷ []) go ([]) ≡ go (2 ∷ 3 ∷ []) []
shape_named go = simp fronts_and_forms

pointed_back : (go : List ℕ → TreeRun) → section_here (section (codes "p") (form.Element i)) (pointer (codes "p") None ∷ []) (pointing_at 1 (pos 1) ∷ []) go (18446744073709551615 ∷ []) ≡ go (1 ∷ []) []
pointed_back go = simp fronts_and_forms

nowhere_none : (go : List ℕ → TreeRun) → section_here (section (codes "p") (form.Length (number 0) (number 0))) (pointer (codes "p") None ∷ []) (value.Nowhere ∷ []) go ([]) ≡ go [] []
nowhere_none go = simp fronts_and_forms

nowhere_named : (go : List ℕ → TreeRun) → section_here (section (codes "p") (form.Length (number 0) (number 1))) (pointer (codes "p") None ∷ []) (value.Nowhere ∷ []) go ([]) ≡ asked (Fails fault.OutOfRange) 3
nowhere_named go = simp fronts_and_forms

-- a pointer into `m` moves over its cells one by one
rows_pointed : (go : List ℕ → TreeRun) → section_here (section (codes "p") (form.Length (number 1) (number 5))) (pointer (codes "p") None ∷ []) (pointing_at 5 (pos 2) ∷ []) go ([]) ≡ go (11 ∷ 12 ∷ 13 ∷ 14 ∷ 15 ∷ []) []
rows_pointed go = simp fronts_and_forms

-- `m[i]`, `m[0:1][1;2]`, `m[1][:]` and `m[0;2][0;5]`
row_named : (go : List ℕ → TreeRun) → section_here (section (codes "m") (form.Element i)) ([]) ([]) go (2 ∷ []) ≡ go (16 ∷ 17 ∷ 18 ∷ 19 ∷ []) []
row_named go = simp fronts_and_forms

grid_part : (go : List ℕ → TreeRun) → section_here (section (codes "m") (form.Grid (inner.Span (Some (number 0)) (Some (number 1))) (inner.Length (number 1) (number 2)))) ([]) ([]) go ([]) ≡ go (9 ∷ 10 ∷ 13 ∷ 14 ∷ []) []
grid_part go = simp fronts_and_forms

grid_row : (go : List ℕ → TreeRun) → section_here (section (codes "m") (form.Grid (inner.Element (number 1)) (inner.Span None None))) ([]) ([]) go ([]) ≡ go (12 ∷ 13 ∷ 14 ∷ 15 ∷ []) []
grid_row go = simp fronts_and_forms

grid_outside : (go : List ℕ → TreeRun) → section_here (section (codes "m") (form.Grid (inner.Length (number 0) (number 2)) (inner.Length (number 0) (number 5)))) ([]) ([]) go ([]) ≡ asked (Fails fault.OutOfRange) 3
grid_outside go = simp fronts_and_forms

-- `m[i:u][x]` evaluates `i`, `u` and `x`
grid_order : (go : List ℕ → TreeRun) → section_here (section (codes "m") (form.Grid (inner.Span (Some i) (Some u)) (inner.Element x))) ([]) ([]) go (1 ∷ 2 ∷ 3 ∷ []) ≡ go (15 ∷ 19 ∷ []) []
grid_order go = simp fronts_and_forms

-- `{ a[b[k]], k = i; u }` loads the first value and the number of turns, and then an index in each turn
many_named : (go : List ℕ → TreeRun) → section_here (section (codes "a") (form.Many (element b (name (codes "k"))) None (record { variable = local (codes "k") (kind.Num num.Long) (Some i); count = u }))) ([]) ([]) go (0 ∷ 2 ∷ 2 ∷ 0 ∷ []) ≡ go (3 ∷ 1 ∷ []) []
many_named go = simp fronts_and_forms

many_first : (go : List ℕ → TreeRun) → section_here (section (codes "a") (form.Many (element b (name (codes "k"))) None (record { variable = local (codes "k") (kind.Num num.Long) (Some i); count = u }))) ([]) ([]) go ([]) ≡ asked (Read 4) 3
many_first go = simp fronts_and_forms

many_count : (go : List ℕ → TreeRun) → section_here (section (codes "a") (form.Many (element b (name (codes "k"))) None (record { variable = local (codes "k") (kind.Num num.Long) (Some i); count = u }))) ([]) ([]) go (0 ∷ []) ≡ asked (Read 7) 3
many_count go = simp fronts_and_forms

many_index : (go : List ℕ → TreeRun) → section_here (section (codes "a") (form.Many (element b (name (codes "k"))) None (record { variable = local (codes "k") (kind.Num num.Long) (Some i); count = u }))) ([]) ([]) go (0 ∷ 2 ∷ []) ≡ asked (Read 5) 3
many_index go = simp fronts_and_forms

many_next : (go : List ℕ → TreeRun) → section_here (section (codes "a") (form.Many (element b (name (codes "k"))) None (record { variable = local (codes "k") (kind.Num num.Long) (Some i); count = u }))) ([]) ([]) go (0 ∷ 2 ∷ 2 ∷ []) ≡ asked (Read 6) 3
many_next go = simp fronts_and_forms

-- an index that is outside of `a` ends the turns, and so does an index of `b`
many_outside : (go : List ℕ → TreeRun) → section_here (section (codes "a") (form.Many (element b (name (codes "k"))) None (record { variable = local (codes "k") (kind.Num num.Long) (Some i); count = u }))) ([]) ([]) go (0 ∷ 2 ∷ 3 ∷ []) ≡ asked (Fails fault.OutOfRange) 3
many_outside go = simp fronts_and_forms

many_past : (go : List ℕ → TreeRun) → section_here (section (codes "a") (form.Many (element b (name (codes "k"))) None (record { variable = local (codes "k") (kind.Num num.Long) (Some i); count = u }))) ([]) ([]) go (1 ∷ 2 ∷ 0 ∷ []) ≡ asked (Fails fault.OutOfRange) 3
many_past go = simp fronts_and_forms

-- no turn, and a number of turns that is negative
many_none : (go : List ℕ → TreeRun) → section_here (section (codes "a") (form.Many (element b (name (codes "k"))) None (record { variable = local (codes "k") (kind.Num num.Long) (Some i); count = u }))) ([]) ([]) go (0 ∷ 0 ∷ []) ≡ go [] []
many_none go = simp fronts_and_forms

many_negative : (go : List ℕ → TreeRun) → section_here (section (codes "a") (form.Many (element b (name (codes "k"))) None (record { variable = local (codes "k") (kind.Num num.Long) (Some i); count = u }))) ([]) ([]) go (0 ∷ 18446744073709551615 ∷ []) ≡ asked (Fails fault.OutOfRange) 3
many_negative go = simp fronts_and_forms

-- `{ m[k], k = 1; 2 }` and `{ m[k][k], k = 1; 2 }`
many_rows : (go : List ℕ → TreeRun) → section_here (section (codes "m") (form.Many (name (codes "k")) None (record { variable = local (codes "k") (kind.Num num.Long) (Some (number 1)); count = number 2 }))) ([]) ([]) go ([]) ≡ go (12 ∷ 13 ∷ 14 ∷ 15 ∷ 16 ∷ 17 ∷ 18 ∷ 19 ∷ []) []
many_rows go = simp fronts_and_forms

many_elements : (go : List ℕ → TreeRun) → section_here (section (codes "m") (form.Many (name (codes "k")) (Some (name (codes "k"))) (record { variable = local (codes "k") (kind.Num num.Long) (Some (number 1)); count = number 2 }))) ([]) ([]) go ([]) ≡ go (13 ∷ 18 ∷ []) []
many_elements go = simp fronts_and_forms

-- Task statements

-- `task in(x, a[i])` on line 3, before `u = 1;`
abbrev two_sections : Stmt
two_sections = task 3 (reads (section (codes "x") form.Whole ∷ section (codes "a") (form.Element i) ∷ []) ∷ []) (set 4 u (number 1))

both_declared : asks (program (two_sections ∷ [])) (0 ∷ 0 ∷ 2 ∷ 0 ∷ [])
    ≡ asked Tick 3 ∷ asked Begin 3 ∷ asked (Read 4) 3 ∷ asked (creation (TaskBody.statement 0) [] (read_cells (0 ∷ []) ++ read_cells (3 ∷ []))) 3 ∷ asked End 2 ∷ []
both_declared = simp fronts_and_forms

-- the second section fails
second_failing : asks (program (two_sections ∷ [])) (0 ∷ 0 ∷ 3 ∷ []) ≡ asked Tick 3 ∷ asked Begin 3 ∷ asked (Read 4) 3 ∷ asked (Fails fault.OutOfRange) 3 ∷ []
second_failing = simp fronts_and_forms

-- the body of the task
body_asked : asks_of_body (program (two_sections ∷ [])) (TaskBody.statement 0) [] (0 ∷ 0 ∷ []) ≡ asked Tick 4 ∷ asked (Write 7 1) 4 ∷ asked End 3 ∷ []
body_asked = simp fronts_and_forms

-- `task in(a[i;u]) if(x)`: with a negative length `x` is not loaded
abbrev under_if : Stmt
under_if = task 3 (reads (section (codes "a") (form.Length i u) ∷ []) ∷ clause.If x ∷ []) (on 4 stmts.Empty)

if_not_asked : asks (program (under_if ∷ [])) (0 ∷ 0 ∷ 0 ∷ 18446744073709551615 ∷ []) ≡ asked Tick 3 ∷ asked Begin 3 ∷ asked (Read 4) 3 ∷ asked (Read 7) 3 ∷ asked (Fails fault.OutOfRange) 3 ∷ []
if_not_asked = simp fronts_and_forms

-- the clauses `inout(a) weakreduction(+: x) final(i) if(u) wait priority(x)`, with 0, 1 and -5 found
abbrev all_clauses : Stmt
all_clauses = task 3 (clause.Depend mode.Write true false (section (codes "a") form.Whole ∷ [])
    ∷ clause.Depend (mode.Fold fold_op.Add) false false (section (codes "x") form.Whole ∷ [])
    ∷ clause.Final i ∷ clause.If u ∷ clause.Wait ∷ clause.Label (codes "name") ∷ clause.Priority x ∷ []) (on 4 stmts.Empty)

clauses_made : asks (program (all_clauses ∷ [])) (0 ∷ 0 ∷ 0 ∷ 1 ∷ 18446744073709551611 ∷ [])
    ≡ asked Tick 3 ∷ asked Begin 3 ∷ asked (Read 4) 3 ∷ asked (Read 7) 3 ∷ asked (Read 0) 3
    ∷ asked (Create (record {
      script = record { body = TaskBody.statement 0; copies = [] };
      clauses = declared_on (record { mode = mode.Write; strong = true; fresh = false }) (ranges_of (1 ∷ 2 ∷ 3 ∷ []))
          ++ declared_on (record { mode = mode.Fold fold_op.Add; strong = false; fresh = false }) (ranges_of (0 ∷ []));
      when = true;
      last = false;
      wait = true;
      priority = neg_ℤ (pos 5);
    })) 3 ∷ []
clauses_made = simp fronts_and_forms

-- a task copies the locals in scope, as they are then
copies_made : (ways : Ways) → done (program []) (task 3 [] (on 4 stmts.Empty)) (long (codes "y") None ∷ pointer (codes "p") None ∷ []) (value.Num 7 ∷ pointing_at 1 (pos 2) ∷ []) ways (0 ∷ 0 ∷ [])
    ≡ asked (creation (TaskBody.statement 0) (value.Num 7 ∷ pointing_at 1 (pos 2) ∷ []) []) 3
copies_made ways = simp fronts_and_forms

-- A program with task statements in each other and beside each other: `void h() { task ; }` on the lines 10 and 11, and in `main` a task on line 3
-- around one on line 5, one on line 8 in the second side of an `if` on line 7, and one on line 9. They are numbered in text order.
abbrev numbered : List Item
numbered = globals_before (
    items.Function (function (codes "h") kind.Nothing [] 10 (task 11 [] (on 11 stmts.Empty) ∷ []))
    ∷ main_of (task 3 [] (on 4 (stmts.Block (task 5 [] (on 6 stmts.Empty) ∷ [])))
    ∷ on 7 (stmts.If (number 0) (on 7 stmts.Empty) (Some (task 8 [] (on 8 stmts.Empty))))
    ∷ task 9 [] (on 9 stmts.Break) ∷ [])
    ∷ [])

numbers_in_main : asks numbered (0 ∷ 0 ∷ 0 ∷ 0 ∷ 0 ∷ 0 ∷ 0 ∷ 0 ∷ 0 ∷ 0 ∷ [])
    ≡ asked Tick 3 ∷ asked Begin 3 ∷ asked (creation (TaskBody.statement 1) [] []) 3
    ∷ asked Tick 7 ∷ asked Tick 8 ∷ asked Begin 8 ∷ asked (creation (TaskBody.statement 3) [] []) 8
    ∷ asked Tick 9 ∷ asked Begin 9 ∷ asked (creation (TaskBody.statement 4) [] []) 9 ∷ asked End 2 ∷ []
numbers_in_main = simp fronts_and_forms

-- the bodies of tasks that stand in each other, on the lines 3 and 5, behind one task statement of another function
abbrev nested_body : List Stmt
nested_body = task 3 [] (task 5 [] (on 6 stmts.Empty)) ∷ []

abbrev nested : List Item
nested = program nested_body

nested_meanings : meanings_of nested nested_body ≡ task_statement nested 3 [] (task_statement nested 5 [] (simple 6 nothing_done)) ∷ []
nested_meanings = simp fronts_and_forms

-- what the body with this number asks for, these being the meanings of the statements
abbrev nested_asked : List Meaning → ℕ → List ℕ → Asked TreeScript
nested_asked meanings k answers = statement_run (slice_get (bodies_of_all meanings (function_place [] 1)) k) (here_in nested) [] answers

body_around : nested_asked (meanings_of nested nested_body) 0 (0 ∷ 0 ∷ []) ≡ asked (creation (TaskBody.statement 2) [] []) 5
body_around = subst (λ meanings. nested_asked meanings 0 (0 ∷ 0 ∷ []) ≡ asked (creation (TaskBody.statement 2) [] []) 5) (sym nested_meanings) refl

end_around : nested_asked (meanings_of nested nested_body) 0 (0 ∷ 0 ∷ 0 ∷ []) ≡ asked End 3
end_around = subst (λ meanings. nested_asked meanings 0 (0 ∷ 0 ∷ 0 ∷ []) ≡ asked End 3) (sym nested_meanings) refl

body_inside : nested_asked (meanings_of nested nested_body) 1 [] ≡ asked Tick 6
body_inside = subst (λ meanings. nested_asked meanings 1 [] ≡ asked Tick 6) (sym nested_meanings) refl

end_inside : nested_asked (meanings_of nested nested_body) 1 (0 ∷ []) ≡ asked End 5
end_inside = subst (λ meanings. nested_asked meanings 1 (0 ∷ []) ≡ asked End 5) (sym nested_meanings) refl

-- the body of a task in the second side of an `if` whose first side is one too
abbrev in_sides : List Item
in_sides = program (on 3 (stmts.If (number 0) (task 4 [] (on 4 stmts.Empty)) (Some (task 5 [] (on 5 stmts.Empty)))) ∷ [])

side_created : asks in_sides (0 ∷ 0 ∷ 0 ∷ []) ≡ asked Tick 3 ∷ asked Tick 5 ∷ asked Begin 5 ∷ asked (creation (TaskBody.statement 1) [] []) 5 ∷ []
side_created = simp fronts_and_forms

body_of_side : asks_of_body in_sides (TaskBody.statement 1) [] (0 ∷ []) ≡ asked Tick 5 ∷ asked End 5 ∷ []
body_of_side = simp fronts_and_forms

-- Task functions

-- `task in(a[p]) final(q)` on line 10 before `void t(int p, long q) { return; }` on the lines 11 and 12
abbrev t_function : Function
t_function = record {
  name = codes "t";
  result = kind.Nothing;
  params = local (codes "p") (kind.Num num.Int) None ∷ long (codes "q") None ∷ [];
  mark = Some (record { clauses = reads (section (codes "a") (form.Element p) ∷ []) ∷ clause.Final (name (codes "q")) ∷ []; line = 10 });
  body = on 12 (stmts.Return None) ∷ [];
  line = 11;
}

abbrev task_called : Expr → List Item
task_called e = program_with (t_function ∷ []) (on 3 (stmts.Call (codes "t") (e ∷ x ∷ [])) ∷ [])

-- `t(4294967297, x);` binds 1 to the `int p`; there is no tick of a call
function_called : asks (task_called (number 4294967297)) (0 ∷ 8 ∷ 0 ∷ 0 ∷ [])
    ≡ asked Tick 3 ∷ asked (Read 0) 3 ∷ asked Begin 3
    ∷ asked (Create (record {
      script = record { body = TaskBody.function 1; copies = value.Num 1 ∷ value.Num 8 ∷ [] };
      clauses = read_cells (2 ∷ []);
      when = true;
      last = true;
      wait = false;
      priority = pos 0;
    })) 3 ∷ asked End 2 ∷ []
function_called = simp fronts_and_forms

-- a fault of the clauses has the line of the call
function_failing : asks (task_called (number 3)) (0 ∷ 8 ∷ 0 ∷ []) ≡ asked Tick 3 ∷ asked (Read 0) 3 ∷ asked Begin 3 ∷ asked (Fails fault.OutOfRange) 3 ∷ []
function_failing = simp fronts_and_forms

-- the body of the task, which ends at its `return`
function_body : asks_of_body (task_called (number 1)) (TaskBody.function 1) (value.Num 1 ∷ value.Num 8 ∷ []) (0 ∷ []) ≡ asked Tick 12 ∷ asked End 12 ∷ []
function_body = simp fronts_and_forms

-- Calls in clauses

-- `task in(a[g(x)])` on line 3: the call's tick has the line of the pragma, and a statement of `long g(long p) { return 1 / p; }` its own
abbrev called_in_clause : List Item
called_in_clause = program_with (function (codes "g") (kind.Num num.Long) (long (codes "p") None ∷ []) 12 (on 13 (stmts.Return (Some (joined op.Div (number 1) p))) ∷ []) ∷ [])
    (task 3 (reads (section (codes "a") (form.Element (call (codes "g") (x ∷ []))) ∷ []) ∷ []) (on 4 stmts.Empty) ∷ [])

clause_call : asks called_in_clause (0 ∷ 0 ∷ 0 ∷ 0 ∷ []) ≡ asked Tick 3 ∷ asked Begin 3 ∷ asked (Read 0) 3 ∷ asked Tick 3 ∷ asked Tick 13 ∷ []
clause_call = simp fronts_and_forms

-- a call in a clause of a task function counts the frames of the caller: `task final(h())` before `void t() {}`, called on line 3 with 256 frames
abbrev called_deep : List Item
called_deep = globals_before (
    items.Function (record { name = codes "t"; result = kind.Nothing; params = []; mark = Some (record { clauses = clause.Final (call (codes "h") []) ∷ []; line = 10 }); body = []; line = 11 })
    ∷ items.Function (function (codes "h") (kind.Num num.Long) [] 12 [])
    ∷ [])

clause_too_deep : (calls : Calls) (go : Value → TreeRun) → (within called_deep calls 2 256).create 0 [] 3 go (0 ∷ 0 ∷ []) ≡ asked (Fails fault.TooDeep) 3
clause_too_deep calls go = simp fronts_and_forms

-- Waits and releases

-- `taskwait`
waited : asks (program (on 3 (stmts.TaskWait None) ∷ [])) (0 ∷ 0 ∷ []) ≡ asked Tick 3 ∷ asked Wait 3 ∷ asked End 2 ∷ []
waited = simp fronts_and_forms

-- `taskwait on(a[i], x)`
waited_on : asks (program (on 3 (stmts.TaskWait (Some (section (codes "a") (form.Element i) ∷ section (codes "x") form.Whole ∷ []))) ∷ [])) (0 ∷ 2 ∷ 0 ∷ [])
    ≡ asked Tick 3 ∷ asked (Read 4) 3 ∷ asked (WaitOn (read_cells (3 ∷ []) ++ read_cells (0 ∷ []))) 3 ∷ asked End 2 ∷ []
waited_on = simp fronts_and_forms

-- `release in(a[0;2]) out(x)`
released : asks (program (on 3 (stmts.Release (reads (section (codes "a") (form.Length (number 0) (number 2)) ∷ []) ∷ clause.Depend mode.Write true true (section (codes "x") form.Whole ∷ []) ∷ [])) ∷ [])) (0 ∷ 0 ∷ [])
    ≡ asked Tick 3 ∷ asked (Release (read_cells (1 ∷ 2 ∷ []) ++ declared_on (record { mode = mode.Write; strong = true; fresh = true }) (ranges_of (0 ∷ [])))) 3 ∷ asked End 2 ∷ []
released = simp fronts_and_forms

-- `release in(a[3])`
release_failing : asks (program (on 3 (stmts.Release (reads (section (codes "a") (form.Element (number 3)) ∷ []) ∷ [])) ∷ [])) (0 ∷ []) ≡ asked Tick 3 ∷ asked (Fails fault.OutOfRange) 3 ∷ []
release_failing = simp fronts_and_forms
