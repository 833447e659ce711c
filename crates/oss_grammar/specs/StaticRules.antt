-- The static rules of a program: what its declarations, statements and pragmas may not do, as the list of the rules that it breaks,
-- in text order. A text is refused for the first of them.
-- Read against: `long a[0]; int main() { b = 1; }` on two lines breaks TooLarge on line 1 and UnknownName on line 2; `int main() {
-- long x = x; }` breaks UnknownName, and `{ long y; } y = 1;` too; the empty text breaks NoMain on line 1.
use Rattle.std.specs.Prelude.{ℕ, ◌==◌, nat_le, Bool, true, false, not, ◌&&◌, List, [], ◌∷◌, ◌++◌, length, map, Option, Some, None, is_some}
use Rattle.std.specs.Str.{bytes_eq}
use Rattle.oss_syntax.specs.declared.tree.expr.BinOp.{BinOp}
use Rattle.oss_syntax.specs.declared.tree.expr.BinOp.TheVariants as op
use Rattle.oss_syntax.specs.declared.tree.expr.Expr.{Expr}
use Rattle.oss_syntax.specs.declared.tree.pragma.Section.{Section}
use Rattle.oss_syntax.specs.declared.tree.program.Item.{Item}
use Rattle.oss_syntax.specs.declared.tree.program.Kind.{Kind}
use Rattle.oss_syntax.specs.declared.tree.program.Kind.TheVariants as kind
use Rattle.oss_syntax.specs.declared.tree.program.Local.{Local}
use Rattle.oss_syntax.specs.declared.tree.program.NumKind.{NumKind}
use Rattle.oss_syntax.specs.declared.tree.stmt.LoopHead.{LoopHead}
use Rattle.oss_syntax.specs.declared.tree.stmt.NameUse.{NameUse}
use Rattle.oss_syntax.specs.declared.tree.stmt.Stmt.{Stmt}
use Rattle.oss_syntax.specs.declared.tree.stmt.StmtKind.TheOpen.{StmtKind-F, Stmt-F}
use Rattle.oss_syntax.specs.declared.tree.stmt.StmtKind.TheOpen as open_stmt
use Rattle.oss_syntax.specs.declared.tree.stmt.StmtKind.TheFolds.{fold-Stmt}
use Rattle.oss_grammar.specs.declared.kinds.Around.{Around}
use Rattle.oss_grammar.specs.declared.kinds.Nearest.{Nearest}
use Rattle.oss_grammar.specs.declared.kinds.Nearest.TheVariants as nearest
use Rattle.oss_grammar.specs.declared.kinds.Object.{Object}
use Rattle.oss_grammar.specs.declared.kinds.Object.TheVariants as object
use Rattle.oss_grammar.specs.declared.kinds.ValueKind.{ValueKind}
use Rattle.oss_grammar.specs.declared.kinds.ValueKind.TheVariants as value
use Rattle.oss_grammar.specs.declared.kinds.Wanted.{Wanted}
use Rattle.oss_grammar.specs.declared.kinds.Wanted.TheVariants as wanted
use Rattle.oss_syntax.specs.declared.refusal.Refused.{Refused}
use Rattle.oss_syntax.specs.declared.refusal.RefusedKind.TheVariants as refused
use Rattle.oss_grammar.specs.Broken.{broken, where_so}
use Rattle.oss_grammar.specs.ExpressionRules.{call_findings, findings, value_rules}
use Rattle.oss_grammar.specs.Kinds.{Findings, all_of, placed, unless, wanted_by}
use Rattle.oss_grammar.specs.Scopes.{is_local_again, loop_locals}
use Rattle.oss_grammar.specs.SectionRules.{clauses_rules, loop_clauses_rules, optional_rules, sections_rules}
use Rattle.oss_grammar.specs.Formats.{conversions_of}

-- What is found of a part of a text: the rules that it breaks, and the locals that are in scope behind it.
pub record Judged : Type 0 where
  pub broken : List Refused
  pub locals : List Local

-- a part that declares nothing
abbrev pub judged : List Refused → List Local → Judged
judged rules locals = record { broken = rules; locals = locals }

-- a part, and what stands behind it
abbrev pub then_judge : Judged → (List Local → Judged) → Judged
then_judge j go = record { broken = j.broken ++ (go j.locals).broken; locals = (go j.locals).locals }

-- a part whose declarations are not in scope behind it
abbrev pub alone : Judged → List Local → Judged
alone j locals = record { broken = j.broken; locals = locals }

-- `printf`: its conversions are those of the language, and as many as its arguments, which are numbers
abbrev pub format_rules : Option ℕ → ℕ → ℕ → List Refused
format_rules None count line = broken refused.WrongKind line ∷ []
format_rules (Some n) count line = where_so (not (n == count)) refused.WrongCount line

abbrev pub numbers_rules : List Item → List Local → List Expr → List Refused
numbers_rules all locals [] = []
numbers_rules all locals (e ∷ rest) = value_rules all locals wanted.Number e ++ numbers_rules all locals rest

abbrev pub print_rules : List Item → List Local → ℕ → List ℕ → List Expr → List Refused
print_rules all locals line format arguments = format_rules (conversions_of format) (length arguments) line ++ numbers_rules all locals arguments

-- What an assignment may store in its target, where it is one: a cell or a local of the kind that the operator takes. A pointer is
-- moved by `+=` and `-=`, and no other operator takes one.
abbrev pub moved : Option BinOp → NumKind → Option Wanted
moved None n = Some (wanted.PointerTo n)
moved (Some op.Add) n = Some wanted.Number
moved (Some op.Sub) n = Some wanted.Number
moved (Some _) n = None

abbrev pub stored_in : Option BinOp → Object → Option Wanted
stored_in o object.ValueOnly = None
stored_in o (object.Cell n) = Some wanted.Number
stored_in o (object.Variable (kind.Num n)) = Some wanted.Number
stored_in o (object.Variable (kind.Pointer n)) = moved o n
stored_in o (object.Variable kind.Nothing) = None

-- what is stored in a target of this kind; of one whose kind is unknown nothing is asked
abbrev pub target_wanted : Option BinOp → ValueKind → Object → Option Wanted
target_wanted o value.Unknown what = Some wanted.Anything
target_wanted o _ what = stored_in o what

abbrev pub or_anything : Option Wanted → Wanted
or_anything None = wanted.Anything
or_anything (Some w) = w

abbrev pub stored_rules : Option Wanted → Findings → Findings → List Refused
stored_rules w target e = all_of (unless (is_some w) target) ++ all_of (placed (or_anything w) e)

abbrev pub assign_rules : List Item → List Local → Option BinOp → Expr → Expr → List Refused
assign_rules all locals o target e =
    stored_rules (target_wanted o (findings all locals target).kind (findings all locals target).object) (findings all locals target) (findings all locals e)

-- `return`: with a value exactly in a function with a result, and in no task statement
abbrev pub is_wrong_return : Kind → Option Expr → Bool
is_wrong_return kind.Nothing None = false
is_wrong_return kind.Nothing (Some e) = true
is_wrong_return _ None = true
is_wrong_return _ (Some e) = false

abbrev pub returned_rules : List Item → List Local → Kind → Option Expr → List Refused
returned_rules all locals result None = []
returned_rules all locals result (Some e) = value_rules all locals (wanted_by result) e

abbrev pub return_rules : List Item → List Local → Around → ℕ → Option Expr → List Refused
return_rules all locals a line e =
    where_so (is_wrong_return a.result e) refused.WrongKind line ++ (where_so a.in_task refused.BadJump line ++ returned_rules all locals a.result e)

-- A local is declared once in its scope, at most 255 are in scope, and it is in scope behind its initial value. Of two declarations
-- the first counts.
abbrev pub first_rules : List Item → List Local → Local → List Refused
first_rules all locals l = returned_rules all locals l.kind l.first

abbrev pub local_rules : List Item → ℕ → Local → List Local → List Refused
local_rules all start l locals =
    where_so (is_local_again start locals l.name) refused.DuplicateName l.line ++ (where_so (nat_le 255 (length locals)) refused.TooLarge l.line ++ first_rules all locals l)

abbrev pub with_local : Bool → Local → List Local → List Local
with_local true l locals = locals
with_local false l locals = locals ++ l ∷ []

abbrev pub declare_one : List Item → ℕ → Local → List Local → Judged
declare_one all start l locals = record { broken = local_rules all start l locals; locals = with_local (is_local_again start locals l.name) l locals }

abbrev pub declare_all : List Item → ℕ → List Local → List Local → Judged
declare_all all start [] locals = judged [] locals
declare_all all start (l ∷ rest) locals = then_judge (declare_one all start l locals) (λ more. declare_all all start rest more)

-- what is found of a statement: the items of the program, what stands around the statement, and the locals before it
abbrev pub Rules : Type 0
Rules = List Item → Around → List Local → Judged

-- a scope of its own begins
abbrev pub scope_in : Around → List Local → Around
scope_in a locals = record { start = length locals; result = a.result; nearest = a.nearest; in_task = a.in_task }

abbrev pub inner : Rules → Rules
inner r all a locals = alone (r all (scope_in a locals) locals) locals

-- in a loop jumps may leave it, in a task statement none may leave the task, and in a task loop `continue` may end a turn
abbrev pub in_a_loop : Around → Around
in_a_loop a = record { start = a.start; result = a.result; nearest = nearest.Loop; in_task = a.in_task }

abbrev pub in_a_task : Around → Around
in_a_task a = record { start = a.start; result = a.result; nearest = nearest.NoLoop; in_task = true }

abbrev pub in_a_task_loop : Around → Around
in_a_task_loop a = record { start = a.start; result = a.result; nearest = nearest.TaskLoop; in_task = true }

-- whether a `break` may stand there, and whether a `continue` may
abbrev pub may_break : Nearest → Bool
may_break nearest.Loop = true
may_break _ = false

abbrev pub may_continue : Nearest → Bool
may_continue nearest.NoLoop = false
may_continue _ = true

abbrev pub statements_rules : List Rules → Rules
statements_rules [] all a locals = judged [] locals
statements_rules (r ∷ rest) all a locals = then_judge (r all a locals) (λ more. statements_rules rest all a more)

abbrev pub part_rules : Option Rules → Rules
part_rules None all a locals = judged [] locals
part_rules (Some r) all a locals = r all a locals

abbrev pub inner_part : Option Rules → Rules
inner_part o = inner (part_rules o)

-- the parts of a `for` stand in the text as: the first part, the test, the last part, the body
abbrev pub for_rules : Option Rules → Option Expr → Option Rules → Rules → Rules
for_rules start test step body all a locals =
    then_judge (part_rules start all a locals) (λ ls.
    then_judge (judged (optional_rules all ls test) ls) (λ ms.
    then_judge (inner_part step all a ms) (λ ns. inner body all (in_a_loop a) ns)))

abbrev pub wait_rules : List Item → List Local → Option (List Section) → List Refused
wait_rules all locals None = []
wait_rules all locals (Some sections) = sections_rules all locals false 0 sections

-- the first name of the head that differs from that of the variable
abbrev pub name_rules : List ℕ → NameUse → NameUse → List Refused
name_rules name tested stepped = where_so (not (bytes_eq tested.name name)) refused.WrongKind tested.line

abbrev pub last_name_rules : List ℕ → NameUse → NameUse → List Refused
last_name_rules name tested stepped = where_so (bytes_eq tested.name name && not (bytes_eq stepped.name name)) refused.WrongKind stepped.line

-- The rules that the pragma and the head of a task loop break, in text order: in the clauses the variable is in scope, and in the
-- grainsize, the first value and the end it is not.
abbrev pub head_rules : List Item → List Local → LoopHead → List Refused
head_rules all locals head =
    loop_clauses_rules all locals (loop_locals head locals) 0 head.mark.clauses
    ++ (where_so (nat_le 251 (length locals)) refused.TooLarge head.variable.line
    ++ (optional_rules all locals head.variable.first
    ++ (name_rules head.variable.name head.tested head.stepped
    ++ (value_rules all locals wanted.Number head.end
    ++ last_name_rules head.variable.name head.tested head.stepped))))

abbrev pub stmt_step : StmtKind-F (ℕ → Rules) Rules → ℕ → Rules
stmt_step (open_stmt.Block all_in) line all a locals = inner (statements_rules all_in) all a locals
stmt_step open_stmt.Empty line all a locals = judged [] locals
stmt_step (open_stmt.Declare ls) line all a locals = declare_all all a.start ls locals
stmt_step (open_stmt.Assign target o e) line all a locals = judged (assign_rules all locals o target e) locals
stmt_step (open_stmt.Call name es) line all a locals = judged (all_of (call_findings all locals name line true (map (findings all locals) es))) locals
stmt_step (open_stmt.Print format es) line all a locals = judged (print_rules all locals line format es) locals
stmt_step (open_stmt.If e then_part else_part) line all a locals =
    then_judge (judged (value_rules all locals wanted.Number e) locals) (λ ls. then_judge (inner then_part all a ls) (λ ms. inner_part else_part all a ms))
stmt_step (open_stmt.While e body) line all a locals = then_judge (judged (value_rules all locals wanted.Number e) locals) (λ ls. inner body all (in_a_loop a) ls)
stmt_step (open_stmt.For start test step body) line all a locals = inner (for_rules start test step body) all a locals
stmt_step (open_stmt.Return e) line all a locals = judged (return_rules all locals a line e) locals
stmt_step open_stmt.Break line all a locals = judged (where_so (not (may_break a.nearest)) refused.BadJump line) locals
stmt_step open_stmt.Continue line all a locals = judged (where_so (not (may_continue a.nearest)) refused.BadJump line) locals
stmt_step (open_stmt.Task mark body) line all a locals = then_judge (judged (clauses_rules all locals 0 mark.clauses) locals) (λ ls. inner body all (in_a_task a) ls)
stmt_step (open_stmt.TaskLoop head body) line all a locals =
    alone (then_judge (judged (head_rules all locals head) (loop_locals head locals)) (λ ls. inner body all (in_a_task_loop a) ls)) locals
stmt_step (open_stmt.TaskWait sections) line all a locals = judged (wait_rules all locals sections) locals
stmt_step (open_stmt.Release clauses) line all a locals = judged (clauses_rules all locals 0 clauses) locals

abbrev pub rules_of : Stmt → Rules
rules_of = fold-Stmt (ℕ → Rules) Rules stmt_step (λ s. s.what s.line)

abbrev pub rules_of_all : List Stmt → Rules
rules_of_all ss = statements_rules (map rules_of ss)
