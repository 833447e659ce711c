-- Rows worked by hand: the instructions of some texts, of which the pages of definitions speak.
use Rattle.std.proofs.Common.{◌≡◌, ℕ, true, false, List, [], ◌∷◌, Some, None, map, refl, ap}
use Rattle.std.specs.Prelude.{codes}
use Rattle.oss_syntax.specs.declared.access.Mode.TheVariants as mode
use Rattle.oss_syntax.specs.declared.tree.expr.BinOp.TheVariants as op
use Rattle.oss_syntax.specs.declared.tree.expr.Expr.{Expr}
use Rattle.oss_syntax.specs.declared.tree.pragma.Clause.TheVariants as clause
use Rattle.oss_syntax.specs.declared.tree.pragma.Form.TheVariants as form
use Rattle.oss_syntax.specs.declared.tree.program.Item.{Item}
use Rattle.oss_syntax.specs.declared.tree.program.Kind.TheVariants as kind
use Rattle.oss_syntax.specs.declared.tree.program.Local.{Local}
use Rattle.oss_syntax.specs.declared.tree.program.NumKind.TheVariants as num
use Rattle.oss_syntax.specs.declared.tree.stmt.StmtKind.TheVariants as stmts
use Rattle.oss_meaning.specs.declared.clauses.Declared.{Declared}
use Rattle.oss_meaning.proofs.RowTrees.{number, element, joined, call, on, name, long, section, task, x, m, function, main_of, program, program_with}
use Rattle.oss_code.specs.declared.instr.Indices.TheVariants as indices
use Rattle.oss_code.specs.declared.instr.Instr.{Instr}
use Rattle.oss_code.specs.declared.instr.Instr.TheVariants as i
use Rattle.oss_code.specs.declared.instr.PartForm.TheVariants as part
use Rattle.oss_code.specs.declared.instr.SectionBase.TheVariants as base
use Rattle.oss_code.specs.declared.instr.SectionForm.TheVariants as section_form
use Rattle.oss_lower_laws.specs.declared.lined.Lined.{Lined}
use Rattle.oss_lower_laws.specs.ExpressionCode.{expr_code, one}
use Rattle.oss_lower_laws.specs.SectionCode.{clauses_code, optional_code}
use Rattle.oss_lower_laws.specs.StatementCode.{Spot, stmt_code}
use Rattle.oss_lower_laws.specs.Lowered.{entries_from, first_entry, program_code}
use Rattle.oss_meaning.specs.Names.{functions_of}
use Rattle.oss_lower_laws.proofs.FormLemmas.{forms, value-number}

abbrev instrs : List Lined → List Instr
instrs ls = map (λ l. l.what) ls

abbrev depths : List Lined → List ℕ
depths ls = map (λ l. l.depth) ls

-- where a statement stands alone in `main`
abbrev spot : Spot
spot = record { scope = []; result = kind.Num num.Int; pads = record { stop = 3; again = 3 } }

-- Expressions

-- `x + 1`
sum_instrs : instrs ((expr_code (program []) [] (joined op.Add x (number 1))).value 3 0) ≡ i.Address 0 ∷ i.Load ∷ i.Push 1 ∷ i.Apply (record { op = op.Add; left_unsigned = false; right_unsigned = false }) ∷ []
sum_instrs = simp forms

sum_depths : depths ((expr_code (program []) [] (joined op.Add x (number 1))).value 3 0) ≡ 0 ∷ 1 ∷ 1 ∷ 2 ∷ []
sum_depths = simp forms

-- `m[1][2]`
element_instrs : instrs ((expr_code (program []) [] (element (element m (number 1)) (number 2))).value 3 0) ≡ i.Push 1 ∷ i.Push 2 ∷ i.Element 5 ∷ i.Load ∷ []
element_instrs = simp forms

-- `m[1]`
row_instrs : instrs ((expr_code (program []) [] (element m (number 1))).value 3 0) ≡ i.Push 1 ∷ i.Row 5 ∷ []
row_instrs = simp forms

-- `x && 1`
both_instrs : instrs ((expr_code (program []) [] (joined op.AndAlso x (number 1))).value 3 0) ≡ i.Address 0 ∷ i.Load ∷ i.SkipUnless 3 ∷ i.Push 1 ∷ i.Truth ∷ i.Skip 1 ∷ i.Push 0 ∷ []
both_instrs = simp forms

both_depths : depths ((expr_code (program []) [] (joined op.AndAlso x (number 1))).value 3 0) ≡ 0 ∷ 1 ∷ 1 ∷ 0 ∷ 1 ∷ 1 ∷ 0 ∷ []
both_depths = simp forms

-- `f(2)`, the function `f` behind `main`
call_instrs : instrs ((expr_code (program_with (function (codes "f") (kind.Num num.Long) (long (codes "k") None ∷ []) 9 [] ∷ []) []) [] (call (codes "f") (number 2 ∷ []))).value 3 0) ≡ i.Push 2 ∷ i.Call 1 1 ∷ []
call_instrs = simp forms

-- what is no function
no_call_instrs : instrs ((expr_code (program []) [] (call (codes "x") (number 2 ∷ []))).value 3 0) ≡ i.Push 0 ∷ []
no_call_instrs = simp forms

-- Sections and clauses

-- the local `n` in scope
abbrev with_n : List Local
with_n = long (codes "n") None ∷ []

abbrev n : Expr
n = name (codes "n")

abbrev read : Declared
read = record { mode = mode.Read; strong = true; fresh = false }

-- `in(a[1;n]) if(n)`
clauses_instrs : instrs (clauses_code (program []) with_n (clause.Depend mode.Read true false (section (codes "a") (form.Length (number 1) n) ∷ []) ∷ clause.If n ∷ []) 3)
    ≡ i.Push 1 ∷ i.Local 0 ∷ i.Section (base.Global 1) (section_form.Line part.Length) read ∷ i.Local 0 ∷ i.When ∷ []
clauses_instrs = simp forms

-- the first value of its variable
first_instrs : (line : ℕ) → optional_code (program []) with_n (Some (number 0)) line ≡ one line 0 (i.Push 0)
first_instrs line = ap (λ c. c.value line 0) (value-number (program []) with_n 0 0 false)

-- `in({ a[k], k = 0; n })`
many_instrs : instrs (clauses_code (program []) with_n (clause.Depend mode.Read true false (section (codes "a") (form.Many (name (codes "k")) None (record { variable = long (codes "k") (Some (number 0)); count = n })) ∷ []) ∷ []) 3)
    ≡ i.Push 0 ∷ i.Local 0 ∷ i.Turns 3 ∷ i.Local 1 ∷ i.Turn (base.Global 1) indices.One ∷ i.NextTurn 2 ∷ i.EndTurns read ∷ []
many_instrs = simp (forms, first_instrs)

-- Statements

-- `while (x) break;`
loop_instrs : instrs ((stmt_code (program []) (on 3 (stmts.While x (on 3 stmts.Break)))).code spot)
    ≡ i.Tick ∷ i.Skip 4 ∷ i.Keep 0 ∷ i.Skip 8 ∷ i.Keep 0 ∷ i.Skip 5 ∷ i.Tick ∷ i.Address 0 ∷ i.Load ∷ i.SkipUnless 2 ∷ i.Again 8 ∷ i.Again 4 ∷ i.Keep 0 ∷ []
loop_instrs = simp forms

-- a task of an empty statement
task_instrs : instrs ((stmt_code (program []) (task 3 [] (on 4 stmts.Empty))).code spot)
    ≡ i.Tick ∷ i.Begin ∷ i.Create 4 ∷ i.Skip 7 ∷ i.Push 0 ∷ i.Convert (kind.Num num.Int) ∷ i.Return ∷ i.Tick ∷ i.Push 0 ∷ i.Convert (kind.Num num.Int) ∷ i.Return ∷ []
task_instrs = simp forms

-- its body begins with the second tick
task_entries : (stmt_code (program []) (task 3 [] (on 4 stmts.Empty))).entries spot 0 ≡ 7 ∷ []
task_entries = simp forms

-- Programs

-- `int main() { return 7; }`
abbrev seven : List Item
seven = main_of (on 3 (stmts.Return (Some (number 7))) ∷ []) ∷ []

program_instrs : instrs (program_code seven)
    ≡ i.Skip 6 ∷ i.Push 0 ∷ i.Return ∷ i.Skip 3 ∷ i.Push 0 ∷ i.Convert (kind.Num num.Int) ∷ i.Return
    ∷ i.Tick ∷ i.Push 7 ∷ i.Convert (kind.Num num.Int) ∷ i.Return ∷ i.Push 0 ∷ i.Convert (kind.Num num.Int) ∷ i.Return ∷ []
program_instrs = simp forms

program_lines : map (λ l. l.line) (program_code seven) ≡ 0 ∷ 0 ∷ 0 ∷ 2 ∷ 2 ∷ 2 ∷ 2 ∷ 3 ∷ 3 ∷ 3 ∷ 3 ∷ 2 ∷ 2 ∷ 2 ∷ []
program_lines = simp forms

program_depths : depths (program_code seven) ≡ 0 ∷ 0 ∷ 1 ∷ 0 ∷ 0 ∷ 1 ∷ 1 ∷ 0 ∷ 0 ∷ 1 ∷ 1 ∷ 0 ∷ 1 ∷ 1 ∷ []
program_depths = simp forms

-- its only function
program_entries : entries_from seven first_entry (functions_of seven) ≡ 3 ∷ []
program_entries = refl

-- without a `main` the code is its own end
no_main : instrs (program_code []) ≡ i.Skip 0 ∷ i.Push 0 ∷ i.Return ∷ []
no_main = refl
