-- Rows worked by hand: what bodies without tasks ask for, one ask after the other, as these answers come.
use Rattle.std.proofs.Common.{◌≡◌, ℕ, List, [], ◌∷◌, Some, None, refl}
use Rattle.std.specs.Prelude.{codes, pos, neg_ℤ}
use Rattle.oss_syntax.specs.declared.access.Op.TheVariants as fold_op
use Rattle.oss_syntax.specs.declared.fault.FaultKind.TheVariants as fault
use Rattle.oss_syntax.specs.declared.tree.expr.BinOp.TheVariants as op
use Rattle.oss_syntax.specs.declared.tree.program.Kind.TheVariants as kind
use Rattle.oss_syntax.specs.declared.tree.program.NumKind.TheVariants as num
use Rattle.oss_syntax.specs.declared.tree.stmt.Stmt.{Stmt}
use Rattle.oss_syntax.specs.declared.tree.stmt.StmtKind.TheVariants as stmts
use Rattle.oss_grammar.specs.Formats.{printed}
use Rattle.oss_model.specs.Bodies.Ask.{End, Fails, Fold, Print, Read, Tick, Write}
use Rattle.oss_meaning.specs.declared.value.Value.{Value}
use Rattle.oss_meaning.specs.declared.value.Value.TheVariants as value
use Rattle.oss_meaning.specs.Expressions.{Calls, TreeRun, called}
use Rattle.oss_meaning.specs.Meaning.{function_run}
use Rattle.oss_meaning.specs.Statements.{Meaning, Ways, body_ways, turn}
use Rattle.oss_meaning.proofs.FormLemmas.{statement_forms}
use Rattle.oss_meaning.proofs.FrontLemmas.{fronts, fronts_and_forms}
use Rattle.oss_meaning.proofs.RowTrees.{number, element, pointed, address, joined, call, on, set, change, local, long, pointer, x, a, i, b, u, m, p, y, program_with, program, asks, asked, in_scope, here_in, done, pointing_at, f_function, g_function, h_function, callees}

-- Assignments

-- `x = a[i] + 1;`
sum_stored : asks (program (set 3 x (joined op.Add (element a i) (number 1)) ∷ [])) (0 ∷ 2 ∷ 5 ∷ 0 ∷ [])
    ≡ asked Tick 3 ∷ asked (Read 4) 3 ∷ asked (Read 3) 3 ∷ asked (Write 0 6) 3 ∷ asked End 2 ∷ []
sum_stored = simp fronts_and_forms

-- the same with an index that is outside of `a`
sum_outside : asks (program (set 3 x (joined op.Add (element a i) (number 1)) ∷ [])) (0 ∷ 3 ∷ [])
    ≡ asked Tick 3 ∷ asked (Read 4) 3 ∷ asked (Fails fault.OutOfRange) 3 ∷ []
sum_outside = simp fronts_and_forms

-- `a[i] += 1;` is one fold
long_folded : asks (program (change 3 (element a i) op.Add (number 1) ∷ [])) (0 ∷ 2 ∷ 0 ∷ [])
    ≡ asked Tick 3 ∷ asked (Read 4) 3 ∷ asked (Fold 3 fold_op.Add 1) 3 ∷ asked End 2 ∷ []
long_folded = simp fronts_and_forms

-- `b[i] += 1;` loads and stores, and an `int` keeps the low 32 bits
int_changed : asks (program (change 3 (element b i) op.Add (number 1) ∷ [])) (0 ∷ 1 ∷ 2147483647 ∷ 0 ∷ [])
    ≡ asked Tick 3 ∷ asked (Read 4) 3 ∷ asked (Read 6) 3 ∷ asked (Write 6 18446744071562067968) 3 ∷ asked End 2 ∷ []
int_changed = simp fronts_and_forms

-- `a[i] -= x;` evaluates the target, the right side, and then loads and stores
long_changed : asks (program (change 3 (element a i) op.Sub x ∷ [])) (0 ∷ 0 ∷ 7 ∷ 5 ∷ 0 ∷ [])
    ≡ asked Tick 3 ∷ asked (Read 4) 3 ∷ asked (Read 0) 3 ∷ asked (Read 1) 3 ∷ asked (Write 1 18446744073709551614) 3 ∷ asked End 2 ∷ []
long_changed = simp fronts_and_forms

-- `a[i] /= 0;`: outside of `a` the load fails, and inside the division
divided_outside : asks (program (change 3 (element a i) op.Div (number 0) ∷ [])) (0 ∷ 9 ∷ []) ≡ asked Tick 3 ∷ asked (Read 4) 3 ∷ asked (Fails fault.OutOfRange) 3 ∷ []
divided_outside = simp fronts_and_forms

divided_inside : asks (program (change 3 (element a i) op.Div (number 0) ∷ [])) (0 ∷ 1 ∷ 5 ∷ [])
    ≡ asked Tick 3 ∷ asked (Read 4) 3 ∷ asked (Read 2) 3 ∷ asked (Fails fault.DivideByZero) 3 ∷ []
divided_inside = simp fronts_and_forms

-- `a[i] = 1 / 0;`: outside of `a` the division fails
divided_first : asks (program (set 3 (element a i) (joined op.Div (number 1) (number 0)) ∷ [])) (0 ∷ 9 ∷ []) ≡ asked Tick 3 ∷ asked (Read 4) 3 ∷ asked (Fails fault.DivideByZero) 3 ∷ []
divided_first = simp fronts_and_forms

-- `u <<= 64;`
shifted_too_far : asks (program (change 3 u op.Left (number 64) ∷ [])) (0 ∷ 1 ∷ []) ≡ asked Tick 3 ∷ asked (Read 7) 3 ∷ asked (Fails fault.ShiftRange) 3 ∷ []
shifted_too_far = simp fronts_and_forms

-- `x = i && u;` loads `u` only where `i` is not 0, and gives 0 or 1
both_skipped : asks (program (set 3 x (joined op.AndAlso i u) ∷ [])) (0 ∷ 0 ∷ 0 ∷ []) ≡ asked Tick 3 ∷ asked (Read 4) 3 ∷ asked (Write 0 0) 3 ∷ asked End 2 ∷ []
both_skipped = simp fronts_and_forms

both_asked : asks (program (set 3 x (joined op.AndAlso i u) ∷ [])) (0 ∷ 1 ∷ 7 ∷ 0 ∷ []) ≡ asked Tick 3 ∷ asked (Read 4) 3 ∷ asked (Read 7) 3 ∷ asked (Write 0 1) 3 ∷ asked End 2 ∷ []
both_asked = simp fronts_and_forms

-- `x = i || u;`
either_skipped : asks (program (set 3 x (joined op.OrElse i u) ∷ [])) (0 ∷ 5 ∷ 0 ∷ []) ≡ asked Tick 3 ∷ asked (Read 4) 3 ∷ asked (Write 0 1) 3 ∷ asked End 2 ∷ []
either_skipped = simp fronts_and_forms

-- `x = a[i] && 1 / u;` with 1 in `a[i]` and 0 in `u`
both_failing : asks (program (set 3 x (joined op.AndAlso (element a i) (joined op.Div (number 1) u)) ∷ [])) (0 ∷ 0 ∷ 1 ∷ 0 ∷ [])
    ≡ asked Tick 3 ∷ asked (Read 4) 3 ∷ asked (Read 1) 3 ∷ asked (Read 7) 3 ∷ asked (Fails fault.DivideByZero) 3 ∷ []
both_failing = simp fronts_and_forms

-- Locals

-- `y = a[i] + 1;`
sum_kept : (ways : Ways) → done (program []) (set 4 y (joined op.Add (element a i) (number 1))) (long (codes "y") None ∷ []) (value.Num 3 ∷ []) ways (0 ∷ 2 ∷ 5 ∷ []) ≡ ways.next (value.Num 6 ∷ []) []
sum_kept ways = simp fronts_and_forms

-- `int y; y += 1;` with 2147483647 in `y`
int_kept : (ways : Ways) → done (program []) (change 4 y op.Add (number 1)) (local (codes "y") (kind.Num num.Int) None ∷ []) (value.Num 2147483647 ∷ []) ways (0 ∷ []) ≡ ways.next (value.Num 18446744071562067968 ∷ []) []
int_kept ways = simp fronts_and_forms

-- `y %= 0;`
kept_divided : (ways : Ways) → done (program []) (change 4 y op.Rem (number 0)) (long (codes "y") None ∷ []) (value.Num 3 ∷ []) ways (0 ∷ []) ≡ asked (Fails fault.DivideByZero) 4
kept_divided ways = simp fronts_and_forms

-- `long y = x, z = y + 1, *p = a, *q;`
several_declared : (ways : Ways) → done (program []) (on 3 (stmts.Declare (long (codes "y") (Some x) ∷ long (codes "z") (Some (joined op.Add y (number 1))) ∷ pointer (codes "p") (Some a) ∷ pointer (codes "q") None ∷ []))) [] [] ways (0 ∷ 5 ∷ [])
    ≡ ways.next (value.Num 5 ∷ value.Num 6 ∷ pointing_at 1 (pos 0) ∷ value.Nowhere ∷ []) []
several_declared ways = simp fronts_and_forms

-- in the block `{ long y = y + 1; }` the `y` that is outside is read, and it is as before behind the block
hidden_local : (ways : Ways) → done (program []) (on 3 (stmts.Block (on 4 (stmts.Declare (long (codes "y") (Some (joined op.Add y x)) ∷ [])) ∷ []))) (long (codes "y") None ∷ []) (value.Num 7 ∷ []) ways (0 ∷ 1 ∷ []) ≡ ways.next (value.Num 7 ∷ []) []
hidden_local ways = simp fronts_and_forms

-- `x = y;` with two locals of this name
last_local : (ways : Ways) → done (program []) (set 3 x y) (long (codes "y") None ∷ long (codes "y") None ∷ []) (value.Num 1 ∷ value.Num 2 ∷ []) ways (0 ∷ []) ≡ asked (Write 0 2) 3
last_local ways = simp fronts_and_forms

-- `p += 2;`
pointer_moved : (ways : Ways) → done (program []) (change 4 p op.Add (number 2)) (pointer (codes "p") None ∷ []) (pointing_at 1 (pos 2) ∷ []) ways (0 ∷ []) ≡ ways.next (pointing_at 1 (pos 4) ∷ []) []
pointer_moved ways = simp fronts_and_forms

-- `p -= 4;`
pointer_back : (ways : Ways) → done (program []) (change 4 p op.Sub (number 4)) (pointer (codes "p") None ∷ []) (pointing_at 1 (pos 4) ∷ []) ways (0 ∷ []) ≡ ways.next (pointing_at 1 (pos 0) ∷ []) []
pointer_back ways = simp fronts_and_forms

-- `p -= 1;` before the array, and `p += 1;` back into it
pointer_before : (ways : Ways) → done (program []) (change 4 p op.Sub (number 1)) (pointer (codes "p") None ∷ []) (pointing_at 1 (pos 0) ∷ []) ways (0 ∷ []) ≡ ways.next (pointing_at 1 (neg_ℤ (pos 1)) ∷ []) []
pointer_before ways = simp fronts_and_forms

pointer_again : (ways : Ways) → done (program []) (change 4 p op.Add (number 1)) (pointer (codes "p") None ∷ []) (pointing_at 1 (neg_ℤ (pos 1)) ∷ []) ways (0 ∷ []) ≡ ways.next (pointing_at 1 (pos 0) ∷ []) []
pointer_again ways = simp fronts_and_forms

-- `*p = 1;` through a pointer to `a[2]`, one past `a`, one before it, and none
stored_through : (ways : Ways) → done (program []) (set 4 (pointed p) (number 1)) (pointer (codes "p") None ∷ []) (pointing_at 1 (pos 2) ∷ []) ways (0 ∷ []) ≡ asked (Write 3 1) 4
stored_through ways = simp fronts_and_forms

stored_past : (ways : Ways) → done (program []) (set 4 (pointed p) (number 1)) (pointer (codes "p") None ∷ []) (pointing_at 1 (pos 3) ∷ []) ways (0 ∷ []) ≡ asked (Fails fault.OutOfRange) 4
stored_past ways = simp fronts_and_forms

stored_before : (ways : Ways) → done (program []) (set 4 (pointed p) (number 1)) (pointer (codes "p") None ∷ []) (pointing_at 1 (neg_ℤ (pos 1)) ∷ []) ways (0 ∷ []) ≡ asked (Fails fault.OutOfRange) 4
stored_before ways = simp fronts_and_forms

stored_nowhere : (ways : Ways) → done (program []) (set 4 (pointed p) (number 1)) (pointer (codes "p") None ∷ []) (value.Nowhere ∷ []) ways (0 ∷ []) ≡ asked (Fails fault.OutOfRange) 4
stored_nowhere ways = simp fronts_and_forms

-- `x = p[y];` with -1 in `y`
indexed_back : (ways : Ways) → done (program []) (set 4 x (element p y)) (pointer (codes "p") None ∷ long (codes "y") None ∷ []) (pointing_at 1 (pos 1) ∷ value.Num 18446744073709551615 ∷ []) ways (0 ∷ []) ≡ asked (Read 1) 4
indexed_back ways = simp fronts_and_forms

-- `p = &a[1];`, `p = &p[1];`, `p = &x;` and `p = &*p;`
pointed_element : (ways : Ways) → done (program []) (set 4 p (address (element a (number 1)))) (pointer (codes "p") None ∷ []) (value.Nowhere ∷ []) ways (0 ∷ []) ≡ ways.next (pointing_at 1 (pos 1) ∷ []) []
pointed_element ways = simp fronts_and_forms

pointed_behind : (ways : Ways) → done (program []) (set 4 p (address (element p (number 1)))) (pointer (codes "p") None ∷ []) (pointing_at 1 (pos 1) ∷ []) ways (0 ∷ []) ≡ ways.next (pointing_at 1 (pos 2) ∷ []) []
pointed_behind ways = simp fronts_and_forms

pointed_scalar : (ways : Ways) → done (program []) (set 4 p (address x)) (pointer (codes "p") None ∷ []) (value.Nowhere ∷ []) ways (0 ∷ []) ≡ ways.next (pointing_at 0 (pos 0) ∷ []) []
pointed_scalar ways = simp fronts_and_forms

pointed_same : (ways : Ways) → done (program []) (set 4 p (address (pointed p))) (pointer (codes "p") None ∷ []) (pointing_at 1 (pos 1) ∷ []) ways (0 ∷ []) ≡ ways.next (pointing_at 1 (pos 1) ∷ []) []
pointed_same ways = simp fronts_and_forms

-- Arrays of two dimensions

-- `x = m[i][u];`
element_loaded : asks (program (set 3 x (element (element m i) u) ∷ [])) (0 ∷ 1 ∷ 2 ∷ 9 ∷ []) ≡ asked Tick 3 ∷ asked (Read 4) 3 ∷ asked (Read 7) 3 ∷ asked (Read 14) 3 ∷ asked (Write 0 9) 3 ∷ []
element_loaded = simp fronts_and_forms

-- a column that is outside of its row
column_outside : asks (program (set 3 x (element (element m i) u) ∷ [])) (0 ∷ 1 ∷ 4 ∷ []) ≡ asked Tick 3 ∷ asked (Read 4) 3 ∷ asked (Read 7) 3 ∷ asked (Fails fault.OutOfRange) 3 ∷ []
column_outside = simp fronts_and_forms

-- a row that is outside, below 0
row_outside : asks (program (set 3 x (element (element m i) u) ∷ [])) (0 ∷ 18446744073709551615 ∷ 0 ∷ []) ≡ asked Tick 3 ∷ asked (Read 4) 3 ∷ asked (Read 7) 3 ∷ asked (Fails fault.OutOfRange) 3 ∷ []
row_outside = simp fronts_and_forms

-- `m[i][1] = 5;`
element_stored : asks (program (set 3 (element (element m i) (number 1)) (number 5) ∷ [])) (0 ∷ 2 ∷ []) ≡ asked Tick 3 ∷ asked (Read 4) 3 ∷ asked (Write 17 5) 3 ∷ []
element_stored = simp fronts_and_forms

-- `x = *(m[1] + 5);`
moved_row : asks (program (set 3 x (pointed (joined op.Add (element m (number 1)) (number 5))) ∷ [])) (0 ∷ 9 ∷ []) ≡ asked Tick 3 ∷ asked (Read 17) 3 ∷ asked (Write 0 9) 3 ∷ []
moved_row = simp fronts_and_forms

-- `p = m[1];` points to the first cell of the row, `p = &m[1][2];` to the third, and `p = m[3];` nowhere
row_pointer : (ways : Ways) → done (program []) (set 4 p (element m (number 1))) (pointer (codes "p") None ∷ []) (value.Nowhere ∷ []) ways (0 ∷ []) ≡ ways.next (pointing_at 5 (pos 4) ∷ []) []
row_pointer ways = simp fronts_and_forms

element_pointer : (ways : Ways) → done (program []) (set 4 p (address (element (element m (number 1)) (number 2)))) (pointer (codes "p") None ∷ []) (value.Nowhere ∷ []) ways (0 ∷ []) ≡ ways.next (pointing_at 5 (pos 6) ∷ []) []
element_pointer ways = simp fronts_and_forms

row_nowhere : (ways : Ways) → done (program []) (set 4 p (element m (number 3))) (pointer (codes "p") None ∷ []) (value.Nowhere ∷ []) ways (0 ∷ []) ≡ ways.next (value.Nowhere ∷ []) []
row_nowhere ways = simp fronts_and_forms

-- `x = p[5];` goes on from row to row
next_row : (ways : Ways) → done (program []) (set 4 x (element p (number 5))) (pointer (codes "p") None ∷ []) (pointing_at 5 (pos 4) ∷ []) ways (0 ∷ []) ≡ asked (Read 17) 4
next_row ways = simp fronts_and_forms

-- `x = *m[2];`
first_of_row : asks (program (set 3 x (pointed (element m (number 2))) ∷ [])) (0 ∷ []) ≡ asked Tick 3 ∷ asked (Read 16) 3 ∷ []
first_of_row = simp fronts_and_forms

-- Calls

-- the functions run: `f` takes its arguments in order, `g` gives what an `int` keeps of 2^31, and `h` gives 0
f_given : (go : Value → TreeRun) → function_run (program_with callees []) 1 (here_in (program_with callees [])) (Some f_function) (value.Num 6 ∷ value.Num 2 ∷ []) go (0 ∷ []) ≡ go (value.Num 4) []
f_given go = simp fronts_and_forms

g_asked : (go : Value → TreeRun) → function_run (program_with callees []) 2 (here_in (program_with callees [])) (Some g_function) (value.Num 2147483643 ∷ []) go [] ≡ asked Tick 13
g_asked go = simp fronts_and_forms

g_given : (go : Value → TreeRun) → function_run (program_with callees []) 2 (here_in (program_with callees [])) (Some g_function) (value.Num 2147483643 ∷ []) go (0 ∷ []) ≡ go (value.Num 18446744071562067968) []
g_given go = simp fronts_and_forms

h_given : (go : Value → TreeRun) → function_run (program_with callees []) 3 (here_in (program_with callees [])) (Some h_function) [] go [] ≡ go (value.Num 0) []
h_given go = refl

-- the statement `k(h(), h());`: its tick, and then one of each call, in the order of the calls
calls_in_order : asks (program_with callees (on 3 (stmts.Call (codes "k") (call (codes "h") [] ∷ call (codes "h") [] ∷ [])) ∷ [])) (0 ∷ 0 ∷ 0 ∷ 0 ∷ [])
    ≡ asked Tick 3 ∷ asked Tick 3 ∷ asked Tick 3 ∷ asked Tick 3 ∷ asked End 2 ∷ []
calls_in_order = simp fronts_and_forms

-- `x = h() + u;`
call_before_load : asks (program_with callees (set 3 x (joined op.Add (call (codes "h") []) u) ∷ [])) (0 ∷ 0 ∷ 7 ∷ [])
    ≡ asked Tick 3 ∷ asked Tick 3 ∷ asked (Read 7) 3 ∷ asked (Write 0 7) 3 ∷ []
call_before_load = simp fronts_and_forms

-- a call with 256 frames does its tick, and fails; with 255 the function runs with one frame more
frames_full : (call : Calls) (create : ℕ → List Value → ℕ → (Value → TreeRun) → TreeRun) (go : Value → TreeRun) (vs : List ℕ)
    → called 0 3 (record { frames = 256; call = call; create = create; turns = 9 }) [] go (0 ∷ vs) ≡ asked (Fails fault.TooDeep) 3
frames_full call create go vs = refl

frames_left : (call : Calls) (create : ℕ → List Value → ℕ → (Value → TreeRun) → TreeRun) (go : Value → TreeRun) (vs : List ℕ)
    → called 0 3 (record { frames = 255; call = call; create = create; turns = 9 }) [] go (0 ∷ vs) ≡ call 0 [] 256 go vs
frames_left call create go vs = refl

-- Prints and returns

-- `printf("%d %lu\n", x, u);`
two_printed : asks (program (on 3 (stmts.Print (codes "%d %lu\n") (x ∷ u ∷ [])) ∷ [])) (0 ∷ 18446744073709551611 ∷ 6 ∷ 0 ∷ [])
    ≡ asked Tick 3 ∷ asked (Read 0) 3 ∷ asked (Read 7) 3 ∷ asked (Print (printed (codes "%d %lu\n") (18446744073709551611 ∷ 6 ∷ []))) 3 ∷ asked End 2 ∷ []
two_printed = simp fronts_and_forms

-- `printf("");`
nothing_printed : asks (program (on 3 (stmts.Print [] []) ∷ [])) (0 ∷ 0 ∷ []) ≡ asked Tick 3 ∷ asked (Print []) 3 ∷ asked End 2 ∷ []
nothing_printed = simp fronts_and_forms

-- `return 1 / x;`
value_returned : asks (program (on 3 (stmts.Return (Some (joined op.Div (number 1) x))) ∷ [])) (0 ∷ 2 ∷ []) ≡ asked Tick 3 ∷ asked (Read 0) 3 ∷ asked End 3 ∷ []
value_returned = simp fronts_and_forms

-- Jumps and loops

-- `for (;;) { break; }` on the lines 3 and 4
loop_left : asks (program (on 3 (stmts.For None None None (on 3 (stmts.Block (on 4 stmts.Break ∷ [])))) ∷ on 5 stmts.Empty ∷ [])) (0 ∷ 0 ∷ 0 ∷ 0 ∷ [])
    ≡ asked Tick 3 ∷ asked Tick 3 ∷ asked Tick 4 ∷ asked Tick 5 ∷ asked End 2 ∷ []
loop_left = simp fronts_and_forms

-- `for (;;) { continue; }`
loop_again : asks (program (on 3 (stmts.For None None None (on 3 (stmts.Block (on 4 stmts.Continue ∷ [])))) ∷ [])) (0 ∷ 0 ∷ 0 ∷ 0 ∷ 0 ∷ [])
    ≡ asked Tick 3 ∷ asked Tick 3 ∷ asked Tick 4 ∷ asked Tick 3 ∷ asked Tick 4 ∷ asked Tick 3 ∷ []
loop_again = simp fronts_and_forms

-- `for (;; ;) continue;` with an empty statement on line 5 as its last part, which has no test and no first part
last_part : asks (program (on 3 (stmts.For None None (Some (on 5 stmts.Empty)) (on 4 stmts.Continue)) ∷ [])) (0 ∷ 0 ∷ 0 ∷ 0 ∷ [])
    ≡ asked Tick 3 ∷ asked Tick 3 ∷ asked Tick 4 ∷ asked Tick 5 ∷ asked Tick 3 ∷ []
last_part = simp fronts_and_forms

-- a `return` in a loop in a loop leaves both
return_inside : (ways : Ways) → done (program []) (on 3 (stmts.For None None None (on 4 (stmts.For None None None (on 5 (stmts.Return None)))))) [] [] ways (0 ∷ 0 ∷ 0 ∷ 0 ∷ 0 ∷ []) ≡ ways.give 5 (value.Num 0) []
return_inside ways = simp statement_forms

-- a `break` leaves the inner loop alone, and then the outer one
break_inside : (ways : Ways) → done (program []) (on 3 (stmts.For None None None (on 4 (stmts.Block (on 4 (stmts.For None None None (on 5 stmts.Break)) ∷ on 6 stmts.Break ∷ []))))) [] [] ways (0 ∷ 0 ∷ 0 ∷ 0 ∷ 0 ∷ []) ≡ asked Tick 6
break_inside ways = simp statement_forms

break_outside : (ways : Ways) → done (program []) (on 3 (stmts.For None None None (on 4 (stmts.Block (on 4 (stmts.For None None None (on 5 stmts.Break)) ∷ on 6 stmts.Break ∷ []))))) [] [] ways (0 ∷ 0 ∷ 0 ∷ 0 ∷ 0 ∷ 0 ∷ []) ≡ ways.next [] []
break_outside ways = simp statement_forms

-- one turn of `while (x) ..` on line 3, whatever its body: the test is loaded, and the body runs or the loop ends
turn_made : (body : Meaning) (next : List Value → TreeRun) (ways : Ways)
    → turn (program []) 3 (Some x) None body next (in_scope []) (here_in (program [])) ways [] (1 ∷ []) ≡ body.does (in_scope []) (here_in (program [])) (body_ways (in_scope []) next ways) [] []
turn_made body next ways = simp fronts_and_forms

turn_left : (body : Meaning) (next : List Value → TreeRun) (ways : Ways)
    → turn (program []) 3 (Some x) None body next (in_scope []) (here_in (program [])) ways [] (0 ∷ []) ≡ ways.next [] []
turn_left body next ways = simp fronts_and_forms

-- `if (i) ; else ;` on the lines 3, 4 and 5
first_side : asks (program (on 3 (stmts.If i (on 4 stmts.Empty) (Some (on 5 stmts.Empty))) ∷ [])) (0 ∷ 1 ∷ 0 ∷ []) ≡ asked Tick 3 ∷ asked (Read 4) 3 ∷ asked Tick 4 ∷ asked End 2 ∷ []
first_side = simp fronts_and_forms

second_side : asks (program (on 3 (stmts.If i (on 4 stmts.Empty) (Some (on 5 stmts.Empty))) ∷ [])) (0 ∷ 0 ∷ 0 ∷ []) ≡ asked Tick 3 ∷ asked (Read 4) 3 ∷ asked Tick 5 ∷ asked End 2 ∷ []
second_side = simp fronts_and_forms

no_side : asks (program (on 3 (stmts.If i (on 4 stmts.Empty) None) ∷ [])) (0 ∷ 0 ∷ []) ≡ asked Tick 3 ∷ asked (Read 4) 3 ∷ asked End 2 ∷ []
no_side = simp fronts_and_forms

-- a test that fails has the line of its `if` or its loop, and a part of a `for` its own
test_line : asks (program (on 3 (stmts.If (joined op.Div (number 1) x) (on 4 stmts.Empty) None) ∷ [])) (0 ∷ 0 ∷ []) ≡ asked Tick 3 ∷ asked (Read 0) 3 ∷ asked (Fails fault.DivideByZero) 3 ∷ []
test_line = simp fronts_and_forms

loop_line : asks (program (on 3 (stmts.While (joined op.Div (number 1) x) (on 4 stmts.Empty)) ∷ [])) (0 ∷ 0 ∷ 0 ∷ []) ≡ asked Tick 3 ∷ asked Tick 3 ∷ asked (Read 0) 3 ∷ asked (Fails fault.DivideByZero) 3 ∷ []
loop_line = simp fronts_and_forms

part_line : asks (program (on 3 (stmts.For (Some (set 4 x (joined op.Div (number 1) u))) None None (on 6 stmts.Empty)) ∷ [])) (0 ∷ 0 ∷ 0 ∷ []) ≡ asked Tick 3 ∷ asked Tick 4 ∷ asked (Read 7) 4 ∷ asked (Fails fault.DivideByZero) 4 ∷ []
part_line = simp fronts_and_forms

-- what is declared in a loop is gone behind its `break`
left_behind : (ways : Ways) → done (program []) (on 3 (stmts.For None None None (on 3 (stmts.Block (on 4 (stmts.Declare (long (codes "y") None ∷ [])) ∷ on 5 stmts.Break ∷ []))))) (long (codes "z") None ∷ []) (value.Num 7 ∷ []) ways (0 ∷ 0 ∷ 0 ∷ 0 ∷ []) ≡ ways.next (value.Num 7 ∷ []) []
left_behind ways = simp fronts_and_forms

-- what a `for` declares in its first part is gone behind it
first_part_gone : (ways : Ways) → done (program []) (on 3 (stmts.For (Some (on 3 (stmts.Declare (long (codes "y") None ∷ [])))) None None (on 4 stmts.Break))) (long (codes "z") None ∷ []) (value.Num 7 ∷ []) ways (0 ∷ 0 ∷ 0 ∷ 0 ∷ [])
    ≡ ways.next (value.Num 7 ∷ []) []
first_part_gone ways = simp fronts_and_forms

-- Statements in order

-- `x = 2; x = x + 3;`
two_in_order : asks (program (set 3 x (number 2) ∷ set 4 x (joined op.Add x (number 3)) ∷ [])) (0 ∷ 0 ∷ 0 ∷ [])
    ≡ asked Tick 3 ∷ asked (Write 0 2) 3 ∷ asked Tick 4 ∷ asked (Read 0) 4 ∷ []
two_in_order = simp fronts

-- `x = 2; return 1 / x;`
return_behind : asks (program (set 3 x (number 2) ∷ on 4 (stmts.Return (Some (joined op.Div (number 1) x))) ∷ [])) (0 ∷ 0 ∷ 0 ∷ 2 ∷ [])
    ≡ asked Tick 3 ∷ asked (Write 0 2) 3 ∷ asked Tick 4 ∷ asked (Read 0) 4 ∷ asked End 4 ∷ []
return_behind = simp fronts_and_forms

-- `x = f(g(1), 2);`
calls_nested : asks (program_with callees (set 3 x (call (codes "f") (call (codes "g") (number 1 ∷ []) ∷ number 2 ∷ [])) ∷ [])) (0 ∷ 0 ∷ 0 ∷ 0 ∷ 0 ∷ [])
    ≡ asked Tick 3 ∷ asked Tick 3 ∷ asked Tick 13 ∷ asked Tick 3 ∷ asked Tick 11 ∷ asked (Write 0 4) 3 ∷ []
calls_nested = simp fronts_and_forms

-- `while (x) { x = x - 1; if (x == 2) break; }` on the lines 3 to 5, with 4 in `x`: the test is made twice
abbrev counted_down : Stmt
counted_down = on 3 (stmts.While x (on 3 (stmts.Block (set 4 x (joined op.Sub x (number 1)) ∷ on 5 (stmts.If (joined op.Equal x (number 2)) (on 5 stmts.Break) None) ∷ []))))

first_store : (ways : Ways) → done (program []) counted_down [] [] ways (0 ∷ 0 ∷ 4 ∷ 0 ∷ 4 ∷ []) ≡ asked (Write 0 3) 4
first_store ways = simp fronts

second_test : (ways : Ways) → done (program []) counted_down [] [] ways (0 ∷ 0 ∷ 4 ∷ 0 ∷ 4 ∷ 0 ∷ 0 ∷ 3 ∷ 0 ∷ []) ≡ asked (Read 0) 3
second_test ways = simp fronts

loop_broken : (ways : Ways) → done (program []) counted_down [] [] ways (0 ∷ 0 ∷ 4 ∷ 0 ∷ 4 ∷ 0 ∷ 0 ∷ 3 ∷ 0 ∷ 3 ∷ 0 ∷ 3 ∷ 0 ∷ 0 ∷ 2 ∷ 0 ∷ []) ≡ ways.next [] []
loop_broken ways = simp fronts

-- the same call as a statement
call_alone : asks (program_with callees (on 3 (stmts.Call (codes "f") (call (codes "g") (number 1 ∷ []) ∷ number 2 ∷ [])) ∷ [])) (0 ∷ 0 ∷ 0 ∷ 0 ∷ 0 ∷ [])
    ≡ asked Tick 3 ∷ asked Tick 3 ∷ asked Tick 13 ∷ asked Tick 3 ∷ asked Tick 11 ∷ asked End 2 ∷ []
call_alone = simp fronts_and_forms

abbrev cut_short : Stmt
cut_short = on 3 (stmts.While x (on 3 (stmts.Block (on 4 stmts.Continue ∷ on 5 stmts.Empty ∷ []))))

-- `while (x) { continue; ; }`: what stands behind the `continue` does not run
turn_cut : (ways : Ways) → done (program []) cut_short [] [] ways (0 ∷ 0 ∷ 1 ∷ 0 ∷ []) ≡ asked Tick 3
turn_cut ways = simp fronts

loop_cut : (ways : Ways) → done (program []) cut_short [] [] ways (0 ∷ 0 ∷ 1 ∷ 0 ∷ 0 ∷ 0 ∷ []) ≡ ways.next [] []
loop_cut ways = simp fronts
