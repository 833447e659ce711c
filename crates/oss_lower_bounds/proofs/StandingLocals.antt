-- Where a statement stands in a program, no more locals are in scope than its function has.
use Rattle.std.proofs.Common.{◌≡◌, ℕ, ◌+◌, ◌≤◌, List, [], ◌∷◌, length, map, Option, Some, None, option_map, refl, ap, arith, rules, length-append}
use Rattle.oss_syntax.specs.declared.tree.expr.Expr.{Expr}
use Rattle.oss_syntax.specs.declared.tree.pragma.TaskMark.{TaskMark}
use Rattle.oss_syntax.specs.declared.tree.program.Local.{Local}
use Rattle.oss_syntax.specs.declared.tree.stmt.LoopHead.{LoopHead}
use Rattle.oss_syntax.specs.declared.tree.stmt.Stmt.{Stmt}
use Rattle.oss_syntax.specs.declared.tree.stmt.StmtKind.{StmtKind, out-StmtKind}
use Rattle.oss_syntax.specs.declared.tree.stmt.StmtKind.TheFolds.{the_lemmas as stmt_folds}
use Rattle.oss_syntax.specs.declared.tree.stmt.StmtKind.TheOpen.{StmtKind-F}
use Rattle.oss_syntax.specs.declared.tree.stmt.StmtKind.TheOpen as open_stmt
use Rattle.oss_syntax.specs.declared.tree.stmt.StmtKind.TheVariants as stmts
use Rattle.oss_grammar.specs.Places.{StandsAmong, StandsIn, declarators_of, locals_behind, locals_behind_part}
use Rattle.oss_grammar.specs.Places.StandsAmong.{in_first, in_rest}
use Rattle.oss_grammar.specs.Places.StandsIn.{in_block, in_else, in_for_body, in_for_last, in_for_start, in_task_body, in_task_loop_body, in_then, in_while, itself}
use Rattle.oss_grammar.specs.Scopes.{hidden_local, loop_locals}
use Rattle.oss_grammar.proofs.TreeInduction.{StmtParts, stmt_induction}
use Rattle.oss_grammar.proofs.TreeInduction.StmtParts.{is_assign, is_block, is_break, is_call, is_continue, is_declare, is_empty, is_for, is_if, is_print, is_release, is_return, is_task, is_task_loop, is_wait, is_while}
use Rattle.oss_lower_bounds.specs.Bounds.{PlacesAreCounted}
use Rattle.oss_lower_bounds.specs.Sizes.{if_any, stmt_locals, total}

-- What each form declares

module _ (line : ℕ) where
  locals-block : (body : List Stmt) → stmt_locals (record { what = stmts.Block body; line = line }) ≡ total (map stmt_locals body)
  locals-block body = search (rules, stmt_folds)

  locals-declare : (ls : List Local) → stmt_locals (record { what = stmts.Declare ls; line = line }) ≡ length ls
  locals-declare ls = search (rules, stmt_folds)

  locals-if : (e : Expr) (s : Stmt) (o : Option Stmt) → stmt_locals (record { what = stmts.If e s o; line = line }) ≡ stmt_locals s + if_any (option_map stmt_locals o)
  locals-if e s o = search (rules, stmt_folds)

  locals-while : (e : Expr) (s : Stmt) → stmt_locals (record { what = stmts.While e s; line = line }) ≡ stmt_locals s
  locals-while e s = search (rules, stmt_folds)

  locals-for : (f : Option Stmt) (e : Option Expr) (l : Option Stmt) (s : Stmt)
      → stmt_locals (record { what = stmts.For f e l s; line = line }) ≡ if_any (option_map stmt_locals f) + (if_any (option_map stmt_locals l) + stmt_locals s)
  locals-for f e l s = search (rules, stmt_folds)

  locals-task : (mark : TaskMark) (s : Stmt) → stmt_locals (record { what = stmts.Task mark s; line = line }) ≡ stmt_locals s
  locals-task mark s = search (rules, stmt_folds)

  locals-task_loop : (head : LoopHead) (s : Stmt) → stmt_locals (record { what = stmts.TaskLoop head s; line = line }) ≡ 5 + stmt_locals s
  locals-task_loop head s = search (rules, stmt_folds)

-- the same of a statement that has this form
of : (s : Stmt) {k : StmtKind} → s.what ≡ k → stmt_locals s ≡ stmt_locals (record { what = k; line = s.line })
of s is = ap (λ w. stmt_locals (record { what = w; line = s.line })) is

-- What is in scope behind a statement

abbrev Declares : Stmt → Type 0
Declares s = length (declarators_of (out-StmtKind s.what)) ≤ stmt_locals s

none_declared : (s : Stmt) (k : StmtKind-F StmtKind Stmt) → out-StmtKind s.what ≡ k → length (declarators_of k) ≡ 0 → Declares s
none_declared s k is none = omega (arith, ap (λ x. length (declarators_of x)) is, none)

some_declared : (s : Stmt) (ls : List Local) → s.what ≡ stmts.Declare ls → out-StmtKind s.what ≡ open_stmt.Declare ls → Declares s
some_declared s ls is shape = omega (arith, ap (λ x. length (declarators_of x)) shape, of s is, locals-declare s.line ls)

declares : (s : Stmt) → StmtParts Declares s.what → Declares s
declares s (is_block body is each) = none_declared s (open_stmt.Block body) (rw is (search (rules, stmt_folds))) refl
declares s (is_empty is) = none_declared s open_stmt.Empty (rw is (search (rules, stmt_folds))) refl
declares s (is_declare ls is) = some_declared s ls is (rw is (search (rules, stmt_folds)))
declares s (is_assign t o e is) = none_declared s (open_stmt.Assign t o e) (rw is (search (rules, stmt_folds))) refl
declares s (is_call name es is) = none_declared s (open_stmt.Call name es) (rw is (search (rules, stmt_folds))) refl
declares s (is_print format es is) = none_declared s (open_stmt.Print format es) (rw is (search (rules, stmt_folds))) refl
declares s (is_if e side other is h k) = none_declared s (open_stmt.If e side other) (rw is (search (rules, stmt_folds))) refl
declares s (is_while e body is h) = none_declared s (open_stmt.While e body) (rw is (search (rules, stmt_folds))) refl
declares s (is_for start test last body is h k l) = none_declared s (open_stmt.For start test last body) (rw is (search (rules, stmt_folds))) refl
declares s (is_return e is) = none_declared s (open_stmt.Return e) (rw is (search (rules, stmt_folds))) refl
declares s (is_break is) = none_declared s open_stmt.Break (rw is (search (rules, stmt_folds))) refl
declares s (is_continue is) = none_declared s open_stmt.Continue (rw is (search (rules, stmt_folds))) refl
declares s (is_task mark body is h) = none_declared s (open_stmt.Task mark body) (rw is (search (rules, stmt_folds))) refl
declares s (is_task_loop head body is h) = none_declared s (open_stmt.TaskLoop head body) (rw is (search (rules, stmt_folds))) refl
declares s (is_wait sections is) = none_declared s (open_stmt.TaskWait sections) (rw is (search (rules, stmt_folds))) refl
declares s (is_release clauses is) = none_declared s (open_stmt.Release clauses) (rw is (search (rules, stmt_folds))) refl

behind_few : (s : Stmt) (locals : List Local) → length (locals_behind s locals) ≤ length locals + stmt_locals s
behind_few s locals = omega (arith, length-append locals (declarators_of (out-StmtKind s.what)), stmt_induction Declares declares s)

part_few : (o : Option Stmt) (locals : List Local) → length (locals_behind_part o locals) ≤ length locals + if_any (option_map stmt_locals o)
part_few None locals = omega arith
part_few (Some s) locals = behind_few s locals

loop_few : (head : LoopHead) (locals : List Local) → length (loop_locals head locals) ≡ length locals + 5
loop_few head locals = omega (arith, length-append locals (hidden_local ∷ hidden_local ∷ hidden_local ∷ hidden_local ∷ head.variable ∷ []))

-- Where a statement stands

mutual
  inside : {visible locals : List Local} {t s : Stmt} → StandsIn visible t locals s → length visible + stmt_locals t ≤ length locals + stmt_locals s
  inside itself = omega arith
  inside {s = s} (in_block body is d) = omega (arith, of s is, locals-block s.line body, among d)
  inside {s = s} (in_then e side other is d) = omega (arith, of s is, locals-if s.line e side other, inside d)
  inside {s = s} (in_else e side other is d) = omega (arith, of s is, locals-if s.line e side (Some other), inside d)
  inside {s = s} (in_while e body is d) = omega (arith, of s is, locals-while s.line e body, inside d)
  inside {s = s} (in_for_start start test last body is d) = omega (arith, of s is, locals-for s.line (Some start) test last body, inside d)
  inside {locals = locals} {s = s} (in_for_last start test last body is d) = omega (arith, of s is, locals-for s.line start test (Some last) body, part_few start locals, inside d)
  inside {locals = locals} {s = s} (in_for_body start test last body is d) = omega (arith, of s is, locals-for s.line start test last body, part_few start locals, inside d)
  inside {s = s} (in_task_body mark body is d) = omega (arith, of s is, locals-task s.line mark body, inside d)
  inside {locals = locals} {s = s} (in_task_loop_body head body is d) = omega (arith, of s is, locals-task_loop s.line head body, loop_few head locals, inside d)

  among : {visible locals : List Local} {t : Stmt} {ss : List Stmt} → StandsAmong visible t locals ss → length visible + stmt_locals t ≤ length locals + total (map stmt_locals ss)
  among (in_first d) = omega (arith, inside d)
  among {locals = locals} (in_rest {s = s} d) = omega (arith, behind_few s locals, among d)

pub places_are_counted : PlacesAreCounted
places_are_counted p f visible t is = among is.stands
