-- Which jumps leave what is around them, by the place of the jump and by the statements around it.
use Rattle.std.proofs.Common.{◌≡◌, ℕ, true, false, List, [], ◌∷◌, length, refl, sym, ap, ◌∙◌, subst, Option}
use Rattle.oss_syntax.specs.declared.tree.expr.Expr.{Expr}
use Rattle.oss_syntax.specs.declared.tree.program.Local.{Local}
use Rattle.oss_syntax.specs.declared.tree.stmt.Stmt.{Stmt}
use Rattle.oss_syntax.specs.declared.tree.stmt.StmtKind.TheVariants as stmts
use Rattle.oss_grammar.specs.declared.kinds.Around.{Around}
use Rattle.oss_grammar.specs.declared.kinds.Nearest.{Nearest}
use Rattle.oss_grammar.specs.declared.kinds.Nearest.TheVariants as nearest
use Rattle.oss_grammar.specs.Jumps.{IsPart, IsLoopBody, IsTaskBody, IsTaskLoopBody, Breaks, Leaves, Returns, LeavesTask}
use Rattle.oss_grammar.specs.Jumps.IsPart.{of_block, is_then, is_else, is_start, is_last}
use Rattle.oss_grammar.specs.Jumps.IsLoopBody.{of_while, of_for}
use Rattle.oss_grammar.specs.Jumps.IsTaskBody.{of_task}
use Rattle.oss_grammar.specs.Jumps.IsTaskLoopBody.{of_task_loop}
use Rattle.oss_grammar.specs.Jumps.Breaks.{break_in, breaks_part}
use Rattle.oss_grammar.specs.Jumps.Leaves.{break_here, continue_here, leaves_part}
use Rattle.oss_grammar.specs.Jumps.Returns.{return_here, returns_part, returns_loop, returns_task, returns_task_loop}
use Rattle.oss_grammar.specs.Jumps.LeavesTask.{leaves_body, returns_body, task_in_part, task_in_loop, task_in_task, breaks_task_loop, returns_from_task_loop, task_in_task_loop}
use Rattle.oss_grammar.specs.Places.{IsOneOf}
use Rattle.oss_grammar.proofs.ScopedPlaces.{StandsIn, StandsAmong, locals_behind, locals_behind_part}
use Rattle.oss_grammar.specs.Places.IsOneOf.{first_of_them, later_of_them}
use Rattle.oss_grammar.proofs.ScopedPlaces.StandsIn.{itself, in_block, in_then, in_else, in_while, in_for_start, in_for_last, in_for_body, in_task_body, in_task_loop_body}
use Rattle.oss_grammar.proofs.ScopedPlaces.StandsAmong.{in_first, in_rest}
use Rattle.oss_grammar.specs.Scopes.{loop_locals}
use Rattle.oss_grammar.specs.StaticRules.{in_a_loop, in_a_task, in_a_task_loop, may_break, may_continue, scope_in}

-- A statement at its place that jumps out of what is around it.
pub data JumpsOut (a : Around) (s : Stmt) : Type 0 where
  break_out : s.what ≡ stmts.Break → may_break a.nearest ≡ false → JumpsOut a s
  continue_out : s.what ≡ stmts.Continue → may_continue a.nearest ≡ false → JumpsOut a s
  return_out : (value : Option Expr) → s.what ≡ stmts.Return value → a.in_task ≡ true → JumpsOut a s

-- where no `continue` may stand no `break` may
no_break : (n : Nearest) → may_continue n ≡ false → may_break n ≡ false
no_break nearest.NoLoop e = refl
no_break nearest.Loop e = absurd (cc)
no_break nearest.TaskLoop e = refl

never : {C : Type 0} → true ≡ false → C
never e = absurd (cc)

module _ (line : ℕ) where
  pub breaks_leave : {s : Stmt} → Breaks line s → Leaves line s
  breaks_leave (break_in is same) = break_here is same
  breaks_leave (breaks_part part is b) = leaves_part part is (breaks_leave b)

  -- what jumps out of a statement, where these things are around it
  pub data Out (a : Around) (s : Stmt) : Type 0 where
    leaving : may_continue a.nearest ≡ false → Leaves line s → Out a s
    breaking : may_break a.nearest ≡ false → Breaks line s → Out a s
    returning : a.in_task ≡ true → Returns line s → Out a s
    task_leaving : LeavesTask line s → Out a s

  pub record OutAmong (a : Around) (body : List Stmt) : Type 0 where
    pub statement : Stmt
    pub is_listed : IsOneOf statement body
    pub out : Out a statement

  from_part : {a b : Around} {part s : Stmt} → b.nearest ≡ a.nearest → b.in_task ≡ a.in_task → IsPart part s → Out b part → Out a s
  from_part {part = part} e f is (leaving free l) = leaving (ap may_continue (sym e) ∙ free) (leaves_part part is l)
  from_part {part = part} e f is (breaking free b) = breaking (ap may_break (sym e) ∙ free) (breaks_part part is b)
  from_part {part = part} e f is (returning held r) = returning (sym f ∙ held) (returns_part part is r)
  from_part {part = part} e f is (task_leaving l) = task_leaving (task_in_part part is l)

  from_loop : {a b : Around} {body s : Stmt} → b.nearest ≡ nearest.Loop → b.in_task ≡ a.in_task → IsLoopBody body s → Out b body → Out a s
  from_loop e f is (leaving free l) = never (ap may_continue (sym e) ∙ free)
  from_loop e f is (breaking free b) = never (ap may_break (sym e) ∙ free)
  from_loop {body = body} e f is (returning held r) = returning (sym f ∙ held) (returns_loop body is r)
  from_loop {body = body} e f is (task_leaving l) = task_leaving (task_in_loop body is l)

  from_task : {a b : Around} {body s : Stmt} → IsTaskBody body s → Out b body → Out a s
  from_task {body = body} is (leaving free l) = task_leaving (leaves_body body is l)
  from_task {body = body} is (breaking free b) = task_leaving (leaves_body body is (breaks_leave b))
  from_task {body = body} is (returning held r) = task_leaving (returns_body body is r)
  from_task {body = body} is (task_leaving l) = task_leaving (task_in_task body is l)

  from_task_loop : {a b : Around} {body s : Stmt} → b.nearest ≡ nearest.TaskLoop → IsTaskLoopBody body s → Out b body → Out a s
  from_task_loop e is (leaving free l) = never (ap may_continue (sym e) ∙ free)
  from_task_loop {body = body} e is (breaking free b) = task_leaving (breaks_task_loop body is b)
  from_task_loop {body = body} e is (returning held r) = task_leaving (returns_from_task_loop body is r)
  from_task_loop {body = body} e is (task_leaving l) = task_leaving (task_in_task_loop body is l)

  from_block : {a : Around} (locals : List Local) {s : Stmt} (body : List Stmt) → s.what ≡ stmts.Block body → OutAmong (scope_in a locals) body → Out a s
  from_block locals body is o = from_part refl refl (of_block body is o.is_listed) o.out

  at_jump : {a : Around} {s : Stmt} → JumpsOut a s → s.line ≡ line → Out a s
  at_jump (break_out is free) same = breaking free (break_in is same)
  at_jump (continue_out is free) same = leaving free (continue_here is same)
  at_jump (return_out value is held) same = returning held (return_here value is same)

  later_out : {a : Around} (s : Stmt) {rest : List Stmt} → OutAmong a rest → OutAmong a (s ∷ rest)
  later_out s o = record { statement = o.statement; is_listed = later_of_them o.is_listed; out = o.out }

  mutual
    pub out_in : {b : Around} {visible : List Local} {t : Stmt} {a : Around} {locals : List Local} {s : Stmt} → StandsIn b visible t a locals s → JumpsOut b t → t.line ≡ line → Out a s
    out_in itself j same = at_jump j same
    out_in {locals = locals} (in_block body is d) j same = from_block locals body is (out_among d j same)
    out_in (in_then e r o is d) j same = from_part refl refl (is_then e o is) (out_in d j same)
    out_in (in_else e r o is d) j same = from_part refl refl (is_else e r is) (out_in d j same)
    out_in (in_while e r is d) j same = from_loop refl refl (of_while e is) (out_in d j same)
    out_in (in_for_start start test last r is d) j same = from_part refl refl (is_start test last r is) (out_in d j same)
    out_in (in_for_last start test last r is d) j same = from_part refl refl (is_last start test r is) (out_in d j same)
    out_in (in_for_body start test last r is d) j same = from_loop refl refl (of_for start test last is) (out_in d j same)
    out_in (in_task_body mark r is d) j same = from_task (of_task mark is) (out_in d j same)
    out_in (in_task_loop_body head r is d) j same = from_task_loop refl (of_task_loop head is) (out_in d j same)

    pub out_among : {b : Around} {visible : List Local} {t : Stmt} {a : Around} {locals : List Local} {body : List Stmt} → StandsAmong b visible t a locals body → JumpsOut b t → t.line ≡ line → OutAmong a body
    out_among (in_first {s = s} d) j same = record { statement = s; is_listed = first_of_them refl; out = out_in d j same }
    out_among (in_rest {s = s} d) j same = later_out s (out_among d j same)

  -- and the other way: such a jump stands at a place
  pub record Jumps (a : Around) (locals : List Local) (s : Stmt) : Type 0 where
    pub around : Around
    pub visible : List Local
    pub jump : Stmt
    pub stands : StandsIn around visible jump a locals s
    pub out : JumpsOut around jump
    pub on_line : jump.line ≡ line

  pub record JumpsAmong (a : Around) (locals : List Local) (body : List Stmt) : Type 0 where
    pub around : Around
    pub visible : List Local
    pub jump : Stmt
    pub stands : StandsAmong around visible jump a locals body
    pub out : JumpsOut around jump
    pub on_line : jump.line ≡ line

  up : {a b : Around} {ls ms : List Local} {s t : Stmt} → ((c : Around) (visible : List Local) (u : Stmt) → StandsIn c visible u a ls s → StandsIn c visible u b ms t) → Jumps a ls s → Jumps b ms t
  up lift j = record { around = j.around; visible = j.visible; jump = j.jump; stands = lift j.around j.visible j.jump j.stands; out = j.out; on_line = j.on_line }

  pub among : {part : Stmt} (a : Around) (locals : List Local) (body : List Stmt) → IsOneOf part body → ((ms : List Local) → Jumps a ms part) → JumpsAmong a locals body
  among a locals [] is go = elim is [ ]
  among {part} a locals (s ∷ rest) (first_of_them e) go = put (subst (λ (t : Stmt). Jumps a locals t) (sym e) (go locals)) where
    put : Jumps a locals s → JumpsAmong a locals (s ∷ rest)
    put j = record { around = j.around; visible = j.visible; jump = j.jump; stands = in_first j.stands; out = j.out; on_line = j.on_line }
  among {part} a locals (s ∷ rest) (later_of_them is) go = put (among a (locals_behind a.start s locals) rest is go) where
    put : JumpsAmong a (locals_behind a.start s locals) rest → JumpsAmong a locals (s ∷ rest)
    put j = record { around = j.around; visible = j.visible; jump = j.jump; stands = in_rest j.stands; out = j.out; on_line = j.on_line }

  block_jumps : {a : Around} {locals : List Local} {s : Stmt} (body : List Stmt) → s.what ≡ stmts.Block body → JumpsAmong (scope_in a locals) locals body → Jumps a locals s
  block_jumps body is j = record { around = j.around; visible = j.visible; jump = j.jump; stands = in_block body is j.stands; out = j.out; on_line = j.on_line }

  part_jumps : {part s : Stmt} (a : Around) (locals : List Local) → IsPart part s → ((c : Around) (ms : List Local) → c.nearest ≡ a.nearest → c.in_task ≡ a.in_task → Jumps c ms part) → Jumps a locals s
  part_jumps a locals (of_block body is listed) go = block_jumps body is (among (scope_in a locals) locals body listed (λ ms. go (scope_in a locals) ms refl refl))
  part_jumps {part = part} a locals (is_then e o is) go = up (λ c visible u d. in_then e part o is d) (go (scope_in a locals) locals refl refl)
  part_jumps {part = part} a locals (is_else e r is) go = up (λ c visible u d. in_else e r part is d) (go (scope_in a locals) locals refl refl)
  part_jumps {part = part} a locals (is_start test last r is) go = up (λ c visible u d. in_for_start part test last r is d) (go (scope_in a locals) locals refl refl)
  part_jumps {part = part} a locals (is_last start test r is) go =
      up (λ c visible u d. in_for_last start test part r is d) (go (scope_in a (locals_behind_part (length locals) start locals)) (locals_behind_part (length locals) start locals) refl refl)

  loop_jumps : {body s : Stmt} (a : Around) (locals : List Local) → IsLoopBody body s → ((c : Around) (ms : List Local) → c.in_task ≡ a.in_task → Jumps c ms body) → Jumps a locals s
  loop_jumps {body = body} a locals (of_while e is) go = up (λ c visible u d. in_while e body is d) (go (scope_in (in_a_loop a) locals) locals refl)
  loop_jumps {body = body} a locals (of_for start test last is) go =
      up (λ c visible u d. in_for_body start test last body is d) (go (scope_in (in_a_loop a) (locals_behind_part (length locals) start locals)) (locals_behind_part (length locals) start locals) refl)

  task_jumps : {body s : Stmt} (a : Around) (locals : List Local) → IsTaskBody body s → ((c : Around) (ms : List Local) → c.nearest ≡ nearest.NoLoop → c.in_task ≡ true → Jumps c ms body) → Jumps a locals s
  task_jumps {body = body} a locals (of_task mark is) go = up (λ c visible u d. in_task_body mark body is d) (go (scope_in (in_a_task a) locals) locals refl refl)

  task_loop_jumps : {body s : Stmt} (a : Around) (locals : List Local) → IsTaskLoopBody body s → ((c : Around) (ms : List Local) → c.nearest ≡ nearest.TaskLoop → c.in_task ≡ true → Jumps c ms body)
      → Jumps a locals s
  task_loop_jumps {body = body} a locals (of_task_loop head is) go =
      up (λ c visible u d. in_task_loop_body head body is d) (go (scope_in (in_a_task_loop a) (loop_locals head locals)) (loop_locals head locals) refl refl)

  breaks_jumps : {s : Stmt} → Breaks line s → (a : Around) (locals : List Local) → may_break a.nearest ≡ false → Jumps a locals s
  breaks_jumps {s = s} (break_in is same) a locals free = record { around = a; visible = locals; jump = s; stands = itself; out = break_out is free; on_line = same }
  breaks_jumps (breaks_part part is b) a locals free = part_jumps a locals is (λ c ms e f. breaks_jumps b c ms (ap may_break e ∙ free))

  pub leaves_jumps : {s : Stmt} → Leaves line s → (a : Around) (locals : List Local) → may_continue a.nearest ≡ false → Jumps a locals s
  leaves_jumps {s = s} (break_here is same) a locals free = record { around = a; visible = locals; jump = s; stands = itself; out = break_out is (no_break a.nearest free); on_line = same }
  leaves_jumps {s = s} (continue_here is same) a locals free = record { around = a; visible = locals; jump = s; stands = itself; out = continue_out is free; on_line = same }
  leaves_jumps (leaves_part part is l) a locals free = part_jumps a locals is (λ c ms e f. leaves_jumps l c ms (ap may_continue e ∙ free))

  returns_jumps : {s : Stmt} → Returns line s → (a : Around) (locals : List Local) → a.in_task ≡ true → Jumps a locals s
  returns_jumps {s = s} (return_here value is same) a locals held = record { around = a; visible = locals; jump = s; stands = itself; out = return_out value is held; on_line = same }
  returns_jumps (returns_part part is r) a locals held = part_jumps a locals is (λ c ms e f. returns_jumps r c ms (f ∙ held))
  returns_jumps (returns_loop body is r) a locals held = loop_jumps a locals is (λ c ms f. returns_jumps r c ms (f ∙ held))
  returns_jumps (returns_task body is r) a locals held = task_jumps a locals is (λ c ms e f. returns_jumps r c ms f)
  returns_jumps (returns_task_loop body is r) a locals held = task_loop_jumps a locals is (λ c ms e f. returns_jumps r c ms f)

  pub task_leaves_jumps : {s : Stmt} → LeavesTask line s → (a : Around) (locals : List Local) → Jumps a locals s
  task_leaves_jumps (leaves_body body is l) a locals = task_jumps a locals is (λ c ms e f. leaves_jumps l c ms (ap may_continue e))
  task_leaves_jumps (returns_body body is r) a locals = task_jumps a locals is (λ c ms e f. returns_jumps r c ms f)
  task_leaves_jumps (task_in_part part is l) a locals = part_jumps a locals is (λ c ms e f. task_leaves_jumps l c ms)
  task_leaves_jumps (task_in_loop body is l) a locals = loop_jumps a locals is (λ c ms f. task_leaves_jumps l c ms)
  task_leaves_jumps (task_in_task body is l) a locals = task_jumps a locals is (λ c ms e f. task_leaves_jumps l c ms)
  task_leaves_jumps (breaks_task_loop body is b) a locals = task_loop_jumps a locals is (λ c ms e f. breaks_jumps b c ms (ap may_break e))
  task_leaves_jumps (returns_from_task_loop body is r) a locals = task_loop_jumps a locals is (λ c ms e f. returns_jumps r c ms f)
  task_leaves_jumps (task_in_task_loop body is l) a locals = task_loop_jumps a locals is (λ c ms e f. task_leaves_jumps l c ms)
