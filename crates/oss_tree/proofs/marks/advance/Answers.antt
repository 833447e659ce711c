use Rattle.std.proofs.Common.{◌≡◌, ◌<◌, ◌≤◌, ℕ, length, refl, Some, true, false, sym, ap, subst, ◌∙◌, arith, List}
use Rattle.std.specs.Prelude.{slice_get}
use Rattle.std.proofs.lemmas.Option.{slice_get_read}
use Rattle.oss_tree.specs.declared.task.Task.{Task}
use Rattle.oss_model.specs.declared.task_no.TaskNo.{TaskNo}
use Rattle.oss_tree.specs.Tasks.{number}
use Rattle.oss_tree.specs.Marks.{is_settled}
use Rattle.oss_tree.proofs.MoveLemmas.{advanced, child_within, left_at, none_left, settled_more}
use Rattle.oss_tree.proofs.marks.advance.Goals as goal
use Rattle.oss_tree.proofs.marks.advance.Goals.{then-loop-mark-test+else-is_settled, else-loop-mark-test}

pub is_settled-requires-clause-task : goal.is_settled-requires-clause-task
is_settled-requires-clause-task c =
    let tasks = c.args.tasks.now in
    let one = c.index-tasks-at.result in
    let at_ : slice_get tasks c.args.at ≡ Some one = slice_get_read tasks (length tasks) c.args.at one refl c.requires.task c.index-tasks-at.is in
    let kids : c.as_slice-children.result.now ≡ one.children = c.as_slice-children.ensures ∙ ap (λ (t : Task). t.children) (sym c.index-tasks-at.is) in
    child_within tasks c.args.marks.now c.requires.tree c.args.at one at_ c.as_slice-children.result.now kids c.loop-mark.mark c.loop-mark-test.true

pub is_settled-requires-clause-mark : goal.is_settled-requires-clause-mark
is_settled-requires-clause-mark c =
    let tasks = c.args.tasks.now in
    let one = c.index-tasks-at.result in
    let at_ : slice_get tasks c.args.at ≡ Some one = slice_get_read tasks (length tasks) c.args.at one refl c.requires.task c.index-tasks-at.is in
    let kids : c.as_slice-children.result.now ≡ one.children = c.as_slice-children.ensures ∙ ap (λ (t : Task). t.children) (sym c.index-tasks-at.is) in
    let each = c.requires.marked.each in
    let within = child_within tasks c.args.marks.now c.requires.tree c.args.at one at_ c.as_slice-children.result.now kids c.loop-mark.mark c.loop-mark-test.true in
    omega (arith, each, within)

pub loop-mark-preserved : goal.loop-mark-preserved
loop-mark-preserved c =
    let n = c.loop-mark.mark in
    let kids = c.as_slice-children.result.now in
    let held = c.loop-mark.invariant in
    let above = held.above in
    let test : n < length kids = c.loop-mark-test.true in
    record {
      above = omega (arith, above);
      within = omega (arith, test);
      settled = settled_more c.args.tasks.now c.args.marks.now kids n test held.settled (sym c.is_settled.ensures ∙ c.if-is_settled.true);
    }

pub returns : goal.returns
returns c =
    let tasks = c.args.tasks.now in
    let marks = c.args.marks.now in
    let one = c.index-tasks-at.result in
    let at_ : slice_get tasks c.args.at ≡ Some one = slice_get_read tasks (length tasks) c.args.at one refl c.requires.task c.index-tasks-at.is in
    let kids : c.as_slice-children.result.now ≡ one.children = c.as_slice-children.ensures ∙ ap (λ (t : Task). t.children) (sym c.index-tasks-at.is) in
    let n = c.loop-mark.mark in
    let held = c.loop-mark.invariant in
    let left : (k : ℕ) → slice_get one.children n ≡ Some (number k) → is_settled tasks marks k ≡ false =
    elim c.loop-mark-test.branch [
      | then-loop-mark-test+else-is_settled w ↦ left_at tasks marks c.as_slice-children.result.now one.children n kids w.loop-mark-test.true (sym w.is_settled.ensures ∙ w.if-is_settled.false)
      | else-loop-mark-test w ↦ none_left tasks marks c.as_slice-children.result.now one.children n kids w.loop-mark-test.false
    ] in
    advanced tasks marks c.requires.tree c.args.at one at_ c.requires.marked.each n c.requires.marked held.above
    (subst (λ (xs : List TaskNo). n ≤ length xs) kids held.within)
    (subst (λ (xs : List TaskNo). (k c : ℕ) → k < n → slice_get xs k ≡ Some (number c) → is_settled tasks marks c ≡ true) kids held.settled)
    left
