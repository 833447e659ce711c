use Rattle.std.proofs.Common.{◌≡◌, ◌∷◌, ◌++◌, ◌∙◌, [], suc, refl, sym, ap, subst, drop, List}
use Rattle.std.specs.Prelude.{reverse}
use Rattle.std.proofs.Math.Seq.{drop-cons}
use Rattle.std.proofs.lemmas.List.{append-nil}
use Rattle.oss_missing_lines.specs.declared.missing.TaskMissing.{TaskMissing}
use Rattle.oss_lacks.specs.declared.lacks.TaskLacks.{TaskLacks}
use Rattle.oss_missing.specs.Making.{AreMade, first_lines}
use Rattle.oss_missing.proofs.MakingLemmas.{drop_none, made_as, none_left, one_more, with_one}
use Rattle.oss_missing.proofs.finding.missing_from.Goals as goal

pub loop-task-init : goal.loop-task-init
loop-task-init c = λ rest h. record {
  added = rest;
  made = subst (λ (ts : List TaskLacks). AreMade c.args.layout.now ts (reverse c.args.lines.now.items) rest) (drop_none c.args.tasks.now) h;
  new_is = ap (λ (ks : List TaskMissing). ks ++ rest) (c.in_ok-push.ensures.items ∙ ap (λ (ks : List TaskMissing). ks ++ c.args.main ∷ []) c.new-found.ensures.items);
}

pub loop-task-preserved : goal.loop-task-preserved
loop-task-preserved c = λ rest h.
    let xs : List TaskLacks = c.args.tasks.now in
    let i = c.loop-task.task-index in
    let t : TaskLacks = c.task-item.result in
    let one = c.in_ok-add_task.ensures.found in
    let old = c.loop-task.found.items in
    let split : drop i xs ≡ t ∷ drop (suc i) xs = drop-cons xs i t c.loop-task-test.true ∙ ap (λ y. y ∷ drop (suc i) xs) (sym c.task-item.is) in
    made_as c.args.layout.now xs (reverse c.args.lines.now.items) (c.args.main ∷ []) (old ++ one.one ∷ rest) (c.add_task.new.found.items ++ rest) (with_one old rest one.one ∙ ap (λ (ks : List TaskMissing). ks ++ rest) (sym one.new_is))
    (c.loop-task.invariant (one.one ∷ rest)
    (one_more c.args.layout.now xs i t (reverse c.loop-task.lines.items) (reverse c.add_task.new.lines.items) (first_lines (reverse c.loop-task.lines.items)) one.one rest split refl c.in_ok-add_task.ensures.lines one.made h))

pub returns : goal.returns
returns c =
    let xs : List TaskLacks = c.args.tasks.now in
    let old = c.loop-task.found.items in
    made_as c.args.layout.now xs (reverse c.args.lines.now.items) (c.args.main ∷ []) (old ++ []) c.from_vec.result (append-nil old ∙ sym c.from_vec.ensures)
    (c.loop-task.invariant [] (none_left c.args.layout.now xs c.loop-task.task-index (reverse c.loop-task.lines.items) c.loop-task-test.false))
