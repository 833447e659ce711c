use Rattle.std.proofs.Common.{◌≡◌, ◌-◌, length, Some, sym, ap, ◌∙◌}
use Rattle.std.specs.Prelude.{slice_get}
use Rattle.std.proofs.lemmas.Option.{slice_get_within}
use Rattle.oss_tree.specs.Tasks.{number}
use Rattle.oss_enabled_moves.proofs.waiting.is_newest_complete.Goals as goal

pub complete-requires : goal.complete-requires
complete-requires c =
    let one = c.task.result.now in
    let h : slice_get one.children (length one.children - 1) ≡ Some (number c.in-Some.child.now.0) = sym (c.in-Some.ensures.value ∙ ap (λ xs. slice_get xs (length xs - 1)) c.as_slice.ensures) in
    let child = c.count-tasks.ensures.tree.children c.args.task.0 one c.task.ensures (length one.children - 1) c.in-Some.child.now.0 h in
    slice_get_within c.args.tree.now.tasks c.in-Some.child.now.0 child.task child.at_
