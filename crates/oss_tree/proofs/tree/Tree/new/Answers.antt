use Rattle.std.proofs.Common.{◌≡◌, [], ◌∷◌, rules}
use Rattle.oss_tree.specs.Tasks.{main_task}
use Rattle.oss_tree.proofs.GrowLemmas.{main_marked, main_tree}
use Rattle.oss_tree.proofs.tree.Tree.new.Goals as goal

pub invariant_of-result : goal.invariant_of-result
invariant_of-result c =
    let tasks : c.push.new.self.items ≡ main_task ∷ [] = search rules in
    let marks : c.push-2.new.self.items ≡ 0 ∷ [] = search rules in
    rw (tasks, marks) (main_tree, main_marked)
