use Rattle.std.proofs.Common.{◌≡◌, rules}
use Rattle.oss_tree.specs.Marks.{is_settled}
use Rattle.oss_tree.proofs.MarkLemmas.{settled_complete_is}
use Rattle.oss_tree.proofs.tree.Tree.complete.Goals as goal

pub returns : goal.returns
returns c =
    let is : c.is_settled.result ≡ is_settled c.self.inside.tasks.items c.self.inside.marks.items c.args.task.0 = search rules in
    rw (is, ← c.self.view_is) (settled_complete_is c.self.invariant.0 c.self.invariant.1 c.args.task.0)
