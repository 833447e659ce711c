use Rattle.std.proofs.Common.{subst, ℕ, List}
use Rattle.std.specs.Prelude.{MatchOption}
use Rattle.oss_tree.specs.declared.task.Task.{Task}
use Rattle.oss_tree.specs.Tasks.{HasPoint, Kept}
use Rattle.oss_tree.proofs.tree.Tree.find.Goals as goal

pub returns : goal.returns
returns c =
    let found : (v : Kept) → Type 0 = λ (v : Kept). MatchOption c.find.result ((t : ℕ) → HasPoint v.tasks t c.args.point.now → ⊥) (λ task. HasPoint v.tasks task.0 c.args.point.now) in
    let told : MatchOption c.find.result ((t : ℕ) → HasPoint c.self.inside.tasks.items t c.args.point.now → ⊥) (λ task. HasPoint c.self.inside.tasks.items task.0 c.args.point.now) =
    subst (λ (ts : List Task). MatchOption c.find.result ((t : ℕ) → HasPoint ts t c.args.point.now → ⊥) (λ task. HasPoint ts task.0 c.args.point.now)) c.as_slice.ensures.value c.find.ensures in
    subst found c.self.view_is told
