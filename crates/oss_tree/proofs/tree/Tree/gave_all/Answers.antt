use Rattle.std.proofs.Common.{◌≡◌, ◌<◌, ◌++◌, ℕ, List, length, take, drop, refl, Option, Some, sym, ap, subst, ◌∙◌, rules}
use Rattle.std.specs.Prelude.{slice_get, slice_set}
use Rattle.std.proofs.lemmas.Option.{slice_get_read}
use Rattle.oss_tree.specs.declared.task.Task.{Task}
use Rattle.oss_tree.specs.Marks.{AreMarked}
use Rattle.oss_tree.specs.Tasks.{IsTree, Kept, changed, changed_to, given_task}
use Rattle.oss_tree.proofs.ListLemmas.{front_is}
use Rattle.oss_tree.proofs.ChangeLemmas.{marked_after, tree_after}
use Rattle.oss_tree.proofs.tree.Tree.gave_all.Goals as goal

pub settle-requires-clause-tree : goal.settle-requires-clause-tree
settle-requires-clause-tree c =
    let tasks = c.self.inside.tasks.items in
    let t = c.args.task.0 in
    let one = c.index_mut.result.now in
    let within : t < length tasks = subst (λ (v : Kept). t < length v.tasks) (sym c.self.view_is) c.requires in
    let is : slice_get tasks t ≡ Some one = slice_get_read tasks (length tasks) t one refl within c.index_mut.ensures.value in
    let here : c.as_slice.result.now ≡ slice_set tasks t (given_task one) = search rules in
    subst IsTree (sym here) (tree_after tasks t one (given_task one) is (record { point = refl; parent = refl; children = refl }) c.self.invariant.0)

pub settle-requires-clause-marked : goal.settle-requires-clause-marked
settle-requires-clause-marked c =
    let tasks = c.self.inside.tasks.items in
    let marks = c.self.inside.marks.items in
    let t = c.args.task.0 in
    let one = c.index_mut.result.now in
    let within : t < length tasks = subst (λ (v : Kept). t < length v.tasks) (sym c.self.view_is) c.requires in
    let is : slice_get tasks t ≡ Some one = slice_get_read tasks (length tasks) t one refl within c.index_mut.ensures.value in
    let here : c.as_slice.result.now ≡ slice_set tasks t (given_task one) = search rules in
    let there : c.as_mut_slice.result.now ≡ marks = search rules in
    rw (here, there) (marked_after tasks t one (given_task one) is (record { point = refl; parent = refl; children = refl }) marks (λ h. (h.0, refl)) c.self.invariant.1)

pub invariant_of-self : goal.invariant_of-self
invariant_of-self c =
    let tasks = c.self.inside.tasks.items in
    let marks = c.self.inside.marks.items in
    let t = c.args.task.0 in
    let one = c.index_mut.result.now in
    let within : t < length tasks = subst (λ (v : Kept). t < length v.tasks) (sym c.self.view_is) c.requires in
    let is : slice_get tasks t ≡ Some one = slice_get_read tasks (length tasks) t one refl within c.index_mut.ensures.value in
    let here : c.as_slice.result.now ≡ slice_set tasks t (given_task one) = search rules in
    let long : length c.settle.new.marks ≡ c.self.inside.marks.len = c.settle.auto.marks ∙ c.as_mut_slice.ensures.len in
    let new_marks : take c.self.inside.marks.len (c.settle.new.marks ++ drop (length c.settle.new.marks) marks) ≡ c.settle.new.marks = front_is c.settle.new.marks (drop (length c.settle.new.marks) marks) c.self.inside.marks.len long in
    let marked : AreMarked (slice_set tasks t (given_task one)) c.settle.new.marks = subst (λ (ts : List Task). AreMarked ts c.settle.new.marks) here c.settle.ensures in (
      tree_after tasks t one (given_task one) is (record { point = refl; parent = refl; children = refl }) c.self.invariant.0,
      subst (λ (ms : List ℕ). AreMarked (slice_set tasks t (given_task one)) ms) (sym new_marks) marked,
    )

pub returns : goal.returns
returns c =
    let tasks = c.self.inside.tasks.items in
    let t = c.args.task.0 in
    let one = c.index_mut.result.now in
    let within : t < length tasks = subst (λ (v : Kept). t < length v.tasks) (sym c.self.view_is) c.requires in
    let is : slice_get tasks t ≡ Some one = slice_get_read tasks (length tasks) t one refl within c.index_mut.ensures.value in
    let told : Kept → Kept = λ (v : Kept). record { tasks = changed v.tasks t given_task; prints = v.prints } in
    ap (λ (o : Option Task). let kept : Kept = record { tasks = changed_to tasks t given_task o; prints = c.self.inside.prints.items } in kept) (sym is) ∙ ap told c.self.view_is
