use Rattle.std.proofs.Common.{◌≡◌, ◌++◌, ◌∷◌, [], ℕ, Bool, false, List, length, get_or, take, drop, Option, Some, sym, ap, subst, ◌∙◌, rules}
use Rattle.std.specs.Prelude.{slice_get, slice_set}
use Rattle.std.proofs.lemmas.Option.{get_or_from_slice_get, slice_get_within}
use Rattle.oss_tree.specs.declared.task.Task.{Task}
use Rattle.oss_model.specs.declared.task_no.TaskNo.{TaskNo}
use Rattle.oss_tree.specs.Marks.{AreMarked}
use Rattle.oss_tree.specs.Tasks.{IsTree, Kept, MayCreate, created_by, grown, number, with_child}
use Rattle.oss_tree.proofs.ListLemmas.{front_is}
use Rattle.oss_tree.proofs.GrowLemmas.{creator_now, creator_open, marked_more, more, tree_more}
use Rattle.oss_tree.proofs.tree.Tree.add.Goals as goal

-- the creator, where the tree is seen as these tasks
creator_at : (v w : Kept) (p : ℕ) (may : MayCreate w.tasks p) → v ≡ w → slice_get v.tasks p ≡ Some may.creator
creator_at v w p may e = subst (λ (v : Kept). slice_get v.tasks p ≡ Some may.creator) (sym e) may.at_

-- the point of the new task, from the creator that was read
point_of : (tasks : List Task) (p : ℕ) (creator read : Task) (q : List ℕ) → slice_get tasks p ≡ Some creator → read ≡ get_or tasks p read → q ≡ read.point ++ length read.children ∷ [] → q ≡ creator.point ++ length creator.children ∷ []
point_of tasks p creator read q is e f = f ∙ ap (λ (z : Task). z.point ++ length z.children ∷ []) (e ∙ get_or_from_slice_get tasks p creator read is)

abbrev built : List Task → ℕ → Task → Bool → ℕ → List ℕ → List TaskNo → List Task
built tasks p creator wait n q children = slice_set tasks p (with_child creator n) ++ record { point = q; parent = Some (number p); children = children; wait = wait; ended = false; gave_all = false } ∷ []

-- the tasks after both pushes
grown_is : (tasks items : List Task) (p : ℕ) (creator : Task) (wait : Bool) (is : slice_get tasks p ≡ Some creator) (n : ℕ) (q : List ℕ) (children : List TaskNo) → n ≡ length tasks → q ≡ creator.point ++ length creator.children ∷ [] → children ≡ [] → items ≡ built tasks p creator wait n q children → items ≡ more tasks p creator wait is
grown_is tasks items p creator wait is n q children a b d e = e ∙ (λ i. built tasks p creator wait (a i) (b i) (d i))

pub reopen-requires-clause-tree : goal.reopen-requires-clause-tree
reopen-requires-clause-tree c =
    let tasks = c.self.inside.tasks.items in
    let marks = c.self.inside.marks.items in
    let p = c.args.parent.0 in
    let creator = c.requires.creator in
    let is : slice_get tasks p ≡ Some creator = creator_at (record { tasks = tasks; prints = c.self.inside.prints.items }) c.args.self.now p c.requires c.self.view_is in
    let added : c.push_child.new.tasks.items ≡ more tasks p creator c.args.wait is =
    grown_is tasks c.push_child.new.tasks.items p creator c.args.wait is c.len-2.result c.in_ok-point.point c.new.result (search rules)
    (point_of tasks p creator c.index-creator.result.now c.in_ok-point.point is c.index-creator.ensures (search rules))
    c.new.ensures (c.in_ok-push_child.ensures.added creator is) in
    let now : c.as_slice.result.now ≡ more tasks p creator c.args.wait is = c.as_slice.ensures.value ∙ added in
    subst IsTree (sym now) (tree_more tasks p creator c.args.wait is c.self.invariant.0 c.requires.few c.requires.shallow)

pub reopen-requires-clause-marked : goal.reopen-requires-clause-marked
reopen-requires-clause-marked c =
    let tasks = c.self.inside.tasks.items in
    let marks = c.self.inside.marks.items in
    let p = c.args.parent.0 in
    let creator = c.requires.creator in
    let is : slice_get tasks p ≡ Some creator = creator_at (record { tasks = tasks; prints = c.self.inside.prints.items }) c.args.self.now p c.requires c.self.view_is in
    let added : c.push_child.new.tasks.items ≡ more tasks p creator c.args.wait is =
    grown_is tasks c.push_child.new.tasks.items p creator c.args.wait is c.len-2.result c.in_ok-point.point c.new.result (search rules)
    (point_of tasks p creator c.index-creator.result.now c.in_ok-point.point is c.index-creator.ensures (search rules))
    c.new.ensures (c.in_ok-push_child.ensures.added creator is) in
    let pushed : c.push.new.self.items ≡ marks ++ 0 ∷ [] = search rules in
    let now : c.as_slice.result.now ≡ more tasks p creator c.args.wait is = c.as_slice.ensures.value ∙ added in
    let marks_now : c.as_mut_slice.result.now ≡ marks ++ 0 ∷ [] = c.as_mut_slice.ensures.value ∙ pushed in
    rw (now, marks_now) (marked_more tasks p creator c.args.wait is c.self.invariant.0 marks c.self.invariant.1)

pub reopen-requires-clause-open : goal.reopen-requires-clause-open
reopen-requires-clause-open c =
    let tasks = c.self.inside.tasks.items in
    let marks = c.self.inside.marks.items in
    let p = c.args.parent.0 in
    let creator = c.requires.creator in
    let is : slice_get tasks p ≡ Some creator = creator_at (record { tasks = tasks; prints = c.self.inside.prints.items }) c.args.self.now p c.requires c.self.view_is in
    let added : c.push_child.new.tasks.items ≡ more tasks p creator c.args.wait is =
    grown_is tasks c.push_child.new.tasks.items p creator c.args.wait is c.len-2.result c.in_ok-point.point c.new.result (search rules)
    (point_of tasks p creator c.index-creator.result.now c.in_ok-point.point is c.index-creator.ensures (search rules))
    c.new.ensures (c.in_ok-push_child.ensures.added creator is) in
    let pushed : c.push.new.self.items ≡ marks ++ 0 ∷ [] = search rules in
    let now : c.as_slice.result.now ≡ more tasks p creator c.args.wait is = c.as_slice.ensures.value ∙ added in
    let marks_now : c.as_mut_slice.result.now ≡ marks ++ 0 ∷ [] = c.as_mut_slice.ensures.value ∙ pushed in
    rw (now, marks_now) (creator_open tasks p creator c.args.wait is c.self.invariant.0 marks c.self.invariant.1)

pub reopen-requires-clause-task : goal.reopen-requires-clause-task
reopen-requires-clause-task c =
    let tasks = c.self.inside.tasks.items in
    let marks = c.self.inside.marks.items in
    let p = c.args.parent.0 in
    let creator = c.requires.creator in
    let is : slice_get tasks p ≡ Some creator = creator_at (record { tasks = tasks; prints = c.self.inside.prints.items }) c.args.self.now p c.requires c.self.view_is in
    let added : c.push_child.new.tasks.items ≡ more tasks p creator c.args.wait is =
    grown_is tasks c.push_child.new.tasks.items p creator c.args.wait is c.len-2.result c.in_ok-point.point c.new.result (search rules)
    (point_of tasks p creator c.index-creator.result.now c.in_ok-point.point is c.index-creator.ensures (search rules))
    c.new.ensures (c.in_ok-push_child.ensures.added creator is) in
    let now : c.as_slice.result.now ≡ more tasks p creator c.args.wait is = c.as_slice.ensures.value ∙ added in
    let there = creator_now tasks p creator c.args.wait is in
    slice_get_within c.as_slice.result.now p (with_child creator (length tasks)) (ap (λ (ts : List Task). slice_get ts p) now ∙ there)

pub invariant_of-self-2 : goal.invariant_of-self-2
invariant_of-self-2 c =
    let tasks = c.self.inside.tasks.items in
    let marks = c.self.inside.marks.items in
    let p = c.args.parent.0 in
    let creator = c.requires.creator in
    let is : slice_get tasks p ≡ Some creator = creator_at (record { tasks = tasks; prints = c.self.inside.prints.items }) c.args.self.now p c.requires c.self.view_is in
    let added : c.push_child.new.tasks.items ≡ more tasks p creator c.args.wait is =
    grown_is tasks c.push_child.new.tasks.items p creator c.args.wait is c.len-2.result c.in_ok-point.point c.new.result (search rules)
    (point_of tasks p creator c.index-creator.result.now c.in_ok-point.point is c.index-creator.ensures (search rules))
    c.new.ensures (c.in_ok-push_child.ensures.added creator is) in
    let pushed : c.push.new.self.items ≡ marks ++ 0 ∷ [] = search rules in
    let now : c.as_slice.result.now ≡ more tasks p creator c.args.wait is = c.as_slice.ensures.value ∙ added in
    let long : length c.reopen.new.marks ≡ c.push.new.self.len = c.reopen.auto.marks ∙ c.as_mut_slice.ensures.len in
    let new_marks : take c.push.new.self.len (c.reopen.new.marks ++ drop (length c.reopen.new.marks) c.push.new.self.items) ≡ c.reopen.new.marks =
    front_is c.reopen.new.marks (drop (length c.reopen.new.marks) c.push.new.self.items) c.push.new.self.len long in
    let marked : AreMarked c.push_child.new.tasks.items c.reopen.new.marks = subst (λ (ts : List Task). AreMarked ts c.reopen.new.marks) c.as_slice.ensures.value c.reopen.ensures in (
      subst IsTree (sym added) (tree_more tasks p creator c.args.wait is c.self.invariant.0 c.requires.few c.requires.shallow),
      subst (λ (ms : List ℕ). AreMarked c.push_child.new.tasks.items ms) (sym new_marks) marked,
    )

pub returns-clause-added : goal.returns-clause-added
returns-clause-added c =
    let tasks = c.self.inside.tasks.items in
    let marks = c.self.inside.marks.items in
    let p = c.args.parent.0 in
    let creator = c.requires.creator in
    let is : slice_get tasks p ≡ Some creator = creator_at (record { tasks = tasks; prints = c.self.inside.prints.items }) c.args.self.now p c.requires c.self.view_is in
    let added : c.push_child.new.tasks.items ≡ more tasks p creator c.args.wait is =
    grown_is tasks c.push_child.new.tasks.items p creator c.args.wait is c.len-2.result c.in_ok-point.point c.new.result (search rules)
    (point_of tasks p creator c.index-creator.result.now c.in_ok-point.point is c.index-creator.ensures (search rules))
    c.new.ensures (c.in_ok-push_child.ensures.added creator is) in
    let prints = c.self.inside.prints.items in
    let told : Kept → Kept = λ (v : Kept). record { tasks = grown v.tasks p c.args.wait; prints = v.prints } in
    let kept : List Task → Kept = λ (ts : List Task). record { tasks = ts; prints = prints } in
    ap kept added ∙ ap (λ (o : Option Task). kept (created_by tasks p c.args.wait o)) (sym is) ∙ ap told c.self.view_is
