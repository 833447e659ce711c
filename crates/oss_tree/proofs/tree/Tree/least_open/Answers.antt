use Rattle.std.proofs.Common.{◌≡◌, true, false, sym, ◌∙◌, arith, rules}
use Rattle.std.proofs.lemmas.Option.{slice_get_within}
use Rattle.oss_tree.specs.Marks.{is_settled}
use Rattle.oss_tree.proofs.FindLemmas.{all_complete, at_main, least_is, step_on}
use Rattle.oss_tree.proofs.MarkLemmas.{complete_if, settled_when, true_not}
use Rattle.oss_tree.proofs.tree.Tree.least_open.Goals as goal

pub returns-then-is_settled : goal.returns-then-is_settled
returns-then-is_settled c =
    let tree = c.self.invariant.0 in
    let is : is_settled c.self.inside.tasks.items c.self.inside.marks.items 0 ≡ true = search rules in
    rw (← c.self.view_is) (all_complete tree (complete_if tree c.self.invariant.1 0 is))

pub loop-child-init : goal.loop-child-init
loop-child-init c =
    let tree = c.self.invariant.0 in
    let is : is_settled c.self.inside.tasks.items c.self.inside.marks.items 0 ≡ false = search rules in
    rw (← c.self.view_is) (at_main tree (λ h. true_not (sym (settled_when tree c.self.invariant.1 h) ∙ is)))

pub unfinished_child-requires : goal.unfinished_child-requires
unfinished_child-requires c = slice_get_within c.args.self.now.tasks c.loop-child.at.0 c.loop-child.invariant.task c.loop-child.invariant.at_

pub loop-child-smaller : goal.loop-child-smaller
loop-child-smaller c =
    let next = step_on c.loop-child.invariant c.in-Some.child.0 c.in-Some.ensures in
    let later = next.1 in
    let within = next.2 in
    omega (arith, later, within)

pub loop-child-preserved : goal.loop-child-preserved
loop-child-preserved c = (step_on c.loop-child.invariant c.in-Some.child.0 c.in-Some.ensures).0

pub returns : goal.returns
returns c = least_is c.loop-child.invariant c.in_default.ensures
