use Rattle.std.proofs.Common.{◌≡◌, ◌∷◌, ℕ, ap, subst, ◌∙◌, get_or, Some, None}
use Rattle.std.specs.Prelude.{slice_get}
use Rattle.oss_tree.specs.Tasks.{HasPoint}
use Rattle.oss_tree.proofs.FindLemmas.{no_step, none_empty, none_other, step_down}
use Rattle.oss_tree.proofs.paths.find.Goals as goal

pub returns-in_err-first : goal.returns-in_err-first
returns-in_err-first c = rw c.from_residual.ensures (none_empty c.requires c.args.point.now c.in_err-first.ensures.cases)

pub returns-then-first-ne0 : goal.returns-then-first-ne0
returns-then-first-ne0 c = λ t h. c.if-first-ne0.true (none_other c.requires t c.in_ok-first.first.now c.in_ok-first.rest.now (subst (HasPoint c.args.tasks.now t) c.in_ok-first.ensures.cases.0 h))

pub returns-in-None : goal.returns-in-None
returns-in-None c =
    let tasks = c.args.tasks.now in
    let rest = c.in_ok-first.rest.now in
    let one = c.index-tasks-at.result in
    let first : c.in_ok-first.first.now ≡ 0 = c.if-first-ne0.false in
    let whole : c.args.point.now ≡ 0 ∷ rest = c.in_ok-first.ensures.cases.0 ∙ ap (λ (x : ℕ). x ∷ rest) first in
    let none : None ≡ slice_get (get_or tasks c.loop-place.at.0 one).children (get_or rest c.loop-place.place-index 0) =
    c.in-None.ensures.value ∙ ap (slice_get (get_or tasks c.loop-place.at.0 one).children) c.from.ensures in
    λ t h. no_step c.requires c.loop-place.at.0 rest c.loop-place.place-index c.loop-place-test.true c.loop-place.invariant one c.index-tasks-at.is none t (subst (HasPoint tasks t) whole h)

pub loop-place-preserved : goal.loop-place-preserved
loop-place-preserved c =
    let tasks = c.args.tasks.now in
    let rest = c.in_ok-first.rest.now in
    let one = c.index-tasks-at.result in
    let is : Some c.in-Some.child.now ≡ slice_get (get_or tasks c.loop-place.at.0 one).children (get_or rest c.loop-place.place-index 0) =
    c.in-Some.ensures.value ∙ ap (slice_get (get_or tasks c.loop-place.at.0 one).children) c.from.ensures in
    step_down c.requires c.loop-place.at.0 rest c.loop-place.place-index c.loop-place-test.true c.loop-place.invariant one c.index-tasks-at.is c.in-Some.child.now is
