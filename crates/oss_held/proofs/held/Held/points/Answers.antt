use Rattle.std.proofs.Common.{◌<◌, length, sym, subst, ap, ◌∙◌}
use Rattle.oss_model.specs.Order.{IsIn}
use Rattle.oss_core.specs.Ordering.{AreOnce}
use Rattle.oss_held.specs.Points.{numbers_to}
use Rattle.oss_held.proofs.NumberLemmas.{numbers_below, numbers_once}
use Rattle.oss_held.proofs.PointLemmas.{points_ok}
use Rattle.oss_held.proofs.held.Held.points.Goals as goal

pub in_point_order-requires-clause-there : goal.in_point_order-requires-clause-there
in_point_order-requires-clause-there c = λ v i.
    numbers_below (length c.self.inside.core.tree.tasks) v (subst (λ vs. IsIn v vs) (c.in_ok-tasks.ensures ∙ ap numbers_to c.count.ensures) i)

pub in_point_order-requires-clause-once : goal.in_point_order-requires-clause-once
in_point_order-requires-clause-once c = subst AreOnce (sym (c.in_ok-tasks.ensures ∙ ap numbers_to c.count.ensures)) (numbers_once (length c.self.inside.core.tree.tasks))

pub points_of-requires : goal.points_of-requires
points_of-requires c = record {
  there = λ v i.
      subst (λ t. v.0 < length t.tasks) (sym c.tree.ensures)
      (numbers_below (length c.self.inside.core.tree.tasks) v
      (subst (λ vs. IsIn v vs) (c.in_ok-tasks.ensures ∙ ap numbers_to c.count.ensures) (c.in_ok-ordered.ensures.only v (subst (λ vs. IsIn v vs) c.as_slice.ensures.value i))));
}

pub returns : goal.returns
returns c =
    points_ok c.points_of.result c.args.self.now c.tree.result.now.tasks c.self.inside.core.tree.tasks c.in_ok-tasks.tasks.items c.in_ok-ordered.ordered.items c.as_slice.result.now
    (ap (λ t. t.tasks) c.tree.ensures) (ap (λ h. h.tree.tasks) c.self.view_is) (c.in_ok-tasks.ensures ∙ ap numbers_to c.count.ensures) c.as_slice.ensures.value c.in_ok-ordered.ensures c.points_of.ensures
