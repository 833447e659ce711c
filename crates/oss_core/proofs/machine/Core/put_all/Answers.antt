use Rattle.std.proofs.Common.{◌<◌, get_or, length, rules, subst}
use Rattle.std.specs.Vec.Iter.{into_iter_items}
use Rattle.oss_model.specs.declared.task_no.TaskNo.{TaskNo}
use Rattle.oss_core.specs.Cores.{kept_of}
use Rattle.oss_core.specs.Putting.{MayAdd}
use Rattle.oss_core.proofs.AddLemmas.{counted_begins, counted_next, nothing_left}
use Rattle.oss_core.proofs.NextLemmas.{next_is, next_within}
use Rattle.oss_core.proofs.WavingLemmas.{get_at, part_next, parts_begin, parts_end, parts_more}
use Rattle.oss_core.proofs.machine.Core.put_all.Goals as goal

pub loop-part-init : goal.loop-part-init
loop-part-init g c = record {
  put = parts_begin c.args.steppers.now c.args.parts.items _ c.new-turns.result.items (kept_of g.D.Deps.seen c.args.self.now) c.into_iter-part-iterator.ensures.into_iter_gives.0 c.new-turns.ensures.items c.requires;
  counted = counted_begins _ c.args.parts.items c.into_iter-part-iterator.ensures.into_iter_gives.0 (search rules);
}

pub offset_bounds-steppers-at : goal.offset_bounds-steppers-at
offset_bounds-steppers-at g c =
    let h = part_next c.args.steppers.now c.args.parts.items (kept_of g.D.Deps.seen c.args.self.now) c.loop-part.at _ c.loop-part.turns.items (kept_of g.D.Deps.seen c.loop-part.self) c.loop-part.invariant.put c.in-Some.part (into_iter_items c.next.new.self) c.in-Some.ensures.steps.0 in
    let l : c.loop-part.at < length c.args.steppers.now = next_within c.args.steppers.now c.loop-part.at c.in-Some.part (kept_of g.D.Deps.seen c.loop-part.self) h in
    search rules

pub put-requires-clause-sizes : goal.put-requires-clause-sizes
put-requires-clause-sizes g c = (part_next c.args.steppers.now c.args.parts.items (kept_of g.D.Deps.seen c.args.self.now) c.loop-part.at _ c.loop-part.turns.items (kept_of g.D.Deps.seen c.loop-part.self) c.loop-part.invariant.put c.in-Some.part (into_iter_items c.next.new.self) c.in-Some.ensures.steps.0).sizes

pub put-requires-clause-there : goal.put-requires-clause-there
put-requires-clause-there g c =
    let h = part_next c.args.steppers.now c.args.parts.items (kept_of g.D.Deps.seen c.args.self.now) c.loop-part.at _ c.loop-part.turns.items (kept_of g.D.Deps.seen c.loop-part.self) c.loop-part.invariant.put c.in-Some.part (into_iter_items c.next.new.self) c.in-Some.ensures.steps.0 in
    let l = next_within c.args.steppers.now c.loop-part.at c.in-Some.part (kept_of g.D.Deps.seen c.loop-part.self) h in
    let same = next_is c.args.steppers.now c.loop-part.at c.in-Some.part (kept_of g.D.Deps.seen c.loop-part.self) (get_or c.args.steppers.now c.loop-part.at (record { 0 = 0 })) h (get_at c.args.steppers.now c.loop-part.at (record { 0 = 0 }) l) in
    subst (λ (v : TaskNo). v.0 < length c.loop-part.self.tasks.items) same h.there_

pub put-requires-clause-may : goal.put-requires-clause-may
put-requires-clause-may g c =
    let h = part_next c.args.steppers.now c.args.parts.items (kept_of g.D.Deps.seen c.args.self.now) c.loop-part.at _ c.loop-part.turns.items (kept_of g.D.Deps.seen c.loop-part.self) c.loop-part.invariant.put c.in-Some.part (into_iter_items c.next.new.self) c.in-Some.ensures.steps.0 in
    let l = next_within c.args.steppers.now c.loop-part.at c.in-Some.part (kept_of g.D.Deps.seen c.loop-part.self) h in
    let same = next_is c.args.steppers.now c.loop-part.at c.in-Some.part (kept_of g.D.Deps.seen c.loop-part.self) (get_or c.args.steppers.now c.loop-part.at (record { 0 = 0 })) h (get_at c.args.steppers.now c.loop-part.at (record { 0 = 0 }) l) in
    λ xs news. subst (λ (v : TaskNo). MayAdd v.0 (length c.loop-part.self.tasks.items) xs c.loop-part.self.tree.tasks (g.D.Deps.seen c.loop-part.self.deps)) same (h.may xs news)

pub loop-part-preserved : goal.loop-part-preserved
loop-part-preserved g c =
    let h = part_next c.args.steppers.now c.args.parts.items (kept_of g.D.Deps.seen c.args.self.now) c.loop-part.at _ c.loop-part.turns.items (kept_of g.D.Deps.seen c.loop-part.self) c.loop-part.invariant.put c.in-Some.part (into_iter_items c.next.new.self) c.in-Some.ensures.steps.0 in
    let l = next_within c.args.steppers.now c.loop-part.at c.in-Some.part (kept_of g.D.Deps.seen c.loop-part.self) h in
    let made = c.in_ok-put.ensures in
    record {
      put = parts_more c.args.steppers.now c.args.parts.items (kept_of g.D.Deps.seen c.args.self.now) c.loop-part.at _ c.loop-part.turns.items (kept_of g.D.Deps.seen c.loop-part.self) c.loop-part.invariant.put c.in-Some.part (into_iter_items c.next.new.self) c.in-Some.ensures.steps.0
          (get_or c.args.steppers.now c.loop-part.at (record { 0 = 0 })) (get_at c.args.steppers.now c.loop-part.at (record { 0 = 0 }) l) (kept_of g.D.Deps.seen c.put.new.self) made.0 made.1 made.2 made.3 c.push.new.self.items c.in_ok-push.ensures.items;
      counted = counted_next _ (into_iter_items c.next.new.self) c.in-Some.part _ _ c.loop-part.invariant.counted c.in-Some.ensures.steps.0 c.in-Some.ensures.steps.1;
    }

pub returns : goal.returns
returns g c =
    λ code main first s before m.
    parts_end c.args.steppers.now c.args.parts.items (kept_of g.D.Deps.seen c.args.self.now) c.loop-part.at _ c.loop-part.turns.items (kept_of g.D.Deps.seen c.loop-part.self) c.loop-part.invariant.put (nothing_left c.loop-part.invariant.counted c.in-None.ensures.steps.0) code main first s before m
