use Rattle.std.proofs.Common.{refl, rules}
use Rattle.oss_core.specs.Cores.{kept_of}
use Rattle.std.specs.Vec.Iter.{into_iter_items}
use Rattle.oss_core.proofs.AddLemmas.{adding_begins, adding_more, adding_opens, adding_room, all_added, counted_begins, counted_next, nothing_left}
use Rattle.oss_core.proofs.machine.Core.add_all.Goals as goal

pub loop-newborn-init : goal.loop-newborn-init
loop-newborn-init g c = record {
  adding = adding_begins c.args.creator.0 c.args.newborns.items (kept_of g.D.Deps.seen c.args.self.now) _ c.into_iter-newborn-iterator.ensures.into_iter_gives.0 c.requires.sizes c.requires.may;
  counted = counted_begins _ c.args.newborns.items c.into_iter-newborn-iterator.ensures.into_iter_gives.0 (search rules);
}

pub add_to_tree-requires : goal.add_to_tree-requires
add_to_tree-requires g c =
    adding_room c.args.creator.0 c.args.newborns.items (kept_of g.D.Deps.seen c.args.self.now) _ (kept_of g.D.Deps.seen c.loop-newborn.self) c.loop-newborn.invariant.adding c.in-Some.newborn (into_iter_items c.next.new.self) c.in-Some.ensures.steps.0

pub open-requires : goal.open-requires
open-requires g c =
    adding_opens c.args.creator.0 c.args.newborns.items (kept_of g.D.Deps.seen c.args.self.now) _ (kept_of g.D.Deps.seen c.loop-newborn.self) c.loop-newborn.invariant.adding c.in-Some.newborn (into_iter_items c.next.new.self) c.in-Some.ensures.steps.0
    c.in_ok-number.number.0 c.in_ok-number.ensures.number

pub loop-newborn-preserved : goal.loop-newborn-preserved
loop-newborn-preserved g c = record {
  adding = adding_more c.args.creator.0 c.args.newborns.items (kept_of g.D.Deps.seen c.args.self.now) _ (kept_of g.D.Deps.seen c.loop-newborn.self) c.loop-newborn.invariant.adding c.in-Some.newborn (into_iter_items c.next.new.self) c.in-Some.ensures.steps.0
      c.in_ok-number.number.0 (record { tasks = c.push.new.self.items; tree = c.add_to_tree.new.tree; seen = g.D.Deps.seen c.open.new.self; cells = c.loop-newborn.self.cells.items })
      c.in_ok-number.ensures.number c.in_ok-push.ensures.items c.in_ok-number.ensures.tasks c.in_ok-number.ensures.prints c.in_ok-open.ensures.ok refl;
  counted = counted_next _ (into_iter_items c.next.new.self) c.in-Some.newborn _ _ c.loop-newborn.invariant.counted c.in-Some.ensures.steps.0 c.in-Some.ensures.steps.1;
}

pub returns : goal.returns
returns g c = all_added c.args.creator.0 c.args.newborns.items (kept_of g.D.Deps.seen c.args.self.now) _ (kept_of g.D.Deps.seen c.loop-newborn.self) c.loop-newborn.invariant.adding (nothing_left c.loop-newborn.invariant.counted c.in-None.ensures.steps.0) c.requires.sizes
