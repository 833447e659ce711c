use Rattle.std.proofs.Common.{rules, length, ◌<◌}
use Rattle.oss_deps.specs.Places.{blank}
use Rattle.oss_deps.proofs.WalkLemmas.{bar_task, bar_within}
use Rattle.oss_deps.proofs.walking.bar_task.Goals as goal

pub offset_bounds-frames-bar : goal.offset_bounds-frames-bar
offset_bounds-frames-bar c = let h : c.in-Some.bar < length c.args.frames.now = bar_within c.args.frames.now c.args.marks.now c.in-Some.bar c.in-Some.ensures in search rules

pub bounds-frames-bar : goal.bounds-frames-bar
bounds-frames-bar c = bar_within c.args.frames.now c.args.marks.now c.in-Some.bar c.in-Some.ensures

pub returns-in-Some : goal.returns-in-Some
returns-in-Some c = bar_task c.args.frames.now c.args.marks.now c.in-Some.bar c.args.want c.args.at blank c.in-Some.ensures
