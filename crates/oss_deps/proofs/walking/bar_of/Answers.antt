use Rattle.std.proofs.Common.{rules, get_or, length, ◌<◌, sym, subst, ◌∙◌}
use Rattle.oss_deps.specs.declared.want.Want.{Want}
use Rattle.oss_deps.specs.Places.{blank}
use Rattle.oss_deps.specs.Wants.{bars_here}
use Rattle.oss_deps.proofs.Basics.{none_alone, some_alone}
use Rattle.oss_deps.proofs.WalkLemmas.{IsClimbing, up_goes, up_within, up_falls}
use Rattle.oss_deps.proofs.walking.bar_of.Goals as goal

pub returns-then-is_some : goal.returns-then-is_some
returns-then-is_some c = some_alone _ _ _ _ c.bar_beside-bar.result (sym c.is_some.ensures ∙ c.if-is_some.true) (λ u e b. c.levels.invariant.bars u (bars_here b)) c.bar_beside-bar.ensures

pub offset_bounds-frames-up : goal.offset_bounds-frames-up
offset_bounds-frames-up c = let h : (get_or c.args.frames.now c.levels.place blank).up < length c.args.frames.now = up_within c.args.frames.now c.args.marks.now c.requires.linked c.requires.marked c.requires.covered c.args.wanted c.args.at c.levels.want c.levels.place c.levels.invariant c.levels-test.true blank in search rules

pub bounds-frames-up : goal.bounds-frames-up
bounds-frames-up c = up_within c.args.frames.now c.args.marks.now c.requires.linked c.requires.marked c.requires.covered c.args.wanted c.args.at c.levels.want c.levels.place c.levels.invariant c.levels-test.true blank

pub levels-smaller : goal.levels-smaller
levels-smaller c = up_falls c.args.frames.now c.args.marks.now c.requires.linked c.requires.marked c.requires.covered c.args.wanted c.args.at c.levels.want c.levels.place c.levels.invariant c.levels-test.true blank

pub levels-preserved : goal.levels-preserved
levels-preserved c =
    subst (λ (w : Want). IsClimbing c.args.frames.now c.args.marks.now c.args.wanted c.args.at w (get_or c.args.frames.now c.levels.place blank).up) (sym c.want_above-want.ensures)
    (up_goes c.args.frames.now c.args.marks.now c.requires.linked c.requires.marked c.requires.covered c.args.wanted c.args.at c.levels.want c.levels.place c.levels.invariant c.levels-test.true blank blank (none_alone _ _ c.bar_beside-bar.result (sym c.is_some.ensures ∙ c.if-is_some.false) c.bar_beside-bar.ensures))
