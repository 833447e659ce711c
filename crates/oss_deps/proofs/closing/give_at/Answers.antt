use Rattle.std.proofs.Common.{inl, inr}
use Rattle.oss_deps.proofs.CloseLemmas.{IsNoted, noted_marked, noted_here, flagged_given}
use Rattle.oss_deps.proofs.closing.give_at.Goals as goal
use Rattle.oss_deps.proofs.closing.give_at.Goals.{then-is_closed, else-is_closed}

pub levels-init : goal.levels-init
levels-init c =
    let noted : IsNoted c.is_closed.result c.args.at c.if-is_closed.done = elim c.if-is_closed.branch [ then-is_closed w ↦ inl (w.if-is_closed.true, w.done-is) | else-is_closed w ↦ inr (w.if-is_closed.false, w.done-is) ] in
    record {
      marked = noted_marked c.args.frames.now c.args.marks.now c.args.at c.requires.marked c.requires.within c.is_closed.result c.is_closed.ensures c.if-is_closed.done noted;
      here = noted_here c.args.frames.now c.args.marks.now c.args.at c.requires.marked c.requires.within c.is_closed.result c.is_closed.ensures c.if-is_closed.done noted;
      given = λ f t is. flagged_given c.args.frames.now c.args.marks.now c.args.at c.requires.marked c.requires.within f t is;
    }
