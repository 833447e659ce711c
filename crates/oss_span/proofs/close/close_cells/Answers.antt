use Rattle.std.proofs.Common.{length, ◌≡◌, ℕ, if◌then◌else◌, arith, subst, sym, ◌∙◌}
use Rattle.oss_ranges.specs.Cells.{is_within, value_at}
use Rattle.oss_span.specs.declared.best.Mark.{Mark}
use Rattle.oss_span.specs.declared.marks.Change.TheVariants.{Close}
use Rattle.oss_span.specs.Changes.{changed_at}
use Rattle.oss_span.specs.declared.best.Best.{Best}
use Rattle.oss_span.specs.Frames.{AreClosed}
use Rattle.oss_span.proofs.CloseLemmas.{closed_more, closed_none, closed_past, value_behind}
use Rattle.oss_span.proofs.close.close_cells.Goals as goal

pub loop-from-init : goal.loop-from-init
loop-from-init c = record {
  high = omega arith;
  cells = subst (λ (b : Best). AreClosed (length c.args.nodes.now) c.args.nodes.now c.args.task c.args.kept c.args.child.now.pieces c.args.creator.now.pieces c.args.creator.now.pieces 0 b) (sym c.no_best-lets.ensures) (closed_none (length c.args.nodes.now) c.args.nodes.now c.args.task c.args.kept c.args.child.now.pieces c.args.creator.now.pieces);
  few = omega arith;
  grows = λ i n h. h;
}

pub loop-from-preserved-in_ok-change_all : goal.loop-from-preserved-in_ok-change_all
loop-from-preserved-in_ok-change_all c = record {
  high = omega arith;
  cells =
      subst (λ (b : Best). AreClosed (length c.args.nodes.now) c.give.new.nodes c.args.task c.args.kept c.args.child.now.pieces c.args.creator.now.pieces c.change_all.new.table.pieces c.run_from-found.result.1 b) (sym c.or-lets.ensures)
      (closed_more (length c.args.nodes.now) c.loop-from.nodes c.give.new.nodes c.args.task c.args.kept c.args.child.now.pieces c.args.creator.now.pieces c.loop-from.creator.pieces c.change_all.new.table.pieces c.loop-from.from c.run_from-found.result.1 c.loop-from.lets
      c.in_ok-value.ensures.grows c.run_from-found.ensures.some c.loop-from.invariant.cells c.in-Some.marks c.in_ok-value.value (λ k a b. c.run_from-found.ensures.alike k a b ∙ c.in-Some.is) (value_behind (length c.loop-from.nodes) (length c.args.nodes.now) c.give.new.nodes c.args.task c.in-Some.marks c.args.kept c.in_ok-value.value c.loop-from.invariant.few c.in_ok-value.ensures.value)
      (subst (λ (g : Mark). (k : ℕ) → value_at c.change_all.new.table.pieces k ≡ (if is_within c.loop-from.from c.run_from-found.result.1 k then changed_at (Close g c.in-Some.marks.mode) (value_at c.loop-from.creator.pieces k) else value_at c.loop-from.creator.pieces k)) c.or.ensures (c.in_ok-change_all.ensures)));
  few = (let e = c.in_ok-value.ensures.more in let l = c.loop-from.invariant.few in omega (arith, e, l));
  grows = λ i n h. c.in_ok-value.ensures.grows i n (c.loop-from.invariant.grows i n h);
}

pub loop-from-preserved : goal.loop-from-preserved
loop-from-preserved c = record {
  high = omega arith;
  cells = closed_past (length c.args.nodes.now) c.loop-from.nodes c.args.task c.args.kept c.args.child.now.pieces c.args.creator.now.pieces c.loop-from.creator.pieces c.loop-from.from c.run_from-found.result.1 c.loop-from.lets c.run_from-found.ensures.some (λ k a b. c.run_from-found.ensures.alike k a b ∙ c.in_default.is) c.loop-from.invariant.cells;
  few = c.loop-from.invariant.few;
  grows = c.loop-from.invariant.grows;
}
