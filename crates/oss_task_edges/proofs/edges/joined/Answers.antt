use Rattle.std.proofs.Common.{List, sym, subst, arith}
use Rattle.oss_task_graph.specs.declared.graph.Edge.{Edge}
use Rattle.oss_task_edges.proofs.JoinLemmas.{AreEdgesTo, edges_all, edges_more, slice_at, slice_size}
use Rattle.oss_task_edges.proofs.edges.joined.Goals as goal

pub loop-at-preserved : goal.loop-at-preserved
loop-at-preserved c = (
  c.run_end-end.ensures.within,
  λ items e. subst (λ (es : List Edge). AreEdgesTo items c.args.parts.now c.run_end-end.result es) (sym c.in_ok-push.ensures.ok)
      (edges_more items c.args.parts.now c.loop-at.at c.run_end-end.result _ c.in_ok-edge_of.field-0 c.loop-at.edges c.requires c.run_end-end.ensures (slice_size c.args.parts.now c.loop-at.at c.run_end-end.result c.run_end-end.ensures.some c.run_end-end.ensures.within)
      (slice_at c.args.parts.now c.loop-at.at c.run_end-end.result) (c.in_ok-edge_of.ensures items e) (c.loop-at.invariant.1 items e)),
)

pub returns : goal.returns
returns c = λ items e. edges_all items c.args.parts.now c.loop-at.at c.loop-at.edges (let t = c.loop-at-test.false in omega (arith, t)) (c.loop-at.invariant.1 items e)
