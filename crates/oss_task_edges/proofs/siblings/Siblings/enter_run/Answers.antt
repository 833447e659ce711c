use Rattle.std.proofs.Common.{◌≡◌, ◌∙◌, List, Some, sym, subst}
use Rattle.std.specs.Prelude.{slice_get}
use Rattle.oss_ranges.specs.Cells.{Assigns}
use Rattle.oss_task_edges.specs.declared.members.Member.{Member}
use Rattle.oss_task_edges.proofs.EnterLemmas.{enters_run, on_ok}
use Rattle.oss_task_edges.proofs.siblings.Siblings.enter_run.Goals as goal

pub returns : goal.returns
returns c =
    let told = c.in_ok-now.ensures.more in
    on_ok c.keep.result
    (λ cells. enters_run c.args.number c.args.mode c.args.strong c.args.range c.args.groups c.args.self.now c.keep.new.self c.args.parts.now.items c.tell.new.parts.items c.requires
    c.spot-spot.result c.spot-spot.ensures c.in_ok-tell.ensures c.in_ok-now.now told.0 (c.keep.ensures.members ∙ told.1)
    (λ h. subst (λ (ms : List Member). slice_get ms c.in_ok-now.now ≡ Some (record { child = c.args.number; mode = c.args.mode; strong = c.args.strong; older = c.spot-spot.result.own })) (sym c.keep.ensures.members) (c.in_ok-now.ensures.there h))
    (subst (λ o. Assigns c.args.range.lo c.args.range.hi (Some (record { now = c.in_ok-now.now; before = o })) c.args.self.now.cells.pieces c.keep.new.self.cells.pieces) c.kept_behind-before.ensures cells))
    c.keep.ensures.cells
