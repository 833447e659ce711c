use Rattle.std.proofs.Common.{ap, ◌∙◌, map}
use Rattle.oss_judge.proofs.FaultLemmas.{wait_is}
use Rattle.oss_judge.proofs.ViewLemmas.{own_right}
use Rattle.oss_judge.specs.Parts.{reading, wait_fault}
use Rattle.oss_judge.specs.Seen.{right_at}
use Rattle.oss_judge.proofs.context.Context.may_wait_on.Goals as goal

pub returns : goal.returns
returns c =
    c.check_waited_on.ensures ∙ ap (λ xs. wait_fault (right_at c.self.inside.rights.pieces) (map reading xs)) c.as_slice.ensures
    ∙ wait_is c.args.self.now (map reading c.args.named.now) (right_at c.self.inside.rights.pieces) (own_right c.self.inside.cells c.self.inside.rights.pieces c.self.inside.lent.pieces c.self.inside.marks.pieces (record { ticks = c.self.inside.ticks; fuel = c.self.inside.fuel; created = c.self.inside.created; depth = c.self.inside.depth; final = c.self.inside.is_final }) c.self.invariant.2 c.self.invariant.3 c.self.invariant.4 c.args.self.now c.self.view_is)
