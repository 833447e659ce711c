use Rattle.std.proofs.Common.{refl, ap, ◌∙◌}
use Rattle.oss_judge.proofs.FaultLemmas.{cover_same}
use Rattle.oss_judge.proofs.ViewLemmas.{own_right}
use Rattle.oss_judge.specs.Parts.{cover_fault}
use Rattle.oss_judge.specs.Seen.{right_at}
use Rattle.oss_model.specs.Context.{right_of}
use Rattle.oss_judge.proofs.context.Context.check_given.Goals as goal

pub returns : goal.returns
returns c =
    c.check_covered.ensures ∙ ap (cover_fault (right_at c.self.inside.rights.pieces) (right_at c.args.given.now.pieces)) c.as_slice.ensures
    ∙ cover_same (right_at c.self.inside.rights.pieces) (right_of c.args.self.now) (right_at c.args.given.now.pieces) (right_at c.args.given.now.pieces) c.args.clauses.now (own_right c.self.inside.cells c.self.inside.rights.pieces c.self.inside.lent.pieces c.self.inside.marks.pieces (record { ticks = c.self.inside.ticks; fuel = c.self.inside.fuel; created = c.self.inside.created; depth = c.self.inside.depth; final = c.self.inside.is_final }) c.self.invariant.2 c.self.invariant.3 c.self.invariant.4 c.args.self.now c.self.view_is) (λ cell. refl)
