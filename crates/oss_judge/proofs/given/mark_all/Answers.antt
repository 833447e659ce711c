use Rattle.std.proofs.Common.{ap, ◌∙◌, if◌then◌else◌}
use Rattle.oss_model.specs.Rights.{Written, is_fresh}
use Rattle.oss_judge.specs.Seen.{right_at}
use Rattle.oss_judge.proofs.GivenLemmas.{first-all}
use Rattle.oss_judge.proofs.given.mark_all.Goals as goal

pub loop-clause-init : goal.loop-clause-init
loop-clause-init c = λ cell.
    ap (λ m. if is_fresh c.args.clauses.now cell then m else Written) (c.in_ok-mark_writes.ensures cell)
    ∙ first-all (right_at c.args.rights.now.pieces cell) (is_fresh c.args.clauses.now cell)
