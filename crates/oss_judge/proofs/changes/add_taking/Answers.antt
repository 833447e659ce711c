use Rattle.std.proofs.Common.{ap, ◌∙◌}
use Rattle.oss_judge.proofs.ChangeLemmas.{overlaid_more}
use Rattle.oss_judge.specs.Changed.{overlaid}
use Rattle.oss_judge.proofs.changes.add_taking.Goals as goal

pub returns : goal.returns
returns c = λ cell value. ap (λ xs. overlaid xs cell value) c.in_ok-push.ensures.items ∙ overlaid_more c.args.changes.now.items _ cell value
