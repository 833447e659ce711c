use Rattle.oss_missing_waits.specs.Waits.{mended_in}
use Rattle.std.proofs.Common.{subst, sym, List}
use Rattle.oss_lacks.specs.declared.lacks.TaskLacks.{TaskLacks}
use Rattle.oss_missing_waits.specs.Following.{AreSaid}
use Rattle.oss_missing_waits.proofs.WalkLemmas.{said_of_lacks}
use Rattle.oss_missing_waits.proofs.walk.find_waits.Goals as goal

pub returns : goal.returns
returns c ended lacks =
    c.in_ok-waits.ensures c.args.program.now.items (mended_in ended) c.in_ok-layout.ensures (subst (λ (ks : List TaskLacks). AreSaid (mended_in ended) ks) (sym c.as_slice.ensures) (said_of_lacks ended c.args.lacks.now.tasks lacks))
