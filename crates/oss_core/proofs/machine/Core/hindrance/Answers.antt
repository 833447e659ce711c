use Rattle.std.proofs.Common.{ℕ, ◌<◌, subst}
use Rattle.oss_core.specs.Cores.{kept_of}
use Rattle.oss_core.proofs.AddedLemmas.{read_there}
use Rattle.oss_core.proofs.HindranceLemmas.{hindrance_told}
use Rattle.oss_core.proofs.NeedLemmas.{is_known}
use Rattle.oss_core.proofs.TreeFacts.{sizes}
use Rattle.oss_core.proofs.machine.Core.hindrance.Goals as goal

pub hindrance_of-requires-clause-known : goal.hindrance_of-requires-clause-known
hindrance_of-requires-clause-known g c = is_known c.requires.running.1.core c.args.task.0 (subst (λ (n : ℕ). c.args.task.0 < n) (sizes c.requires.running.1.core) c.requires.there)

pub returns-clause-hindrance : goal.returns-clause-hindrance
returns-clause-hindrance g c =
    hindrance_told (kept_of g.D.Deps.seen c.args.self.now) c.args.task.0 c.index.result.now
    (read_there c.args.self.now.tasks.items c.args.task.0 c.index.result.now (subst (λ (n : ℕ). c.args.task.0 < n) (sizes c.requires.running.1.core) c.requires.there) c.index.ensures)
    c.hindrance_of.result c.hindrance_of.ensures.hindrance
