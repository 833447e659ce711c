use Rattle.std.proofs.Common.{subst}
use Rattle.oss_core.specs.Changes.{IsMade}
use Rattle.oss_core.specs.Cores.{kept_of}
use Rattle.oss_core.specs.Kept.{Kept}
use Rattle.oss_core.proofs.machine.Core.apply.Goals as goal

pub returns-then-not-enabled-clause-not_now : goal.returns-then-not-enabled-clause-not_now
returns-then-not-enabled-clause-not_now g c = λ e main first s core n made. let t = (c.enabled.ensures.enabled c.args.code.now main first s core).1 (n, made) in let f = c.if-not-enabled.true in absurd cc

pub returns-in-Ok-clause-ok : goal.returns-in-Ok-clause-ok
returns-in-Ok-clause-ok g c = subst (λ (k : Kept). IsMade c.args.code.now k (kept_of g.D.Deps.seen c.make.new.self) c.args.m) c.enabled.ensures.same c.in-Ok.ensures

pub returns-in-Ok-clause-now : goal.returns-in-Ok-clause-now
returns-in-Ok-clause-now g c = λ no main first s core. (c.enabled.ensures.enabled c.args.code.now main first s core).0 c.if-not-enabled.false

pub returns-in-Err-clause-now : goal.returns-in-Err-clause-now
returns-in-Err-clause-now g c = λ no main first s core. (c.enabled.ensures.enabled c.args.code.now main first s core).0 c.if-not-enabled.false
