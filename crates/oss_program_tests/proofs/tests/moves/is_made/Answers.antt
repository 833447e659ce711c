use Rattle.std.proofs.Common.{subst}
use Rattle.oss_core.specs.Changes.{IsMade}
use Rattle.oss_core.specs.Cores.{kept_of}
use Rattle.oss_core.specs.Kept.{Kept}
use Rattle.oss_program_tests.proofs.tests.moves.is_made.Goals as goal

pub returns-in-Ok : goal.returns-in-Ok
returns-in-Ok g c =
    let before = c.requires in
    let made : IsMade c.args.code.now (kept_of g.D.Deps.seen c.args.core.now) (kept_of g.D.Deps.seen c.apply.new.self) c.args.m
    = subst (λ (k : Kept). IsMade c.args.code.now k (kept_of g.D.Deps.seen c.apply.new.self) c.args.m) c.enabled-enabled.ensures.same c.in-Ok.ensures.ok in
    let t = made before.main before.first before.state before.core in
    record { main = before.main; first = before.first; state = t.0; core = t.2 }
