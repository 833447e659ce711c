use Rattle.std.proofs.Common.{rules}
use Rattle.oss_core.specs.Cores.{kept_of}
use Rattle.oss_core.specs.Turns.{AwaitsParts}
use Rattle.oss_core.proofs.CallLemmas.{if_ok}
use Rattle.oss_program_tests.proofs.waving.bare_wave.Goals as goal

pub returns-clause-waved : goal.returns-clause-waved
returns-clause-waved g c =
    let awaits : AwaitsParts c.args.code.now (kept_of g.D.Deps.seen c.args.core.now) (kept_of g.D.Deps.seen c.begin_wave.new.self) c.as_slice.result.now c.in_ok-parts.parts.items = search rules in
    if_ok c.end_wave.result (λ turns h. h c.args.code.now (kept_of g.D.Deps.seen c.args.core.now) awaits) c.end_wave.ensures.waved

pub returns-clause-turned : goal.returns-clause-turned
returns-clause-turned g c =
    let awaits : AwaitsParts c.args.code.now (kept_of g.D.Deps.seen c.args.core.now) (kept_of g.D.Deps.seen c.begin_wave.new.self) c.as_slice.result.now c.in_ok-parts.parts.items = search rules in
    if_ok c.end_wave.result (λ turns h. h c.args.code.now (kept_of g.D.Deps.seen c.args.core.now) awaits) c.end_wave.ensures.turned
