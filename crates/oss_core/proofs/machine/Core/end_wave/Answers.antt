use Rattle.oss_core.specs.Cores.{kept_of}
use Rattle.oss_core.proofs.CallLemmas.{if_ok}
use Rattle.oss_core.proofs.WavingLemmas.{awaited_kept, awaited_midway, awaited_turned, awaited_waved, ok_after}
use Rattle.oss_core.proofs.machine.Core.end_wave.Goals as goal

pub put_all-requires : goal.put_all-requires
put_all-requires g c = awaited_midway c.requires.0 c.requires.1 (kept_of g.D.Deps.seen c.args.self.now) c.args.steppers.now c.args.parts.items c.requires.2

pub returns-clause-waved : goal.returns-clause-waved
returns-clause-waved g c =
    if_ok c.put_all.result
    (λ turns ends code before h. awaited_waved code before (kept_of g.D.Deps.seen c.args.self.now) (kept_of g.D.Deps.seen c.put_all.new.self) c.args.steppers.now c.args.parts.items turns.items h ends)
    c.put_all.ensures

pub returns-clause-turned : goal.returns-clause-turned
returns-clause-turned g c =
    if_ok c.put_all.result
    (λ turns ends code before h. awaited_turned code before (kept_of g.D.Deps.seen c.args.self.now) (kept_of g.D.Deps.seen c.put_all.new.self) c.args.steppers.now c.args.parts.items turns.items h ends)
    c.put_all.ensures

pub returns-clause-tasks : goal.returns-clause-tasks
returns-clause-tasks g c =
    ok_after c.put_all.result
    (λ turns ends. awaited_kept c.requires.0 c.requires.1 (kept_of g.D.Deps.seen c.args.self.now) (kept_of g.D.Deps.seen c.put_all.new.self) c.args.steppers.now c.args.parts.items turns.items c.requires.2 ends)
    c.put_all.ensures
