use Rattle.std.proofs.Common.{sym, ◌∙◌}
use Rattle.oss_machine.specs.Asks.{meant_ask}
use Rattle.oss_missing_waits.proofs.WalkLemmas.{noted_here, noted_still}
use Rattle.oss_missing_waits.proofs.walk.note.Goals as goal

pub returns-else-goes : goal.returns-else-goes
returns-else-goes c s all w n laid said named h = noted_still c.args.code.now c.args._fuel c.args.run.now s c.deed.result (c.deed.ensures.deed c.args._fuel s) (sym c.goes_on-goes.ensures ∙ c.if-goes.false) all w n c.args.following.now h

pub returns-in_ok-note : goal.returns-in_ok-note
returns-in_ok-note c s all w n laid said named h =
    noted_here c.args.code.now c.args._fuel c.args.run.now s c.deed.result (c.deed.ensures.deed c.args._fuel s) (sym c.goes_on-goes.ensures ∙ c.if-goes.true) c.args.layout.now c.args.tasks.now (meant_ask c.ask.result.now) (c.ask.ensures c.args.code.now c.args._fuel s)
    c.line-line.result (c.line-line.ensures c.args.code.now c.args._fuel s) c.created-created.result (c.created-created.ensures c.args.code.now c.args._fuel s) c.is_final-is_final.result (c.is_final-is_final.ensures c.args.code.now c.args._fuel s)
    all w n c.args.following.now c.note.new.self laid said named h c.in_ok-note.ensures
