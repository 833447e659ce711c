use Rattle.std.proofs.Common.{sym, ◌∙◌}
use Rattle.oss_machine.specs.Asks.{meant_ask}
use Rattle.oss_lacks.proofs.KeptLemmas.{on_ok}
use Rattle.oss_lacks.proofs.WalkLemmas.{few_here, noted_here, noted_still, room_here, touches_here}
use Rattle.oss_lacks.proofs.walk.note.Goals as goal

pub note-requires : goal.note-requires
note-requires c = record {
  touches = touches_here c.args.code.now c.args._fuel c.args.run.now c.requires.stage c.deed.result (c.deed.ensures.deed c.args._fuel c.requires.stage) (sym c.goes_on.ensures ∙ c.if-not-goes_on.false) (meant_ask c.ask.result.now) (c.ask.ensures c.args.code.now c.args._fuel c.requires.stage);
  room = room_here c.args.code.now c.args._fuel c.args.run.now c.requires.stage c.deed.result (c.deed.ensures.deed c.args._fuel c.requires.stage) (sym c.goes_on.ensures ∙ c.if-not-goes_on.false) (meant_ask c.ask.result.now) (c.ask.ensures c.args.code.now c.args._fuel c.requires.stage) c.requires.nest c.args.following.now c.requires.named c.requires.follows;
  few = few_here c.args.code.now c.args._fuel c.args.run.now c.requires.stage c.deed.result (c.deed.ensures.deed c.args._fuel c.requires.stage) (sym c.goes_on.ensures ∙ c.if-not-goes_on.false) (meant_ask c.ask.result.now) (c.ask.ensures c.args.code.now c.args._fuel c.requires.stage) c.created.result (c.created.ensures c.args.code.now c.args._fuel c.requires.stage);
}

pub returns-then-not-goes_on : goal.returns-then-not-goes_on
returns-then-not-goes_on c = λ s n named h.
    noted_still c.args.code.now c.args._fuel c.args.run.now s c.deed.result (c.deed.ensures.deed c.args._fuel s) (sym c.goes_on.ensures ∙ c.if-not-goes_on.true) n c.args.following.now h

pub returns : goal.returns
returns c =
    on_ok c.note.result (λ notes s n named h.
    noted_here c.args.code.now c.args._fuel c.args.run.now s c.deed.result (c.deed.ensures.deed c.args._fuel s) (sym c.goes_on.ensures ∙ c.if-not-goes_on.false) (meant_ask c.ask.result.now) (c.ask.ensures c.args.code.now c.args._fuel s)
    c.line.result (c.line.ensures c.args.code.now c.args._fuel s) c.created.result (c.created.ensures c.args.code.now c.args._fuel s) c.is_final.result (c.is_final.ensures c.args.code.now c.args._fuel s)
    n c.args.following.now c.note.new.self named h notes) c.note.ensures
