use Rattle.std.proofs.Common.{◌≡◌, ◌∙◌}
use Rattle.oss_code.specs.Shapes.{indices_in, operands_of}
use Rattle.oss_machine.proofs.TellLemmas.{touch_acts}
use Rattle.oss_machine.proofs.instructions.act.act.Goals as goal

pub returns-in-Apply : goal.returns-in-Apply
returns-in-Apply c = rw c.in-Apply.is (c.operate.ensures c.args.base.now.accesses.items c.args.base.now.ranges.items)

pub returns-in-Load : goal.returns-in-Load
returns-in-Load c = rw c.in-Load.is (touch_acts _ _ _ _ _ c.touch.ensures)

pub returns-in-Store : goal.returns-in-Store
returns-in-Store c = rw c.in-Store.is (touch_acts _ _ _ _ _ c.touch-in-Store.ensures)

pub returns-in-Fold : goal.returns-in-Fold
returns-in-Fold c = rw c.in-Fold.is (touch_acts _ _ _ _ _ c.touch-in-Fold.ensures)

pub returns-in-Turns : goal.returns-in-Turns
returns-in-Turns c = rw c.in-Turns.is (c.begin_turns.ensures c.args.base.now.accesses.items c.args.base.now.ranges.items)

pub returns-in-Section : goal.returns-in-Section
returns-in-Section c =
    let taken : c.takes.result ≡ operands_of c.in-Section.form = c.takes.ensures ∙ rw c.in-Section.is in
    rw c.in-Section.is (rw (← taken) (c.section.ensures c.args.base.now.accesses.items c.args.base.now.ranges.items))

pub returns-in-Turn : goal.returns-in-Turn
returns-in-Turn c =
    let taken : c.takes-in-Turn.result ≡ indices_in c.in-Turn.indices = c.takes-in-Turn.ensures ∙ rw c.in-Turn.is in
    rw c.in-Turn.is (rw (← taken) (c.turn.ensures c.args.base.now.accesses.items c.args.base.now.ranges.items))

pub returns-in-NextTurn : goal.returns-in-NextTurn
returns-in-NextTurn c = rw c.in-NextTurn.is (c.next_turn.ensures.acted c.args.base.now.accesses.items c.args.base.now.ranges.items)
