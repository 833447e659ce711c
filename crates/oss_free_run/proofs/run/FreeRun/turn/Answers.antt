use Rattle.std.proofs.Common.{ap, refl, ◌∙◌}
use Rattle.oss_machine.specs.Frames.{CodeScript}
use Rattle.oss_model.specs.Bodies.{Ask}
use Rattle.oss_free_tasks.specs.Deeds.{cells_behind}
use Rattle.oss_free_run.proofs.SeenLemmas.{if_ok}
use Rattle.oss_free_run.proofs.TurnLemmas.{turn_await, turn_down, turn_found, turn_stop, turn_tick, turn_up}
use Rattle.oss_free_run.proofs.run.FreeRun.turn.Goals as goal

pub returns-in_ok-tick-in-Ticks : goal.returns-in_ok-tick-in-Ticks
returns-in_ok-tick-in-Ticks c = λ fuel was.
    turn_tick c.args.code.now fuel c.args.self.now was _ refl (c.in-Ticks.ensures.deed fuel was) c.len-depth.result c.len-depth.ensures c.in_ok-tick-in-Ticks.ensures refl refl

pub returns-in_ok-wake-in-Awaits : goal.returns-in_ok-wake-in-Awaits
returns-in_ok-wake-in-Awaits c = λ fuel was.
    turn_await c.args.code.now fuel c.args.self.now was _ refl (c.in-Awaits.ensures.deed fuel was) c.len-depth.result c.len-depth.ensures c.in_ok-wake-in-Awaits.ensures refl refl

pub returns-in_ok-go_on-in-Finds : goal.returns-in_ok-go_on-in-Finds
returns-in_ok-go_on-in-Finds c = λ fuel was.
    turn_found c.args.code.now fuel c.args.self.now was _ refl c.in-Finds.found (c.in-Finds.ensures.deed fuel was) c.len-depth.result c.len-depth.ensures c.in_ok-go_on-in-Finds.ensures refl
    (c.happen.ensures ∙ ap (λ (q : Ask CodeScript). cells_behind q c.args.self.now.cells.items) c.ask.ensures)

pub returns-in_ok-go_down-in-Creates : goal.returns-in_ok-go_down-in-Creates
returns-in_ok-go_down-in-Creates c = λ fuel was.
    let down = c.in_ok-go_down-in-Creates.ensures in
    turn_down c.args.code.now fuel c.args.self.now was c.go_down.new.self down.beside.fuel_is (c.in-Creates.ensures.deed fuel was) down

pub returns-in-Ends : goal.returns-in-Ends
returns-in-Ends c =
    if_ok c.go_up.result (λ t up fuel was. turn_up c.args.code.now fuel c.args.self.now was c.go_up.new.self t (c.in-Ends.ensures.deed fuel was) up) c.go_up.ensures

pub returns-in-Stops : goal.returns-in-Stops
returns-in-Stops c = λ fuel was. turn_stop c.args.code.now fuel c.args.self.now was _ c.in-Stops.kind c.in-Stops.line refl (c.in-Stops.ensures.deed fuel was)
