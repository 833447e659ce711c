use Rattle.std.proofs.Common.{refl, sym, ◌∙◌}
use Rattle.oss_body.specs.Relation.{pending_of}
use Rattle.oss_serial.proofs.StageLemmas.{gone_up, shown_after, turn_down, turn_on, turn_stops}
use Rattle.oss_serial.proofs.stage.Stage.turn.Goals as goal

-- the body has ended
pub returns-then-ended : goal.returns-then-ended
returns-then-ended c = λ main first setting st.
    gone_up c.args.code.now main first c.args.self.now _ c.go_up.new.self c.pending.result.now st (c.pending.ensures.act c.args.code.now st.current.start st.current.found st.is_current) c.go_up.result
    c.in_ok-loaded.ensures.cells c.in_ok-loaded.ensures.output c.in-Goes.loaded c.advance.new.self (sym c.in-Goes.is ∙ c.in_ok-loaded.ensures.turn)
    (shown_after c.args.code.now st.current c.pending.result.now (pending_of c.args.self.now.current) c.in-Goes.loaded c.advance.new.self c.pending.ensures.kept (c.in_ok-advance-in-Goes.ensures.ok st.current.start st.current.found st.is_current))
    refl refl (sym c.ended.ensures.kept ∙ c.if-ended.true) c.go_up.ensures

-- the body goes on
pub returns-else-ended : goal.returns-else-ended
returns-else-ended c = λ main first setting st.
    turn_on c.args.code.now main first c.args.self.now _ c.pending.result.now st (c.pending.ensures.act c.args.code.now st.current.start st.current.found st.is_current)
    c.in_ok-loaded.ensures.cells c.in_ok-loaded.ensures.output c.in-Goes.loaded c.advance.new.self (sym c.in-Goes.is ∙ c.in_ok-loaded.ensures.turn)
    (shown_after c.args.code.now st.current c.pending.result.now (pending_of c.args.self.now.current) c.in-Goes.loaded c.advance.new.self c.pending.ensures.kept (c.in_ok-advance-in-Goes.ensures.ok st.current.start st.current.found st.is_current))
    refl refl refl (sym c.ended.ensures.kept ∙ c.if-ended.false)

-- the body creates a task
pub returns-in_ok-go_down-in-Creates : goal.returns-in_ok-go_down-in-Creates
returns-in_ok-go_down-in-Creates c = λ main first setting st.
    let d = c.in_ok-go_down-in-Creates.ensures st.current.start st.current.found st.is_current in
    turn_down c.args.code.now main first c.args.self.now c.go_down.new.self c.pending.result.now st (c.pending.ensures.act c.args.code.now st.current.start st.current.found st.is_current)
    (d.cells ∙ c.in_ok-loaded.ensures.cells) (d.output ∙ c.in_ok-loaded.ensures.output) setting (sym c.in-Creates.is ∙ c.in_ok-loaded.ensures.turn) d.creator
    (shown_after c.args.code.now st.current c.pending.result.now (pending_of c.args.self.now.current) 0 d.creator c.pending.ensures.kept d.is_creator)
    d.is_child d.above d.tasks

-- a fault stops the run
pub returns-in-Stops : goal.returns-in-Stops
returns-in-Stops c = λ main first setting st.
    turn_stops c.args.code.now main first c.args.self.now
    (record { current = c.args.self.now.current; above = c.args.self.now.above; cells = c.happen.new.cells; output = c.happen.new.output; tasks = c.args.self.now.tasks })
    c.pending.result.now st (c.pending.ensures.act c.args.code.now st.current.start st.current.found st.is_current)
    c.in_ok-loaded.ensures.cells c.in_ok-loaded.ensures.output c.in-Stops.kind c.in-Stops.line (sym c.in-Stops.is ∙ c.in_ok-loaded.ensures.turn) refl refl
