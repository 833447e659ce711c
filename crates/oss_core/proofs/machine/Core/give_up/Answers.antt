use Rattle.oss_core.specs.Cores.{kept_of}
use Rattle.oss_core.proofs.ClearLemmas.{gives_up}
use Rattle.oss_core.proofs.machine.Core.give_up.Goals as goal

pub returns-clause-given : goal.returns-clause-given
returns-clause-given g c =
    gives_up c.args.task.0 c.args.cell (kept_of g.D.Deps.seen c.args.self.now)
    (record { tasks = c.clear.new.tasks.items; tree = c.note_given.new.tree; seen = g.D.Deps.seen c.give.new.self; cells = c.args.self.now.cells.items })
    c.in_ok-last.last c.owed_cell-range.result (g.D.Deps.seen c.prepare.new.self) c.owed_cell-range.ensures.lo c.owed_cell-range.ensures.hi c.in_ok-last.ensures c.note_given.ensures.tasks c.note_given.ensures.prints c.in_ok-prepare.ensures.ok c.give.ensures
