use Rattle.std.proofs.Common.{◌≡◌, ◌++◌, ◌-◌}
use Rattle.oss_gen.specs.Generated.{tasks_text}
use Rattle.oss_gen.proofs.tasks.write_tasks.Given as goal

-- so many tasks were written, and those behind them are left
abbrev pub invariant-loop-before : goal.invariant-loop-before
invariant-loop-before l = l.text.items ++ tasks_text (l.size - l.before) l.before l.number ≡ l.fn.text.items ++ tasks_text l.size 0 l.fn.start
