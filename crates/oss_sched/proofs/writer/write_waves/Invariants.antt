use Rattle.std.proofs.Common.{◌≡◌, ◌++◌, ◌+◌, drop}
use Rattle.oss_sched.specs.Traces.{waves_text}
use Rattle.oss_sched.proofs.writer.write_waves.Given as goal

-- so many waves were written, and those behind them are left
abbrev pub invariant-loop-wave : goal.invariant-loop-wave
invariant-loop-wave l = (l.before ≡ l.wave-index) × (l.text.items ++ waves_text (l.before + 1) (drop l.wave-index l.waves) ≡ l.fn.text.items ++ waves_text 1 l.waves)
