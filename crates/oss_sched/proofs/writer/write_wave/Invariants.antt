use Rattle.std.proofs.Common.{◌≡◌, ◌++◌, take}
use Rattle.oss_sched.specs.Traces.{wave_text}
use Rattle.oss_sched.proofs.writer.write_wave.Given as goal

-- the heading, and as many moves as were written
abbrev pub invariant-loop-what : goal.invariant-loop-what
invariant-loop-what l = l.text.items ≡ l.fn.text.items ++ wave_text l.fn.number (take l.what-index l.moves)
