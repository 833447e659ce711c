-- What is written so far has been taken, without a fault.
use Rattle.std.proofs.Common.{length, ◌-◌, ◌≡◌, ◌≤◌, take}
use Rattle.std.specs.Io.KnownBytes.{append_known}
use Rattle.oss_io.proofs.sink.write_whole.Given as goal

abbrev pub invariant-loop-done : goal.invariant-loop-done
invariant-loop-done g l = (l.done ≤ length l.bytes)
    × (g.K.Sink.taken l.sink ≡ append_known (g.K.Sink.taken l.fn.sink) (take l.done l.bytes))
    × (g.K.Sink.faults l.sink ≡ g.K.Sink.faults l.fn.sink)

abbrev pub decreases-loop-done : goal.decreases-loop-done
decreases-loop-done g l = length l.bytes - l.done
