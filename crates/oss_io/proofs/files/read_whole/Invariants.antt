-- What is read so far is the front of the file, and within the limit.
use Rattle.std.proofs.Common.{length, ◌≤◌}
use Rattle.std.specs.Io.KnownBytes.{Consumes}
use Rattle.oss_io.proofs.files.read_whole.Given as goal

abbrev pub invariant-loop : goal.invariant-loop
invariant-loop g l = (length l.into.items ≤ l.limit)
    × Consumes (g.F.Read.remaining l.fn.file) (g.F.Read.remaining l.file) l.into.items
