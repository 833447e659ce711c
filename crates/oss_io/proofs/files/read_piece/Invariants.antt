-- A read that was cut off took no byte of the file.
use Rattle.std.specs.Io.KnownBytes.{Keeps}
use Rattle.oss_io.proofs.files.read_piece.Given as goal

abbrev pub invariant-loop : goal.invariant-loop
invariant-loop g l = Keeps (g.F.Read.remaining l.fn.file) (g.F.Read.remaining l.file)
