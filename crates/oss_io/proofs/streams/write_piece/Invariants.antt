-- A write that was cut off left the writer as it was.
use Rattle.std.specs.Io.KnownBytes.{Keeps}
use Rattle.oss_io.proofs.streams.write_piece.Given as goal

abbrev pub invariant-loop : goal.invariant-loop
invariant-loop g l = Keeps (g.W.Write.contents l.fn.out) (g.W.Write.contents l.out)
