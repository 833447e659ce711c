use Rattle.std.proofs.Common.{◌≡◌, ◌+◌, length}
use Rattle.oss_lex.specs.Reading.{lengthened, close_len}
use Rattle.oss_lex.proofs.blanks.to_close.Given as goal

abbrev pub invariant-bytes : goal.invariant-bytes
invariant-bytes l = record {
  value : close_len l.fn.text ≡ lengthened l.count (close_len l.rest);
  place : l.count + length l.rest ≡ length l.fn.text;
}

abbrev pub decreases-bytes : goal.decreases-bytes
decreases-bytes l = length l.rest
