use Rattle.std.proofs.Common.{◌≡◌, ◌+◌, false, length}
use Rattle.oss_lex.specs.Reading.{remark_len}
use Rattle.oss_lex.proofs.blanks.to_line_end.Given as goal

abbrev pub invariant-bytes : goal.invariant-bytes
invariant-bytes l = record {
  value : remark_len false l.fn.text ≡ l.count + remark_len l.backslash l.rest;
  place : l.count + length l.rest ≡ length l.fn.text;
}

abbrev pub decreases-bytes : goal.decreases-bytes
decreases-bytes l = length l.rest
