use Rattle.std.proofs.Common.{◌≡◌, ◌+◌, length}
use Rattle.oss_lex.specs.Reading.{gaps_len}
use Rattle.oss_lex.proofs.blanks.blanks_len.Given as goal

abbrev pub invariant-blanks : goal.invariant-blanks
invariant-blanks l = record {
  value : gaps_len 0 l.fn.text ≡ l.count + gaps_len 0 l.rest;
  place : l.count + length l.rest ≡ length l.fn.text;
}

abbrev pub decreases-blanks : goal.decreases-blanks
decreases-blanks l = length l.rest
