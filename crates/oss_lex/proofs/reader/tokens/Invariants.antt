use Rattle.std.proofs.Common.{length}
use Rattle.oss_lex.proofs.Walk.{IsLeft}
use Rattle.oss_lex.proofs.reader.tokens.Given as goal

abbrev pub invariant-text : goal.invariant-text
invariant-text l = IsLeft l.fn.text l.found l.part l.line l.rest

abbrev pub decreases-text : goal.decreases-text
decreases-text l = length l.rest
