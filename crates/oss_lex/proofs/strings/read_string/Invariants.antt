use Rattle.std.proofs.Common.{◌≡◌, [], false, length}
use Rattle.oss_lex.specs.Reading.{string_at}
use Rattle.oss_lex.proofs.strings.read_string.Given as goal

abbrev pub invariant-string : goal.invariant-string
invariant-string l = string_at false [] l.fn.text ≡ string_at false l.bytes.items l.rest

abbrev pub decreases-string : goal.decreases-string
decreases-string l = length l.rest
