-- The clauses that a task or a task loop has once at most, as the code names them. Read against: a token `wait` on line 3 gives the line 3 where that
-- clause does not stand already, and nothing where it does.
use Rattle.std.specs.Prelude.{ℕ, Bool, ◌&&◌, not, if◌then◌else◌, Option, Some, None}
use Rattle.oss_syntax.specs.declared.token.Token.{Token}
use Rattle.oss_grammar.specs.Pragmas.{Single}
use Rattle.oss_grammar.specs.Pragmas.Single.{once_if, once_final, once_wait, once_label, once_priority, once_grain}
use Rattle.oss_expressions.specs.TokenValues.{is_single_word}
use Rattle.oss_expressions.specs.declared.kinds.Once.{Once}
use Rattle.oss_expressions.specs.declared.kinds.Once.TheVariants as once

abbrev pub single_of : Once → Single
single_of once.If = once_if
single_of once.Final = once_final
single_of once.Wait = once_wait
single_of once.Label = once_label
single_of once.Priority = once_priority
single_of once.Grain = once_grain

-- The line of the word of such a clause, where the clause does not stand already.
abbrev pub single_unless : Bool → Single → Token → Option ℕ
single_unless already s t = if is_single_word s t.what && not already then Some t.line else None
