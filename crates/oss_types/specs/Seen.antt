-- What the checker keeps of broken rules: of each list its first.
-- Read against: of `a * (b + f(c))` with an array `a`, and no `b`, `f` and `c` in scope, it keeps WrongKind at `a`, and behind it
-- UnknownName at `b`.
use Rattle.std.specs.Prelude.{nat_lt, if◌then◌else◌, Option, Some, None}
use Rattle.oss_syntax.specs.declared.refusal.Refused.{Refused}
use Rattle.oss_grammar.specs.Broken.{first, rank}
use Rattle.oss_grammar.specs.Kinds.{Findings}
use Rattle.oss_types.specs.declared.finding.Finding.{Finding}

-- what is kept of all that is found of an expression
abbrev pub seen : Findings → Finding
seen f = record { line = f.line; at_first = first f.at_first; behind = first f.behind; kind = f.kind; object = f.object }

-- the earlier of two rules that one token breaks
abbrev pub earlier : Refused → Option Refused → Option Refused
earlier b None = Some b
earlier b (Some c) = if nat_lt (rank b.kind) (rank c.kind) then Some b else Some c
