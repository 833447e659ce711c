-- What is missing of a code is told in one way.
-- Read against: of a main that creates a task with `in(x)`, which stores into x and y, it is told of the task that it lacks `out(x)` and `out(y)`: one clause with two pieces, of which that of x stands first. No other order, and no two clauses by one word, tell the same.
use Rattle.std.specs.Prelude.{◌≡◌, ℕ, List}
use Rattle.oss_syntax.specs.declared.tree.program.Item.{Item}
use Rattle.oss_code.specs.declared.code.CodeParts.{CodeParts}
use Rattle.oss_missing_lines.specs.declared.missing.Missing.{Missing}
use Rattle.oss_missing.specs.Missing.{IsMissing}

-- All that is missing of a code is one, in whichever order the run lists its tasks.
abbrev pub MissingIsOne : Type 0
MissingIsOne = (code : CodeParts) (fuel : ℕ) (all : List Item) (m n : Missing) → IsMissing code fuel all m → IsMissing code fuel all n → m ≡ n
