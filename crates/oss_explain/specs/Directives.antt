-- Why a creation or a release may not be, by what its clauses give: the cells of which two clauses cannot be joined, and those that are not covered, each with their words.
-- Read against: of `task in(x) reduction(+: x)` the cell of x is mixed, by the words `in` and `reduction(+)`. In a task with `in(x)` alone the cell of x is not covered for `task out(x)`: the new task
-- would have it by `out`, and its creator has it by `in`. It is not covered for `release out(x)` either.
use Rattle.std.specs.Prelude.{◌≡◌, ℕ, Bool, false, List, [], Option, Some}
use Rattle.oss_syntax.specs.declared.access.Access.{Access}
use Rattle.oss_syntax.specs.declared.tree.program.Item.{Item}
use Rattle.oss_model.specs.Context.{Context, right_of}
use Rattle.oss_model.specs.Rights.{holds_uncovered, is_mixed, right_from}
use Rattle.oss_explanation.specs.declared.explained.Failing.{Failing}
use Rattle.oss_explanation.specs.declared.explained.Reason.{Reason}
use Rattle.oss_explanation.specs.declared.explained.Reason.TheVariants as reasons
use Rattle.oss_explanation.specs.declared.explained.Word.{Word}
use Rattle.oss_explanation.specs.Held.{AreFailing, clause_words, once}
use Rattle.oss_explain.specs.Owned.{word_from}

-- The right to the cell does not cover what clauses give of it to a task that is final or not.
abbrev pub is_uncovered : Context → Bool → List Access → ℕ → Bool
is_uncovered x final clauses c = holds_uncovered (right_of x c) (right_from final clauses c)

-- The reason is that of these cells two clauses cannot be joined, with the words that they have for the first one, each once.
pub record IsMixedOf (all : List Item) (final : Bool) (clauses : List Access) (reason : Reason) : Type 0 where
  pub cells : Failing
  pub failing : AreFailing all (is_mixed final clauses) cells
  pub is : reason ≡ reasons.MixedAccess (once [] (clause_words final clauses cells.first)) cells

-- The reason of a creation is that these cells are not covered, of which the clauses give the first by this word. The task that creates has its cells by its own words.
pub record IsCreationUncovered (all : List Item) (x : Context) (final : Bool) (clauses : List Access) (own : ℕ → Option Word) (reason : Reason) : Type 0 where
  pub cells : Failing
  pub failing : AreFailing all (is_uncovered x final clauses) cells
  pub word : Word
  pub word_is : word_from final clauses cells.first ≡ Some word
  pub is : reason ≡ reasons.CreationNotCovered word (own cells.first) cells

-- The same of a release.
pub record IsReleaseUncovered (all : List Item) (x : Context) (clauses : List Access) (own : ℕ → Option Word) (reason : Reason) : Type 0 where
  pub cells : Failing
  pub failing : AreFailing all (is_uncovered x false clauses) cells
  pub word : Word
  pub word_is : word_from false clauses cells.first ≡ Some word
  pub is : reason ≡ reasons.ReleaseNotCovered word (own cells.first) cells
