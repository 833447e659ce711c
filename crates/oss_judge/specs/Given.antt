-- What clauses give, as it is worked out before anything is judged by it.
-- Read against: `in(0..2)` and `inout(1..2)` give the cell 0 to read, the cell 1 to write and no other, and are not mixed.
-- `in(0..2)` and `reduction(+: 1..2)` are mixed, since of the cell 1 the two cannot be joined.
use Rattle.std.specs.Prelude.{◌≡◌, ℕ, Bool, List}
use Rattle.oss_syntax.specs.declared.access.Access.{Access}
use Rattle.oss_model.specs.Rights.{any_cell, is_mixed, right_from}
use Rattle.oss_judge.specs.Seen.{right_at}
use Rattle.oss_judge.specs.declared.given_rights.Given.{Given}

-- It is what these clauses give to a task that is final or not: the right to each cell, and whether two clauses that name one
-- cell cannot be joined.
pub record IsGiven (final : Bool) (clauses : List Access) (given : Given) : Type 0 where
  pub rights : (c : ℕ) → right_at given.rights.pieces c ≡ right_from final clauses c
  pub mixed : given.is_mixed ≡ any_cell (is_mixed final clauses) clauses
