-- Which clauses stand among those that were found, of the kinds that a task or a task loop has once at most. Read against: of an `if` and a `label`
-- the first and the fourth are true, and no other.
use Rattle.std.specs.Prelude.{◌≡◌, Bool, List}
use Rattle.oss_syntax.specs.declared.tree.pragma.Clause.{Clause}
use Rattle.oss_grammar.specs.Pragmas.Single.{once_if, once_final, once_wait, once_label, once_priority, once_grain}
use Rattle.oss_expressions.specs.TokenValues.{stands}

-- Which of these clauses stand among those that were found.
pub record AreKnown (found : List Clause) (condition final wait label priority grain : Bool) : Type 0 where
  pub condition_is : condition ≡ stands once_if found
  pub final_is : final ≡ stands once_final found
  pub wait_is : wait ≡ stands once_wait found
  pub label_is : label ≡ stands once_label found
  pub priority_is : priority ≡ stands once_priority found
  pub grain_is : grain ≡ stands once_grain found
