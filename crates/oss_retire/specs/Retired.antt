-- Accesses to a cell that are retired: taken out of its lists, since nothing that is asked of the others depends on them any more. What is left is
-- a list of opens in which the retired tasks have no access.
-- Read against: task 1 with inout(a), its child 2 with out(a), task 3 with inout(a) and task 4 with in(a). Once 2 and then 1 have given up a, both may be
-- retired there: they are done, nothing stood in the way of a write of theirs, no access stands before 1, and 2 is the one child of 1. What is left at a is 3 and 4:
-- 3 is the first of main's list then, and may write, as it may behind 1. Where 1 alone has given up a, neither may be retired: 2 is not done, so 1 is not. Where
-- 4 has given up a and 3 has not, 4 is done and may not be retired, since 3 stands before it.
use Rattle.std.specs.Prelude.{◌≡◌, ℕ, ◌||◌, if◌then◌else◌, Bool, true, List, [], ◌∷◌}
use Rattle.oss_model.specs.Forest.{IsDone, IsWriteSatisfied}
use Rattle.oss_deps.specs.declared.opened.Open.{Open}
use Rattle.oss_deps.specs.Opens.{HasOpened, IsChild, IsEarlier, opened_forest}

-- The open without its accesses, if its task is retired.
abbrev pub left : (ℕ → Bool) → Open → Open
left retired o = record o { accesses = if retired o.task then [] else o.accesses }

-- What is left of the opens.
abbrev pub left_of : (ℕ → Bool) → List Open → List Open
left_of retired [] = []
left_of retired (o ∷ rest) = left retired o ∷ left_of retired rest

-- The tasks of both are retired.
abbrev pub either : (ℕ → Bool) → (ℕ → Bool) → ℕ → Bool
either some others t = some t || others t

-- The accesses of these tasks to the cell may be retired: each is done, and nothing earlier stood in the way of a write; those before it in its list are retired
-- too, and so are those below it.
pub record AreRetired (opens : List Open) (given : ℕ → ℕ → Bool) (c : ℕ) (retired : ℕ → Bool) : Type 0 where
  pub done : (t : ℕ) → retired t ≡ true → HasOpened opens c t → IsDone (opened_forest opens given c) t
  pub free : (t : ℕ) → retired t ≡ true → HasOpened opens c t → IsWriteSatisfied (opened_forest opens given c) t
  pub front : (u v : ℕ) → retired v ≡ true → HasOpened opens c v → IsEarlier opens c u v → retired u ≡ true
  pub below : (u v : ℕ) → retired u ≡ true → IsChild opens c u v → retired v ≡ true
