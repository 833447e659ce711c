-- What the list of entries asks of one more.
-- Read against: behind inout(x) as task 1, of main, and out(x) as task 2 below it, an entry for task 3 with in(x) may be added below task 1, whose access
-- covers it. One for task 2 may not, which is opened; nor one below task 5, which is not; nor one with out(y) below task 2, which has no access to y; nor
-- one that names x twice.
use Rattle.std.specs.Prelude.{◌≡◌, ◌⊎◌, ℕ, true, List}
use Rattle.oss_deps.specs.declared.opened.Open.{Open}
use Rattle.oss_deps.specs.Opens.{names, HasCover, IsKnown, IsOnce, IsOpened}

-- The entry may be added to the list.
pub record MayOpen (opens : List Open) (o : Open) : Type 0 where
  pub not_main : o.task ≡ 0 → ⊥
  pub fresh : IsOpened opens o.task → ⊥
  pub parent : IsKnown opens o.parent
  pub covered : (c : ℕ) → names c o ≡ true → (o.parent ≡ 0) ⊎ HasCover opens c o
  pub once : IsOnce o.accesses
