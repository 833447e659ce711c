-- A range is gone through by its fragments: what is so of the accesses of each of them is so of each cell.
-- Read against: cells 0 to 3 with task 1, and cuts at 0 and 4. The fragment of cell 2 has the cells 0 to 3; the next one begins at 4.
use Rattle.std.specs.Prelude.{◌≡◌, ℕ, ◌<◌, ◌≤◌}
use Rattle.oss_fragments.specs.declared.fragment.Fragment.{Fragment}
use Rattle.oss_fragments.specs.Here.{here_of}
use Rattle.oss_fragments.specs.Kept.{Kept, here_at}
use Rattle.oss_fragments.specs.Stretches.{IsFragment}

-- The fragment has the cell, and its accesses are those to each of its cells.
pub record IsPartOf (kept : Kept) (cell : ℕ) (a : Fragment) : Type 0 where
  pub begins : a.lo ≤ cell
  pub ends : cell < a.hi
  pub right : IsFragment a
  pub alike : (c : ℕ) → a.lo ≤ c → c < a.hi → here_at kept c ≡ here_of a
