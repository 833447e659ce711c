-- What contracts see of a dependency system by words: the plain lists of what it was told, and how many entries its net has, where it has one.
-- Read against: a new system with 64 entries at most has no task, and a net of 64 entries. Once a task with 70 cells is opened, it has none.
use Rattle.std.specs.Prelude.{ℕ, Option, Some, None}
use Rattle.oss_deps.specs.Kept.{Kept, seen_of}
use Rattle.oss_deps.specs.Seen.{Seen}
use Rattle.oss_word_deps.specs.Shelved.{Shelved}

pub record Worded : Type 0 where
  pub lists : Kept
  pub entries : Option ℕ

-- It is seen as its lists are.
abbrev pub seen_by : Worded → Seen
seen_by w = seen_of w.lists

-- The entries of a net, where there is one.
abbrev pub entries_of : Option Shelved → Option ℕ
entries_of None = None
entries_of (Some w) = Some w.size
