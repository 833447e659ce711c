-- What a seat was told of an entry that hangs, and what a count was when the seat lowered it.
-- Read against: a seat reads the info word of entry 12, a strong read of task 11: it was told of 12 that it is this. It sets reads of 12, and lowers the count of 11, which was 1: the count
-- is 0 then.
use Rattle.std.specs.Prelude.{ℕ}
use Rattle.oss_words.specs.declared.entry.EntryInfo.{EntryInfo}

-- An entry that hangs, and what its info word says.
pub record Told : Type 0 where
  pub entry : ℕ
  pub info : EntryInfo

-- A count that was lowered by 1: the task, and what its count was before.
pub record Lowered : Type 0 where
  pub task : ℕ
  pub found : ℕ
