-- That what a link asks can be met: a seat that has begun to make a task may link each of its entries, one after the other.
-- Read against: a seat that holds no message has begun to make the task 7 of one cell by main's job. Main has no child. It stands to link 7, with a weak read of depth 1 below 0 of task 7, as the first of a
-- list of main, and 8 with the mode of the cell. The link of 7 leaves a message held, which the seat delivers. Then it stands to link 8 as before.
use Rattle.std.specs.Prelude.{◌≡◌, ◌≢◌, ◌<◌, ℕ, suc, [], length, Option, Some}
use Rattle.oss_code.specs.declared.code.CodeParts.{CodeParts}
use Rattle.oss_jobs.specs.declared.job.Job.{Job}
use Rattle.oss_machine.specs.Frames.{CodeScript}
use Rattle.oss_model.specs.Bodies.{Order}
use Rattle.oss_words.specs.declared.entry.After.{After}
use Rattle.oss_words.specs.declared.entry.EntryInfo.{EntryInfo}
use Rattle.oss_field.specs.Folding.{Folded}
use Rattle.oss_field.specs.Hanging.{Linked, NamesLast, StandsToLink}
use Rattle.oss_field.specs.Known.{Holding, Known}
use Rattle.oss_field.specs.Linking.{IsEntryFor}
use Rattle.oss_field.specs.Making.{HasBegun}
use Rattle.oss_field.specs.Messages.{Delivered}
use Rattle.oss_field.specs.Moves.{with_body}
use Rattle.oss_field.specs.Owning.{entry_of}

-- The info is that of an entry of the new task of this number, which the job creates.
pub record IsInfoFor (code : CodeParts) (h : Holding) (order : Order CodeScript) (t e : ℕ) (i : EntryInfo) (cell : Option ℕ) : Type 0 where
  pub task : i.task ≡ t
  pub entry : IsEntryFor code h order e i cell
  pub inside : (c : ℕ) → cell ≡ Some c → c < length code.first
  pub depth : i.depth ≡ suc h.body.start.context.depth
  pub of_main : h.number ≡ 0 → i.parent ≡ 0
  pub of_task : h.number ≢ 0 → i.parent ≡ entry_of h cell

-- A seat that has filled the count of a new task, and holds no message, stands to link each of the task's entries.
abbrev pub BegunMayLink : Type 0
BegunMayLink = (code : CodeParts) (n : ℕ) (job : Job) (t count : ℕ) (k l : Known) (b : HasBegun code n job t count k l) → k.words.held ≡ []
    → (e : ℕ) (i : EntryInfo) (cell : Option ℕ) (after : After)
    → IsInfoFor code (with_body b.may.before.body b.may.before.holding) b.may.order t e i cell
    → NamesLast (with_body b.may.before.body b.may.before.holding) cell i.parent after
    → StandsToLink code job e i cell after l

-- What a seat knows of the tasks that it makes has not changed.
pub record IsMakingStill (k l : Known) : Type 0 where
  pub bears : l.bears ≡ k.bears
  pub makes : l.makes ≡ k.makes
  pub plans : l.plans ≡ k.plans
  pub unlinked : l.unlinked ≡ k.unlinked

-- After the link of one entry it stands to link another as before, once it holds no message: whatever it has done meanwhile, if that has changed nothing of what it makes.
abbrev pub OthersMayLink : Type 0
OthersMayLink = (code : CodeParts) (job : Job) (e d : ℕ) (i j : EntryInfo) (cell : Option ℕ) (after before : After) (k l m : Known)
    → StandsToLink code job e i cell after k → Linked d j before k l → e ≢ d → IsMakingStill l m → m.words.held ≡ [] → StandsToLink code job e i cell after m

-- A message that is delivered changes nothing of that, and neither does a fold.
abbrev pub DeliveriesKeepMaking : Type 0
DeliveriesKeepMaking = (k l : Known) (result : Option ℕ) → Delivered k l result → IsMakingStill k l

abbrev pub FoldsKeepMaking : Type 0
FoldsKeepMaking = (e : ℕ) (k l : Known) → Folded e k l → IsMakingStill k l
