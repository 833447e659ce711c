-- The link of an entry of a new task: what the call asks, what its step on another entry tells, and what the seat knows after it.
-- Read against: main has made 1 with a write of cell 4, whose entries are 1 and 2, and makes 3 with a read of it, whose entries are 3 and 4. The last child of main on cell 4 is 2, so 4 goes behind
-- 2: its info word is written, which tells a strong read of depth 1 below 0 of task 3, and 4 as the number of its cell; and 64 + 65536 * 4 is added to the state word of 2. That was 39, since 2
-- began a list of main, and is 262247. The task 1 has not given up the cell, so 4 is told nothing yet. When 1 makes 5 with a read of cell 4, whose entry there is 6, then 6 is its first
-- child there: 6 has nothing before it, and 128 + 1099511627776 * 6 is added to the state word of 2. It may read then, since 2 may.
use Rattle.std.specs.Prelude.{◌≡◌, ◌≢◌, ◌<◌, ◌+◌, ℕ, List, [], Option, Some, None}
use Rattle.oss_code.specs.declared.code.CodeParts.{CodeParts}
use Rattle.oss_jobs.specs.declared.job.Job.{Job}
use Rattle.oss_jobs.specs.Jobs.{IsJob}
use Rattle.oss_words.specs.declared.entry.After.{After}
use Rattle.oss_words.specs.declared.entry.After.TheVariants.{FirstOf, FirstOfMain, Sibling}
use Rattle.oss_words.specs.declared.entry.EntryInfo.{EntryInfo}
use Rattle.oss_words.specs.declared.message.Message.{Message}
use Rattle.oss_words.specs.Bits.{info_at, state_at}
use Rattle.oss_words.specs.Causes.{sent}
use Rattle.oss_words.specs.Steps.{no_flags}
use Rattle.oss_words.specs.Views.{Among}
use Rattle.oss_roles.specs.Roles.{Site}
use Rattle.oss_field.specs.Heard.{Told}
use Rattle.oss_field.specs.Known.{Holding, Known, last_of}
use Rattle.oss_field.specs.Layout.{state_word_of}
use Rattle.oss_field.specs.Linking.{IsFresh, MayLink, clear_alone, unlinked_beside}
use Rattle.oss_field.specs.Masks.{child_mask, next_mask}
use Rattle.oss_field.specs.Messages.{Bounded}
use Rattle.oss_field.specs.Moves.{touched}
use Rattle.oss_field.specs.Owning.{site_of}

-- What names the last child of the creator there: it is main and has none, it is another and has none, so that its own entry there, p, gets its first child, or it has this one.
abbrev pub NamesLast : Holding → Option ℕ → ℕ → After → Type 0
NamesLast h cell p FirstOfMain = (h.number ≡ 0) × (last_of h (site_of cell) ≡ None)
NamesLast h cell p (FirstOf q) = (h.number ≢ 0) × (last_of h (site_of cell) ≡ None) × (q ≡ p)
NamesLast h cell p (Sibling o) = last_of h (site_of cell) ≡ Some o

-- The seat may link the entry there: no word of it was written, the seat holds no message, and this is the job of its creator, whatever was noted in it.
pub record StandsToLink (code : CodeParts) (job : Job) (e : ℕ) (i : EntryInfo) (cell : Option ℕ) (after : After) (k : Known) : Type 0 where
  pub may : MayLink code e i cell k
  pub fresh : IsFresh i.task e None None k
  pub names : NamesLast may.holding cell i.parent after
  pub empty : k.words.held ≡ []
  pub last : Site → Option ℕ
  pub is : IsJob code may.holding.before job may.holding.number may.holding.body last

-- Once its words are written, it may be set behind the entry o, whose info word is w.
pub record MayFollow (code : CodeParts) (e o w : ℕ) (i : EntryInfo) (cell : Option ℕ) (k : Known) : Type 0 where
  pub may : MayLink code e i cell k
  pub loose : Among (record { task = i.task; entry = e; state = no_flags; info = Some i; cell = cell }) k.unlinked
  pub last : last_of may.holding (site_of cell) ≡ Some o
  pub told : Among (record { entry = o; info = info_at w }) k.told
  pub empty : k.words.held ≡ []
  pub whole : k.words.half ≡ []

-- And it may be made the first child of its parent, whose info word is w, if its state word tells that it has nothing before it.
pub record MayHead (code : CodeParts) (e w : ℕ) (i : EntryInfo) (cell : Option ℕ) (k : Known) : Type 0 where
  pub may : MayLink code e i cell k
  pub loose : Among (record { task = i.task; entry = e; state = clear_alone; info = Some i; cell = cell }) k.unlinked
  pub below_main : may.holding.number ≢ 0
  pub none : last_of may.holding (site_of cell) ≡ None
  pub told : Among (record { entry = i.parent; info = info_at w }) k.told
  pub empty : k.words.held ≡ []
  pub whole : k.words.half ≡ []

-- The entry e was linked by an addition to the state word of the entry o, which was n and whose info word is w: what that completes is held.
abbrev pub linked_at : ℕ → ℕ → ℕ → ℕ → ℕ → ℕ → Known → Known
linked_at m e o w by n k = touched (state_word_of m o) n (record k { words = record k.words { held = sent o (state_at n) (state_at (n + by)) (info_at w) }; unlinked = unlinked_beside e k.unlinked })

-- What the step tells, in a field of n entries and m cells.
pub record LinksAt (n m e o w by found : ℕ) (k l : Known) : Type 0 where
  pub known : l ≡ linked_at m e o w by found k
  pub bounded : Bounded n l
  pub fits : found + by < 18446744073709551616

-- What a link leaves held: nothing if the entry begins a list of main; else what was completed in the state word of the parent, or of the sibling, which the step found to be this.
abbrev pub LinkSends : Known → ℕ → EntryInfo → List Message → After → Type 0
LinkSends k e i held FirstOfMain = held ≡ []
LinkSends k e i held (FirstOf p) = (w : ℕ) × (found : ℕ) × Among (record { entry = p; info = info_at w }) k.told × (held ≡ sent p (state_at found) (state_at (found + child_mask e (info_at w).mode i.mode)) (info_at w))
LinkSends k e i held (Sibling o) = (w : ℕ) × (found : ℕ) × Among (record { entry = o; info = info_at w }) k.told × (held ≡ sent o (state_at found) (state_at (found + next_mask e (info_at w).mode i.mode)) (info_at w))

-- After a link: the entry is none of those that are not linked, and what the link completed is held.
pub record Linked (e : ℕ) (i : EntryInfo) (after : After) (a b : Known) : Type 0 where
  pub held : List Message
  pub sends : LinkSends b e i held after
  pub known : b ≡ record a { words = record a.words { held = held }; unlinked = unlinked_beside e a.unlinked; told = b.told; word = b.word; found = b.found }
  pub kept : (t : Told) → Among t a.told → Among t b.told
