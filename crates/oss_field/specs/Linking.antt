-- The links of the entries of a new task: what is written of an entry before it hangs, what a link asks of its seat, and how an entry begins a list of main.
-- Read against: main makes its first child, 1, which has no cells. Entry 1 is the task's own and begins a list of main: its info word is written, which tells a weak
-- read of depth 1 of task 1, and then its state word, 39: it may read, fold and write, and has nothing before it. From then on no entry of 1 is left that is not linked.
use Rattle.std.specs.Prelude.{◌≡◌, ◌≢◌, ◌==◌, ℕ, suc, true, false, cond, List, [], ◌∷◌, Option, Some, None}
use mathlib.Core.Option as maybe
use lib.ListN.{get_elem?}
use Rattle.oss_code.specs.declared.code.CodeParts.{CodeParts}
use Rattle.oss_machine.specs.Frames.{CodeScript}
use Rattle.oss_machine.specs.Machines.{asks}
use Rattle.oss_model.specs.Bodies.{Order}
use Rattle.oss_model.specs.Bodies.Act.{Created}
use Rattle.oss_model.specs.Moves.{act_now}
use Rattle.oss_model.specs.Rights.{Holds}
use Rattle.oss_syntax.specs.declared.access.Mode.TheVariants.{Read}
use Rattle.oss_words.specs.declared.entry.EntryInfo.{EntryInfo}
use Rattle.oss_words.specs.declared.entry.EntryState.{EntryState}
use Rattle.oss_words.specs.Bits.{info_at}
use Rattle.oss_words.specs.Steps.{no_flags}
use Rattle.oss_words.specs.Views.{Among}
use Rattle.oss_roles.specs.Numbers.{entry_number}
use Rattle.oss_field.specs.Drawing.{IsAbove}
use Rattle.oss_field.specs.Known.{Holding, Known, Unlinked, last_of}
use Rattle.oss_field.specs.Layout.{info_word_of, number_word_of, state_word_of}
use Rattle.oss_field.specs.Moves.{touched}
use Rattle.oss_field.specs.Owning.{entry_of, site_of}
use Rattle.oss_field.specs.Plans.{new_rights}

-- The state of an entry which begins a list of main, and of one which has nothing before it and no other flag.
abbrev pub all_open : EntryState
all_open = record no_flags { reads = true; folds = true; writes = true; clear = true }

abbrev pub clear_alone : EntryState
clear_alone = record no_flags { clear = true }

-- What is written of an entry before it hangs

-- Of the entries that are not linked, this one is changed.
abbrev pub refill : (Unlinked → Unlinked) → ℕ → List Unlinked → List Unlinked
refill up e [] = []
refill up e (z ∷ zs) = cond (z.entry == e) (up z) z ∷ refill up e zs

-- Its info word was written, the number of its cell, and its state.
abbrev pub with_info : EntryInfo → Unlinked → Unlinked
with_info i z = record z { info = Some i }

abbrev pub with_cell : ℕ → Unlinked → Unlinked
with_cell c z = record z { cell = Some c }

abbrev pub with_state : EntryState → Unlinked → Unlinked
with_state c z = record z { state = c }

-- They are without it.
abbrev pub unlinked_beside : ℕ → List Unlinked → List Unlinked
unlinked_beside e [] = []
unlinked_beside e (z ∷ zs) = cond (z.entry == e) (unlinked_beside e zs) (z ∷ unlinked_beside e zs)

-- What a seat knows once it has written the info word of a new entry, in a field of m cells; once it has written the number of its cell; once it has written its state word, if
-- the entry is to be a first child; and once the entry has begun a list of main.
abbrev pub told_info : ℕ → ℕ → ℕ → Known → Known
told_info m e word k = touched (info_word_of m e) word (record k { unlinked = refill (with_info (info_at word)) e k.unlinked })

abbrev pub told_cell : ℕ → ℕ → ℕ → Known → Known
told_cell m e c k = touched (number_word_of m e) c (record k { unlinked = refill (with_cell c) e k.unlinked })

abbrev pub told_cell_of : ℕ → ℕ → Option ℕ → Known → Known
told_cell_of m e None k = k
told_cell_of m e (Some c) k = told_cell m e c k

abbrev pub told_clear : ℕ → ℕ → Known → Known
told_clear m e k = touched (state_word_of m e) 32 (record k { unlinked = refill (with_state clear_alone) e k.unlinked })

abbrev pub began_list : ℕ → ℕ → Known → Known
began_list m e k = touched (state_word_of m e) 39 (record k { unlinked = unlinked_beside e k.unlinked })

-- What a link asks

-- The entry is one of the task that the job creates, and its info is that of the task's access there: it is the task's own, or that on a cell to which the task has a right.
pub data IsEntryFor (code : CodeParts) (h : Holding) (order : Order CodeScript) (e : ℕ) (i : EntryInfo) : Option ℕ → Type 0 where
  own_entry : e ≡ i.task → i.mode ≡ Read → i.strong ≡ false → IsEntryFor code h order e i None
  cell_entry : (c : ℕ) → new_rights code h.body order c ≡ Holds i.mode i.strong → e ≡ entry_number i.task (new_rights code h.body order) c → IsEntryFor code h order e i (Some c)

-- The seat may link the entry, of which its info word is to tell this: it is making the entry's task by a job that it holds, and which stands before the creation. The entry lies one deeper
-- than the creator, and below the creator's entry there, which is 0 for main. The task's number is above the creator's and its last children, as the draw has told.
pub record MayLink (code : CodeParts) (e : ℕ) (i : EntryInfo) (cell : Option ℕ) (k : Known) : Type 0 where
  pub place : ℕ
  pub holding : Holding
  pub order : Order CodeScript
  pub stage : ℕ
  pub holds : get_elem? k.bears place ≡ maybe.some holding
  pub act : act_now (asks code) holding.body ≡ Created order false
  pub among : Among (record { by = holding.number; task = i.task; stage = stage }) k.makes
  pub plan : Among (record { task = i.task; holding = holding; order = order }) k.plans
  pub entry : IsEntryFor code holding order e i cell
  pub depth : i.depth ≡ suc holding.body.start.context.depth
  pub of_main : holding.number ≡ 0 → i.parent ≡ 0
  pub of_task : holding.number ≢ 0 → i.parent ≡ entry_of holding cell
  pub above : IsAbove i.task holding

-- The entry is one of a task that the seat is making, it is not linked, and nothing but what is told here was written of it.
abbrev pub IsFresh : ℕ → ℕ → Option EntryInfo → Option ℕ → Known → Type 0
IsFresh task e info cell k = Among (record { task = task; entry = e; state = no_flags; info = info; cell = cell }) k.unlinked

-- A list of main

-- The seat may let the entry begin a list of main, whose info word was written, and the word for its cell, if it is that of one: its creator is main, which has no child there.
pub record MayBeginList (code : CodeParts) (e : ℕ) (i : EntryInfo) (cell : Option ℕ) (k : Known) : Type 0 where
  pub may : MayLink code e i cell k
  pub loose : Among (record { task = i.task; entry = e; state = no_flags; info = Some i; cell = cell }) k.unlinked
  pub main : may.holding.number ≡ 0
  pub none : last_of may.holding (site_of cell) ≡ None

-- The same before a word of it was written.
pub record MayLinkFirst (code : CodeParts) (e : ℕ) (i : EntryInfo) (cell : Option ℕ) (k : Known) : Type 0 where
  pub may : MayLink code e i cell k
  pub fresh : IsFresh i.task e None None k
  pub main : may.holding.number ≡ 0
  pub none : last_of may.holding (site_of cell) ≡ None

-- What it knows after it.
abbrev pub linked_first : ℕ → ℕ → Known → Known
linked_first m e k = began_list m e k
