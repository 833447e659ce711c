-- What steps do by which a task is made, from the fill of its count to the count down that opens it.
-- Read against: main makes the task 7 of `Roles`, whose entry 8 counts. The fill of its count gives 7, 8 and 9 their roles and writes 2. Then the
-- words of each entry are filled, and it is linked: 7 behind main's last child on itself, 8 behind the last one on cell 4, and 9, the first on
-- cell 5, by its last fill. Two steps put the new job in its slot. The count down makes the count 1, and main's last children are 7, 8 and 9.
use Rattle.std.specs.Prelude.{◌≡◌, ◌≢◌, ◌⊎◌, ◌<◌, ◌+◌, ℕ, Bool, true, false, List, [], ◌∷◌, set, Option, Some, None}
use Rattle.oss_syntax.specs.declared.access.Mode.{Mode}
use Rattle.oss_model.specs.Bodies.{Order, Program, Start}
use Rattle.oss_model.specs.Bodies.Act.{Created}
use Rattle.oss_model.specs.Context.{right_of}
use Rattle.oss_model.specs.Moves.{act_now, created_now, new_task}
use Rattle.oss_model.specs.Rights.{Holds}
use Rattle.oss_words.specs.declared.entry.EntryState.{EntryState}
use Rattle.oss_words.specs.declared.entry.EntryInfo.{EntryInfo}
use Rattle.oss_words.specs.Net.{Net, apart, first as first_place, after}
use Rattle.oss_words.specs.Steps.{Fills, Begun, Links}
use Rattle.oss_words.specs.Sums.{below}
use Rattle.oss_words.specs.Views.{Among}
use Rattle.oss_roles.specs.Alone.{with_answer}
use Rattle.oss_roles.specs.Counting.{stands, weight}
use Rattle.oss_roles.specs.Field.{Field, Parts, Sits, Bears}
use Rattle.oss_roles.specs.Numbers.{entry_number}
use Rattle.oss_roles.specs.Roles.{Role, Site, on, Filed, Plans}
use Rattle.oss_roles.specs.Sights.{Bearing, Making, Sight, Telling}
use Rattle.oss_roles.specs.Steps.{SameJobs, SameButMade}

module _ {S J : Type 0} {P : Program S} {main : Start S} {first : List ℕ} {is_job : Telling S J} {n : ℕ} {k : Parts J}
    {sights : List (Sight S)} (f : Field P main first is_job n k sights) where
  -- Words of an entry that hangs nowhere are filled. If its flags are filled, it is none for which a count waits.
  pub record FillsEntry (e : ℕ) (states' : ℕ → EntryState) (infos' : ℕ → EntryInfo) (cell_of' : ℕ → ℕ) : Type 0 where
    pub fills : Fills n f.net k.states states' k.infos infos' e
    pub cells : (j : ℕ) → j ≢ e → cell_of' j ≡ k.cell_of j
    pub flags : (((states' e).reads ≡ (k.states e).reads) × ((states' e).writes ≡ (k.states e).writes))
        ⊎ ((r : Role) → f.role e ≡ Some r → r.counts ≡ false)

  module _ (id : ℕ) (v w : Sight S) where
    -- The count of a new task is filled, and its entries have their roles from then on: its own, and one for each cell of its context. The job
    -- of b at this place, which the seat holds, stands before the creation.
    pub record PlansTask (i : ℕ) (b : Bearing S) (order : Order S) (t : ℕ) (role' : ℕ → Option Role) (m : Making) (counts' : ℕ → ℕ)
        : Type 0 where
      pub sits : Sits sights id v
      pub has : Bears v i b
      pub act : act_now P b.body ≡ Created order false
      pub plans : Plans f.net f.role role' t (created_now P b.body ∷ b.path)
      pub inside : (e : ℕ) (r : Role) → role' e ≡ Some r → e < n
      pub access : (c : ℕ) (mode : Mode) (strong : Bool) → right_of (new_task P b.body order).body.start.context c ≡ Holds mode strong
          → (e : ℕ) × (r : Role) × (role' e ≡ Some r) × (r.path ≡ created_now P b.body ∷ b.path) × (r.site ≡ on c) × (r.task ≡ t)
          × (r.mode ≡ mode) × (r.strong ≡ strong) × (e ≡ entry_number t (right_of (new_task P b.body order).body.start.context) c)
      pub strongly : (e : ℕ) (r : Role) → role' e ≡ Some r → r.path ≡ created_now P b.body ∷ b.path → r.counts ≡ true → r.strong ≡ true
      pub by : b.number ≡ m.by
      pub task : m.task ≡ t
      pub stage : m.stage ≡ 0
      pub filled : counts' t ≡ 1 + below (λ e. weight t (role' e) (k.states e)) n
      pub others : (j : ℕ) → j ≢ t → counts' j ≡ k.counts j
      pub bears : w.bears ≡ v.bears
      pub makes : w.makes ≡ m ∷ v.makes
      pub same : SameButMade v w

    -- Where an entry of a new task is hung up: behind the last child of its creator on its site, as the first below the creator's own entry
    -- there, or as the first of main, by its last fill.
    pub data IsLinked (b : Bearing S) (e : ℕ) (r : Role) (net' : Net) (states' : ℕ → EntryState) : Type 0 where
      after_last : (o : ℕ) → b.last r.site ≡ Some o → net'.place e ≡ after o
          → Links n f.net net' k.states states' k.infos o e v.words w.words → IsLinked b e r net' states'
      below_creator : (up : Filed f.net f.role b.path r.site) → b.last r.site ≡ None → net'.place e ≡ first_place up.entry
          → Links n f.net net' k.states states' k.infos up.entry e v.words w.words → IsLinked b e r net' states'
      begins_list : b.path ≡ [] → b.last r.site ≡ None → Begun n f.net net' k.states k.infos e → states' ≡ k.states
          → w.words.held ≡ v.words.held → w.words.half ≡ v.words.half → IsLinked b e r net' states'

    -- An entry of a new task is linked, by the seat that makes the task and holds the job of b.
    pub record LinksEntry (i : ℕ) (b : Bearing S) (m : Making) (e : ℕ) (r : Role) (net' : Net) (states' : ℕ → EntryState) : Type 0 where
      pub sits : Sits sights id v
      pub has : Bears v i b
      pub by : b.number ≡ m.by
      pub among : Among m v.makes
      pub is : f.role e ≡ Some r
      pub task : r.task ≡ m.task
      pub linked : IsLinked b e r net' states'
      pub told : (net'.mode e ≡ r.mode) × ((k.infos e).strong ≡ r.strong) × ((k.infos e).task ≡ r.task)
      pub starts : r.counts ≡ false → r.strong ≡ true → stands r.mode (states' e) ≡ true
      pub cell : (c : ℕ) → r.site ≡ on c → k.cell_of e ≡ c
      pub same : SameJobs v w
      pub owes : w.owes ≡ v.owes

    -- The last child of the creator on a site, once the task of this number is made: the new task's entry there, or the one before.
    abbrev pub MovesLast : ℕ → Bearing S → Bearing S → Site → Type 0
    MovesLast t b c y =
        ((o : ℕ) × (r : Role) × (f.role o ≡ Some r) × (r.task ≡ t) × (r.site ≡ y) × (c.last y ≡ Some o))
        ⊎ (((o : ℕ) (r : Role) → f.role o ≡ Some r → r.task ≡ t → r.site ≢ y) × (c.last y ≡ b.last y))

    -- The count down that opens a task: its job stands in its slot, and all its entries are linked. The seat makes it no more, and the body
    -- of its creator has the answer of the creation.
    pub record OpensTask (i : ℕ) (b c : Bearing S) (m : Making) (counts' : ℕ → ℕ) : Type 0 where
      pub sits : Sits sights id v
      pub has : Bears v i b
      pub by : b.number ≡ m.by
      pub among : Among m v.makes
      pub put : m.stage ≡ 2
      pub hung : (e : ℕ) (r : Role) → f.role e ≡ Some r → r.task ≡ m.task → f.net.place e ≢ apart
      pub down : counts' m.task + 1 ≡ k.counts m.task
      pub others : (j : ℕ) → j ≢ m.task → counts' j ≡ k.counts j
      pub bears : w.bears ≡ set v.bears i c
      pub number : c.number ≡ b.number
      pub path : c.path ≡ b.path
      pub body : c.body ≡ with_answer 0 b.body
      pub last : (y : Site) → MovesLast m.task b c y
      pub makes : (a : Making) → Among a w.makes → Among a v.makes × (a.task ≢ m.task)
      pub kept : (a : Making) → Among a v.makes → a.task ≢ m.task → Among a w.makes
      pub same : SameButMade v w
