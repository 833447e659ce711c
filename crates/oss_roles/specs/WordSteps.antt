-- What steps do that no job is needed for: reads, deliveries, count downs, joins, and what seats do among themselves.
-- Read against: the first task on cell 4 gives it up, and its seat holds (8, 3), reads of the entry 8 of task 7. The delivery sets reads of 8;
-- 8 is strong and a read, so the seat owes a count down of 7. The count down makes the count 0, a read finds that, and 7 is known to be ready.
-- A join: the value 6 was left in entry 14 for a + of cell 5, and its message (14, 0) is held. The cell is 6 more; then 14 is given up.
use Rattle.std.specs.Prelude.{◌≡◌, ◌≢◌, ◌⊎◌, ◌<◌, ◌+◌, ◌==◌, ℕ, Bool, true, false, List, [], ◌∷◌, Some, None}
use Rattle.oss_syntax.specs.declared.access.Mode.TheVariants.{Fold}
use Rattle.oss_syntax.specs.declared.access.Op.{Op}
use Rattle.oss_model.specs.Bodies.{Program, Start}
use Rattle.oss_words.specs.declared.entry.EntryState.{EntryState}
use Rattle.oss_words.specs.declared.message.Message.{Message}
use Rattle.oss_words.specs.Members.{Has}
use Rattle.oss_words.specs.Steps.{Delivers, Rises, JoinsGives, JoinsBegins, GivesUp}
use Rattle.oss_words.specs.Sums.{num}
use Rattle.oss_words.specs.Views.{Seen, Among}
use Rattle.oss_roles.specs.Counting.{owing}
use Rattle.oss_roles.specs.Field.{Field, Parts, Sits, Bears, times}
use Rattle.oss_roles.specs.Roles.{Role}
use Rattle.oss_roles.specs.Sights.{Bearing, Noted, Fixed, Sight, Telling}
use Rattle.oss_roles.specs.Steps.{SameJobs, SameButRead}

-- A view that holds nothing and knows nothing of jobs.
pub record IsEmpty {S : Type 0} (x : Sight S) : Type 0 where
  pub held : x.words.held ≡ []
  pub half : x.words.half ≡ []
  pub bears : x.bears ≡ []
  pub makes : x.makes ≡ []
  pub joined : x.joined ≡ []
  pub owes : x.owes ≡ []
  pub ready : x.ready ≡ []
  pub loaded : x.loaded ≡ []
  pub seen : x.seen ≡ []
  pub still : x.still ≡ []

-- What a seat holds is as before, and of what it has read it knows the same or less: as after a draw, or if a seat is split off or joined.
pub record HoldsAsBefore {S : Type 0} (v w : Sight S) : Type 0 where
  pub held : w.words.held ≡ v.words.held
  pub half : w.words.half ≡ v.words.half
  pub bears : w.bears ≡ v.bears
  pub makes : w.makes ≡ v.makes
  pub joined : w.joined ≡ v.joined
  pub owes : w.owes ≡ v.owes
  pub ready : (t : ℕ) → Among t w.ready → Among t v.ready
  pub loaded : (y : Noted) → Among y w.loaded → Among y v.loaded
  pub seen : (y : Seen) → Among y w.seen → Among y v.seen
  pub still : (y : Fixed) → Among y w.still → Among y v.still

-- All is as before, but that the seat has joined the value of this entry.
pub record JoinsOne {S : Type 0} (v w : Sight S) (e : ℕ) : Type 0 where
  pub bears : w.bears ≡ v.bears
  pub makes : w.makes ≡ v.makes
  pub words : w.words ≡ v.words
  pub owes : w.owes ≡ v.owes
  pub ready : w.ready ≡ v.ready
  pub loaded : w.loaded ≡ v.loaded
  pub seen : w.seen ≡ v.seen
  pub still : w.still ≡ v.still
  pub joined : w.joined ≡ e ∷ v.joined

module _ {S J : Type 0} {P : Program S} {main : Start S} {first : List ℕ} {is_job : Telling S J} {n : ℕ} {k : Parts J}
    {sights : List (Sight S)} (f : Field P main first is_job n k sights) (id : ℕ) (v w : Sight S) where
  -- A count was read, and it is 0.
  pub record ReadsCount (t : ℕ) : Type 0 where
    pub sits : Sits sights id v
    pub inside : t < n
    pub spent : k.counts t ≡ 0
    pub ready : w.ready ≡ t ∷ v.ready
    pub seen : w.seen ≡ v.seen
    pub still : w.still ≡ v.still
    pub same : SameButRead v w

  -- The word of an entry was read, of a job that the seat holds or of another.
  pub record ReadsWord (e : ℕ) : Type 0 where
    pub sits : Sits sights id v
    pub ready : w.ready ≡ v.ready
    pub seen : w.seen ≡ record { entry = e; state = k.states e } ∷ v.seen
    pub still : (w.still ≡ v.still)
        ⊎ ((i : ℕ) × (b : Bearing S) × Bears v i b × (r : Role) × (f.role e ≡ Some r) × (r.path ≡ b.path)
        × (w.still ≡ record { entry = e; state = k.states e; value = None } ∷ v.still))
    pub same : SameButRead v w

  -- A flag is set. If its task's count waits for it, the seat owes a count down from then on.
  pub record DeliversFlag (m : Message) (rest : List Message) (states' : ℕ → EntryState) : Type 0 where
    pub sits : Sits sights id v
    pub word : Delivers f.net k.states states' k.infos m rest v.words w.words
    pub none : v.joined ≡ []
    pub owes : (t : ℕ) → times t w.owes ≡ times t v.owes + owing t (k.infos m.entry) m.flag
    pub same : SameJobs v w

  -- A count down that the seat owes.
  pub record CountsDown (t : ℕ) (counts' : ℕ → ℕ) : Type 0 where
    pub sits : Sits sights id v
    pub due : 0 < times t v.owes
    pub owes : (j : ℕ) → times j w.owes + num (j == t) ≡ times j v.owes
    pub down : counts' t + 1 ≡ k.counts t
    pub others : (j : ℕ) → j ≢ t → counts' j ≡ k.counts j
    pub words : w.words ≡ v.words
    pub same : SameJobs v w

  -- The second step of a give: the last child is linked to the entry that was given up.
  pub record LinksLast (e : ℕ) (states' : ℕ → EntryState) : Type 0 where
    pub sits : Sits sights id v
    pub word : Rises f.net k.states states' k.infos e v.words w.words
    pub unlinked : (k.states (f.net.last e)).linked ≡ false
    pub none : v.joined ≡ []
    pub owes : w.owes ≡ v.owes
    pub same : SameJobs v w

  -- The value that was left in an entry is joined into the cell, by the seat that holds the entry's join.
  pub record JoinsCell (e cell : ℕ) (op : Op) : Type 0 where
    pub sits : Sits sights id v
    pub held : Has (record { entry = e; flag = 0 }) v.words.held
    pub others : (z : ℕ) → Among z v.joined → z ≢ e
    pub number : k.cell_of e ≡ cell
    pub mode : (k.infos e).mode ≡ Fold op
    pub view : JoinsOne v w e

  -- How the word of an entry whose value was joined is given up: in one step, or in the first of two if the entry has children.
  pub data JoinsWord (e : ℕ) (states' : ℕ → EntryState) : Type 0 where
    joins_at_once : (rest : List Message) → JoinsGives f.net k.states states' k.infos e rest v.words w.words → JoinsWord e states'
    joins_begin : (rest : List Message) → (k.states e).headed ≡ true → JoinsBegins f.net k.states states' e rest v.words w.words
        → JoinsWord e states'

  -- The entry whose value was joined is given up.
  pub record GivesJoined (e : ℕ) (states' : ℕ → EntryState) (gave' : ℕ → Bool) : Type 0 where
    pub sits : Sits sights id v
    pub joined : v.joined ≡ e ∷ []
    pub none : w.joined ≡ []
    pub gives : GivesUp f.gave gave' e
    pub word : JoinsWord e states'
    pub owes : w.owes ≡ v.owes
    pub same : SameJobs v (record w { joined = v.joined })
