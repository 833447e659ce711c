-- What a step leaves of what its seat knows.
-- Read against: the load of 5 by task 7: the body that the seat bears for 7 has 5 in front of what it found, and nothing else of the bearing
-- is new. A count down leaves all but what the seat owes, and a read of a count all but the tasks that are known to be ready.
use Rattle.std.specs.Prelude.{◌≡◌, ◌≢◌, ℕ, set}
use Rattle.oss_words.specs.Views.{Among}
use Rattle.oss_roles.specs.Field.{Bears}
use Rattle.oss_roles.specs.Sights.{Bearing, Noted, Sight}

-- The seat's job at this place has gone on; it holds the same jobs as before, and makes the same tasks.
pub record JobGoes {S : Type 0} (v w : Sight S) (i : ℕ) (b c : Bearing S) : Type 0 where
  pub has : Bears v i b
  pub bears : w.bears ≡ set v.bears i c
  pub number : c.number ≡ b.number
  pub path : c.path ≡ b.path
  pub last : c.last ≡ b.last
  pub start : c.body.start ≡ b.body.start
  pub makes : w.makes ≡ v.makes
  pub ready : w.ready ≡ v.ready
  pub joined : w.joined ≡ v.joined

-- What it holds of the words, owes and has read is as before.
pub record SameReads {S : Type 0} (v w : Sight S) : Type 0 where
  pub words : w.words ≡ v.words
  pub owes : w.owes ≡ v.owes
  pub seen : w.seen ≡ v.seen
  pub still : w.still ≡ v.still

-- It knows the same of jobs.
pub record SameJobs {S : Type 0} (v w : Sight S) : Type 0 where
  pub bears : w.bears ≡ v.bears
  pub makes : w.makes ≡ v.makes
  pub ready : w.ready ≡ v.ready
  pub loaded : w.loaded ≡ v.loaded
  pub joined : w.joined ≡ v.joined
  pub seen : w.seen ≡ v.seen
  pub still : w.still ≡ v.still

-- It knows the same of all but the jobs that it holds, and what it keeps with them.
pub record SameBeside {S : Type 0} (v w : Sight S) : Type 0 where
  pub words : w.words ≡ v.words
  pub makes : w.makes ≡ v.makes
  pub ready : w.ready ≡ v.ready
  pub joined : w.joined ≡ v.joined
  pub owes : w.owes ≡ v.owes
  pub seen : w.seen ≡ v.seen

-- It knows the same of all but what it reads.
pub record SameButRead {S : Type 0} (v w : Sight S) : Type 0 where
  pub words : w.words ≡ v.words
  pub bears : w.bears ≡ v.bears
  pub makes : w.makes ≡ v.makes
  pub loaded : w.loaded ≡ v.loaded
  pub joined : w.joined ≡ v.joined
  pub owes : w.owes ≡ v.owes

-- It knows the same of all but the tasks that it makes, and the jobs that make them.
pub record SameButMade {S : Type 0} (v w : Sight S) : Type 0 where
  pub words : w.words ≡ v.words
  pub owes : w.owes ≡ v.owes
  pub joined : w.joined ≡ v.joined
  pub ready : w.ready ≡ v.ready
  pub loaded : w.loaded ≡ v.loaded
  pub seen : w.seen ≡ v.seen
  pub still : w.still ≡ v.still

-- What loads of folds have found is kept for other jobs alone.
abbrev pub OthersLoaded : {S : Type 0} → Sight S → Sight S → ℕ → Type 0
OthersLoaded v w t = (y : Noted) → Among y w.loaded → Among y v.loaded × (y.name ≢ t)
