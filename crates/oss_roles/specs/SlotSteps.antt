-- What steps do that take a job out of its slot or put it there.
-- Read against: the count of task 7 was read and was 0, and its job stands in slot 7, whose word is 1. The seat exchanges 1 for 2, takes the
-- job out and bears 7 from then on. Later it stores 1, and the job stands in the slot again. The slot of a task that is being made goes from
-- 0 to 2 when its seat takes hold of it, and from 2 to 1 when its first job stands there.
use Rattle.std.specs.Prelude.{◌≡◌, ◌≢◌, ◌⊎◌, ℕ, false, List, ◌∷◌, set, Option, Some, None}
use Rattle.oss_model.specs.Bodies.{Order, Program, Start}
use Rattle.oss_model.specs.Bodies.Act.{Created}
use Rattle.oss_model.specs.Moves.{act_now, new_task}
use Rattle.oss_words.specs.Views.{Among}
use Rattle.oss_roles.specs.Field.{Field, FieldAt, Parts, Sits, Bears, IsPut}
use Rattle.oss_roles.specs.Roles.{Role}
use Rattle.oss_roles.specs.Sights.{Bearing, Making, Fixed, Sight, Telling}
use Rattle.oss_roles.specs.Steps.{SameBeside, SameButMade, OthersLoaded}

module _ {S J : Type 0} {P : Program S} {main : Start S} {first : List ℕ} {is_job : Telling S J} {n : ℕ} {k : Parts J}
    {sights : List (Sight S)} (f : Field P main first is_job n k sights) (id : ℕ) (v : Sight S) where
  -- The word of a slot goes from 1 to 2, and what stood there is out with the seat, which had found that the task's count is 0.
  pub record Takes (t : ℕ) (bodies' : ℕ → ℕ) (jobs' : ℕ → Option J) : Type 0 where
    pub sits : Sits sights id v
    pub found : Among t v.ready
    pub one : k.bodies t ≡ 1
    pub out : bodies' t ≡ 2
    pub empty : jobs' t ≡ None
    pub other_bodies : (j : ℕ) → j ≢ t → bodies' j ≡ k.bodies j
    pub other_jobs : (j : ℕ) → j ≢ t → jobs' j ≡ k.jobs j

  -- What was taken is the job of the task, which the seat bears from then on, whatever else of its view stays as it was.
  pub record Taken (t : ℕ) (bodies' : ℕ → ℕ) (jobs' : ℕ → Option J) : Type 0 where
    pub job : J
    pub bearing : Bearing S
    pub number : bearing.number ≡ t
    pub stood : k.jobs t ≡ Some job
    pub is : is_job job t bearing.body bearing.last
    pub keeps : (w : Sight S) → SameBeside v w → w.bears ≡ bearing ∷ v.bears → w.loaded ≡ v.loaded → w.still ≡ v.still
        → FieldAt P main first is_job n f.net f.gave f.role (record k { bodies = bodies'; jobs = jobs' }) (set sights id w)

  -- The job that the seat took last stands in its slot again. The seat makes no task by it, and keeps nothing that it loaded or read for it.
  pub record Puts (w : Sight S) (d : Bearing S) (job : J) (bodies' : ℕ → ℕ) (jobs' : ℕ → Option J) : Type 0 where
    pub sits : Sits sights id v
    pub same : SameBeside v w
    pub bears : v.bears ≡ d ∷ w.bears
    pub is : is_job job d.number d.body d.last
    pub home : bodies' d.number ≡ 1
    pub full : jobs' d.number ≡ Some job
    pub other_bodies : (j : ℕ) → j ≢ d.number → bodies' j ≡ k.bodies j
    pub other_jobs : (j : ℕ) → j ≢ d.number → jobs' j ≡ k.jobs j
    pub makes : (a : Making) → Among a v.makes → a.by ≢ d.number
    pub loaded : OthersLoaded v w d.number
    pub still : (y : Fixed) → Among y w.still → Among y v.still × ((r : Role) → f.role y.entry ≡ Some r → r.path ≢ d.path)

  -- A step of the first put of a task that the seat makes, by the job of b at this place: the empty slot is taken hold of, or the new job
  -- stands in it.
  pub record FirstPuts (w : Sight S) (i : ℕ) (b : Bearing S) (order : Order S) (m m' : Making) (bodies' : ℕ → ℕ) (jobs' : ℕ → Option J)
      : Type 0 where
    pub sits : Sits sights id v
    pub has : Bears v i b
    pub by : b.number ≡ m.by
    pub act : act_now P b.body ≡ Created order false
    pub among : Among m v.makes
    pub among_now : Among m' w.makes
    pub task : m'.task ≡ m.task
    pub maker : m'.by ≡ m.by
    pub others : (a : Making) → Among a w.makes → (a ≡ m') ⊎ (Among a v.makes × (a.task ≢ m.task))
    pub kept : (a : Making) → Among a v.makes → (y : Making) × Among y w.makes × (y.task ≡ a.task)
    pub other_bodies : (j : ℕ) → j ≢ m.task → bodies' j ≡ k.bodies j
    pub other_jobs : (j : ℕ) → j ≢ m.task → jobs' j ≡ k.jobs j
    pub put : IsPut is_job (record k { bodies = bodies'; jobs = jobs' }) m' (new_task P b.body order).body
    pub bears : w.bears ≡ v.bears
    pub same : SameButMade v w
