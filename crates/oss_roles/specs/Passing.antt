-- What a seat must have seen for a waiting act of a job that it holds.
-- Read against: main has created 7 and 9, whose own entries are 7 and 9, and stands before a taskwait. Its last child on itself is 9; if the
-- seat has seen clear and done on 9, both tasks are complete and the wait is passed. If 9 is done and not clear, 7 may still run.
use Rattle.std.specs.Prelude.{◌≡◌, ℕ, true, Some, None}
use Rattle.oss_model.specs.Bodies.{Program, Act, Body}
use Rattle.oss_model.specs.Bodies.Act.{Awaited, Waited, WaitedOn}
use Rattle.oss_model.specs.Context.{in_clauses}
use Rattle.oss_model.specs.Moves.{act_now}
use Rattle.oss_words.specs.Views.{Seen, Among}
use Rattle.oss_roles.specs.Alone.{IsOwnAct, with_answer}
use Rattle.oss_roles.specs.Roles.{Site, itself, on}
use Rattle.oss_roles.specs.Sights.{Bearing, Sight}

-- There is no child there, or all are done up to the last.
pub data AllDone {S : Type 0} (v : Sight S) (b : Bearing S) (y : Site) : Type 0 where
  no_child : b.last y ≡ None → AllDone v b y
  last_done : (x : Seen) → b.last y ≡ Some x.entry → Among x v.seen → x.state.clear ≡ true → x.state.done ≡ true → AllDone v b y

-- The last task is done.
pub data NewestDone {S : Type 0} (v : Sight S) (b : Bearing S) : Type 0 where
  no_task : b.last itself ≡ None → NewestDone v b
  newest_done : (x : Seen) → b.last itself ≡ Some x.entry → Among x v.seen → x.state.done ≡ true → NewestDone v b

-- What must have been seen before the act.
abbrev pub MayPass : {S : Type 0} → Sight S → Bearing S → Act S → Type 0
MayPass v b Waited = AllDone v b itself
MayPass v b Awaited = NewestDone v b
MayPass v b (WaitedOn named) = (c : ℕ) → in_clauses named c ≡ true → AllDone v b (on c)
MayPass v b _ = Unit {0}

-- What a job has done by itself since it was given to a call: own acts, and waiting acts that the seat has seen to be met.
pub data MayGo {S : Type 0} (P : Program S) (v : Sight S) (b : Bearing S) : Body S → Type 0 where
  still_there : MayGo P v b b.body
  went_on : {x : Body S} → MayGo P v b x → IsOwnAct (act_now P x) → MayPass v b (act_now P x) → MayGo P v b (with_answer 0 x)
