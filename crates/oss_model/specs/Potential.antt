-- How much is left to do for the tasks of a body: a number that falls with each of its acts. A task that may nest deeper counts for more than all that
-- it may still create below itself, so the number falls at a creation too, where what the new task counts for is added to it.
-- Read against: a body with fuel for 1 tick, of a program with the bound 0, may have 1 + 2 left before its tick, and 1 behind it: at depth 64 it
-- counts for 3 with a rank of 0, and for 1 when the tick is done.
use Rattle.std.specs.Prelude.{◌≡◌, ◌≢◌, ◌<◌, ℕ, zero, suc, ◌+◌, ◌-◌, Bool, true, false, List, [], ◌∷◌}
use Rattle.oss_model.specs.Bodies.{Act, Body, Frame, IsHalt, Order, Program, Stack, stack_from}
use Rattle.oss_model.specs.Bodies.Act.{Created}
use Rattle.oss_model.specs.Context.{Context}
use Rattle.oss_model.specs.Machine.{Task}
use Rattle.oss_model.specs.Moves.{act_now, after_answer, new_task}
use Rattle.oss_model.specs.Termination.{IsLively}

-- n times k
unfoldable pub times : ℕ → ℕ → ℕ
times zero k = 0
times (suc n) k = k + times n k

-- b by itself n times
unfoldable pub power : ℕ → ℕ → ℕ
power zero b = 1
power (suc n) b = times b (power n b)

-- 1 for a test that holds, else 0
unfoldable pub one_if : Bool → ℕ
one_if true = 1
one_if false = 0

-- What is left of a task with this context, whose body may ask for `rank` things before its next tick, and for at most `bound` after each tick: by its fuel,
-- then by that rank, then by an await that stands before its next ask.
unfoldable pub left_of : ℕ → ℕ → Context → Bool → ℕ
left_of bound rank x awaits = times (x.fuel - x.ticks) (bound + bound + 2) + (rank + rank + one_if awaits)

-- no task with this fuel has more left
unfoldable pub most_left : ℕ → ℕ → ℕ
most_left bound fuel = times fuel (bound + bound + 2) + (bound + bound + 1)

-- What a task counts for: each unit of what is left of it for more than a whole task one level deeper. Tasks nest at most 64 deep.
unfoldable pub share_of : ℕ → ℕ → Context → Bool → ℕ
share_of bound rank x awaits = times (left_of bound rank x awaits + 1) (power (64 - x.depth) (most_left bound x.fuel + 2))

-- a task as a frame of a body
unfoldable pub share : {S : Type 0} {P : Program S} → IsLively P → Frame S → ℕ
share lively f = share_of lively.bound (lively.rank f.script f.answers) f.context f.awaits

-- tasks together
unfoldable pub shares : {S : Type 0} {P : Program S} → IsLively P → List (Frame S) → ℕ
shares lively [] = 0
shares lively (f ∷ fs) = share lively f + shares lively fs

-- the tasks of a body that has not ended; one that has ended counts for nothing
unfoldable pub stack_share : {S : Type 0} {P : Program S} → IsLively P → Frame S → List (Frame S) → Bool → ℕ
stack_share lively base inner true = 0
stack_share lively base inner false = share lively base + shares lively inner

-- What a body counts for: its own task, and the tasks that it includes.
unfoldable pub potential : {S : Type 0} {P : Program S} → IsLively P → Body S → ℕ
potential {S} {P} lively b = stack_share lively (stack_from P b.start b.found).base (stack_from P b.start b.found).inner (stack_from P b.start b.found).ended

-- Each act of a body that goes on makes it count for less; the creation of a task that is not included is told below.
abbrev pub BodyFalls : Type 0 → Type 0
BodyFalls S = (P : Program S) (lively : IsLively P) (t : Task S) (v : ℕ) → (IsHalt (act_now P t.body) → ⊥) → ((o : Order S) → act_now P t.body ≢ Created o false)
    → potential lively (after_answer v t).body < potential lively t.body

-- Behind a creation, the creator and the new task together count for less than the creator did.
abbrev pub CreationFalls : Type 0 → Type 0
CreationFalls S = (P : Program S) (lively : IsLively P) (t : Task S) (v : ℕ) (o : Order S) → act_now P t.body ≡ Created o false
    → potential lively (after_answer v t).body + potential lively (new_task P t.body o).body < potential lively t.body
