-- The tasks of a sequential run so far: the one that acts, those that wait for it, and those that have ended. Something is known of each.
-- Read against: main creates a task, which creates another and ends behind it. While the second acts, it has the number 1, and above it stand number 0 and main; of neither number is anything known as ended. When it ends, number 0 acts, and of
-- number 1 it is known what was known of it at its end. When number 0 ends, main acts, and both have ended. The end of main ends nothing.
use Rattle.std.specs.Prelude.{ℕ, List, [], ◌∷◌, ◌++◌, length, Option, Some, None, slice_set}

-- A task with its number: so many were created before it. (Main was not created, and its number says nothing.)
pub record Numbered (A : Type 0) : Type 0 where
  pub number : ℕ
  pub task : A

pub record Nest (A : Type 0) : Type 0 where
  pub acting : Numbered A
  -- those that wait for it, the nearest first
  pub above : List (Numbered A)
  -- each task that was created, by its number: what is known of it if it has ended
  pub ended : List (Option A)

-- Main alone.
abbrev pub alone : {A : Type 0} → A → Nest A
alone main = record { acting = record { number = 0; task = main }; above = []; ended = [] }

-- Of the task that acts this is known now.
abbrev pub with_acting : {A : Type 0} → A → Nest A → Nest A
with_acting t n = record { acting = record { number = n.acting.number; task = t }; above = n.above; ended = n.ended }

-- It creates a task, which acts from then on.
abbrev pub opened : {A : Type 0} → A → Nest A → Nest A
opened child n = record { acting = record { number = length n.ended; task = child }; above = n.acting ∷ n.above; ended = n.ended ++ None ∷ [] }

-- It ends, and its creator acts, of which more is known by that.
abbrev pub closed_to : {A : Type 0} → (A → A → A) → Numbered A → List (Numbered A) → List (Option A) → Nest A
closed_to tell k [] ended = record { acting = k; above = []; ended = ended }
closed_to tell k (creator ∷ above) ended = record { acting = record { number = creator.number; task = tell k.task creator.task }; above = above; ended = slice_set ended k.number (Some k.task) }

abbrev pub closed : {A : Type 0} → (A → A → A) → Nest A → Nest A
closed tell n = closed_to tell n.acting n.above n.ended

-- All that are open end, the newest first, and main is left.
abbrev pub all_closed_to : {A : Type 0} → (A → A → A) → Numbered A → List (Numbered A) → List (Option A) → Nest A
all_closed_to tell k [] ended = record { acting = k; above = []; ended = ended }
all_closed_to tell k (creator ∷ above) ended = all_closed_to tell (record { number = creator.number; task = tell k.task creator.task }) above (slice_set ended k.number (Some k.task))

abbrev pub all_closed : {A : Type 0} → (A → A → A) → Nest A → Nest A
all_closed tell n = all_closed_to tell n.acting n.above n.ended
