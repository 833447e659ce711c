-- The ticks of a run, and the longest of its chains.
-- Read against: main creates a task with one tick and waits: there are main's ticks and one more; each chain from main's first act through the creation, the
-- task's tick and its end to the wait has them all.
use Rattle.std.specs.Prelude.{◌≤◌, ℕ, ◌+◌, nat_le, if◌then◌else◌, List, [], ◌∷◌, length, Option, Some, None}
use Rattle.oss_model.specs.Bodies.{Program, Start, stage_act}
use Rattle.oss_model.specs.Machine.{State, Task, find}
use Rattle.oss_model.specs.Moves.{act_now, opening}
use Rattle.oss_model.specs.Order.{IsIn}
use Rattle.oss_model.specs.Sequence.{Running, RunsOn}
use Rattle.oss_chain_laws.specs.Chains.{IsChain, ticks_in}
use Rattle.oss_chain_laws.specs.Happenings.{Happening, Acting, Giving, IsEvent, WaitsFor, tick_of}

-- the answers that were there before the act with this number: an end of the list that is so long, or the whole list
abbrev pub answers_before : ℕ → List ℕ → List ℕ
answers_before n [] = []
answers_before n (v ∷ vs) = if nat_le (length (v ∷ vs)) n then v ∷ vs else answers_before n vs

abbrev pub ticks_of_act : {S : Type 0} → Program S → Option (Task S) → ℕ → ℕ
ticks_of_act P (Some t) n = tick_of (stage_act P t.body.start (answers_before n t.body.found))
ticks_of_act P None n = 0

-- The ticks of an event, in a state in which it has happened: one for an act that is a tick, else none.
abbrev pub ticks_at : {S : Type 0} → Program S → State S → Happening → ℕ
ticks_at P s (Acting p n) = ticks_of_act P (find s.tasks p) n
ticks_at P s (Giving p c) = 0

-- The sequential run comes to this stage, and this many of its acts are ticks.
pub data Ticks {S : Type 0} (P : Program S) (main : Start S) (cells : List ℕ) : Running S → ℕ → Type 0 where
  no_ticks : Ticks P main cells (record { state = opening main cells; active = []; printed = [] }) 0
  more_ticks : {z y : Running S} {n : ℕ} → Ticks P main cells z n → (r : RunsOn P z y) → Ticks P main cells y (n + tick_of (act_now P r.task.body))

-- A chain of events of a run that ended in this state: each waits for the one before it.
pub record IsEventChain {S : Type 0} (P : Program S) (s : State S) (chain : List Happening) : Type 0 where
  pub happen : (e : Happening) → IsIn e chain → IsEvent P s e
  pub waits : IsChain (WaitsFor P s) chain

-- No chain of such events has more ticks than this one, where ticks are told like this.
pub record IsLongestBy {S : Type 0} (P : Program S) (s : State S) (weight : Happening → ℕ) (chain : List Happening) : Type 0 where
  pub is_chain : IsEventChain P s chain
  pub most : (other : List Happening) → IsEventChain P s other → ticks_in weight other ≤ ticks_in weight chain

-- No chain of such events has more ticks than this one.
abbrev pub IsLongest : {S : Type 0} → Program S → State S → List Happening → Type 0
IsLongest P s chain = IsLongestBy P s (ticks_at P s) chain
