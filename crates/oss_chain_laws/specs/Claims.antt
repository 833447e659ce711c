-- The laws of waiting and of chains.
use Rattle.std.specs.Prelude.{◌≡◌, ℕ, true, List, ◌∷◌}
use Rattle.oss_syntax.specs.declared.access.Mode.TheVariants.{Read, Write}
use Rattle.oss_model.specs.Rights.{Holds}
use Rattle.oss_model.specs.Context.{Context, right_of}
use Rattle.oss_model.specs.Bodies.{Program, Start}
use Rattle.oss_model.specs.Bodies.Act.{Over}
use Rattle.oss_model.specs.Machine.{Task, State, At, HasGiven, accesses, IsReady}
use Rattle.oss_model.specs.Moves.{act_now}
use Rattle.oss_model.specs.History.{IsMade}
use Rattle.oss_model.specs.Agreement.{MainStarts}
use Rattle.oss_model.specs.Sequence.{Running, Sequential, IsAtEnd}
use Rattle.oss_chain_laws.specs.Chains.{Settled}
use Rattle.oss_chain_laws.specs.Named.{WriteNames, ReadNames}
use Rattle.oss_chain_laws.specs.Happenings.{Happening, WaitsFor}
use Rattle.oss_chain_laws.specs.Places.{InOrder}
use Rattle.oss_chain_laws.specs.Runs.{IsLongestBy}

-- No way back through what waits for what goes on for ever.
abbrev pub EveryWayBackEnds : Type 0 → Type 0
EveryWayBackEnds S = (P : Program S) (main : Start S) (s : State S) (e : Happening) → IsMade P main s → Settled (WaitsFor P s) e

-- What an event waits for stands before it in the order of the sequential run. So the relation has no ring.
abbrev pub WhatIsWaitedForStandsBefore : Type 0 → Type 0
WhatIsWaitedForStandsBefore S = (P : Program S) (main : Start S) (s : State S) (e f : Happening) → IsMade P main s → WaitsFor P s e f → InOrder P s e f

-- A run to the end has a longest chain of events, however ticks are told.
abbrev pub EveryRunHasASpan : Type 0 → Type 0
EveryRunHasASpan S = (P : Program S) (main : Start S) (cells : List ℕ) (z : Running S) (end : IsAtEnd P z) (weight : Happening → ℕ)
    → MainStarts main → Sequential P main cells z → act_now P end.task.body ≡ Over → (chain : List Happening) × IsLongestBy P z.state weight chain

-- The first act of a task with this context waits for nothing that is not given up.
pub record NamesGiven {S : Type 0} (s : State S) (p : List ℕ) (x : Context) : Type 0 where
  pub reads : (c : ℕ) → right_of x c ≡ Holds Read true → (q : List ℕ) → ReadNames (accesses s c) p q → HasGiven s c q
  pub writes : (c : ℕ) → right_of x c ≡ Holds Write true → (q : List ℕ) → WriteNames (accesses s c) p q → HasGiven s c q

-- A task is ready just where all that its first act names is given up.
abbrev pub ReadyIsAllGiven : Type 0 → Type 0
ReadyIsAllGiven S = (P : Program S) (main : Start S) (s : State S) (k : ℕ) (p : List ℕ) (t : Task S) → IsMade P main s → At s (k ∷ p) t
    → (IsReady s (k ∷ p) t.body.start.context → NamesGiven s (k ∷ p) t.body.start.context) × (NamesGiven s (k ∷ p) t.body.start.context → IsReady s (k ∷ p) t.body.start.context)
