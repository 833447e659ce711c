-- Acts that are counted by numbers of 64 bits are events.
use Rattle.std.proofs.Common.{◌≤◌, ◌<◌, ℕ, ◌-◌, ◌^◌, List, length, arith}
use Rattle.oss_model.specs.Bodies.{Program, Start}
use Rattle.oss_model.specs.History.{IsMade}
use Rattle.oss_model.specs.Machine.{State, Task, At}
use Rattle.oss_model.specs.Moves.{act_now, found_by}
use Rattle.oss_model.specs.Sequence.{Running, RunsOn}
use Rattle.oss_model.proofs.MoveLemmas.{StepView, own, new, old, step_view}
use Rattle.oss_model.proofs.OrderLemmas.{suffix_length}
use Rattle.oss_chain_laws.specs.Happenings.{Happening, Acting, Giving, IsEvent, IsHappening, IsNumbered}

-- no task has done more acts than a number of 64 bits tells
abbrev pub AreCounted : {S : Type 0} → State S → Type 0
AreCounted {S = S} s = (p : List ℕ) (t : Task S) → At s p t → length t.body.found ≤ 2 ^ 64 - 1

-- what happens there is an event
pub event_of : {S : Type 0} (P : Program S) (s : State S) → AreCounted s → (e : Happening) → IsHappening P s e → IsEvent P s e
event_of P s few e h = record { happens = h; numbered = numbered e h }
  where
    numbered : (e : Happening) → IsHappening P s e → IsNumbered e
    numbered (Acting p n) h = let d = h.2 in let l = suffix_length d.done_ in let m = few p d.task d.at_ in let q = d.number_is in omega (arith, l, m, q)
    numbered (Giving p c) h = tt

-- an act that is counted leaves all counted
pub counted_on : {S : Type 0} (P : Program S) (main : Start S) (x y : Running S) → IsMade P main x.state → (r : RunsOn P x y) → length r.task.body.found < 2 ^ 64 - 1 → AreCounted x.state → AreCounted y.state
counted_on P main x y made r less few p t h = go (step_view P main x.state y.state x.active r.task (found_by (act_now P r.task.body) x.state.cells) made r.at_ r.goes r.tasks p t h)
  where
    go : {q : List ℕ} {u : Task _} → StepView P x.state x.active r.task (found_by (act_now P r.task.body) x.state.cells) q u → length u.body.found ≤ 2 ^ 64 - 1
    go own = omega (arith, less)
    go (new o a) = omega arith
    go (old {q = q} {u = u} ne k) = few q u k
