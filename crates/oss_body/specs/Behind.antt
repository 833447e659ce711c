-- How a task stands behind an act that leaves it the one that acts, told of the act as it is kept.
-- Read against: behind a tick a task with 3 ticks has 4, and behind a wait nothing is lent; behind a creation whose `if` is false nothing more is lent
-- than before it, and the task awaits the new one.
use Rattle.std.specs.Prelude.{◌≡◌, ℕ, ◌+◌, Bool, false, not, map}
use Rattle.oss_code.specs.declared.code.CodeParts.{CodeParts}
use Rattle.oss_judge.specs.Parts.{reading}
use Rattle.oss_machine.specs.Frames.{CodeScript}
use Rattle.oss_machine.specs.Machines.{Standing, machine_after, machine_at}
use Rattle.oss_model.specs.Bodies.{Act as MeantAct, Awaited, Frame as Meant, lent_when, one_more_created}
use Rattle.oss_model.specs.Context.{Context, made, release, right_of, waited, waited_on, wrote}
use Rattle.oss_model.specs.Order.{written}
use Rattle.oss_body.specs.declared.act.Act.{Act}
use Rattle.oss_body.specs.declared.act.Act.TheVariants as acts
use Rattle.oss_body.specs.declared.act.Creation.{Creation}
use Rattle.oss_body.specs.Drafts.{Alike}
use Rattle.oss_body.specs.Places.{Placed}

-- The context of a creator behind a creation of a task that is not included: it lends where the `if` is true.
abbrev pub behind_creation : Creation → Context → Context
behind_creation creation x = made (right_of creation.context) (lent_when creation.order.when (right_of creation.context) (one_more_created x))

-- The context behind an act.
abbrev pub context_behind : Act → Context → Context
context_behind acts.Tick x = record x { ticks = x.ticks + 1 }
context_behind (acts.Store c v) x = wrote c x
context_behind (acts.Fold c op v slot) x = wrote c x
context_behind (acts.Create creation included) x = behind_creation creation x
context_behind acts.Wait x = waited x
context_behind (acts.WaitOn ranges) x = waited_on (map reading ranges) x
context_behind (acts.Release clauses included) x = release clauses x
context_behind _ x = x

-- The act is a tick, or a touch that is no fold and changes nothing in this context.
abbrev pub IsLight : Act → Context → Type 0
IsLight acts.Tick x = Unit {0}
IsLight (acts.Load c) x = Unit {0}
IsLight (acts.Store c v) x = wrote c x ≡ x
IsLight _ x = ⊥

-- How many tasks are created behind an act, where so many were before it.
abbrev pub created_by : Act → ℕ → ℕ
created_by (acts.Create creation included) n = n + 1
created_by _ n = n

-- Whether the task awaits the newest one behind an act, where it did or not before it.
abbrev pub awaits_by : Act → Bool → Bool
awaits_by (acts.Create creation included) awaits = not creation.order.when
awaits_by acts.Await awaits = false
awaits_by _ awaits = awaits

-- A machine behind an act: the end of an await is no answer to what it asks.
abbrev pub answered_standing : CodeParts → MeantAct CodeScript → ℕ → Standing → Standing
answered_standing code Awaited v m = m
answered_standing code _ v m = machine_after code v m

-- A machine, a place, and how many tasks are created and whether one is awaited, tell of a task of the definitions where it will stand: the place
-- as it was before, but for what acts may change there.
pub record IsAhead (code : CodeParts) (f : Meant CodeScript) (m : Standing) (p : Placed) (count : ℕ) (waits : Bool) : Type 0 where
  pub machine : m ≡ machine_at code f.script f.answers
  pub alike : Alike p.context f.context
  pub path : p.path ≡ written f.path
  pub created : f.context.created ≡ count
  pub awaits : f.awaits ≡ waits
