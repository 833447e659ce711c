-- What is found at a fault: who acts, and what is told of the ask, by what is noted.
-- Read against: of `task out(x) x = 5; printf x` in main main acts, whose point is 0; the task that it would create next is 0.1, and of main there is no chain. Told is that main reads x, that
-- the child 0.0 has x by `out`, and that neither main nor a new task has a cell by a clause.
use Rattle.std.specs.Prelude.{◌≡◌, ℕ, List, ◌∷◌, reverse}
use Rattle.oss_syntax.specs.declared.fault.FaultKind.{FaultKind}
use Rattle.oss_syntax.specs.declared.tree.program.Item.{Item}
use Rattle.oss_model.specs.Bodies.{Ask}
use Rattle.oss_model.specs.Bodies.Act.{Fault}
use Rattle.oss_model.specs.Context.{Context}
use Rattle.oss_model.specs.Order.{written}
use Rattle.oss_machine.specs.Frames.{CodeScript}
use Rattle.oss_body.specs.declared.act.Act.{Act}
use Rattle.oss_body.specs.Acts.{act_seen}
use Rattle.oss_explanation.specs.declared.explained.Explained.{Explained}
use Rattle.oss_explanation.specs.Explanations.{IsDeed, wanted}
use Rattle.oss_explanation.specs.Held.{AreHeld, all_words}
use Rattle.oss_explain.specs.declared.begun.Begun.{Begun}
use Rattle.oss_explain.specs.declared.ledger.Ledger.{Ledger}
use Rattle.oss_explain.specs.declared.told.Told.{Told}
use Rattle.oss_explain.specs.declared.who.Who.{Who}
use Rattle.oss_explain.specs.Owned.{own_of}
use Rattle.oss_explain.specs.Reasons.{IsReasonOf}
use Rattle.oss_explain.specs.Ways.{links_to}

-- The point is the key of the fault that the act is.
abbrev pub IsKeyOf : Act → List ℕ → Type 0
IsKeyOf act point = (kind : FaultKind) (line : ℕ) (key : List ℕ) → act_seen act ≡ Fault kind line key → point ≡ written key

-- The task that acts where this act stands next, by what is noted: its point, that of the task that it would create next, and how it came to be.
pub record IsWho (l : Ledger) (act : Act) (who : Who) : Type 0 where
  pub task : who.task ≡ l.top.point
  pub next : IsKeyOf act who.next
  pub chain : who.chain ≡ links_to (l.top ∷ reverse l.above)

-- What is told of an ask of a task with this context, which comes to a fault of this kind, by what is noted of the task.
pub record IsToldOf (all : List Item) (x : Context) (b : Begun) (kind : FaultKind) (ask : Ask CodeScript) (told : Told) : Type 0 where
  pub deed_is : IsDeed all ask told.deed
  pub reason_is : IsReasonOf all x b kind ask told.reason
  pub holds : AreHeld all (own_of b.accesses) all_words told.holds
  pub wants : AreHeld all (wanted kind ask x) all_words told.wants

-- the explanation that both make, of a fault on this line
abbrev pub explained_by : Who → Told → ℕ → Explained
explained_by who told line =
    record { task = who.task; next = who.next; line = line; deed = told.deed; reason = told.reason; chain = who.chain; holds = told.holds; wants = told.wants }
