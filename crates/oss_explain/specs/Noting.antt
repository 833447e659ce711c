-- What is noted on the way of a run is right at its stage.
-- Read against: with x and y, of `task out(x, y) .. taskwait on(x) task inout(x) ..` main has the notes of child 0, of the wait, and of child 1. The children that hinder a read of x by these notes are
-- child 1 alone, since the wait took child 0 away; those that hinder a read of y are child 0 alone.
use Rattle.std.specs.Prelude.{◌≡◌, ◌≤◌, ◌<◌, ℕ, ◌+◌, Bool, true, false, if◌then◌else◌, List, [], ◌∷◌, ◌++◌, reverse}
use Rattle.oss_syntax.specs.declared.access.Range.{Range}
use Rattle.oss_syntax.specs.declared.fault.FaultKind.{FaultKind}
use Rattle.oss_model.specs.Agreement.{Setting}
use Rattle.oss_model.specs.Bodies.{Body, Frame, Program}
use Rattle.oss_model.specs.Bodies.Act.{Fault}
use Rattle.oss_model.specs.Context.{Context, in_clauses}
use Rattle.oss_model.specs.Machine.{At, State}
use Rattle.oss_model.specs.Memory.{Event}
use Rattle.oss_model.specs.Moves.{act_now, is_ended}
use Rattle.oss_model.specs.Order.{IsIn, IsSuffix, written}
use Rattle.oss_model.specs.Rights.{Touch, right_from}
use Rattle.oss_model.specs.Sequence.{Running, Sequential}
use Rattle.oss_model.specs.declared.answer.Answer.TheVariants as answers
use Rattle.oss_meaning.specs.Results.{IsOutcome}
use Rattle.oss_meaning.specs.Clauses.{waited_for}
use Rattle.oss_meaning.specs.Sections.{declared_on}
use Rattle.oss_code.specs.declared.code.CodeParts.{CodeParts}
use Rattle.oss_machine.specs.Frames.{CodeScript}
use Rattle.oss_machine.specs.Machines.{asks}
use Rattle.oss_body.specs.Acting.{acting}
use Rattle.oss_body.specs.Mains.{code_main}
use Rattle.oss_body.specs.Relation.{IsBody}
use Rattle.oss_body.specs.declared.body.Body.{Body as Kept}
use Rattle.oss_serial.specs.declared.stage.Stage.{Stage}
use Rattle.oss_serial.specs.Stages.{IsStage}
use Rattle.oss_serial.specs.Turns.{whole_task}
use Rattle.oss_explain.specs.declared.begun.Begun.{Begun}
use Rattle.oss_explain.specs.declared.begun.Child.{Child}
use Rattle.oss_explain.specs.declared.begun.Noted.{Noted}
use Rattle.oss_explain.specs.declared.begun.Noted.TheVariants as notes
use Rattle.oss_explain.specs.declared.begun.ReleasedAt.{ReleasedAt}
use Rattle.oss_explain.specs.declared.ledger.Ledger.{Ledger}
use Rattle.oss_explain.specs.declared.run.End.{End}
use Rattle.oss_explain.specs.declared.run.End.TheVariants as end
use Rattle.oss_explain.specs.Ledgers.{AreAccesses}
use Rattle.oss_explain.specs.Ways.{entry_of}
use Rattle.oss_explanation.specs.Lives.{IsCreated, IsEventOf, IsHolder, IsReleased, hinders}

-- Children that hinder

-- the cell is one of these ranges
abbrev pub in_ranges : List Range → ℕ → Bool
in_ranges ranges c = in_clauses (declared_on waited_for ranges) c

-- the child hinders such a touch of the cell, as long as there was no wait for it
abbrev pub may_hinder : Touch → ℕ → Child → Bool
may_hinder touch c k = hinders touch (right_from false k.accesses c)

-- the children that hinder a touch behind one note more
abbrev pub hindering_after : ℕ → Touch → List Child → Noted → List Child
hindering_after c touch ks (notes.Lent k) = if may_hinder touch c k then ks ++ k ∷ [] else ks
hindering_after c touch ks (notes.WaitedOn ranges) = if in_ranges ranges c then [] else ks

-- the same behind more notes, the oldest first
abbrev pub hindering_from : ℕ → Touch → List Child → List Noted → List Child
hindering_from c touch ks [] = ks
hindering_from c touch ks (n ∷ ns) = hindering_from c touch (hindering_after c touch ks n) ns

-- the children that hinder a touch of the cell by these notes since the last taskwait, the oldest first
abbrev pub hindering : ℕ → Touch → List Noted → List Child
hindering c touch ns = hindering_from c touch [] ns

-- the numbers of the children rise, and are below this one
abbrev pub RiseTo : ℕ → List Child → Type 0
RiseTo n [] = Unit {0}
RiseTo n (k ∷ []) = k.number < n
RiseTo n (k ∷ j ∷ more) = (k.number < j.number) × RiseTo n (j ∷ more)

-- What is noted is right

-- The child is a holder of the cell; its accesses are noted, and the place where its body begins.
pub record IsHeldBy (P : Program CodeScript) (s : State CodeScript) (q : List ℕ) (c : ℕ) (touch : Touch) (k : Child) : Type 0 where
  pub context : Context
  pub holder : IsHolder P s q c touch k.number k.line context
  pub accesses : AreAccesses k.accesses context
  pub entry : k.entry ≡ entry_of holder.order.script

-- These children, and no others, are the holders of the cell.
pub record AreHeldBy (P : Program CodeScript) (s : State CodeScript) (q : List ℕ) (c : ℕ) (touch : Touch) (ks : List Child) : Type 0 where
  pub only : (k : Child) → IsIn k ks → IsHeldBy P s q c touch k
  pub all : (j n : ℕ) (x : Context) → IsHolder P s q c touch j n x → (k : Child) × (IsIn k ks × (k.number ≡ j))

-- What is noted of the task at this path, which has created so many, is right. No task is below the next one that it would create.
pub record IsRight (P : Program CodeScript) (s : State CodeScript) (q : List ℕ) (count : ℕ) (b : Begun) : Type 0 where
  pub point : b.point ≡ written q
  pub released : (r : ReleasedAt) → IsIn r b.released → (c : ℕ) → in_clauses r.clauses c ≡ true → IsReleased P s q c r.line
  pub all_released : (c line : ℕ) → IsReleased P s q c line → (r : ReleasedAt) × (IsIn r b.released × (in_clauses r.clauses c ≡ true))
  pub held : (c : ℕ) (touch : Touch) → AreHeldBy P s q c touch (hindering c touch b.noted)
  pub rise : (c : ℕ) (touch : Touch) → RiseTo count (hindering c touch b.noted)
  pub fresh : (j : ℕ) (r : List ℕ) (e : Event CodeScript) → count ≤ j → IsSuffix (j ∷ q) r → IsEventOf P s r e → ⊥

-- How the task at this path came to be is noted.
pub record IsBorn (P : Program CodeScript) (s : State CodeScript) (q : List ℕ) (b : Begun) : Type 0 where
  pub context : Context
  pub created : IsCreated P s q b.included b.line context
  pub accesses : AreAccesses b.accesses context
  pub entry : b.entry ≡ entry_of created.order.script

-- What is noted of the task at this path, which has created so many, and of those above it, the innermost first. The last task that each but the first has created is the one before it.
pub data AreOnWay (P : Program CodeScript) (s : State CodeScript) : List ℕ → ℕ → List Begun → Type 0 where
  at_main : {count : ℕ} {b : Begun} → IsRight P s [] count b → b.accesses ≡ [] → AreOnWay P s [] count (b ∷ [])
  at_child : {k : ℕ} {q : List ℕ} {count : ℕ} {b : Begun} {rest : List Begun} → IsRight P s (k ∷ q) count b → IsBorn P s (k ∷ q) b → AreOnWay P s q (k + 1) rest
      → AreOnWay P s (k ∷ q) count (b ∷ rest)

-- the task that acts at a stage
abbrev pub acts_at : (code : CodeParts) (fuel : ℕ) (s : Stage) → IsStage code (code_main code fuel) code.first s → Frame CodeScript
acts_at code fuel s is = acting (asks code) is.current.start is.current.found

-- The kept stage is one of the run, and what is noted on the way there is right.
pub record IsFollowing (code : CodeParts) (fuel : ℕ) (s : Stage) (l : Ledger) : Type 0 where
  pub setting : Setting (code_main code fuel) code.first
  pub is_stage : IsStage code (code_main code fuel) code.first s
  pub way : AreOnWay (asks code) is_stage.stands.stage.state (acts_at code fuel s is_stage).path (acts_at code fuel s is_stage).context.created (l.top ∷ reverse l.above)

-- The run has come to a stage at which this body runs and stands before a fault of this kind on this line, and what is noted on the way there is right.
pub record StandsBefore (code : CodeParts) (fuel : ℕ) (kept : Kept) (l : Ledger) (kind : FaultKind) (line : ℕ) : Type 0 where
  pub setting : Setting (code_main code fuel) code.first
  pub stage : Running CodeScript
  pub run : Sequential (asks code) (code_main code fuel) code.first stage
  pub body : Body CodeScript
  pub is_body : IsBody code body.start body.found kept
  pub at_ : At stage.state stage.active (whole_task body)
  pub alive : is_ended (asks code) body ≡ false
  pub key : List ℕ
  pub fault : act_now (asks code) body ≡ Fault kind line key
  pub way : AreOnWay (asks code) stage.state (acting (asks code) body.start body.found).path (acting (asks code) body.start body.found).context.created (l.top ∷ reverse l.above)

-- How the run has come to its end, where so much is noted.
abbrev pub IsEndReached : CodeParts → ℕ → Stage → Ledger → End → Type 0
IsEndReached code fuel s l end.Done = (output : List ℕ) × ((cells : List ℕ) × ((tasks : ℕ) × ((entries : ℕ) × IsOutcome (asks code) (code_main code fuel) code.first (record { answer = answers.Done output cells; tasks = tasks; entries = entries }))))
IsEndReached code fuel s l (end.Fault kind line) = StandsBefore code fuel s.current l kind line
