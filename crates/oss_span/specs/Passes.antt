-- What is kept beside the sequential run, of all tasks that have not ended, and how it goes on.
use Rattle.std.specs.Prelude.{◌≡◌, ◌<◌, ℕ, false, List, [], ◌∷◌, ◌++◌, length, None}
use Rattle.oss_syntax.specs.declared.access.Access.{Access}
use Rattle.oss_code.specs.declared.code.CodeParts.{CodeParts}
use Rattle.oss_judge.specs.Joined.{IsRising, held_right}
use Rattle.oss_machine.specs.Frames.{CodeScript}
use Rattle.oss_model.specs.Bodies.{Start}
use Rattle.oss_model.specs.Context.{right_of}
use Rattle.oss_model.specs.Order.{written}
use Rattle.oss_model.specs.Rights.{right_from}
use Rattle.oss_ranges.specs.Cells.{value_at}
use Rattle.oss_body.specs.declared.act.Act.{Act as CodeAct}
use Rattle.oss_body.specs.declared.body.Body.{Body as Kept}
use Rattle.oss_body.specs.Relation.{IsBody, has_wait}
use Rattle.oss_span.specs.declared.best.Best.{Best}
use Rattle.oss_span.specs.declared.frame.Frame.{Frame}
use Rattle.oss_span.specs.declared.link.Link.{Link}
use Rattle.oss_span.specs.declared.pass.Pass.{Pass}
use Rattle.oss_span.specs.declared.node.Node.{Node}
use Rattle.oss_span.specs.declared.run.Run.{Run}
use Rattle.oss_span.specs.Acts.{IsSealed, ticked}
use Rattle.oss_span.specs.Bests.{better, no_best}
use Rattle.oss_span.specs.Frames.{IsActed, IsClosed, IsOpened, is_tick}
use Rattle.oss_span.specs.Shown.{AreLinksOf}
use Rattle.oss_span.specs.Tables.{painted}

-- These are the accesses of the body, and this is its point.
pub record IsOfBody (body : Kept) (accesses : List Access) (point : List ℕ) : Type 0 where
  pub rights : (code : CodeParts) (start : Start CodeScript) (found : List ℕ) → IsBody code start found body → (c : ℕ) → right_from false accesses c ≡ held_right (right_of start.context c)
  pub rising : IsRising accesses
  pub path : (code : CodeParts) (start : Start CodeScript) (found : List ℕ) → IsBody code start found body → point ≡ written start.path

-- Nothing is done yet.
pub record IsBegun (main : Kept) (pass : Pass) : Type 0 where
  pub accesses : List Access
  pub point : List ℕ
  pub of_body : IsOfBody main accesses point
  pub cells : (c : ℕ) → value_at pass.frame.table.pieces c ≡ painted None accesses c None
  pub parts : (pass.nodes ≡ []) × (pass.points ≡ point ∷ []) × (pass.above ≡ []) × (pass.work ≡ 0)
  pub frame : (pass.frame.task ≡ 0) × (pass.frame.wait ≡ has_wait main) × (pass.frame.left ≡ no_best) × (pass.frame.newest ≡ no_best)
  pub run : pass.frame.run ≡ record { acts = 0; ticks = 0; count = 0; before = no_best }

-- The task that runs has done this act.
pub record IsOn (act : CodeAct) (old new : Pass) : Type 0 where
  pub acted : IsActed act old.frame new.frame old.nodes new.nodes
  pub rest : (new.points ≡ old.points) × (new.above ≡ old.above) × (new.work ≡ ticked (is_tick act) old.work)

-- The task with this body, which was created, runs.
pub record IsDown (body : Kept) (old new : Pass) : Type 0 where
  pub accesses : List Access
  pub point : List ℕ
  pub creator : Frame
  pub of_body : IsOfBody body accesses point
  pub opened : IsOpened (length old.points) (has_wait body) accesses old.frame creator new.frame old.nodes new.nodes
  pub rest : (new.points ≡ old.points ++ point ∷ []) × (new.above ≡ old.above ++ creator ∷ []) × (new.work ≡ old.work)

-- The creator of the task that ran runs, where there is one.
pub record IsUp (old new : Pass) : Type 0 where
  pub closed : (older : List Frame) (creator : Frame) → old.above ≡ older ++ creator ∷ [] → (new.above ≡ older) × IsClosed creator new.frame old.frame old.nodes new.nodes
  pub rest : (new.points ≡ old.points) × (new.work ≡ old.work)

-- Main has ended: these are the ticks of a chain that is kept, and its links.
pub record IsTold (pass : Pass) (ticks : ℕ) (links : List Link) : Type 0 where
  pub last : Best
  pub run : Run
  pub nodes : List Node
  pub sealed : IsSealed pass.frame.task pass.frame.run run pass.nodes nodes last
  pub ticks_are : ticks ≡ (better last pass.frame.left).mark.ticks
  pub unfolds : AreLinksOf nodes pass.points (better last pass.frame.left) links

-- So many tasks stood above the one that ran, and so many above the one that runs.
pub record IsFollowed (depth now : ℕ) (body : Kept) (old new : Pass) : Type 0 where
  pub deeper : depth < now → IsDown body old new
  pub higher : now < depth → IsUp old new
  pub same : now ≡ depth → new ≡ old
