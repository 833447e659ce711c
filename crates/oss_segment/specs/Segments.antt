-- The part of a task, as it is kept: where its body has come, what it has changed, made and printed, and the way that it went.
-- Read against: a task over the memory 5, 6 that reads cell 0, stores what it found in cell 1, prints it and ends has four acts in its part, ticks left
-- aside: behind them the body has ended, the writes give 5 to cell 1 and nothing to cell 0, and there is one print and no child. A loop with a tick and
-- a store a turn has, under a quota of 4,096 ticks, 8,192 acts: the part stops before the 4,097th tick. A body whose first act is a wait goes past it,
-- and stops before the next one. A task that ended before has no act in its part.
use Rattle.std.specs.Prelude.{◌≡◌, ◌<◌, ℕ, zero, suc, ◌-◌, ◌^◌, min, Bool, true, false, List, [], ◌∷◌, ◌++◌}
use Rattle.oss_model.specs.Order.{written}
use Rattle.oss_model.specs.Bodies.{Start}
use Rattle.oss_model.specs.Moves.{found_by}
use Rattle.oss_wave_laws.specs.Parts.{IsPart, Stage, act_after, made_after, stage_after, stops_after, ticks_after}
use Rattle.oss_code.specs.declared.code.CodeParts.{CodeParts}
use Rattle.oss_machine.specs.Frames.{CodeScript}
use Rattle.oss_machine.specs.Machines.{asks}
use Rattle.oss_body.specs.declared.act.Act.{Act}
use Rattle.oss_body.specs.declared.act.Act.TheVariants as acts
use Rattle.oss_body.specs.declared.body.Body.{Body}
use Rattle.oss_body.specs.Acts.{act_seen, answer_to, creates, goes_on}
use Rattle.oss_body.specs.Places.{unwritten}
use Rattle.oss_body.specs.Relation.{IsBody, is_over, pending_of}
use Rattle.oss_tree.specs.declared.output.Print.{Print}
use Rattle.oss_segment.specs.declared.segment.Segment.{Segment}
use Rattle.oss_segment.specs.Made.{AreNew, IsChildOf, printed_after}
use Rattle.oss_segment.specs.Writes.{AreWritten}

-- The body is one of a task of the code, after some answers: the body of main at its start is one.
abbrev pub IsKnown : CodeParts → Body → Type 0
IsKnown code b = ∥ ((start : Start CodeScript) × (found : List ℕ) × IsBody code start found b) ∥₁

-- The prints, with that of this act, if it is one: behind a print of `x` at 0.1 there is one more.
abbrev pub with_print : Act → List Print → List Print
with_print (acts.Print key text) prints = prints ++ record { at = key; text = text } ∷ []
with_print _ prints = prints

-- The key of an act that prints is a point: it begins with main's 0, so nothing is lost where it is read as a key.
abbrev pub IsKeyed : Act → Type 0
IsKeyed act = (key text : List ℕ) → act ≡ acts.Print key text → written (unwritten key) ≡ key

-- The second body is the first one behind its next act, which found this number where it is a load: whatever task it is the body of.
abbrev pub IsNext : CodeParts → ℕ → Body → Body → Type 0
IsNext code loaded b next = (s : Start CodeScript) (f : List ℕ) → IsBody code s f b → IsBody code s (answer_to (act_seen (pending_of b)) loaded ∷ f) next

-- How kept bodies went, from the one with which the part began: so many acts led to this body, and made these children and prints. Each act is one
-- over which a body goes on. One that creates a task has its body behind the other children; each other finds what the part finds in the memory at its
-- stage, and has what it prints behind the other prints.
pub data Went (code : CodeParts) (start : Start CodeScript) (first : Stage) (body : Body) : ℕ → Body → List Body → List Print → Type 0 where
  went_none : Went code start first body zero body [] []
  went_on : {k : ℕ} {b : Body} {children : List Body} {prints : List Print} (next : Body) → Went code start first body k b children prints
      → is_over b ≡ false → goes_on (pending_of b) ≡ true → creates (pending_of b) ≡ false → IsKeyed (pending_of b)
      → IsNext code (found_by (act_after (asks code) start first k) (stage_after (asks code) start first k).cells) b next
      → Went code start first body (suc k) next children (with_print (pending_of b) prints)
  went_new : {k : ℕ} {b : Body} {children : List Body} {prints : List Print} (next child : Body) → Went code start first body k b children prints
      → is_over b ≡ false → goes_on (pending_of b) ≡ true → creates (pending_of b) ≡ true → IsChildOf code b child → IsNext code 0 b next
      → Went code start first body (suc k) next (children ++ child ∷ []) prints

-- The stage at which the part of a body begins that has found these answers.
abbrev pub first_of : List ℕ → List ℕ → Stage
first_of found memory = record { cells = memory; found = found }

-- This is the part of the body with this start and these answers, over this memory and under this quota of ticks.
pub record IsSegment (code : CodeParts) (start : Start CodeScript) (found memory : List ℕ) (quota : ℕ) (old : Body) (s : Segment) : Type 0 where
  pub acts : ℕ
  pub part : IsPart (asks code) start (first_of found memory) quota acts
  pub count : s.count ≡ min acts (2 ^ 64 - 1)
  pub body : IsBody code start (stage_after (asks code) start (first_of found memory) acts).found s.body
  pub writes : AreWritten (asks code) start (first_of found memory) acts s.writes.pieces
  pub children : AreNew code (made_after (asks code) start (first_of found memory) acts) s.children.items
  pub prints : s.prints.items ≡ printed_after (asks code) start (first_of found memory) acts
  pub way : Went code start (first_of found memory) old acts s.body s.children.items s.prints.items

-- The part has come so far, and has stopped before none of its acts.
pub record HasCome (code : CodeParts) (start : Start CodeScript) (found memory : List ℕ) (quota : ℕ) (old : Body) (acts : ℕ) (s : Segment) : Type 0 where
  pub goes : (k : ℕ) → k < acts → stops_after (asks code) start (first_of found memory) quota k ≡ false
  pub ticks : s.ticks ≡ ticks_after (asks code) start (first_of found memory) acts
  pub count : s.count ≡ min acts (2 ^ 64 - 1)
  pub body : IsBody code start (stage_after (asks code) start (first_of found memory) acts).found s.body
  pub writes : AreWritten (asks code) start (first_of found memory) acts s.writes.pieces
  pub children : AreNew code (made_after (asks code) start (first_of found memory) acts) s.children.items
  pub prints : s.prints.items ≡ printed_after (asks code) start (first_of found memory) acts
  pub way : Went code start (first_of found memory) old acts s.body s.children.items s.prints.items

-- The part has come further by one act; or it has stopped where it was.
abbrev pub HasStepped : Bool → CodeParts → Start CodeScript → List ℕ → List ℕ → ℕ → Body → ℕ → Segment → Type 0
HasStepped true code start found memory quota old acts s = HasCome code start found memory quota old (suc acts) s
HasStepped false code start found memory quota old acts s =
    HasCome code start found memory quota old acts s × (stops_after (asks code) start (first_of found memory) quota acts ≡ true)
