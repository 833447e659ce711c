-- What is kept beside a stage of the run, and how an act and a turn change it.
-- Read against: where main, which has done two acts, creates the task 0.0, one task more is noted, made by main's act 2; 0.0 has done no act then, and main, above it, three.
use Rattle.std.specs.Prelude.{◌≡◌, ◌<◌, ℕ, ◌+◌, false, List, [], ◌∷◌, ◌++◌, Option, Some, None}
use Rattle.oss_code.specs.declared.code.CodeParts.{CodeParts}
use Rattle.oss_judge.specs.Joined.{IsRising, held_right}
use Rattle.oss_machine.specs.Frames.{CodeScript}
use Rattle.oss_model.specs.Bodies.{Start}
use Rattle.oss_model.specs.Context.{right_of}
use Rattle.oss_model.specs.Order.{written}
use Rattle.oss_model.specs.Rights.{right_from}
use Rattle.oss_body.specs.declared.act.Act.{Act as CodeAct}
use Rattle.oss_body.specs.declared.body.Body.{Body as Kept}
use Rattle.oss_body.specs.Acts.{act_seen}
use Rattle.oss_body.specs.Relation.{IsBody}
use Rattle.oss_span_check.specs.declared.note.Made.{Made}
use Rattle.oss_span_check.specs.declared.note.Note.{Note}
use Rattle.oss_span_check.specs.declared.note.What.{What}
use Rattle.oss_span_check.specs.declared.watch.Watch.{Watch}
use Rattle.oss_span_check.specs.Records.{IsNoted, IsSeen}

-- What is noted of an act of a body, if anything is.
abbrev pub IsWhatOf : CodeAct → Option What → Type 0
IsWhatOf act None = IsNoted (act_seen act) → ⊥
IsWhatOf act (Some what) = IsSeen what (act_seen act)

-- The notes with one more, if there is one.
abbrev pub with_note : List Note → List ℕ → ℕ → Option What → List Note
with_note notes p n None = notes
with_note notes p n (Some w) = notes ++ record { point = p; number = n; what = w } ∷ []

-- This is the point of the task of a body.
abbrev pub IsPointOf : Kept → List ℕ → Type 0
IsPointOf body point = (code : CodeParts) (start : Start CodeScript) (found : List ℕ) → IsBody code start found body → point ≡ written start.path

-- The act that stands next is noted.
pub record IsOn (act : CodeAct) (body : Kept) (old new : Watch) : Type 0 where
  pub what : Option What
  pub point : List ℕ
  pub is_what : IsWhatOf act what
  pub is_point : IsPointOf body point
  pub notes : new.recorded.notes ≡ with_note old.recorded.notes point old.acts what
  pub rest : (new.recorded.made ≡ old.recorded.made) × (new.acts ≡ old.acts) × (new.above ≡ old.above)

-- The task with this body, which was created, runs.
pub record IsDown (body : Kept) (old new : Watch) : Type 0 where
  pub made : Made
  pub is_point : IsPointOf body made.point
  pub number : made.number ≡ old.acts
  pub wait : (code : CodeParts) (start : Start CodeScript) (found : List ℕ) → IsBody code start found body → made.wait ≡ start.order.wait
  pub rights : (code : CodeParts) (start : Start CodeScript) (found : List ℕ) → IsBody code start found body → (c : ℕ) → right_from false made.accesses c ≡ held_right (right_of start.context c)
  pub rising : IsRising made.accesses
  pub all : new.recorded.made ≡ old.recorded.made ++ made ∷ []
  pub rest : (new.recorded.notes ≡ old.recorded.notes) × (new.acts ≡ 0) × (new.above ≡ old.above ++ (old.acts + 1) ∷ [])

-- The creator of the task that ran runs, where there is one.
pub record IsUp (old new : Watch) : Type 0 where
  pub creator : (older : List ℕ) (n : ℕ) → old.above ≡ older ++ n ∷ [] → (new.above ≡ older) × (new.acts ≡ n)
  pub same : new.recorded ≡ old.recorded

-- The same task runs.
pub record IsStill (old new : Watch) : Type 0 where
  pub same : new.recorded ≡ old.recorded
  pub rest : (new.above ≡ old.above) × (new.acts ≡ old.acts + 1)

-- So many tasks stood above the one that ran, and so many above the one that runs.
pub record IsFollowed (depth now : ℕ) (body : Kept) (old new : Watch) : Type 0 where
  pub deeper : depth < now → IsDown body old new
  pub higher : now < depth → IsUp old new
  pub still : now ≡ depth → IsStill old new
