-- The second walk over the free run.
-- Read against: of a main that creates a task with `out(y)` on line 3, which writes x, and then reads x on line 5: once what is lacking is mended the task has x by `out`, so a wait is missing before the read. Had the task `weakin(y)` and were it final, it would have y by `in`. A final task includes what it creates, and lends it nothing;
-- nor does a creation under a false `if` lend.
use Rattle.std.specs.Prelude.{◌≡◌, ℕ, ◌-◌, ◌==◌, ◌&&◌, is_some, not, if◌then◌else◌, Bool, true, false, List, [], ◌∷◌, length, Option, Some, None}
use Rattle.oss_model.specs.Bodies.{Ask, Frame, Program, Start, ask_of}
use Rattle.oss_model.specs.Context.{in_clauses}
use Rattle.oss_model.specs.Moves.{opening}
use Rattle.oss_model.specs.Rights.{Folds, Reads, Touch, Writes}
use Rattle.oss_model.specs.Sequence.{Running, RunsOn}
use Rattle.oss_freed.specs.Freed.{freed}
use Rattle.oss_needs.specs.declared.clause.Clause.{Clause}
use Rattle.oss_lacks.specs.Asking.{Asking, mended_clauses}
use Rattle.oss_lacks.specs.Nests.{Nest, all_closed, alone, closed, opened, with_acting}
use Rattle.oss_lacks.specs.Walks.{IsActing}
use Rattle.oss_lent_cells.specs.Lent.{all_counted, nothing_lent}
use Rattle.oss_missing_waits.specs.Holding.{Holding, IsUse, lent_when, main as main_holding, new_task, releases, touched, waits_on, with_lent}

-- By what a task has each cell: by what its clauses say once what they lack is mended, as that counts.
abbrev pub has_by : Asking → ℕ → Option Clause
has_by t = all_counted t.final (mended_clauses t)

-- By what each task has each cell, by the task's number.
abbrev pub Mended : Type 0
Mended = ℕ → ℕ → Option Clause

-- the same from what is known of the tasks at the end
abbrev pub mended_in : List (Option Asking) → Mended
mended_in [] k c = None
mended_in (Some t ∷ rest) k c = if k == 0 then has_by t c else mended_in rest (k - 1) c
mended_in (None ∷ rest) k c = if k == 0 then None else mended_in rest (k - 1) c

-- the end of a task tells its creator nothing
abbrev pub tell_nothing : Holding → Holding → Holding
tell_nothing child creator = creator

-- The task that acts touches a cell: first by what it has released, and then by what it has lent.
pub record IsTouched (t : Touch) (c line : ℕ) (old new : Nest Holding) : Type 0 where
  pub used : Holding
  pub use_is : IsUse (λ d. c == d) line old.acting.task used
  pub new_is : new ≡ with_acting (touched t c line used) old

-- It creates the task that comes next, by its clauses as they are mended. It lends to it, if it is not included and the `if` is true.
pub record IsCreation {S : Type 0} (w : Mended) (f : Frame S) (lends : Bool) (line : ℕ) (old new : Nest Holding) : Type 0 where
  pub used : Holding
  pub use_is : IsUse (λ d. is_some (w (length old.ended) d)) line old.acting.task used
  pub new_is : new ≡ opened (new_task (f.context.created ∷ f.path) line (w (length old.ended)))
      (with_acting (lent_when lends f.context.created line (w (length old.ended)) used) old)

-- It releases what clauses name, or waits for what clauses name.
pub record IsDirective (cells : ℕ → Bool) (line : ℕ) (after : Holding → Holding) (old new : Nest Holding) : Type 0 where
  pub used : Holding
  pub use_is : IsUse cells line old.acting.task used
  pub new_is : new ≡ with_acting (after used) old

-- What is known behind an ask of the task that acts.
abbrev pub IsBehindAsk : {S : Type 0} → Mended → Frame S → Ask S → ℕ → Nest Holding → Nest Holding → Type 0
IsBehindAsk w f (Ask.Read c) line old new = IsTouched Reads c line old new
IsBehindAsk w f (Ask.Write c v) line old new = IsTouched Writes c line old new
IsBehindAsk w f (Ask.Fold c op v) line old new = IsTouched (Folds op) c line old new
IsBehindAsk w f (Ask.Create o) line old new = IsCreation w f (o.when && not f.context.final) line old new
IsBehindAsk w f (Ask.Release clauses) line old new = IsDirective (in_clauses clauses) line (releases clauses) old new
IsBehindAsk w f (Ask.WaitOn named) line old new = IsDirective (in_clauses named) line (waits_on named) old new
IsBehindAsk w f Ask.Wait line old new = new ≡ with_acting (with_lent nothing_lent old.acting.task) old
IsBehindAsk w f Ask.End line old new = new ≡ closed tell_nothing old
IsBehindAsk w f ask line old new = new ≡ old

-- The same, where the task awaits the one that it has created, or does not: that it awaits it is no ask.
abbrev pub IsBehindIf : {S : Type 0} → Bool → Mended → Frame S → Ask S → ℕ → Nest Holding → Nest Holding → Type 0
IsBehindIf true w f ask line old new = new ≡ old
IsBehindIf false w f ask line old new = IsBehindAsk w f ask line old new

-- What is known behind the act of this task.
abbrev pub IsBehind : {S : Type 0} → Mended → Program S → Frame S → Nest Holding → Nest Holding → Type 0
IsBehind w P f old new = IsBehindIf f.awaits w f (ask_of P f).ask (ask_of P f).line old new

-- The free run comes to this stage, and this is known of its tasks.
pub data Waits {S : Type 0} (w : Mended) (P : Program S) (main : Start S) (first : List ℕ) : Running S → Nest Holding → Type 0 where
  opens : Waits w P main first (record { state = opening main first; active = []; printed = [] }) (alone main_holding)
  runs_on : {z y : Running S} {f : Frame S} {n m : Nest Holding} → Waits w P main first z n → IsActing (freed (length first) P) z f → RunsOn (freed (length first) P) z y → IsBehind w P f n m → Waits w P main first y m

-- Where the run stops, those that are open count as ended there.
abbrev pub at_stop : Nest Holding → Nest Holding
at_stop n = all_closed tell_nothing n
