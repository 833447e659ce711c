-- From what is made of tasks and of their lines to what is missing of a program.
use Rattle.std.proofs.Common.{◌≡◌, ℕ, sym, subst, ◌∙◌, refl, List, [], ◌∷◌, Bool, Option, Some, None}
use Rattle.oss_syntax.specs.declared.access.Access.{Access}
use Rattle.oss_syntax.specs.declared.tree.program.Item.{Item}
use Rattle.oss_code.specs.declared.code.CodeParts.{CodeParts}
use Rattle.oss_ranges.specs.Cells.{value_at}
use Rattle.oss_needs.specs.declared.lack.Lack.{Lack}
use Rattle.oss_pieces.specs.Layouts.{grids_from}
use Rattle.oss_pieces.specs.Rows.{Grid}
use Rattle.oss_missing_lines.specs.declared.missing.Late.{Late}
use Rattle.oss_missing_lines.specs.declared.missing.TaskMissing.{TaskMissing}
use Rattle.oss_lacks.specs.Asking.{Asking}
use Rattle.oss_lacks.specs.Lacks.{AreTaskLacks, IsLacks, IsTaskLacks}
use Rattle.oss_lacks.specs.Walks.{at_stop}
use Rattle.oss_lacks.specs.declared.lacks.Lacks.{Lacks}
use Rattle.oss_lacks.specs.declared.lacks.TaskLacks.{TaskLacks}
use Rattle.oss_lack_words.specs.Told.{AreLacking, AreWanting}
use Rattle.oss_missing_waits.specs.Holding.{Holding, Told}
use Rattle.oss_missing_waits.specs.Lines.{AreLines, AreTaskLines, AreWaits}
use Rattle.oss_missing_waits.specs.Waits.{mended_in, at_stop as at_second_stop}
use Rattle.oss_missing_waits.specs.declared.waits.TaskWaits.{TaskWaits}
use Rattle.oss_missing.specs.Making.{AreAllMade, AreMade, IsMade, IsMainMade, first_lines, others}
use Rattle.oss_missing.specs.Missing.{AreAllMissing, AreLinesOf, AreTasksMissing, IsMainMissing, IsMissing, IsTaskMissing, first_known, lacks_of}

-- functions that agree are one
ext : {A : Type 0} {f g : ℕ → A} → ((c : ℕ) → f c ≡ g c) → f ≡ g
ext h i c = h c i

-- The lines of the next task, and those behind it.

first_are : (all : List Item) (hs : List (Option Holding)) (lines : List (List Late)) → AreTaskLines all hs lines → AreLinesOf all (first_known hs) (first_lines lines)
first_are all [] [] h = refl
first_are all [] (ls ∷ rest) h = absurd h
first_are all (Some k ∷ hs) [] h = absurd h
first_are all (Some k ∷ hs) (ls ∷ rest) h = h.0
first_are all (None ∷ hs) [] h = absurd h
first_are all (None ∷ hs) (ls ∷ rest) h = absurd h

others_are : (all : List Item) (hs : List (Option Holding)) (lines : List (List Late)) → AreTaskLines all hs lines → AreTaskLines all (others hs) (others lines)
others_are all [] [] h = tt
others_are all [] (ls ∷ rest) h = absurd h
others_are all (Some k ∷ hs) [] h = absurd h
others_are all (Some k ∷ hs) (ls ∷ rest) h = h.1
others_are all (None ∷ hs) [] h = absurd h
others_are all (None ∷ hs) (ls ∷ rest) h = absurd h

-- One task.
task_told : (all : List Item) (grids : List Grid) (t : Asking) (x : TaskLacks) (h : Option Holding) (late : List Late) (k : TaskMissing) → grids ≡ grids_from all 0 → IsTaskLacks t x → AreLinesOf all h late → IsMade grids x late k → IsTaskMissing all t h k
task_told all grids t x h late k laid is lines made =
    let lacks : value_at x.mending.lacks.pieces ≡ lacks_of t = ext is.mending.lacks in
    let wants : AreWanting all (value_at x.mending.lacks.pieces) x.is_final x.clauses k.wants = made.clauses.wants all laid in
    record {
      task = made.clauses.task ∙ is.point;
      line = made.clauses.line ∙ is.line;
      lacks = subst (λ (f : ℕ → Option Lack). AreLacking all f k.lacks) lacks (made.clauses.lacks all laid);
      wants =
          subst (λ (xs : List Access). AreWanting all (lacks_of t) t.final xs k.wants) is.clauses
          (subst (λ (final : Bool). AreWanting all (lacks_of t) final x.clauses k.wants) is.final
          (subst (λ (f : ℕ → Option Lack). AreWanting all f x.is_final x.clauses k.wants) lacks wants));
      lines = subst (λ (ls : List Late). AreLinesOf all h ls) (sym made.lines_are) lines;
    }

-- All tasks.
tasks_told : (all : List Item) (grids : List Grid) (ts : List (Option Asking)) (xs : List TaskLacks) (hs : List (Option Holding)) (lines : List (List Late)) (ks : List TaskMissing) → grids ≡ grids_from all 0
    → AreTaskLacks ts xs → AreTaskLines all hs lines → AreMade grids xs lines ks → AreTasksMissing all ts hs ks
tasks_told all grids [] [] hs lines [] laid a b m = tt
tasks_told all grids [] [] hs lines (k ∷ ks) laid a b m = absurd m
tasks_told all grids [] (x ∷ xs) hs lines ks laid a b m = absurd a
tasks_told all grids (None ∷ ts) [] hs lines ks laid a b m = absurd a
tasks_told all grids (None ∷ ts) (x ∷ xs) hs lines ks laid a b m = absurd a
tasks_told all grids (Some t ∷ ts) [] hs lines ks laid a b m = absurd a
tasks_told all grids (Some t ∷ ts) (x ∷ xs) hs lines [] laid a b m = absurd m
tasks_told all grids (Some t ∷ ts) (x ∷ xs) hs lines (k ∷ ks) laid a b m = (
  task_told all grids t x (first_known hs) (first_lines lines) k laid a.0 (first_are all hs lines b) m.0,
  tasks_told all grids ts xs (others hs) (others lines) ks laid a.1 (others_are all hs lines b) m.1,
)

-- Main.
main_told : (all : List Item) (told : List Told) (late : List Late) (k : TaskMissing) → AreLines all told late → IsMainMade late k → IsMainMissing all told k
main_told all told late k lines made = record {
  task = made.task;
  line = made.line;
  lacks = made.lacks;
  wants = made.wants;
  lines = subst (λ (ls : List Late). AreLines all told ls) (sym made.lines_are) lines;
}

pub is_missing : (code : CodeParts) (fuel : ℕ) (all : List Item) (grids : List Grid) (l : Lacks) (w : TaskWaits) (ks : List TaskMissing) → grids ≡ grids_from all 0 → IsLacks code fuel l
    → ((ended : List (Option Asking)) → AreTaskLacks ended l.tasks → AreWaits code fuel all (mended_in ended) w) → AreAllMade grids l.tasks w ks → IsMissing code fuel all (record { tasks = ks; fault = l.fault })
is_missing code fuel all grids l w ks laid lacks waits made =
    let second = waits (at_stop lacks.nest).ended lacks.tasks in
    record {
      nest = lacks.nest;
      walked = lacks.walked;
      stage = second.stage;
      held = second.nest;
      walks = second.walks;
      end = second.end;
      tasks =
          subst (λ (xs : List TaskMissing). AreAllMissing all (at_stop lacks.nest).ended (at_second_stop second.nest) xs) (sym made.tasks.new_is) (
            main_told all (at_second_stop second.nest).acting.task.told w.main made.main second.main made.main_made,
            tasks_told all grids (at_stop lacks.nest).ended l.tasks (at_second_stop second.nest).ended w.tasks made.tasks.added laid lacks.tasks second.tasks made.tasks.made,
          );
    }
