-- What an act of one task leaves as it was.
use Rattle.std.proofs.Common.{◌≡◌, ℕ, ◌<◌, sym, ap, ◌∙◌, arith, List, [], ◌∷◌, length, Some}
use Rattle.std.specs.Prelude.{slice_get}
use Rattle.std.proofs.lemmas.List.{append-nil}
use Rattle.oss_code.specs.declared.code.CodeParts.{CodeParts}
use Rattle.oss_body.specs.Relation.{has_wait, is_over}
use Rattle.oss_kept_tasks.specs.declared.held.Held.{Held}
use Rattle.oss_tree.specs.declared.task.Task.{Task as TreeTask}
use Rattle.oss_tree.specs.Tasks.{grown, HasPoint}
use Rattle.oss_tree.proofs.ListLemmas.{there_is}
use Rattle.oss_core.specs.Acting.{HasActedAlone}
use Rattle.oss_core.specs.Changes.{noted, noted_new}
use Rattle.oss_core.specs.Going.{HasCreated, HasStepped}
use Rattle.oss_core.specs.Kept.{Kept}
use Rattle.oss_core.specs.Turns.{KeepsPoints, KeepsTasks}
use Rattle.oss_core.proofs.LeavingLemmas.{grown_other, new_other, noted_other}
use Rattle.oss_core.proofs.PutFacts.{point_grown, point_new, point_noted}
use Rattle.oss_core.proofs.WavingLemmas.{points_more}

keeps : (old new : List TreeTask) → KeepsPoints old new → KeepsTasks old new
keeps old new points = record { points = points; more = points_more old new points }

pub stepped_alone : (code : CodeParts) (v : ℕ) (old new : Kept) → HasStepped code v old new → HasActedAlone v old new
stepped_alone code v old new (act, x) = record {
  held = λ w l n. x.changed_is.others w n;
  tree = λ w l n. ap (λ (ts : List TreeTask). slice_get ts w) x.tasks ∙ noted_other old.tree.tasks v w (is_over x.after.body) n;
  opened = [];
  opens = x.seen.opens ∙ sym (append-nil old.seen.opens);
  given = x.seen.given;
  keeps = keeps old.tree.tasks new.tree.tasks (λ w q h. rw x.tasks (point_noted old.tree.tasks v w q (is_over x.after.body) h));
}

pub created_alone : (code : CodeParts) (v : ℕ) (old new : Kept) → length old.tree.tasks ≡ length old.tasks → HasCreated code v old new → HasActedAlone v old new
created_alone code v old new sizes (act, x) = record {
  held = λ w l n. x.grown_is.others w n (λ e. absurd (omega (arith, l, e)));
  tree = λ w l n. ap (λ (ts : List TreeTask). slice_get ts w) x.tasks ∙ tree w l n;
  opened = record { task = length old.tasks; parent = v; accesses = x.accesses } ∷ [];
  opens = x.seen.opens;
  given = x.seen.given;
  keeps = keeps old.tree.tasks new.tree.tasks
      (λ w q h. rw x.tasks (point_new (grown old.tree.tasks v (has_wait x.child.body)) (length old.tree.tasks) w q x.accesses (point_grown old.tree.tasks v w q (has_wait x.child.body) h)));
}
  where
    tree : (w : ℕ) (l : w < length old.tree.tasks) → (w ≡ v → ⊥) → slice_get (noted_new x.accesses (length old.tree.tasks) (grown old.tree.tasks v (has_wait x.child.body))) w ≡ slice_get old.tree.tasks w
    tree w l n =
        let b = there_is old.tree.tasks w l in
        new_other x.accesses (grown old.tree.tasks v (has_wait x.child.body)) (length old.tree.tasks) w (λ e. absurd (omega (arith, l, e)))
        ∙ grown_other old.tree.tasks v w (has_wait x.child.body) b.0 n b.1
        ∙ sym b.1
