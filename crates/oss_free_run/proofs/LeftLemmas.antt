-- What is left to do at a stage is what is left of its open tasks.
use Rattle.std.proofs.Common.{◌≡◌, ℕ, refl, sym, ap, ◌∙◌, List, [], ◌∷◌, length, arith}
use Rattle.std.specs.Prelude.{map, reverse, suc}
use Rattle.oss_model.specs.Bodies.{Frame}
use Rattle.oss_model.specs.Potential.{share, share_of, shares, left_of}
use Rattle.oss_model.specs.Termination.{IsLively}
use Rattle.oss_code.specs.declared.code.CodeParts.{CodeParts}
use Rattle.oss_machine.specs.Frames.{CodeScript}
use Rattle.oss_machine.specs.Machines.{asks}
use Rattle.oss_machine.proofs.LiveTheorem.{lively}
use Rattle.oss_freed.proofs.FreedRuns.{freed_is_lively}
use Rattle.oss_free_tasks.specs.OpenTasks.{AreNested, IsNested}
use Rattle.oss_free_run.specs.declared.run.FreeRun.{FreeRun}
use Rattle.oss_free_run.specs.declared.task.FreeTask.{FreeTask}
use Rattle.oss_free_run.specs.FreeTasks.{free_program, seen}
use Rattle.oss_free_run.specs.Stages.{IsStage, run_left, task_left, tasks_left}

module _ (code : CodeParts) where
  -- the free run of the code is as lively as its own
  pub free_lively : IsLively (free_program code)
  free_lively = freed_is_lively CodeScript (asks code) (length code.first) (lively code)

  pub same_length : (fs : List (Frame CodeScript)) → length (map (seen code) fs) ≡ length fs
  same_length [] = refl
  same_length (f ∷ fs) = ap (λ (n : ℕ). suc n) (same_length fs)

  task_share : (fuel : ℕ) (f : Frame CodeScript) (older : List (Frame CodeScript)) → IsNested fuel f older → share free_lively f ≡ task_left code fuel (length older) (seen code f)
  unfolding free_lively freed_is_lively lively share share_of left_of
  task_share fuel f older h = rw (h.fuel_is, h.depth) refl

  open_left : (fuel : ℕ) (fs : List (Frame CodeScript)) → AreNested fuel fs → shares free_lively fs ≡ tasks_left code fuel (map (seen code) fs)
  unfolding shares
  open_left fuel [] h = refl
  open_left fuel (f ∷ fs) h =
      let a = task_share fuel f fs h.0 in
      let b = open_left fuel fs h.1 in
      let c : task_left code fuel (length (map (seen code) fs)) (seen code f) ≡ task_left code fuel (length fs) (seen code f) = ap (λ (n : ℕ). task_left code fuel n (seen code f)) (same_length fs) in
      omega (arith, a, b, c)

  pub left_is : (fuel : ℕ) (r : FreeRun) (s : IsStage code fuel r) → run_left code r ≡ shares free_lively (s.task ∷ s.older)
  left_is fuel r s =
      ap (λ (n : ℕ). tasks_left code n (r.current ∷ reverse r.above)) s.fuel_is
      ∙ ap (λ (k : FreeTask). tasks_left code fuel (k ∷ reverse r.above)) s.current
      ∙ ap (λ (ks : List FreeTask). tasks_left code fuel (seen code s.task ∷ ks)) s.above
      ∙ sym (open_left fuel (s.task ∷ s.older) s.nested)
