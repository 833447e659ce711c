use Rattle.std.proofs.Common.{◌≡◌, ℕ, Some}
use Rattle.std.specs.Prelude.{◌||◌, ◌==◌, slice_get}
use Rattle.oss_deps.specs.declared.frame.Frame.{Frame}
use Rattle.oss_deps.specs.Kept.{given_by}
use Rattle.oss_deps.specs.Places.{AreMarked}
use Rattle.oss_deps.proofs.CloseLemmas.{IsDoneNow, done_left}
use Rattle.oss_deps.proofs.closing.give_at.Given as goal

-- all is noted but that this access is done
abbrev pub invariant-levels : goal.invariant-levels
invariant-levels l = record {
  marked : AreMarked l.frames l.marks l.done;
  here : IsDoneNow l.frames l.marks l.done;
  given : (f : Frame) (t : ℕ) → slice_get l.frames l.at ≡ Some f → given_by l.frames l.marks t ≡ (given_by l.frames l.fn.marks t || (f.task == t));
}

abbrev pub decreases-levels : goal.decreases-levels
decreases-levels l = done_left l.done
