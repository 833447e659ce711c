use Rattle.oss_machine.specs.Activations.{base_in, frame_on}
use Rattle.oss_machine.specs.Slides.{Slides}
use Rattle.oss_machine.proofs.EffectLemmas.{left}
use Rattle.oss_machine.proofs.running.slide.slide.Given as goal

-- silent steps have led here
abbrev pub invariant-loop-outcome : goal.invariant-loop-outcome
invariant-loop-outcome l = Slides l.code (frame_on (base_in l.base) l.fn.frame) (frame_on (base_in l.base) l.frame)

abbrev pub decreases-loop-outcome : goal.decreases-loop-outcome
decreases-loop-outcome l = left l.code (frame_on (base_in l.base) l.frame)
