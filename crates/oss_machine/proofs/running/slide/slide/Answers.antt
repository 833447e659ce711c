use Rattle.std.proofs.Common.{◌≡◌, refl}
use Rattle.oss_machine.specs.Activations.{base_in, frame_on}
use Rattle.oss_machine.specs.declared.outcome.Outcome.TheVariants as outcome
use Rattle.oss_machine.specs.Slides.{acted_at}
use Rattle.oss_machine.specs.Slides.Slides.{stays, goes}
use Rattle.oss_machine.proofs.SlideLemmas.{goes_less, stopped}
use Rattle.oss_machine.proofs.running.slide.slide.Goals as goal

pub loop-outcome-init : goal.loop-outcome-init
loop-outcome-init c = stays refl

pub loop-outcome-smaller : goal.loop-outcome-smaller
loop-outcome-smaller c =
    let code = c.args.code.now in
    let here = frame_on (base_in c.args.base.now) c.loop-outcome.frame in
    let next = frame_on (base_in c.args.base.now) c.act_here.new.frame in
    let went : acted_at code here ≡ (next, outcome.On) = rw c.in-On.is at c.in_ok-outcome.ensures in
    goes_less code here next went

pub loop-outcome-preserved : goal.loop-outcome-preserved
loop-outcome-preserved c =
    let code = c.args.code.now in
    let here = frame_on (base_in c.args.base.now) c.loop-outcome.frame in
    let next = frame_on (base_in c.args.base.now) c.act_here.new.frame in
    let went : acted_at code here ≡ (next, outcome.On) = rw c.in-On.is at c.in_ok-outcome.ensures in
    goes here c.loop-outcome.invariant went

pub returns-in_default : goal.returns-in_default
returns-in_default c =
    let code = c.args.code.now in
    let here = frame_on (base_in c.args.base.now) c.loop-outcome.frame in
    let next = frame_on (base_in c.args.base.now) c.act_here.new.frame in
    let there = stopped code (frame_on (base_in c.args.base.now) c.args.frame.now) here next c.in_ok-outcome.outcome c.loop-outcome.invariant c.in_ok-outcome.ensures c.in_default.not-On in
    record { slides = there.slides; told = there.told }
