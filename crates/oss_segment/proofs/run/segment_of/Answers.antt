use Rattle.std.proofs.Common.{suc, refl, subst, Bool}
use Rattle.oss_machine.specs.Machines.{asks}
use Rattle.oss_wave_laws.specs.Parts.{stage_after}
use Rattle.oss_body.specs.Left.{body_left}
use Rattle.oss_segment.specs.Segments.{HasStepped, first_of}
use Rattle.oss_segment.proofs.SegmentLemmas.{begins, less_by, stopped}
use Rattle.oss_segment.proofs.run.segment_of.Goals as goal

pub acts-init : goal.acts-init
acts-init c = λ start found is. (0, begins c.args.code.now start found c.args.memory.now c.args.quota c.args.body _ is refl c.new.ensures c.new-2.ensures.items c.new-3.ensures.items refl refl)

-- the body is one of some task, so there is less left to do
pub acts-smaller : goal.acts-smaller
acts-smaller c =
    less_by (body_left c.args.code.now c.step.new.self.body) (body_left c.args.code.now c.acts.segment.body) c.requires.known
    (λ k.
    let h = c.acts.invariant k.0 k.1 k.2 in
    c.in_ok-step.ensures.less k.0 (stage_after (asks c.args.code.now) k.0 (first_of k.1 c.args.memory.now) h.0).found h.1.body c.if-not-branch.false)

pub acts-preserved : goal.acts-preserved
acts-preserved c = λ start found is.
    let h = c.acts.invariant start found is in (
      suc h.0,
      subst (λ (went : Bool). HasStepped went c.args.code.now start found c.args.memory.now c.args.quota c.args.body h.0 c.step.new.self) c.if-not-branch.false
          (c.in_ok-step.ensures.part start found c.args.body h.0 h.1),
    )

-- the part stops
pub returns-then-not-branch : goal.returns-then-not-branch
returns-then-not-branch c = λ start found is.
    let h = c.acts.invariant start found is in
    let r = subst (λ (went : Bool). HasStepped went c.args.code.now start found c.args.memory.now c.args.quota c.args.body h.0 c.step.new.self) c.if-not-branch.true (c.in_ok-step.ensures.part start found c.args.body h.0 h.1) in
    stopped c.args.code.now start found c.args.memory.now c.args.quota c.args.body h.0 c.step.new.self r.0 r.1
