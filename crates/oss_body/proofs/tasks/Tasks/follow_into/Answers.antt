use Rattle.std.proofs.Common.{◌≡◌, sym, ap, ◌∙◌, subst, [], false}
use Rattle.oss_machine.specs.Asks.{meant_order}
use Rattle.oss_machine.specs.Frames.{CodeScript}
use Rattle.oss_model.specs.Bodies.{Stack}
use Rattle.oss_model.specs.Context.{right_of}
use Rattle.oss_body.specs.declared.act.Act.TheVariants as acts
use Rattle.oss_body.specs.declared.tasks.Tasks.{Tasks}
use Rattle.oss_body.specs.Following.{BehindAnswer, BehindCreation}
use Rattle.oss_body.specs.Stacks.{IsFollowed, rest_of}
use Rattle.oss_body.proofs.FollowLemmas.{following_as, never_alone}
use Rattle.oss_body.proofs.StackLemmas.{includes}
use Rattle.oss_body.proofs.tasks.Tasks.follow_into.Goals as goal

pub returns : goal.returns
returns c =
    let code = c.args.code.now in
    let own = c.args.own.now in
    let creation = c.in-Create.creation in
    let included = c.in-Create.included in
    let o = meant_order creation.order in
    record {
      following = rw c.in-Create.is (following_as (BehindCreation creation) (BehindAnswer (acts.Create creation included) 0) code own c.args.self.now c.include.new.self c.include.new.key c.include.result (λ next s e followed h.
          let none : s.inner ≡ [] → c.args.self.now.below ≡ [] = λ n. ap (λ (t : Tasks). t.below) e ∙ ap (rest_of code s.base) n in
          let never : included ≡ false → s.inner ≡ [] → ⊥ = λ i n. never_alone creation included c.args.self.now.below (rw c.in-Create.is at c.requires.goes_into) i (none n) in
          subst (λ (x : Stack CodeScript). IsFollowed code (right_of own) x c.include.new.self next) (sym (includes o included s never)) (followed h)) (rw c.get.ensures at c.include.ensures.following));
    }
