use Rattle.std.proofs.Common.{◌≡◌, ℕ, refl, ap, subst, sym, ◌∙◌, Some, true}
use Rattle.oss_machine.specs.Machines.{asks}
use Rattle.oss_model.specs.Bodies.{stack_after, stack_from}
use Rattle.oss_model.specs.Context.{right_of}
use Rattle.oss_body.specs.declared.act.Act.{Act}
use Rattle.oss_body.specs.Acts.{HasContext, act_seen, answer_to, passed}
use Rattle.oss_body.specs.Stacks.{IsFollowed}
use Rattle.oss_body.proofs.Advancing.{OwnAfter, advanced}
use Rattle.oss_body.proofs.BehindLemmas.{light_slot}
use Rattle.oss_body.proofs.body.Body.advance_at_once.Goals as goal

pub returns-in-Some-clause-went : goal.returns-in-Some-clause-went
returns-in-Some-clause-went c = λ r start found is.
    let code = c.args.code.now in
    let old = c.args.self.now in
    let running = c.requires.running in
    let stack = stack_from (asks code) start found in
    let tasks = c.follow_at_once.new.self in
    let f = c.follow_at_once.ensures.following c.in-Some.act c.in-Some.is old.own.context in
    let light = c.follow_at_once.ensures.light c.in-Some.act c.in-Some.is in
    let own : OwnAfter old.own (act_seen old.act) old.own = record {
      context = refl;
      wait = refl;
      priority = refl;
      slots = λ cell op held e. e ∙ ap (λ (n : ℕ). Some (record { op = op; value = n })) (light_slot old.act _ cell op held light);
    } in
    let next = sym c.replace.ensures.after in
    let followed = subst (λ (a : Act). IsFollowed code (right_of old.own.context) (stack_after (act_seen old.act) (answer_to (act_seen old.act) c.args.loaded) stack.base stack.inner) tasks a) next (f.followed stack (is.tasks running) (is.child running)) in
    let child = subst (λ (a : Act). HasContext tasks.top.place.context a) next f.child in
    advanced code start found old (answer_to (act_seen old.act) c.args.loaded) is running _ followed child own refl

pub invariant_of-self : goal.invariant_of-self
invariant_of-self c =
    let tasks = c.follow_at_once.new.self in
    let f = c.follow_at_once.ensures.following c.in-Some.act c.in-Some.is c.args.self.now.own.context in
    record {
      judged = subst (λ (a : Act). passed a tasks.top.place.context ≡ true) (sym c.replace.ensures.after) f.passed;
      keyed = f.key;
    }
