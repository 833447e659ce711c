use Rattle.std.proofs.Common.{refl, ap, subst, sym}
use Rattle.oss_machine.specs.Machines.{asks}
use Rattle.oss_model.specs.Bodies.{stack_after, stack_from}
use Rattle.oss_model.specs.Context.{right_of}
use Rattle.oss_body.specs.declared.act.Act.{Act}
use Rattle.oss_body.specs.declared.own.Own.{Own}
use Rattle.oss_body.specs.Acts.{HasContext, act_seen, answer_to}
use Rattle.oss_body.specs.Stacks.{IsFollowed}
use Rattle.oss_body.proofs.Advancing.{OwnAfter, advanced}
use Rattle.oss_body.proofs.body.Body.advance_by_draft.Goals as goal

pub returns-clause-ok : goal.returns-clause-ok
returns-clause-ok c = λ start found is.
    let code = c.args.code.now in
    let old = c.args.self.now in
    let running = c.requires.running in
    let stack = stack_from (asks code) start found in
    let tasks = c.follow.new.self in
    let own : OwnAfter old.own (act_seen old.act) c.keep.new.self = record {
      context = ap (λ (o : Own). o.context) c.keep.ensures.rest;
      wait = ap (λ (o : Own). o.wait) c.keep.ensures.rest;
      priority = ap (λ (o : Own). o.priority) c.keep.ensures.rest;
      slots = c.keep.ensures.slots;
    } in
    let next = sym c.replace.ensures.after in
    let followed = subst (λ (a : Act). IsFollowed code (right_of old.own.context) (stack_after (act_seen old.act) (answer_to (act_seen old.act) c.args.loaded) stack.base stack.inner) tasks a) next (c.in_ok-act.ensures.following.followed stack (is.tasks running) (is.child running)) in
    let child = subst (λ (a : Act). HasContext tasks.top.place.context a) next c.in_ok-act.ensures.following.child in
    advanced code start found old (answer_to (act_seen old.act) c.args.loaded) is running _ followed child own refl
