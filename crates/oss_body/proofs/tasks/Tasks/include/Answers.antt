use Rattle.std.proofs.Common.{sym, ap, subst, Ok}
use Rattle.oss_machine.specs.Asks.{meant_order}
use Rattle.oss_model.specs.Bodies.{child_frame, top_frame}
use Rattle.oss_model.specs.Context.{right_of}
use Rattle.oss_body.specs.declared.tasks.Tasks.{Tasks}
use Rattle.oss_body.specs.Following.{BehindCreation, IsFollowing}
use Rattle.oss_body.proofs.FollowLemmas.{followed_included, popped}
use Rattle.oss_body.proofs.StackLemmas.{tasks_of}
use Rattle.oss_body.proofs.tasks.Tasks.include.Goals as goal

pub returns-in-Ok-include : goal.returns-in-Ok-include
returns-in-Ok-include c =
    let code = c.args.code.now in
    let own = c.args.own.now in
    let old = c.args.self.now in
    let creation = c.args.creation.now in
    let o = meant_order creation.order in
    let exchanged = c.exchange.ensures old.below c.next.new.self c.in-Ok.ensures.ok in
    record {
      following = subst (λ (t : Tasks). IsFollowing (BehindCreation creation) code own old t c.next.new.key (Ok c.in_ok-act.act)) (λ i. tasks_of (sym exchanged.1 i) (sym exchanged.0 i) old.ended)
          (record {
            followed = λ s e h.
                let f = top_frame s.base s.inner in
                let top = ap (λ (t : Tasks). t.top) e in
                let child = c.in_ok-child.ensures f top h in
                followed_included code (right_of own) o s old c.next.new.self c.include.new.self c.in_ok-act.act e c.requires.running (c.in_ok-act.ensures.frame (child_frame f o) child) (c.in-Ok-include.ensures.ok f top h) (c.in_ok-act.ensures.act (child_frame f o) child);
            passed = c.in_ok-act.ensures.passed;
            child = c.in_ok-act.ensures.child;
            key = c.in_ok-act.ensures.key;
            err = tt;
          });
    }

pub returns-in-Err-include : goal.returns-in-Err-include
returns-in-Err-include c =
    let below = popped c.pop-child.result c.push.new.self c.pop-child.new.self c.args.self.now.below c.next.new.self c.pop-child.ensures c.in-Ok.ensures.ok in
    record { following = record { followed = tt; passed = tt; child = tt; key = tt; err = λ i. tasks_of (c.in-Err-include.ensures.err i) (below i) c.args.self.now.ended } }
