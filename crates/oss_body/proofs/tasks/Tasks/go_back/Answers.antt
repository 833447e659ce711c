use Rattle.std.proofs.Common.{◌≡◌, sym, ap, ◌∙◌, subst, [], ◌∷◌, ◌++◌, Ok}
use Rattle.oss_model.specs.Context.{right_of}
use Rattle.oss_body.specs.declared.tasks.Tasks.{Tasks}
use Rattle.oss_body.specs.Following.{BehindEnd, IsFollowing}
use Rattle.oss_body.specs.Places.{Framed}
use Rattle.oss_body.proofs.FollowLemmas.{followed_back, last_split, others_are, popped}
use Rattle.oss_body.proofs.StackLemmas.{tasks_of}
use Rattle.oss_body.proofs.tasks.Tasks.go_back.Goals as goal

pub returns-in-Ok : goal.returns-in-Ok
returns-in-Ok c =
    let code = c.args.code.now in
    let own = c.args.own.now in
    let old = c.args.self.now in
    let k = last_split old.below c.requires.some in
    let exchanged = c.exchange.ensures k.0 k.1.0 k.1.1 in
    let below = popped c.pop-ended.result c.exchange.new.self c.pop-ended.new.self k.0 old.top c.pop-ended.ensures exchanged.0 in
    record {
      following = subst (λ (t : Tasks). IsFollowing BehindEnd code own old t c.next.new.key (Ok c.in-Ok.act)) (λ i. tasks_of c.next.new.self (sym below i) old.ended)
          (record {
            followed = λ s e. followed_back code (right_of own) s old c.next.new.self k.0 k.1.0 c.in-Ok.act _ e c.requires.running k.1.1 (others_are old.below k.0 k.1.0 c.len-included.result k.1.1 c.len-included.ensures)
                (λ g is. (c.in-Ok.ensures.frame g (exchanged.1 ∙ is), c.in-Ok.ensures.act g (exchanged.1 ∙ is)));
            passed = c.in-Ok.ensures.passed;
            child = c.in-Ok.ensures.child;
            key = c.in-Ok.ensures.key;
            err = tt;
          });
    }

pub returns-in-Err : goal.returns-in-Err
returns-in-Err c =
    let old = c.args.self.now in
    let k = last_split old.below c.requires.some in
    let exchanged = c.exchange.ensures k.0 k.1.0 k.1.1 in
    let back = c.exchange-in-Err.ensures k.0 old.top exchanged.0 in
    let below : c.exchange-in-Err.new.self ≡ old.below = back.0 ∙ ap (λ (x : Framed). k.0 ++ x ∷ []) (c.in-Err.ensures.err ∙ exchanged.1) ∙ sym k.1.1 in
    record { following = record { followed = tt; passed = tt; child = tt; key = tt; err = λ i. tasks_of (back.1 i) (below i) old.ended } }
