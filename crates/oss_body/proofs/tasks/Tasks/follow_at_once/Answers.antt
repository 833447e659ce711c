use Rattle.std.proofs.Common.{refl, ap}
use Rattle.std.specs.Prelude.{not}
use Rattle.oss_model.specs.Bodies.{top_frame}
use Rattle.oss_model.specs.Context.{right_of}
use Rattle.oss_body.specs.declared.tasks.Tasks.{Tasks}
use Rattle.oss_body.specs.Acts.{act_seen, answer_to}
use Rattle.oss_body.specs.Stacks.{is_nil}
use Rattle.oss_body.proofs.BehindLemmas.{light_on}
use Rattle.oss_body.proofs.FollowLemmas.{followed_on}
use Rattle.oss_body.proofs.tasks.Tasks.follow_at_once.Goals as goal

pub returns-clause-following : goal.returns-clause-following
returns-clause-following c = λ next some own.
    let code = c.args.code.now in
    let act = c.args.act.now in
    let old = c.args.self.now in
    let e = c.follow_at_once.ensures in
    let light = e.light next some in
    let included = not (is_nil old.below) in
    record {
      followed = λ s is h.
          let f = top_frame s.base s.inner in
          let top = ap (λ (t : Tasks). t.top) is in
          followed_on code (right_of own) (act_seen act) (answer_to (act_seen act) c.args.loaded) s old c.follow_at_once.new.self next included is c.requires.running (light_on act old.top.place.context (is_nil old.below) light) refl (e.frame next some f top h)
          (e.act next some (right_of own) included f top h);
      passed = e.passed next some;
      child = e.child next some;
      key = e.key next some;
      err = tt;
    }
