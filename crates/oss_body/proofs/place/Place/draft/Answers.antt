use Rattle.oss_body.proofs.Results.{if_ok}
use Rattle.oss_body.proofs.place.Place.draft.Goals as goal

pub returns-in-Create-clause-means : goal.returns-in-Create-clause-means
returns-in-Create-clause-means c = rw c.in-Create.is (if_ok c.creation.result (λ draft means f line k path created. means f line k) (rw c.get.ensures at c.creation.ensures.means))

pub returns-in_default : goal.returns-in_default
returns-in_default c = record {
  means = λ f line k path created. c.draft_at_once.ensures.means c.args.included f line;
  right = c.draft_at_once.ensures.right c.args.self.now.context;
}
