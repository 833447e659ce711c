use Rattle.oss_creations.proofs.LinkLemmas.{linked_one}
use Rattle.oss_creations.proofs.linking.link_and_deliver.Goals as goal

pub returns-clause-linked : goal.returns-clause-linked
returns-clause-linked c = linked_one c.args.entry c.args.info.now c.args.after c.args.seat.now.known c.link.new.seat.known c.deliver_rest.new.seat.known c.link.ensures.linked c.deliver_rest.ensures.work c.deliver_rest.ensures.all
