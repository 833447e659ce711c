use Rattle.oss_body.specs.Relation.{pending_of}
use Rattle.oss_jobs.specs.Jobs.{body_of}
use Rattle.oss_acts.proofs.TouchLemmas.{own_acted}
use Rattle.oss_acts.proofs.WorkLemmas.{own_goes}
use Rattle.oss_acts.proofs.touching.go_alone.Goals as goal

pub advance-requires-clause-goes : goal.advance-requires-clause-goes
advance-requires-clause-goes c = own_goes (pending_of (body_of c.args.job.now)) c.requires.own

pub returns : goal.returns
returns c = record {
  acted = own_acted c.args.code.now c.args.job.now c.requires.works.0 c.args.seat.now.known c.requires.works.1 c.requires.running c.advance.new.self c.requires.own c.in_ok-advance.ensures.ok;
}
