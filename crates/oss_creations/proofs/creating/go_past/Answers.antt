use Rattle.std.proofs.lemmas.Result.{on_ok_weaker}
use Rattle.oss_body.specs.Relation.{pending_of}
use Rattle.oss_jobs.specs.Jobs.{body_of}
use Rattle.oss_creations.proofs.MakeLemmas.{creates_goes, past_acted}
use Rattle.oss_creations.proofs.creating.go_past.Goals as goal

pub advance-requires-clause-goes : goal.advance-requires-clause-goes
advance-requires-clause-goes c = creates_goes (pending_of (body_of c.args.job.now)) c.requires.creates

pub returns-clause-acted : goal.returns-clause-acted
returns-clause-acted c = on_ok_weaker c.advance.result (λ advance old k made. past_acted c.args.code.now old c.args.job.now c.advance.new.self k c.args.seat.now.known c.requires.running advance made) c.advance.ensures.ok
