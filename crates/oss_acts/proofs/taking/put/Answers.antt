use Rattle.std.proofs.Common.{ap, length}
use Rattle.std.specs.Prelude.{box_value}
use Rattle.oss_field.specs.Known.{Known}
use Rattle.oss_acts.proofs.TakeLemmas.{may_put_back, put_rests}
use Rattle.oss_acts.proofs.taking.put.Goals as goal

pub put_body-requires-clause-may : goal.put_body-requires-clause-may
put_body-requires-clause-may c = may_put_back c.args.field.now.code (box_value c.args.job) c.requires.works.0 c.args.seat.now.known c.requires.works.1

pub returns-clause-rests : goal.returns-clause-rests
returns-clause-rests c = put_rests c.args.field.now.code (box_value c.args.job) (length c.args.field.now.code.first) c.requires.works.0 c.args.seat.now.known c.put_body.new.seat.known c.requires.works.1 c.put_body.ensures.put

pub returns-clause-failed : goal.returns-clause-failed
returns-clause-failed c = ap (λ (z : Known). z.words.failed) c.put_body.ensures.put.known
