use Rattle.oss_audit.proofs.AuditLemmas.{finished}
use Rattle.oss_audit.proofs.run.audit_from.Goals as goal

pub returns : goal.returns
returns c = finished c.args.code.now c.args.fuel c.follow-end.result c.follow-end.new.stage c.follow-end.new.watch c.told.result c.finish.result c.follow-end.ensures c.told.ensures c.finish.ensures
