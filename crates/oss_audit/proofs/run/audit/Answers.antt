use Rattle.oss_audit.proofs.AuditLemmas.{auditing_begins}
use Rattle.oss_audit.proofs.run.audit.Goals as goal

pub audit_from-requires : goal.audit_from-requires
audit_from-requires c = auditing_begins c.args.code.now c.args.fuel c.in-Ok.stage c.in_ok-watch.watch c.in-Ok.ensures.stage c.in-Ok.ensures.setting c.in_ok-watch.ensures.top c.in_ok-watch.ensures.above
