use Rattle.oss_audit_laws.proofs.MovedAudits.{audits_alike}
use Rattle.oss_audit_laws.proofs.laws.audits_alike.Goals as goal

pub returns : goal.returns
returns c = audits_alike
