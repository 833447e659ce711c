use Rattle.oss_audit_laws.proofs.OneAudit.{audits_are_one}
use Rattle.oss_audit_laws.specs.contracts.laws.audits_are_one.{S-type}
use Rattle.oss_audit_laws.proofs.laws.audits_are_one.Goals as goal

pub returns : goal.returns
returns g c = audits_are_one (S-type g.row.S)
