pub mod MovedAudits
pub mod OneAudit
