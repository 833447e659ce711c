pub mod ExpressionCode
pub mod Lowered
pub mod Programs
pub mod SectionCode
pub mod StatementCode
