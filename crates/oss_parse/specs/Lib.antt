pub mod Assignments
pub mod Branches
pub mod ForRests
pub mod Inner
pub mod Parsed
pub mod ProgramReading
pub mod SimpleReading
pub mod StatementReading
