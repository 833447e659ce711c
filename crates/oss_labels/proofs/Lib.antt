pub mod BodyCounts
pub mod CreatedLists
pub mod EntryLists
pub mod LabelLemmas
pub mod ListLemmas
pub mod PlainExpressions
pub mod PlainSections
pub mod ProgramEntries
mod Rows
pub mod SearchLemmas
pub mod StatementEntries
pub mod Weights
