pub mod FormLemmas
pub mod FrontLemmas
pub mod RowTrees
mod Rows
mod TaskRows
mod ValueRows
