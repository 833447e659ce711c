pub mod NumberLemmas
pub mod RangeLemmas
pub mod RowLemmas
pub mod ToldLemmas
