pub mod ListingLemmas
pub mod NameLemmas
pub mod ExprWeights
pub mod FormCases
pub mod OperandLemmas
