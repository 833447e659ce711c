pub mod FewCells
pub mod SpotLemmas
pub mod TargetLemmas
pub mod StmtWeights
pub mod WrittenLemmas
