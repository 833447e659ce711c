pub mod LeftLemmas
pub mod WriteLemmas
pub mod MadeLemmas
pub mod SegmentLemmas
pub mod SendLemmas
