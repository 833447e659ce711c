mod Advancing
mod BehindLemmas
mod DraftLemmas
mod FollowLemmas
mod FrameLemmas
pub mod LeftLemmas
mod Results
mod RushLemmas
pub mod SendLemmas
mod SlotLemmas
mod StackLemmas
