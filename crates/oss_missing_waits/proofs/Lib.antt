pub mod WithinLemmas
pub mod UsingLemmas
pub mod ToldLemmas
pub mod EndLemmas
pub mod FollowLemmas
pub mod WalkLemmas
