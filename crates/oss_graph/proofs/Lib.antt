mod TurnLemmas
mod FollowLemmas
