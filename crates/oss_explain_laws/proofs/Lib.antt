pub mod Alike
pub mod MovedEndings
pub mod OneEvent
pub mod OneRelease
pub mod OneReason
pub mod OneEnding
pub mod OneFailure
