pub mod ByteLemmas
pub mod CutLemmas
pub mod LineLemmas
pub mod MoveLemmas
pub mod NumberLemmas
pub mod OneReading
pub mod TraceLemmas
pub mod Walk
