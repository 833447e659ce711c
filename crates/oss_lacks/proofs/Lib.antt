pub mod NestLemmas
pub mod KeptLemmas
pub mod DeedLemmas
pub mod NoteLemmas
pub mod WalkLemmas
