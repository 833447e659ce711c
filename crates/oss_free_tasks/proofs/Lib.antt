pub mod ShareLemmas
pub mod OpenLemmas
pub mod NestLemmas
pub mod DeedLemmas
pub mod FreeTurns
pub mod CountLemmas
