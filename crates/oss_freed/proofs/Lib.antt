pub mod WholeContexts
pub mod FreedBodies
pub mod FreedRuns
