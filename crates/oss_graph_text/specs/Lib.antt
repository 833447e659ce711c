pub mod Points
pub mod Labels
pub mod Boxes
pub mod Edges
pub mod Text
pub mod Adding
pub mod Claims
