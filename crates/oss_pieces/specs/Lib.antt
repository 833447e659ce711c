pub mod Begins
pub mod CellSets
pub mod Rows
pub mod Pieces
pub mod Names
pub mod Claims
pub mod Layouts
pub mod Numbered
