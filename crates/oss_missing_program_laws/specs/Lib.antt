pub mod Asks
pub mod Cells
pub mod Exact
pub mod Once
