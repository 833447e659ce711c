pub mod Groups
pub mod Edges
pub mod Graphs
