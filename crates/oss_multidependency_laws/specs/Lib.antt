pub mod Claims
pub mod Fitting
pub mod Grouping
pub mod Unrolling
