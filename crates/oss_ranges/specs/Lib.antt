pub mod Cells
pub mod Items
pub mod Places
pub mod Stores
pub mod TreeFalls
pub mod Trees
