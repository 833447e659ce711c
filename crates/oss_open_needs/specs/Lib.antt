pub mod Opening
pub mod Stacks
