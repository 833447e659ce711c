pub mod Named
pub mod Chains
pub mod Happenings
pub mod Places
pub mod Tables
pub mod Pass
pub mod Runs
pub mod Claims
