pub mod Counting
pub mod Tables
pub mod Clauses
pub mod Lines
pub mod Text
