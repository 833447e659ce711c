pub mod News
pub mod Touching
pub mod Working
