pub mod Accesses
pub mod Creating
pub mod Keeping
