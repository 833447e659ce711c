pub mod PrintedLaw
pub mod TabledLaw
