pub mod IdleLemmas
pub mod RestedLaw
