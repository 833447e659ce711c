pub mod Firsts
pub mod ParameterLemmas
pub mod PlaceLemmas
