pub mod ToldLaw
