pub mod ListedLaw
