pub mod BookLaw
pub mod GrowLaw
pub mod LastLaw
pub mod TaskLaw
