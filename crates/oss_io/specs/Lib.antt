pub mod Faults
pub mod Opened
pub mod Plan
pub mod ShelfView
pub mod SinkView
pub mod Spans
