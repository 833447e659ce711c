pub mod Making
pub mod Missing
