pub mod ExpressionReading
pub mod Operands
pub mod Sights
pub mod Singles
pub mod TokenValues
pub mod Told
pub mod ToldAt
