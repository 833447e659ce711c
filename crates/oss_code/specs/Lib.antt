pub mod Compacts
pub mod Globals
pub mod Rooms
pub mod Shapes
pub mod Soundness
