pub mod WaveRuns
pub mod Readies
pub mod Noting
pub mod Rounding
