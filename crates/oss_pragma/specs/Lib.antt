pub mod Known
pub mod PragmaReading
